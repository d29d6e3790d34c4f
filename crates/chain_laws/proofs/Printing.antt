-- Parts of a run, joined in whatever groups, and what is printed of them.
use Rattle.lemmas.proofs.{Result, Ok, Err, ◌≡◌, ◌≤◌, ◌<◌, ◌+◌, ◌-◌, inl, inr, ℕ, zero, suc, Bool, true, false, ◌&&◌, cond, List, [], ◌∷◌, ◌++◌, length, map, take, drop, nat_lt, Option, None, Some, refl, sym, ap, ap₂, ◌∙◌, subst, arith, append_assoc, append-nil, MatchOption, MatchResult, slice_get, slice_range, All-from_recursion, AllByRecursion, le-ltb, le-leb, length-map, ltb-false, MatchBool, range_length, recursion_from_All}
use Rattle.rdf_values.specs.{Column, fn_names, Function, graph_cause_line, GraphCause, long_table_line, MarkedTable, Script, Span, table_cause_line, table_of, TableCause, Value, verdict}
use Rattle.table_csv.specs.{csv_records}
use Rattle.shard_runs.specs.{IsChecked}
use Rattle.graph_shapes.specs.{graph_shapes, pass_kind}
use Rattle.input_files.specs.{due_of, HoldsTheTable, max_table, WithFile}
use Rattle.chain_files.specs.{AreNext, digest_of, end_file_of, first_differing, first_file_of, first_misshapen, first_uncovered, holds, in_order, IsPart, IsPartText, joined_parts, not_behind, part_text, PartView, placed}
use Rattle.chain_files.proofs.Covered.{covered_are_next}
use Rattle.chain_files.proofs.OnePart.{a_text_is_of_one_part}
use Rattle.chain_runs.specs.{AreChecked, AreFiles, Chain, chain_part, part_over, tables_in, with_rows}
use Rattle.chain_runs.proofs.Groups.{only_files_are_refused, parts_join_to_one_run, dropped, taken}
use Rattle.chain_runs.proofs.Joining.{all_files_are_the_chain}
use Rattle.chain_runs.proofs.Parts.{chains_are_part}
use Rattle.chain_transcripts.proofs.WholeText.{chain_prints_the_transcript}
use Rattle.chain_due.specs.{chain_of, ChainDue, ChainStatus, differs_line, file_refused_line, Files, graph_over, IsEachPrinted, IsJoined, IsPrintDue, IsText, long_files_line, long_part_line, max_part, max_parts, name_at, printed_over, printed_status, ReadsPart, statuses, table_line, uncovered_line, WithAccepted, WithFitting, WithParts, WithTable, WithTableFile}
use Rattle.chain_due.specs.declared.status.ChainStatus.TheVariants.{Done, FileRefused, FilesDiffer, NotCovered, ScriptRefused, TableRefused, TooLong}
use Rattle.chain_laws.specs.{HoldTexts, IsJoinOf, IsMapped, IsPartOf, PrintIsDueTheTranscript, tables_of}

-- ---- stages that go on

none_is : {A : Type 0} (o : Option A) (P : Type 0) (Q : A → Type 0) → ((x : A) → Q x → ⊥) → MatchOption o P Q → (o ≡ None) × P
none_is None P Q wrong h = (refl, h)
none_is (Some x) P Q wrong h = absurd (wrong x h)

none_goes : {A : Type 0} (o : Option A) (P : Type 0) (Q : A → Type 0) → o ≡ None → P → MatchOption o P Q
none_goes None P Q e p = p
none_goes (Some x) P Q e p = absurd (cc e)

false_is : (b : Bool) (P Q : Type 0) → (P → ⊥) → MatchBool b P Q → (b ≡ false) × Q
false_is true P Q wrong h = absurd (wrong h)
false_is false P Q wrong h = (refl, h)

false_goes : (b : Bool) (P Q : Type 0) → b ≡ false → Q → MatchBool b P Q
false_goes true P Q e q = absurd (cc e)
false_goes false P Q e q = q

-- what is done has no other status
not_done : (status : ChainStatus) (bytes line : List ℕ) → (Done ≡ status → ⊥) → due_of Done bytes ≡ due_of status line → ⊥
not_done status bytes line wrong h = wrong (ap (λ (d : ChainDue). d.status) h)

done_text : (text bytes : List ℕ) → IsText Done text (due_of Done bytes) → (nat_lt max_part (length text) ≡ false) × (text ≡ bytes)
done_text text bytes h =
    let r = false_is (nat_lt max_part (length text)) (due_of Done bytes ≡ due_of TooLong long_part_line) (due_of Done bytes ≡ due_of Done text) (not_done TooLong bytes long_part_line (λ e. absurd (cc e))) h in
    (r.0, sym (ap (λ (d : ChainDue). d.bytes) r.1))

-- behind a table that is held
table_is_there : (files : Files) (name : List ℕ) (t : MarkedTable) (Next : MarkedTable → ChainDue → Type 0) (d : ChainDue) → HoldsTheTable t (files name) → WithTableFile files name Next d → Next t d
table_is_there files name t Next d h due = go (files name) h due
  where
    text : (b : Bool) (r : Result MarkedTable TableCause) → b ≡ false → r ≡ Ok t
        → MatchBool b (d ≡ due_of TableRefused (table_line name long_table_line)) (MatchResult r (λ u. Next u d) (λ cause. d ≡ due_of TableRefused (table_line name (table_cause_line cause)))) → Next t d
    text true r e is k = absurd (cc e)
    text false (Ok u) e is k = (let same : u ≡ t = cc is in subst (λ x. Next x d) same k)
    text false (Err cause) e is k = absurd (cc is)

    go : (file : Option (List ℕ)) → HoldsTheTable t file → WithFile statuses name file (λ bytes e. WithTable name bytes Next e) d → Next t d
    go None k g = absurd k
    go (Some bytes) k g = text (nat_lt max_table (length bytes)) (table_of (csv_records bytes)) (le-ltb max_table (length bytes) k.0) k.1 g

-- ---- lists

one_there : (f : MarkedTable → List (List Value)) (ts : List MarkedTable) (k : ℕ) (t : MarkedTable) → slice_get ts k ≡ Some t → (take 1 (drop k (map f ts)) ≡ f t ∷ []) × (k < length ts)
one_there f [] k t h = absurd (cc h)
one_there f (u ∷ ts) zero t h = (let same : u ≡ t = cc h in (ap (λ x. f x ∷ []) same, omega arith))
one_there f (u ∷ ts) (suc k) t h =
    let rest = one_there f ts k t h in
    let less = rest.1 in
    (rest.0, omega (arith, less))

module _ (P : PartView → Type 0) where
  placed_all : (s : PartView) (ts : List PartView) → P s → AllByRecursion P ts → AllByRecursion P (placed s ts)
  placed_all s [] p h = (p, tt)
  placed_all s (t ∷ ts) p h = go (not_behind s t) (placed_all s ts p h.1)
    where
      go : (b : Bool) → AllByRecursion P (placed s ts) → AllByRecursion P (cond b (s ∷ t ∷ ts) (t ∷ placed s ts))
      go true k = (p, h)
      go false k = (h.0, k)

  all_in_order : (ss : List PartView) → AllByRecursion P ss → AllByRecursion P (in_order ss)
  all_in_order [] h = tt
  all_in_order (s ∷ ss) h = placed_all s (in_order ss) h.0 (all_in_order ss h.1)

-- ---- numbers

not_longer : (n : ℕ) → nat_lt max_part n ≡ false → nat_lt max_parts (0 + n) ≡ false
not_longer n h = (let few = ltb-false max_part n h in le-ltb max_parts (0 + n) (omega (arith, few)))

-- ---- parts of a run

module _ (fns : List Function) (bytes : List ℕ) (script : Script) (columns : List Column) (tables : List MarkedTable) (files : Files) (checked : AreChecked script (chain_of fns columns tables)) (many : length tables ≤ 16777216) where
  abbrev c : Chain
  c = chain_of fns columns tables

  abbrev part_of : Span → PartView
  part_of s = part_over bytes script c s

  same_number : length c.tables ≡ length tables
  same_number = length-map tables (λ (t : MarkedTable). t.table.rows)

  -- the text of what was found in some of the tables
  record IsSpanText (s : Span) (content : List ℕ) : Type 0 where
    its : AreFiles c s
    text : part_text (part_of s) ≡ content
    short : nat_lt max_part (length content) ≡ false

  some_checked : (lo hi : ℕ) → AreChecked script (tables_in c lo hi)
  some_checked lo hi =
      All-from_recursion (λ rows. IsChecked script (with_rows c rows)) (slice_range c.tables lo hi)
      (taken (λ rows. IsChecked script (with_rows c rows)) (hi - lo) (drop lo c.tables) (dropped (λ rows. IsChecked script (with_rows c rows)) lo c.tables (recursion_from_All (λ rows. IsChecked script (with_rows c rows)) c.tables checked)))

  long : (s : Span) → AreFiles c s → length (slice_range c.tables s.lo s.hi) ≡ s.hi - s.lo
  long s h = (let lt = h.0 in range_length c.tables s.lo s.hi (omega (arith, lt)) h.1)

  valid : (s : Span) → AreFiles c s → IsPart (part_of s)
  valid s h =
      let lt = h.0 in
      let top = h.1 in
      let size = long s h in
      chains_are_part bytes script (tables_in c s.lo s.hi) s.lo (some_checked s.lo s.hi) (omega (arith, lt, size)) (omega (arith, lt, top, size, same_number, many))

  -- ---- one table

  mapped_text : (s : Span) (content : List ℕ) → IsMapped fns bytes script columns tables files s.lo content → s.hi ≡ s.lo + 1 → IsSpanText s content
  mapped_text s content m next =
      let there = one_there (λ (t : MarkedTable). t.table.rows) tables s.lo m.table m.its in
      let below = there.1 in
      let one : s.hi - s.lo ≡ 1 = omega (arith, next) in
      let its_rows : slice_range c.tables s.lo s.hi ≡ m.table.table.rows ∷ [] = ap (λ n. take n (drop s.lo c.tables)) one ∙ there.0 in
      let own : PartView = chain_part bytes script (chain_of fns m.table.table.columns (m.table ∷ [])) s.lo in
      let same : own ≡ part_of s = ap₂ (λ cols ts. chain_part bytes script (record { fns = fns; columns = cols; tables = ts }) s.lo) m.header (sym its_rows) in
      let due = table_is_there files m.name m.table (λ t d. WithAccepted fns script t.table.columns (λ e. IsText Done (part_text (chain_part bytes script (chain_of fns t.table.columns (t ∷ [])) s.lo)) e) d) (due_of Done content) m.held m.due in
      let accepted = none_is (verdict (fn_names fns) m.table.table.columns script) (IsText Done (part_text own) (due_of Done content)) (λ (refused : ℕ × GraphCause). due_of Done content ≡ due_of ScriptRefused (graph_cause_line refused.0 refused.1))
      (λ refused e. not_done ScriptRefused content (graph_cause_line refused.0 refused.1) (λ q. absurd (cc q)) e) due in
      let found = done_text (part_text own) content accepted.1 in
      record {
        its = (omega (arith, next), omega (arith, next, below, same_number));
        text = ap part_text (sym same) ∙ found.1;
        short = subst (λ x. nat_lt max_part (length x) ≡ false) found.1 found.0;
      }

  -- ---- reading parts

  held_as : (P Q : Span → List ℕ → Type 0) → ((s : Span) (text : List ℕ) → P s text → Q s text) → (names : List (List ℕ)) (groups : List Span) → HoldTexts fns bytes script columns tables files P names groups → HoldTexts fns bytes script columns tables files Q names groups
  held_as P Q f [] [] h = tt
  held_as P Q f [] (s ∷ groups) h = absurd h
  held_as P Q f (name ∷ names) [] h = absurd h
  held_as P Q f (name ∷ names) (s ∷ groups) h = (go (files name) h.0, held_as P Q f names groups h.1)
    where
      go : (o : Option (List ℕ)) → MatchOption o ⊥ (P s) → MatchOption o ⊥ (Q s)
      go None k = k
      go (Some text) k = f s text k

  all_files : (names : List (List ℕ)) (groups : List Span) → HoldTexts fns bytes script columns tables files IsSpanText names groups → AllByRecursion (AreFiles c) groups
  all_files [] [] h = tt
  all_files [] (s ∷ groups) h = absurd h
  all_files (name ∷ names) [] h = absurd h
  all_files (name ∷ names) (s ∷ groups) h = (go (files name) h.0, all_files names groups h.1)
    where
      go : (o : Option (List ℕ)) → MatchOption o ⊥ (IsSpanText s) → AreFiles c s
      go None k = absurd k
      go (Some text) k = k.its

  are_read : (names : List (List ℕ)) (groups : List Span) (before : ℕ) (found : List PartView) (Next : List PartView → ChainDue → Type 0) (content : List ℕ)
      → HoldTexts fns bytes script columns tables files IsSpanText names groups → WithParts files before found names Next (due_of Done content) → Next (found ++ map part_of groups) (due_of Done content)
  are_read [] [] before found Next content h due = subst (λ (all : List PartView). Next all (due_of Done content)) (sym (append-nil found)) due
  are_read [] (s ∷ groups) before found Next content h due = absurd h
  are_read (name ∷ names) [] before found Next content h due = absurd h
  are_read (name ∷ names) (s ∷ groups) before found Next content h due =
      by_file (files name) h.0 (λ n rest. subst (λ (all : List PartView). Next all (due_of Done content)) (append_assoc found (part_of s ∷ []) (map part_of groups)) (are_read names groups n (found ++ part_of s ∷ []) Next content h.1 rest)) due
    where
      by_part : (b : List ℕ) → IsSpanText s b → ((n : ℕ) → WithParts files n (found ++ part_of s ∷ []) names Next (due_of Done content) → Next (found ++ part_of s ∷ map part_of groups) (due_of Done content)) → ReadsPart name b (λ x e. WithParts files (before + length b) (found ++ x ∷ []) names Next e) (due_of Done content) → Next (found ++ part_of s ∷ map part_of groups) (due_of Done content)
      by_part b k rest (inl r) = absurd (not_done FileRefused content (file_refused_line name r.0) (λ e. absurd (cc e)) r.2)
      by_part b k rest (inr r) =
          let same : r.0 ≡ part_of s = a_text_is_of_one_part r.0 (part_of s) r.1.valid (valid s k.its) (r.1.text ∙ sym k.text) in
          rest (before + length b) (subst (λ (x : PartView). WithParts files (before + length b) (found ++ x ∷ []) names Next (due_of Done content)) same r.2)

      by_file : (o : Option (List ℕ)) → MatchOption o ⊥ (IsSpanText s) → ((n : ℕ) → WithParts files n (found ++ part_of s ∷ []) names Next (due_of Done content) → Next (found ++ part_of s ∷ map part_of groups) (due_of Done content))
          → WithFile statuses name o (λ b d. MatchBool (nat_lt max_parts (before + length b)) (d ≡ due_of TooLong long_files_line) (ReadsPart name b (λ x e. WithParts files (before + length b) (found ++ x ∷ []) names Next e) d)) (due_of Done content)
          → Next (found ++ part_of s ∷ map part_of groups) (due_of Done content)
      by_file None k rest w = absurd k
      by_file (Some b) k rest w =
          by_part b k rest
          (false_is (nat_lt max_parts (before + length b)) (due_of Done content ≡ due_of TooLong long_files_line) (ReadsPart name b (λ x e. WithParts files (before + length b) (found ++ x ∷ []) names Next e) (due_of Done content))
          (not_done TooLong content long_files_line (λ e. absurd (cc e))) w).1

  they_fit : (names : List (List ℕ)) (parts : List PartView) (content : List ℕ) (Next : ChainDue → Type 0) → WithFitting fns bytes script names parts Next (due_of Done content) → Next (due_of Done content)
  they_fit names [] content Next h = absurd h
  they_fit names (first ∷ others) content Next h =
      let due : ChainDue = due_of Done content in
      let Shaped : Type 0 = MatchOption (first_misshapen (graph_shapes (graph_over fns script first.columns)) (first ∷ others)) (Next due) (λ place. due ≡ due_of FilesDiffer (differs_line (name_at names place))) in
      let alike = none_is (first_differing (digest_of bytes) (first ∷ others))
      (WithAccepted fns script first.columns (λ d. MatchOption (first_misshapen (graph_shapes (graph_over fns script first.columns)) (first ∷ others)) (Next d) (λ place. d ≡ due_of FilesDiffer (differs_line (name_at names place)))) due)
      (λ place. due ≡ due_of FilesDiffer (differs_line (name_at names place))) (λ place e. not_done FilesDiffer content (differs_line (name_at names place)) (λ q. absurd (cc q)) e) h in
      let accepted = none_is (verdict (fn_names fns) first.columns script) Shaped (λ (refused : ℕ × GraphCause). due ≡ due_of ScriptRefused (graph_cause_line refused.0 refused.1))
      (λ refused e. not_done ScriptRefused content (graph_cause_line refused.0 refused.1) (λ q. absurd (cc q)) e) alike.1 in
      (none_is (first_misshapen (graph_shapes (graph_over fns script first.columns)) (first ∷ others)) (Next due) (λ place. due ≡ due_of FilesDiffer (differs_line (name_at names place)))
      (λ place e. not_done FilesDiffer content (differs_line (name_at names place)) (λ q. absurd (cc q)) e) accepted.1).1

  -- ---- joined parts

  abbrev IsWithin : PartView → Type 0
  IsWithin s = (s.first_file < s.end_file) × (s.end_file ≤ length c.tables)

  all_within : (groups : List Span) → AllByRecursion (AreFiles c) groups → AllByRecursion IsWithin (map part_of groups)
  all_within [] h = tt
  all_within (s ∷ groups) h = (one h.0, all_within groups h.1)
    where
      one : AreFiles c s → IsWithin (part_of s)
      one k =
          let lt = k.0 in
          let top = k.1 in
          let size = long s k in
          (omega (arith, lt, size), omega (arith, lt, top, size))

  ends : (s : PartView) (ss : List PartView) → AllByRecursion IsWithin (s ∷ ss) → AreNext (s ∷ ss) → (s.first_file < end_file_of (s ∷ ss)) × (end_file_of (s ∷ ss) ≤ length c.tables)
  ends s [] h next = h.0
  ends s (t ∷ ts) h next =
      let rest = ends t ts h.1 next.1 in
      let lt = h.0.0 in
      let meet = next.0 in
      let more = rest.0 in
      (omega (arith, lt, meet, more), rest.1)

  joined_text : (groups : List Span) (content : List ℕ) → AllByRecursion (AreFiles c) groups → IsJoined fns script (in_order (map part_of groups)) (due_of Done content) → IsSpanText (tables_of fns bytes script columns tables files groups) content
  joined_text groups content each h = go (in_order (map part_of groups)) refl (all_in_order IsWithin (map part_of groups) (all_within groups each)) h
    where
      go : (sorted : List PartView) → in_order (map part_of groups) ≡ sorted → AllByRecursion IsWithin sorted → IsJoined fns script sorted (due_of Done content) → IsSpanText (record { lo = first_file_of sorted; hi = end_file_of sorted }) content
      go [] e w k = absurd k
      go (first ∷ others) e w k =
          let due : ChainDue = due_of Done content in
          let whole : PartView = joined_parts (graph_shapes (graph_over fns script first.columns)) first others in
          let covered = none_is (first_uncovered (first ∷ others)) (IsText Done (part_text whole) due) (λ file. due ≡ due_of NotCovered (uncovered_line file)) (λ file q. not_done NotCovered content (uncovered_line file) (λ r. absurd (cc r)) q) k in
          let found = done_text (part_text whole) content covered.1 in
          let one = parts_join_to_one_run bytes script c groups (pass_kind (graph_over fns script first.columns)) first others (All-from_recursion (AreFiles c) groups each) e covered.0 in
          record {
            its = ends first others w (covered_are_next (first ∷ others) covered.0);
            text = ap part_text (sym one) ∙ found.1;
            short = subst (λ x. nat_lt max_part (length x) ≡ false) found.1 found.0;
          }

  join_text : (s : Span) (content : List ℕ) → IsJoinOf fns bytes script columns tables files IsSpanText s content → IsSpanText s content
  join_text s content j =
      let parts = are_read j.names j.groups 0 [] (λ ss d. WithFitting fns bytes script j.names ss (λ e. IsJoined fns script (in_order ss) e) d) content j.held j.due in
      let joined = they_fit j.names (map part_of j.groups) content (λ e. IsJoined fns script (in_order (map part_of j.groups)) e) parts in
      subst (λ x. IsSpanText x content) (sym j.all) (joined_text j.groups content (all_files j.names j.groups j.held) joined)

  is_part : (joins : ℕ) (s : Span) (content : List ℕ) → IsPartOf fns bytes script columns tables files joins s content → IsSpanText s content
  is_part zero s content h = mapped_text s content h.0 h.1
  is_part (suc joins) s content h = go (is_part joins) h
    where
      go : ((x : Span) (text : List ℕ) → IsPartOf fns bytes script columns tables files joins x text → IsSpanText x text) → IsPartOf fns bytes script columns tables files (suc joins) s content → IsSpanText s content
      go f (inl k) = f s content k
      go f (inr j) = join_text s content (record { names = j.names; groups = j.groups; held = held_as (IsPartOf fns bytes script columns tables files joins) IsSpanText f j.names j.groups j.held; all = j.all; due = j.due })

  -- ---- printing

  abbrev all_tables : Span
  all_tables = record { lo = 0; hi = length tables }

  abbrev whole : PartView
  whole = chain_part bytes script c 0

  is_whole : part_of all_tables ≡ whole
  is_whole = ap (λ n. part_of (record { lo = 0; hi = n })) (sym same_number) ∙ all_files_are_the_chain bytes script c

  holds_all : (g : ℕ) → holds g whole ≡ nat_lt g (length tables)
  holds_all g =
      let end : 0 + length c.tables ≡ length tables = omega (arith, same_number) in
      ap₂ (λ a n. a && nat_lt g n) (le-leb 0 g (omega arith)) end

  print_due : (accepted : verdict (fn_names fns) columns script ≡ None) (name content : List ℕ) (d : ChainDue) → files name ≡ Some content → IsSpanText all_tables content
      → IsText (printed_status (printed_over fns script columns tables).status) (printed_over fns script columns tables).bytes d → IsPrintDue fns bytes script (length tables) name files d
  print_due accepted name content d at k h =
      let text : IsPartText content whole = record { text = ap part_text (sym is_whole) ∙ k.text; valid = subst IsPart is_whole (valid all_tables k.its) } in
      let refused = only_files_are_refused bytes script c (all_tables ∷ []) checked (All-from_recursion (AreFiles c) (all_tables ∷ []) (k.its, tt)) in
      let alike : first_differing (digest_of bytes) (whole ∷ []) ≡ None = subst (λ (p : PartView). first_differing (digest_of bytes) (p ∷ []) ≡ None) is_whole refused.0 in
      let shaped : first_misshapen (graph_shapes (graph_over fns script columns)) (whole ∷ []) ≡ None = subst (λ (p : PartView). first_misshapen (graph_shapes (graph_over fns script columns)) (p ∷ []) ≡ None) is_whole refused.1 in
      let printed : IsEachPrinted fns script (length tables) (whole ∷ []) d = (None, holds_all, h) in
      let fits : WithFitting fns bytes script (name ∷ []) (whole ∷ []) (λ e. IsEachPrinted fns script (length tables) (whole ∷ []) e) d =
      none_goes (first_differing (digest_of bytes) (whole ∷ []))
      (WithAccepted fns script columns
      (λ e. MatchOption (first_misshapen (graph_shapes (graph_over fns script columns)) (whole ∷ [])) (IsEachPrinted fns script (length tables) (whole ∷ []) e) (λ place. e ≡ due_of FilesDiffer (differs_line (name_at (name ∷ []) place)))) d)
      (λ place. d ≡ due_of FilesDiffer (differs_line (name_at (name ∷ []) place))) alike
      (none_goes (verdict (fn_names fns) columns script)
      (MatchOption (first_misshapen (graph_shapes (graph_over fns script columns)) (whole ∷ [])) (IsEachPrinted fns script (length tables) (whole ∷ []) d) (λ place. d ≡ due_of FilesDiffer (differs_line (name_at (name ∷ []) place))))
      (λ (r : ℕ × GraphCause). d ≡ due_of ScriptRefused (graph_cause_line r.0 r.1)) accepted
      (none_goes (first_misshapen (graph_shapes (graph_over fns script columns)) (whole ∷ [])) (IsEachPrinted fns script (length tables) (whole ∷ []) d) (λ place. d ≡ due_of FilesDiffer (differs_line (name_at (name ∷ []) place))) shaped printed)) in
      subst
      (λ o. WithFile statuses name o
      (λ b e. MatchBool (nat_lt max_parts (0 + length b)) (e ≡ due_of TooLong long_files_line)
      (ReadsPart name b (λ s x. WithFitting fns bytes script (name ∷ []) (s ∷ []) (λ y. IsEachPrinted fns script (length tables) (s ∷ []) y) x) e)) d)
      (sym at)
      (false_goes (nat_lt max_parts (0 + length content)) (d ≡ due_of TooLong long_files_line)
      (ReadsPart name content (λ s x. WithFitting fns bytes script (name ∷ []) (s ∷ []) (λ y. IsEachPrinted fns script (length tables) (s ∷ []) y) x) d) (not_longer (length content) k.short)
      (inr (whole, text, fits)))

pub print_is_due_the_transcript : PrintIsDueTheTranscript
print_is_due_the_transcript fns bytes script columns tables files name text joins course graph unwatched checked many at is =
    let read = is_part fns bytes script columns tables files checked many joins (record { lo = 0; hi = length tables }) text is in
    record {
      due = λ d h. print_due fns bytes script columns tables files checked many graph.accepted name text d at read h;
      printed = chain_prints_the_transcript script (chain_of fns columns tables) course graph unwatched;
    }
