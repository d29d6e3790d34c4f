-- Part files, one after the other, and parts of a script.
use Rattle.lemmas.proofs.{◌≡◌, ◌≤◌, ◌<◌, ◌+◌, inl, inr, ℕ, Bool, true, false, nat_lt, List, [], ◌∷◌, ◌++◌, length, drop, Option, None, Some, IfSome, arith, ap, refl, sym, subst, ◌∙◌, append_assoc, append-nil, MatchOption, get_or, not, position, slice_get, unwrap_or, AllByRecursion, le-ltb, length-append, MatchBool}
use Rattle.rdf_values.specs.{Column, fn_names, Function, graph_cause_line, GraphCause, Script, verdict}
use Rattle.graph_numbers.specs.{GraphView}
use Rattle.shard_lines.specs.{PassShape}
use Rattle.input_files.specs.{due_of, WithFile}
use Rattle.graph_shapes.specs.{graph_shapes}
use Rattle.chain_files.specs.{digest_of, first_differing, first_misshapen, is_of, IsPart, IsPartText, PartView}
use Rattle.chain_due.specs.{ChainDue, differs_line, Files, graph_over, long_files_line, max_parts, name_at, ReadsPart, statuses, WithAccepted, WithFitting, WithParts}
use Rattle.chain_due.specs.declared.status.ChainStatus.TheVariants.{FilesDiffer, ScriptRefused, TooLong}
use Rattle.chain_program.specs.{AllFitScript, ArePartsOf, AreRead, HoldParts, HoldsPart, HoldsThePart, IsAnswer, IsPartFile, IsReadPart, WithPart}
use Rattle.chain_program.specs.Answers.{Answers}
use Rattle.chain_program.specs.declared.answer.Answer.{Answer}
use Rattle.chain_program.specs.declared.fitting.Fitting.{Fitting}
use Rattle.chain_program.specs.declared.parts.PartFile.{PartFile}
use Rattle.chain_program.proofs.Staging.{accepted_goes, accepted_stops, as_due, both_told, each_told, from_told, goes_on, of_files}
use Rattle.chain_program.proofs.Turning.{left_from, none_from}

-- ---- one part

reads_stops : (name bytes : List ℕ) (Next : PartView → ChainDue → Type 0) (d : ChainDue) → ReadsPart name bytes (λ s e. ⊥) d → ReadsPart name bytes Next d
reads_stops name bytes Next d (inl r) = inl r
reads_stops name bytes Next d (inr r) = absurd r.2

part_stops : (files : Files) (before : ℕ) (name : List ℕ) (Next : List ℕ → PartView → ChainDue → Type 0) (d : ChainDue) → WithPart files before name (λ bytes s e. ⊥) d → WithPart files before name Next d
part_stops files before name Next d h = go (files name) h
  where
    text : (bytes : List ℕ) (b : Bool) → MatchBool b (d ≡ due_of TooLong long_files_line) (ReadsPart name bytes (λ s e. ⊥) d) → MatchBool b (d ≡ due_of TooLong long_files_line) (ReadsPart name bytes (Next bytes) d)
    text bytes true e = e
    text bytes false r = reads_stops name bytes (Next bytes) d r

    go : (file : Option (List ℕ)) → WithFile statuses name file (λ bytes e. MatchBool (nat_lt max_parts (before + length bytes)) (e ≡ due_of TooLong long_files_line) (ReadsPart name bytes (λ s g. ⊥) e)) d
        → WithFile statuses name file (λ bytes e. MatchBool (nat_lt max_parts (before + length bytes)) (e ≡ due_of TooLong long_files_line) (ReadsPart name bytes (Next bytes) e)) d
    go None e = e
    go (Some bytes) e = text bytes (nat_lt max_parts (before + length bytes)) e

part_goes : (files : Files) (before size : ℕ) (name : List ℕ) (s : PartView) (Next : List ℕ → PartView → ChainDue → Type 0) (d : ChainDue) → HoldsThePart s (files name) size → before + size ≤ max_parts
    → ((bytes : List ℕ) → length bytes ≡ size → Next bytes s d) → WithPart files before name Next d
part_goes files before size name s Next d h few next = go (files name) h
  where
    text : (bytes : List ℕ) → length bytes ≡ size → IsPartText bytes s → (b : Bool) → b ≡ false → MatchBool b (d ≡ due_of TooLong long_files_line) (ReadsPart name bytes (Next bytes) d)
    text bytes same is true e = absurd (cc e)
    text bytes same is false e = inr (s, is, next bytes same)

    go : (file : Option (List ℕ)) → HoldsThePart s file size → WithFile statuses name file (λ bytes e. MatchBool (nat_lt max_parts (before + length bytes)) (e ≡ due_of TooLong long_files_line) (ReadsPart name bytes (Next bytes) e)) d
    go None k = absurd k
    go (Some bytes) k = text bytes k.0 k.1 (nat_lt max_parts (before + length bytes)) (le-ltb max_parts (before + length bytes) (let same = k.0 in omega (arith, few)))

-- the file of a part that was read
pub is_part_file : (told : Option Files) (name : List ℕ) (before : ℕ) (p : PartFile) → IsReadPart told name before p → IsPartFile told name
is_part_file told name before p h = from_told told name (λ file. HoldsThePart p.part file p.size) (λ files. HoldsPart (files name)) h.holds (λ files k. go (files name) k)
  where
    go : (file : Option (List ℕ)) → HoldsThePart p.part file p.size → HoldsPart file
    go None k = absurd k
    go (Some bytes) k = (p.part, k.1)

-- ---- all parts

all_more : (P : PartView → Type 0) (found : List PartView) (s : PartView) → AllByRecursion P found → P s → AllByRecursion P (found ++ s ∷ [])
all_more P [] s h p = (p, tt)
all_more P (t ∷ found) s h p = (h.0, all_more P found s h.1 p)

holds_more : (files : Files) (before size : ℕ) (name : List ℕ) (rest : List (List ℕ)) (s : PartView) (more : List PartView) (file : Option (List ℕ)) → files name ≡ file → HoldsThePart s file size → before + size ≤ max_parts
    → HoldParts files (before + size) rest more → HoldParts files before (name ∷ rest) (s ∷ more)
holds_more files before size name rest s more None e h few hold = absurd h
holds_more files before size name rest s more (Some bytes) e h few hold =
    (bytes, e, (let same = h.0 in omega (arith, few)), h.1, subst (λ n. HoldParts files (before + n) rest more) (sym h.0) hold)

pub one_part_more : (told : Option Files) (names : List (List ℕ)) (place size size' : ℕ) (name : List ℕ) (p : PartFile) (found found' : List PartView) → place < length names → slice_get names place ≡ Some name
    → IsReadPart told name size p → size' ≡ size + p.size → found' ≡ found ++ p.part ∷ [] → AreRead told names place size found → AreRead told names (place + 1) size' found'
one_part_more told names place size size' name p found found' lt at is long more h = record {
  many = ap length more ∙ length-append found (p.part ∷ []) ∙ ap (λ n. n + 1) h.many;
  few = (let few = is.few in omega (arith, long));
  valid = subst (λ ss. AllByRecursion IsPart ss) (sym more) (all_more IsPart found p.part h.valid is.valid);
  hold = both_told told (λ files. HoldsThePart p.part (files name) p.size) (λ files. (ss : List PartView) → HoldParts files size (drop place names) ss → HoldParts files 0 names (found ++ ss))
      (λ files. (ss : List PartView) → HoldParts files size' (drop (place + 1) names) ss → HoldParts files 0 names (found' ++ ss)) there h.hold
      (λ files k hold ss rest. subst (λ l. HoldParts files 0 names l) (sym (append_assoc found (p.part ∷ []) ss) ∙ ap (λ l. l ++ ss) (sym more))
      (hold (p.part ∷ ss) (subst (λ l. HoldParts files size l (p.part ∷ ss)) (sym (left_from names place name lt at))
      (holds_more files size p.size name (drop (place + 1) names) p.part ss (files name) refl k is.few (subst (λ n. HoldParts files n (drop (place + 1) names) ss) long rest)))));
  due = both_told told (λ files. HoldsThePart p.part (files name) p.size) (λ files. (d : ChainDue) → WithParts files size found (drop place names) (λ ss e. ⊥) d → WithParts files 0 [] names (λ ss e. ⊥) d)
      (λ files. (d : ChainDue) → WithParts files size' found' (drop (place + 1) names) (λ ss e. ⊥) d → WithParts files 0 [] names (λ ss e. ⊥) d) there h.due
      (λ files k due d rest. due d (subst (λ l. WithParts files size found l (λ ss e. ⊥) d) (sym (left_from names place name lt at))
      (part_goes files size p.size name p.part (λ bytes s e. WithParts files (size + length bytes) (found ++ s ∷ []) (drop (place + 1) names) (λ ss g. ⊥) e) d k is.few
      (λ bytes same. subst (λ n. WithParts files (size + n) (found ++ p.part ∷ []) (drop (place + 1) names) (λ ss e. ⊥) d) (sym same)
      (subst (λ ss. WithParts files (size + p.size) ss (drop (place + 1) names) (λ ts e. ⊥) d) more (subst (λ n. WithParts files n found' (drop (place + 1) names) (λ ts e. ⊥) d) long rest))))));
}
  where
    there : IfSome told (λ files. HoldsThePart p.part (files name) p.size)
    there = from_told told name (λ file. HoldsThePart p.part file p.size) (λ files. HoldsThePart p.part (files name) p.size) is.holds (λ files x. x)

-- the answer where a file holds no part
pub parts_refused : (told : Option Files) (turns : List (List ℕ)) (f0 f1 f2 : ℕ) (a : Answer) (names : List (List ℕ)) (place size : ℕ) (name : List ℕ) (found : List PartView) → f0 ≤ f1 → place < length names → slice_get names place ≡ Some name
    → AreRead told names place size found → IsAnswer (λ files d. WithPart files size name (λ bytes s e. ⊥) d) told turns f1 f2 a → IsAnswer (λ files d. WithParts files 0 [] names (λ ss e. ⊥) d) told turns f0 f2 a
parts_refused told turns f0 f1 f2 a names place size name found le lt at h stop =
    goes_on told turns f0 f1 f2 a (λ files d. WithPart files size name (λ bytes s e. ⊥) d) (λ files d. WithParts files 0 [] names (λ ss e. ⊥) d)
    (each_told told (λ files. (d : ChainDue) → WithParts files size found (drop place names) (λ ss e. ⊥) d → WithParts files 0 [] names (λ ss e. ⊥) d)
    (λ files. (d : ChainDue) → WithPart files size name (λ bytes s e. ⊥) d → WithParts files 0 [] names (λ ss e. ⊥) d)
    (λ files due d e. due d (subst (λ l. WithParts files size found l (λ ss g. ⊥) d) (sym (left_from names place name lt at))
    (part_stops files size name (λ bytes s g. WithParts files (size + length bytes) (found ++ s ∷ []) (drop (place + 1) names) (λ ss x. ⊥) g) d e))) h.due)
    le stop

pub all_parts : (told : Option Files) (names : List (List ℕ)) (place size : ℕ) (found : List PartView) → length names ≤ place → place ≤ length names → AreRead told names place size found → ArePartsOf told names found
all_parts told names place size found ge le h = record {
  many = (let many = h.many in omega (arith, ge, le));
  valid = h.valid;
  hold = each_told told (λ files. (more : List PartView) → HoldParts files size (drop place names) more → HoldParts files 0 names (found ++ more)) (λ files. HoldParts files 0 names found)
      (λ files hold. subst (λ l. HoldParts files 0 names l) (append-nil found) (hold [] (subst (λ l. HoldParts files size l []) (sym (none_from names place ge)) tt))) h.hold;
}

-- ---- what follows the parts

pub parts_go : (names : List (List ℕ)) (files : Files) (before : ℕ) (found more : List PartView) (Next : List PartView → ChainDue → Type 0) (d : ChainDue) → HoldParts files before names more → Next (found ++ more) d → WithParts files before found names Next d
parts_go [] files before found [] Next d h next = subst (λ l. Next l d) (append-nil found) next
parts_go [] files before found (s ∷ more) Next d h next = absurd h
parts_go (name ∷ names) files before found [] Next d h next = absurd h
parts_go (name ∷ names) files before found (s ∷ more) Next d h next =
    let bytes = h.0 in
    part_goes files before (length bytes) name s (λ b t e. WithParts files (before + length b) (found ++ t ∷ []) names Next e) d (subst (λ file. HoldsThePart s file (length bytes)) (sym h.1) (refl, h.3)) h.2
    (λ b same. subst (λ n. WithParts files (before + n) (found ++ s ∷ []) names Next d) (sym same)
    (parts_go names files (before + length bytes) (found ++ s ∷ []) more Next d h.4 (subst (λ l. Next l d) (sym (append_assoc found (s ∷ []) more)) next)))

one_stops : (name : List ℕ) (names : List (List ℕ)) (files : Files) (before : ℕ) (found : List PartView) (Next : List PartView → ChainDue → Type 0) (d : ChainDue)
    → ((n : ℕ) (s : PartView) → WithParts files n (found ++ s ∷ []) names (λ ss e. ⊥) d → WithParts files n (found ++ s ∷ []) names Next d)
    → WithParts files before found (name ∷ names) (λ ss e. ⊥) d → WithParts files before found (name ∷ names) Next d
one_stops name names files before found Next d others h = go (files name) h
  where
    text : (bytes : List ℕ) (b : Bool) → MatchBool b (d ≡ due_of TooLong long_files_line) (ReadsPart name bytes (λ s e. WithParts files (before + length bytes) (found ++ s ∷ []) names (λ ss g. ⊥) e) d)
        → MatchBool b (d ≡ due_of TooLong long_files_line) (ReadsPart name bytes (λ s e. WithParts files (before + length bytes) (found ++ s ∷ []) names Next e) d)
    text bytes true e = e
    text bytes false (inl r) = inl r
    text bytes false (inr r) = inr (r.0, r.1, others (before + length bytes) r.0 r.2)

    go : (file : Option (List ℕ))
        → WithFile statuses name file (λ bytes e. MatchBool (nat_lt max_parts (before + length bytes)) (e ≡ due_of TooLong long_files_line) (ReadsPart name bytes (λ s g. WithParts files (before + length bytes) (found ++ s ∷ []) names (λ ss x. ⊥) g) e)) d
        → WithFile statuses name file (λ bytes e. MatchBool (nat_lt max_parts (before + length bytes)) (e ≡ due_of TooLong long_files_line) (ReadsPart name bytes (λ s g. WithParts files (before + length bytes) (found ++ s ∷ []) names Next g) e)) d
    go None e = e
    go (Some bytes) e = text bytes (nat_lt max_parts (before + length bytes)) e

pub parts_stop : (names : List (List ℕ)) (files : Files) (before : ℕ) (found : List PartView) (Next : List PartView → ChainDue → Type 0) (d : ChainDue) → WithParts files before found names (λ ss e. ⊥) d → WithParts files before found names Next d
parts_stop [] files before found Next d h = absurd h
parts_stop (name ∷ names) files before found Next d h = one_stops name names files before found Next d (λ n s. parts_stop names files n (found ++ s ∷ []) Next d) h

-- ---- parts of a script

module _ (fns : List Function) (bytes : List ℕ) (script : Script) (names : List (List ℕ)) where
  pub fitting_goes : (parts : List PartView) (f : Fitting) (Next : ChainDue → Type 0) (d : ChainDue) → AllFitScript fns bytes script parts f → Next d → WithFitting fns bytes script names parts Next d
  fitting_goes [] f Next d h next = absurd h
  fitting_goes (first ∷ others) f Next d h next =
      let P : ChainDue → Type 0 = λ e. MatchOption (first_misshapen (graph_shapes (graph_over fns script first.columns)) (first ∷ others)) (Next e) (λ place. e ≡ due_of FilesDiffer (differs_line (name_at names place))) in
      none (first_differing (digest_of bytes) (first ∷ others)) (WithAccepted fns script first.columns P d) (λ place. d ≡ due_of FilesDiffer (differs_line (name_at names place))) h.alike
      (accepted_goes fns script first.columns P d h.accepted
      (none (first_misshapen (graph_shapes (graph_over fns script first.columns)) (first ∷ others)) (Next d) (λ place. d ≡ due_of FilesDiffer (differs_line (name_at names place))) h.shaped next))
    where
      none : (o : Option ℕ) (P : Type 0) (Q : ℕ → Type 0) → o ≡ None → P → MatchOption o P Q
      none None P Q e p = p
      none (Some place) P Q e p = absurd (cc e)

  pub fitting_stops : (parts : List PartView) (Next : ChainDue → Type 0) (d : ChainDue) → WithFitting fns bytes script names parts (λ e. ⊥) d → WithFitting fns bytes script names parts Next d
  fitting_stops [] Next d h = absurd h
  fitting_stops (first ∷ others) Next d h = go (first_differing (digest_of bytes) (first ∷ others)) h
    where
      inner : (e : ChainDue) (o : Option ℕ) → MatchOption o ⊥ (λ place. e ≡ due_of FilesDiffer (differs_line (name_at names place))) → MatchOption o (Next e) (λ place. e ≡ due_of FilesDiffer (differs_line (name_at names place)))
      inner e None k = absurd k
      inner e (Some place) k = k

      middle : (v : Option (ℕ × GraphCause)) → MatchOption v (MatchOption (first_misshapen (graph_shapes (graph_over fns script first.columns)) (first ∷ others)) ⊥ (λ place. d ≡ due_of FilesDiffer (differs_line (name_at names place)))) (λ refused. d ≡ due_of ScriptRefused (graph_cause_line refused.0 refused.1))
          → MatchOption v (MatchOption (first_misshapen (graph_shapes (graph_over fns script first.columns)) (first ∷ others)) (Next d) (λ place. d ≡ due_of FilesDiffer (differs_line (name_at names place)))) (λ refused. d ≡ due_of ScriptRefused (graph_cause_line refused.0 refused.1))
      middle None k = inner d (first_misshapen (graph_shapes (graph_over fns script first.columns)) (first ∷ others)) k
      middle (Some refused) k = k

      go : (o : Option ℕ)
          → MatchOption o (WithAccepted fns script first.columns (λ e. MatchOption (first_misshapen (graph_shapes (graph_over fns script first.columns)) (first ∷ others)) ⊥ (λ place. e ≡ due_of FilesDiffer (differs_line (name_at names place)))) d) (λ place. d ≡ due_of FilesDiffer (differs_line (name_at names place)))
          → MatchOption o (WithAccepted fns script first.columns (λ e. MatchOption (first_misshapen (graph_shapes (graph_over fns script first.columns)) (first ∷ others)) (Next e) (λ place. e ≡ due_of FilesDiffer (differs_line (name_at names place)))) d) (λ place. d ≡ due_of FilesDiffer (differs_line (name_at names place)))
      go None k = middle (verdict (fn_names fns) first.columns script) k
      go (Some place) k = k

-- ---- parts beside the first one

-- the place of a part that differs from the first one
pub differing_is : (script : List ℕ) (parts : List PartView) (first : PartView) (columns : List Column) → 0 < length parts → first ≡ get_or parts 0 first → columns ≡ first.columns → position (λ t. not (is_of script columns t)) parts ≡ first_differing script parts
differing_is script [] first columns some is same = absurd (omega (arith, some))
differing_is script (s ∷ ss) first columns some is same = ap (λ (cs : List Column). position (λ t. not (is_of script cs t)) (s ∷ ss)) (same ∙ ap (λ (x : PartView). x.columns) is)

module _ (fns : List Function) (bytes : List ℕ) (script : Script) (names : List (List ℕ)) where
  name_is : (place : ℕ) (name : List ℕ) → slice_get names place ≡ Some name → name_at names place ≡ name
  name_is place name at = ap (λ o. unwrap_or o []) at

  -- a part that is of another script, or has other columns
  pub differs_first : (parts : List PartView) (place : ℕ) (name : List ℕ) (a : Answer) → 0 < length parts → first_differing (digest_of bytes) parts ≡ Some place → slice_get names place ≡ Some name → a.status ≡ FilesDiffer → a.text ≡ differs_line name
      → Answers (λ d. WithFitting fns bytes script names parts (λ e. ⊥) d) a
  differs_first [] place name a some e at s l = absurd (omega (arith, some))
  differs_first (first ∷ others) place name a some e at s l = (
    of_files a.status FilesDiffer tt s,
    go (first_differing (digest_of bytes) (first ∷ others)) e
        (WithAccepted fns script first.columns (λ d. MatchOption (first_misshapen (graph_shapes (graph_over fns script first.columns)) (first ∷ others)) ⊥ (λ p. d ≡ due_of FilesDiffer (differs_line (name_at names p)))) (due_of a.status a.text)),
  )
    where
      go : (o : Option ℕ) → o ≡ Some place → (P : Type 0) → MatchOption o P (λ p. due_of a.status a.text ≡ due_of FilesDiffer (differs_line (name_at names p)))
      go None q P = absurd (cc q)
      go (Some p) q P = (let same : p ≡ place = cc q in as_due a FilesDiffer (differs_line (name_at names p)) s (l ∙ ap differs_line (sym (ap (name_at names) same ∙ name_is place name at))))

  -- a script that isn't accepted over the parts' columns
  pub unaccepted : (parts : List PartView) (first : PartView) (a : Answer) → 0 < length parts → first ≡ get_or parts 0 first → first_differing (digest_of bytes) parts ≡ None → Answers (λ d. WithAccepted fns script first.columns (λ e. ⊥) d) a
      → Answers (λ d. WithFitting fns bytes script names parts (λ e. ⊥) d) a
  unaccepted [] first a some is e h = absurd (omega (arith, some))
  unaccepted (s ∷ ss) first a some is e h = (
    h.0,
    go (first_differing (digest_of bytes) (s ∷ ss)) e
        (accepted_stops fns script s.columns (λ d. MatchOption (first_misshapen (graph_shapes (graph_over fns script s.columns)) (s ∷ ss)) ⊥ (λ p. d ≡ due_of FilesDiffer (differs_line (name_at names p)))) (due_of a.status a.text)
        (subst (λ (x : PartView). WithAccepted fns script x.columns (λ e. ⊥) (due_of a.status a.text)) is h.1)),
  )
    where
      go : {P : Type 0} (o : Option ℕ) → o ≡ None → P → MatchOption o P (λ p. due_of a.status a.text ≡ due_of FilesDiffer (differs_line (name_at names p)))
      go None q p = p
      go (Some p) q k = absurd (cc q)

  -- a part without the script's shape
  pub differs_shape : (parts : List PartView) (first : PartView) (g : GraphView) (shapes : List (List PassShape)) (place : ℕ) (name : List ℕ) (a : Answer) → 0 < length parts → first ≡ get_or parts 0 first → first_differing (digest_of bytes) parts ≡ None
      → (verdict (fn_names fns) first.columns script ≡ None) × (g ≡ graph_over fns script first.columns) → shapes ≡ graph_shapes g → first_misshapen shapes parts ≡ Some place → slice_get names place ≡ Some name → a.status ≡ FilesDiffer → a.text ≡ differs_line name
      → Answers (λ d. WithFitting fns bytes script names parts (λ e. ⊥) d) a
  differs_shape [] first g shapes place name a some is e v sh m at s l = absurd (omega (arith, some))
  differs_shape (t ∷ ts) first g shapes place name a some is e v sh m at s l =
      let own : shapes ≡ graph_shapes (graph_over fns script t.columns) = sh ∙ ap graph_shapes v.1 ∙ ap (λ (x : PartView). graph_shapes (graph_over fns script x.columns)) is in
      let here = ap (λ z. first_misshapen z (t ∷ ts)) (sym own) ∙ m in (
        of_files a.status FilesDiffer tt s,
        alike (first_differing (digest_of bytes) (t ∷ ts)) e
            (accepted_goes fns script t.columns (λ d. MatchOption (first_misshapen (graph_shapes (graph_over fns script t.columns)) (t ∷ ts)) ⊥ (λ p. d ≡ due_of FilesDiffer (differs_line (name_at names p)))) (due_of a.status a.text)
            (subst (λ (x : PartView). verdict (fn_names fns) x.columns script ≡ None) is v.0) (shape (first_misshapen (graph_shapes (graph_over fns script t.columns)) (t ∷ ts)) here)),
      )
    where
      alike : {P : Type 0} (o : Option ℕ) → o ≡ None → P → MatchOption o P (λ p. due_of a.status a.text ≡ due_of FilesDiffer (differs_line (name_at names p)))
      alike None q p = p
      alike (Some p) q k = absurd (cc q)

      shape : (o : Option ℕ) → o ≡ Some place → MatchOption o ⊥ (λ p. due_of a.status a.text ≡ due_of FilesDiffer (differs_line (name_at names p)))
      shape None q = absurd (cc q)
      shape (Some p) q = (let same : p ≡ place = cc q in as_due a FilesDiffer (differs_line (name_at names p)) s (l ∙ ap differs_line (sym (ap (name_at names) same ∙ name_is place name at))))

  -- parts of the script
  pub all_fit : (parts : List PartView) (first : PartView) (f : Fitting) → 0 < length parts → first ≡ get_or parts 0 first → first_differing (digest_of bytes) parts ≡ None
      → (verdict (fn_names fns) first.columns script ≡ None) × (f.graph ≡ graph_over fns script first.columns) → f.shapes ≡ graph_shapes f.graph → first_misshapen f.shapes parts ≡ None → AllFitScript fns bytes script parts f
  all_fit [] first f some is e v sh m = absurd (omega (arith, some))
  all_fit (t ∷ ts) first f some is e v sh m =
      let graph : f.graph ≡ graph_over fns script t.columns = v.1 ∙ ap (λ (x : PartView). graph_over fns script x.columns) is in
      let shapes : f.shapes ≡ graph_shapes (graph_over fns script t.columns) = sh ∙ ap graph_shapes graph in
      record {
        alike = e;
        accepted = subst (λ (x : PartView). verdict (fn_names fns) x.columns script ≡ None) is v.0;
        graph = graph;
        shapes = shapes;
        shaped = ap (λ z. first_misshapen z (t ∷ ts)) (sym shapes) ∙ m;
      }
