-- Answers to the words and to files, what is written of them, and that each is due.
use Rattle.lemmas.proofs.{◌≡◌, ◌≤◌, ◌+◌, ℕ, Bool, ◌||◌, List, [], ◌∷◌, length, map, Option, Some, None, Ok, option_map, inl, inr, ap, refl, sym, subst, ◌∙◌, if◌then◌else◌, ◌++◌, IfSome, arith, append_assoc, ◌⊎◌, true, false, Result, Err, MatchOption, MatchResult, nat_lt, le-ltb, list_any}
use Rattle.std.proofs.lemmas.Option.{IfSome_then}
use Rattle.rdf_values.specs.{fn_names, Function, IsScript, MarkedTable, Script, Statement, table_of, Value, verdict, Column, FunctionNames, graph_cause_line, GraphCause, cut, generated_script, generated_table, history, long_script_line, long_table_line, script_cause_line, stride, table_cause_line}
use Rattle.rdf_values.proofs.OneScript.{one_script, script_or_refusal, one_cause}
use Rattle.rdf_model.specs.{Access, Course, Dataset, first_fault_from, loop_passes, printed, accesses, transcript}
use Rattle.expr_read.proofs.Decided.{read_once}
use Rattle.table_csv.specs.{csv_records}
use Rattle.command_words.specs.{Friend, Input, asked_of, Command}
use Rattle.rdf_program.specs.{AcceptedRunsEnd, AreTexts, friend_of, has_fault, IsDueOver, IsDueToInput, IsWithFriend, printed_status, status_of_run, statuses, WithFriend, AreTurnsTo, CallsForFriend, CallsForTable, due_in, HoldsScript, HoldsTable, IsAnswer, IsDueToFiles, MayReadOf, AnswersInput, AnswersWords, AreSettings, IsDue, IsFinal, IsUnread, MayRead, NameFiles, OfFiles, TurnsBesides, WritesPart, WritesReadFailed, dataset_of, IsPrinted}
use Rattle.input_files.specs.{Files, max_script, max_table, ReadsScript, WithScript, WithTable, HoldsTheScript, HoldsTheTable, Tells, WritesDue, WritesDuePart, due_of}
use Rattle.input_files.specs.Due.{Due}
use Rattle.rdf_program.specs.declared.status.Status.{Status}
use Rattle.rdf_program.specs.declared.status.Status.TheVariants.{Done, LoopFault, ReadFault, ScriptRefused, TableRefused}
use Rattle.input_files.proofs.Staging.{script_read_due, table_read_due}
use Rattle.rdf_program.specs.declared.answer.Answer.{Answer}
use Rattle.rdf_outside.specs.{Appends, AppendsPart}
use Rattle.command_words.proofs.Taken.{asked_fits}
use Rattle.rdf_values.specs.Answered.{Refuses}
use Rattle.graph_numbers.specs.{booked}
use Rattle.graph.specs.{GraphRefusal, refused_at}
use Rattle.graph.proofs.Finished.{refusal_of, refused_verdict}
use Rattle.rdf_program.specs.Answers.{Answers}
use Rattle.std.specs.Bool.{MatchBool}
use Rattle.script_read.proofs.Answered.{answered}
use Rattle.event_loop.proofs.Ended.{first_sets, first_sets_are_a_chain}
use Rattle.friend_join.specs.{join_of}

-- ---- the status of a transcript

no_passes : (d : Dataset) (e : ℕ) (rows : List (List Value)) → first_fault_from d e rows [] ≡ None
no_passes d e [] = refl
no_passes d e (row ∷ rows) = no_passes d (e + 1) rows

module _ (script : List Statement) (d : Dataset) (course : Course) where
  abbrev status_where : Bool → Status
  status_where faulty = if faulty then LoopFault else Done

  abbrev has_loop_fault : Access → Bool
  has_loop_fault a = has_fault d (option_map (loop_passes script) a.fills)

  status_is : (accs : List Access) → printed_status (printed script d course accs).status ≡ status_where (list_any has_loop_fault accs)
  status_is [] = refl
  status_is (a ∷ accs) = grind (arith, list_any, no_passes, status_is accs)

  any_mapped : (accs : List Access) → list_any has_loop_fault accs ≡ list_any (has_fault d) (map (λ (a : Access). option_map (loop_passes script) a.fills) accs)
  any_mapped [] = refl
  any_mapped (a ∷ accs) = ap (λ b. has_loop_fault a || b) (any_mapped accs)

-- ---- what is due

module _ (fns : List Function) (size watch : ℕ) (script : Script) (table : MarkedTable) (accepted : verdict (fn_names fns) table.table.columns script ≡ None) (d : Due Status) where
  to_friend : (friend : Option Friend) (files : Files) (own : MarkedTable) → IsWithFriend friend files own table
      → WithFriend friend files own (λ t e. IsDueOver fns size watch script t e) d → d.status ≡ status_of_run fns script table
  to_friend friend files own w h = grind (arith, status_is, any_mapped, le-ltb)

  tabled : (bytes : List ℕ) (own : MarkedTable) (Next : MarkedTable → Due Status → Type 0) → length bytes ≤ max_table → table_of (csv_records bytes) ≡ Ok own → WithTable statuses bytes Next d → Next own d
  tabled bytes own Next short is h = rw (le-ltb max_table (length bytes) short, is) at h

  reading : (bytes : List ℕ) (Next : Script → Due Status → Type 0) → length bytes ≤ max_script → IsScript bytes script → WithScript statuses bytes Next d → Next script d
  reading bytes Next short is h =
      let r : ReadsScript statuses bytes Next d = rw (le-ltb max_script (length bytes) short) at h in
      elim r [
        | inl r ↦ absurd (script_or_refusal read_once bytes script r.0 is r.1)
        | inr r ↦ subst (λ (s : Script). Next s d) (one_script read_once bytes r.0 script r.1 is) r.2
      ]

  to_input : (files : Files) (named : Input) (script_bytes table_bytes : List ℕ) (own : MarkedTable) → AreTexts files named script_bytes table_bytes
      → length script_bytes ≤ max_script → length table_bytes ≤ max_table → IsScript script_bytes script → table_of (csv_records table_bytes) ≡ Ok own → IsWithFriend (friend_of named) files own table
      → IsDueToInput fns size watch files named d → d.status ≡ status_of_run fns script table
  to_input files (Input.Files s t friend) sb tb own texts short_script short_table is_script is_table w h = grind (arith, reading, status_is, any_mapped, le-ltb)
  to_input files (Input.Generated entries seed) sb tb own texts short_script short_table is_script is_table w h =
      let due : WithScript statuses sb (λ x e. WithTable statuses tb (λ t u. IsDueOver fns size watch x t u) e) d = rw (texts.0, texts.1) h in
      to_friend None files own w (tabled tb own (λ t u. IsDueOver fns size watch script t u) short_table is_table (reading sb (λ x e. WithTable statuses tb (λ t u. IsDueOver fns size watch x t u) e) short_script is_script due))

pub accepted_runs_end : AcceptedRunsEnd
accepted_runs_end fns words files script table d is h =
    let c = is.command in
    let asked : IsDueToInput fns c.cluster c.watch files c.input d = rw is.taken at h in
    to_input fns c.cluster c.watch script table is.accepted d files c.input is.script_bytes is.table_bytes is.own is.texts is.short_script is.short_table is.is_script is.is_table is.with_friend asked

-- ---- Answers to files that were read, and the files that were turned to.

-- the files by their names, where the shelf tells them
abbrev pub Told : Type 0
Told = Option Files

two_told : (told : Told) (name other : List ℕ) (P R : Option (List ℕ) → Type 0) (Q : Files → Type 0) → Tells told name P → Tells told other R → ((f : Files) → P (f name) → R (f other) → Q f) → IfSome told Q
two_told None name other P R Q t u step = tt
two_told (Some f) name other P R Q t u step = step f t u

module _ (script table : List ℕ) (friend : Option Friend) (told : Told) (s : Script) (is : Tells told script (HoldsTheScript s)) where
  calls_for_table : CallsForTable script table friend told
  calls_for_table = two_told told script script (HoldsTheScript s) (HoldsTheScript s) (λ f. HoldsScript (f script)) is is (λ f k _. (s, k))

  -- the shelf was turned to the table
  pub turned_to_table : (before mid after : List (List ℕ)) → mid ≡ before ++ script ∷ [] → after ≡ mid ++ table ∷ [] → (turns : List (List ℕ)) × (after ≡ before ++ turns) × AreTurnsTo script table friend told turns
  turned_to_table before mid after m e = (script ∷ table ∷ [], e ∙ ap (λ l. l ++ table ∷ []) m ∙ append_assoc before (script ∷ []) (table ∷ []), inr (inl (refl, calls_for_table)))

  module _ (own : MarkedTable) (holds : Tells told table (HoldsTheTable own)) (named : Friend) (some : friend ≡ Some named) where
    calls_for_friend : CallsForFriend script table friend told
    calls_for_friend = two_told told script table (HoldsTheScript s) (HoldsTheTable own) (λ f. HoldsScript (f script) × HoldsTable (f table)) is holds (λ f x t. ((s, x), (own, t)))

    -- and then to the friend
    pub turned_to_friend : (before mid late after : List (List ℕ)) → mid ≡ before ++ script ∷ [] → late ≡ mid ++ table ∷ [] → after ≡ late ++ named.file ∷ [] → (turns : List (List ℕ)) × (after ≡ before ++ turns) × AreTurnsTo script table friend told turns
    turned_to_friend before mid late after m l e = (
      script ∷ table ∷ named.file ∷ [],
      e ∙ ap (λ x. x ++ named.file ∷ []) (l ∙ ap (λ x. x ++ table ∷ []) m) ∙ append_assoc (before ++ script ∷ []) (table ∷ []) (named.file ∷ []) ∙ append_assoc before (script ∷ []) (table ∷ named.file ∷ []),
      inr (inr (named.file, rw some refl, refl, calls_for_friend)),
    )

    -- the answer to a table with its friend is that to their files
    pub friend_answer : (fns : List Function) (size watch f0 f1 f2 f3 : ℕ) (before turns : List (List ℕ)) (a : Answer) → f0 ≤ f1 → f1 ≤ f2 → turns ≡ before ++ named.file ∷ []
        → IsAnswer (λ f d. WithFriend (Some named) f own (λ joined e. IsDueOver fns size watch s joined e) d) (λ unread. unread ≡ named.file) told f2 f3 a
        → IsAnswer (IsDueToFiles fns size watch script table friend) (MayReadOf script table friend told turns) told f0 f3 a
    friend_answer fns size watch f0 f1 f2 f3 before turns a le later at (inr u) = inr (let r = u.rose in record {
      status = u.status;
      rose = omega arith;
      name = u.name;
      may_read = (record { earlier = before; last = at ∙ ap (λ n. before ++ n ∷ []) (sym u.may_read) }, inr (inr (rw some u.may_read, calls_for_friend)));
      text = u.text;
    })
    friend_answer fns size watch f0 f1 f2 f3 before turns a le later at (inl h) = grind (arith, script_read_due, table_read_due)

-- ---- Answers to the words: what the words ask for, and what is written.

module _ (words : List (List ℕ)) (o : Option Command) (c : Command) (read : o ≡ asked_of words) (some : o ≡ Some c) where
  asked : asked_of words ≡ Some c
  asked = sym read ∙ some

  pub settings_fit : AreSettings (record { slots = c.slots; cluster = c.cluster; watch = c.watch })
  settings_fit = (let w = asked_fits words c asked in record { some_slots = w.slots.0; few_slots = w.slots.1; cluster = w.cluster.0; watch = w.watch.0 })

  pub entries_fit : (entries seed : ℕ) → c.input ≡ Input.Generated entries seed → (1 ≤ entries) × (entries ≤ 1000000)
  entries_fit entries seed i = (let w = rw i at (asked_fits words c asked).input in (w.0, w.1))

  -- an answer to what is asked for is one to the words
  pub answers_words : (fns : List Function) (told : Told) (turns : List (List ℕ)) (f0 f1 : ℕ) (a : Answer) (i : Input) → c.input ≡ i → AnswersInput fns c.cluster c.watch i told turns f0 f1 a → AnswersWords fns words told turns f0 f1 a
  answers_words fns told turns f0 f1 a i is h = grind (arith, asked)

  -- so are the files that it turned to
  pub turns_besides : (told : Told) (before after : List (List ℕ)) (script table script' table' : List ℕ) (friend friend' : Option Friend) → c.input ≡ Input.Files script table friend → script' ≡ script → table' ≡ table → friend' ≡ friend
      → (turns : List (List ℕ)) × (after ≡ before ++ turns) × AreTurnsTo script' table' friend' told turns → TurnsBesides words told before after
  turns_besides told before after script table script' table' friend friend' i s t f h = grind (arith, asked)

-- ---- by what an answer is

module _ (fns : List Function) (words : List (List ℕ)) (told : Told) (turns : List (List ℕ)) (f0 f1 : ℕ) (a : Answer) where
  -- what is due to all files that are meant, and no other status; or a failed read
  abbrev Sorts : (Files → Type 0) → Type 0 → (List ℕ → Type 0) → Type 0
  Sorts IsIts Named May = (IsFinal a.status × (IfSome told IsIts × ((Named → ⊥) → (f : Files) → IsIts f))) ⊎ IsUnread May f0 f1 a

  module _ (h : AnswersWords fns words told turns f0 f1 a) where
    sorted : Sorts (λ f. IsDue fns words f (due_in a)) (NameFiles words) (MayRead words told turns)
    sorted = grind (arith, h)

    -- ---- what is written

    each : (P Q : Files → Type 0) → ((f : Files) → P f → Q f) → IfSome told P × ((NameFiles words → ⊥) → (f : Files) → P f) → OfFiles words told Q
    each P Q step p = (IfSome_then told p.0 step, λ none f. step f (p.1 none f))

    pub due_written : (before after : Option (List ℕ)) → IsFinal a.status → Appends before after a.text → OfFiles words told (WritesDue (IsDue fns words) a.status before after)
    due_written before after final w =
        elim sorted [ inl s ↦ each _ (WritesDue (IsDue fns words) a.status before after) (λ f d. (a.text, d, w)) s.1 | inr u ↦ absurd (subst IsFinal u.status final) ]

    pub failed_read_written : (before after : Option (List ℕ)) → a.status ≡ ReadFault → Appends before after a.text → WritesReadFailed words told turns before after
    failed_read_written before after e w = elim sorted [ inl s ↦ absurd (subst IsFinal e s.0) | inr u ↦ (u.name, u.may_read, subst (Appends before after) u.text w) ]

    pub part_written : (before after : Option (List ℕ)) → AppendsPart before after a.text → WritesPart fns words told turns f0 f1 before after
    part_written before after part = elim sorted [
      | inl s ↦ inl (each _ (WritesDuePart (IsDue fns words) before after) (λ f d. (due_in a, d, part)) s.1)
      | inr u ↦ inr (u.rose, (u.name, u.may_read, subst (AppendsPart before after) u.text part))
    ]

-- A script that can't be booked over a table is refused
pub over_refused : (fns : List Function) (size watch : ℕ) (script : Script) (header : List Column) (names : FunctionNames) (table : MarkedTable) (refusal : GraphRefusal) (line line' : ℕ) (cause cause' : GraphCause) (a : Answer)
    → header ≡ table.table.columns → names ≡ fn_names fns → refusal ≡ GraphRefusal.At line cause → Refuses refused_at GraphRefusal.Memory (booked script header names) refusal
    → line' ≡ line → cause' ≡ cause → (a.status ≡ ScriptRefused) × (a.text ≡ graph_cause_line line' cause') → Answers (IsDueOver fns size watch script table) a
over_refused fns size watch script header names table refusal line line' cause cause' a h n is refused l k e =
    let v = refused_verdict _ (verdict names header script) (line, cause) (refusal_of _ line cause (rw is at refused)) in
    let w : verdict (fn_names fns) table.table.columns script ≡ Some (line, cause) = rw (h, n) at v in
    let text : a.text ≡ graph_cause_line line cause = rw (l, k) at e.1 in
    (rw e.0 tt, rw (w, e.0, text) refl)

-- ---- to all words and files an answer is due, and to the same ones one status: a transcript's status doesn't tell the course

module _ (script : List Statement) (d : Dataset) (one other : Course) where
  pub status_is_one : (accs : List Access) → (printed script d one accs).status ≡ (printed script d other accs).status
  status_is_one [] = refl
  status_is_one (a ∷ accs) = grind (arith, status_is_one accs)

-- ---- each stage gives an answer of one status where the next does

-- there is an answer of which that holds, and all of them have one status
pub record Settles (IsIts : Due Status → Type 0) : Type 0 where
  pub some : (d : Due Status) × IsIts d
  pub one : (d e : Due Status) → IsIts d → IsIts e → d.status ≡ e.status

by_line : (line : Due Status) → Settles (λ d. d ≡ line)
by_line line = record { some = (line, refl); one = λ d e h g. ap (λ (x : Due Status). x.status) (h ∙ sym g) }

by_option : {A : Type 0} (o : Option A) (IfNone : Due Status → Type 0) (Next : A → Due Status → Type 0)
    → Settles IfNone → ((x : A) → Settles (Next x)) → Settles (λ d. MatchOption o (IfNone d) (λ x. Next x d))
by_option None IfNone Next none rest = none
by_option (Some x) IfNone Next none rest = rest x

by_test : (test : Bool) (line : Due Status) (IsIts : Due Status → Type 0) → Settles IsIts → Settles (λ d. MatchBool test (d ≡ line) (IsIts d))
by_test true line IsIts rest = by_line line
by_test false line IsIts rest = rest

by_result : {A B : Type 0} (r : Result A B) (line : B → Due Status) (Next : A → Due Status → Type 0) → ((x : A) → Settles (Next x)) → Settles (λ d. MatchResult r (λ x. Next x d) (λ cause. d ≡ line cause))
by_result (Ok x) line Next rest = rest x
by_result (Err cause) line Next rest = by_line (line cause)

module _ (bytes : List ℕ) (Next : Script → Due Status → Type 0) (rest : (s : Script) → Settles (Next s)) where
  one_reading : (d e : Due Status) → ReadsScript statuses bytes Next d → ReadsScript statuses bytes Next e → d.status ≡ e.status
  one_reading d e (inl h) (inl g) = ap (λ (x : Due Status). x.status) (h.2 ∙ ap (λ c. due_of ScriptRefused (script_cause_line c)) (one_cause read_once bytes h.0 g.0 h.1 g.1) ∙ sym g.2)
  one_reading d e (inl h) (inr g) = absurd (script_or_refusal read_once bytes g.0 h.0 g.1 h.1)
  one_reading d e (inr h) (inl g) = absurd (script_or_refusal read_once bytes h.0 g.0 h.1 g.1)
  one_reading d e (inr h) (inr g) = (rest g.0).one d e (subst (λ (s : Script). Next s d) (one_script read_once bytes h.0 g.0 h.1 g.1) h.2) g.2

  by_reading : Settles (ReadsScript statuses bytes Next)
  by_reading = record {
    some = elim (answered bytes) [ inl s ↦ let d = (rest s.0).some in (d.0, inr (s.0, s.1, d.1)) | inr c ↦ (due_of ScriptRefused (script_cause_line c.0), inl (c.0, c.1, refl)) ];
    one = one_reading;
  }

  by_text : Settles (WithScript statuses bytes Next)
  by_text = by_test (nat_lt max_script (length bytes)) (due_of ScriptRefused long_script_line) (ReadsScript statuses bytes Next) by_reading

by_table : (bytes : List ℕ) (Next : MarkedTable → Due Status → Type 0) → ((t : MarkedTable) → Settles (Next t)) → Settles (WithTable statuses bytes Next)
by_table bytes Next rest = by_test (nat_lt max_table (length bytes)) (due_of TableRefused long_table_line) _ (by_result (table_of (csv_records bytes)) (λ cause. due_of TableRefused (table_cause_line cause)) Next rest)

by_friend : (friend : Option Friend) (files : Files) (own : MarkedTable) (Next : MarkedTable → Due Status → Type 0) → ((t : MarkedTable) → Settles (Next t)) → Settles (WithFriend friend files own Next)
by_friend None files own Next rest = rest own
by_friend (Some friend) files own Next rest =
    by_option (files friend.file) _ _ (by_line _)
    (λ bytes. by_test (nat_lt max_table (length bytes)) _ _ (by_result (table_of (csv_records bytes)) _ _
    (λ other. by_result (join_of own.table other.table friend.key friend.missing) _ _ (λ joined. rest (record { table = joined; marks = own.marks })))))

module _ (fns : List Function) (size watch : ℕ) where
  -- the course in which each loop notes its clusters in file order
  abbrev course_of : MarkedTable → Course
  course_of table =
      let spans = cut (length table.table.rows) size table.marks in
      record { spans = spans; chains = λ l. first_sets (length spans) (stride (length spans) watch) }

  by_print : (script : Script) (table : MarkedTable) → Settles (IsPrinted fns size watch script table)
  by_print script table =
      let t = transcript script (dataset_of fns size watch table.table) (course_of table) in
      record {
        some = (
          due_of (printed_status t.status) t.bytes,
          record { course = course_of table; is_course = record { spans = refl; chains = λ l results _ _. first_sets_are_a_chain _ _ }; bytes = refl; status = refl },
        );
        one = λ d e h g. h.status ∙ ap printed_status (status_is_one (history script) (dataset_of fns size watch table.table) h.course g.course (accesses (history script))) ∙ sym g.status;
      }

  over : (script : Script) (table : MarkedTable) → Settles (IsDueOver fns size watch script table)
  over script table = by_option (verdict (fn_names fns) table.table.columns script) _ _ (by_print script table) (λ refused. by_line _)

  one_to_input : (files : Files) (named : Input) → Settles (IsDueToInput fns size watch files named)
  one_to_input files (Input.Files script table friend) =
      by_option (files script) _ _ (by_line _)
      (λ text. by_text text _ (λ s. by_option (files table) _ _ (by_line _) (λ bytes. by_table bytes _ (λ own. by_friend friend files own _ (over s)))))
  one_to_input files (Input.Generated entries seed) = by_text generated_script _ (λ s. by_table (generated_table entries seed) _ (over s))

pub settled : (fns : List Function) (words : List (List ℕ)) (files : Files) → Settles (IsDue fns words files)
settled fns words files = by_option (asked_of words) _ _ (by_line _) (λ c. one_to_input fns c.cluster c.watch files c.input)
