-- Answers to the words.
use Rattle.std.proofs.Common.{◌≡◌, ℕ, List, [], ◌∷◌, Option, None, Some, IfSome, sym, subst, ◌∙◌, MatchOption}
use Rattle.rdf_values.specs.{Function, Script, TableView}
use Rattle.input_files.specs.{AreTurnedTo, due_of, Files, HoldsTheScript, HoldsTheTable, Tells, WithTableFile}
use Rattle.input_files.proofs.Staging.{script_read_due, table_read_due}
use Rattle.table_csv.specs.{marked_in}
use Rattle.snapshot_words.specs.{asked_of, SnapCommand}
use Rattle.snapshot_due.specs.{dataset_of, IsDue, IsDueOver, IsDueToFiles, IsRunDue, SnapshotDue, SnapshotStatus, statuses, usage_line}
use Rattle.snapshot_due.specs.declared.status.SnapshotStatus.TheVariants.{Memory, Words, ReadFault, WriteFault}
use Rattle.snapshot_program.specs.{AreInputs, IsAnswer, IsOfTable, IsPlanned, IsRefusal, IsScriptFile, RefusesFiles, TurnsBesides}
use Rattle.snapshot_program.specs.Answers.{Answers}
use Rattle.snapshot_program.specs.declared.answer.Answer.{Answer}
use Rattle.snapshot_program.specs.declared.inputs.SnapshotInputs.{SnapshotInputs}
use Rattle.snapshot_program.specs.declared.planning.Planned.{Planned}
use Rattle.snapshot_program.proofs.Staging.{more_of_plan, more_of_script, more_of_table}

-- an answer where there is no plan is that to the table
pub unplanned_answer : (fns : List Function) (c : SnapCommand) (script : Script) (t : TableView) (a : Answer) → IsPlanned fns c script t.columns (Planned.Refused a) → Answers (IsDueOver fns c script t) a
unplanned_answer fns c script t a h =
    (h.0, more_of_plan fns c script t.columns (λ p d. ⊥) (λ p d. IsRunDue p (dataset_of fns c t) d) (due_of a.status a.text) (λ p none. absurd none) h.1)

-- ---- by what the words ask for

abbrev Told : Type 0
Told = Option Files

of_table : (status other : SnapshotStatus) → IsOfTable status → (IsOfTable other → ⊥) → status ≡ other → ⊥
of_table status other h never e = never (subst IsOfTable e h)

module _ (fns : List Function) (words : List (List ℕ)) (c : SnapCommand) (asked : asked_of words ≡ Some c) where
  as_due : (f : Files) (d : SnapshotDue) → IsDueToFiles fns c f d → IsDue fns words f d
  as_due f d h = subst (λ o. MatchOption o (d ≡ due_of Words usage_line) (λ command. IsDueToFiles fns command f d)) (sym asked) h

  not_untaken : {P : Type 0} → asked_of words ≡ None → P
  not_untaken e = (let none : Some c ≡ None = sym asked ∙ e in absurd (cc none))

  -- a file gives nothing
  pub refusal_answer : (told : Told) (turns : List (List ℕ)) (first now : ℕ) (a : Answer) → IsRefusal c told turns first now a → IsAnswer fns words told turns first now a
  refusal_answer told turns first now a r =
      let k = r.answers in
      record {
        untaken = λ e. absurd (r.taken e);
        taken = λ e. not_untaken e;
        answers = record { no_want = k.no_want; no_write = k.no_write; rose = k.rose; named = k.named; is_due = λ final. step told (k.is_due final) };
      }
    where
      step : (told : Told) → IfSome told (λ f. RefusesFiles c f (due_of a.status a.text)) → IfSome told (λ f. IsDue fns words f (due_of a.status a.text))
      step None h = tt
      step (Some f) h =
          let d : SnapshotDue = due_of a.status a.text in
          as_due f d
          (more_of_script statuses c.script d (f c.script) (λ script e. WithTableFile statuses c.table (f c.table) (λ t g. ⊥) e) (λ script e. WithTableFile statuses c.table (f c.table) (λ t g. IsDueOver fns c script t.table g) e)
          (λ script. more_of_table statuses c.table d (f c.table) (λ t g. ⊥) (λ t g. IsDueOver fns c script t.table g) (λ t none. absurd none)) h)

  -- both files were read
  pub inputs_answer : (told : Told) (turns : List (List ℕ)) (first now : ℕ) (inputs : SnapshotInputs) (a : Answer) → AreInputs c told inputs → Answers (IsDueOver fns c inputs.script inputs.columns.table) a → IsAnswer fns words told turns first now a
  inputs_answer told turns first now inputs a i h = record {
    untaken = λ e. absurd (of_table a.status Words h.0 (λ x. x) e);
    taken = λ e. not_untaken e;
    answers = record {
      no_want = of_table a.status Memory h.0 (λ x. x);
      no_write = of_table a.status WriteFault h.0 (λ x. x);
      rose = λ e. absurd (of_table a.status ReadFault h.0 (λ x. x) e);
      named = λ e. absurd (of_table a.status ReadFault h.0 (λ x. x) e);
      is_due = λ final. step told i.script i.table;
    };
  }
    where
      step : (told : Told) → Tells told c.script (HoldsTheScript inputs.script) → Tells told c.table (HoldsTheTable (marked_in inputs.columns)) → IfSome told (λ f. IsDue fns words f (due_of a.status a.text))
      step None s t = tt
      step (Some f) s t =
          let d : SnapshotDue = due_of a.status a.text in
          as_due f d
          (script_read_due statuses c.script (f c.script) inputs.script (λ script e. WithTableFile statuses c.table (f c.table) (λ t g. IsDueOver fns c script t.table g) e) d s
          (table_read_due statuses c.table (f c.table) (marked_in inputs.columns) (λ t g. IsDueOver fns c inputs.script t.table g) d t h.1))

  pub turned : (told : Told) (before after : List (List ℕ)) → AreTurnedTo (c.script ∷ c.table ∷ []) (IsScriptFile told c.script) before after → TurnsBesides words told before after
  turned told before after h = subst (λ o. MatchOption o (after ≡ before) (λ c. AreTurnedTo (c.script ∷ c.table ∷ []) (IsScriptFile told c.script) before after)) (sym asked) h
