-- Answers to a script's file and to a table's.
use Rattle.lemmas.proofs.{◌≡◌, ◌≤◌, ℕ, List, Option, None, Some, Result, Ok, Err, IfOk, IfSome, subst, arith}
use Rattle.rdf_values.specs.{Script}
use Rattle.input_files.proofs.Staging.{script_read_due}
use Rattle.input_files.specs.{HoldsTheScript, Tells, WithScriptFile}
use Rattle.shard_due.specs.{Files, IsFinal, ShardDue, ShardStatus, statuses}
use Rattle.shard_due.specs.declared.status.ShardStatus.TheVariants.{ReadFault}
use Rattle.shard_program.specs.{due_in, IsAnswer}
use Rattle.shard_program.specs.Answers.{Answers}
use Rattle.shard_program.specs.declared.answer.Answer.{Answer}

-- ---- answers

-- what holds of an answer, where there is one
pub if_ok : {E : Type 0} (P Q : Answer → Type 0) (r : Result Answer E) → ((a : Answer) → P a → Q a) → IfOk r P → IfOk r Q
if_ok P Q (Err e) step h = tt
if_ok P Q (Ok a) step h = step a h

-- what holds of all files that are told
pub each_file : (told : Option Files) (P Q : Files → Type 0) → ((f : Files) → P f → Q f) → IfSome told P → IfSome told Q
each_file None P Q step h = tt
each_file (Some f) P Q step h = step f h

pub any_file : (told : Option Files) (P : Files → Type 0) → ((f : Files) → P f) → IfSome told P
any_file None P h = tt
any_file (Some f) P h = h f

never_failed : (s : ShardStatus) → IsFinal s → s ≡ ReadFault → ⊥
never_failed s final e = subst IsFinal e final

-- an answer to one stage is one to the whole, where the stage is
pub staged : (P Q : Files → ShardDue → Type 0) (told : Option Files) (turns : List (List ℕ)) (f0 f1 f2 : ℕ) (a : Answer) → f0 ≤ f1 → ((d : ShardDue) → IfSome told (λ f. P f d) → IfSome told (λ f. Q f d)) → IsAnswer P told turns f1 f2 a → IsAnswer Q told turns f0 f2 a
staged P Q told turns f0 f1 f2 a le step is = record {
  of_files = is.of_files;
  failed = λ e. let r = is.failed e in record { rose = (let rose = r.rose in omega (arith, rose, le)); name = r.name; last = r.last; line = r.line };
  is_due = λ final. step (due_in a) (is.is_due final);
}

-- an answer that takes no file of the shelf
pub of_answer : (P : ShardDue → Type 0) (Q : Files → ShardDue → Type 0) (told : Option Files) (turns : List (List ℕ)) (f0 f1 : ℕ) (a : Answer) → ((d : ShardDue) → P d → IfSome told (λ f. Q f d)) → Answers P a → IsAnswer Q told turns f0 f1 a
of_answer P Q told turns f0 f1 a step h = record { of_files = h.of_files; failed = λ e. absurd (never_failed a.status h.final e); is_due = λ final. step (due_in a) h.is_due }

-- ---- scripts

module _ (Next : Files → Script → ShardDue → Type 0) (told : Option Files) (turns : List (List ℕ)) (f0 : ℕ) (name : List ℕ) where
  abbrev OfScript : Files → ShardDue → Type 0
  OfScript f d = WithScriptFile statuses name (f name) (λ script e. Next f script e) d

  -- the script that was read, and what follows
  script_read : (f1 f2 : ℕ) (script : Script) (a : Answer) → f0 ≤ f1 → Tells told name (HoldsTheScript script) → IsAnswer (λ f d. Next f script d) told turns f1 f2 a → IsAnswer OfScript told turns f0 f2 a
  script_read f1 f2 script a le holds is = staged (λ f d. Next f script d) OfScript told turns f0 f1 f2 a le (step told holds) is
    where
      step : (o : Option Files) → Tells o name (HoldsTheScript script) → (d : ShardDue) → IfSome o (λ f. Next f script d) → IfSome o (λ f. OfScript f d)
      step None h d n = tt
      step (Some f) h d n = script_read_due statuses name (f name) script (λ s e. Next f s e) d h n

pub script_read_ok : {E : Type 0} (Next : Files → Script → ShardDue → Type 0) (told : Option Files) (turns : List (List ℕ)) (f0 : ℕ) (name : List ℕ) (f1 f2 : ℕ) (script : Script) (r : Result Answer E) → f0 ≤ f1 → Tells told name (HoldsTheScript script)
    → IfOk r (IsAnswer (λ f d. Next f script d) told turns f1 f2) → IfOk r (IsAnswer (λ f d. WithScriptFile statuses name (f name) (λ s e. Next f s e) d) told turns f0 f2)
script_read_ok Next told turns f0 name f1 f2 script r le holds is =
    if_ok (IsAnswer (λ f d. Next f script d) told turns f1 f2) (IsAnswer (λ f d. WithScriptFile statuses name (f name) (λ s e. Next f s e) d) told turns f0 f2) r (λ a h. script_read Next told turns f0 name f1 f2 script a le holds h) is
