-- Answers from stage to stage.
use Rattle.lemmas.proofs.{Result, Ok, Err, IfOk, ◌≡◌, ◌≤◌, inl, inr, ℕ, Bool, true, false, List, [], ◌∷◌, ◌++◌, length, nat_lt, Option, None, Some, IfSome, arith, sym, subst, MatchOption, MatchResult, OnOk, le-ltb, MatchBool}
use Rattle.rdf_outside.specs.{Rose}
use Rattle.rdf_values.specs.{Column, fn_names, Function, graph_cause_line, GraphCause, IsScript, long_script_line, long_table_line, MarkedTable, read_failed_line, Script, table_cause_line, table_of, TableCause, verdict}
use Rattle.table_csv.specs.{csv_records}
use Rattle.input_files.specs.{due_of, HoldsTheTable, max_script, max_table, ReadsScript, Tells, WithFile, WithScript}
use Rattle.chain_due.specs.{ChainDue, ChainStatus, Files, statuses, table_line, WithAccepted, WithTable, WithTableFile}
use Rattle.chain_due.specs.declared.status.ChainStatus.TheVariants.{ReadFault, ScriptRefused, TableRefused}
use Rattle.chain_program.specs.{HoldsTheText, IsAnswer, IsOfFiles, IsUnread, WithText}
use Rattle.chain_program.specs.Answers.{Answers}
use Rattle.chain_program.specs.declared.answer.Answer.{Answer}
use Rattle.chain_program.specs.declared.scripts.ScriptText.{ScriptText}

-- ---- what the shelf tells

pub from_told : (told : Option Files) (name : List ℕ) (P : Option (List ℕ) → Type 0) (Q : Files → Type 0) → Tells told name P → ((files : Files) → P (files name) → Q files) → IfSome told Q
from_told None name P Q t step = tt
from_told (Some files) name P Q t step = step files t

pub both_told : (told : Option Files) (P Q R : Files → Type 0) → IfSome told P → IfSome told Q → ((files : Files) → P files → Q files → R files) → IfSome told R
both_told None P Q R p q step = tt
both_told (Some files) P Q R p q step = step files p q

pub each_told : (told : Option Files) (P Q : Files → Type 0) → ((files : Files) → P files → Q files) → IfSome told P → IfSome told Q
each_told None P Q step p = tt
each_told (Some files) P Q step p = step files p

pub all_told : (told : Option Files) (P : Files → Type 0) → ((files : Files) → P files) → IfSome told P
all_told None P h = tt
all_told (Some files) P h = h files

-- ---- answers

-- an answer that is due in one stage is due in the one before it
pub goes_on : (told : Option Files) (turns : List (List ℕ)) (f0 f1 f2 : ℕ) (a : Answer) (P Q : Files → ChainDue → Type 0) → IfSome told (λ files. (d : ChainDue) → P files d → Q files d) → f0 ≤ f1 → IsAnswer P told turns f1 f2 a → IsAnswer Q told turns f0 f2 a
goes_on told turns f0 f1 f2 a P Q step le (inl h) = inl (
  h.0,
  both_told told (λ files. (d : ChainDue) → P files d → Q files d) (λ files. P files (due_of a.status a.text)) (λ files. Q files (due_of a.status a.text)) step h.1 (λ files s p. s (due_of a.status a.text) p),
)
goes_on told turns f0 f1 f2 a P Q step le (inr u) = inr (let r = u.rose in record { status = u.status; rose = omega arith; name = u.name; last = u.last; text = u.text })

-- the same where nothing was read since
pub stands : (told : Option Files) (turns : List (List ℕ)) (f0 f1 : ℕ) (a : Answer) (P Q : Files → ChainDue → Type 0) → IfSome told (λ files. (d : ChainDue) → P files d → Q files d) → IsAnswer P told turns f0 f1 a → IsAnswer Q told turns f0 f1 a
stands told turns f0 f1 a P Q step h = goes_on told turns f0 f0 f1 a P Q step (omega arith) h

-- an answer that is due whatever the files
pub ends : (told : Option Files) (turns : List (List ℕ)) (f0 f1 : ℕ) (a : Answer) (P : ChainDue → Type 0) (Q : Files → ChainDue → Type 0) → Answers P a → IfSome told (λ files. (d : ChainDue) → P d → Q files d) → IsAnswer Q told turns f0 f1 a
ends told turns f0 f1 a P Q h step = inl (h.0, each_told told (λ files. (d : ChainDue) → P d → Q files d) (λ files. Q files (due_of a.status a.text)) (λ files s. s (due_of a.status a.text) h.1) step)

pub of_files : (status s : ChainStatus) → IsOfFiles s → status ≡ s → IsOfFiles status
of_files status s h e = subst IsOfFiles (sym e) h

pub as_due : (a : Answer) (status : ChainStatus) (bytes : List ℕ) → a.status ≡ status → a.text ≡ bytes → due_of a.status a.text ≡ due_of status bytes
as_due a status bytes s t = λ i. due_of (s i) (t i)

pub unread : (turns before : List (List ℕ)) (f0 f1 : ℕ) (name : List ℕ) (a : Answer) → turns ≡ before ++ name ∷ [] → Rose f0 f1 → a.status ≡ ReadFault → a.text ≡ read_failed_line name → IsUnread turns f0 f1 a
unread turns before f0 f1 name a at rose s t = record { status = s; rose = rose; name = name; last = record { earlier = before; last = at }; text = t }

-- ---- tests of lengths

pub if_true : (b : Bool) (P Q : Type 0) → b ≡ true → P → MatchBool b P Q
if_true true P Q e p = p
if_true false P Q e p = absurd (cc e)

-- ---- scripts

pub script_text_stops : (bytes : List ℕ) (Next : Script → ChainDue → Type 0) (d : ChainDue) → WithScript statuses bytes (λ s e. ⊥) d → WithScript statuses bytes Next d
script_text_stops bytes Next d h = go (nat_lt max_script (length bytes)) h
  where
    reads : ReadsScript statuses bytes (λ s e. ⊥) d → ReadsScript statuses bytes Next d
    reads (inl r) = inl r
    reads (inr r) = absurd r.2

    go : (b : Bool) → MatchBool b (d ≡ due_of ScriptRefused long_script_line) (ReadsScript statuses bytes (λ s e. ⊥) d) → MatchBool b (d ≡ due_of ScriptRefused long_script_line) (ReadsScript statuses bytes Next d)
    go true e = e
    go false r = reads r

pub script_stops : (files : Files) (name : List ℕ) (Next : List ℕ → Script → ChainDue → Type 0) (d : ChainDue) → WithText files name (λ bytes s e. ⊥) d → WithText files name Next d
script_stops files name Next d h = go (files name) h
  where
    go : (file : Option (List ℕ)) → WithFile statuses name file (λ bytes e. WithScript statuses bytes (λ s g. ⊥) e) d → WithFile statuses name file (λ bytes e. WithScript statuses bytes (Next bytes) e) d
    go None e = e
    go (Some bytes) e = script_text_stops bytes (Next bytes) d e

pub script_goes : (files : Files) (name : List ℕ) (t : ScriptText) (Next : List ℕ → Script → ChainDue → Type 0) (d : ChainDue) → HoldsTheText t (files name) → Next t.bytes t.script d → WithText files name Next d
script_goes files name t Next d h next = go (files name) h
  where
    text : (bytes : List ℕ) → t.bytes ≡ bytes → IsScript bytes t.script → (b : Bool) → b ≡ false → MatchBool b (d ≡ due_of ScriptRefused long_script_line) (ReadsScript statuses bytes (Next bytes) d)
    text bytes same is true e = absurd (cc e)
    text bytes same is false e = inr (t.script, is, subst (λ b. Next b t.script d) same next)

    go : (file : Option (List ℕ)) → HoldsTheText t file → WithFile statuses name file (λ bytes e. WithScript statuses bytes (Next bytes) e) d
    go None k = absurd k
    go (Some bytes) k = text bytes k.0 k.2 (nat_lt max_script (length bytes)) (le-ltb max_script (length bytes) k.1)

-- ---- tables

pub table_goes : (files : Files) (name : List ℕ) (t : MarkedTable) (Next : MarkedTable → ChainDue → Type 0) (d : ChainDue) → HoldsTheTable t (files name) → Next t d → WithTableFile files name Next d
table_goes files name t Next d h next = go (files name) h
  where
    text : (b : Bool) (r : Result MarkedTable TableCause) → b ≡ false → r ≡ Ok t
        → MatchBool b (d ≡ due_of TableRefused (table_line name long_table_line)) (MatchResult r (λ t. Next t d) (λ cause. d ≡ due_of TableRefused (table_line name (table_cause_line cause))))
    text true r e is = absurd (cc e)
    text false (Ok u) e is = (let same : u ≡ t = cc is in subst (λ x. Next x d) (sym same) next)
    text false (Err cause) e is = absurd (cc is)

    go : (file : Option (List ℕ)) → HoldsTheTable t file → WithFile statuses name file (λ bytes e. WithTable name bytes Next e) d
    go None k = absurd k
    go (Some bytes) k = text (nat_lt max_table (length bytes)) (table_of (csv_records bytes)) (le-ltb max_table (length bytes) k.0) k.1

-- a stage behind a table, in place of another
pub table_instead : (files : Files) (name : List ℕ) (P Q : MarkedTable → ChainDue → Type 0) (d : ChainDue) → ((t : MarkedTable) → P t d → Q t d) → WithTableFile files name P d → WithTableFile files name Q d
table_instead files name P Q d step h = go (files name) h
  where
    text : (b : Bool) (r : Result MarkedTable TableCause)
        → MatchBool b (d ≡ due_of TableRefused (table_line name long_table_line)) (MatchResult r (λ t. P t d) (λ cause. d ≡ due_of TableRefused (table_line name (table_cause_line cause))))
        → MatchBool b (d ≡ due_of TableRefused (table_line name long_table_line)) (MatchResult r (λ t. Q t d) (λ cause. d ≡ due_of TableRefused (table_line name (table_cause_line cause))))
    text true r e = e
    text false (Ok t) e = step t e
    text false (Err cause) e = e

    go : (file : Option (List ℕ)) → WithFile statuses name file (λ bytes e. WithTable name bytes P e) d → WithFile statuses name file (λ bytes e. WithTable name bytes Q e) d
    go None e = e
    go (Some bytes) e = text (nat_lt max_table (length bytes)) (table_of (csv_records bytes)) e

-- ---- scripts over columns

module _ (fns : List Function) (script : Script) (columns : List Column) where
  pub accepted_stops : (Next : ChainDue → Type 0) (d : ChainDue) → WithAccepted fns script columns (λ e. ⊥) d → WithAccepted fns script columns Next d
  accepted_stops Next d h = go (verdict (fn_names fns) columns script) h
    where
      go : (o : Option (ℕ × GraphCause)) → MatchOption o ⊥ (λ refused. d ≡ due_of ScriptRefused (graph_cause_line refused.0 refused.1)) → MatchOption o (Next d) (λ refused. d ≡ due_of ScriptRefused (graph_cause_line refused.0 refused.1))
      go None e = absurd e
      go (Some refused) e = e

  pub accepted_goes : (Next : ChainDue → Type 0) (d : ChainDue) → verdict (fn_names fns) columns script ≡ None → Next d → WithAccepted fns script columns Next d
  accepted_goes Next d v next = go (verdict (fn_names fns) columns script) v
    where
      go : (o : Option (ℕ × GraphCause)) → o ≡ None → MatchOption o (Next d) (λ refused. d ≡ due_of ScriptRefused (graph_cause_line refused.0 refused.1))
      go None e = next
      go (Some refused) e = absurd (cc e)

-- ---- results

pub if_ok : {A E : Type 0} (r : Result A E) (P Q : A → Type 0) → ((a : A) → P a → Q a) → IfOk r P → IfOk r Q
if_ok (Ok a) P Q step h = step a h
if_ok (Err e) P Q step h = tt

pub always_ok : {A E : Type 0} (r : Result A E) (P : Type 0) → P → OnOk r P
always_ok (Ok a) P p = p
always_ok (Err e) P p = tt
