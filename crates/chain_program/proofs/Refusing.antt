-- Answers of the stages of tables and parts that refuse a file.
use Rattle.lemmas.proofs.{◌≡◌, ℕ, List, [], ◌∷◌, Option}
use Rattle.rdf_values.specs.{Function, MarkedTable, Script}
use Rattle.input_files.specs.{due_of, HoldsTheTable, Tells}
use Rattle.chain_files.specs.{in_order, PartView}
use Rattle.chain_due.specs.{ChainDue, Files, IsEachPrinted, IsJoinDue, IsJoined, IsPrintDue, WithFitting, WithParts, WithTableFile}
use Rattle.chain_program.specs.{AllFitScript, ArePartsOf, HoldParts, IsAnswer, IsJoinedBy, IsPrintedBy}
use Rattle.chain_program.specs.Answers.{Answers}
use Rattle.chain_program.specs.declared.answer.Answer.{Answer}
use Rattle.chain_program.specs.declared.fitting.Fitting.{Fitting}
use Rattle.chain_program.proofs.Joining.{joined_is_due, printed_is_due}
use Rattle.chain_program.proofs.Parting.{fitting_goes, fitting_stops, parts_go, parts_stop}
use Rattle.chain_program.proofs.Staging.{all_told, each_told, ends, from_told, stands, table_goes}

module _ (told : Option Files) (name : List ℕ) (turns : List (List ℕ)) (f0 f1 : ℕ) (a : Answer) where
  -- ---- tables

  -- a table, and an answer to it
  pub of_table : (t : MarkedTable) (Next : MarkedTable → ChainDue → Type 0) → Tells told name (HoldsTheTable t) → Answers (Next t) a → IsAnswer (λ files d. WithTableFile files name Next d) told turns f0 f1 a
  of_table t Next hold h =
      ends told turns f0 f1 a (Next t) (λ files d. WithTableFile files name Next d) h
      (from_told told name (HoldsTheTable t) (λ files. (d : ChainDue) → Next t d → WithTableFile files name Next d) hold (λ files k d next. table_goes files name t Next d k next))

module _ (told : Option Files) (names : List (List ℕ)) (turns : List (List ℕ)) (f0 f1 : ℕ) (a : Answer) where
  -- ---- parts

  -- no part, whatever would follow
  pub no_parts : (Next : List PartView → ChainDue → Type 0) → IsAnswer (λ files d. WithParts files 0 [] names (λ ss e. ⊥) d) told turns f0 f1 a → IsAnswer (λ files d. WithParts files 0 [] names Next d) told turns f0 f1 a
  no_parts Next h =
      stands told turns f0 f1 a (λ files d. WithParts files 0 [] names (λ ss e. ⊥) d) (λ files d. WithParts files 0 [] names Next d)
      (all_told told (λ files. (d : ChainDue) → WithParts files 0 [] names (λ ss e. ⊥) d → WithParts files 0 [] names Next d) (λ files d e. parts_stop names files 0 [] Next d e)) h

  -- the parts, and an answer to them
  pub of_parts : (parts : List PartView) (Next : List PartView → ChainDue → Type 0) → ArePartsOf told names parts → Answers (Next parts) a → IsAnswer (λ files d. WithParts files 0 [] names Next d) told turns f0 f1 a
  of_parts parts Next hold h =
      ends told turns f0 f1 a (Next parts) (λ files d. WithParts files 0 [] names Next d) h
      (each_told told (λ files. HoldParts files 0 names parts) (λ files. (d : ChainDue) → Next parts d → WithParts files 0 [] names Next d) (λ files k d next. parts_go names files 0 [] parts Next d k next) hold.hold)

  module _ (fns : List Function) (bytes : List ℕ) (script : Script) (parts : List PartView) (hold : ArePartsOf told names parts) where
    -- parts that aren't of the script
    pub unfitting : (Next : List PartView → ChainDue → Type 0) → Answers (λ d. WithFitting fns bytes script names parts (λ e. ⊥) d) a
        → IsAnswer (λ files d. WithParts files 0 [] names (λ ss e. WithFitting fns bytes script names ss (λ g. Next ss g) e) d) told turns f0 f1 a
    unfitting Next h = of_parts parts (λ ss e. WithFitting fns bytes script names ss (λ g. Next ss g) e) hold (h.0, fitting_stops fns bytes script names parts (λ g. Next parts g) (due_of a.status a.text) h.1)

    -- parts that are joined, or not each once
    pub joined : (f : Fitting) → AllFitScript fns bytes script parts f → Answers (IsJoinedBy f.shapes (in_order parts)) a → IsAnswer (IsJoinDue fns bytes script names) told turns f0 f1 a
    joined f fit h =
        of_parts parts (λ ss e. WithFitting fns bytes script names ss (λ g. IsJoined fns script (in_order ss) g) e) hold
        (h.0, fitting_goes fns bytes script names parts f (λ g. IsJoined fns script (in_order parts) g) (due_of a.status a.text) fit (joined_is_due fns bytes script parts f (due_of a.status a.text) fit h.1))

-- a part that is printed, or of other files
pub printed : (told : Option Files) (name : List ℕ) (turns : List (List ℕ)) (f0 f1 : ℕ) (a : Answer) (fns : List Function) (bytes : List ℕ) (script : Script) (parts : List PartView) (part : PartView) (count : ℕ) (f : Fitting) → ArePartsOf told (name ∷ []) parts
    → parts ≡ part ∷ [] → AllFitScript fns bytes script parts f → Answers (IsPrintedBy f.graph count part) a → IsAnswer (IsPrintDue fns bytes script count name) told turns f0 f1 a
printed told name turns f0 f1 a fns bytes script parts part count f hold one fit h =
    of_parts told (name ∷ []) turns f0 f1 a parts (λ ss e. WithFitting fns bytes script (name ∷ []) ss (λ g. IsEachPrinted fns script count ss g) e) hold
    (h.0, fitting_goes fns bytes script (name ∷ []) parts f (λ g. IsEachPrinted fns script count parts g) (due_of a.status a.text) fit (printed_is_due fns bytes script parts part f count (due_of a.status a.text) one fit h.1))
