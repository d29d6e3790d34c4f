use Rattle.lemmas.proofs.{◌≡◌, drop}
use Rattle.rdf_values.specs.{ActionKind}
use Rattle.actions.specs.{EachPlace, first_fault_in, places_of, SuitsAt}
use Rattle.actions.proofs.batch.Batch.first_fault.Given as goal

abbrev pub invariant-loop-i : goal.invariant-loop-i
invariant-loop-i l = (kind : ActionKind) → EachPlace l.self.places (SuitsAt kind l.self.sources)
    → first_fault_in kind l.self.sources (places_of l.self.places) ≡ first_fault_in kind l.self.sources (drop l.i (places_of l.self.places))
