use Rattle.lemmas.proofs.{◌≡◌, ◌≤◌, ◌+◌, ◌++◌, ℕ, List, All, take, flat_map}
use Rattle.rdf_values.specs.{spread}
use Rattle.actions.specs.{Fed, from_cluster, Holds, IsWithin, kind_of, places_of, values_at}
use Rattle.actions.proofs.state.State.feed_each.Given as goal

abbrev pub invariant-loop-i : goal.invariant-loop-i
invariant-loop-i l = record {
  kind : kind_of l.self ≡ kind_of l.initial.self;
  within : (n : ℕ) → IsWithin n l.initial.self → IsWithin (n + l.i) l.self;
  fed : (fed : List Fed) → All (λ f. f.cluster ≤ l.cluster) fed → Holds l.initial.self fed
      → Holds l.self (fed ++ from_cluster l.cluster (flat_map (λ p. spread (kind_of l.initial.self) (values_at l.batch.sources p)) (take l.i (places_of l.batch.places))));
}
