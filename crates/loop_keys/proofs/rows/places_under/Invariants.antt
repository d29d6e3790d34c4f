use Rattle.lemmas.proofs.{◌≡◌}
use Rattle.graph_numbers.specs.{graph_sources, source_in}
use Rattle.loop_keys.specs.{AreEach, key_under, place_of}
use Rattle.loop_keys.proofs.rows.places_under.Given as goal

abbrev pub invariant-loop-version : goal.invariant-loop-version
invariant-loop-version l = AreEach (λ c p. p ≡ place_of (key_under l.graph l.under) (source_in (graph_sources l.graph l.under) c)) l.version l.places
