use Rattle.lemmas.proofs.{◌≡◌, ◌≤◌, List, Some, length, map, take}
use Rattle.rdf_values.specs.{Pass as NamedPass}
use Rattle.rdf_model.specs.{kinds_in}
use Rattle.graph_numbers.specs.{booked_statements, pass_at}
use Rattle.loop_pieces.specs.{watched_places}
use Rattle.event_loop.proofs.place.counts_of.Given as goal

abbrev pub invariant-loop-pass : goal.invariant-loop-pass
invariant-loop-pass l = record {
  few_actions : l.actions ≤ l.pass-index;
  few_watched : l.watched ≤ l.pass-index;
  each : (qs : List NamedPass) → map (pass_at (booked_statements l.graph)) l.passes ≡ map (λ q. Some q) qs
      → (l.actions ≡ length (kinds_in (take l.pass-index qs))) × (l.watched ≡ length (watched_places (booked_statements l.graph) (take l.pass-index qs)));
}
