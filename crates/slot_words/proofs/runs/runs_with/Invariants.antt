use Rattle.lemmas.proofs.{◌≡◌, ◌+◌, ◌≤◌, ℕ, List, [], ◌∷◌, length, map, take}
use Rattle.rdf_values.specs.{IsUnion}
use Rattle.rdf_model.specs.{maximal_runs}
use Rattle.loop_pieces.specs.{span_of}
use Rattle.slot_words.proofs.Joining.{IsJoining}
use Rattle.slot_words.proofs.runs.runs_with.Given as goal

abbrev pub invariant-loop-i : goal.invariant-loop-i
invariant-loop-i l = record {
  runs_within : l.i ≤ length l.runs;
  numbers_within : l.k ≤ length l.numbers;
  joining : (xs all : List ℕ) → l.runs ≡ map span_of (maximal_runs xs) → IsUnion (xs ∷ l.numbers ∷ []) all → IsJoining all (take l.i (maximal_runs xs)) (take l.k l.numbers) l.joined.items;
}

abbrev pub decreases-loop-i : goal.decreases-loop-i
decreases-loop-i l = l.i + l.k
