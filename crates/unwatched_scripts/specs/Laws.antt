-- Laws of dropped Watch lines. Each is the contract of a function of this crate, and so proved.
use Rattle.std.specs.Prelude.{◌≡◌, ℕ, List, []}
use Rattle.rdf_values.specs.{Booked, history, Script}
use Rattle.rdf_model.specs.{Course, Dataset, loop_passes, loop_results, transcript}
use Rattle.unwatched_scripts.specs.Unwatched.{unwatched}

-- the loops fill the same results, with the same passes
abbrev pub DroppedWatchesChangeNoLoop : Type 0
DroppedWatchesChangeNoLoop =
    (script : Script)
    → (loop_results (history (unwatched script)) ≡ loop_results (history script))
    × ((results : List Booked) → loop_passes (history (unwatched script)) results ≡ loop_passes (history script) results)

-- the transcript is that of the script in a course in which no loop noted a set of clusters
abbrev pub DroppedWatchesDropPartialLines : Type 0
DroppedWatchesDropPartialLines =
    (script : Script) (d : Dataset) (course unnoted : Course)
    → ((l : ℕ) → unnoted.chains l ≡ []) → transcript (unwatched script) d course ≡ transcript script d unnoted
