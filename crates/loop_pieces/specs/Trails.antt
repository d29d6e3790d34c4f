-- The trails of a piece, what each watched result comes to in each cluster alone; and the partial results of a loop, over the sets of clusters that it noted.
use Rattle.std.specs.Prelude.{◌≡◌, ◌<◌, ◌+◌, ◌^◌, ◌+ℤ◌, ⊤, ℕ, List, Some, slice_get, nat_abs, ◌&&◌, [], ◌∷◌, ◌++◌, All, is_none, if◌then◌else◌, length, map}
use Rattle.std.specs.Int.{int_max, int_min}
use Rattle.std.specs.List.Sorted.{IsStrictlyIncreasing}
use Rattle.rdf_values.specs.{ActionKind, is_watched, Pass, Span, Statement, stride}
use Rattle.rdf_model.specs.{IsLoopFacts, result_over, IsChain, kind_in, maximal_runs, Run}
use Rattle.actions.specs.{better_of_two}
use Rattle.loop_pieces.specs.declared.watch_piece.WatchFacts.{WatchFacts}
use Rattle.loop_pieces.specs.declared.watch_piece.WatchPiece.{WatchPiece}
use Rattle.loop_pieces.specs.declared.watch_piece.WatchPiece.TheVariants.{Count, Sum, Least, Greatest}
use Rattle.rdf_model.specs.declared.loop_facts.LoopFacts.{LoopFacts}
use Rattle.merge_core.specs.{Noted}
use Rattle.loop_pieces.specs.declared.loop_piece.PartialLine.{PartialLine}
use Rattle.rdf_values.specs.results.Fold as fold

-- ---- what a piece of a watched result stands for

-- the result that it holds
abbrev pub watch_filled : WatchPiece → fold.Filled
watch_filled (Count n) = fold.Count n
watch_filled (Sum z) = fold.Sum z
watch_filled (Least z) = fold.Extreme z
watch_filled (Greatest z) = fold.Extreme z

-- it is one of an action of that kind
abbrev pub IsOfKind : ActionKind → WatchPiece → Type 0
IsOfKind ActionKind.Count (Count n) = ⊤
IsOfKind (ActionKind.Sum c) (Sum z) = ⊤
IsOfKind (ActionKind.Min c) (Least z) = ⊤
IsOfKind (ActionKind.Max c) (Greatest z) = ⊤
IsOfKind k piece = ⊥

-- the piece is what the watched action pass comes to over that set of clusters
pub record WatchStandsFor (w : WatchFacts) (set : List ℕ) (piece : WatchPiece) : Type 0 where
  pub facts : IsLoopFacts w.facts
  pub rises : IsStrictlyIncreasing set
  pub kind : ActionKind
  pub its_kind : slice_get w.facts.kinds w.watched ≡ Some kind
  pub is_of_kind : IsOfKind kind piece
  pub result : watch_filled piece ≡ result_over w.facts set w.watched kind

-- two of one kind, which fit together
abbrev pub CanAdd : WatchPiece → WatchPiece → Type 0
CanAdd (Count n) (Count m) = n + m < 2 ^ 64
CanAdd (Sum y) (Sum z) = nat_abs y + nat_abs z < 2 ^ 127
CanAdd (Least y) (Least z) = ⊤
CanAdd (Greatest y) (Greatest z) = ⊤
CanAdd p q = ⊥

-- what two of one kind come to together
abbrev pub added : WatchPiece → WatchPiece → WatchPiece
added (Count n) (Count m) = Count (n + m)
added (Sum y) (Sum z) = Sum (y +ℤ z)
added (Least y) (Least z) = Least (better_of_two int_min y z)
added (Greatest y) (Greatest z) = Greatest (better_of_two int_max y z)
added p q = p

-- the place of a pass, where it is the nominal one of an action that the script watches
abbrev pub place_if_watched : List Statement → ℕ → Pass → List ℕ
place_if_watched script n p = if is_none p.under && is_watched script p.result.name then map (λ k. n) (kind_in p.result.booking) else []

-- the places of the watched passes among the action passes, which are numbered from n on
abbrev pub watched_from : List Statement → ℕ → List Pass → List ℕ
watched_from script n [] = []
watched_from script n (p ∷ ps) = place_if_watched script n p ++ watched_from script (n + length (kind_in p.result.booking)) ps

-- the places among the action passes of the nominal passes of the watched results, in the order of booking
abbrev pub watched_places : List Statement → List Pass → List ℕ
watched_places script ps = watched_from script 0 ps

-- what the action pass of that place is watched for
abbrev pub watch_facts : LoopFacts → ℕ → WatchFacts
watch_facts facts place = record { facts = facts; watched = place }

-- the trail names these clusters in this order, each with a piece that stands for it alone
pub record IsTrail (facts : LoopFacts) (place : ℕ) (done : List ℕ) (trail : List (Noted WatchPiece)) : Type 0 where
  pub clusters : map (λ (n : Noted WatchPiece). n.cluster) trail ≡ done
  pub alone : All (λ (n : Noted WatchPiece). WatchStandsFor (watch_facts facts place) (n.cluster ∷ []) n.piece) trail

-- there is a trail for each watched place, over the clusters in the order in which they were processed
pub record HaveTrails (facts : LoopFacts) (watched : List ℕ) (done : List ℕ) (trails : List (List (Noted WatchPiece))) : Type 0 where
  pub many : length trails ≡ length watched
  pub each : (w place : ℕ) (trail : List (Noted WatchPiece)) → slice_get watched w ≡ Some place → slice_get trails w ≡ Some trail → IsTrail facts place done trail

-- ---- partial results

-- a run from its first number to below the one after its last
abbrev pub span_of : Run → Span
span_of r = record { lo = r.first; hi = r.last + 1 }

-- the line names the set by its maximal runs, and its value is what the watched result comes to over the set
pub record IsPartialLine (facts : LoopFacts) (place : ℕ) (set : List ℕ) (line : PartialLine) : Type 0 where
  pub runs : line.runs ≡ map span_of (maximal_runs set)
  pub stands : WatchStandsFor (watch_facts facts place) set line.value

-- a line for each set, in order
abbrev pub ArePartialLines : LoopFacts → ℕ → List (List ℕ) → List PartialLine → Type 0
ArePartialLines facts place [] [] = ⊤
ArePartialLines facts place (set ∷ sets) (l ∷ ls) = IsPartialLine facts place set l × ArePartialLines facts place sets ls
ArePartialLines facts place sets ls = ⊥

-- each watched result has its partial results, all over the same sets, which a loop notes after every k-th cluster
pub record HavePartials (facts : LoopFacts) (watched : List ℕ) (k : ℕ) (partials : List (List PartialLine)) : Type 0 where
  pub sets : List (List ℕ)
  pub chain : 0 < length watched → IsChain (length facts.ranges) (stride (length facts.ranges) k) sets
  pub many : length partials ≡ length watched
  pub each : (w place : ℕ) (lines : List PartialLine) → slice_get watched w ≡ Some place → slice_get partials w ≡ Some lines → ArePartialLines facts place sets lines
