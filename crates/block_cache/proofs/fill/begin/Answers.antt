use Rattle.lemmas.proofs.{◌≡◌, ◌==◌, ◌∷◌, [], List, arith, length, refl, sym, true, not-true}
use Rattle.std.proofs.lemmas.Bool.Decides.{Decides-eqb}
use Rattle.expr_lanes.specs.{Stopped}
use Rattle.block_cache.proofs.LaneSteps.{on_err, filter_passes}
use Rattle.block_cache.proofs.UnderwayLaws.{began, began_broken, began_rest, began_selected, began_whole}
use Rattle.block_cache.proofs.fill.begin.Goals as goal

none_stopped : (stops : List Stopped) → (length stops == 0) ≡ true → stops ≡ []
none_stopped [] h = refl
none_stopped (x ∷ stops) h = let e : length (x ∷ stops) ≡ 0 = (Decides-eqb (length (x ∷ stops)) 0).0 h in absurd (omega (arith, e))

pub attempt-requires-clause-selected : goal.attempt-requires-clause-selected
attempt-requires-clause-selected g c =
    began_selected c.args.wanted.now c.requires.ready c.requires.selected c.requires.settled (rw c.copy_from.ensures at c.keep_lacking.ensures)

pub attempt-requires-clause-lacks : goal.attempt-requires-clause-lacks
attempt-requires-clause-lacks = grind (arith, not-true, filter_passes)

pub returns-in_err-found-clause-spent : goal.returns-in_err-found-clause-spent
returns-in_err-found-clause-spent g c =
    on_err c.from_residual.result (began_broken c.args.wanted.now c.requires.ready c.requires.selected c.requires.settled (rw c.copy_from.ensures at c.keep_lacking.ensures) c.in_err-found.ensures.broken)

pub returns-then-is_empty-clause-underway : goal.returns-then-is_empty-clause-underway
returns-then-is_empty-clause-underway g c =
    let whole = c.in_ok-found.ensures.whole (none_stopped _ (sym c.if-is_empty.ensures)) in
    began c.args.wanted.now c.requires.ready c.requires.selected c.requires.settled (rw c.copy_from.ensures at c.keep_lacking.ensures)
    (began_whole c.args.wanted.now c.requires.ready c.requires.selected c.requires.settled (rw c.copy_from.ensures at c.keep_lacking.ensures) c.in_ok-found.ensures.attempted whole c.select_first.ensures) c.in_ok-found.ensures.steps

pub returns-clause-underway : goal.returns-clause-underway
returns-clause-underway g c =
    began c.args.wanted.now c.requires.ready c.requires.selected c.requires.settled (rw c.copy_from.ensures at c.keep_lacking.ensures)
    (began_rest c.args.wanted.now c.requires.ready c.requires.selected c.requires.settled (rw c.copy_from.ensures at c.keep_lacking.ensures) c.in_ok-found.ensures.attempted c.narrow.ensures.needs (rw c.copy_from-2.ensures at c.narrow.ensures.narrowed)) c.in_ok-found.ensures.steps
