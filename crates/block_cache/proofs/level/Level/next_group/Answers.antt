use Rattle.lemmas.proofs.{◌<◌, get_or, List, ℕ, subst, sym}
use Rattle.expr_lanes.proofs.Composed.{is_in_at}
use Rattle.block_cache.proofs.level.Level.next_group.Goals as goal

pub bounds-self-places : goal.bounds-self-places
bounds-self-places c =
    let low = c.requires.inside (get_or c.args.self.now.lacking 0 0) (is_in_at c.args.self.now.lacking 0 0 c.requires.some) in
    subst (λ (l : List ℕ). get_or l 0 0 < 1024) (sym c.as_slice-places.ensures.value) low
