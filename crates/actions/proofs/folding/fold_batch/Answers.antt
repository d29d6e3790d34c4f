use Rattle.lemmas.proofs.{arith, ℤ, ◌++◌, List, append-nil, sym, subst, ◌∙◌, ap}
use Rattle.actions.specs.{places_of}
use Rattle.actions.proofs.Batching.{few_numbers, no_numbers_in}
use Rattle.actions.proofs.folding.fold_batch.Goals as goal

pub fold_lane-requires-clause-room : goal.fold_lane-requires-clause-room
fold_lane-requires-clause-room g c =
    let few = few_numbers c.args.batch.now.sources c.in-Some.lane (places_of c.args.batch.now.places) (sym c.in-Some.ensures) c.requires.short in
    let room = c.requires.room in
    let count = c.requires.few in
    omega (arith, few, room, count)

pub returns-in-Some-clause-bounded : goal.returns-in-Some-clause-bounded
returns-in-Some-clause-bounded g c =
    let few = few_numbers c.args.batch.now.sources c.in-Some.lane (places_of c.args.batch.now.places) (sym c.in-Some.ensures) c.requires.short in
    let bounded = c.fold_lane.ensures.bounded in
    omega (arith, few, bounded)

pub returns-in_default-clause-folded : goal.returns-in_default-clause-folded
returns-in_default-clause-folded g c = λ start before h.
    let none = no_numbers_in c.args.batch.now.sources (places_of c.args.batch.now.places) (sym c.in_default.ensures) in
    subst (λ (l : List ℤ). g.F.Folds.folded start c.args.folder.now l) (sym (append-nil before) ∙ ap (λ l. before ++ l) (sym none)) h
