use Rattle.lemmas.proofs.{◌≡◌, ◌∙◌, ap, arith, get_or, List, slice_get}
use Rattle.rdf_values.specs.{ColType}
use Rattle.block_cache.specs.{own_key}
use Rattle.block_cache.proofs.LaneSteps.{below_selected}
use Rattle.block_cache.proofs.Attempts.{passed_with, truth_scalar}
use Rattle.block_cache.proofs.passing.pass_filter.Goals as goal

pub returns-in_err-fault-clause-plain : goal.returns-in_err-fault-clause-plain
returns-in_err-fault-clause-plain g c = λ used p q. absurd (c.in_err-fault.ensures.plain used p q)

pub keep_set-requires : goal.keep_set-requires
keep_set-requires g c = λ p h.
    let low = (below_selected c.in_ok-fault.fault c.requires.selected c.in_ok-fault.ensures.filled.left_is).inside p h in
    let ready = c.in_ok-fault.ensures.filled.ready in
    let many = ready.many in
    let same : (get_or c.fill_led.new.lanes c.key.result c.index-lanes-key.result).count ≡ c.args.wanted.now.block.now.count = ready.counts c.key.result c.index-lanes-key.result (omega (arith, c.key.ensures.small, many)) in
    omega (arith, low, same, c.column.ensures.long)

pub returns-clause-passed : goal.returns-clause-passed
returns-clause-passed g c =
    let many = c.in_ok-fault.ensures.filled.ready.many in
    let truth = ap (λ (l : List ColType). slice_get l (own_key c.args.wanted.now)) c.fill_led.ensures.spent.grown.kinds ∙ c.requires.truth in
    passed_with c.args.wanted.now c.in_ok-fault.ensures.filled _ c.index-lanes-key.result c.key.ensures.key (omega (arith, c.key.ensures.small, many)) truth c.in_ok-fault.ensures.settled c.requires.selected (rw c.column.ensures.numbers at c.keep_set.ensures)

pub column-requires : goal.column-requires
column-requires g c =
    let many = c.in_ok-fault.ensures.filled.ready.many in
    let truth = ap (λ (l : List ColType). slice_get l (own_key c.args.wanted.now)) c.fill_led.ensures.spent.grown.kinds ∙ c.requires.truth in
    truth_scalar c.args.wanted.now c.in_ok-fault.ensures.filled _ c.index-lanes-key.result c.key.ensures.key (omega (arith, c.key.ensures.small, many)) truth
