use Rattle.lemmas.proofs.{◌≡◌, ◌∙◌, ◌+◌, length, arith, rules, sym, w64, FitsSigned, vec_len}
use Rattle.std.proofs.lemmas.Int.{to_z-of_z}
use Rattle.histograms.proofs.Filling.{rises_of_axis, two_of_axis, bin-above, bin-found, bin-reached, bucket-within, exceeds_it, is_at_most, is_below, IsReached, not_below, reached-cell, reached-start}
use Rattle.histograms.proofs.edges.Edges.bin.Goals as goal
use Rattle.histograms.proofs.edges.Edges.bin.Goals.{After-from}

-- the cell after the test of one edge
reached : (c : After-from) → IsReached c.self.inside.edges.items c.args.value (c.start-start.result + c.from.result)
reached c =
    let first : FitsSigned w64 c.self.inside.buckets.first = search rules in
    let last : FitsSigned w64 c.self.inside.buckets.last = search rules in
    let edge : FitsSigned w64 c.index.result.now = search rules in
    reached-cell c.self.inside.edges.items c.self.inside.buckets c.args.value c.start-start.result c.from.result c.index.result.now c.self.invariant
    (not_below _ _ c.ranges.value first c.if-value-self.false) (exceeds_it _ _ last c.ranges.value c.if-value-self-2.false) c.ranges.value edge c.start-start.ensures c.index.ensures c.from.ensures

pub returns-then-value-self-clause-value : goal.returns-then-value-self-clause-value
returns-then-value-self-clause-value c =
    let two = two_of_axis c.self.inside.edges.items c.self.invariant.axis.rise in
    let rise = rises_of_axis c.self.inside.edges.items c.self.invariant.axis.rise in
    let first : FitsSigned w64 c.self.inside.buckets.first = search rules in
    rw (← c.self.view_is)
    (sym (bin-found c.self.inside.edges.items c.args.value 0 rise (omega arith) (λ k l. absurd (omega arith)) (rw c.self.invariant.buckets.first (is_below _ _ c.ranges.value first c.if-value-self.true))))

pub returns-then-value-self-2-clause-value : goal.returns-then-value-self-2-clause-value
returns-then-value-self-2-clause-value c =
    let two = two_of_axis c.self.inside.edges.items c.self.invariant.axis.rise in
    let rise = rises_of_axis c.self.inside.edges.items c.self.invariant.axis.rise in
    let last : FitsSigned w64 c.self.inside.buckets.last = search rules in
    let size : vec_len c.self.inside.edges ≡ length c.self.inside.edges.items = search rules in
    rw (← c.self.view_is)
    (c.len.ensures ∙ size ∙ sym (bin-above c.self.inside.edges.items c.args.value rise (omega arith) (rw c.self.invariant.buckets.last (is_at_most _ _ last c.ranges.value c.if-value-self-2.true))))

pub start-start-requires-clause-bucket : goal.start-start-requires-clause-bucket
start-start-requires-clause-bucket = grind (arith, not_below, exceeds_it, to_z-of_z, bucket-within)

pub index-requires : goal.index-requires
index-requires c =
    let first : FitsSigned w64 c.self.inside.buckets.first = search rules in
    let last : FitsSigned w64 c.self.inside.buckets.last = search rules in
    let low = not_below _ _ c.ranges.value first c.if-value-self.false in
    let high = exceeds_it _ _ last c.ranges.value c.if-value-self-2.false in
    let size : vec_len c.self.inside.edges ≡ length c.self.inside.edges.items = search rules in
    rw size (reached-start c.self.inside.edges.items c.self.inside.buckets c.args.value c.start-start.result c.self.invariant low high c.ranges.value c.start-start.ensures).within

pub overflow_add-cell : goal.overflow_add-cell
overflow_add-cell c =
    let within = (reached (goal.at.overflow_add-cell c).After-from).within in
    let few = c.self.invariant.axis.few in
    record { fits = omega arith }

pub index-requires-2 : goal.index-requires-2
index-requires-2 c =
    let size : vec_len c.self.inside.edges ≡ length c.self.inside.edges.items = search rules in
    rw size (reached (goal.at.index-requires-2 c).After-from).within

pub returns-then-value-index-clause-value : goal.returns-then-value-index-clause-value
returns-then-value-index-clause-value c =
    let above : FitsSigned w64 c.index-2.result.now = search rules in
    rw (← c.self.view_is) (bin-reached c.self.inside.edges.items c.args.value _ c.index-2.result.now c.self.invariant.axis.rise (reached (goal.at.returns-then-value-index-clause-value c).After-from) c.index-2.ensures (is_below _ _ c.ranges.value above c.if-value-index.true))

pub returns-then-value-index-clause-within : goal.returns-then-value-index-clause-within
returns-then-value-index-clause-within c =
    let within = (reached (goal.at.returns-then-value-index-clause-within c).After-from).within in
    rw (← c.self.view_is) (omega arith)
