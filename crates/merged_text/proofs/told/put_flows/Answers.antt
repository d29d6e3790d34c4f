use Rattle.lemmas.proofs.{◌++◌, ap, ◌∙◌, inl, inr, arith, sym, on_ok, slice_get-get_or}
use Rattle.graph_numbers.specs.{graph_filters}
use Rattle.merged_text.proofs.Flows.{first_flow, flow_end, flow_next, no_flows}
use Rattle.merged_text.proofs.told.put_flows.Goals as goal
use Rattle.merged_text.proofs.told.put_flows.Goals.{then-covered-eq0-via-then-covered-eq0, then-covered-eq0-via-else-covered-eq0+then-counts-eq0}

pub returns-then-covered-eq0 : goal.returns-then-covered-eq0
returns-then-covered-eq0 c = on_ok c.extend-then-covered-eq0.result _ _
    (λ e. no_flows (graph_filters c.args.graph.now) c.args.text.now c.extend.new.self c.extend-then-covered-eq0.new.self c.args.name.now c.args.covered.now c.args.counts.now
    (elim c.then-covered-eq0.branch [ then-covered-eq0-via-then-covered-eq0 w ↦ inl w.if-covered-eq0.true | then-covered-eq0-via-else-covered-eq0+then-counts-eq0 w ↦ inr w.if-counts-eq0.true ])
    c.in_ok-extend.ensures.ok e)
    c.extend-then-covered-eq0.ensures.ok

pub loop-i-preserved : goal.loop-i-preserved
loop-i-preserved c =
    flow_next (graph_filters c.args.graph.now) c.loop-i.text c.put_flow_line.new.text _ c.args.name.now _ c.loop-i.i _ _ c.label.result.now c.args.covered.now c.args.counts.now
    (slice_get-get_or c.args.covered.now c.loop-i.i _ c.loop-i-test.true) (slice_get-get_or c.args.counts.now c.loop-i.i _ c.if-i-counts.false) c.label.ensures c.loop-i.invariant c.in_ok-put_flow_line.ensures

pub returns-then-i-counts : goal.returns-then-i-counts
returns-then-i-counts c =
    let some = c.if-covered-eq0.false in
    let more = c.if-counts-eq0.false in
    flow_end (graph_filters c.args.graph.now) c.loop-i.text _ c.args.name.now _ c.loop-i.i c.args.covered.now c.args.counts.now (inr c.if-i-counts.true) c.loop-i.invariant
    ∙ ap (λ l. c.args.text.now ++ l) (sym (first_flow (graph_filters c.args.graph.now) c.args.name.now c.args.covered.now c.args.counts.now _ (omega arith) (slice_get-get_or c.args.counts.now 0 _ (omega arith))))

pub returns : goal.returns
returns c =
    let some = c.if-covered-eq0.false in
    let more = c.if-counts-eq0.false in
    let past = c.loop-i-test.false in
    flow_end (graph_filters c.args.graph.now) c.loop-i.text _ c.args.name.now _ c.loop-i.i c.args.covered.now c.args.counts.now (inl (omega arith)) c.loop-i.invariant
    ∙ ap (λ l. c.args.text.now ++ l) (sym (first_flow (graph_filters c.args.graph.now) c.args.name.now c.args.covered.now c.args.counts.now _ (omega arith) (slice_get-get_or c.args.counts.now 0 _ (omega arith))))
