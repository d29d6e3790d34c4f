use Rattle.lemmas.proofs.{◌<◌, sym, ap, ◌∙◌, subst, arith, get_or, length, map, take, All, slice_get, IfOk-weaker, same_Some, slice_get_within}
use Rattle.rdf_values.specs.{history, named_before}
use Rattle.rdf_model.specs.{kinds_in}
use Rattle.loop_keys.specs.{job_of, job_spans, passes_in}
use Rattle.event_loop.proofs.Found.{of_action, result_within}
use Rattle.loop_pieces.specs.{nothing}
use Rattle.shard_lines.specs.{ShardLine}
use Rattle.shard_spans.specs.{booking_line, clusters_in, filled_line, pass_line}
use Rattle.shard_loop.specs.{span_rows_of}
use Rattle.shard_loop.proofs.JobPasses.{is_report, own, own_is}
use Rattle.shard_loop.proofs.PassLines.{action_line, counts_line, covers_inside, has_accumulator, none_over}
use Rattle.shard_loop.proofs.passes.pass_line.Goals as goal

pub kind-requires : goal.kind-requires
kind-requires g c = result_within (job_of c.args.job.now) c.args.number _ c.pass_at-pass.ensures c.args.job.now.graph.now c.requires.job.graph

pub acc-requires : goal.acc-requires
acc-requires g c =
    let j = job_of c.args.job.now in
    let its = c.pass_at-pass.ensures in
    let p = own j c.args.number _ its c.kind.result.now c.args.job.now.graph.now c.requires.job.graph c.kind.ensures in
    let here = own_is j c.args.number _ its c.kind.result.now c.args.job.now.graph.now c.requires.job.graph c.kind.ensures in
    let piece = c.args.piece.now in
    let size = piece.accs.ok.0 in
    let b = of_action j c.args.number _ its c.kind.result.now c.args.job.now.graph.now c.requires.job.graph c.kind.ensures c.in-Action.field-0 c.in-Action.is in
    let span = c.requires.piece in
    let has = has_accumulator j.dataset (named_before (history j.script)) (job_spans j) (clusters_in span.0 span.1) (passes_in j) piece span.2.stands c.args.number p c.in-Action.field-0 b.0 here b.1 in
    let within = slice_get_within piece.accs.items (length (kinds_in (take c.args.number (passes_in j)))) has.acc has.there in
    let place = c.requires.place in
    omega arith

pub counts_at-requires : goal.counts_at-requires
counts_at-requires g c =
    let j = job_of c.args.job.now in
    let its = c.pass_at-pass.ensures in
    let report = is_report j c.args.number _ its c.kind.result.now c.args.job.now.graph.now c.requires.job.graph c.kind.ensures c.in-Report.is c.covered-covered.result.now c.covered-covered.ensures in
    let span = c.requires.piece in
    subst (λ flow. All (λ n. n < length flow) c.covered-covered.result.now) (sym c.flow.ensures)
    (covers_inside j.dataset (history j.script) (job_spans j) (clusters_in span.0 span.1) (passes_in j) c.args.piece.now span.2.stands c.covered-covered.result.now report.filters report.numbered)

pub returns-in-Action : goal.returns-in-Action
returns-in-Action g c = λ lo hi p span at.
    let j = job_of c.args.job.now in
    let its = c.pass_at-pass.ensures in
    let mine = own j c.args.number _ its c.kind.result.now c.args.job.now.graph.now c.requires.job.graph c.kind.ensures in
    let here = own_is j c.args.number _ its c.kind.result.now c.args.job.now.graph.now c.requires.job.graph c.kind.ensures in
    let b = of_action j c.args.number _ its c.kind.result.now c.args.job.now.graph.now c.requires.job.graph c.kind.ensures c.in-Action.field-0 c.in-Action.is in
    let there = ap (slice_get c.args.piece.now.accs.items) (sym c.requires.place) ∙ c.acc.ensures in
    let line = action_line j.dataset (named_before (history j.script)) (job_spans j) (clusters_in lo hi) (passes_in j) c.args.piece.now span.stands c.args.number mine c.in-Action.field-0 b.0 c.acc.result.now here b.1 there in
    let same = same_Some mine p (sym here ∙ at) in
    IfOk-weaker c.filled_line.result _ _ (λ (x : ShardLine) e. e ∙ ap filled_line c.filled.ensures.value ∙ line ∙ ap (pass_line (span_rows_of j lo hi)) same) c.filled_line.ensures

pub returns-in_ok-counts_at-in-Report : goal.returns-in_ok-counts_at-in-Report
returns-in_ok-counts_at-in-Report g c = λ lo hi p span at.
    let j = job_of c.args.job.now in
    let its = c.pass_at-pass.ensures in
    let mine = own j c.args.number _ its c.kind.result.now c.args.job.now.graph.now c.requires.job.graph c.kind.ensures in
    let here = own_is j c.args.number _ its c.kind.result.now c.args.job.now.graph.now c.requires.job.graph c.kind.ensures in
    let report = is_report j c.args.number _ its c.kind.result.now c.args.job.now.graph.now c.requires.job.graph c.kind.ensures c.in-Report.is c.covered-covered.result.now c.covered-covered.ensures in
    let sound = none_over j.dataset (job_spans j) (clusters_in lo hi) _ (passes_in j) span.sound in
    let counts = counts_line j.dataset (history j.script) (job_spans j) (clusters_in lo hi) (passes_in j) c.args.piece.now span.stands sound c.args.number mine here report.filters report.booking c.covered-covered.result.now report.numbered in
    let same = same_Some mine p (sym here ∙ at) in
    ap ShardLine.Report (c.in_ok-counts_at-in-Report.ensures ∙ ap (λ flow. map (λ f. get_or flow f nothing) c.covered-covered.result.now) c.flow.ensures ∙ counts)
    ∙ sym (ap (λ b. booking_line (span_rows_of j lo hi) b mine) report.booking) ∙ ap (pass_line (span_rows_of j lo hi)) same
