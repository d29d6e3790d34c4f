use Rattle.lemmas.proofs.{◌∙◌, ◌+◌, ◌≤◌, ap, arith, length, map, refl, sym, something_at}
use Rattle.std.proofs.lemmas.List.{take_all}
use Rattle.loop_keys.specs.{job_of, passes_in}
use Rattle.shard_spans.specs.{pass_line}
use Rattle.shard_loop.specs.{span_rows_of}
use Rattle.shard_loop.proofs.JobPasses.{lines_next}
use Rattle.shard_loop.proofs.passes.span_lines.Goals as goal

pub loop-number-init : goal.loop-number-init
loop-number-init g c = record { lines = λ lo hi span. c.new-lines.ensures; place = refl; few = omega arith; end = c.pass_count-number-end.ensures }

pub loop-number-preserved : goal.loop-number-preserved
loop-number-preserved g c =
    let j = job_of c.args.job.now in
    let inv = c.loop-number.invariant in
    let lt = c.loop-number-test.true in
    let end = inv.end in
    let here = something_at (passes_in j) c.loop-number.number (omega arith) in
    let few = inv.few in
    let more = c.accumulators.ensures.few in
    record {
      lines = λ lo hi span. lines_next (pass_line (span_rows_of j lo hi)) (passes_in j) c.loop-number.number here.0 c.loop-number.lines c.push.new.self _ here.1 (inv.lines lo hi span) c.in_ok-push.ensures.ok (c.in_ok-pass_line.ensures lo hi here.0 span here.1);
      place = ap (λ n. n + c.accumulators.result) inv.place ∙ sym c.accumulators.ensures.count;
      few = omega arith;
      end = inv.end;
    }

pub returns : goal.returns
returns g c = λ lo hi span.
    let j = job_of c.args.job.now in
    let all : length (passes_in j) ≤ c.loop-number.number = omega (arith, c.loop-number-test.false, c.loop-number.invariant.end) in
    c.loop-number.invariant.lines lo hi span ∙ ap (map (pass_line (span_rows_of j lo hi))) (take_all c.loop-number.number (passes_in j) all)
