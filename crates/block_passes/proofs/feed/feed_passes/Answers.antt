use Rattle.lemmas.proofs.{◌≡◌, ◌∙◌, None, arith, length, refl}
use Rattle.loop_keys.specs.{passes_in}
use Rattle.loop_keys.proofs.PassNumbers.{read_pass}
use Rattle.block_passes.specs.{at_pass, turn_job}
use Rattle.block_passes.proofs.Feeding.{fed_all}
use Rattle.block_passes.proofs.Serving.{goes_to}
use Rattle.block_passes.proofs.feed.feed_passes.Goals as goal

pub feed_pass-requires : goal.feed_pass-requires
feed_pass-requires g c =
    let gone = c.go_to.ensures ∙ goes_to c.args.at.now c.loop-pass.turn c.loop-pass.pass c.loop-pass.invariant.same in
    let b = c.requires.begin in
    record {
      turn = rw gone c.requires.turn;
      serve = rw gone c.requires.serve;
      clear = rw gone c.requires.clear;
      own = rw gone (read_pass (turn_job c.args.at.now) c.loop_passes-passes.result.now c.loop_passes-passes.ensures.passes c.loop-pass.pass c.loop-pass-test.true (record { result = 0; variation = None }));
      few = rw gone (omega arith);
      place = rw gone c.loop-pass.invariant.place;
      begin = rw gone (b.0, at_pass b.1 c.loop-pass.place, b.2, b.3, refl, c.loop-pass.invariant.taken b.0 b.1 b.2 b.3 b.4 b.5);
    }

pub loop-pass-preserved : goal.loop-pass-preserved
loop-pass-preserved g c =
    let gone = c.go_to.ensures ∙ goes_to c.args.at.now c.loop-pass.turn c.loop-pass.pass c.loop-pass.invariant.same in
    let holds = rw gone at c.in_ok-place.ensures.holds in
    record {
      same = rw gone refl;
      place = rw gone at c.in_ok-place.ensures.place;
      taken = λ watched s amid its none before.
          holds watched (at_pass s c.loop-pass.place) amid its refl (c.loop-pass.invariant.taken watched s amid its none before);
    }

pub returns-clause-holds : goal.returns-clause-holds
returns-clause-holds g c =
    let f = c.loop-pass-test.false in
    let l = c.loop-pass.auto.pass-end in
    let n = c.loop_passes-passes.ensures.count in
    let e : c.loop-pass.pass ≡ length (passes_in (turn_job c.args.at.now)) = omega (arith, f, l, n) in
    fed_all (turn_job c.args.at.now) c.args.at.now.first c.args.at.now.count c.args.cluster c.args.tally.now c.loop-pass.tally c.loop-pass.place c.loop-pass.pass e c.loop-pass.invariant.place c.loop-pass.invariant.taken
