use Rattle.lemmas.proofs.{◌∙◌, None, refl}
use Rattle.block_passes.specs.{Leaves, turn_job}
use Rattle.loop_keys.proofs.PassNumbers.{read_pass}
use Rattle.block_passes.proofs.Serving.{goes_to, leaves_then}
use Rattle.block_passes.proofs.Selecting.{next_searched}
use Rattle.block_passes.proofs.passes.try_passes.Goals as goal

pub try_pass-requires : goal.try_pass-requires
try_pass-requires g c =
    let gone = c.go_to.ensures ∙ goes_to c.args.at.now c.loop-pass.turn c.loop-pass.pass c.loop-pass.invariant.same in
    let l = c.loop-pass.invariant.leaves in
    record {
      turn = rw gone c.requires.turn;
      can = rw (gone, l.spends.kinds, l.scratch, l.levels) c.requires.can;
      serve = rw (gone, l.spends.kinds, l.scratch, l.levels) c.requires.serve;
      own = rw gone (read_pass (turn_job c.args.at.now) c.loop_passes-passes.result.now c.loop_passes-passes.ensures.passes c.loop-pass.pass c.loop-pass-test.true (record { result = 0; variation = None }));
      ready = rw gone (λ p. (c.loop-pass.invariant.searched p).ready);
    }

pub returns-in_err-try_pass-clause-leaves : goal.returns-in_err-try_pass-clause-leaves
returns-in_err-try_pass-clause-leaves g c =
    let gone = c.go_to.ensures ∙ goes_to c.args.at.now c.loop-pass.turn c.loop-pass.pass c.loop-pass.invariant.same in
    let left = rw gone at c.try_pass.ensures.leaves in
    let leaves : Leaves c.args.at.now c.loop-pass.work c.try_pass.new.work c.loop-pass.steps c.try_pass.new.steps = record { spends = left.spends; scratch = left.scratch; levels = left.levels } in
    leaves_then _ _ _ _ _ _ _ c.loop-pass.invariant.leaves leaves

pub loop-pass-preserved : goal.loop-pass-preserved
loop-pass-preserved g c =
    let gone = c.go_to.ensures ∙ goes_to c.args.at.now c.loop-pass.turn c.loop-pass.pass c.loop-pass.invariant.same in
    let left = rw gone at c.try_pass.ensures.leaves in
    let leaves : Leaves c.args.at.now c.loop-pass.work c.try_pass.new.work c.loop-pass.steps c.try_pass.new.steps = record { spends = left.spends; scratch = left.scratch; levels = left.levels } in
    let tried = rw gone at c.in_ok-try_pass.ensures.tried in
    record {
      same = rw gone refl;
      leaves = leaves_then _ _ _ _ _ _ _ c.loop-pass.invariant.leaves leaves;
      searched = λ p. next_searched (turn_job c.args.at.now) c.args.at.now.first c.args.at.now.count c.loop-pass.work.lanes.items c.try_pass.new.work.lanes.items c.loop-pass.steps c.try_pass.new.steps left.spends c.args.at.now.plan.now p.chains c.loop-pass.pass c.loop-pass.kept c.try_pass.new.kept c.loop-pass.work.found c.try_pass.new.work.found
          (c.loop-pass.invariant.searched p) (tried p);
    }
