use Rattle.lemmas.proofs.{ap, get_or, arith}
use Rattle.std.proofs.lemmas.Option.{slice_get-get_or}
use Rattle.slot_words.specs.{chain_of}
use Rattle.slot_words.proofs.Noting.{is_chain}
use Rattle.slot_words.proofs.Steps.{trails_there, trails_are, more_lines}
use Rattle.slot_words.proofs.lines.partial_lines.Goals as goal

pub lines_of-requires-clause-there : goal.lines_of-requires-clause-there
lines_of-requires-clause-there c = let n = c.requires.noted in trails_there n.0 n.1 n.2 c.args.pieces.now n.4 c.loop-w.w (omega (arith, n.5))

pub lines_of-requires-clause-noted : goal.lines_of-requires-clause-noted
lines_of-requires-clause-noted c =
    let n = c.requires.noted in
    let place = get_or n.1 c.loop-w.w 0 in
    record { facts = n.0; place = place; dones = n.2; noted = n.3; are = trails_are n.0 n.1 n.2 c.args.pieces.now n.4 c.loop-w.w place (slice_get-get_or n.1 c.loop-w.w 0 (omega (arith, n.5))) }

pub loop-w-preserved : goal.loop-w-preserved
loop-w-preserved c = λ facts places dones noted have many.
    let w = c.loop-w.w in
    let place = get_or places w 0 in
    let at = slice_get-get_or places w 0 (omega (arith, many)) in
    more_lines facts places (chain_of c.args.orders.now.slots dones c.args.clusters c.stride-step.result) w place c.loop-w.all _ _ (c.loop-w.invariant facts places dones noted have many) at
    (c.in_ok-lines_of.ensures record { facts = facts; place = place; dones = dones; noted = noted; are = trails_are facts places dones c.args.pieces.now have w place at }) c.in_ok-push.ensures.ok

pub returns : goal.returns
returns c = λ facts places dones noted have many ranges.
    let os = c.args.orders.now.slots in
    let lines = c.loop-w.invariant facts places dones noted have many in
    let step_is = c.stride-step.ensures in
    record {
      are = record {
        sets = chain_of os dones c.args.clusters c.stride-step.result;
        chain = λ any. rw (ranges, ← step_is) (is_chain os dones c.args.clusters c.stride-step.result noted);
        many = omega (arith, many, lines.many);
        each = lines.each;
      };
      sets_are = ap (chain_of os dones c.args.clusters) step_is;
    }
