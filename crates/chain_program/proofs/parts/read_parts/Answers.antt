use Rattle.lemmas.proofs.{◌∙◌, ◌+◌, Some, ap, arith, drop, length, refl, subst, sym}
use Rattle.std.proofs.lemmas.Option.{slice_get_read}
use Rattle.chain_program.specs.{AreTurned, IsPartFile}
use Rattle.chain_program.proofs.Parting.{all_parts, is_part_file, one_part_more, parts_refused}
use Rattle.chain_program.proofs.Turning.{left_from, turned_more}
use Rattle.chain_program.proofs.parts.read_parts.Goals as goal

pub returns-in-Refused-clause-read : goal.returns-in-Refused-clause-read
returns-in-Refused-clause-read g c =
    let at = slice_get_read c.args.names.now (length c.args.names.now) c.loop-i.i c.index-names-i.result refl c.loop-i-test.true c.index-names-i.is ∙ ap Some (sym c.as_str.ensures) in
    let stop = rw (c.in-Refused.is, c.loop-i.invariant.same) at c.in_ok-one.ensures.read in
    parts_refused (g.S.Shelf.files c.args.shelf.now) (g.S.Shelf.turns c.read_part_file.new.shelf) (g.S.Shelf.faults c.args.shelf.now) (g.S.Shelf.faults c.loop-i.shelf) (g.S.Shelf.faults c.read_part_file.new.shelf) c.in-Refused.answer c.args.names.now c.loop-i.i c.loop-i.size
    c.as_str.result.now c.loop-i.parts c.loop-i.invariant.later c.loop-i-test.true at c.loop-i.invariant.found stop

pub loop-i-preserved : goal.loop-i-preserved
loop-i-preserved g c =
    let names = c.args.names.now in
    let i = c.loop-i.i in
    let told = g.S.Shelf.files c.args.shelf.now in
    let at = slice_get_read names (length names) i c.index-names-i.result refl c.loop-i-test.true c.index-names-i.is ∙ ap Some (sym c.as_str.ensures) in
    let is = rw (c.in-Whole.is, c.loop-i.invariant.same) at c.in_ok-one.ensures.read in
    let lt = c.loop-i-test.true in
    let first = c.loop-i.invariant.later in
    let then = c.in_ok-one.ensures.later in
    record {
      within = omega (arith, lt);
      same = c.in_ok-one.ensures.same ∙ c.loop-i.invariant.same;
      later = omega (arith, first, then);
      found = one_part_more told names i c.loop-i.size _ c.as_str.result.now c.in-Whole.one c.loop-i.parts c.push.new.self lt at is refl c.in_ok-push-in-Whole.ensures.ok c.loop-i.invariant.found;
      turned = λ after h. c.loop-i.invariant.turned after
          (subst (λ l. AreTurned (IsPartFile told) l (g.S.Shelf.turns c.loop-i.shelf) after) (sym (left_from names i c.as_str.result.now lt at))
          (turned_more (IsPartFile told) c.as_str.result.now (drop (i + 1) names) (g.S.Shelf.turns c.loop-i.shelf) (g.S.Shelf.turns c.read_part_file.new.shelf) after c.in_ok-one.ensures.turns (is_part_file told c.as_str.result.now c.loop-i.size c.in-Whole.one is) h));
    }

pub returns-clause-read : goal.returns-clause-read
returns-clause-read g c =
    let past = c.loop-i-test.false in
    all_parts (g.S.Shelf.files c.args.shelf.now) c.args.names.now c.loop-i.i c.loop-i.size c.loop-i.parts (omega (arith, past)) c.loop-i.invariant.within c.loop-i.invariant.found
