use Rattle.lemmas.proofs.{arith}
use Rattle.loop_keys.proofs.KeyLaws.{row_of_nominal, row_of_none, row_of_some}
use Rattle.block_passes.proofs.turn.Turn.row.Goals as goal

pub returns-in_default : goal.returns-in_default
returns-in_default g c = row_of_nominal _ _ c.requires.rows c.args.under c.index-rows-0.result c.in_default.is c.index-rows-0.is

pub returns-then-place-count : goal.returns-then-place-count
returns-then-place-count g c =
    row_of_some _ _ c.requires.rows c.args.under c.index-rows-place.result c.in-Some.v c.in-Some.is (let t = c.if-place-count.true in omega (arith, t)) c.index-rows-place.is

pub returns-else-place-count : goal.returns-else-place-count
returns-else-place-count g c =
    row_of_none _ _ c.requires.rows c.args.under c.index-rows-0-else-place-count.result c.in-Some.v c.in-Some.is (let t = c.if-place-count.false in omega (arith, t)) c.index-rows-0-else-place-count.is
