use Rattle.lemmas.proofs.{◌<◌, ◌≡◌, ◌++◌, arith, length}
use Rattle.std.proofs.lemmas.Bool.Decides.{nat_tests}
use Rattle.table_csv.proofs.RecordSteps.{lines_more, part_cut}
use Rattle.table_csv.proofs.texts.whole_lines.Goals as goal

pub loop-part-preserved-then-not-is_empty : goal.loop-part-preserved-then-not-is_empty
loop-part-preserved-then-not-is_empty c =
    let front = c.cut_lines.result.0.now in
    let rest = c.cut_lines.result.1.now in
    let whole = rw c.in-Some.ensures.steps.0 at c.loop-part.invariant.whole in
    let cut : front ++ rest ≡ c.in-Some.part = cc (c.cut_lines.ensures.whole, c.as_slice.ensures) in
    let some : 0 < length rest = grind (arith, nat_tests) in
    record {
      whole = part_cut c.args.parts.items c.loop-part.lines.items c.push.new.self.items c.next.new.self.rest.items c.loop-part.last c.in-Some.part front rest c.extend.new.self c.new-last-then-not-is_empty.result
          whole cut c.in_ok-extend.ensures c.in_ok-push.ensures.items (cc c.new-last-then-not-is_empty.ensures);
      lines = lines_more c.loop-part.lines.items c.push.new.self.items c.loop-part.last front rest c.extend.new.self c.loop-part.invariant.lines c.cut_lines.ensures.cut some c.in_ok-extend.ensures c.in_ok-push.ensures.items;
    }
