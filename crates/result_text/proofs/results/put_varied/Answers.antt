use Rattle.lemmas.proofs.{◌+◌, length, drop, sym, ap, ◌∙◌, arith, something_at}
use Rattle.graph.specs.{has}
use Rattle.result_text.specs.{members_from}
use Rattle.result_text.proofs.PassLines.{members_few, members_no, members_yes, stays, varied_next}
use Rattle.result_text.proofs.results.put_varied.Goals as goal
use Rattle.result_text.proofs.results.put_varied.Goals.{then-contains+in_ok-put_pass, else-contains}

pub overflow_add-filled : goal.overflow_add-filled
overflow_add-filled c =
    let here = something_at c.args.action.now.variations.now c.loop-v.v (omega arith) in
    let m = ap length (members_yes (has c.args.depends) c.args.action.now.variations.now c.loop-v.v here.0 here.1 (sym c.contains.ensures ∙ c.if-contains.true)) in
    let count = c.loop-v.invariant.count in
    let few = c.requires.numbers in
    omega arith

pub acc-acc-requires : goal.acc-acc-requires
acc-acc-requires c =
    let here = something_at c.args.action.now.variations.now c.loop-v.v (omega arith) in
    let m = ap length (members_yes (has c.args.depends) c.args.action.now.variations.now c.loop-v.v here.0 here.1 (sym c.contains.ensures ∙ c.if-contains.true)) in
    let count = c.loop-v.invariant.count in
    c.requires.accs c.loop-v.pass (omega arith)

pub overflow_add-pass : goal.overflow_add-pass
overflow_add-pass = grind (arith, something_at, members_yes, members_few)

pub loop-v-preserved : goal.loop-v-preserved
loop-v-preserved c =
    let at = has c.args.depends in
    let vs = c.args.action.now.variations.now in
    let v = c.loop-v.v in
    let here = something_at vs v (omega arith) in
    let inv = c.loop-v.invariant in
    let name = c.args.action.now.name.now in
    let kind = c.args.action.now.kind.now in
    let accs = c.args.filled.now.piece.now.accs.items in
    let first = c.args.filled.now.first in
    let rest = members_from at (v + 1) (drop (v + 1) vs) in
    elim c.if-contains.branch [
      | then-contains+in_ok-put_pass w ↦ (
          let member = members_yes at vs v here.0 here.1 (sym c.contains.ensures ∙ w.if-contains.true) in
          let m = ap length member in
          let more = w.pass-is in
          let count = inv.count in
          let some = inv.some in
          record {
            some = omega arith;
            count = omega arith;
            text = varied_next c.loop-v.text c.if-contains.text _ name kind accs first c.loop-v.pass c.if-contains.pass v vs (members_from at v (drop v vs)) rest here.0 w.acc-acc.result.now inv.text member here.1 w.acc-acc.ensures w.pass-is (w.text-is ∙ w.in_ok-put_pass.ensures);
          })
      | else-contains w ↦ (
          let other = members_no at vs v here.0 here.1 (sym c.contains.ensures ∙ w.if-contains.false) in
          let m = ap length other in
          let same = w.pass-is in
          let count = inv.count in
          let some = inv.some in
          record {
            some = omega arith;
            count = omega arith;
            text = stays c.if-contains.text c.loop-v.text _ name kind accs first c.if-contains.pass c.loop-v.pass (members_from at v (drop v vs)) rest w.text-is w.pass-is other inv.text;
          })
    ]
