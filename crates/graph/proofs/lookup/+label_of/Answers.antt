use Rattle.lemmas.proofs.{◌≡◌, Some, arith}
use Rattle.graph.specs.{own_label}
use Rattle.graph.proofs.Finished.{last_label, label_before}
use Rattle.graph.proofs.lookup.+label_of.Goals as goal

pub returns-then-f-count : goal.returns-then-f-count
returns-then-f-count t c =
    let own : own_label c.in-Some.last.now.statement ≡ Some c.in-Filter-default-default-default-Some.label = grind arith in
    last_label c.args.lines.now c.in-Some.last.now c.in-Some.rest.now c.args.f c.args.count _ c.in-Some.ensures.cases.0 own c.requires.all c.requires.within c.if-f-count.true

pub returns-else-f-count : goal.returns-else-f-count
returns-else-f-count t c = label_before c.args.lines.now c.in-Some.last.now c.in-Some.rest.now c.args.f c.label_of.result.now c.in-Some.ensures.cases.0 c.label_of.ensures
