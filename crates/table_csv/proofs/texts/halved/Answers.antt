use Rattle.lemmas.proofs.{◌<◌, ◌/◌, arith, length}
use Rattle.std.proofs.lemmas.List.Elements.{All-take}
use Rattle.table_csv.specs.{EndsLine}
use Rattle.table_csv.proofs.RecordSteps.{halves_cut}
use Rattle.table_csv.proofs.texts.halved.Goals as goal

pub returns-clause-cut : goal.returns-clause-cut
returns-clause-cut c =
    let half = c.in-Some.others / 2 in
    let within : half < length c.args.texts.lines.now = omega arith in
    halves_cut c.args.texts.lines.now half c.as_slice.result.now _ c.requires.lines within (cc c.index-lines-half.is)

pub returns-clause-front : goal.returns-clause-front
returns-clause-front c = All-take EndsLine (c.in-Some.others / 2) c.args.texts.lines.now c.requires.lines
