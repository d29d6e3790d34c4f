use Rattle.lemmas.proofs.{ap}
use Rattle.rdf_values.specs.{Cells}
use Rattle.columns.specs.{joined}
use Rattle.columns.proofs.BlockSteps.{packed_is_by}
use Rattle.columns.proofs.kept.keep.Goals as goal

pub returns-in_ok-pack-in-Ints-clause-same : goal.returns-in_ok-pack-in-Ints-clause-same
returns-in_ok-pack-in-Ints-clause-same c =
    let many = rw c.in-Ints.is at c.requires.size in
    let made = rw c.as_slice.ensures.value at c.in_ok-pack-in-Ints.ensures in
    let by = packed_is_by c.args.cuts.now.entries c.args.cuts.now.size c.args.cuts.now.marks (joined c.in-Ints.numbers.items) _ many made in
    rw c.in-Ints.is (ap Cells.Ints by.0)

pub returns-in_ok-pack-in-Ints-clause-clusters : goal.returns-in_ok-pack-in-Ints-clause-clusters
returns-in_ok-pack-in-Ints-clause-clusters c =
    let many = rw c.in-Ints.is at c.requires.size in
    let made = rw c.as_slice.ensures.value at c.in_ok-pack-in-Ints.ensures in
    let by = packed_is_by c.args.cuts.now.entries c.args.cuts.now.size c.args.cuts.now.marks (joined c.in-Ints.numbers.items) _ many made in
    by.1
