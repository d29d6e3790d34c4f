use Rattle.lemmas.proofs.{◌∙◌, arith, rules, get_or_from_slice_get, FitsSigned}
use Rattle.std.proofs.Math.Facts.{to_z-of_z}
use mir.Syntax.{w64}
use Rattle.rdf_values.proofs.KeptLemmas.{value_at}
use Rattle.rdf_values.proofs.tables.table.Table.value.Goals as goal

pub at-requires : goal.at-requires
at-requires c =
    let here = value_at c.self.inside.columns c.self.inside.cells.items c.self.inside.entries c.args.entry c.args.col _ c.args.self.now c.self.view_is c.self.invariant.kept c.requires.row c.requires.column c.index.ensures in
    rw c.in-Ints.is at here.0

pub at-requires-in-Vects : goal.at-requires-in-Vects
at-requires-in-Vects c =
    let here = value_at c.self.inside.columns c.self.inside.cells.items c.self.inside.entries c.args.entry c.args.col _ c.args.self.now c.self.view_is c.self.invariant.kept c.requires.row c.requires.column c.index.ensures in
    rw c.in-Vects.is at here.0

pub returns-in-Ints : goal.returns-in-Ints
returns-in-Ints c =
    let here = value_at c.self.inside.columns c.self.inside.cells.items c.self.inside.entries c.args.entry c.args.col _ c.args.self.now c.self.view_is c.self.invariant.kept c.requires.row c.requires.column c.index.ensures in
    let word : FitsSigned w64 c.at.result = search rules in
    (rw c.in-Ints.is at here.1) ∙ rw (to_z-of_z word) (grind (arith, c.at.ensures, get_or_from_slice_get))

pub returns-in-Vects : goal.returns-in-Vects
returns-in-Vects c =
    let here = value_at c.self.inside.columns c.self.inside.cells.items c.self.inside.entries c.args.entry c.args.col _ c.args.self.now c.self.view_is c.self.invariant.kept c.requires.row c.requires.column c.index.ensures in
    (rw c.in-Vects.is at here.1) ∙ grind (arith, c.at-in-Vects.ensures, get_or_from_slice_get)
