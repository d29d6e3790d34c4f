use Rattle.lemmas.proofs.{◌≡◌, ◌∙◌, arith, ap, length, map, rules, sym, FitsSigned, slice_get_within}
use Rattle.std.proofs.Math.Facts.{to_z-of_z}
use mir.Syntax.{w64}
use Rattle.rdf_values.specs.{Value}
use Rattle.rdf_values.proofs.KeptLemmas.{cell_of_column, column_length, length-rows_kept}
use Rattle.columns.specs.Views.{ColumnsView}
use Rattle.columns.specs.{cells_of, joined}
use Rattle.columns.proofs.InPieces.{entry_here}
use Rattle.columns.proofs.columns.Columns.int_at.Goals as goal

pub cluster_of-cluster-requires : goal.cluster_of-cluster-requires
cluster_of-cluster-requires = grind (arith, length-rows_kept)

pub range-first-requires : goal.range-first-requires
range-first-requires c = slice_get_within _ c.cluster_of-cluster.result _ c.cluster_of-cluster.ensures.stands

pub at-requires-clause-cluster : goal.at-requires-clause-cluster
at-requires-clause-cluster c =
    let size = column_length c.args.self.now.table.rows c.args.col (λ z. Value.Int z) (joined c.ints.result.now) c.ints.ensures.column in
    let rows = ap (λ (x : ColumnsView). length x.table.rows) c.self.view_is in
    let all : length (joined c.ints.result.now) ≡ c.self.inside.cuts.entries = omega (arith, size, rows, length-rows_kept c.self.inside.cuts.entries (map cells_of c.self.inside.kept.items)) in
    let here = entry_here c.self.inside.cuts.entries c.self.inside.cuts.size c.self.inside.cuts.marks (joined c.ints.result.now) c.ints.result.now c.args.entry c.cluster_of-cluster.result c.range-first.result (rw (← c.self.view_is) at c.ints.ensures.clusters) all c.cluster_of-cluster.ensures c.range-first.ensures in
    here.0

pub at-requires-clause-place : goal.at-requires-clause-place
at-requires-clause-place c =
    let size = column_length c.args.self.now.table.rows c.args.col (λ z. Value.Int z) (joined c.ints.result.now) c.ints.ensures.column in
    let rows = ap (λ (x : ColumnsView). length x.table.rows) c.self.view_is in
    let all : length (joined c.ints.result.now) ≡ c.self.inside.cuts.entries = omega (arith, size, rows, length-rows_kept c.self.inside.cuts.entries (map cells_of c.self.inside.kept.items)) in
    let here = entry_here c.self.inside.cuts.entries c.self.inside.cuts.size c.self.inside.cuts.marks (joined c.ints.result.now) c.ints.result.now c.args.entry c.cluster_of-cluster.result c.range-first.result (rw (← c.self.view_is) at c.ints.ensures.clusters) all c.cluster_of-cluster.ensures c.range-first.ensures in
    here.2

pub returns : goal.returns
returns c =
    let size = column_length c.args.self.now.table.rows c.args.col (λ z. Value.Int z) (joined c.ints.result.now) c.ints.ensures.column in
    let rows = ap (λ (x : ColumnsView). length x.table.rows) c.self.view_is in
    let all : length (joined c.ints.result.now) ≡ c.self.inside.cuts.entries = omega (arith, size, rows, length-rows_kept c.self.inside.cuts.entries (map cells_of c.self.inside.kept.items)) in
    let here = entry_here c.self.inside.cuts.entries c.self.inside.cuts.size c.self.inside.cuts.marks (joined c.ints.result.now) c.ints.result.now c.args.entry c.cluster_of-cluster.result c.range-first.result (rw (← c.self.view_is) at c.ints.ensures.clusters) all c.cluster_of-cluster.ensures c.range-first.ensures in
    let word : FitsSigned w64 c.at.result = search rules in
    rw (to_z-of_z word) (cell_of_column c.args.self.now.table.rows c.args.col c.args.entry (λ z. Value.Int z) (joined c.ints.result.now) _ c.ints.ensures.column (sym here.3 ∙ c.at.ensures))
