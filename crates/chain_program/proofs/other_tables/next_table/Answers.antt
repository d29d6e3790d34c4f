use Rattle.lemmas.proofs.{◌∙◌, refl, sym}
use Rattle.entry_fns.specs.{functions_in}
use Rattle.table_csv.specs.{marked_in}
use Rattle.chain_program.proofs.Chaining.{columns_equal, next_of}
use Rattle.chain_program.proofs.other_tables.next_table.Goals as goal

pub loops_over-requires-clause-graph : goal.loops_over-requires-clause-graph
loops_over-requires-clause-graph g c κs within = (sym c.header.ensures ∙ columns_equal c.header.result.now c.columns-2.result.now (sym c.same_columns.ensures ∙ c.if-not-same_columns.false) ∙ c.columns-2.ensures.value, c.requires.names)

pub returns-clause-read : goal.returns-clause-read
returns-clause-read g c =
    let read = rw c.in-Whole.is at c.in_ok-columns.ensures.read in
    let tested = sym c.same_columns.ensures ∙ c.if-not-same_columns.false in (
      marked_in c.in-Whole.columns,
      read.holds,
      next_of (functions_in c.args.means.now.functions.now) c.args.chaining.now.graph.now.script c.args.chaining.now.graph.now.header c.args.file (marked_in c.in-Whole.columns) c.header.result.now c.columns-2.result.now c.in-Whole.columns c.in_ok-loops.loops
          c.header.ensures c.columns-2.ensures.value refl c.columns-2.ensures.valid tested c.in_ok-loops.ensures,
    )
