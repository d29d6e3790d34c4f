use Rattle.lemmas.proofs.{◌≡◌, ◌+◌, ◌∙◌, List, Some, ap, arith, drop, length, refl, subst, sym}
use Rattle.std.proofs.lemmas.Option.{slice_get_read}
use Rattle.entry_fns.specs.{functions_in}
use Rattle.input_files.specs.{HoldsTheTable}
use Rattle.shard_lines.specs.{PassShape}
use Rattle.chain_files.specs.{joined_loops, PartLoop}
use Rattle.chain_program.specs.{AreTurned, HoldsTable, IsTableFile}
use Rattle.chain_program.proofs.Chaining.{one_more, run_stops}
use Rattle.chain_program.proofs.Staging.{from_told}
use Rattle.chain_program.proofs.Turning.{left_from, turned_more}
use Rattle.chain_program.proofs.other_tables.other_tables.Goals as goal

pub returns-in-Refused-clause-read : goal.returns-in-Refused-clause-read
returns-in-Refused-clause-read g c =
    let names = c.args.tables.now in
    let at = slice_get_read names (length names) c.loop-i.i c.index-tables-i.result refl c.loop-i-test.true c.index-tables-i.is ∙ ap Some (sym c.as_str.ensures) in
    let stop = rw (c.in-Refused.is, c.loop-i.invariant.same) at c.in_ok-more.ensures.read in
    run_stops (functions_in c.args.means.now.functions.now) c.args.chaining.now.graph.now.script c.args.chaining.now.graph.now.header (g.S.Shelf.files c.args.shelf.now) (g.S.Shelf.turns c.next_table.new.shelf) (g.S.Shelf.faults c.args.shelf.now) (g.S.Shelf.faults c.loop-i.shelf)
    (g.S.Shelf.faults c.next_table.new.shelf) c.in-Refused.answer names c.loop-i.i c.as_str.result.now c.loop-i.loops c.loop-i.invariant.later c.loop-i-test.true at c.loop-i.invariant.run stop

pub loop-i-preserved : goal.loop-i-preserved
loop-i-preserved g c =
    let names = c.args.tables.now in
    let i = c.loop-i.i in
    let told = g.S.Shelf.files c.args.shelf.now in
    let graph = c.args.chaining.now.graph.now in
    let at = slice_get_read names (length names) i c.index-tables-i.result refl c.loop-i-test.true c.index-tables-i.is ∙ ap Some (sym c.as_str.ensures) in
    let next = rw (c.in-Whole.is, c.loop-i.invariant.same) at c.in_ok-more.ensures.read in
    let lt = c.loop-i-test.true in
    let from = c.loop-i.invariant.from in
    let first = c.loop-i.invariant.later in
    let then = c.in_ok-more.ensures.later in
    record {
      from = omega (arith, from);
      within = omega (arith, lt);
      same = c.in_ok-more.ensures.same ∙ c.loop-i.invariant.same;
      later = omega (arith, first, then);
      run = one_more (functions_in c.args.means.now.functions.now) graph.script graph.header told names i c.as_str.result.now next.0 graph c.loop-i.loops c.in-Whole.more c.in_ok-loops-in-Whole.loops refl lt at next.1 next.2
          (c.in_ok-loops-in-Whole.ensures ∙ ap₃ c.requires.shapes refl c.as_slice.ensures) c.loop-i.invariant.run;
      turned = λ after h. c.loop-i.invariant.turned after
          (subst (λ l. AreTurned (IsTableFile told) l (g.S.Shelf.turns c.loop-i.shelf) after) (sym (left_from names i c.as_str.result.now lt at))
          (turned_more (IsTableFile told) c.as_str.result.now (drop (i + 1) names) (g.S.Shelf.turns c.loop-i.shelf) (g.S.Shelf.turns c.next_table.new.shelf) after c.in_ok-more.ensures.turns
          (from_told told c.as_str.result.now (HoldsTheTable next.0) (λ files. HoldsTable (files c.as_str.result.now)) next.1 (λ files k. (next.0, k))) h));
    }
  where
    ap₃ : {shapes shapes' : List (List PassShape)} {ls ls' ms ms' : List PartLoop} → shapes ≡ shapes' → ls ≡ ls' → ms ≡ ms' → joined_loops shapes ls ms ≡ joined_loops shapes' ls' ms'
    ap₃ p q r = λ k. joined_loops (p k) (q k) (r k)
