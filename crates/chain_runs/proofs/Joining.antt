-- The parts of chains that follow each other join to the part of all their tables.
use Rattle.lemmas.proofs.{◌≡◌, ℕ, ◌+◌, List, [], ◌∷◌, ◌++◌, length, map, Option, None, Some, refl, sym, ap, ap₂, ◌∙◌, arith, length-append}
use Rattle.std.proofs.lemmas.Grind.{flat_map-append}
use Rattle.rdf_values.specs.{ColType, Pass, Value}
use Rattle.rdf_model.specs.{Dataset}
use Rattle.loop_pieces.proofs.ByCluster.{range_whole}
use Rattle.shard_lines.specs.{joined_lines, PassShape, ShardLine}
use Rattle.shard_spans.specs.{loops_of, pass_line, pass_shapes}
use Rattle.shard_spans.proofs.LinesOfBoth.{line_of_both}
use Rattle.chain_files.specs.{ChainFault, digest_of, joined_loop, joined_loops, PartLoop, up_to_fault}
use Rattle.chain_runs.specs.{all_rows, AllFilesAreTheChain, Chain, chain_fault, chain_loop, chain_loops, chain_part, ChainsJoin, fault_or_lines, first_of, LoopsJoin, one_table, with_rows}
use Rattle.chain_runs.proofs.Faults.{faults_split}

rows_of_both : (ts us : List (List (List Value))) → all_rows (ts ++ us) ≡ all_rows ts ++ all_rows us
rows_of_both ts us = flat_map-append (λ rows. rows) ts us

lines_of_both : (d : Dataset) (column : Pass → ColType) (xs ys : List (List Value)) (ps : List Pass)
    → joined_lines (pass_shapes column ps) (map (pass_line (record d { rows = xs })) ps) (map (pass_line (record d { rows = ys })) ps) ≡ map (pass_line (record d { rows = xs ++ ys })) ps
lines_of_both d column xs ys [] = refl
lines_of_both d column xs ys (p ∷ ps) = ap₂ (λ (l : ShardLine) ls. l ∷ ls) (line_of_both d xs ys (column p) p.result.booking p) (lines_of_both d column xs ys ps)

-- a loop and those behind it
one_loop : (loops : List (List PassShape)) (shapes : List PassShape) (o u : Option ChainFault) (ls ms : List ShardLine) (earlier later : List PartLoop)
    → joined_loops (shapes ∷ loops) (up_to_fault (fault_or_lines o ls) earlier) (up_to_fault (fault_or_lines u ms) later) ≡ up_to_fault (fault_or_lines (first_of o u) (joined_lines shapes ls ms)) (joined_loops loops earlier later)
one_loop loops shapes None None ls ms earlier later = refl
one_loop loops shapes None (Some g) ls ms earlier later = refl
one_loop loops shapes (Some f) None ls ms earlier later = refl
one_loop loops shapes (Some f) (Some g) ls ms earlier later = refl

-- a loop by itself
by_itself : (shapes : List PassShape) (o u : Option ChainFault) (ls ms : List ShardLine) → joined_loop shapes (fault_or_lines o ls) (fault_or_lines u ms) ≡ fault_or_lines (first_of o u) (joined_lines shapes ls ms)
by_itself shapes None None ls ms = refl
by_itself shapes None (Some g) ls ms = refl
by_itself shapes (Some f) None ls ms = refl
by_itself shapes (Some f) (Some g) ls ms = refl

module _ (c : Chain) (more : List (List (List Value))) (first : ℕ) (column : Pass → ColType) where
  abbrev behind : Chain
  behind = record { fns = c.fns; columns = c.columns; tables = more }

  abbrev both : Chain
  both = record { fns = c.fns; columns = c.columns; tables = c.tables ++ more }

  its_lines : (ps : List Pass) → joined_lines (pass_shapes column ps) (map (pass_line (one_table c)) ps) (map (pass_line (one_table behind)) ps) ≡ map (pass_line (one_table both)) ps
  its_lines ps = lines_of_both (one_table c) column (all_rows c.tables) (all_rows more) ps ∙ ap (λ rows. map (pass_line (with_rows c rows)) ps) (sym (rows_of_both c.tables more))

  pub one_joins : (ps : List Pass) → joined_loop (pass_shapes column ps) (chain_loop c first ps) (chain_loop behind (first + length c.tables) ps) ≡ chain_loop both first ps
  one_joins ps =
      by_itself (pass_shapes column ps) (chain_fault c first ps) (chain_fault behind (first + length c.tables) ps) (map (pass_line (one_table c)) ps) (map (pass_line (one_table behind)) ps)
      ∙ ap₂ (λ o ls. fault_or_lines o ls) (sym (faults_split c ps c.tables more first)) (its_lines ps)

  pub all_join : (loops : List (List Pass)) → joined_loops (map (pass_shapes column) loops) (chain_loops c first loops) (chain_loops behind (first + length c.tables) loops) ≡ chain_loops both first loops
  all_join [] = refl
  all_join (ps ∷ loops) =
      one_loop (map (pass_shapes column) loops) (pass_shapes column ps) (chain_fault c first ps) (chain_fault behind (first + length c.tables) ps) (map (pass_line (one_table c)) ps) (map (pass_line (one_table behind)) ps) (chain_loops c first loops)
      (chain_loops behind (first + length c.tables) loops)
      ∙ ap₂ (λ o ls. up_to_fault (fault_or_lines o ls) (joined_loops (map (pass_shapes column) loops) (chain_loops c first loops) (chain_loops behind (first + length c.tables) loops))) (sym (faults_split c ps c.tables more first)) (its_lines ps)
      ∙ ap (up_to_fault (fault_or_lines (chain_fault both first ps) (map (pass_line (one_table both)) ps))) (all_join loops)

pub chains_join : ChainsJoin
chains_join bytes script c more first column =
    let end : (first + length c.tables) + length more ≡ first + length (c.tables ++ more) = omega (arith, length-append c.tables more) in
    let entries : length (all_rows c.tables) + length (all_rows more) ≡ length (all_rows (c.tables ++ more)) = sym (ap length (rows_of_both c.tables more) ∙ length-append (all_rows c.tables) (all_rows more)) in
    λ i. record { first_file = first; end_file = end i; entries = entries i; script = digest_of bytes; columns = c.columns; loops = all_join c more first column (loops_of script) i }

pub loops_join : LoopsJoin
loops_join c more first column ps = one_joins c more first column ps

pub all_files_are_the_chain : AllFilesAreTheChain
all_files_are_the_chain bytes script c = ap (λ tables. chain_part bytes script (record { fns = c.fns; columns = c.columns; tables = tables }) 0) (range_whole c.tables)
