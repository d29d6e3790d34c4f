-- The loops of a run over a chain have the shapes of the script's passes.
use Rattle.lemmas.proofs.{◌≡◌, ℕ, ◌<◌, true, ◌&&◌, List, [], ◌∷◌, length, map, Option, None, Some, refl, ap₂, ap, ◌∙◌, arith, AllByRecursion, length-map, lt-ltb, recursion_from_All}
use Rattle.rdf_values.specs.{ActionAt, Booking, ColType, Pass, ReportOn, Script, Value}
use Rattle.shard_lines.specs.{booking_shape, PassShape}
use Rattle.shard_spans.specs.{loops_of, pass_line, pass_shapes}
use Rattle.shard_runs.specs.{booking_kind, IsChecked, pass_kind, script_shapes}
use Rattle.shard_runs.proofs.Runs.{ArePasses, all_passes}
use Rattle.shard_runs.proofs.Shapes.{lines_shaped}
use Rattle.chain_files.specs.{are_loops, ChainFault, up_to_fault}
use Rattle.chain_runs.specs.{all_rows, Chain, chain_fault, chain_loops, ChainsHaveShapes, fault_or_lines, one_table, with_rows}
use Rattle.chain_runs.proofs.Faults.{fault_is_in}
use Rattle.chain_runs.proofs.Parts.{each_few, rows_fit}

-- shapes don't look at rows
module _ (c : Chain) (xs ys : List (List Value)) where
  same_kind : (b : Booking) → booking_kind (with_rows c xs) b ≡ booking_kind (with_rows c ys) b
  same_kind (ActionAt k at) = refl
  same_kind (ReportOn filters) = refl

  pub same_shapes : (script : Script) → script_shapes script (with_rows c xs) ≡ script_shapes script (with_rows c ys)
  same_shapes script = λ i. map (pass_shapes (λ p. same_kind p.result.booking i)) (loops_of script)

module _ (script : Script) (c : Chain) (tables : List (List (List Value))) (checked : AllByRecursion (λ rows. IsChecked script (with_rows c rows)) tables) (table : List (List Value)) (first : ℕ) where
  abbrev chain : Chain
  chain = record { fns = c.fns; columns = c.columns; tables = tables }

  abbrev kinds : Pass → ColType
  kinds = pass_kind (with_rows c table)

  loops_shaped : (loops : List (List Pass)) → AllByRecursion (ArePasses (with_rows c table)) loops → are_loops (map (pass_shapes kinds) loops) (chain_loops chain first loops) ≡ true
  loops_shaped [] h = refl
  loops_shaped (ps ∷ loops) h = go (chain_fault chain first ps) refl (loops_shaped loops h.1)
    where
      go : (o : Option ChainFault) → chain_fault chain first ps ≡ o → are_loops (map (pass_shapes kinds) loops) (chain_loops chain first loops) ≡ true
          → are_loops (pass_shapes kinds ps ∷ map (pass_shapes kinds) loops) (up_to_fault (fault_or_lines o (map (pass_line (one_table chain)) ps)) (chain_loops chain first loops)) ≡ true
      go None q next = ap₂ (λ a b. a && b) (lines_shaped (with_rows c table) (all_rows tables) (rows_fit script c tables checked) ps h.0.well) next
      go (Some f) q next =
          let at = fault_is_in chain ps 1000000 tables first f (each_few script c tables checked) q in
          let shape_of : Pass → PassShape = λ p. booking_shape (kinds p) p.result.booking in
          let same_number : length (map shape_of ps) ≡ length ps = length-map ps shape_of in
          let pass = at.pass in
          lt-ltb f.pass (length (map shape_of ps)) (omega arith)

pub chains_have_shapes : ChainsHaveShapes
chains_have_shapes bytes script c first checked some = go c.tables (recursion_from_All (λ rows. IsChecked script (with_rows c rows)) c.tables checked) some
  where
    go : (tables : List (List (List Value))) → AllByRecursion (λ rows. IsChecked script (with_rows c rows)) tables → 0 < length tables
        → are_loops (script_shapes script (with_rows c (all_rows tables))) (chain_loops (record { fns = c.fns; columns = c.columns; tables = tables }) first (loops_of script)) ≡ true
    go [] each more = absurd (omega arith)
    go (table ∷ tables) each more =
        ap (λ shapes. are_loops shapes (chain_loops (record { fns = c.fns; columns = c.columns; tables = table ∷ tables }) first (loops_of script))) (same_shapes c (all_rows (table ∷ tables)) table script)
        ∙ loops_shaped script c (table ∷ tables) each table first (loops_of script) (all_passes script (with_rows c table) each.0)
