-- What a run over a chain finds is a part.
use Rattle.lemmas.proofs.{◌≡◌, ℕ, ◌+◌, ◌-◌, ◌*◌, ◌<◌, ◌≤◌, List, [], ◌∷◌, ◌++◌, length, map, Option, None, Some, refl, ap, ◌∙◌, arith, length-append, flat_map, AllByRecursion, count_by-le-length, flat_map-append, length-map, recursion_from_All}
use Rattle.rdf_values.specs.{ActionAt, ActionKind, Booking, FitRows, Item, Pass, Path, ReportOn, scalar_of, Script, Under, Value}
use Rattle.rdf_model.specs.{action_outcome, cutflow, Dataset, Entry, Faults, Feed, Gives, items_fed, items_of, Needs, Outcome, passes_filters, Skip}
use Rattle.loop_pieces.specs.{counts_of}
use Rattle.shard_lines.specs.{EachFits, FitLines, FitsCount, FitsLine}
use Rattle.shard_spans.specs.{booking_line, loops_of, pass_line}
use Rattle.shard_runs.specs.{booking_kind, IsChecked}
use Rattle.shard_runs.proofs.Lines.{AreFew, AreWide, items_line}
use Rattle.shard_runs.proofs.Rows.{rows_both}
use Rattle.shard_runs.proofs.Runs.{ArePasses, all_passes, fed}
use Rattle.shard_runs.proofs.Takes.{FeedsWell}
use Rattle.chain_files.proofs.HexDigits.{are_digits}
use Rattle.chain_files.proofs.OnePart.{a_text_breaks_nowhere, a_text_is_of_one_part}
use Rattle.chain_files.specs.{ChainFault, FitLoops, IsPart, part_limits, up_to_fault}
use Rattle.chain_runs.specs.{all_rows, Chain, chain_fault, chain_loops, chain_part, ChainsArePart, fault_or_lines, one_table, with_rows, WrittenPartsReadBack}
use Rattle.chain_runs.proofs.Faults.{fault_is_in}

-- ---- one row of a Count or a Take

one_count : (o : Outcome ⊥ Entry) → length (items_fed ActionKind.Count o) ≤ 1
one_count (Gives (Feed vs)) = omega arith
one_count (Gives Skip) = omega arith
one_count (Faults fault) = omega arith
one_count (Needs m) = omega arith

one_value : (c : List ℕ) (o : Outcome ⊥ Entry) → length (flat_map scalar_of (items_fed (ActionKind.Take c) o)) ≤ 1
one_value c (Gives (Feed [])) = omega arith
one_value c (Gives (Feed (Value.Int z ∷ vs))) = omega arith
one_value c (Gives (Feed (Value.Bool b ∷ vs))) = omega arith
one_value c (Gives (Feed (Value.Vect zs ∷ vs))) = omega arith
one_value c (Gives Skip) = omega arith
one_value c (Faults fault) = omega arith
one_value c (Needs m) = omega arith

module _ (d : Dataset) where
  counts_few : (at : Path) (u : Under) (rows : List (List Value)) → length (flat_map (items_of d ActionKind.Count at u) rows) ≤ length rows
  counts_few at u [] = omega arith
  counts_few at u (row ∷ rows) =
      let one = one_count (action_outcome d.fns d.columns row ActionKind.Count at u) in
      let rest = counts_few at u rows in
      let long = length-append (items_of d ActionKind.Count at u row) (flat_map (items_of d ActionKind.Count at u) rows) in
      omega arith

  values_few : (c : List ℕ) (at : Path) (u : Under) (rows : List (List Value)) → length (flat_map scalar_of (flat_map (items_of d (ActionKind.Take c) at u) rows)) ≤ length rows
  values_few c at u [] = omega arith
  values_few c at u (row ∷ rows) =
      let first : List Item = items_of d (ActionKind.Take c) at u row in
      let others : List Item = flat_map (items_of d (ActionKind.Take c) at u) rows in
      let one = one_value c (action_outcome d.fns d.columns row (ActionKind.Take c) at u) in
      let rest = values_few c at u rows in
      let both : length (flat_map scalar_of (first ++ others)) ≡ length (flat_map scalar_of first) + length (flat_map scalar_of others)
      = ap length (flat_map-append scalar_of first others) ∙ length-append (flat_map scalar_of first) (flat_map scalar_of others) in
      omega arith

  -- ---- lines

  wide : (n : ℕ) → AreWide (part_limits n) (n * 4096)
  wide n = record { sum = omega arith; cell_sum = omega arith; cell_squares = omega arith }

  are_few : (k : ActionKind) (at : Path) (u : Under) (rows : List (List Value)) → AreFew (part_limits (length rows)) k (flat_map (items_of d k at u) rows)
  are_few ActionKind.Count at u rows = counts_few at u rows
  are_few (ActionKind.Take c) at u rows = values_few c at u rows
  are_few k at u rows = tt

  module _ (rows : List (List Value)) (fit : FitRows d.columns rows) where
    abbrev some_rows : Dataset
    some_rows = record d { rows = rows }

    count_fits : (filter : Path) → FitsCount (part_limits (length rows)) (counts_of (cutflow some_rows filter))
    count_fits [] = (omega arith, omega arith)
    count_fits (s ∷ up) = (count_by-le-length (passes_filters some_rows up) rows, count_by-le-length (passes_filters some_rows (s ∷ up)) rows)

    counts_fit : (filters : List Path) → EachFits (FitsCount (part_limits (length rows))) (map (λ filter. counts_of (cutflow some_rows filter)) filters)
    counts_fit [] = tt
    counts_fit (f ∷ fs) = (count_fits f, counts_fit fs)

    line_fits : (p : Pass) (b : Booking) → FeedsWell d b → FitsLine (part_limits (length rows)) (booking_line some_rows b p)
    line_fits p (ActionAt k at) well =
        let all = fed d k at p.under well rows fit in
        items_line (part_limits (length rows)) (length rows * 4096) (wide (length rows)) (booking_kind d (ActionAt k at)) k (flat_map (items_of d k at p.under) rows) all.few all.fit all.takes (are_few k at p.under rows)
    line_fits p (ReportOn filters) well = counts_fit filters

    lines_fit : (ps : List Pass) → AllByRecursion (λ (p : Pass). FeedsWell d p.result.booking) ps → FitLines (part_limits (length rows)) (map (pass_line some_rows) ps)
    lines_fit [] h = tt
    lines_fit (p ∷ ps) h = (line_fits p p.result.booking h.0, lines_fit ps h.1)

-- ---- tables that are checked

module _ (script : Script) (c : Chain) where
  abbrev EachChecked : List (List (List Value)) → Type 0
  EachChecked tables = AllByRecursion (λ rows. IsChecked script (with_rows c rows)) tables

  pub rows_fit : (tables : List (List (List Value))) → EachChecked tables → FitRows c.columns (all_rows tables)
  rows_fit [] h = tt
  rows_fit (rows ∷ tables) h = rows_both c.columns rows (all_rows tables) h.0.fit (rows_fit tables h.1)

  pub each_few : (tables : List (List (List Value))) → EachChecked tables → AllByRecursion (λ (rows : List (List Value)). length rows ≤ 1000000) tables
  each_few [] h = tt
  each_few (rows ∷ tables) h = (h.0.few, each_few tables h.1)

  rows_few : (tables : List (List (List Value))) → EachChecked tables → length (all_rows tables) ≤ 1000000 * length tables
  rows_few [] h = omega arith
  rows_few (rows ∷ tables) h =
      let long = length-append rows (all_rows tables) in
      let one = h.0.few in
      let rest = rows_few tables h.1 in
      omega arith

  -- ---- loops

  module _ (tables : List (List (List Value))) (checked : EachChecked tables) (table : List (List Value)) (first : ℕ) where
    abbrev chain : Chain
    chain = record { fns = c.fns; columns = c.columns; tables = tables }

    loops_fit : (loops : List (List Pass)) → AllByRecursion (ArePasses (with_rows c table)) loops → FitLoops first (first + length tables) (length (all_rows tables)) (chain_loops chain first loops)
    loops_fit [] h = tt
    loops_fit (ps ∷ loops) h = go (chain_fault chain first ps) refl (loops_fit loops h.1)
      where
        go : (o : Option ChainFault) → chain_fault chain first ps ≡ o → FitLoops first (first + length tables) (length (all_rows tables)) (chain_loops chain first loops)
            → FitLoops first (first + length tables) (length (all_rows tables)) (up_to_fault (fault_or_lines o (map (pass_line (one_table chain)) ps)) (chain_loops chain first loops))
        go None q next =
            let same_number : length (map (pass_line (one_table chain)) ps) ≡ length ps = length-map ps (pass_line (one_table chain)) in
            let some = h.0.some in
            (omega arith, lines_fit (with_rows c table) (all_rows tables) (rows_fit tables checked) ps h.0.well, next)
        go (Some f) q next =
            let at = fault_is_in chain ps 1000000 tables first f (each_few tables checked) q in
            let pass = at.pass in
            let fewer = h.0.few in
            (at.from, at.before, at.entry, omega arith)

pub chains_are_part : ChainsArePart
chains_are_part bytes script c first checked some within = go c.tables (recursion_from_All (λ rows. IsChecked script (with_rows c rows)) c.tables checked) some within
  where
    go : (tables : List (List (List Value))) → AllByRecursion (λ rows. IsChecked script (with_rows c rows)) tables → 0 < length tables → first + length tables ≤ 16777216
        → IsPart (chain_part bytes script (record { fns = c.fns; columns = c.columns; tables = tables }) first)
    go [] each more top = absurd (omega arith)
    go (table ∷ tables) each more top =
        let rows = rows_few script c (table ∷ tables) each in
        record {
          files = omega arith;
          within = top;
          entries = omega arith;
          digest = are_digits bytes;
          header = each.0.header;
          named = each.0.named;
          loops = loops_fit script c (table ∷ tables) each table first (loops_of script) (all_passes script (with_rows c table) each.0);
        }

pub written_parts_read_back : WrittenPartsReadBack
written_parts_read_back bytes script c first checked some within =
    let valid = chains_are_part bytes script c first checked some within in
    (λ s h. a_text_is_of_one_part s (chain_part bytes script c first) h.valid valid h.text, λ number h. a_text_breaks_nowhere (chain_part bytes script c first) number valid h)
