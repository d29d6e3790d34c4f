-- Parts over some files each of one chain, named in any order.
use Rattle.lemmas.proofs.{◌≡◌, ℕ, zero, suc, ◌+◌, ◌-◌, ◌<◌, ◌≤◌, Bool, true, false, not, ◌&&◌, List, [], ◌∷◌, length, map, drop, take, fold, None, refl, sym, ap, ap₂, ◌∙◌, subst, arith, if◌then◌else◌, slice_range, All-from_recursion, AllByRecursion, range_length, recursion_from_All}
use Rattle.std.specs.Prelude.{⊤}
use Rattle.rdf_values.specs.{ColType, Pass, Script, Span, Value}
use Rattle.rdf_model.proofs.Accepted.{itself}
use Rattle.loop_pieces.proofs.ByCluster.{ranges_join}
use Rattle.shard_lines.specs.{PassShape}
use Rattle.shard_spans.specs.{loops_of, pass_shapes}
use Rattle.shard_runs.specs.{IsChecked, script_shapes}
use Rattle.shard_runs.proofs.Merged.{columns_itself, none_at}
use Rattle.chain_files.specs.{are_loops, AreNext, digest_of, end_file_of, first_differing, first_uncovered, in_order, is_of, joined_part, joined_parts, not_behind, PartView, placed}
use Rattle.chain_files.proofs.Covered.{covered_are_next}
use Rattle.chain_runs.specs.{all_rows, AreChecked, AreFiles, Chain, chain_part, one_table, OnlyFilesAreRefused, part_over, PartsJoinToOneRun, tables_in, with_rows}
use Rattle.chain_runs.proofs.Joining.{chains_join}
use Rattle.chain_runs.proofs.Shapes.{chains_have_shapes, same_shapes}

module _ (bytes : List ℕ) (script : Script) (c : Chain) where
  abbrev part_of : Span → PartView
  part_of files = part_over bytes script c files

  abbrev EachFiles : List Span → Type 0
  EachFiles groups = AllByRecursion (AreFiles c) groups

  -- ---- in order

  -- the same parts in another order
  record AreSorted (sorted : List PartView) : Type 0 where
    groups : List Span
    same : sorted ≡ map part_of groups
    files : EachFiles groups

  placed_among : (g : Span) (hs : List Span) → AreFiles c g → EachFiles hs → AreSorted (placed (part_of g) (map part_of hs))
  placed_among g [] one each = record { groups = g ∷ []; same = refl; files = (one, tt) }
  placed_among g (h ∷ hs) one each = go (not_behind (part_of g) (part_of h)) (placed_among g hs one each.1)
    where
      go : (b : Bool) → AreSorted (placed (part_of g) (map part_of hs)) → AreSorted (if b then part_of g ∷ part_of h ∷ map part_of hs else part_of h ∷ placed (part_of g) (map part_of hs))
      go true rest = record { groups = g ∷ h ∷ hs; same = refl; files = (one, each) }
      go false rest = record { groups = h ∷ rest.groups; same = ap (λ xs. part_of h ∷ xs) rest.same; files = (each.0, rest.files) }

  sorted_are : (groups : List Span) → EachFiles groups → AreSorted (in_order (map part_of groups))
  sorted_are [] each = record { groups = []; same = refl; files = tt }
  sorted_are (g ∷ gs) each =
      let rest = sorted_are gs each.1 in
      subst (λ xs. AreSorted (placed (part_of g) xs)) (sym rest.same) (placed_among g rest.groups each.0 rest.files)

  -- ---- one behind the other

  -- each group begins with the file at which the one before it ends
  abbrev Follow : ℕ → List Span → Type 0
  Follow end [] = ⊤
  Follow end (h ∷ hs) = (end ≡ h.lo) × Follow h.hi hs

  abbrev last_end : ℕ → List Span → ℕ
  last_end end [] = end
  last_end end (h ∷ hs) = last_end h.hi hs

  ends_at : (g : Span) → AreFiles c g → (part_of g).end_file ≡ g.hi
  ends_at g files =
      let lt = files.0 in
      let top = files.1 in
      let long : length (slice_range c.tables g.lo g.hi) ≡ g.hi - g.lo = range_length c.tables g.lo g.hi (omega arith) top in
      omega arith

  they_follow : (g : Span) (hs : List Span) → EachFiles (g ∷ hs) → AreNext (map part_of (g ∷ hs)) → Follow g.hi hs
  they_follow g [] each next = tt
  they_follow g (h ∷ hs) each next = (sym (ends_at g each.0) ∙ next.0, they_follow h hs each.1 next.1)

  end_is : (g : Span) (hs : List Span) → EachFiles (g ∷ hs) → end_file_of (map part_of (g ∷ hs)) ≡ last_end g.hi hs
  end_is g [] each = ends_at g each.0
  end_is g (h ∷ hs) each = end_is h hs each.1

  module _ (column : Pass → ColType) where
    abbrev shapes : List (List PassShape)
    shapes = map (pass_shapes column) (loops_of script)

    two : (lo hi top : ℕ) → lo < hi → hi < top → top ≤ length c.tables → joined_part shapes (part_of (record { lo = lo; hi = hi })) (part_of (record { lo = hi; hi = top })) ≡ part_of (record { lo = lo; hi = top })
    two lo hi top first second within =
        let long : length (slice_range c.tables lo hi) ≡ hi - lo = range_length c.tables lo hi (omega arith) (omega arith) in
        let end : hi ≡ lo + length (slice_range c.tables lo hi) = omega arith in
        ap (λ n. joined_part shapes (part_of (record { lo = lo; hi = hi })) (chain_part bytes script (tables_in c hi top) n)) end
        ∙ chains_join bytes script (tables_in c lo hi) (slice_range c.tables hi top) lo column
        ∙ ap (λ tables. chain_part bytes script (record { fns = c.fns; columns = c.columns; tables = tables }) lo) (ranges_join c.tables lo hi top (omega arith) (omega arith) within)

    all : (hs : List Span) (g : Span) → AreFiles c g → EachFiles hs → Follow g.hi hs → fold (joined_part shapes) (part_of g) (map part_of hs) ≡ part_of (record { lo = g.lo; hi = last_end g.hi hs })
    all [] g files each follow = refl
    all (h ∷ hs) g files each follow =
        let lt = files.0 in
        let up = each.0.0 in
        let top = each.0.1 in
        let meet = follow.0 in
        let joined : joined_part shapes (part_of g) (part_of h) ≡ part_of (record { lo = g.lo; hi = h.hi })
        = ap (λ n. joined_part shapes (part_of g) (part_of (record { lo = n; hi = h.hi }))) (sym meet) ∙ two g.lo g.hi h.hi lt (omega arith) top in
        ap (λ x. fold (joined_part shapes) x (map part_of hs)) joined
        ∙ all hs (record { lo = g.lo; hi = h.hi }) (omega arith, top) each.1 follow.1

    -- parts in the order of their files, none of which is uncovered, join to the part over all of them
    abbrev JoinToOne : List PartView → Type 0
    JoinToOne [] = ⊤
    JoinToOne (first ∷ others) = first_uncovered (first ∷ others) ≡ None → joined_parts shapes first others ≡ part_of (record { lo = first.first_file; hi = end_file_of (first ∷ others) })

    in_order_join : (groups : List Span) → EachFiles groups → JoinToOne (map part_of groups)
    in_order_join [] each = tt
    in_order_join (g ∷ hs) each =
        λ covered. all hs g each.0 each.1 (they_follow g hs each (covered_are_next (map part_of (g ∷ hs)) covered)) ∙ ap (λ n. part_of (record { lo = g.lo; hi = n })) (sym (end_is g hs each))

    sorted_join : (sorted : List PartView) → AreSorted sorted → JoinToOne sorted
    sorted_join sorted h = subst JoinToOne (sym h.same) (in_order_join h.groups h.files)

pub parts_join_to_one_run : PartsJoinToOneRun
parts_join_to_one_run bytes script c groups column first others files ordered covered =
    subst (JoinToOne bytes script c column) ordered (sorted_join bytes script c column (in_order (map (part_over bytes script c) groups)) (sorted_are bytes script c groups (recursion_from_All (AreFiles c) groups files))) covered

-- ---- what isn't refused

pub dropped : {A : Type 0} (P : A → Type 0) (n : ℕ) (xs : List A) → AllByRecursion P xs → AllByRecursion P (drop n xs)
dropped P zero xs h = h
dropped P (suc n) [] h = tt
dropped P (suc n) (x ∷ xs) h = dropped P n xs h.1

pub taken : {A : Type 0} (P : A → Type 0) (n : ℕ) (xs : List A) → AllByRecursion P xs → AllByRecursion P (take n xs)
taken P zero xs h = tt
taken P (suc n) [] h = tt
taken P (suc n) (x ∷ xs) h = (h.0, taken P n xs h.1)

module _ (bytes : List ℕ) (script : Script) (c : Chain) (checked : AreChecked script c) where
  abbrev Checked : List (List Value) → Type 0
  Checked rows = IsChecked script (with_rows c rows)

  some_checked : (lo hi : ℕ) → AreChecked script (tables_in c lo hi)
  some_checked lo hi = All-from_recursion Checked (slice_range c.tables lo hi) (taken Checked (hi - lo) (drop lo c.tables) (dropped Checked lo c.tables (recursion_from_All Checked c.tables checked)))

  its_head : (g : Span) → not (is_of (digest_of bytes) c.columns (part_over bytes script c g)) ≡ false
  its_head g = ap not (ap₂ (λ a b. a && b) (itself (digest_of bytes)) (columns_itself c.columns))

  heads : (groups : List Span) → AllByRecursion (λ s. not (is_of (digest_of bytes) c.columns s) ≡ false) (map (part_over bytes script c) groups)
  heads [] = tt
  heads (g ∷ gs) = (its_head g, heads gs)

  shaped : (g : Span) → AreFiles c g → are_loops (script_shapes script (one_table c)) (part_over bytes script c g).loops ≡ true
  shaped g files =
      let lt = files.0 in
      let top = files.1 in
      let long : length (slice_range c.tables g.lo g.hi) ≡ g.hi - g.lo = range_length c.tables g.lo g.hi (omega arith) top in
      ap (λ shapes. are_loops shapes (part_over bytes script c g).loops) (same_shapes c (all_rows c.tables) (all_rows (slice_range c.tables g.lo g.hi)) script)
      ∙ chains_have_shapes bytes script (tables_in c g.lo g.hi) g.lo (some_checked g.lo g.hi) (omega arith)

  all_shaped : (groups : List Span) → AllByRecursion (AreFiles c) groups → AllByRecursion (λ (s : PartView). not (are_loops (script_shapes script (one_table c)) s.loops) ≡ false) (map (part_over bytes script c) groups)
  all_shaped [] h = tt
  all_shaped (g ∷ gs) h = (ap not (shaped g h.0), all_shaped gs h.1)

  none_differs : (groups : List Span) → first_differing (digest_of bytes) (map (part_over bytes script c) groups) ≡ None
  none_differs [] = refl
  none_differs (g ∷ gs) = none_at (λ t. not (is_of (digest_of bytes) c.columns t)) (map (part_over bytes script c) (g ∷ gs)) (heads (g ∷ gs))

pub only_files_are_refused : OnlyFilesAreRefused
only_files_are_refused bytes script c groups checked files = (
  none_differs bytes script c checked groups,
  none_at (λ (s : PartView). not (are_loops (script_shapes script (one_table c)) s.loops)) (map (part_over bytes script c) groups) (all_shaped bytes script c checked groups (recursion_from_All (AreFiles c) groups files)),
)
