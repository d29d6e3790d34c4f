-- What was booked: the kind of the column that a Take reads, how many cells a histogram has, and how many filters a report.
use Rattle.lemmas.proofs.{◌≡◌, ◌⊎◌, inl, inr, ℕ, zero, suc, ◌+◌, ◌*◌, ◌≤◌, Bool, true, false, List, [], ◌∷◌, ◌++◌, length, map, Option, Some, None, Ok, refl, ap, subst, arith, length-append, if◌then◌else◌, nat_lt, slice_get, sum_by, nat_tests, sum_by-cons}
use Rattle.std.specs.Prelude.{⊤}
use Rattle.rdf_values.specs.{ActionAt, ActionKind, AreAccepted, Booked, booked_by, Booking, bookings, cells_of, check_columns, check_edges, check_node, check_passes, check_results, ColType, Column, column_kind, columns_of, covered, FunctionNames, GraphCause, kind_or_int, makes, named_on, over_passes, parent_of, passes_of, Path, path, permitted_kinds, refuse_if, ReportOn, Scope, scope_at, scope_of, Statement, takes_of, visible_columns}
use Rattle.rdf_values.specs.declared.scripts.statement.Statement.TheVariants.{Action, Alias, Define, Filter, Print, Redefine, Report, VariationsFor, Vary, Watch}
use Rattle.rdf_model.proofs.Accepted.{both_none, if_fails}
use Rattle.graph_numbers.specs.{covered_at, filter_sites, own_results, ResultAt, results, version_at, version_kinds}
use Rattle.graph_numbers.proofs.Placing.{Extends, shorter, of_joined, kind_later, visible_kind}
use Rattle.shard_runs.specs.{first_kind}
use Rattle.graph.proofs.Finished.{named_few}
use Rattle.shard_runs.proofs.Takes.{column_known}

-- ---- the checks of an action

module _ (header : List Column) (names : FunctionNames) where
  abbrev scope : List Statement → List ℕ → Scope
  scope before parent = scope_at names (scope_of header) before parent

  -- the columns of an action are checked, and the passes of all that is booked with it
  record IsCheckedAction (before : List Statement) (result parent : List ℕ) (k : ActionKind) : Type 0 where
    columns : check_columns (scope before parent) (permitted_kinds k) [] (columns_of k) ≡ None
    passes : check_passes before (bookings (Action result parent k ∷ before)) ≡ None

  checked : (before : List Statement) (result parent : List ℕ) (k : ActionKind) → AreAccepted names (scope_of header) (Action result parent k ∷ before) → IsCheckedAction before result parent k
  checked before result parent k h =
      let node : Option GraphCause = check_node before result parent in
      let columns : Option GraphCause = check_columns (scope before parent) (permitted_kinds k) [] (columns_of k) in
      let results : Option GraphCause = check_results (Action result parent k ∷ before) in
      let passes : Option GraphCause = check_passes before (bookings (Action result parent k ∷ before)) in
      let one = both_none node (columns ∷ check_edges k ∷ results ∷ passes ∷ []) h.0 in
      let two = both_none columns (check_edges k ∷ results ∷ passes ∷ []) one.1 in
      let three = both_none (check_edges k) (results ∷ passes ∷ []) two.1 in
      let four = both_none results (passes ∷ []) three.1 in
      record { columns = two.0; passes = (both_none passes [] four.1).0 }

  -- ---- a Take reads a version of its column's kind

  module _ (script : List Statement) where
    abbrev pub ReadsKind : ResultAt → Booking → Type 0
    ReadsKind r (ActionAt (ActionKind.Take c) at) = (v : ℕ) × (r.inputs ≡ v ∷ []) × (slice_get (version_kinds header names script) v ≡ Some (first_kind (visible_columns names (scope_of header) at) (c ∷ [])))
    ReadsKind r b = ⊤

    take_reads : (before : List Statement) (result parent : List ℕ) (k : ActionKind) → AreAccepted names (scope_of header) (Action result parent k ∷ before) → Extends before script
        → ReadsKind (record { booked = record { name = result; booking = ActionAt k (path before parent) }; filters = filter_sites header names before parent; inputs = map (version_at header before parent) (columns_of k); covers = [] }) (ActionAt k (path before parent))
    take_reads before result parent (ActionKind.Take c) good e =
        let t : ColType = kind_or_int (column_kind (scope before parent) c) in
        let known : column_kind (scope before parent) c ≡ Ok t = column_known (scope before parent) (permitted_kinds (ActionKind.Take c)) [] c [] (checked before result parent (ActionKind.Take c) good).columns in
        (version_at header before parent c, refl, kind_later header names before script e (version_at header before parent c) t (visible_kind header names before good.1 parent c t known))
    take_reads before result parent k good e = tt

    own_reads : (before : List Statement) (s : Statement) → AreAccepted names (scope_of header) (s ∷ before) → Extends before script → (n : ℕ) (r : ResultAt) → slice_get (own_results header names before s) n ≡ Some r → ReadsKind r r.booked.booking
    own_reads before (Action result parent k) good e zero r q =
        let x : ResultAt = record { booked = record { name = result; booking = ActionAt k (path before parent) }; filters = filter_sites header names before parent; inputs = map (version_at header before parent) (columns_of k); covers = [] } in
        let is : x ≡ r = cc q in
        subst (λ (y : ResultAt). ReadsKind y y.booked.booking) is (take_reads before result parent k good e)
    own_reads before (Report result parent) good e zero r q =
        let x : ResultAt = record { booked = record { name = result; booking = ReportOn (covered before (path before parent)) }; filters = filter_sites header names before parent; inputs = []; covers = covered_at before parent } in
        let is : x ≡ r = cc q in
        subst (λ (y : ResultAt). ReadsKind y y.booked.booking) is tt
    own_reads before (Action result parent k) good e (suc n) r q = cc q
    own_reads before (Report result parent) good e (suc n) r q = cc q
    own_reads before s good e n r q = cc q

    pub result_reads : (before : List Statement) → AreAccepted names (scope_of header) before → Extends before script → (n : ℕ) (r : ResultAt) → slice_get (results header names before) n ≡ Some r → ReadsKind r r.booked.booking
    result_reads [] good e n r h = cc h
    result_reads (s ∷ before) good e n r h = go (result_reads before good.1 (shorter s before script e) n r) (of_joined (results header names before) (own_results header names before s) n r h)
      where
        go : (slice_get (results header names before) n ≡ Some r → ReadsKind r r.booked.booking)
            → (slice_get (results header names before) n ≡ Some r) ⊎ ((k : ℕ) × (n ≡ length (results header names before) + k) × (slice_get (own_results header names before s) k ≡ Some r)) → ReadsKind r r.booked.booking
        go next (inl q) = next q
        go next (inr q) = own_reads before s good (shorter s before script e) q.0 r q.2

  -- ---- cells

  one_of_sum : {A : Type 0} (f : A → ℕ) (xs : List A) (n : ℕ) (x : A) → slice_get xs n ≡ Some x → f x ≤ sum_by f xs
  one_of_sum f [] n x at = absurd (cc at)
  one_of_sum {A} f (y ∷ ys) zero x at = (let same : f y ≡ f x = ap f (same_some at) in omega (arith, sum_by-cons f y ys))
    where
      same_some : {a b : A} → ◌≡◌ {A = Option A} (Some a) (Some b) → a ≡ b
      same_some q = cc
  one_of_sum f (y ∷ ys) (suc n) x at = (let rest = one_of_sum f ys n x at in omega (arith, sum_by-cons f y ys))

  some_pass : (script : List Statement) (b : Booked) → (n : ℕ) × (length (passes_of script b) ≡ suc n)
  some_pass script b = (_, refl)

  few_cells : (script : List Statement) (bs : List Booked) (n : ℕ) (b : Booked) → check_passes script bs ≡ None → slice_get bs n ≡ Some b → cells_of b.booking ≤ 1048576
  few_cells script bs n b none at =
      let cells : Option GraphCause = refuse_if (nat_lt 1048576 (over_passes cells_of script bs)) GraphCause.TooMany in
      let takes : Option GraphCause = refuse_if (nat_lt 16 (over_passes takes_of script bs)) GraphCause.TooMany in
      let few = if_fails (nat_lt 1048576 (over_passes cells_of script bs)) GraphCause.TooMany (both_none cells (takes ∷ []) none).0 in
      let all : over_passes cells_of script bs ≤ 1048576 = grind (arith, nat_tests, few) in
      let one = one_of_sum (λ (x : Booked). length (passes_of script x) * cells_of x.booking) bs n b at in
      let some = some_pass script b in
      let c : ℕ = cells_of b.booking in
      let its : length (passes_of script b) * c ≡ suc some.0 * c = ap (λ m. m * c) some.1 in
      let more : suc some.0 * c ≡ c + some.0 * c = grind arith in
      omega arith

  earlier : (before : List Statement) (n : ℕ) (b : Booked) → slice_get (bookings before ++ []) n ≡ Some b → slice_get (bookings before) n ≡ Some b
  earlier before n b at = go (of_joined (bookings before) [] n b at)
    where
      go : (slice_get (bookings before) n ≡ Some b) ⊎ ((k : ℕ) × (n ≡ length (bookings before) + k) × (slice_get [] k ≡ Some b)) → slice_get (bookings before) n ≡ Some b
      go (inl q) = q
      go (inr q) = absurd (cc q.2)

  -- what was booked has at most 1,048,576 cells
  pub cells_are_few : (before : List Statement) → AreAccepted names (scope_of header) before → (n : ℕ) (b : Booked) → slice_get (bookings before) n ≡ Some b → cells_of b.booking ≤ 1048576
  cells_are_few [] good n b at = absurd (cc at)
  cells_are_few (Action result parent k ∷ before) good n b at = few_cells before (bookings (Action result parent k ∷ before)) n b (checked before result parent k good).passes at
  cells_are_few (Report result parent ∷ before) good n b at = go (cells_are_few before good.1 n b) (of_joined (bookings before) (booked_by before (Report result parent)) n b at)
    where
      own : (k : ℕ) → slice_get (booked_by before (Report result parent)) k ≡ Some b → cells_of b.booking ≤ 1048576
      own zero q = (let is : record { name = result; booking = ReportOn (covered before (path before parent)) } ≡ b = cc q in subst (λ (y : Booked). cells_of y.booking ≤ 1048576) is (omega arith))
      own (suc k) q = absurd (cc q)

      go : (slice_get (bookings before) n ≡ Some b → cells_of b.booking ≤ 1048576) → (slice_get (bookings before) n ≡ Some b) ⊎ ((k : ℕ) × (n ≡ length (bookings before) + k) × (slice_get (booked_by before (Report result parent)) k ≡ Some b)) → cells_of b.booking ≤ 1048576
      go next (inl q) = next q
      go next (inr q) = own q.0 q.2
  cells_are_few (Define node parent column expr ∷ before) good n b at = cells_are_few before good.1 n b (earlier before n b at)
  cells_are_few (Redefine node parent column expr ∷ before) good n b at = cells_are_few before good.1 n b (earlier before n b at)
  cells_are_few (Alias node parent column target ∷ before) good n b at = cells_are_few before good.1 n b (earlier before n b at)
  cells_are_few (Filter node parent expr label ∷ before) good n b at = cells_are_few before good.1 n b (earlier before n b at)
  cells_are_few (Vary node parent columns values tags vary ∷ before) good n b at = cells_are_few before good.1 n b (earlier before n b at)
  cells_are_few (VariationsFor result ∷ before) good n b at = cells_are_few before good.1 n b (earlier before n b at)
  cells_are_few (Watch result ∷ before) good n b at = cells_are_few before good.1 n b (earlier before n b at)
  cells_are_few (Print result ∷ before) good n b at = cells_are_few before good.1 n b (earlier before n b at)

-- ---- filters

path_few : (before : List Statement) (node : List ℕ) → length (path before node) ≤ length before
path_few [] node = omega arith
path_few (s ∷ before) node = go (makes s node) (path_few before (parent_of s)) (path_few before node)
  where
    go : (b : Bool) → length (path before (parent_of s)) ≤ length before → length (path before node) ≤ length before → length (if b then s ∷ path before (parent_of s) else path before node) ≤ suc (length before)
    go true h k = omega arith
    go false h k = omega arith

on_few : (p : Path) → length (named_on p) ≤ length p
on_few [] = omega arith
on_few (Filter node parent expr (Some label) ∷ up) =
    let rest = on_few up in
    let one = length-append (named_on up) ((Filter node parent expr (Some label) ∷ up) ∷ []) in
    omega arith
on_few (s ∷ up) = (let rest = on_few up in omega arith)

covered_few : (before : List Statement) (node : List ℕ) → length (covered before (path before node)) ≤ length before
covered_few before node = go (path before node) (path_few before node)
  where
    go : (p : Path) → length p ≤ length before → length (covered before p) ≤ length before
    go [] h = named_few before
    go (s ∷ up) h = (let on = on_few (s ∷ up) in omega arith)

-- how many filters were booked
abbrev pub filter_count : Booking → ℕ
filter_count (ActionAt k at) = 0
filter_count (ReportOn filters) = length filters

-- a report has at most as many filters as there are statements
pub filters_are_few : (before : List Statement) (n : ℕ) (b : Booked) → slice_get (bookings before) n ≡ Some b → filter_count b.booking ≤ length before
filters_are_few [] n b at = absurd (cc at)
filters_are_few (s ∷ before) n b at = go (filters_are_few before n b) (of_joined (bookings before) (booked_by before s) n b at)
  where
    own : (t : Statement) (k : ℕ) → slice_get (booked_by before t) k ≡ Some b → filter_count b.booking ≤ suc (length before)
    own (Action result parent a) zero q = (let is : record { name = result; booking = ActionAt a (path before parent) } ≡ b = cc q in subst (λ (y : Booked). filter_count y.booking ≤ suc (length before)) is (omega arith))
    own (Report result parent) zero q =
        let is : record { name = result; booking = ReportOn (covered before (path before parent)) } ≡ b = cc q in
        let few = covered_few before parent in
        subst (λ (y : Booked). filter_count y.booking ≤ suc (length before)) is (omega arith)
    own (Action result parent a) (suc k) q = absurd (cc q)
    own (Report result parent) (suc k) q = absurd (cc q)
    own t k q = absurd (cc q)

    go : (slice_get (bookings before) n ≡ Some b → filter_count b.booking ≤ length before) → (slice_get (bookings before) n ≡ Some b) ⊎ ((k : ℕ) × (n ≡ length (bookings before) + k) × (slice_get (booked_by before s) k ≡ Some b)) → filter_count b.booking ≤ suc (length before)
    go next (inl q) = (let l = next q in omega arith)
    go next (inr q) = own s q.0 q.2
