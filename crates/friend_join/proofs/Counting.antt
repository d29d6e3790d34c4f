-- How many elements the vectors of a table have: row by row, and column by column.
use Rattle.lemmas.proofs.{◌≡◌, ◌≤◌, ◌<◌, ◌+◌, ℕ, ℤ, zero, suc, pos, All, List, [], ◌∷◌, ◌++◌, length, map, get_or, take, drop, refl, ap, ap₂, ◌∙◌, sym, arith, Option, None, Some, subst, length-append, append_assoc, MatchOption, slice_get, flat_map-append, get_or-append-add, get_or_append_left, remove, sum_by, sum_by-append, sum_by-cons, sum_by_more, take-append-drop}
use Rattle.std.specs.Prelude.{⊤}
use Rattle.rdf_values.specs.{AreKept, below, cell_at, Cells, ColType, Column, count, FitRows, FitsColumn, HoldsTable, IsKept, rows_kept, Value}
use Rattle.rdf_values.proofs.UnionLemmas.{slice_get-below, sum_by-map as sum_map}
use Rattle.rdf_values.proofs.KeptLemmas.{map_below}
use Rattle.friend_join.specs.{AreBelow, AreEntries, AreSmall, column_elements, elements, elements_of, IsSmall, length_for, matched_cells, matched_elements, row_elements, vector_for}
use Rattle.columns.specs.{joined}
use Rattle.friend_join.proofs.Removing.{remove_nil, there}
use Rattle.columns.proofs.InPieces.{joined_more}

-- ---- a sum, element by element

-- one more term of a sum
pub sum_next : {A : Type 0} (f : A → ℕ) (xs : List A) (i : ℕ) (x : A) → i < length xs → x ≡ get_or xs i x → sum_by f (take (i + 1) xs) ≡ sum_by f (take i xs) + f x
sum_next f xs i x l e = sum_by_more f xs i x l ∙ ap (λ y. sum_by f (take i xs) + f y) (sym e)

-- ---- rows and columns

no_cells : (es : List ℕ) → sum_by row_elements (map (λ (e : ℕ). let none : List Value = [] in none) es) ≡ 0
no_cells [] = refl
no_cells (e ∷ es) = sum_by-cons row_elements [] (map (λ (e : ℕ). let none : List Value = [] in none) es) ∙ ap (λ (n : ℕ). row_elements [] + n) (no_cells es)

one_column : (x : Cells) (xs : List Cells) (es : List ℕ)
    → sum_by row_elements (map (λ e. map (cell_at e) (x ∷ xs)) es) ≡ sum_by elements_of (map (λ e. cell_at e x) es) + sum_by row_elements (map (λ e. map (cell_at e) xs) es)
one_column x xs [] = refl
one_column x xs (e ∷ es) =
    let rest = one_column x xs es in
    let all = sum_by-cons row_elements (map (cell_at e) (x ∷ xs)) (map (λ e. map (cell_at e) (x ∷ xs)) es) in
    let row = sum_by-cons elements_of (cell_at e x) (map (cell_at e) xs) in
    let first = sum_by-cons elements_of (cell_at e x) (map (λ e. cell_at e x) es) in
    let others = sum_by-cons row_elements (map (cell_at e) xs) (map (λ e. map (cell_at e) xs) es) in
    omega arith

no_elements : (ns : List ℤ) → sum_by elements_of (map Value.Int ns) ≡ 0
no_elements [] = refl
no_elements (n ∷ ns) = sum_by-cons elements_of (Value.Int n) (map Value.Int ns) ∙ ap (λ (m : ℕ). elements_of (Value.Int n) + m) (no_elements ns)

of_column : (kind : ColType) (n : ℕ) (x : Cells) → IsKept kind n x → sum_by elements_of (map (λ e. cell_at e x) (below n)) ≡ column_elements x
of_column ColType.Int n (Cells.Ints ns) h = ap (sum_by elements_of) (map_below (pos 0) Value.Int ns n h) ∙ no_elements ns
of_column ColType.Int n (Cells.Vects vs) h = absurd h
of_column ColType.Bool n x h = absurd h
of_column ColType.Vect n (Cells.Ints ns) h = absurd h
of_column ColType.Vect n (Cells.Vects vs) h = ap (sum_by elements_of) (map_below [] Value.Vect vs n h) ∙ sum_map elements_of Value.Vect vs

by_columns : (n : ℕ) (columns : List Column) (xs : List Cells) → AreKept n columns xs → sum_by row_elements (map (λ e. map (cell_at e) xs) (below n)) ≡ sum_by column_elements xs
by_columns n [] [] h = no_cells (below n)
by_columns n [] (x ∷ xs) h = absurd h
by_columns n (c ∷ cs) [] h = absurd h
by_columns n (c ∷ cs) (x ∷ xs) h =
    one_column x xs (below n) ∙ ap₂ (λ a b. a + b) (of_column c.kind n x h.0) (by_columns n cs xs h.1) ∙ sym (sum_by-cons column_elements x xs)

elements_kept : (n : ℕ) (columns : List Column) (xs : List Cells) → AreKept n columns xs → elements (rows_kept n xs) ≡ sum_by column_elements xs
unfolding rows_kept
elements_kept n columns xs h = by_columns n columns xs h

of_matched : (missing : ℤ) (ms : List (Option ℕ)) (ys : List Cells) → sum_by column_elements (map (matched_cells missing ms) ys) ≡ sum_by (matched_elements ms) ys
of_matched missing ms [] = refl
of_matched missing ms (y ∷ ys) =
    sum_by-cons column_elements (matched_cells missing ms y) (map (matched_cells missing ms) ys) ∙ ap₂ (λ a b. a + b) (one y) (of_matched missing ms ys) ∙ sym (sum_by-cons (matched_elements ms) y ys)
  where
    one : (y : Cells) → column_elements (matched_cells missing ms y) ≡ matched_elements ms y
    one (Cells.Ints ns) = refl
    one (Cells.Vects vs) = sum_map length (vector_for vs) ms

-- the elements of columns with others behind them that are laid out anew
pub elements_joined : (missing : ℤ) (ms : List (Option ℕ)) (n : ℕ) (columns : List Column) (xs ys : List Cells) → AreKept n columns (xs ++ map (matched_cells missing ms) ys)
    → sum_by column_elements xs + sum_by (matched_elements ms) ys ≡ elements (rows_kept n (xs ++ map (matched_cells missing ms) ys))
elements_joined missing ms n columns xs ys h =
    sym (elements_kept n columns (xs ++ map (matched_cells missing ms) ys) h
    ∙ sum_by-append column_elements xs (map (matched_cells missing ms) ys) ∙ ap (λ k. sum_by column_elements xs + k) (of_matched missing ms ys))

-- ---- vectors of a table are small

column_split : (c : Column) (cs : List Column) (x : Cells) (xs : List Cells) (es : List ℕ) → FitRows (c ∷ cs) (map (λ e. map (cell_at e) (x ∷ xs)) es)
    → ((i e : ℕ) → slice_get es i ≡ Some e → FitsColumn c.kind (cell_at e x)) × FitRows cs (map (λ e. map (cell_at e) xs) es)
column_split c cs x xs [] h = (λ i e q. cc q, tt)
column_split c cs x xs (e ∷ es) h = let rest = column_split c cs x xs es h.1 in (first rest.0, (h.0.1, rest.1))
  where
    first : ((i d : ℕ) → slice_get es i ≡ Some d → FitsColumn c.kind (cell_at d x)) → (i d : ℕ) → slice_get (e ∷ es) i ≡ Some d → FitsColumn c.kind (cell_at d x)
    first rest zero d q = let same : e ≡ d = cc q in subst (λ n. FitsColumn c.kind (cell_at n x)) same h.0.0
    first rest (suc i) d q = rest i d q

small_column : (kind : ColType) (n : ℕ) (x : Cells) → n ≤ 1000000 → IsKept kind n x → ((i e : ℕ) → slice_get (below n) i ≡ Some e → FitsColumn kind (cell_at e x)) → IsSmall x
small_column ColType.Int n (Cells.Ints ns) few h f = omega (arith, h)
small_column ColType.Int n (Cells.Vects vs) few h f = absurd h
small_column ColType.Bool n x few h f = absurd h
small_column ColType.Vect n (Cells.Ints ns) few h f = absurd h
small_column ColType.Vect n (Cells.Vects vs) few h f = (omega (arith, h), λ i d l. one i d l)
  where
    one : (i : ℕ) (d : List ℤ) → i < length vs → length (get_or vs i d) ≤ 4096
    one i d l =
        let same : get_or vs i [] ≡ get_or vs i d = cc (there vs i [] l, there vs i d l) in
        let fits = f i i (slice_get-below n i (omega (arith, l, h))) in
        subst (λ (ns : List ℤ). length ns ≤ 4096) same fits.0

small_columns : (n : ℕ) (columns : List Column) (xs : List Cells) → n ≤ 1000000 → AreKept n columns xs → FitRows columns (map (λ e. map (cell_at e) xs) (below n)) → AreSmall xs
small_columns n [] [] few h f = tt
small_columns n [] (x ∷ xs) few h f = absurd h
small_columns n (c ∷ cs) [] few h f = absurd h
small_columns n (c ∷ cs) (x ∷ xs) few h f = let parts = column_split c cs x xs (below n) f in (small_column c.kind n x few h.0 parts.0, small_columns n cs xs few h.1 parts.1)

pub all_small : (columns : List Column) (xs : List Cells) (n : ℕ) → HoldsTable columns xs n → AreSmall xs
unfolding rows_kept
all_small columns xs n h = small_columns n columns xs h.few h.kept h.fit

pub small_remove : (xs : List Cells) (p : ℕ) → AreSmall xs → AreSmall (remove xs p)
small_remove [] p h = subst AreSmall (sym (remove_nil p)) tt
small_remove (x ∷ xs) zero h = h.1
small_remove (x ∷ xs) (suc p) h = (h.0, small_remove xs p h.1)

-- the column at a place is small, and has the matches among its entries
pub small_at : (xs : List Cells) (i : ℕ) (d : Cells) → AreSmall xs → i < length xs → IsSmall (get_or xs i d)
small_at [] i d h l = absurd (omega arith)
small_at (x ∷ xs) zero d h l = h.0
small_at (x ∷ xs) (suc i) d h l = small_at xs i d h.1 (omega arith)

pub entries_at : (ms : List (Option ℕ)) (xs : List Cells) (i : ℕ) (d : Cells) → AreEntries ms xs → i < length xs → AreBelow (count (get_or xs i d)) ms
entries_at ms [] i d h l = absurd (omega arith)
entries_at ms (x ∷ xs) zero d h l = h.0
entries_at ms (x ∷ xs) (suc i) d h l = entries_at ms xs i d h.1 (omega arith)

-- ---- pieces

joined_parts : {A : Type 0} (pieces : List (List A)) (i : ℕ) → joined (take i pieces) ++ joined (drop i pieces) ≡ joined pieces
joined_parts pieces i = sym (flat_map-append (λ p. p) (take i pieces) (drop i pieces)) ∙ ap joined (take-append-drop i pieces)

-- a piece lies within the whole
within : {A : Type 0} (pieces : List (List A)) (i : ℕ) (piece : List A) → piece ≡ get_or pieces i piece → i < length pieces → joined (take i pieces) ++ piece ++ joined (drop (i + 1) pieces) ≡ joined pieces
within pieces i piece e l = ap (λ ns. ns ++ joined (drop (i + 1) pieces)) (sym (joined_more pieces i piece e l)) ∙ joined_parts pieces (i + 1)

pub piece_few : {A : Type 0} (pieces : List (List A)) (i n : ℕ) (piece : List A) → piece ≡ get_or pieces i piece → i < length pieces → length (joined pieces) ≤ n → length (joined (take i pieces)) + length piece ≤ n
piece_few pieces i n piece e l few =
    let all = ap length (within pieces i piece e l) in
    omega (arith, all, few, length-append (joined (take i pieces) ++ piece) (joined (drop (i + 1) pieces)), length-append (joined (take i pieces)) piece)

pub piece_small : (pieces : List (List (List ℤ))) (i : ℕ) (piece : List (List ℤ)) → piece ≡ get_or pieces i piece → i < length pieces → All (λ (v : List ℤ). length v ≤ 4096) (joined pieces) → All (λ (v : List ℤ). length v ≤ 4096) piece
piece_small pieces i piece e l small j d h =
    let front = joined (take i pieces) in
    let back = joined (drop (i + 1) pieces) in
    let at : get_or (joined pieces) (length front + j) d ≡ get_or piece j d =
    ap (λ vs. get_or vs (length front + j) d) (sym (within pieces i piece e l) ∙ append_assoc front piece back) ∙ get_or-append-add front (piece ++ back) j d ∙ get_or_append_left piece back d j h in
    let few = piece_few pieces i (length (joined pieces)) piece e l (omega arith) in
    subst (λ (v : List ℤ). length v ≤ 4096) at (small (length front + j) d (omega (arith, few, h)))

-- ---- matches

pub match_below : (n : ℕ) (ms : List (Option ℕ)) (i : ℕ) (d : Option ℕ) → AreBelow n ms → i < length ms → MatchOption (get_or ms i d) ⊤ (λ e. e < n)
match_below n [] i d h l = absurd (omega arith)
match_below n (None ∷ ms) zero d h l = tt
match_below n (Some m ∷ ms) zero d h l = h.0
match_below n (None ∷ ms) (suc i) d h l = match_below n ms i d h (omega arith)
match_below n (Some m ∷ ms) (suc i) d h l = match_below n ms i d h.1 (omega arith)

-- ---- vectors are short

pub short_for : (vs : List (List ℤ)) (m : Option ℕ) → All (λ (v : List ℤ). length v ≤ 4096) vs → MatchOption m ⊤ (λ e. e < length vs) → length (vector_for vs m) ≤ 4096
short_for vs None h l = omega arith
short_for vs (Some e) h l = h e [] l

pub lengths_next : (vs : List (List ℤ)) (ms : List (Option ℕ)) (i : ℕ) (d : Option ℕ) (v : List ℤ) → i < length ms → v ≡ vector_for vs (get_or ms i d)
    → sum_by (length_for vs) (take (i + 1) ms) ≡ sum_by (length_for vs) (take i ms) + length v
lengths_next vs ms i d v l e = sum_by_more (length_for vs) ms i d l ∙ ap (λ (w : List ℤ). sum_by (length_for vs) (take i ms) + length w) (sym e)

pub short_at : (vs : List (List ℤ)) (ms : List (Option ℕ)) (i : ℕ) (d : Option ℕ) (v : List ℤ) → All (λ (v : List ℤ). length v ≤ 4096) vs → AreBelow (length vs) ms → i < length ms → v ≡ vector_for vs (get_or ms i d) → length v ≤ 4096
short_at vs ms i d v h b l e = subst (λ (w : List ℤ). length w ≤ 4096) (sym e) (short_for vs (get_or ms i d) h (match_below (length vs) ms i d b l))
