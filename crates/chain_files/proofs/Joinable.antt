-- Parts that nothing refuses can be joined.
use Rattle.lemmas.proofs.{◌≡◌, ◌+◌, ℕ, Bool, true, false, ◌&&◌, cond, None, Some, List, [], ◌∷◌, refl, ap, ap₂, ◌∙◌, sym, not, position, both_true, bytes_eq-Decides, list_all, position_from, position_from-zero}
use Rattle.rdf_values.specs.{ColType, Column, same}
use Rattle.shard_lines.specs.{PassShape}
use Rattle.shard_files.specs.{same_column, same_columns, same_kind}
use Rattle.chain_files.specs.{AcceptedCanJoin, are_loops, AreNext, CanJoinAll, in_order, is_of, not_behind, PartView, placed}
use Rattle.chain_files.proofs.Covered.{covered_are_next}

-- ---- what is the same

names_equal : (a b : List ℕ) → same a b ≡ true → a ≡ b
names_equal a b h = (bytes_eq-Decides a b).0 h

kinds_equal : (a b : ColType) → same_kind a b ≡ true → a ≡ b
kinds_equal ColType.Int ColType.Int h = refl
kinds_equal ColType.Int ColType.Bool h = cc h
kinds_equal ColType.Int ColType.Vect h = cc h
kinds_equal ColType.Bool ColType.Int h = cc h
kinds_equal ColType.Bool ColType.Bool h = refl
kinds_equal ColType.Bool ColType.Vect h = cc h
kinds_equal ColType.Vect ColType.Int h = cc h
kinds_equal ColType.Vect ColType.Bool h = cc h
kinds_equal ColType.Vect ColType.Vect h = refl

column_equal : (c d : Column) → same_column c d ≡ true → c ≡ d
column_equal c d h =
    let both = both_true (same c.name d.name) (same_kind c.kind d.kind) h in
    ap₂ (λ n t. record { name = n; kind = t }) (names_equal c.name d.name both.0) (kinds_equal c.kind d.kind both.1)

columns_equal : (cs ds : List Column) → same_columns cs ds ≡ true → cs ≡ ds
columns_equal [] [] h = refl
columns_equal [] (d ∷ ds) h = cc h
columns_equal (c ∷ cs) [] h = cc h
columns_equal (c ∷ cs) (d ∷ ds) h = let both = both_true (same_column c d) (same_columns cs ds) h in ap₂ (λ x xs. x ∷ xs) (column_equal c d both.0) (columns_equal cs ds both.1)

-- ---- all parts pass a test

module _ (test : PartView → Bool) where
  none_from : (xs : List PartView) (i : ℕ) → position_from (λ s. not (test s)) i xs ≡ None → list_all test xs ≡ true
  none_from [] i h = refl
  none_from (x ∷ xs) i h = by (test x) h (λ q. none_from xs (i + 1) q)
    where
      by : (b : Bool) → cond (not b) (Some i) (position_from (λ s. not (test s)) (i + 1) xs) ≡ None → (position_from (λ s. not (test s)) (i + 1) xs ≡ None → list_all test xs ≡ true) → (b && list_all test xs) ≡ true
      by true q f = f q
      by false q f = cc q

  all_pass : (xs : List PartView) → position (λ s. not (test s)) xs ≡ None → list_all test xs ≡ true
  all_pass xs h = none_from xs 0 (sym (position_from-zero (λ s. not (test s)) xs) ∙ h)

  placed_pass : (s : PartView) (ts : List PartView) → test s ≡ true → list_all test ts ≡ true → list_all test (placed s ts) ≡ true
  placed_pass s [] h g = ap₂ (λ x y. x && y) h g
  placed_pass s (t ∷ ts) h g = let both = both_true (test t) (list_all test ts) g in by (not_behind s t) both.0 (placed_pass s ts h both.1)
    where
      by : (b : Bool) → test t ≡ true → list_all test (placed s ts) ≡ true → list_all test (cond b (s ∷ t ∷ ts) (t ∷ placed s ts)) ≡ true
      by true p q = ap₂ (λ x y. x && y) h g
      by false p q = ap₂ (λ x y. x && y) p q

  in_order_pass : (ss : List PartView) → list_all test ss ≡ true → list_all test (in_order ss) ≡ true
  in_order_pass [] h = refl
  in_order_pass (s ∷ ss) h = let both = both_true (test s) (list_all test ss) h in placed_pass s (in_order ss) both.0 (in_order_pass ss both.1)

-- ---- parts behind each other

module _ (loops : List (List PassShape)) (script : List ℕ) (columns : List Column) where
  joinable : (s : PartView) (ss : List PartView) → AreNext (s ∷ ss) → list_all (is_of script columns) (s ∷ ss) ≡ true → list_all (λ (t : PartView). are_loops loops t.loops) (s ∷ ss) ≡ true → CanJoinAll loops s ss
  joinable s [] n h g = tt
  joinable s (t ∷ ts) n h g =
      let one = both_true (is_of script columns s) (list_all (is_of script columns) (t ∷ ts)) h in
      let other = both_true (is_of script columns t) (list_all (is_of script columns) ts) one.1 in
      let first = both_true (same s.script script) (same_columns s.columns columns) one.0 in
      let second = both_true (same t.script script) (same_columns t.columns columns) other.0 in
      let shape = both_true (are_loops loops s.loops) (list_all (λ (x : PartView). are_loops loops x.loops) (t ∷ ts)) g in
      let shapes = both_true (are_loops loops t.loops) (list_all (λ (x : PartView). are_loops loops x.loops) ts) shape.1 in (
        record {
          next = n.0;
          script = names_equal s.script script first.0 ∙ sym (names_equal t.script script second.0);
          columns = columns_equal s.columns columns first.1 ∙ sym (columns_equal t.columns columns second.1);
          earlier = shape.0;
          later = shapes.0;
        },
        joinable t ts n.1 one.1 shape.1,
      )

pub accepted_can_join : AcceptedCanJoin
accepted_can_join loops script s ss first others same_head in_shape ordered covered =
    let heads = all_pass (is_of script s.columns) (s ∷ ss) same_head in
    let shapes = all_pass (λ (t : PartView). are_loops loops t.loops) (s ∷ ss) in_shape in
    let sorted_heads = ap (list_all (is_of script s.columns)) (sym ordered) ∙ in_order_pass (is_of script s.columns) (s ∷ ss) heads in
    let sorted_shapes = ap (list_all (λ (t : PartView). are_loops loops t.loops)) (sym ordered) ∙ in_order_pass (λ (t : PartView). are_loops loops t.loops) (s ∷ ss) shapes in
    joinable loops script s.columns first others (covered_are_next (first ∷ others) covered) sorted_heads sorted_shapes
