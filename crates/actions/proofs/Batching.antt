-- What a batch feeds, place by place.
use Rattle.lemmas.proofs.{ℕ, zero, suc, ◌≡◌, ◌≤◌, ◌<◌, ◌+◌, All, List, [], ◌∷◌, ◌++◌, length, map, take, drop, get_or, refl, ap, sym, subst, ◌∙◌, append_assoc, arith, ◌*◌, ℤ, pos, flat_map, Option, Some, None, nat_abs, ◌^◌, All-head, All-tail, drop_more, get_or-range_with_len, length-flat_map, length-map, length-range_with_len, map-append, range_with_len, sum_by-le}
use Rattle.std.proofs.lemmas.List.{map_more}
use Rattle.std.proofs.lemmas.List.Concat.{flat_map_single}
use Rattle.std.proofs.lemmas.List.Elements.{All-more}
use Rattle.std.proofs.lemmas.List.Folds.{length-flat_map-take}
use Rattle.rdf_values.specs.{ActionKind, feed_fault, Item, numbers, Scalar, spread, Value}
use Rattle.rdf_values.specs.declared.results.Item.TheVariants.{Point}
use Rattle.actions.specs.{fault_or_later, Fed, first_fault_in, first_lane, first_numbers, first_scalar, from_cluster, IsNumeric, IsWithin, FedLane, lane_value, numbers_in, Sources, SuitsAt, values_at, values_from}
use Rattle.actions.specs.declared.batch.Sources.TheVariants.{One}
use Rattle.actions.specs.declared.state.State.{State}
use Rattle.actions.specs.declared.taken.TakenValue.{TakenValue}
use Rattle.actions.proofs.Folds.{map-flat_map}
use Rattle.actions.proofs.States.{points_of_ones}

pub ruleset first_places = (length-range_with_len, get_or-range_with_len)

-- ---- what is held

-- with the items of one place more
pub one_more_fed : (fed : List Fed) (cluster : ℕ) (is js all : List Item) → all ≡ is ++ js → (fed ++ from_cluster cluster is) ++ from_cluster cluster js ≡ fed ++ from_cluster cluster all
one_more_fed fed cluster is js all e = grind (arith, append_assoc, map-append)

pub within_more : (s : State) (m n : ℕ) → m ≤ n → IsWithin m s → IsWithin n s
within_more s m n h w = grind arith

-- where each place gives few, all together give no more than as many times so many
pub few_each : {A : Type 0} (f : ℕ → List A) (n : ℕ) (ps : List ℕ) → All (λ p. length (f p) ≤ n) ps → length (flat_map f ps) ≤ length ps * n
few_each f n ps h = omega (arith, length-flat_map f ps, sum_by-le (λ p. length (f p)) n ps h)

-- ---- a Take

-- the items of one column
pub column_items : {A : Type 0} (k : ActionKind) (s : Sources) (ps : List ℕ) (f : List Value → List A) (g : A → Item) → ((vs : List Value) → spread k vs ≡ map g (f vs))
    → flat_map (λ p. spread k (values_at s p)) ps ≡ map g (flat_map (λ p. f (values_at s p)) ps)
column_items k s ps f g h = (λ i. flat_map (λ p. h (values_at s p) i) ps) ∙ sym (map-flat_map g (λ p. f (values_at s p)) ps)

-- each place gives one value at most
pub few_values : (cluster : ℕ) (s : Sources) (ps : List ℕ) → length (values_from cluster (flat_map (λ p. first_scalar (values_at s p)) ps)) ≤ length ps
few_values cluster s ps =
    let one : (vs : List Value) → length (first_scalar vs) ≤ 1 = λ vs. grind arith in
    omega (arith, length-map {B = TakenValue} (flat_map (λ p. first_scalar (values_at s p)) ps) (λ (x : Scalar). record { cluster = cluster; value = x }), few_each (λ p. first_scalar (values_at s p)) 1 ps (λ k d lt. one _))

-- ---- numbers

-- what some places give, and then one more, is no more than what all give
pub taken_within : {A : Type 0} (f : ℕ → List A) (ps : List ℕ) (i : ℕ) → i < length ps → length (flat_map f (take i ps)) + length (f (get_or ps i 0)) ≤ length (flat_map f ps)
taken_within f ps i h = length-flat_map-take f ps i 0 h

-- the numbers of the first places, where each has one
pub numbers_of_first : (zs : List ℤ) (n : ℕ) → All (λ p. p < length zs) (range_with_len 0 n) → flat_map (λ p. get_or zs p (pos 0) ∷ []) (range_with_len 0 n) ≡ take n zs
numbers_of_first zs n there = let h : n ≤ length zs = grind (arith, length-range_with_len, get_or-range_with_len) in go 0 n (omega (arith, h))
  where
    go : (a m : ℕ) → a + m ≤ length zs → flat_map (λ p. get_or zs p (pos 0) ∷ []) (range_with_len a m) ≡ take m (drop a zs)
    go a zero l = refl
    go a (suc m) l =
        ap (λ r. get_or zs a (pos 0) ∷ r) (go (a + 1) m (omega (arith, l)))
        ∙ ap (take (suc m)) (sym (drop_more zs a (pos 0) (omega (arith, l))))

-- ---- the first lane

pub lane_numbers_in : (s : Sources) (x : FedLane) (ps : List ℕ) → first_lane s ≡ Some x → flat_map (λ p. first_numbers (values_at s p)) ps ≡ numbers_in x ps
lane_numbers_in s x ps h = let one : (p : ℕ) → first_numbers (values_at s p) ≡ numbers (lane_value x p) = λ p. grind arith in λ i. flat_map (λ p. one p i) ps

pub no_numbers_in : (s : Sources) (ps : List ℕ) → first_lane s ≡ None → flat_map (λ p. first_numbers (values_at s p)) ps ≡ []
no_numbers_in s [] h = refl
no_numbers_in s (p ∷ ps) h = let none : first_numbers (values_at s p) ≡ [] = grind arith in ap (λ l. l ++ flat_map (λ q. first_numbers (values_at s q)) ps) none ∙ no_numbers_in s ps h

pub few_numbers : (s : Sources) (x : FedLane) (ps : List ℕ) → first_lane s ≡ Some x → All (λ p. length (first_numbers (values_at s p)) ≤ 4096) ps → length (numbers_in x ps) ≤ length ps * 4096
few_numbers s x ps h all = subst (λ l. length l ≤ length ps * 4096) (lane_numbers_in s x ps h) (few_each (λ p. first_numbers (values_at s p)) 4096 ps all)

-- where each place gives one
pub singles_counted : {A : Type 0} (f : ℕ → A) (ps : List ℕ) → length (flat_map (λ p. f p ∷ []) ps) ≡ length ps
singles_counted f ps = ap length (flat_map_single f ps) ∙ length-map ps f

-- ---- faults, and weights in range

pub none_found : (k : ActionKind) (s : Sources) (ps : List ℕ) → All (λ p. feed_fault k (values_at s p) ≡ None) ps → first_fault_in k s ps ≡ None
none_found k s [] h = refl
none_found k s (p ∷ ps) h =
    ap (λ o. fault_or_later p o (first_fault_in k s ps)) (All-head (λ q. feed_fault k (values_at s q) ≡ None) p ps h)
    ∙ none_found k s ps (All-tail (λ q. feed_fault k (values_at s q) ≡ None) p ps h)

pub one_more_light : (zs : List ℤ) (ps : List ℕ) (i : ℕ) → i < length ps → All (λ p. nat_abs (get_or zs p (pos 0)) < 2 ^ 31) (take i ps) → nat_abs (get_or zs (get_or ps i 0) (pos 0)) < 2 ^ 31
    → All (λ p. nat_abs (get_or zs p (pos 0)) < 2 ^ 31) (take (i + 1) ps)
one_more_light zs ps i h all one = All-more (λ p. nat_abs (get_or zs p (pos 0)) < 2 ^ 31) ps i 0 h all one

-- ---- points

-- with one more point
pub one_point_more : {A : Type 0} (before : List Item) (f : A → Item) (xs : List A) (i : ℕ) (d : A) (item : Item) → i < length xs → item ≡ f (get_or xs i d)
    → (before ++ map f (take i xs)) ++ item ∷ [] ≡ before ++ map f (take (i + 1) xs)
one_point_more before f xs i d item h e = append_assoc before (map f (take i xs)) (item ∷ []) ∙ ap (λ x. before ++ (map f (take i xs) ++ x ∷ [])) e ∙ ap (λ l. before ++ l) (sym (map_more f xs i d h))

-- a histogram without weights is filled with a point for each number
pub lane_points : (edges : List ℤ) (c : List ℕ) (o : Option (List ℕ)) (s : Sources) (x : FedLane) (ps : List ℕ) → s ≡ One x
    → flat_map (λ p. spread (ActionKind.Histo1D edges c o) (values_at s p)) ps ≡ map (λ z. Point z (pos 1)) (numbers_in x ps)
lane_points edges c o s x [] e = refl
lane_points edges c o s x (p ∷ ps) e = grind (arith, points_of_ones, map-append, lane_points edges c o s x ps e)

-- such a place has few numbers
pub few_points : (edges : List ℤ) (c : List ℕ) (o : Option (List ℕ)) (s : Sources) (x : FedLane) (ps : List ℕ) → s ≡ One x → All (SuitsAt (ActionKind.Histo1D edges c o) s) ps → length (numbers_in x ps) ≤ length ps * 4096
few_points edges c o s x ps e h = few_each (λ p. numbers (lane_value x p)) 4096 ps (λ k d lt.
    let short : (v : Value) → IsNumeric v → length (numbers v) ≤ 4096 = λ v n. grind arith in
    short _ (subst (λ t. SuitsAt (ActionKind.Histo1D edges c o) t (get_or ps k d)) e (h k d lt)))
