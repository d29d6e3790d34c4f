-- No two sites of an accepted script have one node and places, and no two variations one name and tag.
use Rattle.lemmas.proofs.{◌≡◌, ◌≢◌, ℕ, zero, suc, ◌+◌, ◌<◌, ◌≤◌, Bool, true, false, ◌&&◌, List, [], ◌∷◌, ◌++◌, map, Option, Some, None, refl, sym, ◌∙◌, ap, arith, nat_eq, slice_get, and_from, and_left_false, and_right_false, Decides-eqb, eq_itself, list_any, or_parts, false_from_ne_true, or_left, or_right, slice_get_within}
use Rattle.rdf_values.specs.{AreAccepted, check, check_node, Column, first_refusal, FunctionNames, GraphCause, is_variation_name, makes, NamedTree, own_variations, place, repeats, same, same_variation, scope_of, Statement, Variation, variations, VaryValues}
use Rattle.rdf_values.specs.declared.scripts.statement.Statement.TheVariants.{Vary}
use Rattle.rdf_model.specs.{same_site, Site}
use Rattle.rdf_model.proofs.Accepted.{all_none, both_none, if_fails, names_equal, itself, turned}
use Rattle.graph_numbers.specs.{list_sites, lists_sites, own_sites, SiteAt, sites}
use Rattle.graph_numbers.proofs.Placing.{by_test, joined, only_at}

-- ---- lists without two elements that are alike

place_is : {A : Type 0} (test : A → Bool) (xs : List A) (s : ℕ) (x : A) → slice_get xs s ≡ Some x → test x ≡ true → ((t : ℕ) (y : A) → t < s → slice_get xs t ≡ Some y → test y ≡ false) → place test xs ≡ Some s
place_is test (y ∷ xs) (suc s) x h k before =
    let e = before 0 y (omega arith) refl in grind (arith, e, place_is test xs s x h k (λ t z l q. before (suc t) z (omega (arith, l)) q))
place_is test xs s x h k before = grind arith

abbrev pub AreApart : {A : Type 0} → (A → A → Bool) → List A → Type 0
AreApart {A} alike xs = (s t : ℕ) (x y : A) → t < s → slice_get xs s ≡ Some x → slice_get xs t ≡ Some y → alike x y ≡ false

pub both_apart : {A : Type 0} (alike : A → A → Bool) (xs ys : List A) → AreApart alike xs → AreApart alike ys
    → ((k t : ℕ) (x y : A) → slice_get ys k ≡ Some x → slice_get xs t ≡ Some y → alike x y ≡ false) → AreApart alike (xs ++ ys)
both_apart alike xs ys f g between s t x y lt h k =
    joined xs ys s x h
    (λ p. joined xs ys t y k (λ q. f s t x y lt p q) (λ n e q. let l = slice_get_within xs s x p in absurd (omega (arith, l, e, lt))))
    (λ m d p. joined xs ys t y k (λ q. between m t x y p q) (λ n e q. g m n x y (omega (arith, d, e, lt)) p q))

pub one_apart : {A : Type 0} (alike : A → A → Bool) (a : A) → AreApart alike (a ∷ [])
one_apart alike a s t x y lt h k = let l = slice_get_within (a ∷ []) s x h in absurd (omega (arith, l, lt))

-- ---- sites that differ

pub eq_false : (m n : ℕ) → m ≢ n → nat_eq m n ≡ false
eq_false m n h = false_from_ne_true (nat_eq m n) (λ e. h ((Decides-eqb m n).0 e))

other_column : (a b : Site) → a.column ≢ b.column → same_site a b ≡ false
other_column a b h = and_left_false (same a.node b.node && nat_eq a.column b.column) _ (and_right_false (same a.node b.node) _ (eq_false a.column b.column h))

same_itself : (a : Site) → same_site a a ≡ true
same_itself a = and_from (same a.node a.node && nat_eq a.column a.column) _ (and_from (same a.node a.node) _ (itself a.node) (eq_itself a.column)) (eq_itself a.tag)

abbrev alike : SiteAt → SiteAt → Bool
alike x y = same_site x.site y.site

-- ---- sites

module _ (header : List Column) (names : FunctionNames) where
  abbrev pub MadeBy : List Statement → List ℕ → Bool
  MadeBy before n = list_any (λ s. makes s n) before

  module _ (before : List Statement) (parent node : List ℕ) where
    abbrev of_list : ℕ → ℕ → List NamedTree → List SiteAt
    of_list i k es = list_sites header names before parent node i k es

    abbrev of_lists : ℕ → List (List NamedTree) → List SiteAt
    of_lists i lists = lists_sites header names before parent node i lists

    list_places : (i k l : ℕ) (es : List NamedTree) (x : SiteAt) → slice_get (of_list i k es) l ≡ Some x → (x.site.node ≡ node) × (x.site.column ≡ i) × (x.site.tag ≡ k + l)
    list_places i k l [] x h = cc h
    list_places i k l (e ∷ es) x h = grind (arith, λ (m : ℕ). list_places i (suc k) m es x)

    lists_places : (i l : ℕ) (lists : List (List NamedTree)) (x : SiteAt) → slice_get (of_lists i lists) l ≡ Some x → (x.site.node ≡ node) × (i ≤ x.site.column)
    lists_places i l [] x h = cc h
    lists_places i l (es ∷ lists) x h =
        joined (of_list i 0 es) (of_lists (suc i) lists) l x h
        (λ q. let p = list_places i 0 l es x q in (p.0, (let e = p.1 in omega (arith, e))))
        (λ k e q. let p = lists_places (suc i) k lists x q in (p.0, (let d = p.1 in omega (arith, d))))

    lists_apart : (i : ℕ) (lists : List (List NamedTree)) → AreApart alike (of_lists i lists)
    lists_apart i [] s t x y lt h k = cc h
    lists_apart i (es ∷ lists) s t x y lt h k =
        both_apart alike (of_list i 0 es) (of_lists (suc i) lists) (grind (arith, and_right_false, eq_false, list_places)) (lists_apart (suc i) lists)
        (λ m t x y p q. other_column x.site y.site (λ e. let a = (lists_places (suc i) m lists x p).1 in let b = (list_places i 0 t es y q).1 in absurd (omega (arith, a, b, e)))) s t x y lt h k

  -- a node that was checked is new
  pub is_new : (before : List Statement) (node parent : List ℕ) (rest : List (Option GraphCause)) → first_refusal (check_node before node parent ∷ rest) ≡ None → MadeBy before node ≡ false
  is_new before node parent rest ok = grind (arith, both_none, if_fails, or_parts)

  -- the node is the statement's own, and new
  abbrev IsOwn : List Statement → Statement → List ℕ → Type 0
  IsOwn before s node = (makes s node ≡ true) × (MadeBy before node ≡ false)

  new : (before : List Statement) (s : Statement) (node parent : List ℕ) (rest : List (Option GraphCause)) (x : SiteAt) → first_refusal (check_node before node parent ∷ rest) ≡ None → x.site.node ≡ node → makes s node ≡ true → IsOwn before s x.site.node
  new before s node parent rest x ok e m = (ap (makes s) e ∙ m, ap (MadeBy before) e ∙ is_new before node parent rest ok)

  -- the node of a statement's sites is its own, and is new where the statement was checked
  own_node : (before : List Statement) (s : Statement) (k : ℕ) (x : SiteAt) → check names (scope_of header) before s ≡ None → slice_get (own_sites header names before s) k ≡ Some x → IsOwn before s x.site.node
  own_node before s k x ok h = grind (arith, new, only_at, itself, lists_places)

  -- each site's node was made
  site_made : (before : List Statement) → AreAccepted names (scope_of header) before → (s : ℕ) (x : SiteAt) → slice_get (sites header names before) s ≡ Some x → MadeBy before x.site.node ≡ true
  site_made [] good s x h = cc h
  site_made (t ∷ before) good s x h = joined _ _ s x h (λ q. or_right _ _ (site_made before good.1 s x q)) (λ k e q. or_left _ _ (own_node before t k x good.0 q).0)

  -- two sites differ
  apart : (before : List Statement) → AreAccepted names (scope_of header) before → AreApart alike (sites header names before)
  apart [] good s t x y lt h k = cc h
  apart (st ∷ before) good s t x y lt h k =
      both_apart alike (sites header names before) (own_sites header names before st) (apart before good.1) (grind (arith, one_apart, lists_apart))
      (λ m n a b p q. by_test (same a.site.node b.site.node)
      (λ e. cc (sym (site_made before good.1 n b q) ∙ ap (MadeBy before) (sym (names_equal a.site.node b.site.node e)) ∙ (own_node before st m a good.0 p).1)) (λ h. rw h refl))
      s t x y lt h k

  -- a site's number is its place by its node, column and tag
  pub site_number : (before : List Statement) → AreAccepted names (scope_of header) before → (s : ℕ) (x : SiteAt) → slice_get (sites header names before) s ≡ Some x
      → place (λ (y : SiteAt). same_site x.site y.site) (sites header names before) ≡ Some s
  site_number before good s x h = place_is (alike x) (sites header names before) s x h (same_itself x.site) (λ t y lt k. apart before good s t x y lt h k)

-- ---- variations

pub any_false : {A : Type 0} (p : A → Bool) (xs : List A) (k : ℕ) (a : A) → list_any p xs ≡ false → slice_get xs k ≡ Some a → p a ≡ false
any_false p [] k a h q = cc q
any_false p (x ∷ xs) k a h q = grind (arith, or_parts, any_false p xs)

pub other_way : (a b : List ℕ) → same a b ≡ false → same b a ≡ false
other_way a b h = turned b a ∙ h

tags_apart : (tags : List (List ℕ)) → repeats tags ≡ false → AreApart same tags
tags_apart [] h m n a b lt p q = cc p
tags_apart (x ∷ xs) h (suc m) zero a b lt p q = grind (arith, other_way, any_false, or_parts)
tags_apart (x ∷ xs) h m n a b lt p q = grind (arith, or_parts, tags_apart xs)

pub of_tags : (tags : List (List ℕ)) (name : List ℕ) (k : ℕ) (x : Variation) → slice_get (map (λ t. record { name = name; tag = t }) tags) k ≡ Some x → (x.name ≡ name) × (slice_get tags k ≡ Some x.tag)
of_tags (t ∷ tags) name (suc k) x h = of_tags tags name k x h
of_tags tags name k x h = grind arith

module _ (header : List Column) (names : FunctionNames) where
  -- what was checked of a Vary's tags
  pub tags_checked : (before : List Statement) (node parent vary : List ℕ) (columns tags : List (List ℕ)) (values : VaryValues) → check names (scope_of header) before (Vary node parent columns values tags vary) ≡ None
      → (repeats tags ≡ false) × (is_variation_name before vary ≡ false)
  tags_checked before node parent vary columns tags values ok = grind (arith, all_none, if_fails)

  own_variation_new : (before : List Statement) (s : Statement) (m n : ℕ) (x y : Variation) → check names (scope_of header) before s ≡ None → slice_get (own_variations s) m ≡ Some x → slice_get (variations before) n ≡ Some y → same_variation x y ≡ false
  own_variation_new before (Vary node parent columns values tags vary) m n x y ok p q =
      grind (arith, any_false, all_none, if_fails, and_left_false, of_tags, turned)
  own_variation_new before s m n x y ok p q = cc p

  variations_apart : (before : List Statement) → AreAccepted names (scope_of header) before → AreApart same_variation (variations before)
  variations_apart [] good s t x y lt h k = cc h
  variations_apart (st ∷ before) good s t x y lt h k =
      both_apart same_variation (variations before) (own_variations st) (variations_apart before good.1) (grind (arith, and_right_false, tags_apart, all_none, if_fails, of_tags, good.0))
      (λ m n a b p q. own_variation_new before st m n a b good.0 p q) s t x y lt h k

  -- a variation's number is its place by its name and tag
  pub variation_number : (before : List Statement) → AreAccepted names (scope_of header) before → (v : ℕ) (x : Variation) → slice_get (variations before) v ≡ Some x → place (same_variation x) (variations before) ≡ Some v
  variation_number before good v x h = grind (arith, place_is, and_from, itself, variations_apart)
