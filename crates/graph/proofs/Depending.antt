-- A column, a site or a result depends on a variation exactly where its set has its number.
use Rattle.lemmas.proofs.{if◌then◌else◌, ◌≡◌, ℕ, suc, ◌+◌, Bool, true, false, ◌&&◌, ◌||◌, List, [], ◌∷◌, ◌++◌, map, length, Option, Some, None, Ok, slice_get, refl, sym, ◌∙◌, ap, subst, arith, ◌⊎◌, inl, inr, ◌<◌, ◌≤◌, nat_le, nat_lt, zero, Err, Result, AllByRecursion, AllZip, and_from, and_left_false, and_right_false, any_passes_from_place, append-nil, kept_at, le-leb, lt-leb, length-append, length-map, list_any, list_any-append, map-append, mapped_at, or_parts, or_false, slice_get_within}
use Rattle.rdf_values.specs.{all_renamed, among, AreAccepted, Bin, Call, callee, check, Col, ColType, Column, column_depends, column_kind, columns_in, columns_in_all, Cond, EachColumn, End, FunctionNames, is_own, is_variation_name, kind_of, Lit, made_columns, makes, More, named_depends, NamedTree, Neg, Not, own_variations, parent_of, path, Pick, place, renamed, same, scope_at, scope_of, shape_of, site_depends, Statement, target_of, Tree, Trees, Variation, variations, VaryValues, ActionAt, ActionKind, Booked, booked_by, bookings, check_columns, check_node, columns_of, expect_kind, filters_depend, GraphCause, history, may_begin, permitted_kinds, result_depends}
use Rattle.rdf_values.specs.expressions.Expressions.{Truth}
use Rattle.rdf_values.specs.declared.scripts.statement.Statement.TheVariants.{Define, Redefine, Vary, Filter, Action, Report}
use Rattle.rdf_model.proofs.Accepted.{kind_known, checked_of, sound_path, visible_resolved, itself, both_none, kind_expected, verdict_is_the_first_refusal}
use Rattle.rdf_model.proofs.Typing.{IsKnownColumn, known_columns, each_weaker}
use Rattle.graph_numbers.specs.{column_place, holds_at, named_version, own_columns, own_version, version_at, version_count, version_or, depends_on, booked_statements, filter_sites, GraphView, IsGraph, own_filter_site, own_sites, result_depends_at, ResultAt, results, site_count, site_depends_at, SiteAt, sites}
use Rattle.graph_numbers.proofs.Placing.{next_at, of_joined, AreBelow, filter_sites_below, own_placed}
use Rattle.rdf_values.proofs.KeptLemmas.{In, here, there, each_at}
use Rattle.graph.specs.{depends_at, expression_set, is_among_own, Numbers, own_version_sets, varied_set, version_sets, action_set, any_depends, own_result_sets, own_site_sets, result_sets, site_set, site_sets, VersionsDependAsColumns}
use Rattle.graph.proofs.Listing.{any_map, named_at, no_place, any_none, got_first, holds_mapped, zip_both, zip_holds, zip_mapped}
use Rattle.std.specs.Prelude.{⊤}
use Rattle.graph_numbers.proofs.Apart.{any_false, other_way, of_tags, tags_checked}
use Rattle.rdf_values.specs.declared.scripts.script_cause.GraphCause.TheVariants.{WrongType}
use Rattle.graph_numbers.proofs.Covering.{booked_are}

-- the variation w of number v is one of a Vary's own by its name exactly where it is by its number
abbrev pub OwnTells : ℕ → Variation → Statement → ℕ → Type 0
OwnTells v w (Vary node parent columns values tags vary) first = is_own w vary tags ≡ is_among_own first (length tags) v
OwnTells v w s first = ⊤

abbrev pub Tells : ℕ → Variation → List Statement → Type 0
Tells v w [] = ⊤
Tells v w (s ∷ before) = OwnTells v w s (length (variations before)) × Tells v w before

-- ---- numbers

before_own : (first count v : ℕ) → v < first → is_among_own first count v ≡ false
before_own first count v h = and_left_false (nat_le first v) (nat_lt v (first + count)) (lt-leb first v h)

pub after_own : (first count v : ℕ) → first + count ≤ v → is_among_own first count v ≡ false
after_own first count v h = and_right_false (nat_le first v) (nat_lt v (first + count)) (lt-leb (suc v) (first + count) (omega (arith, h)))

in_own : (first count k v : ℕ) → v ≡ first + k → k < count → is_among_own first count v ≡ true
in_own first count k v e h = and_from (nat_le first v) (nat_lt v (first + count)) (le-leb first v (omega (arith, e))) (le-leb (suc v) (first + count) (omega (arith, e, h)))

-- ---- names

pub tags_count : (vary : List ℕ) (tags : List (List ℕ)) → length {A = Variation} (map (λ t. record { name = vary; tag = t }) tags) ≡ length tags
tags_count vary tags = length-map tags (λ t. record { name = vary; tag = t })

-- a Vary of another name has no variation of that name
other_vary : (w : Variation) (vary : List ℕ) (tags : List (List ℕ)) → list_any (λ (x : Variation). same x.name w.name) (map (λ t. record { name = vary; tag = t }) tags) ≡ false → is_own w vary tags ≡ false
other_vary w vary [] h = and_right_false (same w.name vary) false refl
other_vary w vary (t ∷ tags) h = and_left_false (same w.name vary) (among w.tag (t ∷ tags)) (other_way vary w.name (or_parts (same vary w.name) _ h).0)

-- the statements before have none of the name, and the number is above theirs
foreign : (v : ℕ) (w : Variation) (before : List Statement) → is_variation_name before w.name ≡ false → length (variations before) ≤ v → Tells v w before
foreign v w [] h le = tt
foreign v w (s ∷ before) h le =
    let parts = or_parts (is_variation_name before w.name) (list_any (λ (x : Variation). same x.name w.name) (own_variations s)) (sym (list_any-append (λ (x : Variation). same x.name w.name) (variations before) (own_variations s)) ∙ h) in
    let n : length (variations before) + length (own_variations s) ≤ v = let c = length-append (variations before) (own_variations s) in omega (arith, c, le) in
    (own s parts.1 n, foreign v w before parts.0 (omega (arith, n)))
  where
    own : (t : Statement) → list_any (λ (x : Variation). same x.name w.name) (own_variations t) ≡ false → length (variations before) + length (own_variations t) ≤ v → OwnTells v w t (length (variations before))
    own t p q = grind (arith, other_vary, after_own, tags_count)

module _ (header : List Column) (names : FunctionNames) where
  -- a variation of an accepted script is told by its number
  pub tells : (before : List Statement) → AreAccepted names (scope_of header) before → (v : ℕ) (w : Variation) → slice_get (variations before) v ≡ Some w → Tells v w before
  tells [] good v w h = tt
  tells (s ∷ before) good v w h = go s (tells before good.1 v w) good.0 (of_joined (variations before) (own_variations s) v w h)
    where
      go : (t : Statement) → (slice_get (variations before) v ≡ Some w → Tells v w before) → check names (scope_of header) before t ≡ None
          → (slice_get (variations before) v ≡ Some w) ⊎ ((k : ℕ) × (v ≡ length (variations before) + k) × (slice_get (own_variations t) k ≡ Some w)) → Tells v w (t ∷ before)
      go (Vary node parent columns values tags vary) next ok (inl q) =
          let l = slice_get_within (variations before) v w q in
          let f : same w.name vary ≡ false = any_false (λ (x : Variation). same x.name vary) (variations before) v w (tags_checked header names before node parent vary columns tags values ok).1 q in
          (and_left_false (same w.name vary) (among w.tag tags) f ∙ sym (before_own (length (variations before)) (length tags) v l), next q)
      go (Vary node parent columns values tags vary) next ok (inr q) =
          let t = of_tags tags vary q.0 w q.2 in
          let l = slice_get_within tags q.0 w.tag t.1 in
          let n : length (variations before) ≤ v = let e = q.1 in omega (arith, e) in (
            and_from (same w.name vary) (among w.tag tags) (ap (λ x. same x vary) t.0 ∙ itself vary) (any_passes_from_place (same w.tag) tags q.0 w.tag t.1 (itself w.tag)) ∙ sym (in_own (length (variations before)) (length tags) q.0 v q.1 l),
            foreign v w before (ap (is_variation_name before) t.0 ∙ (tags_checked header names before node parent vary columns tags values ok).1) n,
          )
      go t next ok (inl q) = (tt, next q)
      go t next ok (inr q) = cc q.2

-- ---- the columns of an expression

-- under other names, its columns are those under the other names
module _ {C D F G : Type 0} (f : C → D) (g : F → G) where
  mutual
    pub renamed_columns : (e : Tree C F) → columns_in (renamed f g e) ≡ map f (columns_in e)
    renamed_columns (Lit z) = refl
    renamed_columns (Truth b) = refl
    renamed_columns (Col c) = refl
    renamed_columns (Neg a) = renamed_columns a
    renamed_columns (Not a) = renamed_columns a
    renamed_columns (Bin o a b) = (λ i. renamed_columns a i ++ renamed_columns b i) ∙ sym (map-append f (columns_in a) (columns_in b))
    renamed_columns (Cond c a b) =
        (λ i. renamed_columns c i ++ renamed_columns a i ++ renamed_columns b i)
        ∙ ap (λ xs. xs ++ map f (columns_in b)) (sym (map-append f (columns_in c) (columns_in a))) ∙ sym (map-append f (columns_in c ++ columns_in a) (columns_in b))
    renamed_columns (Pick v j) = (λ i. renamed_columns v i ++ renamed_columns j i) ∙ sym (map-append f (columns_in v) (columns_in j))
    renamed_columns (Call k args) = renamed_arguments args

    pub renamed_arguments : (es : Trees C F) → columns_in_all (all_renamed f g es) ≡ map f (columns_in_all es)
    renamed_arguments End = refl
    renamed_arguments (More a rest) = (λ i. renamed_columns a i ++ renamed_arguments rest i) ∙ sym (map-append f (columns_in a) (columns_in_all rest))

-- tests that agree on each column agree on the expression
any_listed : {A : Type 0} (p q : A → Bool) (xs : List A) → ((x : A) → In x xs → p x ≡ q x) → list_any p xs ≡ list_any q xs
any_listed p q [] h = refl
any_listed p q (x ∷ xs) h = λ i. h x here i || any_listed p q xs (λ y k. h y (there k)) i

any_alike : {C F : Type 0} (p q : C → Bool) (e : Tree C F) → EachColumn (λ c. p c ≡ q c) e → list_any p (columns_in e) ≡ list_any q (columns_in e)
any_alike p q e h = any_listed p q (columns_in e) (each_at (λ c. p c ≡ q c) e h)

-- ---- versions

module _ (header : List Column) (names : FunctionNames) (v : ℕ) (w : Variation) where
  own_count : (before : List Statement) (sets : List Numbers) (s : Statement) → length (own_version_sets header names before sets s) ≡ length (own_columns s)
  own_count before sets s = grind (arith, length-map)

  -- there is one set for each version
  pub set_count : (before : List Statement) → length (version_sets header names before) ≡ version_count header before
  set_count [] = length-map header (λ (c : Column). λ (n : ℕ). false)
  set_count (s ∷ before) = length-append (version_sets header names before) (own_version_sets header names before (version_sets header names before) s) ∙ (λ i. set_count before i + own_count before (version_sets header names before) s i)

  -- version c has a set, which has v exactly where b holds
  abbrev pub HasSet : List Statement → ℕ → Bool → Type 0
  HasSet before c b = (d : Numbers) × (slice_get (version_sets header names before) c ≡ Some d) × (b ≡ d v)

  has_further : (before : List Statement) (s : Statement) (c : ℕ) (b : Bool) → HasSet before c b → HasSet (s ∷ before) c b
  has_further before s c b h = (h.0, kept_at (version_sets header names before) (own_version_sets header names before (version_sets header names before) s) c h.0 h.1, h.2)

  pub set_is : (before : List Statement) (c : ℕ) (b : Bool) → HasSet before c b → b ≡ depends_at (version_sets header names before) c v
  set_is before c b h = h.2 ∙ ap (holds_at (λ (d : Numbers). d v)) (sym h.1)

  abbrev empty_sets : List Column → List Numbers
  empty_sets cs = map (λ (c : Column). λ n. false) cs

  cell_set : (cs : List Column) (name : List ℕ) (t : ColType) → column_kind (scope_of cs) name ≡ Ok t → slice_get (empty_sets cs) (column_place cs name) ≡ Some (λ n. false)
  cell_set [] name t h = cc h
  cell_set (c ∷ cs) name t h = grind (arith, cell_set cs name t)

  abbrev Above : List Statement → List ℕ → Type 0
  Above before node = (name : List ℕ) (t : ColType) → column_kind (made_columns names (scope_of header) (path before node)) name ≡ Ok t → HasSet before (named_version header before node name) (named_depends w (path before node) name)

  resolved : (before : List Statement) → AreAccepted names (scope_of header) before → (node : List ℕ) → Above before node → (name : List ℕ) (t : ColType) → column_kind (scope_at names (scope_of header) before node) name ≡ Ok t
      → HasSet before (version_at header before node name) (column_depends w (path before node) name)
  resolved before good node above name t h =
      above (target_of (path before node) name) t (visible_resolved names (scope_of header) (path before node) (sound_path names (scope_of header) before good node) name t h)

  -- an expression that has a kind depends on what the versions of its columns do
  expression_is : (before : List Statement) → AreAccepted names (scope_of header) before → (parent : List ℕ) → Above before parent → (e : NamedTree) (t : ColType)
      → kind_of (scope_at names (scope_of header) before parent) names e ≡ Ok t → site_depends w (path before parent) e ≡ expression_set header names before (version_sets header names before) parent e v
  expression_is before good parent above e t h =
      any_alike (column_depends w (path before parent)) (λ c. depends_at (version_sets header names before) (version_at header before parent c) v) e
      (each_weaker (IsKnownColumn (column_kind (scope_at names (scope_of header) before parent)) (shape_of names)) _
      (λ c k. set_is before (version_at header before parent c) (column_depends w (path before parent) c) (resolved before good parent above c k.0 k.1)) e
      (known_columns (column_kind (scope_at names (scope_of header) before parent)) (shape_of names) e t h))
      ∙ sym (any_map (version_at header before parent) (λ c. depends_at (version_sets header names before) c v) (columns_in e))
      ∙ ap (list_any (λ c. depends_at (version_sets header names before) c v)) (sym (renamed_columns (version_at header before parent) (callee names) e))

  defined_set : (before : List Statement) (s : Statement) (parent name : List ℕ) (k t : ColType) (d : Numbers) (own : Bool) → own_version_sets header names before (version_sets header names before) s ≡ d ∷ [] → own ≡ d v → Above before parent → (b : Bool)
      → (if b then Ok k else column_kind (made_columns names (scope_of header) (path before parent)) name) ≡ Ok t
      → HasSet (s ∷ before) (if b then version_count header before else named_version header before parent name) (if b then own else named_depends w (path before parent) name)
  defined_set before s parent name k t d own is same above true h =
      let n : version_count header before ≡ length (version_sets header names before) + 0 = (let c = set_count before in omega (arith, c)) in
      (d, next_at (version_sets header names before) (own_version_sets header names before (version_sets header names before) s) 0 _ n ∙ ap (λ xs. slice_get xs 0) is, same)
  defined_set before s parent name k t d own is same above false h = has_further before s _ _ (above name t h)

  vary_set : (before : List Statement) (node parent vary name : List ℕ) (cs tags : List (List ℕ)) (values : VaryValues) (t : ColType)
      → is_own w vary tags ≡ is_among_own (length (variations before)) (length tags) v
      → Above before parent → column_kind (made_columns names (scope_of header) (path before parent)) name ≡ Ok t
      → (o : Option ℕ) → place (same name) cs ≡ o
      → HasSet (Vary node parent cs values tags vary ∷ before) (version_or (version_count header before) o (named_version header before parent name))
      ((among name cs && is_own w vary tags) || named_depends w (path before parent) name)
  vary_set before node parent vary name cs tags values t tell above h None p =
      subst (λ (b : Bool). HasSet (Vary node parent cs values tags vary ∷ before) (named_version header before parent name) ((b && is_own w vary tags) || named_depends w (path before parent) name)) (sym (no_place (same name) cs p))
      (has_further before (Vary node parent cs values tags vary) _ _ (above name t h))
  vary_set before node parent vary name cs tags values t tell above h (Some i) p =
      let n : version_count header before + i ≡ length (version_sets header names before) + i = (let c = set_count before in omega (arith, c)) in
      let at = named_at cs name i p in (
        varied_set header names before (version_sets header names before) parent (length tags) name,
        next_at (version_sets header names before) (own_version_sets header names before (version_sets header names before) (Vary node parent cs values tags vary)) i _ n ∙ mapped_at (varied_set header names before (version_sets header names before) parent (length tags)) cs i name at.0,
        (λ j. (at.1 j && tell j) || set_is before (named_version header before parent name) (named_depends w (path before parent) name) (above name t h) j),
      )

  at_statement : (before : List Statement) (s : Statement) (name : List ℕ) (t : ColType) → AreAccepted names (scope_of header) (s ∷ before) → Tells v w (s ∷ before) → Above before (parent_of s)
      → column_kind (made_columns names (scope_of header) (s ∷ path before (parent_of s))) name ≡ Ok t
      → HasSet (s ∷ before) (own_version s (version_count header before) name (named_version header before (parent_of s) name)) (named_depends w (s ∷ path before (parent_of s)) name)
  at_statement before (Define node parent column expr) name t good tell above h =
      let k = kind_known (kind_of (scope_at names (scope_of header) before parent) names expr) (checked_of names (scope_of header) before (Define node parent column expr) good.0) in
      defined_set before (Define node parent column expr) parent name _ t _ _ refl (expression_is before good.1 parent above expr k.0 k.1) above (same column name) h
  at_statement before (Redefine node parent column expr) name t good tell above h =
      let k = kind_known (kind_of (scope_at names (scope_of header) before parent) names expr) (checked_of names (scope_of header) before (Redefine node parent column expr) good.0) in
      defined_set before (Redefine node parent column expr) parent name _ t _ _ refl (expression_is before good.1 parent above expr k.0 k.1) above (same column name) h
  at_statement before (Vary node parent cs values tags vary) name t good tell above h = vary_set before node parent vary name cs tags values t tell.0 above h (place (same name) cs) refl
  at_statement before s name t good tell above h = has_further before s _ _ (above name t h)

  has_set : (before : List Statement) → AreAccepted names (scope_of header) before → Tells v w before → (node : List ℕ) → Above before node
  has_set [] good tell node name t h = (λ n. false, cell_set header name t h, refl)
  has_set (s ∷ before) good tell node name t h = go (makes s node) (has_set before good.1 tell.1 (parent_of s)) (has_set before good.1 tell.1 node name t) h
    where
      go : (b : Bool) → Above before (parent_of s)
          → (column_kind (made_columns names (scope_of header) (path before node)) name ≡ Ok t → HasSet before (named_version header before node name) (named_depends w (path before node) name))
          → column_kind (made_columns names (scope_of header) (if b then s ∷ path before (parent_of s) else path before node)) name ≡ Ok t
          → HasSet (s ∷ before) (if b then own_version s (version_count header before) name (named_version header before (parent_of s) name) else named_version header before node name)
          (named_depends w (if b then s ∷ path before (parent_of s) else path before node) name)
      go true above other h = at_statement before s name t good tell above h
      go false above other h = has_further before s _ _ (other h)

  -- a visible column depends on the variation exactly where its version's set has its number
  pub visible_set : (before : List Statement) → AreAccepted names (scope_of header) before → Tells v w before → (node name : List ℕ) (t : ColType) → column_kind (scope_at names (scope_of header) before node) name ≡ Ok t
      → HasSet before (version_at header before node name) (column_depends w (path before node) name)
  visible_set before good tell node name t h = resolved before good node (has_set before good tell node) name t h

  -- and so does an expression that has a kind
  pub expression_set_is : (before : List Statement) → AreAccepted names (scope_of header) before → Tells v w before → (parent : List ℕ) (e : NamedTree) (t : ColType)
      → kind_of (scope_at names (scope_of header) before parent) names e ≡ Ok t → site_depends w (path before parent) e ≡ expression_set header names before (version_sets header names before) parent e v
  expression_set_is before good tell parent e t h = expression_is before good parent (has_set before good tell parent) e t h

-- ---- sets of places that are kept

depends_kept : (xs ys : List Numbers) (c v : ℕ) → c < length xs → depends_at (xs ++ ys) c v ≡ depends_at xs c v
depends_kept xs ys c v h = ap (holds_at (λ (d : Numbers). d v)) (got_first xs ys c h)

any_kept : (xs ys : List Numbers) (n : ℕ) → n ≡ length xs → (cs : List ℕ) → AreBelow n cs → (v : ℕ) → any_depends (xs ++ ys) cs v ≡ any_depends xs cs v
any_kept xs ys n e [] h v = refl
any_kept xs ys n e (c ∷ cs) h v = λ i. depends_kept xs ys c v (let q = h.0 in omega (arith, q, e)) i || any_kept xs ys n e cs h.1 v i

-- ---- no set has a number that no variation has

abbrev AllLack : ℕ → List Numbers → Type 0
AllLack v ds = AllByRecursion (λ (d : Numbers). d v ≡ false) ds

none_at : (v : ℕ) (ds : List Numbers) → AllLack v ds → (c : ℕ) → depends_at ds c v ≡ false
none_at v [] h c = refl
none_at v (d ∷ ds) h zero = h.0
none_at v (d ∷ ds) h (suc c) = none_at v ds h.1 c

lack_any : (v : ℕ) (ds : List Numbers) → AllLack v ds → (cs : List ℕ) → any_depends ds cs v ≡ false
lack_any v ds h cs = any_none (λ c. depends_at ds c v) cs (none_at v ds h)

lack_both : (v : ℕ) (ds es : List Numbers) → AllLack v ds → AllLack v es → AllLack v (ds ++ es)
lack_both v [] es h k = k
lack_both v (d ∷ ds) es h k = (h.0, lack_both v ds es h.1 k)

lack_map : {A : Type 0} (v : ℕ) (f : A → Numbers) (xs : List A) → ((x : A) → f x v ≡ false) → AllLack v (map f xs)
lack_map v f [] h = tt
lack_map v f (x ∷ xs) h = (h x, lack_map v f xs h)

module _ (header : List Column) (names : FunctionNames) (v : ℕ) where
  fewer : (before : List Statement) (s : Statement) → length (variations (s ∷ before)) ≤ v → length (variations before) ≤ v
  fewer before s h = let c = length-append (variations before) (own_variations s) in omega (arith, c, h)

  versions_lack : (before : List Statement) → length (variations before) ≤ v → AllLack v (version_sets header names before)
  versions_lack [] h = lack_map v (λ (c : Column). λ n. false) header (λ c. refl)
  versions_lack (s ∷ before) h =
      let above = versions_lack before (fewer before s h) in lack_both v (version_sets header names before) (own_version_sets header names before (version_sets header names before) s) above (own s h above)
    where
      own : (t : Statement) → length (variations (t ∷ before)) ≤ v → AllLack v (version_sets header names before) → AllLack v (own_version_sets header names before (version_sets header names before) t)
      own (Define node parent column expr) le above = (lack_any v (version_sets header names before) above _, tt)
      own (Redefine node parent column expr) le above = (lack_any v (version_sets header names before) above _, tt)
      own (Vary node parent columns values tags vary) le above =
          let n : length (variations before) + length tags ≤ v = (let c = length-append (variations before) (own_variations (Vary node parent columns values tags vary)) in let d = tags_count vary tags in omega (arith, c, d, le)) in
          lack_map v (varied_set header names before (version_sets header names before) parent (length tags)) columns
          (λ c i. after_own (length (variations before)) (length tags) v n i || none_at v (version_sets header names before) above (named_version header before parent c) i)
      own t le above = tt

  sites_lack : (before : List Statement) → length (variations before) ≤ v → AllLack v (site_sets header names before)
  sites_lack [] h = tt
  sites_lack (s ∷ before) h =
      lack_both v (site_sets header names before) (own_site_sets header names before s) (sites_lack before (fewer before s h))
      (lack_map v (site_set header names before) (own_sites header names before s) (λ x. lack_any v (version_sets header names before) (versions_lack before (fewer before s h)) (columns_in x.tree)))

  pub action_beyond : (before : List Statement) → length (variations before) ≤ v → (parent : List ℕ) (cs : List (List ℕ)) → action_set header names before parent cs v ≡ false
  action_beyond before h parent cs = grind (arith, lack_any, sites_lack, versions_lack)

-- ---- sites

module _ (header : List Column) (names : FunctionNames) where
  pub site_set_count : (before : List Statement) → length (site_sets header names before) ≡ site_count header names before
  site_set_count [] = refl
  site_set_count (s ∷ before) =
      length-append (site_sets header names before) (own_site_sets header names before s) ∙ (λ i. site_set_count before i + length-map (own_sites header names before s) (site_set header names before) i)
      ∙ sym (length-append (sites header names before) (own_sites header names before s))

module _ (header : List Column) (names : FunctionNames) (v : ℕ) (w : Variation) where
  -- the filters of a node depend on the variation exactly where the sets of their sites have its number
  pub filters_are : (before : List Statement) → AreAccepted names (scope_of header) before → Tells v w before → (node : List ℕ)
      → filters_depend w (path before node) ≡ any_depends (site_sets header names before) (filter_sites header names before node) v
  filters_are [] good tell node = refl
  filters_are (s ∷ before) good tell node = go (makes s node) (filters_are before good.1 tell.1 (parent_of s)) (filters_are before good.1 tell.1 node)
    where
      kept : (n : List ℕ) → any_depends (site_sets header names (s ∷ before)) (filter_sites header names before n) v ≡ any_depends (site_sets header names before) (filter_sites header names before n) v
      kept n = any_kept (site_sets header names before) (own_site_sets header names before s) (site_count header names before) (sym (site_set_count header names before)) (filter_sites header names before n) (filter_sites_below header names before n) v

      step : (t : Statement) → s ≡ t → check names (scope_of header) before t ≡ None
          → filters_depend w (path before (parent_of t)) ≡ any_depends (site_sets header names (s ∷ before)) (filter_sites header names before (parent_of t)) v
          → filters_depend w (t ∷ path before (parent_of t)) ≡ any_depends (site_sets header names (s ∷ before)) (filter_sites header names before (parent_of t) ++ own_filter_site t (site_count header names before)) v
      step (Filter node parent expr label) is ok e =
          let p = both_none (check_node before node parent) (expect_kind ColType.Bool (kind_of (scope_at names (scope_of header) before parent) names expr) ∷ []) ok in
          let q = both_none (expect_kind ColType.Bool (kind_of (scope_at names (scope_of header) before parent) names expr)) [] p.1 in
          let n : site_count header names before ≡ length (site_sets header names before) + 0 = (let c = site_set_count header names before in omega (arith, c)) in
          let own : depends_at (site_sets header names (s ∷ before)) (site_count header names before) v ≡ site_depends w (path before parent) expr =
          ap (holds_at (λ (d : Numbers). d v))
          (next_at (site_sets header names before) (own_site_sets header names before s) 0 (site_count header names before) n ∙ ap (λ u. slice_get (own_site_sets header names before u) 0) is)
          ∙ sym (expression_set_is header names v w before good.1 tell.1 parent expr ColType.Bool (kind_expected ColType.Bool _ q.0)) in
          (λ i. e i || (sym own ∙ sym (or_false _)) i) ∙ sym (list_any-append (λ c. depends_at (site_sets header names (s ∷ before)) c v) (filter_sites header names before parent) (site_count header names before ∷ []))
      step t is ok e = e ∙ ap (λ cs. any_depends (site_sets header names (s ∷ before)) cs v) (sym (append-nil (filter_sites header names before (parent_of t))))

      go : (b : Bool) → filters_depend w (path before (parent_of s)) ≡ any_depends (site_sets header names before) (filter_sites header names before (parent_of s)) v
          → filters_depend w (path before node) ≡ any_depends (site_sets header names before) (filter_sites header names before node) v
          → filters_depend w (if b then s ∷ path before (parent_of s) else path before node)
          ≡ any_depends (site_sets header names (s ∷ before)) (if b then filter_sites header names before (parent_of s) ++ own_filter_site s (site_count header names before) else filter_sites header names before node) v
      go true e f = step s refl good.0 (e ∙ sym (kept (parent_of s)))
      go false e f = f ∙ sym (kept node)

  -- ---- results

  -- the columns of an action that was checked are known
  pub columns_are : (before : List Statement) → AreAccepted names (scope_of header) before → Tells v w before → (parent : List ℕ) (permitted : List (List ColType)) (kinds : List ColType) (cs : List (List ℕ))
      → check_columns (scope_at names (scope_of header) before parent) permitted kinds cs ≡ None
      → list_any (column_depends w (path before parent)) cs ≡ any_depends (version_sets header names before) (map (version_at header before parent) cs) v
  columns_are before good tell parent permitted kinds [] h = refl
  columns_are before good tell parent permitted kinds (c ∷ cs) h = go (column_kind (scope_at names (scope_of header) before parent) c) refl h (λ ks. columns_are before good tell parent permitted ks cs)
    where
      go : (r : Result ColType GraphCause) → column_kind (scope_at names (scope_of header) before parent) c ≡ r
          → (elim r as (λ _. Option GraphCause) [ Err cause ↦ Some cause | Ok t ↦ (if may_begin permitted (kinds ++ t ∷ []) then check_columns (scope_at names (scope_of header) before parent) permitted (kinds ++ t ∷ []) cs else Some WrongType) ]) ≡ None
          → ((ks : List ColType) → check_columns (scope_at names (scope_of header) before parent) permitted ks cs ≡ None → list_any (column_depends w (path before parent)) cs ≡ any_depends (version_sets header names before) (map (version_at header before parent) cs) v)
          → list_any (column_depends w (path before parent)) (c ∷ cs) ≡ any_depends (version_sets header names before) (map (version_at header before parent) (c ∷ cs)) v
      go (Err cause) e q next = cc q
      go (Ok t) e q next = by (may_begin permitted (kinds ++ t ∷ [])) q
        where
          by : (b : Bool) → (if b then check_columns (scope_at names (scope_of header) before parent) permitted (kinds ++ t ∷ []) cs else Some WrongType) ≡ None
              → list_any (column_depends w (path before parent)) (c ∷ cs) ≡ any_depends (version_sets header names before) (map (version_at header before parent) (c ∷ cs)) v
          by true k = λ i. set_is header names v w before (version_at header before parent c) (column_depends w (path before parent) c) (visible_set header names v w before good tell parent c t e) i || next (kinds ++ t ∷ []) k i
          by false k = cc k

-- ---- with a variation of the number, or without

-- a place where nothing stands is beyond a list
beyond : {A : Type 0} (xs : List A) (v : ℕ) → slice_get xs v ≡ None → length xs ≤ v
beyond [] v e = omega arith
beyond (x ∷ xs) zero e = cc e
beyond (x ∷ xs) (suc v) e = let h = beyond xs v e in omega (arith, h)

never : {A : Type 0} (o : Option A) → false ≡ holds_at (λ x. false) o
never None = refl
never (Some x) = refl

-- the variation of number v is told by it, or no variation has it
abbrev Knows : ℕ → Option Variation → List Statement → Type 0
Knows v None before = length (variations before) ≤ v
Knows v (Some w) before = Tells v w before

module _ (header : List Column) (names : FunctionNames) (v : ℕ) where
  pub known_at : (before : List Statement) → AreAccepted names (scope_of header) before → Knows v (slice_get (variations before) v) before
  known_at before good = go (slice_get (variations before) v) refl
    where
      go : (o : Option Variation) → slice_get (variations before) v ≡ o → Knows v o before
      go None e = beyond (variations before) v e
      go (Some w) e = tells header names before good v w e

  known_less : (u : Option Variation) (before : List Statement) (s : Statement) → Knows v u (s ∷ before) → Knows v u before
  known_less None before s h = fewer header names v before s h
  known_less (Some w) before s h = h.1

  abbrev SiteFits : Option Variation → SiteAt → Numbers → Type 0
  SiteFits u x d = d v ≡ holds_at (depends_on x) u

  abbrev ResultFits : Option Variation → Booked → Numbers → Type 0
  ResultFits u b d = d v ≡ holds_at (λ w. result_depends w b.booking) u

  own_site : (u : Option Variation) (before : List Statement) → AreAccepted names (scope_of header) before → Knows v u before → (s : Statement) → check names (scope_of header) before s ≡ None
      → (k : ℕ) (x : SiteAt) → slice_get (own_sites header names before s) k ≡ Some x → site_set header names before x v ≡ holds_at (depends_on x) u
  own_site None before good h s ok k x q = lack_any v (version_sets header names before) (versions_lack header names v before h) (columns_in x.tree)
  own_site (Some w) before good h s ok k x q =
      let o = own_placed header names before s k x ok q in
      subst (λ (y : SiteAt). site_set header names before y v ≡ site_depends w y.at y.expr) (sym o.1.3) (sym (expression_set_is header names v w before good h o.0 o.1.1 o.1.2 o.1.4))

  -- a site depends on the variation exactly where its set has its number
  sites_are : (u : Option Variation) (before : List Statement) → AreAccepted names (scope_of header) before → Knows v u before → AllZip (SiteFits u) (sites header names before) (site_sets header names before)
  sites_are u [] good h = tt
  sites_are u (s ∷ before) good h =
      let l = known_less u before s h in
      zip_both (SiteFits u) (sites header names before) (own_sites header names before s) (site_sets header names before) (own_site_sets header names before s) (sites_are u before good.1 l)
      (zip_mapped (SiteFits u) (site_set header names before) (own_sites header names before s) (own_site u before good.1 l s good.0))

  -- and so does an action whose columns were checked
  pub action_is : (u : Option Variation) (before : List Statement) → AreAccepted names (scope_of header) before → Knows v u before → (parent : List ℕ) (k : ActionKind)
      → check_columns (scope_at names (scope_of header) before parent) (permitted_kinds k) [] (columns_of k) ≡ None
      → action_set header names before parent (columns_of k) v ≡ holds_at (λ w. result_depends w (ActionAt k (path before parent))) u
  action_is None before good h parent k known = action_beyond header names v before h parent (columns_of k)
  action_is (Some w) before good h parent k known =
      λ i. sym (filters_are header names v w before good h parent) i || sym (columns_are header names v w before good h parent (permitted_kinds k) [] (columns_of k) known) i

  -- and each result
  results_are : (u : Option Variation) (before : List Statement) → AreAccepted names (scope_of header) before → Knows v u before → AllZip (ResultFits u) (bookings before) (result_sets header names before)
  results_are u [] good h = tt
  results_are u (s ∷ before) good h =
      zip_both (ResultFits u) (bookings before) (booked_by before s) (result_sets header names before) (own_result_sets header names before s) (results_are u before good.1 (known_less u before s h)) (own s good.0)
    where
      own : (t : Statement) → check names (scope_of header) before t ≡ None → AllZip (ResultFits u) (booked_by before t) (own_result_sets header names before t)
      own (Action name parent k) ok =
          let p = both_none (check_node before name parent) _ ok in
          let q = both_none (check_columns (scope_at names (scope_of header) before parent) (permitted_kinds k) [] (columns_of k)) _ p.1 in
          (action_is u before good.1 (known_less u before s h) parent k q.0, tt)
      own (Report name parent) ok = (never u, tt)
      own t ok = tt

  pub result_is : (before : List Statement) → AreAccepted names (scope_of header) before → (r : ℕ)
      → depends_at (result_sets header names before) r v ≡ holds_at (λ (b : Booked). holds_at (λ w. result_depends w b.booking) (slice_get (variations before) v)) (slice_get (bookings before) r)
  result_is before good r =
      zip_holds (ResultFits (slice_get (variations before) v)) (λ b. holds_at (λ w. result_depends w b.booking) (slice_get (variations before) v)) (λ d. d v) (λ b d e. e)
      (bookings before) (result_sets header names before) (results_are (slice_get (variations before) v) before good (known_at before good)) r

  site_is : (before : List Statement) → AreAccepted names (scope_of header) before → (s : ℕ)
      → depends_at (site_sets header names before) s v ≡ holds_at (λ (x : SiteAt). holds_at (depends_on x) (slice_get (variations before) v)) (slice_get (sites header names before) s)
  site_is before good s =
      zip_holds (SiteFits (slice_get (variations before) v)) (λ x. holds_at (depends_on x) (slice_get (variations before) v)) (λ d. d v) (λ x d e. e)
      (sites header names before) (site_sets header names before) (sites_are (slice_get (variations before) v) before good (known_at before good)) s

accepted : (g : GraphView) → IsGraph g → AreAccepted g.names (scope_of g.header) (history g.script)
accepted g h = (verdict_is_the_first_refusal g.names g.header g.script).0 h.accepted

pub versions_depend : VersionsDependAsColumns
versions_depend g h node name t k v w e =
    sym (set_is g.header g.names v w (history g.script) _ _ (visible_set g.header g.names v w (history g.script) (accepted g h) (tells g.header g.names (history g.script) (accepted g h) v w e) node name t k))

-- the sets of the sites are their dependence, and those of the results
pub sites_depend : (g : GraphView) → IsGraph g → (s v : ℕ) → depends_at (site_sets g.header g.names (booked_statements g)) s v ≡ site_depends_at g s v
sites_depend g h s v = site_is g.header g.names v (history g.script) (accepted g h) s

pub results_depend : (g : GraphView) → IsGraph g → (r v : ℕ) → depends_at (result_sets g.header g.names (booked_statements g)) r v ≡ result_depends_at g r v
results_depend g h r v =
    let test : Booked → Bool = λ b. holds_at (λ w. result_depends w b.booking) (slice_get (variations (history g.script)) v) in
    result_is g.header g.names v (history g.script) (accepted g h) r ∙ ap (λ bs. holds_at test (slice_get bs r)) (sym (booked_are g.header g.names (history g.script)))
    ∙ holds_mapped (λ (x : ResultAt). x.booked) test (results g.header g.names (history g.script)) r
