-- The version of a visible column is given by what gives the column its value at that node.
use Rattle.lemmas.proofs.{◌≡◌, ℕ, zero, suc, ◌+◌, ◌<◌, Bool, true, false, List, [], ◌∷◌, length, map, Option, Some, None, Ok, refl, sym, ◌∙◌, ap, subst, arith, nat_eq, slice_get, if◌then◌else◌, Decides-eqb, get_or_from_slice_get, mapped_at, slice_get_within, something_at}
use Rattle.rdf_values.specs.{aliases, AreAccepted, check_lists, check_target, check_values, ColType, Column, column_kind, first_refusal, FunctionNames, GraphCause, kind_or_int, made_columns, makes, NamedTree, parent_of, Path, path, place, refuse_unless, same, scope_at, scope_of, Statement, target_of, Under, Value, VaryValues, visible_columns, is_alias, is_visible, own_variations, refuse_if, Variation, variations}
use Rattle.rdf_values.specs.declared.scripts.statement.Statement.TheVariants.{Define, Redefine, Vary}
use Rattle.rdf_values.specs.declared.scripts.statement.VaryValues.TheVariants.{Lists, Vector}
use Rattle.rdf_model.specs.{cell, expression_at, own_place, site_at, varied}
use Rattle.rdf_model.proofs.Accepted.{both_none, unless_holds, passed_over, sound_path, checked_of, target_is_none, own_within, lists_kind, visible_resolved, all_none, if_fails, itself as same_as_itself, names_equal, no_target, visible_known}
use Rattle.graph_numbers.specs.{cell_sources, cell_value, column_place, list_start, lists_sites, named_version, own_sites, own_source, own_sources, own_version, site_count, site_in, SiteAt, sites, Source, source_in, sources, varied_sources, version_at, version_count, version_or, cell_versions, IsSourceOf, numbers_from, own_versions, tag_source, under_at, varied_version, varied_versions, Version, version_kinds, versions}
use Rattle.graph_numbers.proofs.Placing.{kind_count, visible_kind, lists_site_at, by_test, next_at, place_gives, Extends, itself, further, site_kept, source_kept, source_count, kept, shorter, versions_count, joined}
use Rattle.graph_numbers.proofs.Apart.{variation_number}

-- ---- the table's columns

pub cell_is : {M : Type 0} (cs : List Column) (row : List Value) (name : List ℕ) (t : ColType) → column_kind (scope_of cs) name ≡ Ok t → cell {M = M} cs row name ≡ cell_value (slice_get row (column_place cs name))
cell_is {M} (c ∷ cs) (v ∷ vs) name t h = by_test (same c.name name) (λ e. rw e refl) (λ e. rw e (cell_is cs vs name t (rw e at h)))
cell_is cs row name t h = grind arith

cell_source : (n : ℕ) (cs : List Column) (name : List ℕ) (t : ColType) → column_kind (scope_of cs) name ≡ Ok t → slice_get (cell_sources n cs) (column_place cs name) ≡ Some (Source.Cell (n + column_place cs name))
cell_source n [] name t h = cc h
cell_source n (c ∷ cs) name t h = grind (arith, cell_source (suc n) cs name t)

place_within_columns : (cs : List Column) (name : List ℕ) (t : ColType) → column_kind (scope_of cs) name ≡ Ok t → column_place cs name < length cs
place_within_columns [] name t h = cc h
place_within_columns (c ∷ cs) name t h = grind (arith, place_within_columns cs name t)

-- ---- readings

-- a reading of columns under nominal or a variation: what it makes of a name at a path, of a table's column, of a site, of the element of a
-- site's vector at the place of a tag among so many, and of a Vary's column at a place under the tag at a place
pub record Reading (A : Type 0) : Type 0 where
  pub read : Path → List ℕ → A
  pub of_cell : ℕ → A
  pub of_site : SiteAt → A
  pub of_element : SiteAt → ℕ → ℕ → A
  pub of_tag : Path → List ℕ → VaryValues → ℕ → ℕ → ℕ → A

module _ {A : Type 0} (columns : List Column) (names : FunctionNames) (u : Under) (r : Reading A) where
  -- what is read at the node of a statement of a column that is no alias
  abbrev pub at_step : List Statement → Statement → List ℕ → A
  at_step before (Define node parent column expr) name = if same column name then r.of_site (site_in columns names before parent (site_at node) expr) else r.read (path before parent) name
  at_step before (Redefine node parent column expr) name = if same column name then r.of_site (site_in columns names before parent (site_at node) expr) else r.read (path before parent) name
  at_step before (Vary node parent cs values tags vary) name = varied (own_place u vary tags) (place (same name) cs) (r.of_tag (path before parent) node values (length tags)) (r.read (path before parent) name)
  at_step before s name = r.read (path before (parent_of s)) name

  abbrev pub own_list : List Statement → Statement → List Source
  own_list before s = own_sources columns names u before (sources columns names u before) s

  -- the source gives this
  abbrev pub IsGiven : List Statement → Source → A → Type 0
  IsGiven before (Source.Cell col) a = (col < length columns) × (a ≡ r.of_cell col)
  IsGiven before (Source.Site t) a = (x : SiteAt) × (slice_get (sites columns names before) t ≡ Some x) × (a ≡ r.of_site x)
  IsGiven before (Source.Element t k tags) a = (x : SiteAt) × (slice_get (sites columns names before) t ≡ Some x) × (a ≡ r.of_element x k tags)

  -- version c has a source, which gives this
  abbrev pub HasSource : List Statement → ℕ → A → Type 0
  HasSource before c a = (src : Source) × (slice_get (sources columns names u before) c ≡ Some src) × IsGiven before src a

  given_later : (before after : List Statement) → Extends before after → (src : Source) (a : A) → IsGiven before src a → IsGiven after src a
  given_later before after e src a h = grind (arith, site_kept)

  pub source_later : (before after : List Statement) → Extends before after → (c : ℕ) (a : A) → HasSource before c a → HasSource after c a
  source_later before after e c a h = (h.0, source_kept columns names u before after e c h.0 h.1, given_later before after e h.0 a h.2)

  has_further : (before : List Statement) (s : Statement) (c : ℕ) (a : A) → HasSource before c a → HasSource (s ∷ before) c a
  has_further before s = source_later before (s ∷ before) (further s itself)

  abbrev Above : List Statement → List ℕ → Type 0
  Above before node = (name : List ℕ) (t : ColType) → column_kind (made_columns names (scope_of columns) (path before node)) name ≡ Ok t → HasSource before (named_version columns before node name) (r.read (path before node) name)

  -- the only site of a statement, as it is booked
  own_site : (s : Statement) (before : List Statement) (x : SiteAt) → own_sites columns names before s ≡ x ∷ [] → slice_get (sites columns names (s ∷ before)) (site_count columns names before) ≡ Some x
  own_site s before x its = next_at (sites columns names before) (own_sites columns names before s) 0 _ (omega arith) ∙ ap (λ xs. slice_get xs 0) its

  -- the source of a statement's version at a place
  own_version_source : (s : Statement) (before : List Statement) (i n : ℕ) → n ≡ version_count columns before + i → slice_get (sources columns names u (s ∷ before)) n ≡ slice_get (own_list before s) i
  own_version_source s before i n e = next_at (sources columns names u before) (own_list before s) i n (let c = source_count columns names u before in omega (arith, c, e))

  -- a column that a Define or Redefine makes
  defined_source : (s : Statement) (before : List Statement) (node parent column name : List ℕ) (expr : NamedTree) (t k : ColType)
      → own_list before s ≡ Source.Site (site_count columns names before) ∷ []
      → own_sites columns names before s ≡ site_in columns names before parent (site_at node) expr ∷ []
      → Above before parent → (b : Bool)
      → (if b then Ok k else column_kind (made_columns names (scope_of columns) (path before parent)) name) ≡ Ok t
      → HasSource (s ∷ before) (if b then version_count columns before else named_version columns before parent name)
      (if b then r.of_site (site_in columns names before parent (site_at node) expr) else r.read (path before parent) name)
  defined_source s before node parent column name expr t k own its above true h = (
    Source.Site (site_count columns names before),
    own_version_source s before 0 _ (omega arith) ∙ ap (λ xs. slice_get xs 0) own,
    (site_in columns names before parent (site_at node) expr, own_site s before _ its, refl),
  )
  defined_source s before node parent column name expr t k own its above false h = has_further before s _ _ (above name t h)

  -- what the column at a place of a Vary has as its source
  abbrev own_of : List Statement → List ℕ → VaryValues → List (List ℕ) → List ℕ → ℕ → List ℕ → Source
  own_of before parent values tags vary n name =
      own_source values (site_count columns names before) n (length tags) (own_place u vary tags) (source_in (sources columns names u before) (named_version columns before parent name))

  varied_source : (before : List Statement) (parent : List ℕ) (values : VaryValues) (tags : List (List ℕ)) (vary name : List ℕ) (j i : ℕ) (cs : List (List ℕ)) → slice_get cs i ≡ Some name
      → slice_get (varied_sources columns names u before (sources columns names u before) parent values tags vary j cs) i ≡ Some (own_of before parent values tags vary (j + i) name)
  varied_source before parent values tags vary name j i [] h = cc h
  varied_source before parent values tags vary name j zero (c ∷ cs) h = grind arith
  varied_source before parent values tags vary name j (suc i) (c ∷ cs) h = grind (arith, varied_source before parent values tags vary name (suc j) i cs h)

  -- by the walk from the node up to the head
  module _ (heads : (name : List ℕ) (t : ColType) → column_kind (scope_of columns) name ≡ Ok t → r.read [] name ≡ r.of_cell (column_place columns name))
      (steps : (before : List Statement) (s : Statement) (name : List ℕ) → r.read (s ∷ path before (parent_of s)) name ≡ at_step before s name)
      (of_lists : (before : List Statement) (parent node : List ℕ) (lists : List (List NamedTree)) (tags i k : ℕ) (e : NamedTree) → expression_at lists i k ≡ Some e
      → r.of_tag (path before parent) node (Lists lists) tags i k ≡ r.of_site (site_in columns names before parent (record { node = node; column = i; tag = k }) e))
      (of_vector : (before : List Statement) (parent node : List ℕ) (e : NamedTree) (tags i k : ℕ)
      → r.of_tag (path before parent) node (Vector e) tags i k ≡ r.of_element (site_in columns names before parent (site_at node) e) k tags) where
    -- a column at a Vary
    vary_source : (before : List Statement) (node parent : List ℕ) (cs : List (List ℕ)) (values : VaryValues) (tags : List (List ℕ)) (vary name : List ℕ) (t : ColType)
        → (first_refusal (map (check_target (visible_columns names (scope_of columns) (path before parent)) (path before parent)) cs) ≡ None)
        × (check_values names (visible_columns names (scope_of columns) (path before parent)) (length tags) cs values ≡ None)
        → Above before parent
        → column_kind (made_columns names (scope_of columns) (path before parent)) name ≡ Ok t
        → (o : Option ℕ) → place (same name) cs ≡ o
        → HasSource (Vary node parent cs values tags vary ∷ before) (version_or (version_count columns before) o (named_version columns before parent name))
        (varied (own_place u vary tags) o (r.of_tag (path before parent) node values (length tags)) (r.read (path before parent) name))
    vary_source before node parent cs values tags vary name t checked above h None p =
        subst (HasSource (Vary node parent cs values tags vary ∷ before) (named_version columns before parent name)) (sym (none_varied (own_place u vary tags) _ _)) (has_further before (Vary node parent cs values tags vary) _ _ (above name t h))
      where
        none_varied : (k : Option ℕ) (own : ℕ → ℕ → A) (o : A) → varied k None own o ≡ o
        none_varied k own o = grind arith
    vary_source before node parent cs values tags vary name t checked above h (Some i) p =
        at_tag values (own_place u vary tags) refl checked.1
        (own_version_source (Vary node parent cs values tags vary) before i _ refl ∙ varied_source before parent values tags vary name 0 i cs (place_gives name cs i p)
        ∙ (let z : 0 + i ≡ i = omega arith in λ l. Some (own_of before parent values tags vary (z l) name)))
      where
        known : column_kind (visible_columns names (scope_of columns) (path before parent)) name ≡ Ok t
        known =
            passed_over (λ a. kind_or_int (column_kind (made_columns names (scope_of columns) (path before parent)) (target_of (path before parent) a))) (made_columns names (scope_of columns) (path before parent)) name t (aliases (path before parent))
            (target_is_none (visible_columns names (scope_of columns) (path before parent)) (path before parent) cs name i p checked.0) h

        at_tag : (values : VaryValues) (k : Option ℕ) → own_place u vary tags ≡ k → check_values names (visible_columns names (scope_of columns) (path before parent)) (length tags) cs values ≡ None
            → slice_get (sources columns names u (Vary node parent cs values tags vary ∷ before)) (version_count columns before + i) ≡ Some (own_of before parent values tags vary i name)
            → HasSource (Vary node parent cs values tags vary ∷ before) (version_count columns before + i)
            (varied (own_place u vary tags) (Some i) (r.of_tag (path before parent) node values (length tags)) (r.read (path before parent) name))
        at_tag values None e ok src =
            let a = above name t h in
            let below : source_in (sources columns names u before) (named_version columns before parent name) ≡ a.0 =
            get_or_from_slice_get (sources columns names u before) (named_version columns before parent name) a.0 (Source.Cell 0) a.1 in (
              a.0,
              src ∙ (λ l. Some (own_source values (site_count columns names before) i (length tags) (e l) (below l))) ∙ ap Some (grind arith),
              rw e (given_later before (Vary node parent cs values tags vary ∷ before) (further (Vary node parent cs values tags vary) itself) a.0 _ a.2),
            )
        at_tag (Lists lists) (Some k) e ok src =
            let parts = both_none (refuse_unless (nat_eq (length lists) (length cs)) GraphCause.WrongCount) (check_lists names (visible_columns names (scope_of columns) (path before parent)) (length tags) cs lists) ok in
            let many : length lists ≡ length cs = (Decides-eqb (length lists) (length cs)).0 (unless_holds (nat_eq (length lists) (length cs)) GraphCause.WrongCount parts.0) in
            let x = lists_kind names (visible_columns names (scope_of columns) (path before parent)) (length tags) name t known cs lists i k p many (own_within u vary tags k e) parts.1 in
            let n : site_count columns names before + list_start lists i + k ≡ length (sites columns names before) + (list_start lists i + k) = omega arith in
            let z : 0 + i ≡ i = omega arith in (
              Source.Site (site_count columns names before + list_start lists i + k),
              src ∙ (λ l. Some (own_source (Lists lists) (site_count columns names before) i (length tags) (e l) (source_in (sources columns names u before) (named_version columns before parent name)))),
              (
                site_in columns names before parent (record { node = node; column = i; tag = k }) x.0,
                next_at (sites columns names before) (lists_sites columns names before parent node 0 lists) (list_start lists i + k) _ n ∙ lists_site_at columns names before parent node 0 i k lists x.0 x.1
                    ∙ (λ l. Some (site_in columns names before parent (record { node = node; column = z l; tag = k }) x.0)),
                rw e (of_lists before parent node lists (length tags) i k x.0 x.1),
              ),
            )
        at_tag (Vector x) (Some k) e ok src = (
          Source.Element (site_count columns names before) k (length tags),
          src ∙ (λ l. Some (own_source (Vector x) (site_count columns names before) i (length tags) (e l) (source_in (sources columns names u before) (named_version columns before parent name)))),
          (site_in columns names before parent (site_at node) x, own_site (Vary node parent cs (Vector x) tags vary) before _ refl, rw e (of_vector before parent node x (length tags) i k)),
        )

    -- a column at the node of a statement
    at_statement : (before : List Statement) (s : Statement) (name : List ℕ) (t : ColType)
        → AreAccepted names (scope_of columns) (s ∷ before)
        → Above before (parent_of s)
        → column_kind (made_columns names (scope_of columns) (s ∷ path before (parent_of s))) name ≡ Ok t
        → HasSource (s ∷ before) (own_version s (version_count columns before) name (named_version columns before (parent_of s) name)) (at_step before s name)
    at_statement before (Define node parent column expr) name t good above h =
        defined_source (Define node parent column expr) before node parent column name expr t _ refl refl above (same column name) h
    at_statement before (Redefine node parent column expr) name t good above h =
        defined_source (Redefine node parent column expr) before node parent column name expr t _ refl refl above (same column name) h
    at_statement before (Vary node parent cs values tags vary) name t good above h =
        vary_source before node parent cs values tags vary name t (checked_of names (scope_of columns) before (Vary node parent cs values tags vary) good.0) above h (place (same name) cs) refl
    at_statement before s name t good above h = has_further before s _ _ (above name t h)

    -- each column that is there at a node, and that is no alias, has a version, whose source gives what is read of the column
    has_source : (before : List Statement) → AreAccepted names (scope_of columns) before → (node : List ℕ) → Above before node
    has_source [] good node name t h =
        let z : column_place columns name ≡ 0 + column_place columns name = omega arith in
        let lt = place_within_columns columns name t h in (
          Source.Cell (0 + column_place columns name),
          cell_source 0 columns name t h,
          (omega (arith, lt), heads name t h ∙ ap r.of_cell z),
        )
    has_source (s ∷ before) good node name t h =
        by_test (makes s node)
        (λ e. rw e (subst (HasSource (s ∷ before) (own_version s (version_count columns before) name (named_version columns before (parent_of s) name))) (sym (steps before s name))
        (at_statement before s name t good (has_source before good.1 (parent_of s)) (rw e at h))))
        (λ e. rw e (has_further before s _ _ (has_source before good.1 node name t (rw e at h))))

    -- each visible column has a version, whose source gives what is read of the column
    pub visible_source : (before : List Statement) → AreAccepted names (scope_of columns) before → (node name : List ℕ) (t : ColType)
        → column_kind (scope_at names (scope_of columns) before node) name ≡ Ok t
        → HasSource before (version_at columns before node name) (r.read (path before node) (target_of (path before node) name))
    visible_source before good node name t h =
        has_source before good node (target_of (path before node) name) t
        (visible_resolved names (scope_of columns) (path before node) (sound_path names (scope_of columns) before good node) name t h)

-- ---- a version's source is what the version says: places of names and numbers

-- a name that stands among others has a place
place_found : (name : List ℕ) (names : List (List ℕ)) (k : ℕ) → slice_get names k ≡ Some name → place (same name) names ≡ None → ⊥
place_found name [] k h none = cc h
place_found name (x ∷ xs) k h none = grind (arith, same_as_itself, λ (j : ℕ). place_found name xs j)

number_at : {A : Type 0} (n : ℕ) (xs : List A) (k : ℕ) → k < length xs → slice_get (numbers_from n xs) k ≡ Some (n + k)
number_at n (x ∷ xs) (suc k) lt = grind (arith, number_at (suc n) xs k)
number_at n xs k lt = grind arith

-- ---- variations

module _ (header : List Column) (names : FunctionNames) (script : List Statement) (good : AreAccepted names (scope_of header) script) (v : Option ℕ) where
  abbrev under : Under
  under = under_at script v

  -- the variation of that number has this place among so many tags from the first on, or none
  abbrev IsPlaceOf : ℕ → ℕ → Option ℕ → Type 0
  IsPlaceOf first tags (Some k) = (k < tags) × (v ≡ Some (first + k))
  IsPlaceOf first tags None = (k : ℕ) → k < tags → v ≡ Some (first + k) → ⊥

  -- the variation of a Vary's tag, in the whole script
  tag_number : (before : List Statement) (node parent : List ℕ) (cs : List (List ℕ)) (values : VaryValues) (tags : List (List ℕ)) (vary : List ℕ)
      → Extends (Vary node parent cs values tags vary ∷ before) script
      → (k : ℕ) (tag : List ℕ) → slice_get tags k ≡ Some tag → slice_get (variations script) (length (variations before) + k) ≡ Some (record { name = vary; tag = tag })
  tag_number before node parent cs values tags vary e k tag h =
      (kept variations (λ before s. own_variations s) (λ before s. refl)) (Vary node parent cs values tags vary ∷ before) script e (length (variations before) + k) _
      (next_at (variations before) (own_variations (Vary node parent cs values tags vary)) k _ refl ∙ mapped_at (λ t. record { name = vary; tag = t }) tags k tag h)

  own_place_is : (before : List Statement) (node parent : List ℕ) (cs : List (List ℕ)) (values : VaryValues) (tags : List (List ℕ)) (vary : List ℕ)
      → Extends (Vary node parent cs values tags vary ∷ before) script → IsPlaceOf (length (variations before)) (length tags) (own_place under vary tags)
  own_place_is before node parent cs values tags vary e = go (own_place under vary tags) refl
    where
      first : ℕ
      first = length (variations before)

      same_place : (n : ℕ) (w : Variation) → slice_get (variations script) n ≡ Some w → (b : Bool) → same w.name vary ≡ b → (k : ℕ)
          → (if b then place (same w.tag) tags else None) ≡ Some k → (k < length tags) × (n ≡ length (variations before) + k)
      same_place n w at true is k q =
          let tag = place_gives w.tag tags k q in
          let whole : ◌≡◌ {A = Variation} (record { name = vary; tag = w.tag }) w = (let f = names_equal w.name vary is in λ i. record { name = sym f i; tag = w.tag }) in
          let there' = tag_number before node parent cs values tags vary e k w.tag tag ∙ ap Some whole in
          let two = variation_number header names script good (length (variations before) + k) w there' in
          let lt = slice_get_within tags k w.tag tag in
          (lt, (let p : Some n ≡ Some (length (variations before) + k) = sym (variation_number header names script good n w at) ∙ two in cc p))
      same_place n w at false is k q = cc q

      found : (u : Option ℕ) (w : Under) → v ≡ u → under_at script u ≡ w → (k : ℕ) → own_place w vary tags ≡ Some k → (k < length tags) × (u ≡ Some (length (variations before) + k))
      found u w p r k q = grind (arith, same_place)

      none : own_place under vary tags ≡ None → (k : ℕ) → k < length tags → v ≡ Some (length (variations before) + k) → ⊥
      none q k lt is =
          let t = something_at tags k lt in
          let at = tag_number before node parent cs values tags vary e k t.0 t.1 in
          let u : under ≡ Some (record { name = vary; tag = t.0 }) = ap (under_at script) is ∙ at in
          let own : own_place (Some (record { name = vary; tag = t.0 })) vary tags ≡ None = sym (ap (λ (x : Under). own_place x vary tags) u) ∙ q in
          place_found t.0 tags k t.1 (rw (same_as_itself vary) at own)

      go : (o : Option ℕ) → own_place under vary tags ≡ o → IsPlaceOf (length (variations before)) (length tags) o
      go o q = grind (arith, found, none)

  -- ---- each version

  abbrev list_of : List Statement → List Source
  list_of before = sources header names under before

  abbrev Says : List Statement → Version → Source → Type 0
  Says before (Version.Cell col) src = src ≡ Source.Cell col
  Says before (Version.Computed site) src = src ≡ Source.Site site
  Says before (Version.Varied below first tags its vector) src =
      (b : Source) × (slice_get (list_of before) below ≡ Some b)
      × ((k : ℕ) → k < tags → v ≡ Some (first + k) → Some src ≡ tag_source its tags vector k)
      × (((k : ℕ) → k < tags → v ≡ Some (first + k) → ⊥) → src ≡ b)

  says_further : (before : List Statement) (s : Statement) (x : Version) (src : Source) → Says before x src → Says (s ∷ before) x src
  says_further before s x src h = let kept' = source_kept header names under before (s ∷ before) (further s itself) in grind (arith, kept')

  abbrev HasSaid : List Statement → List Source → Version → ℕ → Type 0
  HasSaid before list x c = (src : Source) × (slice_get list c ≡ Some src) × Says before x src

  said_by_cell : (n : ℕ) (cs : List Column) (c : ℕ) (x : Version) → slice_get (cell_versions header names n cs) c ≡ Some x → HasSaid [] (cell_sources n cs) x c
  said_by_cell n [] c x h = cc h
  said_by_cell n (col ∷ cs) zero x h = let is : Version.Cell n ≡ x = cc h in (Source.Cell n, refl, subst (λ (y : Version). Says [] y (Source.Cell n)) is refl)
  said_by_cell n (col ∷ cs) (suc c) x h = said_by_cell (suc n) cs c x h

  one_place : (first k j : ℕ) → v ≡ Some (first + k) → v ≡ Some (first + j) → j ≡ k
  one_place first k j e is = let twice : Some (first + k) ≡ Some (first + j) = sym e ∙ is in let sum : first + k ≡ first + j = cc twice in omega (arith, sum)

  -- the version of a column that a Vary changes is there
  below_there : (before : List Statement) → AreAccepted names (scope_of header) before → (parent name : List ℕ)
      → check_target (scope_at names (scope_of header) before parent) (path before parent) name ≡ None
      → (b : Source) × (slice_get (list_of before) (named_version header before parent name) ≡ Some b)
  below_there before ok parent name h =
      let p = all_none (refuse_unless (is_visible (scope_at names (scope_of header) before parent) name) GraphCause.UnknownColumn ∷ refuse_if (is_alias (path before parent) name) GraphCause.AliasTarget ∷ []) h in
      let t = visible_known (scope_at names (scope_of header) before parent) name (unless_holds (is_visible (scope_at names (scope_of header) before parent) name) GraphCause.UnknownColumn p.0) in
      let own : target_of (path before parent) name ≡ name = no_target (path before parent) name (if_fails (is_alias (path before parent) name) GraphCause.AliasTarget p.1.0) in
      let at : slice_get (version_kinds header names before) (named_version header before parent name) ≡ Some t.0 =
      ap (λ n. slice_get (version_kinds header names before) (named_version header before parent n)) (sym own) ∙ visible_kind header names before ok parent name t.0 t.1 in
      let lt = slice_get_within (version_kinds header names before) (named_version header before parent name) t.0 at in
      let few = source_count header names under before in
      something_at (list_of before) (named_version header before parent name) (omega (arith, lt, kind_count header names before, few))

  said_by_columns : (before : List Statement) → AreAccepted names (scope_of header) before
      → (parent : List ℕ) (values : VaryValues) (tags : List (List ℕ)) (vary : List ℕ) → IsPlaceOf (length (variations before)) (length tags) (own_place under vary tags)
      → (i c : ℕ) (cs : List (List ℕ)) (x : Version) → first_refusal (map (check_target (scope_at names (scope_of header) before parent) (path before parent)) cs) ≡ None
      → slice_get (varied_versions header names before parent values tags i cs) c ≡ Some x
      → HasSaid before (varied_sources header names under before (list_of before) parent values tags vary i cs) x c
  said_by_columns before ok parent values tags vary own i c [] x free h = cc h
  said_by_columns before ok parent values tags vary own i zero (name ∷ cs) x free h =
      let p = both_none (check_target (scope_at names (scope_of header) before parent) (path before parent) name) (map (check_target (scope_at names (scope_of header) before parent) (path before parent)) cs) free in
      let b = below_there before ok parent name p.0 in
      let below : source_in (list_of before) (named_version header before parent name) ≡ b.0 =
      get_or_from_slice_get (list_of before) (named_version header before parent name) b.0 (Source.Cell 0) b.1 in
      let is : varied_version header names values (named_version header before parent name) (length (variations before)) (site_count header names before) tags i ≡ x = cc h in (
        own_source values (site_count header names before) i (length tags) (own_place under vary tags) b.0,
        ap (λ (s : Source). Some (own_source values (site_count header names before) i (length tags) (own_place under vary tags) s)) below,
        subst (λ (y : Version). Says before y (own_source values (site_count header names before) i (length tags) (own_place under vary tags) b.0)) is
            (grind (arith, one_place, number_at, b.1)),
      )
  said_by_columns before ok parent values tags vary own i (suc c) (name ∷ cs) x free h =
      grind (arith, both_none, said_by_columns before ok parent values tags vary own (suc i) c cs x)

  said_by_site : (before : List Statement) (c : ℕ) (x : Version) → slice_get (Version.Computed (site_count header names before) ∷ []) c ≡ Some x → HasSaid before (Source.Site (site_count header names before) ∷ []) x c
  said_by_site before zero x h = let is : Version.Computed (site_count header names before) ≡ x = cc h in (Source.Site (site_count header names before), refl, subst (λ (y : Version). Says before y (Source.Site (site_count header names before))) is refl)
  said_by_site before (suc c) x h = cc h

  own_said : (before : List Statement) (s : Statement) → AreAccepted names (scope_of header) (s ∷ before) → Extends (s ∷ before) script → (c : ℕ) (x : Version)
      → slice_get (own_versions header names before s) c ≡ Some x → HasSaid before (own_sources header names under before (list_of before) s) x c
  own_said before s ok e c x h = grind (arith, said_by_site, said_by_columns, own_place_is, checked_of)

  said : (before : List Statement) → AreAccepted names (scope_of header) before → Extends before script → (c : ℕ) (x : Version)
      → slice_get (versions header names before) c ≡ Some x → HasSaid before (list_of before) x c
  said [] ok e c x h = said_by_cell 0 header c x h
  said (s ∷ before) ok e c x h =
      joined (versions header names before) (own_versions header names before s) c x h
      (λ q. let n = said before ok.1 (shorter s before script e) c x q in (n.0, source_kept header names under before (s ∷ before) (further s itself) c n.0 n.1, says_further before s x n.0 n.2))
      (λ k is q.
      let o = own_said before s ok e k x q in
      let n : c ≡ length (list_of before) + k = (let many = versions_count header names before in let few = source_count header names under before in omega (arith, many, few, is)) in
      (o.0, next_at (list_of before) (own_sources header names under before (list_of before) s) k c n ∙ o.1, says_further before s x o.0 o.2))

  in_words : (x : Version) (src : Source) (c : ℕ) → slice_get (list_of script) c ≡ Some src → Says script x src → IsSourceOf (slice_get (list_of script)) v x (slice_get (list_of script) c)
  in_words x src c at h = grind arith

-- under nominal or the variation of that number each version has the source that it says
pub version_source : (header : List Column) (names : FunctionNames) (script : List Statement) → AreAccepted names (scope_of header) script
    → (v : Option ℕ) (c : ℕ) (x : Version) → slice_get (versions header names script) c ≡ Some x
    → IsSourceOf (slice_get (sources header names (under_at script v) script)) v x (slice_get (sources header names (under_at script v) script) c)
version_source header names script good v c x h = let s = said header names script good v script good itself c x h in in_words header names script good v x s.0 c s.1 s.2
