-- What a pass demands, as a set of sites: it has what is tried and read, and with each site those that its evaluation meets.
use Rattle.lemmas.proofs.{◌≡◌, ℕ, List, [], ◌∷◌, Ok, refl, ap, slice_get, ◌<◌, ◌≤◌, length, Some, sym, ◌∙◌, subst, arith, ◌≢◌, Bool, true, false, nat_eq, if◌then◌else◌, filter, map, Option, None, ◌++◌, Decides-eqb, append-nil}
use Rattle.rdf_values.specs.{AreAccepted, ColType, Column, column_kind, fn_names, Function, parent_of, path, scope_at, scope_of, Statement, Under, Value, callee, EachColumn, shape_of, columns_in, same, Tree, FitsRow, place, target_of, ActionAt, ActionKind, columns_of, Booking, ReportOn}
use Rattle.rdf_values.specs.declared.scripts.statement.Statement.TheVariants.{Filter, Action}
use Rattle.rdf_model.specs.{◌>>=◌, column_demands, column_value, Demand, Outcome, site_demands, call_outcome, evaluate, named_call, Faults, Gives, is_met, is_need, IsKnown, Needs, untyped, without, Dataset, FitsOutcome, with_needs, booking_demands, demands_after, filter_demands, input_demands, met_columns, same_site, site_at, through, truth_of}
use Rattle.graph_numbers.specs.{Source, version_at, IsBelow, site_count, site_in, SiteAt, sites, source_in, sources, version_count, version_kinds, filter_sites, HasFilters, HasInputs, HasSourceIn, IfGiven, IfPassed, meets, own_filter_site, through_sites, FilterAt, filters, ResultAt, results}
use Rattle.std.proofs.lemmas.Option.{get_or_from_slice_get, slice_get_within}
use Rattle.rdf_model.proofs.Evaluations.{evaluate_renamed, evaluate_known, call_known}
use Rattle.graph_numbers.proofs.Placing.{kind_later, visible_kind, Extends, source_kept, source_count, each_version, placed, by_test, each_filter, each_result, shorter, IsPlaced, demand_of, AreExplained, own_site, action_explained, filter_statement as filter_explained, filters_explained}
use Rattle.rdf_model.proofs.Typing.{known_columns, each_weaker, IsKnownColumn}
use Rattle.rdf_model.specs.Laws.{gives, faults, Alike}
use Rattle.rdf_model.proofs.Accepted.{names_equal, itself, column_fits}
use Rattle.rdf_values.proofs.KeptLemmas.{In, here, there, each_of, each_at, all_columns, in_left, in_right}
use Rattle.rdf_model.proofs.Missing.{named_alike, alike_is, call_alike}
use Rattle.graph_numbers.proofs.Apart.{site_number}
use Rattle.graph_numbers.proofs.Covering.{through_is, AreVisible, action_visible, HasSource, IsGiven, column_source, version_value, source_is, source_later, HasDemandsOf, column_demanded, demands, number_value}
use Rattle.graph_numbers.proofs.Origins as origin
use Rattle.rdf_model.proofs.Evaluations as evaluations
use Rattle.rdf_model.specs.Laws as alike
use Rattle.rdf_model.proofs.Missing as missing

-- ---- the order of numbers

module _ (fns : List Function) (columns : List Column) (u : Under) where
  pub below_of : (before earlier : List Statement) → Extends earlier before → (s c : ℕ) → site_count columns (fn_names fns) earlier ≤ s → (o : Outcome ⊥ Value) → HasSource ⊥ fns columns [] u earlier c o
      → (c < version_count columns before) × IsBelow (length columns) s (source_in (sources columns (fn_names fns) u before) c)
  below_of before earlier e s c le o h =
      let at : slice_get (sources columns (fn_names fns) u before) c ≡ Some h.0 = source_kept columns (fn_names fns) u earlier before e c h.0 h.1 in
      let lt = slice_get_within (sources columns (fn_names fns) u before) c h.0 at in (
        subst (λ (n : ℕ). c < n) (source_count columns (fn_names fns) u before) lt,
        subst (IsBelow (length columns) s) (sym (get_or_from_slice_get (sources columns (fn_names fns) u before) c h.0 (Source.Cell 0) at)) (go h.0 h.2),
      )
    where
      go : (src : Source) → IsGiven ⊥ fns columns [] u earlier src o → IsBelow (length columns) s src
      go src k = grind (arith, slice_get_within)

  -- the columns of a site are versions, given by the table's columns and by sites with lower numbers
  pub columns_below : (before : List Statement) → AreAccepted (fn_names fns) (scope_of columns) before → (s : ℕ) (x : SiteAt) → slice_get (sites columns (fn_names fns) before) s ≡ Some x
      → EachColumn (λ c. (c < version_count columns before) × IsBelow (length columns) s (source_in (sources columns (fn_names fns) u before) c)) x.tree
  columns_below before good s x h =
      let p = placed columns (fn_names fns) before good s x h in
      each_version columns (fn_names fns) (λ c. (c < version_count columns before) × IsBelow (length columns) s (source_in (sources columns (fn_names fns) u before) c)) before s x p
      (λ c t k. below_of before p.earlier p.extends s (version_at columns p.earlier p.parent c) p.start _ (column_source ⊥ fns columns [] u p.earlier p.accepted p.parent c t k))

-- ---- a column that an evaluation over numbers meets is that of its name, and its version has its kind

pub in_filter : {A : Type 0} {x : A} (p : A → Bool) (xs : List A) → In x xs → p x ≡ true → In x (filter p xs)
in_filter p xs here e = rw e here
in_filter {x = x} p xs (there {y = y} {xs = zs} h) e = by_test (p y) (λ t. rw t (there (in_filter p zs h e))) (λ t. rw t (in_filter p zs h e))

-- two facts of each column
pub each_both : {C F : Type 0} (P Q R : C → Type 0) → ((c : C) → P c → Q c → R c) → (e : Tree C F) → EachColumn P e → EachColumn Q e → EachColumn R e
each_both P Q R f e h k = each_of R e (λ c i. f c (each_at P e h c i) (each_at Q e k c i))

-- ---- what is needed

not_known : {M A : Type 0} (o : Outcome M A) (m : M) → IsKnown o → o ≡ Needs m → ⊥
not_known o m h k = grind arith

abbrev in_need : {M A : Type 0} → M → Outcome M A → M
in_need d (Needs m) = m
in_need d o = d

module _ {C F M : Type 0} (look : C → Outcome M Value) (call : F → List Value → Outcome M Value) (calls_known : (f : F) (vs : List Value) → IsKnown (call f vs)) (e : Tree C F) where
  -- what a column gives, or something known in place of a need
  abbrev given : Outcome M Value → Outcome M Value
  given (Gives v) = Gives v
  given (Faults k) = Faults k
  given (Needs m) = untyped

  abbrev IsNeeded : M → Type 0
  IsNeeded m = (c : C) × In c (columns_in e) × (look c ≡ Needs m)

  look_closed : (c : C) → In c (columns_in e) → (o : Outcome M Value) → look c ≡ o → evaluations.Close IsNeeded o (given o)
  look_closed c k (Needs m) q = evaluations.missing (c, k, q)
  look_closed c k o q = evaluations.same

  -- what an evaluation needs is what one of its columns needs
  pub needed : (m : M) → evaluate look call e ≡ Needs m → IsNeeded m
  needed m h =
      go (evaluate look call e) (evaluate (λ c. given (look c)) call e) h
      (evaluate_known M (λ c. given (look c)) call calls_known e (each_of (λ c. IsKnown (given (look c))) e (λ c k. (grind (arith, gives, faults)))))
      (evaluations.evaluate_close IsNeeded look (λ c. given (look c)) call e (each_of (λ c. evaluations.Close IsNeeded (look c) (given (look c))) e (λ c k. look_closed c k (look c) refl)))
    where
      go : (o p : Outcome M Value) → o ≡ Needs m → IsKnown p → evaluations.Close IsNeeded o p → IsNeeded m
      go o p q known evaluations.same = absurd (not_known o m known q)
      go o p q known (evaluations.missing {d = d} n) = let is : d ≡ m = ap (in_need m) q in subst IsNeeded is n

-- ---- by names

if_need : {M A : Type 0} (o : Outcome M A) → is_need o ≡ true → (m : M) × (o ≡ Needs m)
if_need o h = grind arith

alike_need : {M N A : Type 0} (o : Outcome M A) (p : Outcome N A) → Alike o p → is_need o ≡ is_need p
alike_need o p h = grind arith

-- with a number for each name, an outcome for each number, and the same for each name, where no call needs anything
module _ {F : Type 0} (number : List ℕ → ℕ) (look : ℕ → Outcome ℕ Value) (named : List ℕ → Outcome (List ℕ) Value) (call : F → List Value → Outcome ℕ Value) (named_call : F → List Value → Outcome (List ℕ) Value)
    (calls : (f : F) (vs : List Value) → Alike (call f vs) (named_call f vs)) (calls_known : (f : F) (vs : List Value) → IsKnown (named_call f vs)) (named_known : (c : List ℕ) → IsKnown (named c))
    (e : Tree (List ℕ) F) (alikes : EachColumn (λ c. Alike (look (number c)) (named c)) e) (c : ℕ) where
  -- each name of that number is missing
  abbrev all_missing : List ℕ → Outcome (List ℕ) Value
  all_missing n = if nat_eq c (number n) then Needs n else named n

  missing_alike : (n : List ℕ) → Alike (look (number n)) (named n) → Alike (without nat_eq c look (number n)) (all_missing n)
  missing_alike n h = by_test (nat_eq c (number n)) (λ e. rw e alike.needs) (λ e. rw e h)

  its_number : (n m : List ℕ) → all_missing n ≡ Needs m → (n ≡ m) × (nat_eq c (number n) ≡ true)
  its_number n m h = by_test (nat_eq c (number n)) (λ e. (ap (in_need m) (rw e at h), e)) (λ e. absurd (not_known (named n) m (named_known n) (rw e at h)))

  -- of the missing names the one that is needed, alone
  alone : (n : List ℕ) → nat_eq c (number n) ≡ true → (m : List ℕ) → evaluations.Close (λ d. d ≢ n) (all_missing m) (without same n named m)
  alone n h m = go (same n m) (nat_eq c (number m)) refl refl
    where
      go : (a b : Bool) → same n m ≡ a → nat_eq c (number m) ≡ b → evaluations.Close (λ d. d ≢ n) (if b then Needs m else named m) (if a then Needs n else named m)
      go true true p q = subst (λ (x : List ℕ). evaluations.Close {M = List ℕ} {A = Value} (λ d. d ≢ n) (Needs x) (Needs n)) (names_equal n m p) evaluations.same
      go true false p q = cc (sym h ∙ ap (λ x. nat_eq c (number x)) (names_equal n m p) ∙ q)
      go false true p q = evaluations.missing (λ x. cc (sym p ∙ ap (same n) x ∙ itself n))
      go false false p q = evaluations.same

  pub met_name : is_need (evaluate (λ n. without nat_eq c look (number n)) call e) ≡ true
      → (n : List ℕ) × (number n ≡ c) × In n (columns_in e) × In n (filter (is_met same named named_call e) (columns_in e))
  met_name h =
      let a : Alike (evaluate (λ n. without nat_eq c look (number n)) call e) (evaluate all_missing named_call e) =
      missing.evaluate_alike ℕ (List ℕ) _ _ call named_call calls e (each_both (λ n. Alike (look (number n)) (named n)) (λ n. Unit {0}) _ (λ n k l. missing_alike n k) e alikes (all_columns {P = λ n. Unit {0}} (λ n. tt) e)) in
      let m = if_need (evaluate all_missing named_call e) (sym (alike_need _ _ a) ∙ h) in
      let n = needed all_missing named_call calls_known e m.0 m.1 in
      let p = its_number n.0 m.0 n.2 in
      let r : is_met same named named_call e n.0 ≡ true =
      go n.0 (evaluate all_missing named_call e) (evaluate (without same n.0 named) named_call e) (m.1 ∙ ap Needs (sym p.0))
      (evaluations.evaluate_close (λ d. d ≢ n.0) all_missing (without same n.0 named) named_call e (each_of _ e (λ x k. alone n.0 p.1 x))) in
      (n.0, sym ((Decides-eqb c (number n.0)).0 p.1), n.1, in_filter (is_met same named named_call e) (columns_in e) n.1 r)
    where
      go : (n : List ℕ) (o p : Outcome (List ℕ) Value) → o ≡ Needs n → evaluations.Close (λ d. d ≢ n) o p → is_need p ≡ true
      go n o p q h = grind arith

-- ---- values

module _ (d : Dataset) (row : List Value) (u : Under) (fits : FitsRow d.columns row) where
  -- the version has a kind, and comes to a value of it
  abbrev pub FitsVersion : List Statement → ℕ → Type 0
  FitsVersion before c = (t : ColType) × (slice_get (version_kinds d.columns (fn_names d.fns) before) c ≡ Some t) × FitsOutcome t (version_value ℕ d.fns d.columns row u before c)

  pub visible_fits : (before earlier : List Statement) → AreAccepted (fn_names d.fns) (scope_of d.columns) earlier → Extends earlier before → (node name : List ℕ) (t : ColType)
      → column_kind (scope_at (fn_names d.fns) (scope_of d.columns) earlier node) name ≡ Ok t → FitsVersion before (version_at d.columns earlier node name)
  visible_fits before earlier ok e node name t h =
      let is : version_value ℕ d.fns d.columns row u before (version_at d.columns earlier node name) ≡ column_value d.fns d.columns row (path earlier node) u name =
      source_is ℕ d.fns d.columns row u before _ _ (source_later ℕ d.fns d.columns row u earlier before e _ _ (column_source ℕ d.fns d.columns row u earlier ok node name t h)) in
      let f : column_value d.fns d.columns row {M = ℕ} (path earlier node) u name ≡ with_needs (column_value d.fns d.columns row (path earlier node) u name) =
      alike_is _ _ (named_alike ⊥ ℕ d.fns d.columns row (path earlier node) u (target_of (path earlier node) name)) in (
        t,
        kind_later d.columns (fn_names d.fns) earlier before e _ t (visible_kind d.columns (fn_names d.fns) earlier ok node name t h),
        subst (FitsOutcome t) (sym (is ∙ f)) (grind (arith, column_fits d row earlier node u name t ok fits h)),
      )

  -- the columns of a site have kinds, and come to values of them
  pub site_fits : (before : List Statement) → AreAccepted (fn_names d.fns) (scope_of d.columns) before → (s : ℕ) (x : SiteAt) → slice_get (sites d.columns (fn_names d.fns) before) s ≡ Some x
      → EachColumn (FitsVersion before) x.tree
  site_fits before good s x h =
      let p = placed d.columns (fn_names d.fns) before good s x h in each_version d.columns (fn_names d.fns) (FitsVersion before) before s x p (visible_fits before p.earlier p.accepted p.extends p.parent)

with_needs_known : {M A : Type 0} (o : Outcome ⊥ A) → IsKnown (with_needs {M = M} o)
with_needs_known o = grind (arith, gives, faults)

with_needs_alike : {M N A : Type 0} (o : Outcome ⊥ A) → Alike (with_needs {M = M} o) (with_needs {M = N} o)
with_needs_alike o = grind (arith, alike.gives, alike.faults)

pub some_is : {A : Type 0} (a b : A) (o : Option A) → o ≡ Some a → o ≡ Some b → a ≡ b
some_is a b o h k = let e : ◌≡◌ {A = Option _} (Some a) (Some b) = sym h ∙ k in cc e

module _ (fns : List Function) (columns : List Column) (row : List Value) (u : Under) (before : List Statement) (good : AreAccepted (fn_names fns) (scope_of columns) before) where
  -- the site of that number is demanded
  abbrev pub IsDemanded : List Demand → ℕ → Type 0
  IsDemanded ds s = (x : SiteAt) × (slice_get (sites columns (fn_names fns) before) s ≡ Some x) × In (demand_of fns columns row u before x) ds

  -- a site is known by its node and places
  same_number : (s t : ℕ) (x y : SiteAt) → slice_get (sites columns (fn_names fns) before) s ≡ Some x → slice_get (sites columns (fn_names fns) before) t ≡ Some y → x.site ≡ y.site → x ≡ y
  same_number s t x y h k e =
      let p = site_number columns (fn_names fns) before good s x h in
      let q = site_number columns (fn_names fns) before good t y k in
      let n : s ≡ t = some_is s t (place (λ (z : SiteAt). same_site x.site z.site) (sites columns (fn_names fns) before)) p (ap (λ w. place (λ (z : SiteAt). same_site w z.site) (sites columns (fn_names fns) before)) e ∙ q) in
      some_is x y (slice_get (sites columns (fn_names fns) before) s) h (ap (slice_get (sites columns (fn_names fns) before)) n ∙ k)

  abbrev version : ℕ → Outcome ℕ Value
  version = version_value ℕ fns columns row u before

  -- the name through which a site meets a version
  met_of : (s : ℕ) (x : SiteAt) (p : IsPlaced columns (fn_names fns) before s x) (c : ℕ)
      → meets fns version (site_in columns (fn_names fns) p.earlier p.parent p.site p.expr) c ≡ true
      → (n : List ℕ) × (version_at columns p.earlier p.parent n ≡ c) × In n (columns_in p.expr) × In n (met_columns fns columns row (path p.earlier p.parent) u p.expr)
  met_of s x p c h =
      let known = known_columns (column_kind (scope_at (fn_names fns) (scope_of columns) p.earlier p.parent)) (shape_of (fn_names fns)) p.expr p.kind p.typed in
      met_name (version_at columns p.earlier p.parent) version (λ n. with_needs (column_value fns columns row (path p.earlier p.parent) u n)) (named_call fns) (named_call fns)
      (λ f vs. call_alike ℕ (List ℕ) fns (callee (fn_names fns) f) vs) (λ f vs. call_known (List ℕ) fns (callee (fn_names fns) f) vs) (λ n. with_needs_known (column_value fns columns row (path p.earlier p.parent) u n))
      p.expr
      (each_weaker (IsKnownColumn (column_kind (scope_at (fn_names fns) (scope_of columns) p.earlier p.parent)) (shape_of (fn_names fns))) _ (λ n k. alikes n k.0 k.1) p.expr known)
      c
      (ap is_need (sym (evaluate_renamed (version_at columns p.earlier p.parent) (callee (fn_names fns)) (without nat_eq c version) (call_outcome fns) p.expr)) ∙ h)
    where
      alikes : (n : List ℕ) (t : ColType) → column_kind (scope_at (fn_names fns) (scope_of columns) p.earlier p.parent) n ≡ Ok t
          → Alike (version (version_at columns p.earlier p.parent n)) (with_needs {M = List ℕ} (column_value fns columns row (path p.earlier p.parent) u n))
      alikes n t k =
          let e : version (version_at columns p.earlier p.parent n) ≡ column_value fns columns row (path p.earlier p.parent) u n =
          source_is ℕ fns columns row u before _ _ (source_later ℕ fns columns row u p.earlier before p.extends _ _ (column_source ℕ fns columns row u p.earlier p.accepted p.parent n t k)) in
          let f : column_value fns columns row {M = ℕ} (path p.earlier p.parent) u n ≡ with_needs (column_value fns columns row (path p.earlier p.parent) u n) =
          alike_is _ _ (named_alike ⊥ ℕ fns columns row (path p.earlier p.parent) u (target_of (path p.earlier p.parent) n)) in
          subst (λ (o : Outcome ℕ Value). Alike o (with_needs {M = List ℕ} (column_value fns columns row (path p.earlier p.parent) u n))) (sym (e ∙ f)) (with_needs_alike (column_value fns columns row (path p.earlier p.parent) u n))

  -- what reading a version demands
  source_demanded : (ds small : List Demand) (c : ℕ) → HasDemandsOf fns columns row u before c small → ((e : Demand) → In e small → In e ds) → HasSourceIn (IsDemanded ds) (source_in (sources columns (fn_names fns) u before) c)
  source_demanded ds small c h f = grind (arith, get_or_from_slice_get, here)

  -- with each demanded site those of the versions that its evaluation meets are demanded
  pub closed : (ds : List Demand) → AreExplained fns columns row u before ds → (s c : ℕ) (x : SiteAt) → slice_get (sites columns (fn_names fns) before) s ≡ Some x → IsDemanded ds s
      → meets fns version x c ≡ true → HasSourceIn (IsDemanded ds) (source_in (sources columns (fn_names fns) u before) c)
  closed ds explained s c x h demanded met =
      let z : demanded.0 ≡ x = some_is demanded.0 x (slice_get (sites columns (fn_names fns) before) s) demanded.1 h in
      let w = explained (demand_of fns columns row u before demanded.0) demanded.2 in
      let same_one : demanded.0 ≡ w.site = same_number s w.number demanded.0 w.site demanded.1 w.there_is (ap (λ (d : Demand). d.site) w.is) in
      let p = placed columns (fn_names fns) before good s x h in
      let y : w.site ≡ site_in columns (fn_names fns) p.earlier p.parent p.site p.expr = sym same_one ∙ z ∙ p.is in
      let n = met_of s x p c (ap (λ (v : SiteAt). meets fns version v c) (sym p.is) ∙ met) in
      let known = known_columns (column_kind (scope_at (fn_names fns) (scope_of columns) p.earlier p.parent)) (shape_of (fn_names fns)) p.expr p.kind p.typed in
      let k = each_at (IsKnownColumn (column_kind (scope_at (fn_names fns) (scope_of columns) p.earlier p.parent)) (shape_of (fn_names fns))) p.expr known n.0 n.2 in
      let d = origin.source_later columns (fn_names fns) u (demands fns columns row u) p.earlier before p.extends _ _
      (column_demanded fns columns row u p.earlier p.accepted p.parent n.0 k.0 k.1) in
      source_demanded ds (column_demands fns columns row (path p.earlier p.parent) u n.0) c
      (subst (λ (v : ℕ). HasDemandsOf fns columns row u before v (column_demands fns columns row (path p.earlier p.parent) u n.0)) n.1 d)
      (λ e i. w.met n.0 (subst (λ (v : SiteAt). In n.0 (met_columns fns columns row v.at u v.expr)) (sym y) n.3) e (subst (λ (v : SiteAt). In e (column_demands fns columns row v.at u n.0)) (sym y) i))

  -- ---- what a pass tries and reads

  pub then_wider : (o : Outcome ⊥ Bool) {P Q : Type 0} → (P → Q) → IfPassed o P → IfPassed o Q
  then_wider o f h = grind arith

  given_wider : (o : Outcome ⊥ Value) {P Q : Type 0} → (P → Q) → IfGiven o P → IfGiven o Q
  given_wider o f h = grind arith

  pub wider_filters : (D E : ℕ → Type 0) → ((s : ℕ) → D s → E s) → (site : ℕ → Outcome ⊥ Value) (ss : List ℕ) → HasFilters D site ss → HasFilters E site ss
  wider_filters D E f site [] h = tt
  wider_filters D E f site (s ∷ ss) h = (f s h.0, then_wider (site s >>= truth_of) (wider_filters D E f site ss) h.1)

  -- one more filter, tried where those before it are passed
  more_filters : (D : ℕ → Type 0) (site : ℕ → Outcome ⊥ Value) (ss : List ℕ) (s : ℕ) → HasFilters D site ss → IfPassed (through_sites site ss) (D s) → HasFilters D site (ss ++ s ∷ [])
  more_filters D site [] s h k = grind arith
  more_filters D site (t ∷ ss) s h k = grind (arith, more_filters D site ss s)

  abbrev site : ℕ → Outcome ⊥ Value
  site = number_value ⊥ fns columns row u before

  pub demanded_wider : (ds es : List Demand) → ((e : Demand) → In e ds → In e es) → (s : ℕ) → IsDemanded ds s → IsDemanded es s
  demanded_wider ds es f s h = (h.0, h.1, f (demand_of fns columns row u before h.0) h.2)

  -- what follows an outcome, where it is an answer that the test passes
  after_passed : (o : Outcome ⊥ Bool) (next : List Demand) (D : List Demand → Type 0) → D next → IfPassed o (D (demands_after o (λ passed. if passed then next else [])))
  after_passed o next D h = grind arith

  pub filter_statement : (earlier : List Statement) (s : Statement) → Extends (s ∷ earlier) before
      → HasFilters (IsDemanded (filter_demands fns columns row (path earlier (parent_of s)) u)) site (filter_sites columns (fn_names fns) earlier (parent_of s))
      → HasFilters (IsDemanded (filter_demands fns columns row (s ∷ path earlier (parent_of s)) u)) site (filter_sites columns (fn_names fns) earlier (parent_of s) ++ own_filter_site s (site_count columns (fn_names fns) earlier))
  filter_statement earlier (Filter node parent expr label) e h =
      let above : List Demand = filter_demands fns columns row (path earlier parent) u in
      let own : List Demand = site_demands fns columns row (path earlier parent) u (site_at node) expr (column_demands fns columns row (path earlier parent) u) in
      let n : ℕ = site_count columns (fn_names fns) earlier in
      let whole : List Demand = filter_demands fns columns row (Filter node parent expr label ∷ path earlier parent) u in
      let here_is : IsDemanded own n = (site_in columns (fn_names fns) earlier parent (site_at node) expr, own_site fns columns row u before earlier (Filter node parent expr label) parent node expr e refl, here) in
      let t : IfPassed (through fns columns row (path earlier parent) u) (IsDemanded whole n) =
      grind (arith, then_wider, demanded_wider, in_right, after_passed, here_is) in
      more_filters (IsDemanded whole) site (filter_sites columns (fn_names fns) earlier parent) n
      (wider_filters (IsDemanded above) (IsDemanded whole) (demanded_wider above whole (λ d k. in_left above _ k)) site (filter_sites columns (fn_names fns) earlier parent) h)
      (subst (λ (o : Outcome ⊥ Bool). IfPassed o (IsDemanded whole n)) (through_is ⊥ fns columns row u before earlier (shorter (Filter node parent expr label) earlier before e) parent) t)
  filter_statement earlier s e h =
      subst (λ (ss : List ℕ). HasFilters (IsDemanded (filter_demands fns columns row (path earlier (parent_of s)) u)) site ss) (sym (append-nil (filter_sites columns (fn_names fns) earlier (parent_of s)))) h

  -- the filters that are tried
  pub filters_demanded : (earlier : List Statement) → Extends earlier before → (node : List ℕ) → HasFilters (IsDemanded (filter_demands fns columns row (path earlier node) u)) site (filter_sites columns (fn_names fns) earlier node)
  filters_demanded [] e node = tt
  filters_demanded (s ∷ earlier) e node = grind (arith, filter_statement, filters_demanded earlier (shorter s earlier before e))

  abbrev value : ℕ → Outcome ⊥ Value
  value = version_value ⊥ fns columns row u before

  abbrev source : ℕ → Source
  source c = source_in (sources columns (fn_names fns) u before) c

  pub wider_inputs : (D E : ℕ → Type 0) → ((s : ℕ) → D s → E s) → (cs : List ℕ) → HasInputs D source value cs → HasInputs E source value cs
  wider_inputs D E f [] h = tt
  wider_inputs D E f (c ∷ cs) h = ((grind (arith, h.0)), given_wider (value c) (wider_inputs D E f cs) h.1)

  -- the versions that an action reads
  inputs_demanded : (earlier : List Statement) → AreAccepted (fn_names fns) (scope_of columns) earlier → Extends earlier before → (node : List ℕ) (cs : List (List ℕ)) → AreVisible ⊥ fns columns row u before earlier node cs
      → HasInputs (IsDemanded (input_demands fns columns row (path earlier node) u cs)) source value (map (version_at columns earlier node) cs)
  inputs_demanded earlier ok e node [] v = tt
  inputs_demanded earlier ok e node (c ∷ cs) v =
      let own : List Demand = column_demands fns columns row (path earlier node) u c in
      let rest : List Demand = input_demands fns columns row (path earlier node) u cs in
      let whole : List Demand = input_demands fns columns row (path earlier node) u (c ∷ cs) in
      let d = origin.source_later columns (fn_names fns) u (demands fns columns row u) earlier before e _ _ (column_demanded fns columns row u earlier ok node c v.0.0 v.0.1) in
      let is : value (version_at columns earlier node c) ≡ column_value fns columns row (path earlier node) u c =
      source_is ⊥ fns columns row u before _ _ (source_later ⊥ fns columns row u earlier before e _ _ (column_source ⊥ fns columns row u earlier ok node c v.0.0 v.0.1)) in
      let next : IfGiven (column_value fns columns row (path earlier node) u c) (HasInputs (IsDemanded whole) source value (map (version_at columns earlier node) cs)) =
      given_wider (column_value fns columns row (path earlier node) u c)
      (wider_inputs (IsDemanded (demands_after (column_value fns columns row (path earlier node) u c) (λ v. rest))) (IsDemanded whole) (demanded_wider _ whole (λ x k. in_right own _ k)) (map (version_at columns earlier node) cs))
      (grind (arith, inputs_demanded earlier ok e node cs v.1)) in (
        source_demanded whole own (version_at columns earlier node c) d (λ x k. in_left own _ k),
        subst (λ (o : Outcome ⊥ Value). IfGiven o (HasInputs (IsDemanded whole) source value (map (version_at columns earlier node) cs))) (sym is) next,
      )

  -- what an action demands has what it tries and reads
  pub action_demanded : (earlier : List Statement) (result parent : List ℕ) (k : ActionKind) → AreAccepted (fn_names fns) (scope_of columns) (Action result parent k ∷ earlier) → Extends earlier before
      → HasFilters (IsDemanded (booking_demands fns columns row (ActionAt k (path earlier parent)) u)) site (filter_sites columns (fn_names fns) earlier parent)
      × IfPassed (through_sites site (filter_sites columns (fn_names fns) earlier parent))
      (HasInputs (IsDemanded (booking_demands fns columns row (ActionAt k (path earlier parent)) u)) source value (map (version_at columns earlier parent) (columns_of k)))
  action_demanded earlier result parent k ok e =
      let above : List Demand = filter_demands fns columns row (path earlier parent) u in
      let own : List Demand = input_demands fns columns row (path earlier parent) u (columns_of k) in
      let whole : List Demand = booking_demands fns columns row (ActionAt k (path earlier parent)) u in
      let t : IfPassed (through fns columns row (path earlier parent) u) (HasInputs (IsDemanded whole) source value (map (version_at columns earlier parent) (columns_of k))) =
      then_wider (through fns columns row (path earlier parent) u) (wider_inputs _ (IsDemanded whole) (demanded_wider _ whole (λ d j. in_right above _ j)) (map (version_at columns earlier parent) (columns_of k)))
      (after_passed (through fns columns row (path earlier parent) u) own (λ ds. HasInputs (IsDemanded ds) source value (map (version_at columns earlier parent) (columns_of k)))
      (inputs_demanded earlier ok.1 e parent (columns_of k) (action_visible ⊥ fns columns row u before earlier result parent k ok))) in (
        wider_filters (IsDemanded above) (IsDemanded whole) (demanded_wider above whole (λ d j. in_left above _ j)) site (filter_sites columns (fn_names fns) earlier parent) (filters_demanded earlier e parent),
        subst (λ (o : Outcome ⊥ Bool). IfPassed o (HasInputs (IsDemanded whole) source value (map (version_at columns earlier parent) (columns_of k)))) (through_is ⊥ fns columns row u before earlier e parent) t,
      )

-- ---- what each result demands, by its numbers

module _ (fns : List Function) (columns : List Column) (row : List Value) (before : List Statement) (good : AreAccepted (fn_names fns) (scope_of columns) before) where
  abbrev Demanded : List Demand → ℕ → Type 0
  Demanded ds = IsDemanded fns columns row None before good ds

  abbrev result_site : ℕ → Outcome ⊥ Value
  result_site = number_value ⊥ fns columns row None before

  -- a named filter, with those above it: its demands are explained, and have the sites that are tried
  abbrev pub IsFilterDemanded : FilterAt → Type 0
  IsFilterDemanded f = AreExplained fns columns row None before (filter_demands fns columns row f.at None) × HasFilters (Demanded (filter_demands fns columns row f.at None)) result_site f.sites

  pub filter_demanded : (earlier : List Statement) → Extends earlier before → (n : ℕ) (f : FilterAt) → slice_get (filters columns (fn_names fns) earlier) n ≡ Some f → IsFilterDemanded f
  filter_demanded earlier e n f h =
      each_filter columns (fn_names fns) (λ upto f. Extends upto before → IsFilterDemanded f) (λ upto s f next a. next (shorter s upto before a))
      (λ upto node parent expr label a. let s : Statement = Filter node parent expr (Some label) in let b = shorter s upto before a in (
        filter_explained fns columns row None before upto s a (filters_explained fns columns row None before upto b parent),
        filter_statement fns columns row None before good upto s a (filters_demanded fns columns row None before good upto b parent),
      ))
      earlier n f h e

-- ---- actions

module _ (fns : List Function) (columns : List Column) (row : List Value) (u : Under) (before : List Statement) (good : AreAccepted (fn_names fns) (scope_of columns) before) where
  abbrev Has : List Demand → ℕ → Type 0
  Has ds = IsDemanded fns columns row u before good ds

  abbrev comes : ℕ → Outcome ⊥ Value
  comes = number_value ⊥ fns columns row u before

  -- what an action demands is explained, and has the sites that it tries and those of what it reads
  abbrev pub IsActionDemanded : ResultAt → Booking → Type 0
  IsActionDemanded r (ActionAt k at) =
      AreExplained fns columns row u before (booking_demands fns columns row (ActionAt k at) u)
      × HasFilters (Has (booking_demands fns columns row (ActionAt k at) u)) comes r.filters
      × IfPassed (through_sites comes r.filters)
      (HasInputs (Has (booking_demands fns columns row (ActionAt k at) u)) (λ c. source_in (sources columns (fn_names fns) u before) c) (version_value ⊥ fns columns row u before) r.inputs)
  IsActionDemanded r (ReportOn paths) = Unit {0}

  pub result_demanded : (earlier : List Statement) → AreAccepted (fn_names fns) (scope_of columns) earlier → Extends earlier before
      → (n : ℕ) (r : ResultAt) → slice_get (results columns (fn_names fns) earlier) n ≡ Some r → IsActionDemanded r r.booked.booking
  result_demanded earlier ok e n r h =
      each_result columns (fn_names fns) (λ upto r. AreAccepted (fn_names fns) (scope_of columns) upto → Extends upto before → IsActionDemanded r r.booked.booking)
      (λ upto s r next good f. next good.1 (shorter s upto before f))
      (λ upto result parent k fine f.
      let a = shorter (Action result parent k) upto before f in let d = action_demanded fns columns row u before good upto result parent k fine a in
      (action_explained fns columns row u before upto a parent k, d.0, d.1))
      (λ upto result parent fine f. tt) earlier n r h ok e
