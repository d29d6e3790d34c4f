-- What a site comes to, by what its versions come to; and what is known of the versions that it reads.
use Rattle.lemmas.proofs.{if◌then◌else◌, ◌≡◌, ℕ, ◌<◌, Bool, true, false, not, List, [], ◌∷◌, map, length, Option, Some, None, refl, sym, ◌∙◌, ap, subst, nat_eq, slice_get, filter}
use Rattle.std.specs.List.{AllByRecursion}
use Rattle.rdf_values.specs.{AreAccepted, ColType, columns_in, EntryFault, FitsRow, fn_names, FunctionNames, NumTree, scope_of, Statement, Under, Value}
use Rattle.rdf_model.specs.{◌>>=◌, call_outcome, Dataset, evaluate, Faults, FitsOutcome, Gives, Needs, Outcome, tag_element, with_needs}
use Rattle.rdf_model.proofs.Missing.{site_alike, tag_alike, alike_is}
use Rattle.expr_check.specs.{CheckedExpr, distinct, IsWellTyped}
use Rattle.graph_numbers.specs.{cell_value, IsBelow, site_outcome, site_value, SiteAt, sites, Source, source_in, source_value, sources, version_count, version_kinds}
use Rattle.graph_numbers.proofs.Closing.{columns_below, FitsVersion, site_fits}
use Rattle.graph_numbers.proofs.Covering.{number_value, site_is, version_value}
use Rattle.rdf_values.proofs.KeptLemmas.{In, here, there, each_at}

-- ---- lists

kept_or_not : {A : Type 0} (x y : A) (xs ys : List A) (b : Bool) → In x (if b then y ∷ ys else ys) → (In x ys → In x xs) → In x (y ∷ xs)
kept_or_not x y xs ys true here next = here
kept_or_not x y xs ys true (there k) next = there (next k)
kept_or_not x y xs ys false k next = there (next k)

of_filter : {A : Type 0} {x : A} (p : A → Bool) (xs : List A) → In x (filter p xs) → In x xs
of_filter p [] h = h
of_filter {x = x} p (y ∷ xs) h = kept_or_not x y xs (filter p xs) (p y) h (of_filter p xs)

of_distinct : {n : ℕ} (xs : List ℕ) → In n (distinct xs) → In n xs
of_distinct [] h = h
of_distinct (x ∷ xs) here = here
of_distinct (x ∷ xs) (there k) = there (of_distinct xs (of_filter (λ y. not (nat_eq x y)) (distinct xs) k))

pub in_map : {A B : Type 0} (f : A → B) {x : A} (xs : List A) → In x xs → In (f x) (map f xs)
in_map f xs (here {xs = ys}) = here
in_map f xs (there {xs = ys} h) = there (in_map f ys h)

pub at_all : {A : Type 0} (P : A → Type 0) (x : A) (xs : List A) → AllByRecursion P xs → In x xs → P x
at_all P x xs h (here {xs = ys}) = h.0
at_all P x xs h (there {xs = ys} k) = at_all P x ys h.1 k

-- ---- a site's columns

module _ (d : Dataset) (row : List Value) (u : Under) (before : List Statement) where
  abbrev pub Accepted : Type 0
  Accepted = AreAccepted (fn_names d.fns) (scope_of d.columns) before

  abbrev pub number : {M : Type 0} → ℕ → Outcome M Value
  number {M} s = number_value M d.fns d.columns row u before s

  abbrev pub version : {M : Type 0} → ℕ → Outcome M Value
  version {M} c = version_value M d.fns d.columns row u before c

  abbrev source : ℕ → Source
  source c = source_in (sources d.columns (fn_names d.fns) u before) c

  pub number_known : (s : ℕ) → number {M = ℕ} s ≡ with_needs (number s)
  number_known s = go (slice_get (sites d.columns (fn_names d.fns) before) s)
    where
      go : (o : Option SiteAt) → site_value {M = ℕ} (λ x. site_outcome d.fns d.columns row x u) o ≡ with_needs (site_value (λ x. site_outcome d.fns d.columns row x u) o)
      go None = refl
      go (Some x) = alike_is _ _ (site_alike ⊥ ℕ d.fns d.columns row x.at u x.expr)

  pub tag_known : (v : Value) (k tags : ℕ) → tag_element {M = ℕ} tags k v ≡ with_needs (tag_element tags k v)
  tag_known v k tags = alike_is _ _ (tag_alike ⊥ ℕ d.fns d.columns row tags k v)

  bind_known : (o : Outcome ⊥ Value) (k tags : ℕ) → (with_needs {M = ℕ} o >>= tag_element tags k) ≡ with_needs (o >>= tag_element tags k)
  bind_known (Gives v) k tags = tag_known v k tags
  bind_known (Faults kind) k tags = refl
  bind_known (Needs m) k tags = elim m [ ]

  -- nothing is missing of a version
  pub version_known : (c : ℕ) → version {M = ℕ} c ≡ with_needs (version c)
  version_known c = go (source c)
    where
      cell : (o : Option Value) → cell_value {M = ℕ} o ≡ with_needs (cell_value o)
      cell None = refl
      cell (Some v) = refl

      go : (src : Source) → source_value {M = ℕ} row (number {M = ℕ}) src ≡ with_needs (source_value row number src)
      go (Source.Cell col) = cell (slice_get row col)
      go (Source.Site s) = number_known s
      go (Source.Element s k tags) = ap (λ o. o >>= tag_element tags k) (number_known s) ∙ bind_known (number s) k tags

  -- ---- what a site comes to

  pub gives_back : (o : Outcome ⊥ Value) (v : Value) → Gives v ≡ with_needs {M = ℕ} o → Gives v ≡ o
  gives_back (Gives w) v e = let i : v ≡ w = cc e in ap Gives i
  gives_back (Faults k) v e = cc e
  gives_back (Needs m) v e = elim m [ ]

  pub gives_fault : (o : Outcome ⊥ Value) (k : EntryFault) → Faults k ≡ with_needs {M = ℕ} o → Faults k ≡ o
  gives_fault (Gives w) k e = cc e
  gives_fault (Faults l) k e = let i : k ≡ l = cc e in ap Faults i
  gives_fault (Needs m) k e = elim m [ ]

  -- an expression of a site, over what its versions come to
  abbrev pub told : NumTree → Outcome ℕ Value
  told tree = evaluate (λ c. with_needs (version c)) (call_outcome d.fns) tree

  pub told_is : Accepted → (s : ℕ) (x : SiteAt) → slice_get (sites d.columns (fn_names d.fns) before) s ≡ Some x → told x.tree ≡ with_needs (number s)
  told_is good s x its =
      ap (λ (look : ℕ → Outcome ℕ Value). evaluate look (call_outcome d.fns) x.tree) (λ i c. sym (version_known c) i)
      ∙ sym (site_is ℕ d.fns d.columns row u before good s x its) ∙ ap (site_value (λ x. site_outcome d.fns d.columns row x u)) (sym its) ∙ number_known s

  -- the columns of a site's expression
  pub in_tree : (g : FunctionNames) (e : CheckedExpr) → IsWellTyped g e → (c : ℕ) → In c (map (λ (k : ℕ × ColType). k.0) e.kinds) → In c (columns_in e.tree)
  in_tree g e typed c k = of_distinct (columns_in e.tree) (subst (In c) typed.columns k)

  module _ (good : Accepted) (s : ℕ) (x : SiteAt) (its : slice_get (sites d.columns (fn_names d.fns) before) s ≡ Some x) where
    pub reads_below : (c : ℕ) → In c (columns_in x.tree) → (c < version_count d.columns before) × IsBelow (length d.columns) s (source c)
    reads_below c k = each_at (λ c. (c < version_count d.columns before) × IsBelow (length d.columns) s (source c)) x.tree (columns_below d.fns d.columns u before good s x its) c k

    pub reads_fit : FitsRow d.columns row → (c : ℕ) (t : ColType) → In c (columns_in x.tree) → slice_get (version_kinds d.columns (fn_names d.fns) before) c ≡ Some t → FitsOutcome t (with_needs {M = ℕ} (version c))
    reads_fit fits c t k is =
        let f = each_at (FitsVersion d row u fits before) x.tree (site_fits d row u fits before good s x its) c k in
        let same : t ≡ f.0 = (let a : ◌≡◌ {A = Option ColType} (Some t) (Some f.0) = sym is ∙ f.1 in cc a) in
        subst (λ (v : ColType). FitsOutcome v (with_needs {M = ℕ} (version c))) (sym same) (subst (λ (o : Outcome ℕ Value). FitsOutcome f.0 o) (version_known c) f.2)
