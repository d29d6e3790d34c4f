-- One evaluation of a site over what is held: its outcome, or a version that it meets and of whose site nothing is held.
use Rattle.lemmas.proofs.{◌≡◌, ◌≢◌, ◌⊎◌, inl, inr, ℕ, ◌<◌, Bool, true, false, List, [], length, Option, Some, refl, sym, ◌∙◌, ap, subst, arith, nat_eq, slice_get, if◌then◌else◌, zero, suc, ◌||◌, ◌∷◌, map, option_map, unwrap_or, ◌+◌, ◌++◌, get_or, flat_map, All, Decides-eqb, slice_get_within, All-from_recursion, AllByRecursion, length_push, list_any, or_right, slice_get-get_or, slice_get-map}
use Rattle.rdf_values.specs.{AreAccepted, EachColumn, fn_names, history, scope_of, Value, ColType, columns_in}
use Rattle.rdf_model.specs.{◌>>=◌, call_outcome, evaluate, is_need, Needs, Outcome, tag_element, with_needs, without}
use Rattle.rdf_model.proofs.Accepted.{verdict_is_the_first_refusal}
use Rattle.graph_numbers.specs.{graph_sites, graph_under, IsBelow, site_outcome, site_value, SiteAt, Source, source_value, version_count}
use Rattle.graph_numbers.proofs.Placing.{versions_count, by_test, joined, only_at}
use Rattle.rdf_model.proofs.Typing.{each_weaker}
use Rattle.rdf_model.proofs.Missing.{site_alike, alike_is}
use Rattle.loop_keys.specs.{Held, held_in, held_or_need, is_held, IsJob, IsMissing, IsMissingSource, IsRight, IsSound, job_graph, JobView, key, look_at, looked_source, MeetsAt, row_of, site_in, source_at, version_in, AreEach}
use Rattle.expr_check.specs.{CheckedExpr, distinct}
use Rattle.expr_check.proofs.Typed.{each_distinct}
use Rattle.rdf_values.proofs.KeptLemmas.{In, here, there, in_left, in_right, each_at}
use Rattle.rdf_model.proofs.Evaluations as evaluations
use Rattle.graph_numbers.proofs.Closing as equations
use Rattle.graph_numbers.proofs.Covering.{site_is}

pub accepted_of : (j : JobView) → IsJob j → AreAccepted (fn_names j.dataset.fns) (scope_of j.dataset.columns) (history j.script)
accepted_of j job = (verdict_is_the_first_refusal (fn_names j.dataset.fns) j.dataset.columns j.script).0 job.graph.accepted

pub known_never : (o : Outcome ⊥ Value) → is_need (with_needs {M = ℕ} o) ≡ true → ⊥
known_never o e = grind arith

-- nothing is missing of a site
pub site_known : (j : JobView) (entry : ℕ) (u : Option ℕ) (t : ℕ) → site_in {M = ℕ} j entry u t ≡ with_needs (site_in j entry u t)
site_known j entry u t =
    let alike = λ (x : SiteAt). alike_is _ _ (site_alike ⊥ ℕ j.dataset.fns j.dataset.columns (row_of j entry) x.at (graph_under (job_graph j) u) x.expr) in
    grind (arith, alike)

module _ (j : JobView) (job : IsJob j) (entry : ℕ) (u : Option ℕ) (cells : List Held) (sound : IsSound j entry cells) (s : ℕ) (x : SiteAt) (its : slice_get (graph_sites (job_graph j)) s ≡ Some x) where
  -- a column is told as it is, or is missing
  abbrev pub IsToldOf : ℕ → Type 0
  IsToldOf c = (look_at j entry u cells c ≡ version_in j entry u c) ⊎ ((look_at j entry u cells c ≡ Needs c) × IsMissing j u cells s c)

  -- nothing is held, or what the site comes to
  held_is : {P : Type 0} (t : ℕ) (h : Held) → IsRight (site_in j entry u t) h → (h ≡ Held.Nothing → P) → (((c : ℕ) → held_or_need c h ≡ site_in {M = ℕ} j entry u t) → P) → P
  held_is t h r empty known = grind (arith, site_known)

  within : s < length (graph_sites (job_graph j))
  within = slice_get_within (graph_sites (job_graph j)) s x its

  told_source : (c : ℕ) (src : Source) → IsBelow (length j.dataset.columns) s src
      → (looked_source j entry u cells c src ≡ source_value (row_of j entry) (site_in j entry u) src) ⊎ ((looked_source j entry u cells c src ≡ Needs c) × IsMissingSource j u cells s src)
  told_source c (Source.Cell col) b = inl refl
  told_source c (Source.Site t) b =
      held_is t (held_in cells (key (job_graph j) t u)) (sound.each u t (let w = within in omega (arith, b, w))) (λ e. inr (ap (held_or_need c) e, (b, e))) (λ k. inl (k c))
  told_source c (Source.Element t i tags) b =
      held_is t (held_in cells (key (job_graph j) t u)) (sound.each u t (let w = within in omega (arith, b, w)))
      (λ e. inr (ap (λ h. held_or_need c h >>= tag_element tags i) e, (b, e))) (λ k. inl (ap (λ o. o >>= tag_element tags i) (k c)))

  told_column : (c : ℕ) → (c < version_count j.dataset.columns (history j.script)) × IsBelow (length j.dataset.columns) s (source_at j u c) → IsToldOf c
  told_column c b = grind (arith, told_source, versions_count)

  pub told : EachColumn IsToldOf x.tree
  told =
      each_weaker _ IsToldOf told_column x.tree
      (equations.columns_below j.dataset.fns j.dataset.columns (graph_under (job_graph j) u) (history j.script) (accepted_of j job) s x its)

  -- the site by its versions
  pub whole : evaluate (version_in {M = ℕ} j entry u) (call_outcome j.dataset.fns) x.tree ≡ with_needs (site_in j entry u s)
  whole =
      sym (site_is ℕ j.dataset.fns j.dataset.columns (row_of j entry) (graph_under (job_graph j) u) (history j.script) (accepted_of j job) s x its)
      ∙ ap (site_value (λ x. site_outcome j.dataset.fns j.dataset.columns (row_of j entry) x (graph_under (job_graph j) u))) (sym its) ∙ site_known j entry u s

  abbrev looked : Outcome ℕ Value
  looked = evaluate (look_at j entry u cells) (call_outcome j.dataset.fns) x.tree

  abbrev IsLacking : ℕ → Type 0
  IsLacking c = (look_at j entry u cells c ≡ Needs c) × IsMissing j u cells s c

  close_column : (c : ℕ) → IsToldOf c → evaluations.Close IsLacking (look_at j entry u cells c) (version_in j entry u c)
  close_column c (inl e) = subst (λ (o : Outcome ℕ Value). evaluations.Close IsLacking (look_at j entry u cells c) o) e evaluations.same
  close_column c (inr k) = subst (λ (o : Outcome ℕ Value). evaluations.Close IsLacking o (version_in j entry u c)) (sym k.0) (evaluations.missing k)

  closes : evaluations.Close IsLacking looked (evaluate (version_in {M = ℕ} j entry u) (call_outcome j.dataset.fns) x.tree)
  closes = evaluations.evaluate_close IsLacking (look_at j entry u cells) (version_in j entry u) (call_outcome j.dataset.fns) x.tree (each_weaker IsToldOf _ close_column x.tree told)

  -- what was found is the site's outcome
  pub found_right : (h : Held) → is_held h ≡ true → held_or_need 0 h ≡ looked → IsRight (site_in j entry u s) h
  found_right h k e = go looked (evaluate (version_in {M = ℕ} j entry u) (call_outcome j.dataset.fns) x.tree) closes e whole
    where
      go : (o p : Outcome ℕ Value) → evaluations.Close IsLacking o p → held_or_need 0 h ≡ o → p ≡ with_needs (site_in j entry u s) → IsRight (site_in j entry u s) h
      go o p evaluations.same q r = grind arith
      go o p (evaluations.missing {d = d} n) q r = grind arith

  abbrev number_in : ℕ → Outcome ℕ Value → ℕ
  number_in d (Needs c) = c
  number_in d o = d

  -- a version that was needed is missing
  pub needed_missing : (c : ℕ) → Needs c ≡ looked → IsLacking c
  needed_missing c e = go looked (evaluate (version_in {M = ℕ} j entry u) (call_outcome j.dataset.fns) x.tree) closes e whole
    where
      go : (o p : Outcome ℕ Value) → evaluations.Close IsLacking o p → Needs c ≡ o → p ≡ with_needs (site_in j entry u s) → IsLacking c
      go o p evaluations.same q r = absurd (known_never (site_in j entry u s) (ap is_need (sym (q ∙ r))))
      go o p (evaluations.missing {d = d} n) q r = let i : d ≡ c = ap (number_in c) (sym q) in subst IsLacking i n

  -- and the evaluation meets it
  pub needed_met : (c : ℕ) → Needs c ≡ looked → MeetsAt j entry u s c
  needed_met c e = (
    x,
    its,
    go looked (evaluate (without nat_eq c (version_in {M = ℕ} j entry u)) (call_outcome j.dataset.fns) x.tree) e
        (evaluations.evaluate_close (λ d. d ≢ c) (look_at j entry u cells) (without nat_eq c (version_in {M = ℕ} j entry u)) (call_outcome j.dataset.fns) x.tree (each_weaker IsToldOf _ (λ d k. alone d k (nat_eq c d) refl) x.tree told)),
  )
    where
      lacking : look_at j entry u cells c ≡ Needs c
      lacking = (needed_missing c e).0

      alone : (d : ℕ) → IsToldOf d → (b : Bool) → nat_eq c d ≡ b → evaluations.Close {M = ℕ} {A = Value} (λ d. d ≢ c) (look_at j entry u cells d) (if b then Needs c else version_in {M = ℕ} j entry u d)
      alone d k true p =
          let i : c ≡ d = (Decides-eqb c d).0 p in
          subst (λ (o : Outcome ℕ Value). evaluations.Close {M = ℕ} {A = Value} (λ d. d ≢ c) o (Needs c)) (sym (ap (look_at j entry u cells) (sym i) ∙ lacking)) evaluations.same
      alone d (inl q) false p = subst (λ (o : Outcome ℕ Value). evaluations.Close {M = ℕ} {A = Value} (λ d. d ≢ c) (look_at j entry u cells d) o) q evaluations.same
      alone d (inr q) false p =
          subst (λ (o : Outcome ℕ Value). evaluations.Close {M = ℕ} {A = Value} (λ d. d ≢ c) o (version_in {M = ℕ} j entry u d)) (sym q.0)
          (evaluations.missing (λ i. cc (sym p ∙ (Decides-eqb c d).1 (sym i))))

      go : (o p : Outcome ℕ Value) → Needs c ≡ o → evaluations.Close (λ d. d ≢ c) o p → is_need p ≡ true
      go o p q h = grind arith

-- ---- where nothing is held

pub none_held : (j : JobView) (entry : ℕ) → IsSound j entry []
none_held j entry = record { each = λ w s lt. tt }

-- what holds of each column of an expression holds of each that its evaluation meets
pub met_each : (j : JobView) (job : IsJob j) (entry : ℕ) (u : Option ℕ) (s c : ℕ) (P : ℕ → Type 0) (met : MeetsAt j entry u s c) → EachColumn P met.0.tree → P c
met_each j job entry u s c P met each =
    go _ _ (evaluations.evaluate_close N (without nat_eq c (version_in j entry u)) (version_in j entry u) (call_outcome j.dataset.fns) met.0.tree
    (each_weaker P _ (λ d v. alone d v (nat_eq c d) refl) met.0.tree each)) met.2 (whole j job entry u [] (none_held j entry) s met.0 met.1)
  where
    N : ℕ → Type 0
    N m = P c

    alone : (d : ℕ) → P d → (b : Bool) → nat_eq c d ≡ b → evaluations.Close {M = ℕ} {A = Value} N (if b then Needs c else version_in {M = ℕ} j entry u d) (version_in {M = ℕ} j entry u d)
    alone d v true e = evaluations.missing (subst P (sym ((Decides-eqb c d).0 e)) v)
    alone d v false e = evaluations.same

    go : (o p : Outcome ℕ Value) → evaluations.Close N o p → is_need o ≡ true → p ≡ with_needs (site_in j entry u s) → P c
    go o p h m w = grind (arith, known_never)

-- ---- what stands in a list, and tests and facts of its elements; and from what an answer comes

pub any_in : {A : Type 0} (test : A → Bool) (xs : List A) → list_any test xs ≡ true → (x : A) × In x xs × (test x ≡ true)
any_in test [] h = cc h
any_in test (x ∷ xs) h = by_test (test x) (λ e. (x, here, e)) (λ e. let w = any_in test xs (rw e at h) in (w.0, there w.1, w.2))

pub in_any : {A : Type 0} (test : A → Bool) (x : A) (xs : List A) → In x xs → test x ≡ true → list_any test xs ≡ true
in_any test x xs (here {xs = ys}) e = ap (λ b. b || list_any test ys) e
in_any test x xs (there {y = y} {xs = ys} h) e = or_right (test y) (list_any test ys) (in_any test x ys h e)

pub each_in : {A : Type 0} (P : A → Type 0) (xs : List A) → ((x : A) → In x xs → P x) → AllByRecursion P xs
each_in P [] h = tt
each_in P (x ∷ xs) h = (h x here, each_in P xs (λ y k. h y (there k)))

pub at_in : {A : Type 0} (P : A → Type 0) (x : A) (xs : List A) → AllByRecursion P xs → In x xs → P x
at_in P x xs h (here {xs = ys}) = h.0
at_in P x xs h (there {xs = ys} k) = at_in P x ys h.1 k

each_first : (P : ℕ → Type 0) (ks : List (ℕ × ColType)) → AllByRecursion P (map (λ (c : ℕ × ColType). c.0) ks) → AllByRecursion (λ (c : ℕ × ColType). P c.0) ks
each_first P [] h = tt
each_first P (c ∷ ks) h = (h.0, each_first P ks h.1)

-- what holds of each column of an expression holds of each whose kind it lists
pub each_kind : (P : ℕ → Type 0) (e : CheckedExpr) → map (λ (c : ℕ × ColType). c.0) e.kinds ≡ distinct (columns_in e.tree) → EachColumn P e.tree → All (λ (c : ℕ × ColType). P c.0) e.kinds
each_kind P e are h =
    All-from_recursion (λ (c : ℕ × ColType). P c.0) e.kinds
    (each_first P e.kinds (subst (AllByRecursion P) (sym are) (each_distinct P (columns_in e.tree) (each_in P (columns_in e.tree) (each_at P e.tree h)))))

pub in_flat : {A B : Type 0} (f : A → List B) (xs : List A) (n : ℕ) (x : A) (y : B) → slice_get xs n ≡ Some x → In y (f x) → In y (flat_map f xs)
in_flat f [] n x y h k = cc h
in_flat f (z ∷ xs) zero x y h k = let e : z ≡ x = cc h in in_left (f z) (flat_map f xs) (subst (λ (w : _). In y (f w)) (sym e) k)
in_flat f (z ∷ xs) (suc n) x y h k = in_right (f z) (flat_map f xs) (in_flat f xs n x y h k)

pub of_chosen : {A : Type 0} (o : Option (List A)) (n : ℕ) (x : A) → slice_get (unwrap_or o []) n ≡ Some x → (xs : List A) × (o ≡ Some xs) × (slice_get xs n ≡ Some x)
of_chosen o n x h = grind arith

pub of_option : {A B : Type 0} (f : A → B) (o : Option A) (y : B) → option_map f o ≡ Some y → (x : A) × (o ≡ Some x) × (f x ≡ y)
of_option f o y h = grind arith

pub of_mapped : {A B : Type 0} (f : A → B) (xs : List A) (n : ℕ) (y : B) → slice_get (map f xs) n ≡ Some y → (x : A) × (slice_get xs n ≡ Some x) × (f x ≡ y)
of_mapped f xs n y h = of_option f (slice_get xs n) y (sym (slice_get-map f xs n) ∙ h)

-- ---- lists that are right at each place

module _ {A : Type 0} (P : ℕ → A → Type 0) where
  pub none_each : AreEach P 0 []
  none_each = record { many = refl; each = λ i x h. cc h }

  module _ (n : ℕ) (xs : List A) (all : AreEach P n xs) where
    -- one more
    pub more_each : (x : A) (ys : List A) → P n x → ys ≡ xs ++ x ∷ [] → AreEach P (n + 1) ys
    more_each x ys h is = subst (AreEach P (n + 1)) (sym is) record {
      many = (let e = length_push xs x in let m = all.many in omega (arith, e, m));
      each = λ i y q. joined xs (x ∷ []) i y q (all.each i y) (λ k e r. let b : n ≡ i = grind (arith, all.many) in subst (λ (m : ℕ). P m y) b (subst (P n) (only_at x y k r) h));
    }

    -- the element at a place
    pub read_each : (i : ℕ) (d : A) → i < n → P i (get_or xs i d)
    read_each i d lt = all.each i (get_or xs i d) (slice_get-get_or xs i d (let m = all.many in omega (arith, m, lt)))
