-- What is evaluated of a site, where all that it reads is known.
use Rattle.lemmas.proofs.{◌≡◌, ℕ, zero, suc, ◌<◌, List, [], ◌∷◌, map, length, Option, Some, None, Ok, Err, refl, sym, ◌∙◌, ap, subst, arith, option_map, slice_get, unwrap_or, All, All-from_recursion, AllByRecursion, recursion_from_All, slice_get_within}
use Rattle.rdf_values.specs.{ColType, Column, columns_in, EntryFault, FitRows, FitsRow, fn_names, NumTree, Scalar, Value}
use Rattle.rdf_model.specs.{call_outcome, Dataset, evaluate, Faults, FitsOutcome, Gives, Needs, Outcome, with_needs}
use Rattle.expr_check.specs.{CheckedExpr}
use Rattle.expr_eval.specs.{EvalStop, scalar_outcome, scalar_value, ScalarStop, StopsAs}
use Rattle.graph_numbers.specs.{booked_statements, graph_kinds, graph_sites, graph_versions, IsBelow, IsSiteExpr, SiteAt, Source}
use Rattle.graph_numbers.proofs.Placing.{versions_count}
use Rattle.rdf_values.proofs.KeptLemmas.{In, here, there}
use Rattle.snapshot_plan.specs.{PlanView}
use Rattle.snapshot_entries.specs.{AreHeld, AreKnown, IsReadable, IsSourceHeld, IsWork, plan_graph, row_in, site_in, site_total, source_of, version_in}
use Rattle.snapshot_entries.specs.declared.known.Known.{Known}
use Rattle.snapshot_entries.proofs.Sites.{at_all, in_map, in_tree, reads_below, reads_fit, told_is}
use Rattle.snapshot_entries.proofs.Told.{accepted_of}

all_in : {A : Type 0} (P : A → Type 0) (xs : List A) → ((x : A) → In x xs → P x) → AllByRecursion P xs
all_in P [] h = tt
all_in P (x ∷ xs) h = (h x here, all_in P xs (λ y k. h y (there k)))

fits_at : (cs : List Column) (rows : List (List Value)) (e : ℕ) → FitRows cs rows → e < length rows → FitsRow cs (unwrap_or (slice_get rows e) [])
fits_at cs [] e h lt = absurd (omega (arith, lt))
fits_at cs (r ∷ rows) zero h lt = h.0
fits_at cs (r ∷ rows) (suc e) h lt = fits_at cs rows e h.1 (omega (arith, lt))

module _ (p : PlanView) (d : Dataset) (work : IsWork p d) where
  pub row_fits : (e : ℕ) → e < length d.rows → FitsRow d.columns (row_in d.rows e)
  row_fits e lt = fits_at d.columns d.rows e work.table.fit lt

  module _ (s : ℕ) (expr : CheckedExpr) (its : IsSiteExpr (plan_graph p d) s expr) where
    site_there : (x : SiteAt) × (slice_get (graph_sites (plan_graph p d)) s ≡ Some x) × (x.tree ≡ expr.tree)
    site_there = go (slice_get (graph_sites (plan_graph p d)) s) refl its.tree
      where
        go : (o : Option SiteAt) → slice_get (graph_sites (plan_graph p d)) s ≡ o → option_map (λ (x : SiteAt). x.tree) o ≡ Some expr.tree → (x : SiteAt) × (slice_get (graph_sites (plan_graph p d)) s ≡ Some x) × (x.tree ≡ expr.tree)
        go None q h = cc h
        go (Some x) q h = (x, q, cc h)

    read_in : (c : ℕ) → In c (map (λ (k : ℕ × ColType). k.0) expr.kinds) → In c (columns_in site_there.0.tree)
    read_in c k = subst (λ (t : NumTree). In c (columns_in t)) (sym site_there.2) (in_tree d (row_in d.rows 0) p.under (booked_statements p.graph) (fn_names d.fns) expr its.typed c k)

    -- what a site reads has a lower number
    pub below : (c : ℕ) → In c (map (λ (k : ℕ × ColType). k.0) expr.kinds) → (c < length (graph_versions (plan_graph p d))) × IsBelow (length d.columns) s (source_of p d c)
    below c k =
        let h = reads_below d (row_in d.rows 0) p.under (booked_statements p.graph) (accepted_of p d work) s site_there.0 site_there.1 c (read_in c k) in
        (subst (λ (n : ℕ). c < n) (sym (versions_count d.columns (fn_names d.fns) (booked_statements p.graph))) h.0, h.1)

    within : s < site_total p d
    within = slice_get_within (graph_sites (plan_graph p d)) s site_there.0 site_there.1

    further : (src : Source) → IsBelow (length d.columns) s src → IsBelow (length d.columns) (site_total p d) src
    further (Source.Cell col) h = h
    further (Source.Site i) h = let lt = within in omega (arith, h, lt)
    further (Source.Element i k tags) h = let lt = within in omega (arith, h, lt)

    pub readable : (c : ℕ) → In c (map (λ (k : ℕ × ColType). k.0) expr.kinds) → IsReadable p d c
    readable c k = let h = below c k in (h.0, further (source_of p d c) h.1)

    module _ (e : ℕ) (lt : e < length d.rows) (cells : List Known) (known : AreKnown p d cells) (held : AreHeld p d cells e (map (λ (k : ℕ × ColType). k.0) expr.kinds)) where
      abbrev pub CanAsk : ℕ × ColType → Type 0
      CanAsk c = IsWork p d × (e < length d.rows) × AreKnown p d cells × IsReadable p d c.0 × IsSourceHeld cells e (source_of p d c.0)

      pub can_ask : All CanAsk expr.kinds
      can_ask = All-from_recursion CanAsk expr.kinds
          (all_in CanAsk expr.kinds (λ c k. (work, lt, known, readable c.0 (in_map (λ (k : ℕ × ColType). k.0) expr.kinds k), at_all (λ c. IsSourceHeld cells e (source_of p d c)) c.0 (map (λ (k : ℕ × ColType). k.0) expr.kinds) held (in_map (λ (k : ℕ × ColType). k.0) expr.kinds k))))

      abbrev pub Fits : ℕ × ColType → Type 0
      Fits c = FitsOutcome {M = ℕ} c.1 (with_needs (version_in p d e c.0))

      kinds : AllByRecursion (λ (c : ℕ × ColType). slice_get (graph_kinds (plan_graph p d)) c.0 ≡ Some c.1) expr.kinds
      kinds = recursion_from_All (λ (c : ℕ × ColType). slice_get (graph_kinds (plan_graph p d)) c.0 ≡ Some c.1) expr.kinds its.kinds

      pub all_fit : All Fits expr.kinds
      all_fit = All-from_recursion Fits expr.kinds
          (all_in Fits expr.kinds (λ c k. reads_fit d (row_in d.rows e) p.under (booked_statements p.graph) (accepted_of p d work) s site_there.0 site_there.1 (row_fits e lt) c.0 c.1
          (read_in c.0 (in_map (λ (k : ℕ × ColType). k.0) expr.kinds k)) (at_all (λ (c : ℕ × ColType). slice_get (graph_kinds (plan_graph p d)) c.0 ≡ Some c.1) c expr.kinds kinds k)))

    -- the expression comes to what the site does
    pub told_whole : (e : ℕ) → evaluate (λ c. with_needs {M = ℕ} (version_in p d e c)) (call_outcome d.fns) expr.tree ≡ with_needs (site_in p d e s)
    told_whole e =
        ap (λ (t : NumTree). evaluate (λ c. with_needs {M = ℕ} (version_in p d e c)) (call_outcome d.fns) t) (sym site_there.2)
        ∙ told_is d (row_in d.rows e) p.under (booked_statements p.graph) (accepted_of p d work) s site_there.0 site_there.1

-- ---- answers of an evaluation

module _ (o : Outcome ⊥ Value) (all : Outcome ℕ Value) (whole : all ≡ with_needs o) where
  back : (v : Value) → Gives v ≡ with_needs {M = ℕ} o → Gives v ≡ o
  back v h = go o h
    where
      go : (x : Outcome ⊥ Value) → Gives v ≡ with_needs {M = ℕ} x → Gives v ≡ x
      go (Gives w) e = let i : v ≡ w = cc e in ap Gives i
      go (Faults k) e = cc e
      go (Needs m) e = elim m [ ]

  fault_back : (k : EntryFault) → Faults k ≡ with_needs {M = ℕ} o → Faults k ≡ o
  fault_back k h = go o h
    where
      go : (x : Outcome ⊥ Value) → Faults k ≡ with_needs {M = ℕ} x → Faults k ≡ x
      go (Gives w) e = cc e
      go (Faults l) e = let i : k ≡ l = cc e in ap Faults i
      go (Needs m) e = elim m [ ]

  never : (c : ℕ) → Needs c ≡ with_needs {M = ℕ} o → ⊥
  never c h = go o h
    where
      go : (x : Outcome ⊥ Value) → Needs c ≡ with_needs {M = ℕ} x → ⊥
      go (Gives w) e = cc e
      go (Faults l) e = cc e
      go (Needs m) e = elim m [ ]

  pub scalar_given : (s : Scalar) (v : Value) → v ≡ scalar_value s → scalar_outcome (Ok s) ≡ all → Gives v ≡ o
  scalar_given s v is h = back v (ap Gives is ∙ h ∙ whole)

  pub scalar_faulted : (stop : ScalarStop) (k : EntryFault) → stop ≡ ScalarStop.Fault k → scalar_outcome (Err stop) ≡ all → Faults k ≡ o
  scalar_faulted stop k is h = fault_back k (ap (λ (x : ScalarStop). scalar_outcome (Err x)) (sym is) ∙ h ∙ whole)

  pub scalar_never : (stop : ScalarStop) (c : ℕ) → stop ≡ ScalarStop.Need c → scalar_outcome (Err stop) ≡ all → ⊥
  scalar_never stop c is h = never c (ap (λ (x : ScalarStop). scalar_outcome (Err x)) (sym is) ∙ h ∙ whole)

  pub value_given : (v : Value) → all ≡ Gives v → Gives v ≡ o
  value_given v h = back v (sym h ∙ whole)

  pub value_faulted : (stop : EvalStop) (k : EntryFault) → stop ≡ EvalStop.Fault k → StopsAs all stop → Faults k ≡ o
  value_faulted stop k is h = fault_back k (sym (subst (StopsAs all) is h) ∙ whole)

  pub value_never : (stop : EvalStop) (c : ℕ) → stop ≡ EvalStop.Need c → StopsAs all stop → ⊥
  value_never stop c is h = never c (sym (subst (StopsAs all) is h) ∙ whole)
