-- What an action tries and reads, of which kinds, and that these suit it.
use Rattle.lemmas.proofs.{◌≡◌, ℕ, zero, suc, ◌<◌, List, [], ◌∷◌, length, Option, Some, subst, arith, slice_get, unwrap_or, get_or, ◌≤◌, map, sym, ◌∙◌, ap, length-append, true, Bool, false, ◌&&◌, not, refl, nat_eq, ◌+◌, ◌||◌, take, option_map, slice_get_within, AllByRecursion, length-map, both_true, recursion_from_All, list_any, list_any_at, list_any_more, slice_get-get_or, take_all}
use Rattle.rdf_values.specs.{ColType, Column, EachColumn, FitRows, FitsRow, history, Value, ActionAt, ActionKind, AreAccepted, Booking, columns_of, fn_names, path, ReportOn, scope_of, Statement, Under, may_begin, AreColumns, IsStored, Bin, Call, Callee, Col, Cond, EachArgument, End, Lit, More, Neg, Not, NumTree, Pick, Trees}
use Rattle.rdf_model.specs.{FitsOutcome, Dataset, FitsFeed, for_all, Gives, FitKinds}
use Rattle.expr_check.specs.{CheckedExpr, all_are_plain, gives_vector, is_plain, number_kind, takes_no_vector}
use Rattle.graph_numbers.specs.{graph_kinds, graph_sites, graph_under, IsBelow, IsSiteExpr, SiteAt, Source, version_count, filter_sites, own_sites, ResultAt, results, site_count, sites, source_in, sources, version_at, versions, graph_results, GraphView, Pass as NumberedPass}
use Rattle.graph_numbers.proofs.Closing.{columns_below, below_of, each_both, FitsVersion, site_fits}
use Rattle.graph_numbers.proofs.Placing.{versions_count, Extends, further, itself, shorter, filter_sites_below, further_below, each_result, by_test}
use Rattle.loop_keys.proofs.EvaluateLaws.{each_kind, of_option, accepted_of, told, IsToldOf, met_each}
use Rattle.rdf_model.proofs.Typing.{each_weaker}
use Rattle.loop_keys.specs.{CanEvaluate, CanLook, Held, IsJob, IsReadable, IsSound, job_graph, JobView, look_at, row_of, source_at, AreReadable, CanAct, IsActionAt, version_in, ArePlain, is_vector_at, IsClosed, IsPlainVersion, IsSourceIn, covers_of, is_covering, numbered_passes}
use Rattle.std.specs.Prelude.{⊤}
use Rattle.rdf_values.specs.declared.scripts.statement.Statement.TheVariants.{Action}
use Rattle.graph_numbers.proofs.Covering.{AreVisible, action_visible, values_are, column_source, version_value}
use Rattle.rdf_model.proofs.Accepted.{action_values_fit}
use Rattle.actions.specs.{AreAlike, IsInteger, IsNumeric, IsSingle, WeightSuits}
use Rattle.rdf_values.proofs.KeptLemmas.{stored_at}
use Rattle.rdf_values.specs.expressions.Expressions.{Truth}
use Rattle.loop_keys.proofs.PassNumbers.{result_inside}

-- ---- the columns of a site can be asked for, and come to values of their kinds

pub fits_at : (cs : List Column) (rows : List (List Value)) (e : ℕ) → FitRows cs rows → e < length rows → FitsRow cs (unwrap_or (slice_get rows e) [])
fits_at cs [] e h lt = absurd (omega (arith, lt))
fits_at cs (r ∷ rows) zero h lt = h.0
fits_at cs (r ∷ rows) (suc e) h lt = fits_at cs rows e h.1 (omega (arith, lt))

module _ (j : JobView) (job : IsJob j) (entry : ℕ) (u : Option ℕ) (cells : List Held) (can : CanLook j entry cells) (sound : IsSound j entry cells) (s : ℕ) (e : CheckedExpr) (its : IsSiteExpr (job_graph j) s e) where
  told_fits : (x : SiteAt) (at : slice_get (graph_sites (job_graph j)) s ≡ Some x) (c : ℕ) (t : ColType) → slice_get (graph_kinds (job_graph j)) c ≡ Some t
      → IsToldOf j job entry u cells sound s x at c → FitsVersion j.dataset (row_of j entry) (graph_under (job_graph j) u) (fits_at j.dataset.columns j.dataset.rows entry job.table.fit can.within) (history j.script) c
      → FitsOutcome t (look_at j entry u cells c)
  told_fits x at c t k h f = grind arith

  column_below : (src : Source) → IsBelow (length j.dataset.columns) s src → IsBelow (length j.dataset.columns) (length (graph_sites (job_graph j))) src
  column_below src h = grind (arith, slice_get_within)

  readable : (c : ℕ) → (c < version_count j.dataset.columns (history j.script)) × IsBelow (length j.dataset.columns) s (source_at j u c) → IsReadable j u c
  readable c h = grind (arith, versions_count, column_below)

  abbrev FitsKinds : ℕ → Type 0
  FitsKinds c = (k : ColType) → slice_get (graph_kinds (job_graph j)) c ≡ Some k → FitsOutcome k (look_at j entry u cells c)

  pub can_evaluate : CanEvaluate j entry u cells e
  can_evaluate =
      let x = of_option (λ (x : SiteAt). x.tree) (slice_get (graph_sites (job_graph j)) s) e.tree its.tree in
      let row = fits_at j.dataset.columns j.dataset.rows entry job.table.fit can.within in
      let under = graph_under (job_graph j) u in
      let fits = each_both (IsToldOf j job entry u cells sound s x.0 x.1) (FitsVersion j.dataset (row_of j entry) under row (history j.script)) FitsKinds
      (λ c a b k w. told_fits x.0 x.1 c k w a b) x.0.tree (told j job entry u cells sound s x.0 x.1)
      (site_fits j.dataset (row_of j entry) under row (history j.script) (accepted_of j job) s x.0 x.1) in
      let reads = each_weaker _ (IsReadable j u) readable x.0.tree (columns_below j.dataset.fns j.dataset.columns under (history j.script) (accepted_of j job) s x.0 x.1) in
      record {
        can = each_kind (IsReadable j u) e its.typed.columns (subst (EachColumn (IsReadable j u)) x.2 reads);
        fit = λ i d low. each_kind FitsKinds e its.typed.columns (subst (EachColumn FitsKinds) x.2 fits) i d low (get_or e.kinds i d).1 (its.kinds i d low);
      }

module _ (d : Dataset) (u : Under) (before : List Statement) where
  -- the version is there, and is given by a column of the table or by a site
  abbrev IsGivenBelow : ℕ → Type 0
  IsGivenBelow c =
      (c < length (versions d.columns (fn_names d.fns) before)) × IsBelow (length d.columns) (site_count d.columns (fn_names d.fns) before) (source_in (sources d.columns (fn_names d.fns) u before) c)

  -- an action with these sites and versions
  pub record IsSoundAction (r : ResultAt) (k : ActionKind) : Type 0 where
    pub filters : AllByRecursion (λ (s : ℕ). s < site_count d.columns (fn_names d.fns) before) r.filters
    pub inputs : AllByRecursion IsGivenBelow r.inputs
    pub count : length r.inputs ≡ length (columns_of k)
    pub fits : (row : List Value) → FitsRow d.columns row → (vs : List Value) → for_all (version_value ⊥ d.fns d.columns row u before) r.inputs ≡ Gives vs → FitsFeed k vs

  abbrev pub IsSoundBooking : ResultAt → Booking → Type 0
  IsSoundBooking r (ActionAt k at) = IsSoundAction r k
  IsSoundBooking r (ReportOn filters) = ⊤

  more_sites : (earlier : List Statement) → Extends earlier before → site_count d.columns (fn_names d.fns) earlier ≤ site_count d.columns (fn_names d.fns) before
  more_sites earlier e = go before e
    where
      go : (after : List Statement) → Extends earlier after → site_count d.columns (fn_names d.fns) earlier ≤ site_count d.columns (fn_names d.fns) after
      go after itself = omega arith
      go after (further {after = b} s e) =
          omega (arith, go b e, length-append (sites d.columns (fn_names d.fns) b) (own_sites d.columns (fn_names d.fns) b s))

  inputs_below : (earlier : List Statement) → AreAccepted (fn_names d.fns) (scope_of d.columns) earlier → Extends earlier before → (node : List ℕ) (cs : List (List ℕ))
      → AreVisible ⊥ d.fns d.columns [] u before earlier node cs → AllByRecursion IsGivenBelow (map (version_at d.columns earlier node) cs)
  inputs_below earlier ok e node [] v = tt
  inputs_below earlier ok e node (c ∷ cs) v =
      let h = below_of d.fns d.columns u before earlier e (site_count d.columns (fn_names d.fns) before) (version_at d.columns earlier node c) (more_sites earlier e) _ (column_source ⊥ d.fns d.columns [] u earlier ok node c v.0.0 v.0.1) in
      ((omega (arith, h.0, versions_count d.columns (fn_names d.fns) before), h.1), inputs_below earlier ok e node cs v.1)

  action_sound : (earlier : List Statement) (result parent : List ℕ) (k : ActionKind) → AreAccepted (fn_names d.fns) (scope_of d.columns) (Action result parent k ∷ earlier) → Extends earlier before
      → IsSoundAction
      (record {
        booked = record { name = result; booking = ActionAt k (path earlier parent) };
        filters = filter_sites d.columns (fn_names d.fns) earlier parent;
        inputs = map (version_at d.columns earlier parent) (columns_of k);
        covers = [];
      })
      k
  action_sound earlier result parent k good e = record {
    filters = further_below _ _ (filter_sites d.columns (fn_names d.fns) earlier parent) (more_sites earlier e) (filter_sites_below d.columns (fn_names d.fns) earlier parent);
    inputs = inputs_below earlier good.1 e parent (columns_of k) (action_visible ⊥ d.fns d.columns [] u before earlier result parent k good);
    count = length-map (columns_of k) (version_at d.columns earlier parent);
    fits = λ row fits vs given.
        action_values_fit d row earlier result parent k u vs good fits
        (values_are ⊥ d.fns d.columns row u before earlier good.1 e parent (columns_of k) (action_visible ⊥ d.fns d.columns row u before earlier result parent k good) ∙ given);
  }

  pub result_sound : (earlier : List Statement) → AreAccepted (fn_names d.fns) (scope_of d.columns) earlier → Extends earlier before
      → (n : ℕ) (r : ResultAt) → slice_get (results d.columns (fn_names d.fns) earlier) n ≡ Some r → IsSoundBooking r r.booked.booking
  result_sound earlier good e n r h =
      each_result d.columns (fn_names d.fns) (λ upto r. AreAccepted (fn_names d.fns) (scope_of d.columns) upto → Extends upto before → IsSoundBooking r r.booked.booking)
      (λ upto s r next fine f. next fine.1 (shorter s upto before f))
      (λ upto result parent k fine f. action_sound upto result parent k fine (shorter (Action result parent k) upto before f)) (λ upto result parent fine f. tt) earlier n r h good e

-- the action of a loop's pass can be tried
pub can_act : (j : JobView) (job : IsJob j) (entry : ℕ) → entry < length j.dataset.rows → (n : ℕ) (k : ActionKind) (path inputs : List ℕ) → IsActionAt j n k path inputs → (u : Option ℕ) → CanAct j entry u k inputs
can_act j job entry within n k path inputs at u =
    let sound = subst (IsSoundBooking j.dataset (graph_under (job_graph j) u) (history j.script) at.result) at.kind
    (result_sound j.dataset (graph_under (job_graph j) u) (history j.script) (history j.script) (accepted_of j job) itself n at.result at.there_is) in
    record {
      inputs = subst (AreReadable j u) at.inputs sound.inputs;
      count = ap length (sym at.inputs) ∙ sound.count;
      fits = λ vs e. sound.fits (row_of j entry) (fits_at j.dataset.columns j.dataset.rows entry job.table.fit within) vs (ap (for_all (version_in {M = ⊥} j entry u)) at.inputs ∙ e);
    }

-- ---- Values of the kinds that an action takes suit it.

abbrev numeric : List (List ColType)
numeric = (ColType.Int ∷ []) ∷ (ColType.Vect ∷ []) ∷ []

abbrev weighted : List (List ColType)
weighted = (ColType.Int ∷ ColType.Int ∷ []) ∷ (ColType.Vect ∷ ColType.Int ∷ []) ∷ (ColType.Vect ∷ ColType.Vect ∷ []) ∷ []

abbrev pairs : List (List ColType)
pairs = (ColType.Int ∷ ColType.Int ∷ []) ∷ (ColType.Vect ∷ ColType.Vect ∷ []) ∷ []

abbrev triples : List (List ColType)
triples = (ColType.Int ∷ ColType.Int ∷ ColType.Int ∷ []) ∷ (ColType.Vect ∷ ColType.Vect ∷ ColType.Int ∷ []) ∷ (ColType.Vect ∷ ColType.Vect ∷ ColType.Vect ∷ []) ∷ []

-- ---- one value

pub numeric_fits : (ts : List ColType) (v : Value) → may_begin numeric ts ≡ true → FitKinds ts (v ∷ []) → IsNumeric v
numeric_fits (t ∷ []) v m f = grind arith
numeric_fits ts v m f = absurd (first_of (assumption f, cc m))

pub single_fits : (ts : List ColType) (v : Value) → may_begin ((ColType.Int ∷ []) ∷ (ColType.Bool ∷ []) ∷ []) ts ≡ true → FitKinds ts (v ∷ []) → IsSingle v
single_fits (t ∷ []) v m f = grind arith
single_fits ts v m f = absurd (first_of (assumption f, cc m))

pub integer_fits : (ts : List ColType) (v : Value) → may_begin ((ColType.Int ∷ []) ∷ []) ts ≡ true → FitKinds ts (v ∷ []) → IsInteger v
integer_fits (t ∷ []) v m f = grind arith
integer_fits ts v m f = absurd (first_of (assumption f, cc m))

pub weighted_fits : (ts : List ColType) (v w : Value) → may_begin weighted ts ≡ true → FitKinds ts (v ∷ w ∷ []) → IsNumeric v × WeightSuits v w
weighted_fits (s ∷ t ∷ []) v w m f = grind arith
weighted_fits ts v w m f = absurd (first_of (assumption f, cc m))

-- ---- two coordinates

pub pair_fits : (ts : List ColType) (v w : Value) → may_begin pairs ts ≡ true → FitKinds ts (v ∷ w ∷ []) → IsNumeric v × IsNumeric w × AreAlike v w
pair_fits (s ∷ t ∷ []) v w m f = grind arith
pair_fits ts v w m f = absurd (first_of (assumption f, cc m))

pub triple_fits : (ts : List ColType) (v w x : Value) → may_begin triples ts ≡ true → FitKinds ts (v ∷ w ∷ x ∷ []) → IsNumeric v × IsNumeric w × AreAlike v w × WeightSuits v x
triple_fits (r ∷ s ∷ t ∷ []) v w x m f = grind arith
triple_fits ts v w x m f = absurd (first_of (assumption f, cc m))

-- ---- the columns of a table

-- no column of a table is of truth values
pub not_stored : (cs now : List Column) → now ≡ cs → AreColumns [] cs → (i : ℕ) → i < length cs → (d : Column) → (get_or now i d).kind ≡ ColType.Bool → ⊥
not_stored cs now e h i lt d is = subst IsStored (ap (λ (xs : List Column). (get_or xs i d).kind) (sym e) ∙ is) (stored_at cs [] i d h lt)

pub row_there : (rows : List (List Value)) (entry : ℕ) → entry < length rows → (row : List Value) × (slice_get rows entry ≡ Some row)
row_there rows entry lt = (get_or rows entry [], slice_get-get_or rows entry [] lt)

-- ---- sites without vectors, and the plan of a loop over them

-- the kinds of versions, as an expression lists them
not_vector : (all : List ColType) (ks : List (ℕ × ColType)) (c : ℕ) → AllByRecursion (λ (k : ℕ × ColType). slice_get all k.0 ≡ Some k.1) ks → is_vector_at all c ≡ false → gives_vector (number_kind ks c) ≡ false
not_vector all [] c h e = refl
not_vector all (k ∷ ks) c h e = grind (arith, by_test, not_vector all ks c h.1 e)

module _ (ks : List (ℕ × ColType)) where
  abbrev NoVector : ℕ → Type 0
  NoVector c = gives_vector (number_kind ks c) ≡ false

  mutual
    plain_by : (e : NumTree) → EachColumn NoVector e → is_plain [] e ≡ true → is_plain ks e ≡ true
    plain_by (Lit z) h p = refl
    plain_by (Truth b) h p = refl
    plain_by (Col c) h p = ap not h
    plain_by (Neg a) h p = plain_by a h p
    plain_by (Not a) h p = plain_by a h p
    plain_by (Bin o a b) h p = let q = both_true (is_plain [] a) (is_plain [] b) p in λ i. plain_by a h.0 q.0 i && plain_by b h.1 q.1 i
    plain_by (Cond c a b) h p =
        let q = both_true (is_plain [] c && is_plain [] a) (is_plain [] b) p in let r = both_true (is_plain [] c) (is_plain [] a) q.0 in
        λ i. plain_by c h.0 r.0 i && plain_by a h.1 r.1 i && plain_by b h.2 q.1 i
    plain_by (Pick v i) h p = cc p
    plain_by (Call f args) h p = let q = both_true (takes_no_vector f) (all_are_plain [] args) p in λ i. q.0 i && all_plain_by args h q.1 i

    all_plain_by : (es : Trees ℕ Callee) → EachArgument NoVector es → all_are_plain [] es ≡ true → all_are_plain ks es ≡ true
    all_plain_by End h p = refl
    all_plain_by (More a rest) h p = let q = both_true (is_plain [] a) (all_are_plain [] rest) p in λ i. plain_by a h.0 q.0 i && all_plain_by rest h.1 q.1 i

-- a plain site's expression is plain
pub plain_expr : (j : JobView) (used : ℕ → Bool) (s : ℕ) (e : CheckedExpr) → ArePlain j used → used s ≡ true → IsSiteExpr (job_graph j) s e → is_plain e.kinds e.tree ≡ true
plain_expr j used s e plain u its =
    let x = of_option (λ (x : SiteAt). x.tree) (slice_get (graph_sites (job_graph j)) s) e.tree its.tree in
    let p = plain s x.0 u x.1 in
    subst (λ (t : NumTree). is_plain e.kinds t ≡ true) x.2
    (plain_by e.kinds x.0.tree
    (each_weaker (IsPlainVersion (job_graph j) used) (NoVector e.kinds)
    (λ c v. not_vector (graph_kinds (job_graph j)) e.kinds c (recursion_from_All (λ (c : ℕ × ColType). slice_get (graph_kinds (job_graph j)) c.0 ≡ Some c.1) e.kinds its.kinds) v.0) x.0.tree p.columns) p.parts)

-- ---- what a plain site meets

module _ (j : JobView) (job : IsJob j) (entry : ℕ) (u : Option ℕ) (used : ℕ → Bool) (plain : ArePlain j used) where
  pub plain_closed : IsClosed j entry u used
  plain_closed = record { each = λ s c us m. met_each j job entry u s c (λ d. IsSourceIn used (source_at j u d)) m (each_weaker _ _ (λ d v. v.1 u) m.0.tree (plain s m.0 us m.1).columns) }

-- ---- The plan of a loop, as it is made and read: a report of the loop

covers_are : (o : Option ResultAt) (ns : List ℕ) → option_map (λ (x : ResultAt). x.covers) o ≡ Some ns → covers_of o ≡ ns
covers_are o ns h = grind arith

module _ (j : JobView) (g : GraphView) (e : g ≡ job_graph j) (f : ℕ) (m : NumberedPass) (ns : List ℕ) (q : option_map (λ (x : ResultAt). x.covers) (slice_get (graph_results g) m.result) ≡ Some ns) where
  pub covering_is : (b : Bool) → b ≡ list_any (nat_eq f) ns → is_covering (graph_results (job_graph j)) f m ≡ b
  covering_is b h = grind (arith, list_any, covers_are)

module _ (j : JobView) (ps : List NumberedPass) (e : ps ≡ numbered_passes j) (f : ℕ) where
  abbrev test : NumberedPass → Bool
  test m = is_covering (graph_results (job_graph j)) f m

  pub result_below : (g : GraphView) → g ≡ job_graph j → (i : ℕ) (d : NumberedPass) → i < length ps → (get_or ps i d).result < length (graph_results g)
  result_below g h i d lt = grind (arith, result_inside, slice_get-get_or)

  pub cover_next : (i : ℕ) (d : NumberedPass) → i < length ps → list_any test (take i ps) ≡ false → test (get_or ps i d) ≡ false → list_any test (take (i + 1) ps) ≡ false
  cover_next i d lt h k = list_any_more test ps i d lt ∙ (λ t. h t || k t)

  pub cover_found : (i : ℕ) (d : NumberedPass) → i < length ps → test (get_or ps i d) ≡ true → true ≡ list_any test (numbered_passes j)
  cover_found i d lt k = sym (ap (list_any test) (sym e) ∙ list_any_at test ps i d lt k)

  pub cover_none : (i : ℕ) → length ps ≤ i → list_any test (take i ps) ≡ false → false ≡ list_any test (numbered_passes j)
  cover_none i le h = sym (ap (list_any test) (sym e) ∙ ap (list_any test) (sym (take_all i ps le)) ∙ h)
