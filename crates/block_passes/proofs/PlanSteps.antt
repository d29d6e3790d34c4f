-- How the plan of a loop is made: its steps, its passes and its named filters.
use Rattle.lemmas.proofs.{◌≡◌, ◌⊎◌, inl, inr, ℕ, zero, suc, ◌+◌, ◌<◌, List, [], ◌∷◌, ◌++◌, length, length-append, Option, None, Some, refl, sym, ◌∙◌, ap, subst, arith, append_assoc, Bool, true, false, option_map, slice_get, if◌then◌else◌, ◌&&◌, ◌-◌, drop, slice_range, ◌^◌, ◌≤◌, cond, take, ap₂, nat_lt, nat_eq, ℤ, length-set, set, get_or, flat_map, filter, append-nil, before_or_last, kept_at, last_at, list_any, slice_get_within, something_at, lt_or_last, and_false, and_left, and_true, cases_eq, cond_both, Decides-ltb, eqb-true, le-ltb, lt-ltb, or_cases, range_with_len, get_or_from_slice_get, same_Some}
use Rattle.block_passes.specs.{ArePlanned, AreSteps, Chain, IsActionOf, IsBegin, IsFilterPlanned, IsFilterStep, IsGrown, IsLast, IsLed, IsNamed, IsPassLast, IsPlan, IsPlanned, IsPlannedFilter, IsStep, IsStepped, IsTried, longer, NamedSteps, Step, feeding_fault, Found, GivesNumber, GivesVector, HasVector, IsSearched, Lowers, noted, through_chain, where_in, where_passed, chain_at}
use Rattle.loop_keys.proofs.PassNumbers.{result_inside, result_there, cover_at, cover_is, plan_covered}
use Rattle.rdf_values.specs.{ActionAt, ActionKind, Booking, ReportOn, EntryFault, Fault, Pass, Value, Span}
use Rattle.graph_numbers.specs.{FilterAt, graph_filters, graph_results, GraphView, kind_of_booking, Pass as NumberedPass, ResultAt, ResultKind, action_numbers, report_numbers, through_filter, through_sites}
use Rattle.loop_keys.specs.{covered_in, is_covering, IsJob, job_graph, JobView, numbered_in, numbered_passes, passes_in, outcome_of, site_in}
use Rattle.loop_keys.proofs.EvaluateLaws.{of_option}
use Rattle.graph_numbers.proofs.Placing.{joined, only_at, by_test}
use Rattle.rdf_model.specs.{◌>>=◌, fault_in, fault_or, first_fault_from, first_fault_in, first_of, for_all, Gives, is_true, Outcome, truth_of, unless_fault}
use Rattle.block_cache.proofs.Attempts.{get_take}
use Rattle.expr_lanes.specs.{AreRising, EachPlace, is_in}
use Rattle.expr_lanes.proofs.Composed.{below_range, first_in_range, first_in, rest_in, in_filter, kept_at as at_other, written_at, filter_all}
use Rattle.block_cache.specs.{below_fault, fault_at as place_fault, fault_before, fault_over, PlaceFault}

-- ---- steps

-- no chain was added
pub grown_none : (Q : Chain → Type 0) (P : List Chain → Type 0) (chains : List Chain) (steps : List Step) → AreSteps chains steps → P chains → IsGrown Q P chains steps
grown_none Q P chains steps are right = record {
  more = [];
  are = subst (λ (cs : List Chain). AreSteps cs steps) (sym (append-nil chains)) are;
  only = λ i d q. cc q;
  right = subst P (sym (append-nil chains)) right;
}

-- chains were added, and more behind them
pub grown_then : {Q R : Chain → Type 0} {A B : List Chain → Type 0} (S : Chain → Type 0) (P : List Chain → Type 0) (chains : List Chain) (mid steps : List Step) (h : IsGrown Q A chains mid) (k : IsGrown R B (chains ++ h.more) steps)
    → ((d : Chain) → Q d → S d) → ((d : Chain) → R d → S d) → P ((chains ++ h.more) ++ k.more) → IsGrown S P chains steps
grown_then S P chains mid steps h k first second right = record {
  more = h.more ++ k.more;
  are = subst (λ (cs : List Chain). AreSteps cs steps) (append_assoc chains h.more k.more) k.are;
  only = λ i d q. joined h.more k.more i d q (λ x. first d (h.only i d x)) (λ n e x. second d (k.only n d x));
  right = subst P (append_assoc chains h.more k.more) right;
}

pub step_kept : (chains more : List Chain) (k : ℕ) (x : Step) → IsStep chains k x → IsStep (chains ++ more) k x
step_kept chains more k x h = grind (arith, kept_at)

module _ (chains : List Chain) (steps : List Step) (are : AreSteps chains steps) (parent site : ℕ) (u : Option ℕ) (up : Chain) (its : slice_get chains parent ≡ Some up) (alike : (up.sites ≡ []) ⊎ (up.under ≡ u)) where
  -- the step is there
  pub step_found : (now : List Step) (k : ℕ) → now ≡ steps → slice_get steps k ≡ Some (Step.Filter parent site u) → IsStepped chains (longer up site u) now k
  step_found now k e h =
      let s = are.each k (Step.Filter parent site u) h in
      grown_none (λ d. d ≡ longer up site u) (λ cs. slice_get cs k ≡ Some (longer up site u)) chains now (subst (λ (x : List Step). AreSteps chains x) (sym e) are)
      (s.own ∙ ap (λ (x : Chain). Some (longer x site u)) (same_Some s.up up (sym s.its_up ∙ its)))

  -- or it is added
  pub added : (now : List Step) → now ≡ steps ++ Step.Filter parent site u ∷ [] → IsStepped chains (longer up site u) now (length steps)
  added now e = record {
    more = longer up site u ∷ [];
    are = subst (λ (x : List Step). AreSteps (chains ++ longer up site u ∷ []) x) (sym e) all;
    only = λ i d q. sym (only_at (longer up site u) d i q);
    right = ap (slice_get (chains ++ longer up site u ∷ [])) (sym are.many) ∙ last_at chains (longer up site u);
  }
    where
      own : IsFilterStep (chains ++ longer up site u ∷ []) (length steps) parent site u
      own = grind (arith, slice_get_within, kept_at, last_at)

      each : (k : ℕ) (x : Step) → (slice_get steps k ≡ Some x) ⊎ ((k ≡ length steps) × (Step.Filter parent site u ≡ x)) → IsStep (chains ++ longer up site u ∷ []) k x
      each k x (inl q) = step_kept chains _ k x (are.each k x q)
      each k x (inr q) = subst (λ (y : Step). IsStep (chains ++ longer up site u ∷ []) k y) q.1 (subst (λ (n : ℕ). IsFilterStep (chains ++ longer up site u ∷ []) n parent site u) (sym q.0) own)

      all : AreSteps (chains ++ longer up site u ∷ []) (steps ++ Step.Filter parent site u ∷ [])
      all = grind (arith, length-append, kept_at, before_or_last, each)

-- ---- paths

pub path_begins : (chains : List Chain) (u : Option ℕ) (steps : List Step) → AreSteps chains steps → IsLed chains [] u steps 0
path_begins chains u steps are =
    grown_none (IsBegin [] u) (λ cs. IsLast cs [] u 0) chains steps are (record { chain = record { sites = []; under = None }; its = are.each 0 Step.Block are.whole; sites = refl; alike = inl refl })

begins_on : (path : List ℕ) (u : Option ℕ) (site : ℕ) (d : Chain) → IsBegin path u d → IsBegin (path ++ site ∷ []) u d
begins_on path u site d b = record { its_under = b.its_under; rest = b.rest ++ site ∷ []; begins = ap (λ l. l ++ site ∷ []) b.begins ∙ append_assoc d.sites b.rest (site ∷ []) }

begins_whole : (path : List ℕ) (u : Option ℕ) (site : ℕ) (last d : Chain) → last.sites ≡ path → d ≡ longer last site u → IsBegin (path ++ site ∷ []) u d
begins_whole path u site last d e q =
    subst (λ (c : Chain). IsBegin (path ++ site ∷ []) u c) (sym q) (record { its_under = refl; rest = []; begins = ap (λ l. l ++ site ∷ []) (sym e) ∙ sym (append-nil (last.sites ++ site ∷ [])) })

-- one filter more
last_more : (chains more : List Chain) (path : List ℕ) (u v : Option ℕ) (k next site : ℕ) (last : IsLast chains path v k) → slice_get (chains ++ more) next ≡ Some (longer last.chain site u) → IsLast (chains ++ more) (path ++ site ∷ []) u next
last_more chains more path u v k next site last its = record { chain = longer last.chain site u; its = its; sites = ap (λ l. l ++ site ∷ []) last.sites; alike = inr refl }

pub path_goes_on : (chains : List Chain) (path : List ℕ) (u : Option ℕ) (steps now : List Step) (k next site : ℕ) (at : IsLed chains path u steps k) → IsStepped (chains ++ at.more) (longer at.right.chain site u) now next → IsLed chains (path ++ site ∷ []) u now next
path_goes_on chains path u steps now k next site at h =
    grown_then (IsBegin (path ++ site ∷ []) u) (λ cs. IsLast cs (path ++ site ∷ []) u next) chains steps now at h (begins_on path u site) (λ d. begins_whole path u site at.right.chain d at.right.sites)
    (last_more (chains ++ at.more) h.more path u u k next site at.right h.right)

-- the last step of a path is there
pub last_inside : {chains : List Chain} {path : List ℕ} {u : Option ℕ} {k n : ℕ} (last : IsLast chains path u k) → n ≡ length chains → k < n
last_inside {chains = chains} {k = k} last many = let low = slice_get_within chains k last.chain last.its in omega (arith, low, many)

pub led_there : (chains : List Chain) (path : List ℕ) (u : Option ℕ) (steps : List Step) (k : ℕ) → IsLed chains path u steps k → k < length steps
led_there chains path u steps k led = last_inside led.right (sym led.are.many)

-- ---- more chains

pub last_kept : (chains more : List Chain) (path : List ℕ) (u : Option ℕ) (k : ℕ) → IsLast chains path u k → IsLast (chains ++ more) path u k
last_kept chains more path u k h = record { chain = h.chain; its = kept_at chains more k h.chain h.its; sites = h.sites; alike = h.alike }

pub pass_kept : (j : JobView) (chains more : List Chain) (n last : ℕ) → IsPassLast j chains n last → IsPassLast j (chains ++ more) n last
pass_kept j chains more n last h m r k of = last_kept chains more r.filters m.variation last (h m r k of)

pub filter_kept : (j : JobView) (chains more : List Chain) (f : ℕ) (x : FilterAt) (o : Option NamedSteps) → IsPlannedFilter j chains f x o → IsPlannedFilter j (chains ++ more) f x o
filter_kept j chains more f x o h = grind (arith, last_kept)

pub filters_kept : (j : JobView) (chains more : List Chain) (f : ℕ) (o : Option NamedSteps) → IsFilterPlanned j chains f o → IsFilterPlanned j (chains ++ more) f o
filters_kept j chains more f o h x q = filter_kept j chains more f x o (h x q)

-- ---- pieces of the plan, one after another

module _ {A : Type 0} (j : JobView) (P : List Chain → ℕ → A → Type 0) (chains : List Chain) where
  pub planned_none : (steps : List Step) (pieces : List A) → pieces ≡ [] → AreSteps chains steps → ArePlanned j P chains steps 0 pieces
  planned_none steps pieces e are = grown_none (IsTried j) _ chains steps are (ap length e, λ n x q. (let none = ap (λ (l : List A). slice_get l n) (sym e) ∙ q in cc none))

  pub planned_more : ((cs more : List Chain) (n : ℕ) (x : A) → P cs n x → P (cs ++ more) n x) → (old new : List Step) (count : ℕ) (pieces now : List A) (x : A) (h : ArePlanned j P chains old count pieces)
      → now ≡ pieces ++ x ∷ [] → IsPlanned j (λ (cs : List Chain). P cs count) (chains ++ h.more) new x → ArePlanned j P chains new (count + 1) now
  planned_more kept old new count pieces now x h e next =
      grown_then (IsTried j) _ chains old new h next (λ d q. q) (λ d q. q) (
        (let a = ap length e in let b = length-append pieces (x ∷ []) in let c = h.right.0 in omega (arith, a, b, c)),
        λ n y q. one n y (before_or_last pieces x n y (ap (λ (l : List A). slice_get l n) (sym e) ∙ q)),
      )
    where
      one : (n : ℕ) (y : A) → (slice_get pieces n ≡ Some y) ⊎ ((n ≡ length pieces) × (x ≡ y)) → P ((chains ++ h.more) ++ next.more) n y
      one n y (inl q) = kept (chains ++ h.more) next.more n y (h.right.1 n y q)
      one n y (inr q) =
          subst (λ (m : ℕ). P ((chains ++ h.more) ++ next.more) m y) (sym (q.0 ∙ h.right.0)) (subst (λ (z : A). P ((chains ++ h.more) ++ next.more) count z) q.1 next.right)

-- ---- one pass

-- a pass of a number has one result
pub one_result : (j : JobView) (n : ℕ) (m a : NumberedPass) (r s : ResultAt) → numbered_in j n ≡ Some m → numbered_in j n ≡ Some a
    → slice_get (graph_results (job_graph j)) m.result ≡ Some r → slice_get (graph_results (job_graph j)) a.result ≡ Some s → (m ≡ a) × (r ≡ s)
one_result j n m a r s p q there also =
    let same = same_Some m a (sym p ∙ q) in (same, same_Some r s (sym there ∙ ap (λ (x : NumberedPass). slice_get (graph_results (job_graph j)) x.result) same ∙ also))

module _ (j : JobView) (n : ℕ) (m : NumberedPass) (its : numbered_in j n ≡ Some m) (g : GraphView) (e : g ≡ job_graph j)
    (kind : ResultKind) (q : option_map (λ (x : ResultAt). kind_of_booking x.booked.booking) (slice_get (graph_results g) m.result) ≡ Some kind) where
  abbrev r : ResultAt
  r = (result_there j n m its).0

  there_is : slice_get (graph_results (job_graph j)) m.result ≡ Some r
  there_is = (result_there j n m its).1

  kind_is : kind ≡ kind_of_booking r.booked.booking
  kind_is = grind (arith, same_Some, there_is)

  pub pass_led : (l : ActionKind) → kind ≡ ResultKind.Action l → (path : List ℕ) → option_map (λ (x : ResultAt). x.filters) (slice_get (graph_results g) m.result) ≡ Some path
      → (chains : List Chain) (steps : List Step) (k : ℕ) → IsLed chains path m.variation steps k → IsPlanned j (λ (cs : List Chain). IsPassLast j cs n) chains steps k
  pass_led l of path p chains steps k led = go r.booked.booking refl (sym kind_is ∙ of)
    where
      its_path : path ≡ r.filters
      its_path = grind (arith, same_Some, there_is)

      each : (a : NumberedPass) (s : ResultAt) (t : ActionKind) → IsActionOf j n a s t → IsLast (chains ++ led.more) s.filters a.variation k
      each a s t act = grind (arith, one_result, there_is, its_path)

      go : (b : Booking) → r.booked.booking ≡ b → kind_of_booking b ≡ ResultKind.Action l → IsPlanned j (λ (cs : List Chain). IsPassLast j cs n) chains steps k
      go (ReportOn fs) s h = cc h
      go (ActionAt t at) s h = record {
        more = led.more;
        are = led.are;
        only = λ i c w. (
            let b = led.only i c w in
            inr (inl (record {
              pass = n;
              numbered = m;
              result = r;
              kind = t;
              action = record { its_pass = its; its_result = there_is; at = at; booking = s };
              begins = record { its_under = b.its_under; rest = b.rest; begins = sym its_path ∙ b.begins };
            })));
        right = each;
      }

  pub report_led : kind ≡ ResultKind.Report → (chains : List Chain) (steps : List Step) → AreSteps chains steps → IsPlanned j (λ (cs : List Chain). IsPassLast j cs n) chains steps 0
  report_led of chains steps are = grown_none (IsTried j) (λ cs. IsPassLast j cs n 0) chains steps are (λ a s t act. absurd (none a s t act))
    where
      none : (a : NumberedPass) (s : ResultAt) (t : ActionKind) → IsActionOf j n a s t → ⊥
      none a s t act = grind (arith, one_result, there_is, kind_is)

-- ---- named filters

pub covered_is : (j : JobView) (job : IsJob j) (f : ℕ) → f < length (graph_filters (job_graph j)) → (b : Bool) → b ≡ list_any (is_covering (graph_results (job_graph j)) f) (numbered_passes j) → slice_get (covered_in j) f ≡ Some b
covered_is j job f lt b h = let x = something_at (graph_filters (job_graph j)) f lt in cover_at j job f x.0 x.1 ∙ ap Some (sym (h ∙ cover_is j job f x.0 x.1))

module _ (j : JobView) (job : IsJob j) (f : ℕ) (covered : slice_get (covered_in j) f ≡ Some true) (path up : List ℕ) (site : ℕ) (split : path ≡ up ++ site ∷ [])
    (g : GraphView) (e : g ≡ job_graph j) (p : option_map (λ (x : FilterAt). x.sites) (slice_get (graph_filters g) f) ≡ Some path)
    (chains : List Chain) (mid new : List Step) (above own : ℕ) (led : IsLed chains up None mid above) (stepped : IsStepped (chains ++ led.more) (longer led.right.chain site None) new own) where
  named_found : (x : FilterAt) × (slice_get (graph_filters (job_graph j)) f ≡ Some x) × (x.sites ≡ path)
  named_found =
      of_option (λ (x : FilterAt). x.sites) (slice_get (graph_filters (job_graph j)) f) path (ap (λ (v : GraphView). option_map (λ (x : FilterAt). x.sites) (slice_get (graph_filters v) f)) (sym e) ∙ p)

  of_filter : (c : Chain) → IsBegin (up ++ site ∷ []) None c → IsTried j c
  of_filter c b = inr (inr (record {
    filter = f;
    covered = plan_covered j job f covered;
    named = named_found.0;
    its_filter = named_found.1;
    begins = record { its_under = b.its_under; rest = b.rest; begins = named_found.2 ∙ split ∙ b.begins };
  }))

  pub filter_led : IsPlanned j (λ (cs : List Chain). IsFilterPlanned j cs f) chains new (Some (record { above = above; own = own }))
  filter_led =
      grown_then (IsTried j) (λ cs. IsFilterPlanned j cs f (Some (record { above = above; own = own }))) chains mid new led stepped (λ d b. of_filter d (begins_on up None site d b))
      (λ d e. of_filter d (begins_whole up None site led.right.chain d led.right.sites e)) (λ x q. (covered, named x q))
    where
      named : (x : FilterAt) → slice_get (graph_filters (job_graph j)) f ≡ Some x → IsNamed ((chains ++ led.more) ++ stepped.more) x (record { above = above; own = own })
      named x q =
          let its_sites : x.sites ≡ up ++ site ∷ [] = ap (λ (y : FilterAt). y.sites) (same_Some x named_found.0 (sym q ∙ named_found.1)) ∙ named_found.2 ∙ split in
          record {
            up = up;
            site = site;
            sites = its_sites;
            above = last_kept (chains ++ led.more) stepped.more up None above led.right;
            own = subst (λ (l : List ℕ). IsLast ((chains ++ led.more) ++ stepped.more) l None own) (sym its_sites) (last_more (chains ++ led.more) stepped.more up None None above own site led.right stepped.right);
          }

pub uncovered_step : (j : JobView) (chains : List Chain) (steps : List Step) (f : ℕ) (b : Bool) → slice_get (covered_in j) f ≡ Some b → b ≡ false → AreSteps chains steps → IsPlanned j (λ (cs : List Chain). IsFilterPlanned j cs f) chains steps None
uncovered_step j chains steps f b h e are = grown_none (IsTried j) (λ cs. IsFilterPlanned j cs f None) chains steps are (λ x q. h ∙ ap Some e)

-- ---- the whole plan

-- the step without filters alone
abbrev pub root : List Chain
root = record { sites = []; under = None } ∷ []

pub root_steps : (steps : List Step) → steps ≡ Step.Block ∷ [] → AreSteps root steps
root_steps steps e = subst (λ (x : List Step). AreSteps root x) (sym e) (record { many = refl; whole = refl; each = each })
  where
    each : (k : ℕ) (x : Step) → slice_get (Step.Block ∷ []) k ≡ Some x → IsStep root k x
    each zero x q = let i : Step.Block ≡ x = cc q in subst (λ (y : Step). IsStep root 0 y) i refl
    each (suc k) x q = cc q

pub planned : (j : JobView) (mid last : List Step) (passes : List ℕ) (filters : List (Option NamedSteps))
    → (h : ArePlanned j (IsPassLast j) root mid (length (passes_in j)) passes) → ArePlanned j (IsFilterPlanned j) (root ++ h.more) last (length (graph_filters (job_graph j))) filters
    → IsPlan j (record { steps = last; passes = passes; filters = filters })
planned j mid last passes filters h k = record {
  chains = (root ++ h.more) ++ k.more;
  steps = k.are;
  tried = λ i c q.
      joined (root ++ h.more) k.more i c q (λ x. joined root h.more i c x (λ y. inl (sym (ap (λ (z : Chain). z.sites) (only_at _ c i y)))) (λ n e y. h.only n c y)) (λ n e x. k.only n c x);
  many_passes = h.right.0;
  passes = λ n l q. pass_kept j (root ++ h.more) k.more n l (h.right.1 n l q);
  many_filters = k.right.0;
  filters = k.right.1;
}

-- ---- answers

-- the result of a pass is one of the graph's
pub result_in : (j : JobView) (g : GraphView) → g ≡ job_graph j → (n : ℕ) (m : NumberedPass) → numbered_in j n ≡ Some m → m.result < length (graph_results g)
result_in j g e n m its = let a = result_inside j n m its in let l : length (graph_results g) ≡ length (graph_results (job_graph j)) = ap (λ (v : GraphView). length (graph_results v)) e in omega (arith, a, l)

-- a filter of the graph is one of the job's
pub filter_in : (j : JobView) (g : GraphView) → g ≡ job_graph j → (n f : ℕ) → n ≡ length (graph_filters g) → f < n → f < length (graph_filters (job_graph j))
filter_in j g e n f many lt = let l : length (graph_filters g) ≡ length (graph_filters (job_graph j)) = ap (λ (v : GraphView). length (graph_filters v)) e in omega (arith, many, lt, l)

-- the former fault, or else the latter
abbrev pub or_else : Option EntryFault → Option EntryFault → Option EntryFault
or_else None later = later
or_else (Some kind) later = Some kind

-- ---- one part

pub none_lowers : (part : ℕ → Option EntryFault) (first pass : ℕ) (s : Found) → ((p : ℕ) → p < s.limit → part p ≡ None) → Lowers part first pass s s
none_lowers part first pass s h = record { falls = omega arith; clear = h; same = λ e. refl; found = λ k. absurd (omega (arith, k)) }

-- one part after another
module _ (a b : ℕ → Option EntryFault) (first pass : ℕ) (old mid new : Found) (h : Lowers a first pass old mid) (k : Lowers b first pass mid new) where
  pub both_lower : Lowers (λ p. or_else (a p) (b p)) first pass old new
  both_lower = grind (arith, lt_or_last)

-- the same by other faults, which are alike below the limit
pub lowers_as : (a b : ℕ → Option EntryFault) (first pass : ℕ) (old new : Found) → ((p : ℕ) → p < old.limit → a p ≡ b p) → Lowers a first pass old new → Lowers b first pass old new
lowers_as a b first pass old new e h = grind arith

-- ---- the passes

-- the next pass was tried below the limit
module _ (fault : ℕ → ℕ → Option EntryFault) (first count pass : ℕ) (s t : Found) (h : IsSearched fault first count pass s) (low : Lowers (λ p. fault p pass) first pass s t) where
  abbrev IsAtLimit : Fault → Type 0
  IsAtLimit f = (f.entry ≡ first + t.limit) × (t.limit < count) × (f.pass < pass + 1) × (fault t.limit f.pass ≡ Some f.kind) × ((n : ℕ) → n < f.pass → fault t.limit n ≡ None)

  at_same : t.limit ≡ s.limit → (f : Fault) → t.best ≡ Some f → IsAtLimit f
  at_same e f q =
      let w = h.at_limit f (ap (λ (x : Found). x.best) (sym (low.same e)) ∙ q) in
      let l = w.2 in
      (w.0 ∙ ap (λ n. first + n) (sym e), subst (λ (n : ℕ). n < count) (sym e) w.1, omega (arith, l), ap (λ n. fault n f.pass) e ∙ w.3, λ n k. ap (λ m. fault m n) e ∙ w.4 n k)

  at_found : t.limit < s.limit → (f : Fault) → t.best ≡ Some f → IsAtLimit f
  at_found lt f q = grind arith

  pub pass_searched : IsSearched fault first count (pass + 1) t
  pass_searched = record {
    clear = λ p n lt k. elim (lt_or_last n pass k) [ inl x ↦ (let f = low.falls in h.clear p n (omega (arith, lt, f)) x) | inr x ↦ ap (fault p) x ∙ low.clear p lt ];
    whole = λ e. whole e stays;
    within = (let f = low.falls in let g = h.within in omega (arith, f, g));
    at_limit = λ f e. elim stays [ inl q ↦ at_found q f e | inr q ↦ at_same q f e ];
  }
    where
      stays : (t.limit < s.limit) ⊎ (t.limit ≡ s.limit)
      stays = let f = low.falls in lt_or_last t.limit s.limit (omega (arith, f))

      whole : t.best ≡ None → (t.limit < s.limit) ⊎ (t.limit ≡ s.limit) → t.limit ≡ count
      whole e (inl q) = let w = low.found q in absurd (let x : ◌≡◌ {A = Option Fault} None (Some (record { entry = first + t.limit; pass = pass; kind = w.0 })) = sym e ∙ ap (λ (x : Found). x.best) w.2 in cc x)
      whole e (inr q) = q ∙ h.whole (ap (λ (x : Found). x.best) (sym (low.same q)) ∙ e)

-- ---- A pass in parts, by numbers: its filters one after another, the versions that it reads, and whether their values can be fed.

-- the truth of a value is no fault
pub truth_fault : (o : Outcome ⊥ Value) → fault_in (o >>= truth_of) ≡ fault_in o
truth_fault o = grind arith

-- one filter more
pub through_more : (site : ℕ → Outcome ⊥ Value) (path : List ℕ) (s : ℕ)
    → through_sites site (path ++ s ∷ []) ≡ (through_sites site path >>= λ passed. if passed then site s >>= truth_of else Gives false)
through_more site [] s = grind arith
through_more site (t ∷ path) s = grind (arith, through_more site path s)

pub step_fault : (site : ℕ → Outcome ⊥ Value) (path : List ℕ) (s : ℕ)
    → fault_in (through_sites site (path ++ s ∷ [])) ≡ or_else (fault_in (through_sites site path)) (where_passed (through_sites site path) (fault_in (site s)))
step_fault site path s = grind (arith, through_more, truth_fault)

pub step_true : (site : ℕ → Outcome ⊥ Value) (path : List ℕ) (s : ℕ) → is_true (through_sites site (path ++ s ∷ [])) ≡ (is_true (through_sites site path) && is_true (site s >>= truth_of))
step_true site path s = grind (arith, through_more)

-- ---- what is read

-- one version more
pub last_fault : (version : ℕ → Outcome ⊥ Value) (c : ℕ) (cs : List ℕ) → fault_in (for_all version (cs ++ c ∷ [])) ≡ or_else (fault_in (for_all version cs)) (fault_in (version c))
last_fault version c [] = grind arith
last_fault version c (d ∷ cs) = grind (arith, last_fault version c cs)

unless_fault_is : (vs : List Value) (o : Option EntryFault) → fault_in (unless_fault {M = ⊥} vs o) ≡ o
unless_fault_is vs o = grind arith

-- an action's pass: its filters, then what it reads, then whether it can be fed
pub action_fault : (site version : ℕ → Outcome ⊥ Value) (k : ActionKind) (r : ResultAt)
    → fault_in (action_numbers site version k r)
    ≡ or_else (fault_in (through_sites site r.filters)) (where_passed (through_sites site r.filters) (or_else (fault_in (for_all version r.inputs)) (feeding_fault k (for_all version r.inputs))))
action_fault site version k r = grind (arith, unless_fault_is)

pub report_fault : (nominal : ℕ → Outcome ⊥ Value) (filters : List FilterAt) (f : ℕ) (fs : List ℕ)
    → fault_in (report_numbers nominal filters (f ∷ fs)) ≡ or_else (fault_in (through_filter nominal (slice_get filters f))) (fault_in (report_numbers nominal filters fs))
report_fault nominal filters f fs = grind arith

-- parts where the filters are passed
pub where_split : (o : Outcome ⊥ Bool) (a b : Option EntryFault) → where_passed o (or_else a b) ≡ or_else (where_passed o a) (where_passed o b)
where_split o a b = grind arith

-- ---- the filters of a chain

-- under the variation that it has, if it has filters
pub chain_through : (j : JobView) (c : Chain) (u : Option ℕ) → (c.sites ≡ []) ⊎ (c.under ≡ u) → (e : ℕ) → through_chain j e c ≡ through_sites (site_in {M = ⊥} j e u) c.sites
chain_through j c u h e = grind arith

pub last_through : (j : JobView) (chains : List Chain) (path : List ℕ) (u : Option ℕ) (k : ℕ) (last : IsLast chains path u k) (e : ℕ) → through_chain j e (chain_at chains k) ≡ through_sites (site_in {M = ⊥} j e u) path
last_through j chains path u k last e = ap (through_chain j e) (get_or_from_slice_get chains k last.chain (record { sites = []; under = None }) last.its) ∙ chain_through j last.chain u last.alike e ∙ ap (through_sites (site_in {M = ⊥} j e u)) last.sites

-- ---- The first fault of a block's rows, by the fault of each place in each pass.

module _ (j : JobView) where
  -- ---- one row

  none_in : (ps : List Pass) (e n : ℕ) (row : List Value) → ((m : ℕ) → m < length ps → fault_in (outcome_of j (Some row) (slice_get ps m)) ≡ None) → first_fault_in j.dataset e n row ps ≡ None
  none_in [] e n row h = refl
  none_in (p ∷ ps) e n row h = ap (λ o. fault_or e n o (first_fault_in j.dataset e (n + 1) row ps)) (h 0 (omega arith)) ∙ none_in ps e (n + 1) row (λ m lt. h (suc m) (omega (arith, lt)))

  first_pass_in : (ps : List Pass) (e n m : ℕ) (row : List Value) (kind : EntryFault) → m < length ps → fault_in (outcome_of j (Some row) (slice_get ps m)) ≡ Some kind
      → ((i : ℕ) → i < m → fault_in (outcome_of j (Some row) (slice_get ps i)) ≡ None) → first_fault_in j.dataset e n row ps ≡ Some (record { entry = e; pass = n + m; kind = kind })
  first_pass_in [] e n m row kind lt h before = absurd (omega (arith, lt))
  first_pass_in (p ∷ ps) e n zero row kind lt h before =
      let z : n ≡ n + 0 = omega arith in
      ap (λ o. fault_or e n o (first_fault_in j.dataset e (n + 1) row ps)) h ∙ ap (λ x. Some (record { entry = e; pass = x; kind = kind })) z
  first_pass_in (p ∷ ps) e n (suc m) row kind lt h before =
      let z : n + 1 + m ≡ n + suc m = omega arith in
      ap (λ o. fault_or e n o (first_fault_in j.dataset e (n + 1) row ps)) (before 0 (omega arith))
      ∙ first_pass_in ps e (n + 1) m row kind (omega (arith, lt)) h (λ i l. before (suc i) (omega (arith, l)))
      ∙ ap (λ x. Some (record { entry = e; pass = x; kind = kind })) z

  -- ---- several rows

  module _ (ps : List Pass) where
    -- none of the passes faults in the row
    abbrev IsClear : Option (List Value) → Type 0
    IsClear row = (n : ℕ) → n < length ps → fault_in (outcome_of j row (slice_get ps n)) ≡ None

    none_from : (rows : List (List Value)) (e : ℕ) → ((p : ℕ) → p < length rows → IsClear (slice_get rows p)) → first_fault_from j.dataset e rows ps ≡ None
    none_from [] e h = refl
    none_from (row ∷ rows) e h =
        ap (λ o. first_of o (first_fault_from j.dataset (e + 1) rows ps)) (none_in ps e 0 row (h 0 (omega arith)))
        ∙ none_from rows (e + 1) (λ p lt. h (suc p) (omega (arith, lt)))

    first_from : (rows : List (List Value)) (e q m : ℕ) (kind : EntryFault) → q < length rows → m < length ps → ((p : ℕ) → p < q → IsClear (slice_get rows p))
        → fault_in (outcome_of j (slice_get rows q) (slice_get ps m)) ≡ Some kind → ((i : ℕ) → i < m → fault_in (outcome_of j (slice_get rows q) (slice_get ps i)) ≡ None)
        → first_fault_from j.dataset e rows ps ≡ Some (record { entry = e + q; pass = m; kind = kind })
    first_from [] e q m kind lt inside clear h before = absurd (omega (arith, lt))
    first_from (row ∷ rows) e zero m kind lt inside clear h before =
        let z : e ≡ e + 0 = omega arith in
        let y : 0 + m ≡ m = omega arith in
        ap (λ o. first_of o (first_fault_from j.dataset (e + 1) rows ps)) (first_pass_in ps e 0 m row kind inside h before)
        ∙ (λ i. Some (record { entry = z i; pass = y i; kind = kind }))
    first_from (row ∷ rows) e (suc q) m kind lt inside clear h before =
        let z : e + 1 + q ≡ e + suc q = omega arith in
        ap (λ o. first_of o (first_fault_from j.dataset (e + 1) rows ps)) (none_in ps e 0 row (clear 0 (omega arith)))
        ∙ first_from rows (e + 1) q m kind (omega (arith, lt)) inside (λ p l. clear (suc p) (omega (arith, l))) h before
        ∙ ap (λ x. Some (record { entry = x; pass = m; kind = kind })) z

    -- where all passes were tried, the best fault is the first one
    module _ (rows : List (List Value)) (e : ℕ) (s : Found) (fault : ℕ → ℕ → Option EntryFault) (h : IsSearched fault e (length rows) (length ps) s)
        (same : (p n : ℕ) → p < length rows → fault p n ≡ fault_in (outcome_of j (slice_get rows p) (slice_get ps n))) where
      clear : (p n : ℕ) → p < length rows → p < s.limit → n < length ps → fault_in (outcome_of j (slice_get rows p) (slice_get ps n)) ≡ None
      clear p n low lt k = sym (same p n low) ∙ h.clear p n lt k

      pub searched : first_fault_from j.dataset e rows ps ≡ s.best
      searched = go s.best refl
        where
          go : (o : Option Fault) → s.best ≡ o → first_fault_from j.dataset e rows ps ≡ o
          go None q = let w = h.whole q in none_from rows e (λ p low n k. clear p n low (omega (arith, w, low)) k)
          go (Some f) q =
              let w = h.at_limit f q in
              let its : f.entry ≡ e + s.limit = w.0 in
              let l = w.1 in
              first_from rows e s.limit f.pass f.kind w.1 w.2 (λ p lt n k. clear p n (omega (arith, lt, l)) lt k) (sym (same s.limit f.pass w.1) ∙ w.3) (λ n k. sym (same s.limit n w.1) ∙ w.4 n k)
              ∙ ap (λ x. Some (record { entry = x; pass = f.pass; kind = f.kind })) (sym its)

-- ---- the rows of a block

pub get_dropped : {A : Type 0} (lo : ℕ) (xs : List A) (p : ℕ) → slice_get (drop lo xs) p ≡ slice_get xs (lo + p)
get_dropped zero xs p = let e : p ≡ 0 + p = omega arith in ap (slice_get xs) e
get_dropped (suc lo) [] p = refl
get_dropped (suc lo) (x ∷ xs) p = let e : suc (lo + p) ≡ suc lo + p = omega arith in get_dropped lo xs p ∙ ap (slice_get (x ∷ xs)) e

-- the row at a place of a block is that of its entry
pub row_in_block : {A : Type 0} (xs : List A) (lo hi p : ℕ) → p < hi - lo → slice_get (slice_range xs lo hi) p ≡ slice_get xs (lo + p)
row_in_block xs lo hi p lt = get_take (drop lo xs) (hi - lo) p lt ∙ get_dropped lo xs p

-- ---- filters

-- one test after another
pub filter_twice : {A : Type 0} (p q : A → Bool) (xs : List A) → filter q (filter p xs) ≡ filter (λ x. p x && q x) xs
filter_twice p q [] = refl
filter_twice p q (x ∷ xs) = go (p x) (filter_twice p q xs)
  where
    go : (b : Bool) → filter q (filter p xs) ≡ filter (λ x. p x && q x) xs → filter q (cond b (x ∷ filter p xs) (filter p xs)) ≡ cond (b && q x) (x ∷ filter (λ x. p x && q x) xs) (filter (λ x. p x && q x) xs)
    go b h = grind arith

-- those below a limit are the first ones
below_from : (p : ℕ → Bool) (limit n a : ℕ) → limit ≤ a → filter (λ i. p i && nat_lt i limit) (range_with_len a n) ≡ []
below_from p limit zero a h = refl
below_from p limit (suc n) a h =
    let none : (p a && nat_lt a limit) ≡ false = ap (λ b. p a && b) (le-ltb a limit h) ∙ and_false (p a) in
    ap (λ b. cond b (a ∷ filter (λ i. p i && nat_lt i limit) (range_with_len (a + 1) n)) (filter (λ i. p i && nat_lt i limit) (range_with_len (a + 1) n))) none
    ∙ below_from p limit n (a + 1) (omega (arith, h))

first_below : (p : ℕ → Bool) (m n a : ℕ) → m ≤ n → filter (λ i. p i && nat_lt i (a + m)) (range_with_len a n) ≡ filter p (range_with_len a m)
first_below p zero n a h = below_from p (a + 0) n a (omega arith)
first_below p (suc m) zero a h = absurd (omega (arith, h))
first_below p (suc m) (suc n) a h =
    let here : (p a && nat_lt a (a + suc m)) ≡ p a = ap (λ b. p a && b) (lt-ltb a (a + suc m) (omega arith)) ∙ and_true (p a) in
    let e : a + suc m ≡ a + 1 + m = omega arith in
    let rest = ap (λ k. filter (λ i. p i && nat_lt i k) (range_with_len (a + 1) n)) e ∙ first_below p m n (a + 1) (omega (arith, h)) in
    (λ i. cond (here i) (a ∷ rest i) (rest i))

pub narrowed : (p : ℕ → Bool) (limit n : ℕ) → limit ≤ n → filter (λ i. nat_lt i limit) (filter p (range_with_len 0 n)) ≡ filter p (range_with_len 0 limit)
narrowed p limit n h =
    let e : limit ≡ 0 + limit = omega arith in
    filter_twice p (λ i. nat_lt i limit) (range_with_len 0 n)
    ∙ ap (λ k. filter (λ i. p i && nat_lt i k) (range_with_len 0 n)) e ∙ first_below p limit n 0 h

-- ---- what the places that pass give

-- the same of the places of a selection
pub flat_filtered : {B : Type 0} (f g : ℕ → List B) (p : ℕ → Bool) (sel : List ℕ) → ((i : ℕ) → is_in i sel ≡ true → (p i ≡ true → f i ≡ g i) × (p i ≡ false → f i ≡ [])) → flat_map f sel ≡ flat_map g (filter p sel)
flat_filtered f g p [] h = refl
flat_filtered f g p (x ∷ sel) h =
    let rest = flat_filtered f g p sel (λ i k. h i (rest_in i x sel k)) in
    let own = h x (first_in x sel) in
    by_test (p x) (λ q. rw q (ap₂ (λ a b. a ++ b) (own.0 q) rest)) (λ q. rw q (ap (λ l. l ++ flat_map f sel) (own.1 q) ∙ rest))

-- what rows give, by their places from a on
flat_taken : {A B : Type 0} (f : A → List B) (g : ℕ → List B) (n : ℕ) (xs : List A) (a : ℕ) → n ≤ length xs
    → ((i : ℕ) (x : A) → i < n → slice_get xs i ≡ Some x → f x ≡ g (a + i)) → flat_map f (take n xs) ≡ flat_map g (range_with_len a n)
flat_taken f g zero xs a h e = refl
flat_taken f g (suc n) [] a h e = absurd (omega (arith, h))
flat_taken f g (suc n) (x ∷ xs) a h e =
    let z : a + 0 ≡ a = omega arith in
    let rest = flat_taken f g n xs (a + 1) (omega (arith, h)) (λ i y lt q. (let u : a + suc i ≡ a + 1 + i = omega arith in e (suc i) y (omega (arith, lt)) q ∙ ap g u)) in
    ap₂ (λ b c. b ++ c) (e 0 x (omega arith) refl ∙ ap g z) rest

pub flat_first : {A B : Type 0} (f : A → List B) (g : ℕ → List B) (n : ℕ) (xs : List A) → n ≤ length xs
    → ((i : ℕ) (x : A) → i < n → slice_get xs i ≡ Some x → f x ≡ g i) → flat_map f (take n xs) ≡ flat_map g (range_with_len 0 n)
flat_first f g n xs h e = flat_taken f g n xs 0 h (λ i x lt q. (let u : i ≡ 0 + i = omega arith in e i x lt q ∙ ap g u))

-- ---- The first fault over a selection, as a part of a pass lowers the limit.

-- a place below is in the selection of the first places that pass a test where it passes
pub in_chosen : (f : ℕ → Bool) (p n : ℕ) → p < n → is_in p (filter f (range_with_len 0 n)) ≡ f p
in_chosen f p n lt = in_filter f p (range_with_len 0 n) ∙ ap (λ x. x && f p) (first_in_range n p lt)

pub chosen_below : (f : ℕ → Bool) (p n : ℕ) → is_in p (filter f (range_with_len 0 n)) ≡ true → p < n
chosen_below f p n h = below_range n p (and_left (is_in p (range_with_len 0 n)) (f p) (sym (in_filter f p (range_with_len 0 n)) ∙ h))

-- ---- the first fault

first_or_rest : (p q : ℕ) (sel : List ℕ) → is_in q (p ∷ sel) ≡ true → (q ≡ p) ⊎ (is_in q sel ≡ true)
first_or_rest p q sel h = elim (or_cases (nat_eq q p) (is_in q sel) h) [ inl e ↦ inl (eqb-true q p e) | inr k ↦ inr k ]

module _ (f : ℕ → Option EntryFault) where
  -- what is said of it
  abbrev pub IsOver : List ℕ → Option PlaceFault → Type 0
  IsOver sel None = EachPlace sel (λ p. f p ≡ None)
  IsOver sel (Some x) = (is_in x.place sel ≡ true) × (f x.place ≡ Some x.kind) × EachPlace sel (λ q. q < x.place → f q ≡ None)

  pub over : (sel : List ℕ) → AreRising sel → IsOver sel (fault_over f sel)
  over [] rising = λ p h. cc h
  over (p ∷ sel) rising = grind (arith, first_in, or_cases, eqb-true, rest_in, over sel rising.1)

  pub selected_or_none : (sel : List ℕ) (p : ℕ) → (is_in p sel ≡ true → f p ≡ None) → where_in f sel p ≡ None
  selected_or_none sel p h = cond_both (is_in p sel) (f p) None (λ o. o ≡ None) h (λ e. refl)

  pub over_lowers : (sel : List ℕ) (first pass : ℕ) (s : Found) (o : Option PlaceFault) → AreRising sel → EachPlace sel (λ p. p < s.limit) → o ≡ fault_over f sel → Lowers (where_in f sel) first pass s (noted first pass s o)
  over_lowers sel first pass s o rising inside e = grind (arith, over, clear, cond_both)

  -- left are those below the limit
  pub left_below : (sel : List ℕ) (first pass : ℕ) (s : Found) (o : Option PlaceFault) → EachPlace sel (λ p. p < s.limit) → below_fault o sel ≡ filter (λ p. nat_lt p (noted first pass s o).limit) sel
  left_below sel first pass s o inside = grind (arith, filter_all, Decides-ltb)

-- its entry has a small number
pub fault_few : (f : ℕ → Option EntryFault) (sel : List ℕ) (limit count first : ℕ) → AreRising sel → EachPlace sel (λ p. p < limit) → limit ≤ count → first + count ≤ 1000000
    → (o : Option PlaceFault) → o ≡ fault_over f sel → (x : PlaceFault) → o ≡ Some x → first + x.place < 2 ^ 32
fault_few f sel limit count first rising inside le few o e x q =
    let h : IsOver f sel (Some x) = subst (IsOver f sel) (sym e ∙ q) (over f sel rising) in let l = inside x.place h.0 in omega (arith, l, le, few)

-- Places one after another
pub first_at : (xs : List ℕ) (f : ℕ → Option EntryFault) (i : ℕ) (k : EntryFault) → i < length xs → ((m : ℕ) → m < i → f (get_or xs m 0) ≡ None) → f (get_or xs i 0) ≡ Some k → fault_over f xs ≡ Some (place_fault (get_or xs i 0) k)
first_at [] f i k lt before here = absurd (omega (arith, lt))
first_at (x ∷ xs) f zero k lt before here = ap (λ o. fault_before x o (fault_over f xs)) here
first_at (x ∷ xs) f (suc i) k lt before here =
    ap (λ o. fault_before x o (fault_over f xs)) (before 0 (omega arith)) ∙ first_at xs f i k (omega (arith, lt)) (λ m l. before (suc m) (omega (arith, l))) here

-- a fact of each
pub each_at : (xs : List ℕ) (P : ℕ → Type 0) → ((m : ℕ) → m < length xs → P (get_or xs m 0)) → EachPlace xs P
each_at [] P h p i = cc i
each_at (x ∷ xs) P h p i = elim (first_or_rest x p xs i) [
  | inl e ↦ subst P (sym e) (h 0 (omega arith))
  | inr k ↦ each_at xs P (λ m l. h (suc m) (omega (arith, l))) p k
]

-- ---- a fact of each so far, and of one more

module _ (o : ℕ → Outcome ⊥ Value) (sel : List ℕ) (i q : ℕ) (here : q ≡ get_or sel i 0) where
  one_more : (P Q : ℕ → Type 0) → Q q → ((p : ℕ) → (p ≡ q → ⊥) → P p → Q p) → ((m : ℕ) → m < i → P (get_or sel m 0)) → (m : ℕ) → m < i + 1 → Q (get_or sel m 0)
  one_more P Q own others before m lt = elim (cases_eq (get_or sel m 0) q) [
    | inl e ↦ subst Q (sym e) own
    | inr n ↦ elim (lt_or_last m i lt) [ inl l ↦ others (get_or sel m 0) n (before m l) | inr e ↦ absurd (n (ap (λ x. get_or sel x 0) e ∙ sym here)) ]
  ]

  pub numbers_more : (numbers : List ℤ) (z : ℤ) → q < length numbers → o q ≡ Gives (Value.Int z) → ((m : ℕ) → m < i → GivesNumber numbers (get_or sel m 0) (o (get_or sel m 0)))
      → (m : ℕ) → m < i + 1 → GivesNumber (set numbers q z) (get_or sel m 0) (o (get_or sel m 0))
  numbers_more numbers z inside given =
      one_more (λ p. GivesNumber numbers p (o p)) (λ p. GivesNumber (set numbers q z) p (o p)) (omega (arith, length-set numbers q z, inside), given ∙ ap (λ y. Gives (Value.Int y)) (sym (written_at numbers q z inside)))
      (λ p n b. (let low = b.0 in (omega (arith, length-set numbers q z, low), b.1 ∙ ap (λ y. Gives (Value.Int y)) (sym (at_other numbers p q z n)))))

  pub vectors_more : (elements more : List ℤ) (spans after : List Span) (vector : List ℤ) → o q ≡ Gives (Value.Vect vector) → HasVector more after q vector
      → ((p : ℕ) (zs : List ℤ) → (p ≡ q → ⊥) → HasVector elements spans p zs → HasVector more after p zs) → ((m : ℕ) → m < i → GivesVector elements spans (get_or sel m 0) (o (get_or sel m 0)))
      → (m : ℕ) → m < i + 1 → GivesVector more after (get_or sel m 0) (o (get_or sel m 0))
  vectors_more elements more spans after vector given own others =
      one_more (λ p. GivesVector elements spans p (o p)) (λ p. GivesVector more after p (o p)) (vector, own, given) (λ p n b. (b.0, others p b.0 n b.1, b.2))
