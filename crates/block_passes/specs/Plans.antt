-- The selections that the passes of a loop share, each made from the one above it.
use Rattle.std.specs.Prelude.{◌≡◌, ◌⊎◌, ◌<◌, ℕ, List, [], ◌∷◌, ◌++◌, Option, None, Some, length, slice_get, slice_index_or, Bool, true, false}
use Rattle.block_passes.specs.declared.plan.Step.{Step}
use Rattle.rdf_values.specs.{ActionAt, ActionKind, Path}
use Rattle.rdf_model.specs.{Outcome}
use Rattle.graph_numbers.specs.{FilterAt, graph_filters, graph_results, Pass as NumberedPass, ResultAt, through_sites}
use Rattle.loop_keys.specs.{covered_in, IsCovered, job_graph, JobView, numbered_in, passes_in, site_in}
use Rattle.block_passes.specs.declared.plan.NamedSteps.{NamedSteps}

-- filters by their sites, head first, under nominal or a variation
pub record Chain : Type 0 where
  pub sites : List ℕ
  pub under : Option ℕ

-- the chain of that number, or one without filters
abbrev pub chain_at : List Chain → ℕ → Chain
chain_at chains k = slice_index_or chains k (record { sites = []; under = None })

-- the chain with one more filter
abbrev pub longer : Chain → ℕ → Option ℕ → Chain
longer up site u = record { sites = up.sites ++ site ∷ []; under = u }

-- the step of that number has one filter more than that of the parent, which is under the same variation or without filters
pub record IsFilterStep (chains : List Chain) (k parent site : ℕ) (u : Option ℕ) : Type 0 where
  pub before : parent < k
  pub up : Chain
  pub its_up : slice_get chains parent ≡ Some up
  pub alike : (up.sites ≡ []) ⊎ (up.under ≡ u)
  pub own : slice_get chains k ≡ Some (longer up site u)

abbrev pub IsStep : List Chain → ℕ → Step → Type 0
IsStep chains k Step.Block = slice_get chains k ≡ Some (record { sites = []; under = None })
IsStep chains k (Step.Filter parent site u) = IsFilterStep chains k parent site u

-- these are the filters of each step, and the first step has none
pub record AreSteps (chains : List Chain) (steps : List Step) : Type 0 where
  pub many : length chains ≡ length steps
  pub whole : slice_get steps 0 ≡ Some Step.Block
  pub each : (k : ℕ) (x : Step) → slice_get steps k ≡ Some x → IsStep chains k x

-- the step of that number has the filters of a path under nominal or a variation
pub record IsLast (chains : List Chain) (path : List ℕ) (u : Option ℕ) (k : ℕ) : Type 0 where
  pub chain : Chain
  pub its : slice_get chains k ≡ Some chain
  pub sites : chain.sites ≡ path
  pub alike : (chain.sites ≡ []) ⊎ (chain.under ≡ u)

-- the path begins with the filters of the chain
pub record IsBegin (path : List ℕ) (u : Option ℕ) (c : Chain) : Type 0 where
  pub its_under : c.under ≡ u
  pub rest : List ℕ
  pub begins : path ≡ c.sites ++ rest

-- chains were added to these, each as asked; the steps have these filters, and what is said of all chains is so
pub record IsGrown (Q : Chain → Type 0) (P : List Chain → Type 0) (chains : List Chain) (steps : List Step) : Type 0 where
  pub more : List Chain
  pub are : AreSteps (chains ++ more) steps
  pub only : (i : ℕ) (d : Chain) → slice_get more i ≡ Some d → Q d
  pub right : P (chains ++ more)

-- the step of that number has these filters; no other was added
abbrev pub IsStepped : List Chain → Chain → List Step → ℕ → Type 0
IsStepped chains c steps k = IsGrown (λ d. d ≡ c) (λ cs. slice_get cs k ≡ Some c) chains steps

-- the step of that number has the filters of a path; only steps with filters with which it begins were added
abbrev pub IsLed : List Chain → List ℕ → Option ℕ → List Step → ℕ → Type 0
IsLed chains path u steps k = IsGrown (IsBegin path u) (λ cs. IsLast cs path u k) chains steps

-- an entry passes the filters of a chain
abbrev pub through_chain : JobView → ℕ → Chain → Outcome ⊥ Bool
through_chain j entry c = through_sites (site_in j entry c.under) c.sites

-- ---- what the loop tries

-- the pass of that number is of an action, which has this result
pub record IsActionOf (j : JobView) (pass : ℕ) (m : NumberedPass) (r : ResultAt) (k : ActionKind) : Type 0 where
  pub its_pass : numbered_in j pass ≡ Some m
  pub its_result : slice_get (graph_results (job_graph j)) m.result ≡ Some r
  pub at : Path
  pub booking : r.booked.booking ≡ ActionAt k at

-- an action's pass begins with the filters of the chain
pub record IsOfPass (j : JobView) (c : Chain) : Type 0 where
  pub pass : ℕ
  pub numbered : NumberedPass
  pub result : ResultAt
  pub kind : ActionKind
  pub action : IsActionOf j pass numbered result kind
  pub begins : IsBegin result.filters numbered.variation c

-- so does a named filter that a report covers, with those above it
pub record IsOfFilter (j : JobView) (c : Chain) : Type 0 where
  pub filter : ℕ
  pub covered : IsCovered j filter
  pub named : FilterAt
  pub its_filter : slice_get (graph_filters (job_graph j)) filter ≡ Some named
  pub begins : IsBegin named.sites None c

-- the chain has no filter, or a pass of the loop tries its filters
abbrev pub IsTried : JobView → Chain → Type 0
IsTried j c = (c.sites ≡ []) ⊎ (IsOfPass j c ⊎ IsOfFilter j c)

-- ---- the plan

-- the steps, the last step of each action's pass, and the steps of each named filter that a report covers
pub record PlanView : Type 0 where
  pub steps : List Step
  pub passes : List ℕ
  pub filters : List (Option NamedSteps)

-- the step of that number has the filters of a pass, if it is of an action
abbrev pub IsPassLast : JobView → List Chain → ℕ → ℕ → Type 0
IsPassLast j chains n last = (m : NumberedPass) (r : ResultAt) (k : ActionKind) → IsActionOf j n m r k → IsLast chains r.filters m.variation last

-- the steps of a named filter: the last of the filters above it, and its own
pub record IsNamed (chains : List Chain) (x : FilterAt) (s : NamedSteps) : Type 0 where
  pub up : List ℕ
  pub site : ℕ
  pub sites : x.sites ≡ up ++ site ∷ []
  pub above : IsLast chains up None s.above
  pub own : IsLast chains x.sites None s.own

-- a named filter has steps where a report of the loop covers it
abbrev pub IsPlannedFilter : JobView → List Chain → ℕ → FilterAt → Option NamedSteps → Type 0
IsPlannedFilter j chains f x None = slice_get (covered_in j) f ≡ Some false
IsPlannedFilter j chains f x (Some s) = (slice_get (covered_in j) f ≡ Some true) × IsNamed chains x s

-- the named filter of that number has these steps
abbrev pub IsFilterPlanned : JobView → List Chain → ℕ → Option NamedSteps → Type 0
IsFilterPlanned j chains f o = (x : FilterAt) → slice_get (graph_filters (job_graph j)) f ≡ Some x → IsPlannedFilter j chains f x o

-- the plan of a job's loop: of each of its passes, and of each named filter
pub record IsPlan (j : JobView) (p : PlanView) : Type 0 where
  pub chains : List Chain
  pub steps : AreSteps chains p.steps
  pub tried : (k : ℕ) (c : Chain) → slice_get chains k ≡ Some c → IsTried j c
  pub many_passes : length p.passes ≡ length (passes_in j)
  pub passes : (n last : ℕ) → slice_get p.passes n ≡ Some last → IsPassLast j chains n last
  pub many_filters : length p.filters ≡ length (graph_filters (job_graph j))
  pub filters : (f : ℕ) (o : Option NamedSteps) → slice_get p.filters f ≡ Some o → IsFilterPlanned j chains f o

-- ---- how it is made

-- a piece of the plan is right by these chains and more, each of which a pass of the loop tries
abbrev pub IsPlanned : {A : Type 0} → JobView → (List Chain → A → Type 0) → List Chain → List Step → A → Type 0
IsPlanned j P chains steps piece = IsGrown (IsTried j) (λ cs. P cs piece) chains steps

-- so are the first so many pieces, each by its number
abbrev pub ArePlanned : {A : Type 0} → JobView → (List Chain → ℕ → A → Type 0) → List Chain → List Step → ℕ → List A → Type 0
ArePlanned {A = A} j P chains steps count pieces = IsGrown (IsTried j) (λ cs. (length pieces ≡ count) × ((n : ℕ) (piece : A) → slice_get pieces n ≡ Some piece → P cs n piece)) chains steps
