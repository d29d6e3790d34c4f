-- What is held of the sites of an entry, and what an evaluation is told of it.
use Rattle.std.specs.Prelude.{if◌then◌else◌, ◌≡◌, ⊤, ◌≤◌, ◌<◌, ◌⊎◌, ℕ, zero, suc, ◌+◌, Bool, true, false, List, [], length, Option, Some, None, slice_get, slice_index_or, count_by, unwrap_or, MatchOption, All}
use Rattle.rdf_values.specs.{ColType, Value, ActionKind, cut, history, named_before, Span, EachColumn}
use Rattle.rdf_model.specs.{◌>>=◌, Faults, FitsOutcome, Gives, Needs, Outcome, tag_element, truth_of, demanded, loop_facts}
use Rattle.expr_check.specs.{CheckedExpr, is_plain, is_vector}
use Rattle.graph_numbers.specs.{cell_value, graph_sites, graph_sources, graph_under, graph_versions, HasFilters, HasInputs, IfPassed, IsBelow, meets, site_outcome, site_value, SiteAt, Source, source_in, source_value, through_sites, graph_kinds, GraphView}
use Rattle.loop_keys.specs.Jobs.{JobView, job_graph, passes_in}
use Rattle.loop_keys.specs.Keys.{key, key_count}
use Rattle.loop_keys.specs.declared.reading.Held.{Held}
use Rattle.rdf_model.specs.declared.loop_facts.LoopFacts.{LoopFacts}
use Rattle.std.specs.List.{AllByRecursion}

-- something is held
abbrev pub is_held : Held → Bool
is_held Held.Nothing = false
is_held h = true

-- the outcome that is held
abbrev pub held_outcome : Held → Option (Outcome ⊥ Value)
held_outcome Held.Nothing = None
held_outcome (Held.Int z) = Some (Gives (Value.Int z))
held_outcome (Held.Bool b) = Some (Gives (Value.Bool b))
held_outcome (Held.Vect zs) = Some (Gives (Value.Vect zs))
held_outcome (Held.Faulted k) = Some (Faults k)

-- what is held at a key
abbrev pub held_in : List Held → ℕ → Held
held_in cells k = slice_index_or cells k Held.Nothing

-- how many keys hold something
abbrev pub held_count : List Held → ℕ
held_count cells = count_by is_held cells

-- nothing is held, or this outcome
abbrev pub IsRight : Outcome ⊥ Value → Held → Type 0
IsRight o h = MatchOption (held_outcome h) ⊤ (λ p. p ≡ o)

-- ---- values by numbers

-- the row of an entry
abbrev pub row_in : List (List Value) → ℕ → List Value
row_in rows entry = unwrap_or (slice_get rows entry) []

abbrev pub row_of : JobView → ℕ → List Value
row_of j entry = row_in j.dataset.rows entry

-- what a site comes to in an entry, under nominal or a variation
abbrev pub site_in : {M : Type 0} → JobView → ℕ → Option ℕ → ℕ → Outcome M Value
site_in j entry u s = site_value (λ x. site_outcome j.dataset.fns j.dataset.columns (row_of j entry) x (graph_under (job_graph j) u)) (slice_get (graph_sites (job_graph j)) s)

-- whether the entry passes the filter of a site
abbrev pub truth_in : JobView → ℕ → Option ℕ → ℕ → Outcome ⊥ Bool
truth_in j entry u s = site_in j entry u s >>= truth_of

-- the source of a version
abbrev pub source_at : JobView → Option ℕ → ℕ → Source
source_at j u c = source_in (graph_sources (job_graph j) u) c

-- what a version comes to
abbrev pub version_in : {M : Type 0} → JobView → ℕ → Option ℕ → ℕ → Outcome M Value
version_in j entry u c = source_value (row_of j entry) (site_in j entry u) (source_at j u c)

-- what is held of each site under each variation is what it comes to in the entry
pub record IsSound (j : JobView) (entry : ℕ) (cells : List Held) : Type 0 where
  pub each : (u : Option ℕ) (s : ℕ) → s < length (graph_sites (job_graph j)) → IsRight (site_in j entry u s) (held_in cells (key (job_graph j) s u))

-- how many of so many keys, from k on, are in the set
abbrev pub keys_in : (ℕ → Bool) → ℕ → ℕ → ℕ
keys_in T k zero = 0
keys_in T k (suc n) = (if T k then 1 else 0) + keys_in T (suc k) n

-- the source is no site outside the set
abbrev pub IsSourceIn : (ℕ → Bool) → Source → Type 0
IsSourceIn used (Source.Cell col) = ⊤
IsSourceIn used (Source.Site s) = used s ≡ true
IsSourceIn used (Source.Element s k tags) = used s ≡ true

-- ---- what an evaluation is told

-- what is held of a version's site, or that it is missing
abbrev pub held_or_need : ℕ → Held → Outcome ℕ Value
held_or_need c Held.Nothing = Needs c
held_or_need c (Held.Int z) = Gives (Value.Int z)
held_or_need c (Held.Bool b) = Gives (Value.Bool b)
held_or_need c (Held.Vect zs) = Gives (Value.Vect zs)
held_or_need c (Held.Faulted k) = Faults k

-- the element of what is held at the place of a tag among so many
abbrev pub held_element : ℕ → Held → ℕ → ℕ → Outcome ℕ Value
held_element c h k tags = held_or_need c h >>= tag_element tags k

abbrev pub looked_source : JobView → ℕ → Option ℕ → List Held → ℕ → Source → Outcome ℕ Value
looked_source j entry u cells c (Source.Cell col) = cell_value (slice_get (row_of j entry) col)
looked_source j entry u cells c (Source.Site s) = held_or_need c (held_in cells (key (job_graph j) s u))
looked_source j entry u cells c (Source.Element s k tags) = held_element c (held_in cells (key (job_graph j) s u)) k tags

-- what a version comes to by what is held
abbrev pub look_at : JobView → ℕ → Option ℕ → List Held → ℕ → Outcome ℕ Value
look_at j entry u cells c = looked_source j entry u cells c (source_at j u c)

-- a cell for each key, and an entry of the table
pub record CanLook (j : JobView) (entry : ℕ) (cells : List Held) : Type 0 where
  pub sized : length cells ≡ key_count (job_graph j)
  pub within : entry < length j.dataset.rows

-- the source is a site with a lower number of which nothing is held
abbrev pub IsMissingSource : JobView → Option ℕ → List Held → ℕ → Source → Type 0
IsMissingSource j u cells s (Source.Cell col) = ⊥
IsMissingSource j u cells s (Source.Site t) = (t < s) × (held_in cells (key (job_graph j) t u) ≡ Held.Nothing)
IsMissingSource j u cells s (Source.Element t k tags) = (t < s) × (held_in cells (key (job_graph j) t u) ≡ Held.Nothing)

-- the version is there, and its site, which is below s, is missing
abbrev pub IsMissing : JobView → Option ℕ → List Held → ℕ → ℕ → Type 0
IsMissing j u cells s c = (c < length (graph_versions (job_graph j))) × IsMissingSource j u cells s (source_at j u c)

-- the evaluation of site s meets version c
abbrev pub MeetsAt : JobView → ℕ → Option ℕ → ℕ → ℕ → Type 0
MeetsAt j entry u s c = (x : SiteAt) × (slice_get (graph_sites (job_graph j)) s ≡ Some x) × (meets j.dataset.fns (version_in j entry u) x c ≡ true)

-- the source is that site
abbrev pub IsSiteOf : ℕ → Source → Type 0
IsSiteOf t (Source.Cell col) = ⊥
IsSiteOf t (Source.Site s) = s ≡ t
IsSiteOf t (Source.Element s k tags) = s ≡ t

-- ---- what is filled

-- a set of sites has with each those that its evaluation meets
pub record IsClosed (j : JobView) (entry : ℕ) (u : Option ℕ) (D : ℕ → Bool) : Type 0 where
  pub each : (s c : ℕ) → D s ≡ true → MeetsAt j entry u s c → IsSourceIn D (source_at j u c)

-- what is newly held is of sites of the set up to s
abbrev pub OnlyIn : JobView → Option ℕ → (ℕ → Bool) → ℕ → List Held → List Held → Type 0
OnlyIn j u D s before after =
    (k : ℕ) → is_held (held_in after k) ≡ true → (is_held (held_in before k) ≡ true) ⊎ ((t : ℕ) × (t ≤ s) × (D t ≡ true) × (k ≡ key (job_graph j) t u))

-- what was held is held
abbrev pub Grows : List Held → List Held → Type 0
Grows before after = (k : ℕ) → is_held (held_in before k) ≡ true → held_in after k ≡ held_in before k

-- site s under u was filled, with others before it
pub record IsFilled (j : JobView) (entry : ℕ) (u : Option ℕ) (s : ℕ) (before after : List Held) : Type 0 where
  pub sound : IsSound j entry after
  pub grows : Grows before after
  pub filled : is_held (held_in after (key (job_graph j) s u)) ≡ true
  pub more : held_count before < held_count after
  pub rest : (t : ℕ) (w : Option ℕ) → s < t → t < length (graph_sites (job_graph j)) → held_in after (key (job_graph j) t w) ≡ held_in before (key (job_graph j) t w)
  pub only : (D : ℕ → Bool) → IsClosed j entry u D → D s ≡ true → OnlyIn j u D s before after

-- ---- one evaluation

-- the version is there, and is given by a column of the table or by a site
abbrev pub IsReadable : JobView → Option ℕ → ℕ → Type 0
IsReadable j u c = (c < length (graph_versions (job_graph j))) × IsBelow (length j.dataset.columns) (length (graph_sites (job_graph j))) (source_at j u c)

-- what the evaluation of a site needs of its columns
pub record CanEvaluate (j : JobView) (entry : ℕ) (u : Option ℕ) (cells : List Held) (e : CheckedExpr) : Type 0 where
  pub can : All (λ (c : ℕ × ColType). IsReadable j u c.0) e.kinds
  pub fit : All (λ (c : ℕ × ColType). FitsOutcome c.1 (look_at j entry u cells c.0)) e.kinds

-- ---- several sites

-- the set of keys has those of the sites of a set
abbrev pub HasAllKeys : JobView → Option ℕ → (ℕ → Bool) → (ℕ → Bool) → Type 0
HasAllKeys j u D T = (t : ℕ) → D t ≡ true → T (key (job_graph j) t u) ≡ true

-- the set has the filters that are tried
abbrev pub HasTried : JobView → ℕ → Option ℕ → List ℕ → (ℕ → Bool) → Type 0
HasTried j entry u path D = HasFilters (λ s. D s ≡ true) (site_in j entry u) path

-- the set has the filters that are tried, and what is read where they are passed
abbrev pub HasPassed : JobView → ℕ → Option ℕ → List ℕ → List ℕ → (ℕ → Bool) → Type 0
HasPassed j entry u path inputs D =
    HasTried j entry u path D × IfPassed (through_sites (site_in j entry u) path) (HasInputs (λ s. D s ≡ true) (source_at j u) (version_in j entry u) inputs)

-- ---- what an entry gives to a loop

-- the clusters of a job
abbrev pub job_spans : JobView → List Span
job_spans j = cut j.cuts.entries j.cuts.size j.cuts.marks

-- what its loop is to give
abbrev pub facts_in : JobView → LoopFacts
facts_in j = loop_facts j.dataset (named_before (history j.script)) (job_spans j) (passes_in j)

-- how many evaluations its passes demand of an entry
abbrev pub entry_demands : JobView → ℕ → ℕ
entry_demands j entry = length (demanded j.dataset.fns j.dataset.columns (row_of j entry) (passes_in j))

-- not a Take
abbrev pub IsNoTake : ActionKind → Type 0
IsNoTake (ActionKind.Take c) = ⊥
IsNoTake k = ⊤

-- ---- sites without vectors, of which no evaluation wants memory

-- the version of that number is a vector
abbrev pub is_vector_at : List ColType → ℕ → Bool
is_vector_at kinds c = is_vector (unwrap_or (slice_get kinds c) ColType.Int)

-- the version is no vector, and its source under each variation is no site outside the set
abbrev pub IsPlainVersion : GraphView → (ℕ → Bool) → ℕ → Type 0
IsPlainVersion g used c = (is_vector_at (graph_kinds g) c ≡ false) × ((u : Option ℕ) → IsSourceIn used (source_in (graph_sources g u) c))

-- the site's expression reads only such versions, and nothing in it picks from a vector or calls a function of one
pub record IsPlainSite (g : GraphView) (used : ℕ → Bool) (x : SiteAt) : Type 0 where
  pub columns : EachColumn (IsPlainVersion g used) x.tree
  pub parts : is_plain [] x.tree ≡ true

-- so is each site of the set
abbrev pub ArePlain : JobView → (ℕ → Bool) → Type 0
ArePlain j used = (s : ℕ) (x : SiteAt) → used s ≡ true → slice_get (graph_sites (job_graph j)) s ≡ Some x → IsPlainSite (job_graph j) used x

-- the sources of the versions are no sites outside the set
abbrev pub ArePlainVersions : JobView → (ℕ → Bool) → Option ℕ → List ℕ → Type 0
ArePlainVersions j used u cs = AllByRecursion (λ c. IsSourceIn used (source_at j u c)) cs
