-- The results, named filters and loops of a script by numbers.
use Rattle.std.specs.Prelude.{ℕ, suc, Bool, not, List, [], ◌∷◌, ◌++◌, map, length, Option, Some, None, if◌then◌else◌, slice_get, option_map, true, false}
use Rattle.rdf_values.specs.{ActionAt, among, Booked, Booking, bookings, Column, columns_of, covered, filled, FunctionNames, has_variations, makes, named_before, parent_of, Pass, Path, path, place, ReportOn, result_depends, same, Statement, Under, variations, ActionKind, NamedTree, Value}
use Rattle.rdf_values.specs.declared.scripts.statement.Statement.TheVariants.{Filter, Action, Report, Print}
use Rattle.rdf_model.specs.{loop_results, ◌>>=◌, Entry, feed_outcome, for_all, Gives, Outcome, Skip, truth_of}
use Rattle.graph_numbers.specs.Sites.{version_at, filter_sites, site_count, numbers_from}
use Rattle.graph_numbers.specs.declared.pass.ResultKind.{ResultKind}
use Rattle.graph_numbers.specs.declared.pass.Pass.{Pass as NumberedPass}

-- ---- variations

-- the places of the elements that pass the test, where the list's own are numbered from n on
abbrev pub places_from : {A : Type 0} → (A → Bool) → ℕ → List A → List ℕ
places_from test n [] = []
places_from test n (x ∷ xs) = if test x then n ∷ places_from test (suc n) xs else places_from test (suc n) xs

-- nominal, or the variation of that number
abbrev pub under_at : List Statement → Option ℕ → Under
under_at script None = None
under_at script (Some v) = slice_get (variations script) v

-- ---- named filters

-- a named filter: its label, the path that begins with it, and the sites of the filters above it and its own
pub record FilterAt : Type 0 where
  pub label : List ℕ
  pub at : Path
  pub sites : List ℕ

-- the number of a named Filter, which is numbered next
abbrev pub own_filter : Statement → ℕ → List ℕ
own_filter (Filter node parent expr (Some label)) next = next ∷ []
own_filter s next = []

-- the named filters of the path of a node, head first
abbrev pub filters_on : List Statement → List ℕ → List ℕ
filters_on [] node = []
filters_on (s ∷ before) node =
    if makes s node then filters_on before (parent_of s) ++ own_filter s (length (named_before before)) else filters_on before node

-- all of so many filters for the head, and otherwise those of the path
abbrev pub all_or : {A : Type 0} → Path → List A → List ℕ → List ℕ
all_or [] all on = numbers_from 0 all
all_or (s ∷ up) all on = on

-- the filters that a Report on a node covers
abbrev pub covered_at : List Statement → List ℕ → List ℕ
covered_at before node = all_or (path before node) (named_before before) (filters_on before node)

-- ---- results

-- a result, the sites of the filters above it, head first, the versions that it reads, and the filters that it covers
pub record ResultAt : Type 0 where
  pub booked : Booked
  pub filters : List ℕ
  pub inputs : List ℕ
  pub covers : List ℕ

-- what a result is
abbrev pub kind_of_booking : Booking → ResultKind
kind_of_booking (ActionAt k at) = ResultKind.Action k
kind_of_booking (ReportOn filters) = ResultKind.Report

-- over a table with these columns, with the caller's functions
module _ (header : List Column) (names : FunctionNames) where
  -- a named filter of that node after the statements before it
  abbrev pub filter_at : List Statement → List ℕ → List ℕ → NamedTree → List ℕ → FilterAt
  filter_at before node parent expr label =
      record {
        label = label;
        at = Filter node parent expr (Some label) ∷ path before parent;
        sites = filter_sites header names before parent ++ site_count header names before ∷ [];
      }

  -- the named filters of a statement after those before it
  abbrev pub own_filters : List Statement → Statement → List FilterAt
  own_filters before (Filter node parent expr (Some label)) = filter_at before node parent expr label ∷ []
  own_filters before s = []

  -- the named filters of the statements so far, in the order of booking
  abbrev pub filters : List Statement → List FilterAt
  filters [] = []
  filters (s ∷ before) = filters before ++ own_filters before s

  -- the result of an action on a node after the statements before it
  abbrev pub action_at : List Statement → List ℕ → List ℕ → ActionKind → ResultAt
  action_at before result parent k =
      record {
        booked = record { name = result; booking = ActionAt k (path before parent) };
        filters = filter_sites header names before parent;
        inputs = map (version_at header before parent) (columns_of k);
        covers = [];
      }

  -- and that of a Report
  abbrev pub report_at : List Statement → List ℕ → List ℕ → ResultAt
  report_at before result parent =
      record {
        booked = record { name = result; booking = ReportOn (covered before (path before parent)) };
        filters = filter_sites header names before parent;
        inputs = [];
        covers = covered_at before parent;
      }

  -- the results of a statement after those before it
  abbrev pub own_results : List Statement → Statement → List ResultAt
  own_results before (Action result parent k) = action_at before result parent k ∷ []
  own_results before (Report result parent) = report_at before result parent ∷ []
  own_results before s = []

  -- the results of the statements so far, in the order of booking
  abbrev pub results : List Statement → List ResultAt
  results [] = []
  results (s ∷ before) = results before ++ own_results before s

-- the number of the result of that name
abbrev pub result_number : List Statement → List ℕ → Option ℕ
result_number script name = place (λ (b : Booked). same b.name name) (bookings script)

-- ---- passes and loops

-- a pass by the numbers of its result and of its variation
abbrev pub numbered_pass : ℕ → Option ℕ → NumberedPass
numbered_pass result variation = record { result = result; variation = variation }

-- the pass of those numbers
abbrev pub pass_at : List Statement → NumberedPass → Option Pass
pass_at script p = option_map (λ b. record { result = b; under = under_at script p.variation }) (slice_get (bookings script) p.result)

-- of the whole script
module _ (script : List Statement) where
  -- the passes of a result by its number
  abbrev pub result_passes : ℕ → Booked → List NumberedPass
  result_passes n b =
      numbered_pass n None
      ∷ (if has_variations script b.name then map (λ v. numbered_pass n (Some v)) (places_from (λ v. result_depends v b.booking) 0 (variations script)) else [])

  -- the passes of the results that pass the test, numbered from n on
  abbrev pub passes_from : (Booked → Bool) → ℕ → List Booked → List NumberedPass
  passes_from test n [] = []
  passes_from test n (b ∷ bs) = (if test b then result_passes n b else []) ++ passes_from test (suc n) bs

  -- the loop of a Print: the passes of all results that wait, in the order of booking; none where its own result is filled
  abbrev pub own_loop : List Statement → Statement → List (List NumberedPass)
  own_loop before (Print result) =
      if among result (filled before) then [] else passes_from (λ (b : Booked). not (among b.name (filled before))) 0 (bookings before) ∷ []
  own_loop before s = []

  -- the loops of the statements so far
  abbrev pub loops : List Statement → List (List NumberedPass)
  loops [] = []
  loops (s ∷ before) = loops before ++ own_loop before s

-- the loop that a Print runs, which is numbered next; none where its result is filled
abbrev pub own_run : List Statement → Statement → List (Option ℕ)
own_run before (Print result) = (if among result (filled before) then None else Some (length (loop_results before))) ∷ []
own_run before s = []

-- for each Print of the statements so far the loop that it runs
abbrev pub runs : List Statement → List (Option ℕ)
runs [] = []
runs (s ∷ before) = runs before ++ own_run before s

-- ---- what an entry comes to in a pass, by the numbers of its filters' sites and of the versions that it reads

-- with what each site comes to
module _ {M : Type 0} (site : ℕ → Outcome M Value) where
  -- the entry passes the filters of these sites, head first
  abbrev pub through_sites : List ℕ → Outcome M Bool
  through_sites [] = Gives true
  through_sites (s ∷ ss) = site s >>= truth_of >>= λ passed. if passed then through_sites ss else Gives false

  -- the named filter of that number; nothing is tried where there is none
  abbrev pub through_filter : Option FilterAt → Outcome M Bool
  through_filter None = Gives true
  through_filter (Some f) = through_sites f.sites

  -- the named filters of these numbers in order, each with those above it
  abbrev pub report_numbers : List FilterAt → List ℕ → Outcome M Entry
  report_numbers filters [] = Gives Skip
  report_numbers filters (f ∷ fs) = through_filter (slice_get filters f) >>= λ passed. report_numbers filters fs

-- an action, with what each site and each version comes to: skipped where its filters stop the entry, and otherwise its versions in order
abbrev pub action_numbers : {M : Type 0} → (ℕ → Outcome M Value) → (ℕ → Outcome M Value) → ActionKind → ResultAt → Outcome M Entry
action_numbers site version k r = through_sites site r.filters >>= λ passed. if passed then for_all version r.inputs >>= feed_outcome k else Gives Skip

-- a result of that booking: an action by its filters and versions, a report by the filters that it covers, tried under nominal
abbrev pub booking_numbers : {M : Type 0} → (ℕ → Outcome M Value) → (ℕ → Outcome M Value) → (ℕ → Outcome M Value) → List FilterAt → ResultAt → Booking → Outcome M Entry
booking_numbers nominal site version filters r (ActionAt k at) = action_numbers site version k r
booking_numbers nominal site version filters r (ReportOn paths) = report_numbers nominal filters r.covers
