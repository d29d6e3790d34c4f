-- The results that a script books, their passes, and which of them an access fills.
use Rattle.std.specs.Prelude.{ℕ, Bool, false, not, ◌||◌, List, [], ◌∷◌, ◌++◌, map, Option, Some, None, if◌then◌else◌, filter}
use Rattle.std.specs.List.{list_any}
use Rattle.rdf_values.specs.scripts.Names.{same, among}
use Rattle.rdf_values.specs.scripts.Nodes.{Path, Variation, Under, path, variations}
use Rattle.rdf_values.specs.scripts.Depends.{column_depends, filters_depend}
use Rattle.rdf_values.specs.declared.scripts.statement.Statement.{Statement}
use Rattle.rdf_values.specs.declared.scripts.statement.Statement.TheVariants.{Filter, Action, Report, VariationsFor, Watch, Print}
use Rattle.rdf_values.specs.declared.scripts.statement.ActionKind.{ActionKind}

-- the weight's column, where there is one
abbrev pub weight_column : Option (List ℕ) → List (List ℕ)
weight_column None = []
weight_column (Some w) = w ∷ []

-- the columns that an action reads, in written order
abbrev pub columns_of : ActionKind → List (List ℕ)
columns_of ActionKind.Count = []
columns_of (ActionKind.Sum c) = c ∷ []
columns_of (ActionKind.Min c) = c ∷ []
columns_of (ActionKind.Max c) = c ∷ []
columns_of (ActionKind.Take c) = c ∷ []
columns_of (ActionKind.Reduce o c) = c ∷ []
columns_of (ActionKind.Histo1D edges x w) = x ∷ weight_column w
columns_of (ActionKind.Histo2D xs ys x y w) = x ∷ y ∷ weight_column w

-- ---- named filters

-- the named filters of a path, head first, each as the path that begins with it
abbrev pub named_on : Path → List Path
named_on [] = []
named_on (Filter node parent expr (Some label) ∷ up) = named_on up ++ (Filter node parent expr (Some label) ∷ up) ∷ []
named_on (s ∷ up) = named_on up

-- the named filters among the statements so far, in the order of booking
abbrev pub named_before : List Statement → List Path
named_before [] = []
named_before (Filter node parent expr (Some label) ∷ before) =
    named_before before ++ (Filter node parent expr (Some label) ∷ path before parent) ∷ []
named_before (s ∷ before) = named_before before

-- the filters that a Report covers: on the head all that were booked before it, elsewhere those of the path
abbrev pub covered : List Statement → Path → List Path
covered before [] = named_before before
covered before (s ∷ up) = named_on (s ∷ up)

-- ---- results

-- what was booked: an action at the end of a path, or a report on filters
pub data Booking : Type 0 where
  ActionAt : (k : ActionKind) (at : Path) → Booking
  ReportOn : (filters : List Path) → Booking

-- a result: its name, and what was booked under it
pub record Booked : Type 0 where
  pub name : List ℕ
  pub booking : Booking

-- the result that a statement books, by the statements before it
abbrev pub booked_by : List Statement → Statement → List Booked
booked_by before (Action result parent k) = record { name = result; booking = ActionAt k (path before parent) } ∷ []
booked_by before (Report result parent) = record { name = result; booking = ReportOn (covered before (path before parent)) } ∷ []
booked_by before s = []

-- the results of the statements so far, in the order of booking
abbrev pub bookings : List Statement → List Booked
bookings [] = []
bookings (s ∷ before) = bookings before ++ booked_by before s

-- the names of results
abbrev pub names_of : List Booked → List (List ℕ)
names_of bs = map (λ (b : Booked). b.name) bs

-- the results of that name
abbrev pub results_named : List ℕ → List Booked → List Booked
results_named name bs = filter (λ (b : Booked). same b.name name) bs

-- a result depends on the variation: a filter above it or a column of its action does
abbrev pub result_depends : Variation → Booking → Bool
result_depends v (ActionAt k at) = filters_depend v at || list_any (column_depends v at) (columns_of k)
result_depends v (ReportOn filters) = false

-- the statements ask for the variations of the result
abbrev pub has_variations : List Statement → List ℕ → Bool
has_variations [] name = false
has_variations (VariationsFor result ∷ before) name = same result name || has_variations before name
has_variations (s ∷ before) name = has_variations before name

-- the statements ask for partial results of the result
abbrev pub is_watched : List Statement → List ℕ → Bool
is_watched [] name = false
is_watched (Watch result ∷ before) name = same result name || is_watched before name
is_watched (s ∷ before) name = is_watched before name

-- ---- passes

-- a pass: a result under nominal or under one variation
pub record Pass : Type 0 where
  pub result : Booked
  pub under : Under

-- the passes of a result under the variations on which it depends, in the order of their numbers
abbrev pub varied_passes : List Statement → Booked → List Pass
varied_passes script b =
    map (λ v. record { result = b; under = Some v }) (filter (λ v. result_depends v b.booking) (variations script))

-- the passes of a result: the nominal one, and where they are asked for those under its variations
abbrev pub passes_of : List Statement → Booked → List Pass
passes_of script b = record { result = b; under = None } ∷ (if has_variations script b.name then varied_passes script b else [])

-- ---- what is filled

-- the names of the results that are filled after the statements so far: a Print of one that isn't fills all booked before it
abbrev pub filled : List Statement → List (List ℕ)
filled [] = []
filled (Print p ∷ before) = if among p (filled before) then filled before else names_of (bookings before)
filled (s ∷ before) = filled before

-- the results that were booked and aren't filled
abbrev pub waiting : List Statement → List Booked
waiting before = filter (λ (b : Booked). not (among b.name (filled before))) (bookings before)
