-- How many sites statements have, the numbers of their filters, and what is kept of columns, named filters, results and variations.
use Rattle.std.specs.Prelude.{◌≡◌, ⊤, ◌<◌, slice_get, ℕ, ◌+◌, Bool, true, false, List, [], ◌∷◌, ◌++◌, length, if◌then◌else◌, zero, suc, map, Option, Some, None, option_to_list, ◌*◌, take, sum_by, filter}
use Rattle.rdf_values.specs.{Column, FunctionNames, makes, NamedTree, parent_of, same, Statement, Variation, bookings, has_variations, among, Booked, filled, is_result, names_of, place, result_depends, variations}
use Rattle.rdf_values.specs.declared.scripts.statement.VaryValues.TheVariants.{Lists, Vector}
use Rattle.rdf_values.specs.declared.scripts.statement.Statement.TheVariants.{Define, Redefine, Filter, Vary, Print, VariationsFor, Action, Report}
use Rattle.std.specs.List.{list_any, AllZip}
use Rattle.graph_numbers.specs.{filter_sites, kind_of_booking, ResultAt, IsSourceOf, site_count, Source, Version, holds_at, loops, numbered_pass, Pass, result_number}
use Rattle.graph.specs.declared.tables.ResultPath.{ResultPath}
use Rattle.graph.specs.Dependence.{members_below, has}
use Rattle.graph.specs.declared.tables.ResultRow.{ResultRow}
use Rattle.graph.specs.declared.amounts.Amounts.{Amounts}
use Rattle.rdf_model.specs.{Access, accesses, loop_results}
use Rattle.graph.specs.declared.loops.LoopTables.{LoopTables}

-- how many expressions lists have
abbrev pub expression_total : List (List NamedTree) → ℕ
expression_total [] = 0
expression_total (es ∷ lists) = length es + expression_total lists

abbrev pub own_site_total : Statement → ℕ
own_site_total (Define node parent column expr) = 1
own_site_total (Redefine node parent column expr) = 1
own_site_total (Filter node parent expr label) = 1
own_site_total (Vary node parent columns (Lists lists) tags vary) = expression_total lists
own_site_total (Vary node parent columns (Vector e) tags vary) = 1
own_site_total s = 0

abbrev pub site_total : List Statement → ℕ
site_total [] = 0
site_total (s ∷ before) = site_total before + own_site_total s

abbrev pub is_filter : Statement → Bool
is_filter (Filter node parent expr label) = true
is_filter s = false

-- the number of a Filter's site, which is numbered next
abbrev pub own_number : Bool → ℕ → List ℕ
own_number true next = next ∷ []
own_number false next = []

-- the numbers of the sites of the filters above a node, head first
abbrev pub filter_numbers : List Statement → List ℕ → List ℕ
filter_numbers [] node = []
filter_numbers (s ∷ before) node =
    if makes s node then filter_numbers before (parent_of s) ++ own_number (is_filter s) (site_total before) else filter_numbers before node

-- so many numbers from the first on
abbrev pub count_from : ℕ → ℕ → List ℕ
count_from n zero = []
count_from n (suc k) = n ∷ count_from (suc n) k

-- ---- versions

-- the table's columns, numbered from n on
abbrev pub cell_rows : ℕ → List Column → List Version
cell_rows n [] = []
cell_rows n (c ∷ cs) = Version.Cell n ∷ cell_rows (suc n) cs

-- each version says its source, or that it is the one of the version below it: the sources are those of the versions
abbrev pub AreSourcesOf : List Version → Option ℕ → List Source → Type 0
AreSourcesOf versions u sources = (c : ℕ) (x : Version) → slice_get versions c ≡ Some x → IsSourceOf (slice_get sources) u x (slice_get sources c)

-- a Vary has a site for each tag, or one
abbrev pub HasSites : Bool → ℕ → ℕ → Type 0
HasSites false count tags = count ≡ tags
HasSites true count tags = count ≡ 1

-- a version stands above the one below it
abbrev pub IsAbove : ℕ → Version → Type 0
IsAbove c (Version.Varied below first tags sites vector) = (below < c) × HasSites vector (length sites) tags
IsAbove c x = ⊤

abbrev pub AreAbove : List Version → Type 0
AreAbove versions = (c : ℕ) (x : Version) → slice_get versions c ≡ Some x → IsAbove c x

-- ---- named filters

-- the statement is a named Filter
abbrev pub is_named : Statement → Bool
is_named (Filter node parent expr (Some label)) = true
is_named s = false

-- the label of a named Filter
abbrev pub own_label : Statement → Option (List ℕ)
own_label (Filter node parent expr label) = label
own_label s = None

-- the labels of the named filters, in the order of booking
abbrev pub labels : List Statement → List (List ℕ)
labels [] = []
labels (s ∷ before) = labels before ++ option_to_list (own_label s)

-- the sites of a Filter at a node, where it is named: of those above it, and its own
abbrev pub named_rows : List Column → FunctionNames → List Statement → List ℕ → Option (List ℕ) → List (List ℕ)
named_rows header names before parent (Some label) = (filter_sites header names before parent ++ site_count header names before ∷ []) ∷ []
named_rows header names before parent None = []

-- ---- results

-- a result as it is kept
abbrev pub result_path : ResultAt → ResultPath
result_path x = record { kind = kind_of_booking x.booked.booking; filters = x.filters; inputs = x.inputs; covers = x.covers }

-- an earlier Vary has the name
abbrev pub is_taken : List Variation → List ℕ → Bool
is_taken vs name = list_any (λ (v : Variation). same v.name name) vs

-- one variation for each tag
abbrev pub named : List ℕ → List (List ℕ) → List Variation
named name tags = map (λ t. record { name = name; tag = t }) tags

-- ---- how many histogram cells and Takes the passes of results have, by the rows of the results

-- the statements, and where a result is given one more that asks for its variations
abbrev pub asked_after : Option (List ℕ) → List Statement → List Statement
asked_after None before = before
asked_after (Some result) before = VariationsFor result ∷ before

-- the passes of a result: the nominal one, and one for each variation on which it depends, where these are asked for
abbrev pub row_passes : List Statement → ResultRow → ℕ
row_passes script r = suc (if has_variations script r.name then members_below r.set 128 else 0)

abbrev pub cells_in : List Statement → List ResultRow → ℕ
cells_in script rows = sum_by (λ (r : ResultRow). row_passes script r * r.cells) rows

abbrev pub takes_in : List Statement → List ResultRow → ℕ
takes_in script rows = sum_by (λ (r : ResultRow). row_passes script r * r.takes) rows

-- the rows of that name
abbrev pub rows_named : List ℕ → List ResultRow → List ResultRow
rows_named name rows = filter (λ (r : ResultRow). same r.name name) rows

-- those of the rows, where a name is given
abbrev pub rows_of : Option (List ℕ) → List ResultRow → List ResultRow
rows_of None rows = rows
rows_of (Some name) rows = rows_named name rows

-- the rows of the results that are printed, once for each Print, of those that are booked before it
abbrev pub printed_rows : List Statement → List ResultRow → List ResultRow
printed_rows [] rows = []
printed_rows (Print p ∷ before) rows = rows_named p (take (length (bookings before)) rows) ++ printed_rows before rows
printed_rows (s ∷ before) rows = printed_rows before rows

-- the cells and Takes of all passes of those results
pub record IsAmount (script : List Statement) (rows : List ResultRow) (a : Amounts) : Type 0 where
  pub cells : a.cells ≡ cells_in script rows
  pub takes : a.takes ≡ takes_in script rows

-- ---- the loops and Prints of a script, as they are listed while its lines are walked: statements

-- a result that is booked is new, and one that is printed isn't
abbrev pub IsNamedInTurn : List Statement → Statement → Type 0
IsNamedInTurn before (Action result parent k) = is_result before result ≡ false
IsNamedInTurn before (Report result parent) = is_result before result ≡ false
IsNamedInTurn before (Print result) = is_result before result ≡ true
IsNamedInTurn before s = ⊤

abbrev pub AreNamedInTurn : List Statement → Type 0
AreNamedInTurn [] = ⊤
AreNamedInTurn (s ∷ before) = IsNamedInTurn before s × AreNamedInTurn before

-- how many results are filled after the statements so far: all that were booked before the latest Print that filled any
abbrev pub filled_count : List Statement → ℕ
filled_count [] = 0
filled_count (Print p ∷ before) = if among p (filled before) then filled_count before else length (bookings before)
filled_count (s ∷ before) = filled_count before

-- ---- passes

-- the members among so many numbers from v on
abbrev pub members_from : (ℕ → Bool) → ℕ → ℕ → List ℕ
members_from test v zero = []
members_from test v (suc k) = if test v then v ∷ members_from test (suc v) k else members_from test (suc v) k

-- a result's name, and the variations on which it depends
pub record IsRowOf (script : List Statement) (b : Booked) (r : ResultRow) : Type 0 where
  pub name : r.name ≡ b.name
  pub set : (v : ℕ) → has r.set v ≡ holds_at (λ w. result_depends w b.booking) (slice_get (variations script) v)

-- one for each result
abbrev pub AreRowsOf : List Statement → List Booked → List ResultRow → Type 0
AreRowsOf script bs rs = AllZip (IsRowOf script) bs rs

-- the passes of results that are numbered from n on, over so many variations
abbrev pub passes_of_row : List Statement → ℕ → ℕ → ResultRow → List Pass
passes_of_row script count n r =
    numbered_pass n None ∷ (if has_variations script r.name then map (λ v. numbered_pass n (Some v)) (members_from (has r.set) 0 count) else [])

abbrev pub passes_of_rows : List Statement → ℕ → ℕ → List ResultRow → List Pass
passes_of_rows script count n [] = []
passes_of_rows script count n (r ∷ rs) = passes_of_row script count n r ++ passes_of_rows script count (suc n) rs

-- ---- the lists

-- the place of the loop that fills the result of that name
abbrev pub filler_of : List Statement → List ℕ → Option ℕ
filler_of before name = place (λ bs. among name (names_of bs)) (loop_results before)

-- the lists are those of the statements before, which belong to the script, where these accesses are listed
pub record AreLoopsOf (script before : List Statement) (listed : List Access) (t : LoopTables) : Type 0 where
  pub loops : t.loops.items ≡ loops script before
  pub prints : map (λ n. Some n) t.prints.items ≡ map (λ (a : Access). result_number script a.result) listed
  pub filling : map (λ n. Some n) t.filling.items ≡ map (λ (a : Access). filler_of before a.result) listed
  pub count : length t.fillers.items ≡ filled_count before
  pub fillers : (n l : ℕ) (b : Booked) → slice_get t.fillers.items n ≡ Some l → slice_get (bookings script) n ≡ Some b → filler_of before b.name ≡ Some l

abbrev pub AreLoops : List Statement → List Statement → LoopTables → Type 0
AreLoops script before t = AreLoopsOf script before (accesses before) t

-- the results of the former are the first of the latter's
abbrev pub BeginsWith : List Statement → List Statement → Type 0
BeginsWith script before = take (length (bookings before)) (bookings script) ≡ bookings before
