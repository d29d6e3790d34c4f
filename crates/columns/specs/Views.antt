-- What a contract sees of columns: a table, and how its entries are cut.
use Rattle.std.specs.Prelude.{◌≡◌, ℕ, ◌≤◌, ◌<◌, List, [], ◌∷◌, All, slice_get, Some, length, slice_index}
use Rattle.rdf_values.specs.{AreMarks, cut, Span, TableView}
use Rattle.columns.specs.declared.cuts.Ranges.{Ranges}

-- ---- what a contract sees of cuts, and how their ranges are kept

-- so many entries, cut at the marks into clusters of at most this size
pub record CutsView : Type 0 where
  pub entries : ℕ
  pub size : ℕ
  pub marks : List ℕ

-- what all cuts meet
pub record AreCuts (c : CutsView) : Type 0 where
  pub few : c.entries ≤ 1000000
  pub some : 1 ≤ c.size
  pub marks : AreMarks c.marks
  pub within : All (λ m. m < c.entries) c.marks

-- ranges that follow one another from a number on, of which these are the ends
abbrev pub ranges_to : ℕ → List ℕ → List Span
ranges_to lo [] = []
ranges_to lo (hi ∷ his) = record { lo = lo; hi = hi } ∷ ranges_to hi his

-- without a mark the ranges are computed, with one their ends are kept
abbrev pub HoldRanges : CutsView → Ranges → Type 0
HoldRanges c Ranges.Even = c.marks ≡ []
HoldRanges c (Ranges.Marked ends) = ranges_to 0 ends ≡ cut c.entries c.size c.marks

pub record HoldCuts (c : CutsView) (ranges : Ranges) : Type 0 where
  pub valid : AreCuts c
  pub kept : HoldRanges c ranges

pub record ColumnsView : Type 0 where
  pub table : TableView
  pub cuts : CutsView

-- ---- which range holds a number

-- the range at this place holds the number
pub record Holds (ranges : List Span) (number place : ℕ) : Type 0 where
  pub range : Span
  pub stands : slice_get ranges place ≡ Some range
  pub from : range.lo ≤ number
  pub below : number < range.hi

-- each number from one to below another is held by one range and no other
abbrev pub IsInOne : List Span → ℕ → ℕ → Type 0
IsInOne ranges from to = (number : ℕ) → from ≤ number → number < to → (place : ℕ) × Holds ranges number place × ((other : ℕ) → Holds ranges number other → other ≡ place)

-- ---- where a walk over entries stands in marks

-- the marks before a place are below the entry
pub record IsPassed (marks : List ℕ) (next entry : ℕ) : Type 0 where
  pub below : (k : ℕ) → k < next → slice_index marks k < entry

-- the marks from a place on aren't
pub record IsAhead (marks : List ℕ) (next entry : ℕ) : Type 0 where
  pub above : (k : ℕ) → next ≤ k → k < length marks → entry ≤ slice_index marks k
