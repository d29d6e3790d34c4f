-- What a statement is checked in: what stands before it, as contracts name it.
use Rattle.std.specs.Prelude.{ℕ, List, length, Option}
use Rattle.rdf_values.specs.{check, GraphCause, NamedTree, Scope, scope_at, scope_of, Statement, variations}
use Rattle.expr_check.specs.{CheckedExpr}
use Rattle.graph_numbers.specs.{named_version, site_count, varied_versions, Version}
use Rattle.graph.specs.Gains.{IsBookedRow, IsGain, IsCheckedAt, statements}
use Rattle.graph.specs.Checks.{AllCheckedAt, Appends}
use Rattle.graph.specs.Dependence.{changed_set, Numbers}
use Rattle.graph.specs.declared.before.Before.{Before}
use Rattle.graph.specs.declared.tables.Change.{Change}
use Rattle.graph.specs.declared.tables.Tables.{Tables}
use Rattle.graph.specs.declared.tables.ResultRow.{ResultRow}

module _ (b : Before) where
  -- the statements so far, the latest first
  abbrev pub history : List Statement
  history = statements b.lines.now

  -- how many variations they make
  abbrev pub variation_count : ℕ
  variation_count = length (variations (statements b.lines.now))

  -- how many sites they make
  abbrev pub sites_so_far : ℕ
  sites_so_far = site_count b.header.now b.names.now (statements b.lines.now)

  -- what is visible at a node
  abbrev pub scope_before : List ℕ → Scope
  scope_before node = scope_at b.names.now (scope_of b.header.now) (statements b.lines.now) node

  -- why the next statement is refused, if it is
  abbrev pub verdict_after : Statement → Option GraphCause
  verdict_after s = check b.names.now (scope_of b.header.now) (statements b.lines.now) s

  -- the next statement is accepted, and adds this
  abbrev pub IsGainAfter : Statement → Tables → Type 0
  IsGainAfter s g = IsGain b.header.now b.names.now (statements b.lines.now) s g

  -- the row of the result that the next statement books
  abbrev pub IsRowAfter : Statement → ResultRow → Type 0
  IsRowAfter s r = IsBookedRow b.header.now b.names.now (statements b.lines.now) s r

  -- an expression at a node, checked and over versions
  abbrev pub IsCheckedBefore : List ℕ → NamedTree → CheckedExpr → Type 0
  IsCheckedBefore node e c = IsCheckedAt b.header.now b.names.now (statements b.lines.now) node e c

  -- each of several is
  abbrev pub AreCheckedBefore : List ℕ → List NamedTree → List CheckedExpr → Type 0
  AreCheckedBefore node es cs = AllCheckedAt b.header.now b.names.now (statements b.lines.now) node es cs

  -- they are, and were appended
  abbrev pub AppendsChecked : List ℕ → List NamedTree → List CheckedExpr → List CheckedExpr → Type 0
  AppendsChecked node es old new = Appends b.header.now b.names.now (statements b.lines.now) node es old new

  -- the version of a column at a node that is no alias
  abbrev pub named_version_before : List ℕ → List ℕ → ℕ
  named_version_before node name = named_version b.header.now (statements b.lines.now) node name

  -- the variations on which a column depends that a Vary of so many tags changes at a node
  abbrev pub set_changed : List ℕ → ℕ → List ℕ → Numbers
  set_changed node tags name = changed_set b.header.now (statements b.lines.now) b.tables.now.version_sets.items node variation_count tags name

  -- the versions that a Vary makes of columns, from a place among them on
  abbrev pub versions_changed : Change → ℕ → List (List ℕ) → List Version
  versions_changed c i columns = varied_versions b.header.now b.names.now (statements b.lines.now) c.parent.now c.values.now c.tags.now i columns
