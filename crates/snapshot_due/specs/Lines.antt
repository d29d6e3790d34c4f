-- The lines that are this program's own.
use Rattle.std.specs.Prelude.{ℕ, List, [], ◌∷◌, ◌++◌, codes, decimal, slice_get, unwrap_or}
use Rattle.rdf_values.specs.{line}
use Rattle.rdf_model.specs.{fault_name}
use Rattle.snapshot_plan.specs.{SnapCause, Under}
use Rattle.snapshot_plan.specs.declared.under.Under.TheVariants.{Nominal, Varied}
use Rattle.snapshot_rows.specs.{SnapFault}
use Rattle.snapshot_words.specs.{SnapCommand}

-- how the command is called
abbrev pub usage_line : List ℕ
usage_line = line (codes "usage: rdf_snapshot SCRIPT TABLE NODE COLUMNS UNDER [--slots N] [--cluster N]")

-- ---- why there is no plan

-- as the word says it
abbrev pub under_text : Under → List ℕ
under_text Nominal = codes "nominal"
under_text (Varied name tag) = name ++ 58 ∷ tag

abbrev pub column_name : SnapCommand → ℕ → List ℕ
column_name c i = unwrap_or (slice_get c.columns i) []

abbrev pub cause_line : SnapCommand → SnapCause → List ℕ
cause_line c SnapCause.BadNode = line (codes "no node " ++ c.node)
cause_line c (SnapCause.BadColumn i) = line (codes "no column " ++ column_name c i)
cause_line c SnapCause.BadVariation = line (codes "no variation " ++ under_text c.under)
cause_line c (SnapCause.TooMany n) = line (codes "too many columns")

-- ---- why there is no text

-- the first fault, at an entry of that node
abbrev pub fault_line : List ℕ → SnapFault → List ℕ
fault_line node f = line (codes "fault at entry " ++ decimal f.entry ++ codes " in " ++ node ++ codes ": " ++ fault_name f.kind)

abbrev pub long_line : List ℕ
long_line = line (codes "snapshot longer than 67108864 bytes")
