-- The lines that are this program's own.
use Rattle.std.specs.Prelude.{ℕ, List, ◌++◌, codes, decimal, drop}
use Rattle.rdf_values.specs.{line}

-- how the command is called
abbrev pub usage_line : List ℕ
usage_line = line (codes "usage: rdf_chain run SCRIPT TABLE.. [--slots N] [--cluster N] | map SCRIPT NUMBER TABLE [--slots N] [--cluster N] | join SCRIPT PART.. | print SCRIPT COUNT PART")

-- the line of a table's refusal, with its name behind the first word
abbrev pub table_line : List ℕ → List ℕ → List ℕ
table_line name refused = codes "table " ++ name ++ drop 5 refused

abbrev pub differs_line : List ℕ → List ℕ
differs_line name = line (codes "file " ++ name ++ codes " differs")

abbrev pub file_refused_line : List ℕ → ℕ → List ℕ
file_refused_line name number = line (codes "file " ++ name ++ codes " refused at line " ++ decimal number)

abbrev pub uncovered_line : ℕ → List ℕ
uncovered_line file = line (codes "file " ++ decimal file ++ codes " isn't covered once")

abbrev pub long_files_line : List ℕ
long_files_line = line (codes "files longer than 1073741824 bytes")

abbrev pub long_part_line : List ℕ
long_part_line = line (codes "part longer than 134217728 bytes")
