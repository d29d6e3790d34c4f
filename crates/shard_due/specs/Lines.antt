-- The lines that are this program's own.
use Rattle.std.specs.Prelude.{ℕ, List, ◌++◌, codes, decimal}
use Rattle.rdf_values.specs.{line}

-- how the command is called
abbrev pub usage_line : List ℕ
usage_line = line (codes "usage: rdf_shard run SCRIPT TABLE SIZE LO HI | merge SCRIPT FILE")

abbrev pub span_line : List ℕ
span_line = line (codes "span refused")

abbrev pub file_refused_line : List ℕ → ℕ → List ℕ
file_refused_line name number = line (codes "file " ++ name ++ codes " refused at line " ++ decimal number)

abbrev pub differs_line : List ℕ → List ℕ
differs_line name = line (codes "file " ++ name ++ codes " differs")

abbrev pub uncovered_line : ℕ → List ℕ
uncovered_line cluster = line (codes "cluster " ++ decimal cluster ++ codes " isn't covered once")

abbrev pub long_files_line : List ℕ
long_files_line = line (codes "files longer than 134217728 bytes")
