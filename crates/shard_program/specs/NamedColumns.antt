-- Columns with names.
use Rattle.std.specs.Prelude.{◌≡◌, true, List}
use Rattle.std.specs.List.{list_all}
use Rattle.rdf_values.specs.{Column, is_name}

-- each column has a name
abbrev pub AreNamed : List Column → Type 0
AreNamed columns = list_all (λ (c : Column). is_name c.name) columns ≡ true
