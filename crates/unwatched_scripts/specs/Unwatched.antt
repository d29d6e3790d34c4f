-- A script without its Watch lines.
use Rattle.std.specs.Prelude.{Bool, true, false, not, filter}
use Rattle.rdf_values.specs.{Line, Script, Statement}
use Rattle.rdf_values.specs.declared.scripts.statement.Statement.TheVariants.{Watch}

-- the statement asks for partial results
abbrev pub is_watch : Statement → Bool
is_watch (Watch result) = true
is_watch s = false

-- the other lines, with the numbers that they have
abbrev pub unwatched : Script → Script
unwatched script = record { lines = filter (λ (l : Line). not (is_watch l.statement)) script.lines }
