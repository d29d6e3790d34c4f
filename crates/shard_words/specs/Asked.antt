-- What the words ask for.
use Rattle.std.specs.Prelude.{ℕ, ◌&&◌, List, [], ◌∷◌, Option, Some, None, if◌then◌else◌, codes, bytes_eq, length, nat_le, nat_lt}
use Rattle.command_words.specs.{number_of}
use Rattle.shard_words.specs.declared.command.ShardCommand.{ShardCommand}
use Rattle.shard_words.specs.declared.command.ShardCommand.TheVariants.{Run, Merge}

-- a run, where its numbers are there
abbrev pub run_with : List ℕ → List ℕ → Option ℕ → Option ℕ → Option ℕ → Option ShardCommand
run_with script table None lo hi = None
run_with script table (Some size) None hi = None
run_with script table (Some size) (Some lo) None = None
run_with script table (Some size) (Some lo) (Some hi) = Some (Run (record { script = script; table = table; size = size; clusters = record { lo = lo; hi = hi } }))

-- a script, a table, the size of clusters and the ends of a span
abbrev pub run_of : List (List ℕ) → Option ShardCommand
run_of (script ∷ table ∷ size ∷ lo ∷ hi ∷ []) = run_with script table (number_of 1 1000000 size) (number_of 0 1000000 lo) (number_of 0 1000000 hi)
run_of words = None

-- the merging of 1 to 64 files
abbrev pub merge_with : List ℕ → List (List ℕ) → Option ShardCommand
merge_with script files = if nat_lt 0 (length files) && nat_le (length files) 64 then Some (Merge (record { script = script; files = files })) else None

-- a script and files
abbrev pub merge_of : List (List ℕ) → Option ShardCommand
merge_of [] = None
merge_of (script ∷ files) = merge_with script files

-- the first word says what is done
abbrev pub asked_for : List ℕ → List (List ℕ) → Option ShardCommand
asked_for word words = if bytes_eq word (codes "run") then run_of words else (if bytes_eq word (codes "merge") then merge_of words else None)

-- what the words ask for
abbrev pub asked_of : List (List ℕ) → Option ShardCommand
asked_of [] = None
asked_of (word ∷ words) = asked_for word words
