-- What the words ask for.
use Rattle.std.specs.Prelude.{ℕ, Bool, true, false, ◌||◌, List, [], ◌∷◌, Option, Some, None, is_some, if◌then◌else◌, codes, length, nat_lt, unwrap_or}
use Rattle.rdf_values.specs.{same}
use Rattle.chain_words.specs.Reading.{no_words, number_in, words_read}
use Rattle.chain_words.specs.declared.command.ChainCommand.{ChainCommand}
use Rattle.chain_words.specs.declared.command.ChainCommand.TheVariants.{Run, Map, Join, Print}
use Rattle.chain_words.specs.declared.command.Settings.{Settings}
use Rattle.chain_words.specs.declared.reading.Awaits.{Awaits}
use Rattle.chain_words.specs.declared.reading.WordsRead.{WordsRead}

abbrev pub settings_of : WordsRead → Settings
settings_of r = record { slots = unwrap_or r.slots 1; cluster = unwrap_or r.cluster 10000 }

abbrev pub has_options : WordsRead → Bool
has_options r = is_some r.slots || is_some r.cluster

-- ---- the four commands, by what was read behind them

-- a script and 1 to 16,384 tables
abbrev pub run_of : List (List ℕ) → Settings → Option ChainCommand
run_of (script ∷ table ∷ tables) settings = if nat_lt 16384 (length (table ∷ tables)) then None else Some (Run (record { script = script; tables = table ∷ tables; settings = settings }))
run_of names settings = None

abbrev pub map_with : List ℕ → Option ℕ → List ℕ → Settings → Option ChainCommand
map_with script None table settings = None
map_with script (Some number) table settings = Some (Map (record { script = script; number = number; table = table; settings = settings }))

-- a script, the number of a file and its table
abbrev pub map_of : List (List ℕ) → Settings → Option ChainCommand
map_of (script ∷ number ∷ table ∷ []) settings = map_with script (number_in 0 16777215 number) table settings
map_of names settings = None

-- a script and 1 to 4,096 parts
abbrev pub join_of : List (List ℕ) → Option ChainCommand
join_of (script ∷ part ∷ parts) = if nat_lt 4096 (length (part ∷ parts)) then None else Some (Join (record { script = script; parts = part ∷ parts }))
join_of names = None

abbrev pub print_with : List ℕ → Option ℕ → List ℕ → Option ChainCommand
print_with script None part = None
print_with script (Some count) part = Some (Print (record { script = script; count = count; part = part }))

-- a script, the number of files and a part
abbrev pub print_of : List (List ℕ) → Option ChainCommand
print_of (script ∷ count ∷ part ∷ []) = print_with script (number_in 1 16777216 count) part
print_of names = None

-- join and print take no options
abbrev pub command_by : List ℕ → WordsRead → Option ChainCommand
command_by word r =
    if same word (codes "run") then run_of r.names (settings_of r)
    else (if same word (codes "map") then map_of r.names (settings_of r)
    else (if has_options r then None
    else (if same word (codes "join") then join_of r.names else (if same word (codes "print") then print_of r.names else None))))

-- ---- all words

-- an option at the end lacks its value
abbrev pub is_over : Awaits → Bool
is_over Awaits.Any = true
is_over Awaits.Name = true
is_over Awaits.Slots = false
is_over Awaits.Cluster = false

abbrev pub command_of : List ℕ → Option WordsRead → Option ChainCommand
command_of word None = None
command_of word (Some r) = if is_over r.awaits then command_by word r else None

-- what the words ask for, the first of which says what is done
abbrev pub asked_of : List (List ℕ) → Option ChainCommand
asked_of [] = None
asked_of (word ∷ words) = command_of word (words_read no_words words)
