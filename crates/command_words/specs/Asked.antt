-- What the command's words ask for.
use Rattle.std.specs.Prelude.{Bool, true, false, List, [], ◌∷◌, Some, codes, ℕ, ℤ, pos, ◌&&◌, leb, Option, None, option_map, if◌then◌else◌, bytes_eq, ◌≡◌, ◌≤◌, ⊤}
use Rattle.clap.specs.Words.{App, Kinds, Rule, Text, new_app, new_rule, with_rule, fault_of, Row, first_of, matches_of}
use Rattle.clap.specs.Simple.{on_top}
use Rattle.clap.specs.declared.builder.action.ArgAction.TheVariants.{Set, SetTrue}
use Rattle.rdf_values.specs.{integer_of, is_name}
use Rattle.command_words.specs.declared.command.Command.{Command}
use Rattle.command_words.specs.declared.command.Friend.{Friend}
use Rattle.command_words.specs.declared.command.Input.{Input}
use Rattle.command_words.specs.declared.command.Input.TheVariants.{Files, Generated}

-- ---- the command of the program, and when it takes the words

-- a required positional
abbrev pub positional : Text → Rule
positional id = record (new_rule id) { required = true }

-- `--id VALUE`
abbrev pub option : Text → Rule
option id = record (new_rule id) { long = Some id; action = Some Set }

-- `--id`
abbrev pub flag : Text → Rule
flag id = record (new_rule id) { long = Some id; action = Some SetTrue }

-- `rdf SCRIPT TABLE [--slots N] [--cluster N] [--watch K] [--make] [--friend FILE] [--key NAME] [--missing N]`, over the words after the program's name
unfoldable pub rdf_command : App
rdf_command =
    with_rule (with_rule (with_rule (with_rule (with_rule (with_rule (with_rule (with_rule (with_rule
    (on_top (λ s. record s { no_binary_name = true }) (new_app (codes "rdf")))
    (positional (codes "SCRIPT"))) (positional (codes "TABLE")))
    (option (codes "slots"))) (option (codes "cluster"))) (option (codes "watch"))) (flag (codes "make")))
    (option (codes "friend"))) (option (codes "key"))) (option (codes "missing"))

abbrev pub has_none : Kinds → Bool
has_none [] = true
has_none (k ∷ ks) = false

-- no step of the parse refuses the words
unfoldable pub is_taken : List Text → Bool
is_taken words = has_none (fault_of rdf_command words)

abbrev pub within : ℕ → ℕ → Option ℤ → Option ℕ
within least most (Some (pos n)) = if leb least n && leb n most then Some n else None
within least most o = None

-- the number that the text is canonical for, within the limits
unfoldable pub number_of : ℕ → ℕ → Text → Option ℕ
number_of least most text = within least most (integer_of text)

-- the number of an option, which may be left out; at least 1
abbrev pub setting_of : ℕ → ℕ → Option Text → Option ℕ
setting_of usual most None = Some usual
setting_of usual most (Some text) = number_of 1 most text

abbrev pub is_set : Option Text → Bool
is_set None = false
is_set (Some text) = bytes_eq text (codes "true")

abbrev pub generated_by : Option ℕ → Option ℕ → Option Input
generated_by (Some entries) (Some seed) = Some (Generated entries seed)
generated_by entries seed = None

-- ---- the friend

-- the number for what is missing, which may be left out
abbrev pub missing_of : Option Text → Option ℤ
missing_of None = Some (pos 0)
missing_of (Some text) = integer_of text

-- the friend in a file, where its key is a name and the number canonical
abbrev pub friend_with : Text → Text → Option ℤ → Option Friend
friend_with file key None = None
friend_with file key (Some missing) = if is_name key then Some (record { file = file; key = key; missing = missing }) else None

-- no friend, or one: the file and the key come together, and the number only with them
abbrev pub friend_from : Option Text → Option Text → Option Text → Option (Option Friend)
friend_from None None None = Some None
friend_from (Some file) (Some key) number = option_map Some (friend_with file key (missing_of number))
friend_from file key number = None

-- ---- the input

-- the names of two files, and maybe a friend; or with the flag the numbers of entries and of the seed
abbrev pub input_from : Bool → Option Text → Option Text → Option Friend → Option Input
input_from is_made None second friend = None
input_from is_made (Some first) None friend = None
input_from false (Some first) (Some second) friend = Some (Files first second friend)
input_from true (Some first) (Some second) (Some friend) = None
input_from true (Some first) (Some second) None = generated_by (number_of 1 1000000 first) (number_of 0 4294967295 second)

-- the input, where the words of a friend break no rule
abbrev pub input_with : Option (Option Friend) → (Option Friend → Option Input) → Option Input
input_with None input = None
input_with (Some friend) input = input friend

unfoldable pub input_of : List Row → Option Input
input_of rows =
    input_with (friend_from (first_of (codes "friend") rows) (first_of (codes "key") rows) (first_of (codes "missing") rows))
    (λ friend. input_from (is_set (first_of (codes "make") rows)) (first_of (codes "SCRIPT") rows) (first_of (codes "TABLE") rows) friend)

abbrev pub asked_by : Option ℕ → Option ℕ → Option ℕ → Option Input → Option Command
asked_by (Some slots) (Some cluster) (Some watch) (Some input) =
    Some (record { slots = slots; cluster = cluster; watch = watch; input = input })
asked_by slots cluster watch input = None

-- what is asked by the values of the arguments
unfoldable pub asked_in : List Row → Option Command
asked_in rows =
    asked_by (setting_of 1 16 (first_of (codes "slots") rows)) (setting_of 10000 1000000 (first_of (codes "cluster") rows))
    (setting_of 1 1000000 (first_of (codes "watch") rows)) (input_of rows)

-- what the words ask for, where the command takes them, each number is canonical and within its limits, and no rule on the words of
-- a friend is broken
unfoldable pub asked_of : List Text → Option Command
asked_of words = if is_taken words then asked_in (matches_of rdf_command words) else None

-- ---- Within which limits the numbers of a command are.

-- the generator makes 1 to 1,000,000 entries, from a seed of 32 bits
abbrev pub IsWithin : Input → Type 0
IsWithin (Files script table friend) = ⊤
IsWithin (Generated entries seed) = (1 ≤ entries) × (entries ≤ 1000000) × (seed ≤ 4294967295)

pub record AreWithinLimits (c : Command) : Type 0 where
  pub slots : (1 ≤ c.slots) × (c.slots ≤ 16)
  pub cluster : (1 ≤ c.cluster) × (c.cluster ≤ 1000000)
  pub watch : (1 ≤ c.watch) × (c.watch ≤ 1000000)
  pub input : IsWithin c.input

abbrev pub NumbersAreWithinLimits : Type 0
NumbersAreWithinLimits = (words : List (List ℕ)) (c : Command) → asked_of words ≡ Some c → AreWithinLimits c
