-- What some words ask for, computed.
use Prim.Native.String.{String}
use Rattle.std.proofs.Common.{List, [], ◌∷◌, Option, None, Some, refl, codes, map, ℕ, ℤ, pos, negsuc}
use Rattle.clap.specs.Words.{fault_of}
use Rattle.clap.specs.declared.error.kind.ErrorKind.TheVariants as kind
use Rattle.clap.proofs.OnLiterals.{clap_on_literals}
use Rattle.rdf_values.specs.{integer_of, is_name, magnitude_of}
use Rattle.rdf_values.proofs.Examples.{AreDue}
use Rattle.command_words.specs.{asked_in, asked_of, Command, Input, input_of, is_taken, number_of, rdf_command}
use Rattle.command_words.specs.declared.command.Input.TheVariants.{Files, Generated}

-- an example: what some words give, and what is due; the first argument says what it shows
abbrev shown : {A : Type 0} → String → (List (List ℕ) → A) → List String → A → A × A
shown what gives words due = (gives (map (λ w. codes w) words), due)

abbrev asks : ℕ → ℕ → ℕ → Input → Option Command
asks slots cluster watch input = Some (record { slots = slots; cluster = cluster; watch = watch; input = input })

words_ask : AreDue (
    shown "two words" asked_of ("s.txt" ∷ "a.csv" ∷ []) (asks 1 10000 1 (Files (codes "s.txt") (codes "a.csv") None))
    ∷ shown "slots with an equals sign" asked_of ("s.txt" ∷ "--slots=3" ∷ "a.csv" ∷ []) (asks 3 10000 1 (Files (codes "s.txt") (codes "a.csv") None))
    ∷ shown "all at their limits" asked_of ("--slots" ∷ "16" ∷ "--cluster" ∷ "1000000" ∷ "s.txt" ∷ "a.csv" ∷ "--watch=1000000" ∷ [])
    (asks 16 1000000 1000000 (Files (codes "s.txt") (codes "a.csv") None))
    ∷ shown "generated" asked_of ("--make" ∷ "200000" ∷ "7" ∷ "--slots" ∷ "8" ∷ []) (asks 8 10000 1 (Generated 200000 7))
    ∷ shown "generated at the limits" asked_of ("1000000" ∷ "--make" ∷ "4294967295" ∷ []) (asks 1 10000 1 (Generated 1000000 4294967295))
    ∷ [])
unfolding asked_of asked_in input_of number_of rdf_command is_taken integer_of magnitude_of clap_on_literals
words_ask = refl

words_ask_nothing : AreDue (
    shown "slots of 17" asked_of ("s.txt" ∷ "a.csv" ∷ "--slots" ∷ "17" ∷ []) None
    ∷ shown "slots of zero" asked_of ("s.txt" ∷ "a.csv" ∷ "--slots" ∷ "0" ∷ []) None
    ∷ shown "cluster too large" asked_of ("s.txt" ∷ "a.csv" ∷ "--cluster" ∷ "1000001" ∷ []) None
    ∷ shown "watch of zero" asked_of ("s.txt" ∷ "a.csv" ∷ "--watch=0" ∷ []) None
    ∷ shown "leading zero" asked_of ("s.txt" ∷ "a.csv" ∷ "--slots" ∷ "02" ∷ []) None
    ∷ shown "plus sign" asked_of ("s.txt" ∷ "a.csv" ∷ "--slots" ∷ "+2" ∷ []) None
    ∷ shown "empty number" asked_of ("s.txt" ∷ "a.csv" ∷ "--slots=" ∷ []) None
    ∷ shown "no entries" asked_of ("0" ∷ "7" ∷ "--make" ∷ []) None
    ∷ shown "too many entries" asked_of ("1000001" ∷ "7" ∷ "--make" ∷ []) None
    ∷ shown "seed too large" asked_of ("1" ∷ "4294967296" ∷ "--make" ∷ []) None
    ∷ shown "names for numbers" asked_of ("s.txt" ∷ "a.csv" ∷ "--make" ∷ []) None
    ∷ shown "one name" asked_of ("s.txt" ∷ []) None
    ∷ [])
unfolding asked_of asked_in input_of number_of rdf_command is_taken integer_of magnitude_of clap_on_literals
words_ask_nothing = refl

-- ---- a friend's words

abbrev asks_friend : ℤ → Option Command
asks_friend missing = asks 1 10000 1 (Files (codes "s.txt") (codes "a.csv") (Some (record { file = codes "f.csv"; key = codes "pt"; missing = missing })))

words_ask_for_a_friend : AreDue (
    shown "friend with its key" asked_of ("s.txt" ∷ "a.csv" ∷ "--friend" ∷ "f.csv" ∷ "--key" ∷ "pt" ∷ []) (asks_friend (pos 0))
    ∷ shown "what is missing" asked_of ("--missing" ∷ "7" ∷ "s.txt" ∷ "--key=pt" ∷ "a.csv" ∷ "--friend=f.csv" ∷ []) (asks_friend (pos 7))
    ∷ shown "what is missing below zero" asked_of ("s.txt" ∷ "a.csv" ∷ "--friend" ∷ "f.csv" ∷ "--key" ∷ "pt" ∷ "--missing=-1" ∷ []) (asks_friend (negsuc 0))
    ∷ shown "friend without a key" asked_of ("s.txt" ∷ "a.csv" ∷ "--friend" ∷ "f.csv" ∷ []) None
    ∷ shown "key without a friend" asked_of ("s.txt" ∷ "a.csv" ∷ "--key" ∷ "pt" ∷ []) None
    ∷ shown "number without a friend" asked_of ("s.txt" ∷ "a.csv" ∷ "--missing" ∷ "0" ∷ []) None
    ∷ shown "key that is no name" asked_of ("s.txt" ∷ "a.csv" ∷ "--friend" ∷ "f.csv" ∷ "--key" ∷ "1pt" ∷ []) None
    ∷ shown "key that is a truth value" asked_of ("s.txt" ∷ "a.csv" ∷ "--friend" ∷ "f.csv" ∷ "--key" ∷ "true" ∷ []) None
    ∷ shown "number with a leading zero" asked_of ("s.txt" ∷ "a.csv" ∷ "--friend" ∷ "f.csv" ∷ "--key" ∷ "pt" ∷ "--missing" ∷ "00" ∷ []) None
    ∷ shown "number of 65 bits" asked_of ("s.txt" ∷ "a.csv" ∷ "--friend" ∷ "f.csv" ∷ "--key" ∷ "pt" ∷ "--missing" ∷ "9223372036854775808" ∷ []) None
    ∷ shown "friend of the generator" asked_of ("1" ∷ "7" ∷ "--make" ∷ "--friend" ∷ "f.csv" ∷ "--key" ∷ "pt" ∷ []) None
    ∷ [])
unfolding asked_of asked_in input_of number_of rdf_command is_taken integer_of magnitude_of is_name clap_on_literals
words_ask_for_a_friend = refl

words_have_faults : AreDue (
    shown "help word" (fault_of rdf_command) ("s.txt" ∷ "a.csv" ∷ "--help" ∷ []) (kind.DisplayHelp ∷ [])
    ∷ shown "dash word" (fault_of rdf_command) ("-s.txt" ∷ "a.csv" ∷ []) (kind.UnknownArgument ∷ [])
    ∷ shown "again word" (fault_of rdf_command) ("s.txt" ∷ "a.csv" ∷ "--slots" ∷ "2" ∷ "--slots" ∷ "2" ∷ []) (kind.ArgumentConflict ∷ [])
    ∷ shown "after dashes" (fault_of rdf_command) ("--" ∷ "-s.txt" ∷ "--make" ∷ []) []
    ∷ shown "one word" (fault_of rdf_command) ("s.txt" ∷ []) (kind.MissingRequiredArgument ∷ [])
    ∷ shown "no value" (fault_of rdf_command) ("s.txt" ∷ "a.csv" ∷ "--slots" ∷ []) (kind.InvalidValue ∷ [])
    ∷ shown "dashes as value" (fault_of rdf_command) ("s.txt" ∷ "--slots" ∷ "--" ∷ "2" ∷ []) (kind.InvalidValue ∷ [])
    ∷ shown "version word" (fault_of rdf_command) ("s.txt" ∷ "a.csv" ∷ "--version" ∷ []) (kind.UnknownArgument ∷ [])
    ∷ shown "short word" (fault_of rdf_command) ("s.txt" ∷ "a.csv" ∷ "-x" ∷ []) (kind.UnknownArgument ∷ [])
    ∷ shown "cut word" (fault_of rdf_command) ("s.txt" ∷ "a.csv" ∷ "--slo" ∷ "2" ∷ []) (kind.UnknownArgument ∷ [])
    ∷ shown "minus two" (fault_of rdf_command) ("s.txt" ∷ "a.csv" ∷ "--slots" ∷ "-2" ∷ []) (kind.UnknownArgument ∷ [])
    ∷ shown "third word" (fault_of rdf_command) ("s.txt" ∷ "a.csv" ∷ "b.csv" ∷ []) (kind.UnknownArgument ∷ [])
    ∷ shown "short help" (fault_of rdf_command) ("-h" ∷ []) (kind.DisplayHelp ∷ [])
    ∷ shown "flag value" (fault_of rdf_command) ("s.txt" ∷ "a.csv" ∷ "--make=true" ∷ []) (kind.TooManyValues ∷ [])
    ∷ shown "flag again" (fault_of rdf_command) ("1" ∷ "2" ∷ "--make" ∷ "--make" ∷ []) (kind.ArgumentConflict ∷ [])
    ∷ shown "empty value" (fault_of rdf_command) ("s.txt" ∷ "a.csv" ∷ "--slots=" ∷ []) []
    ∷ shown "lone dash" (fault_of rdf_command) ("-" ∷ "" ∷ "help" ∷ []) (kind.UnknownArgument ∷ [])
    ∷ shown "dash and empty" (fault_of rdf_command) ("-" ∷ "" ∷ []) []
    ∷ shown "help is plain" (fault_of rdf_command) ("s.txt" ∷ "help" ∷ []) []
    ∷ [])
unfolding rdf_command clap_on_literals
words_have_faults = refl
