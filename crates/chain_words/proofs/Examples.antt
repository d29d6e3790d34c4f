-- The definitions computed: words that are taken, and words that aren't.
use Rattle.lemmas.proofs.{◌≡◌, [], ◌∷◌, Some, None, refl, codes}
use Rattle.rdf_values.specs.{integer_of, magnitude_of}
use Rattle.chain_words.specs.{asked_of}
use Rattle.chain_words.specs.declared.command.ChainCommand.TheVariants.{Run, Map, Join, Print}

pub tables_in_order : asked_of (codes "run" ∷ codes "s" ∷ codes "b" ∷ codes "a" ∷ []) ≡ Some (Run (record { script = codes "s"; tables = codes "b" ∷ codes "a" ∷ []; settings = record { slots = 1; cluster = 10000 } }))
tables_in_order = refl

pub options_anywhere : asked_of (codes "map" ∷ codes "--slots" ∷ codes "4" ∷ codes "s" ∷ codes "7" ∷ codes "--cluster=20" ∷ codes "t" ∷ [])
    ≡ Some (Map (record { script = codes "s"; number = 7; table = codes "t"; settings = record { slots = 4; cluster = 20 } }))
unfolding integer_of magnitude_of
options_anywhere = refl

pub names_behind_dashes : asked_of (codes "join" ∷ codes "s" ∷ codes "--" ∷ codes "--slots" ∷ []) ≡ Some (Join (record { script = codes "s"; parts = codes "--slots" ∷ [] }))
names_behind_dashes = refl

pub count_of_files : asked_of (codes "print" ∷ codes "s" ∷ codes "3" ∷ codes "p" ∷ []) ≡ Some (Print (record { script = codes "s"; count = 3; part = codes "p" }))
unfolding integer_of magnitude_of
count_of_files = refl

pub no_table : asked_of (codes "run" ∷ codes "s" ∷ []) ≡ None
no_table = refl

pub number_with_a_zero : asked_of (codes "map" ∷ codes "s" ∷ codes "07" ∷ codes "t" ∷ []) ≡ None
unfolding integer_of magnitude_of
number_with_a_zero = refl

pub no_files_to_print : asked_of (codes "print" ∷ codes "s" ∷ codes "0" ∷ codes "p" ∷ []) ≡ None
unfolding integer_of magnitude_of
no_files_to_print = refl

pub option_twice : asked_of (codes "run" ∷ codes "s" ∷ codes "t" ∷ codes "--slots=1" ∷ codes "--slots=1" ∷ []) ≡ None
unfolding integer_of magnitude_of
option_twice = refl

pub option_without_its_value : asked_of (codes "run" ∷ codes "s" ∷ codes "t" ∷ codes "--slots" ∷ []) ≡ None
option_without_its_value = refl

pub option_of_another_command : asked_of (codes "join" ∷ codes "s" ∷ codes "p" ∷ codes "--slots=1" ∷ []) ≡ None
unfolding integer_of magnitude_of
option_of_another_command = refl
