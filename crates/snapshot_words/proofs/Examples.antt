-- The definitions computed: words that are taken, and words that aren't.
use Rattle.lemmas.proofs.{◌≡◌, [], ◌∷◌, Some, None, refl, codes}
use Rattle.clap.proofs.OnLiterals.{clap_on_literals}
use Rattle.rdf_values.specs.{integer_of, is_name, magnitude_of}
use Rattle.command_words.specs.{number_of}
use Rattle.snapshot_plan.specs.declared.under.Under.TheVariants.{Nominal, Varied}
use Rattle.snapshot_words.specs.{asked_in, asked_of, is_taken, names_of, snapshot_command, under_in}

pub under_a_variation : asked_of (codes "s" ∷ codes "t" ∷ codes "f" ∷ codes "pt,jets" ∷ codes "pt:up" ∷ codes "--slots" ∷ codes "3" ∷ codes "--cluster=1" ∷ [])
    ≡ Some (record { script = codes "s"; table = codes "t"; node = codes "f"; columns = codes "pt" ∷ codes "jets" ∷ []; under = Varied (codes "pt") (codes "up"); slots = 3; cluster = 1 })
unfolding asked_of asked_in number_of names_of under_in is_name snapshot_command is_taken integer_of magnitude_of clap_on_literals
under_a_variation = refl

pub nominal_by_itself : asked_of (codes "s" ∷ codes "t" ∷ codes "df" ∷ codes "jets" ∷ codes "nominal" ∷ [])
    ≡ Some (record { script = codes "s"; table = codes "t"; node = codes "df"; columns = codes "jets" ∷ []; under = Nominal; slots = 1; cluster = 10000 })
unfolding asked_of asked_in number_of names_of under_in is_name snapshot_command is_taken integer_of magnitude_of clap_on_literals
nominal_by_itself = refl

-- ---- forms that aren't taken

pub empty_column : names_of (codes "pt,,jets") ≡ None
unfolding names_of is_name
empty_column = refl

pub comma_at_the_end : names_of (codes "pt,") ≡ None
unfolding names_of is_name
comma_at_the_end = refl

pub no_column : names_of [] ≡ None
unfolding names_of is_name
no_column = refl

pub no_tag : under_in (codes "pt:") ≡ None
unfolding under_in is_name
no_tag = refl

pub no_colon : under_in (codes "up") ≡ None
unfolding under_in is_name
no_colon = refl

pub two_colons : under_in (codes "pt:up:up") ≡ None
unfolding under_in is_name
two_colons = refl

pub number_for_a_node : asked_of (codes "s" ∷ codes "t" ∷ codes "1" ∷ codes "jets" ∷ codes "nominal" ∷ []) ≡ None
unfolding asked_of asked_in number_of names_of under_in is_name snapshot_command is_taken integer_of magnitude_of clap_on_literals
number_for_a_node = refl
