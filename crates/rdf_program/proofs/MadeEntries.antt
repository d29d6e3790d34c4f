-- Entries and the script's length, computed.
use Rattle.lemmas.proofs.{◌≡◌, codes, length, refl}
use Rattle.std.specs.Fmt.{digits}
use Rattle.rdf_values.specs.{entry_line, generated_script}

pub an_entry_without_elements : entry_line 7 3 ≡ codes "764,493,222,951,\n"
unfolding digits
an_entry_without_elements = refl

pub the_last_entry_of_the_last_seed : entry_line 4294967295 999999 ≡ codes "376,105,834,563,\n"
unfolding digits
the_last_entry_of_the_last_seed = refl

pub an_entry_below_100 : entry_line 0 999999 ≡ codes "81,810,539,268,810\n"
unfolding digits
an_entry_below_100 = refl

pub the_length_of_the_script : length generated_script ≡ 269
the_length_of_the_script = refl
