use Rattle.lemmas.proofs.{map, drop}
use Rattle.rdf_values.specs.{all_strings}
use Rattle.script_read.specs.{quoted_of, strings_of}
use Rattle.script_read.proofs.Walked.{Naming}
use Rattle.script_read.proofs.strings.names.Given as goal

abbrev pub invariant-loop-quoted : goal.invariant-loop-quoted
invariant-loop-quoted l = Naming (all_strings (strings_of l.strings)) (map quoted_of (drop l.quoted-index l.strings.rest.items)) l.names
