-- Laws of what is due. Each is the contract of a function of this crate, and so proved.
use Rattle.std.specs.Prelude.{◌≡◌, ℕ, List, None}
use Rattle.rdf_values.specs.{Function}
use Rattle.input_files.specs.{due_of}
use Rattle.chain_words.specs.{asked_of}
use Rattle.chain_due.specs.Due.{Files, IsDue}
use Rattle.chain_due.specs.Lines.{usage_line}
use Rattle.chain_due.specs.declared.status.ChainStatus.TheVariants.{Words}

-- words that aren't taken are due the usage line, whatever the files
abbrev pub UntakenWordsAreDueUsage : Type 0
UntakenWordsAreDueUsage = (fns : List Function) (words : List (List ℕ)) (files : Files) → asked_of words ≡ None → IsDue fns words files (due_of Words usage_line)
