use Rattle.lemmas.proofs.{refl, subst, sym, MatchOption, ◌≡◌}
use Rattle.input_files.specs.{due_of}
use Rattle.snapshot_due.specs.{IsDueToFiles, usage_line}
use Rattle.snapshot_due.specs.declared.status.SnapshotStatus.TheVariants.{Words}
use Rattle.snapshot_due.proofs.laws.untaken_words_are_due_usage.Goals as goal

pub returns : goal.returns
returns c = λ fns words files h.
    subst (λ o. MatchOption o (due_of Words usage_line ≡ due_of Words usage_line) (λ command. IsDueToFiles fns command files (due_of Words usage_line))) (sym h) refl
