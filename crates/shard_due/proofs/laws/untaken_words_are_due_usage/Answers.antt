use Rattle.lemmas.proofs.{refl, subst, sym, MatchOption, ◌≡◌}
use Rattle.input_files.specs.{due_of}
use Rattle.shard_due.specs.{IsDueToCommand, usage_line}
use Rattle.shard_due.specs.declared.status.ShardStatus.TheVariants.{Words}
use Rattle.shard_due.proofs.laws.untaken_words_are_due_usage.Goals as goal

pub returns : goal.returns
returns c = λ fns words files h.
    subst (λ o. MatchOption o (due_of Words usage_line ≡ due_of Words usage_line) (λ command. IsDueToCommand fns command files (due_of Words usage_line))) (sym h) refl
