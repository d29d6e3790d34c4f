-- What the words are answered, and what is written.
use Rattle.lemmas.proofs.{◌≡◌, ◌⊎◌, inl, inr, ℕ, List, Option, None, Some, Result, Ok, Err, IfOk, IfSome, refl, sym, ap, ◌∙◌, subst, MatchOption}
use Rattle.rdf_outside.specs.{Appends, AppendsPart}
use Rattle.rdf_values.specs.{Function}
use Rattle.input_files.specs.{due_of, WritesDue, WritesDuePart, WritesPart}
use Rattle.shard_words.specs.{asked_of, ShardCommand}
use Rattle.shard_due.specs.{Files, IsDue, IsDueToCommand, IsFinal, ShardDue, ShardStatus, usage_line}
use Rattle.shard_program.specs.{AnswersWords, due_in, IsAnswer, IsFailedRead, IsOfFiles}
use Rattle.shard_program.specs.declared.answer.Answer.{Answer}
use Rattle.shard_program.proofs.FileReading.{any_file, each_file}

-- ---- a command

module _ (fns : List Function) (words : List (List ℕ)) (told : Option Files) (f0 f1 : ℕ) (o : Option ShardCommand) (asked : o ≡ asked_of words) where
  pub command_answer : {E : Type 0} (turns : List (List ℕ)) (command : ShardCommand) (r : Result Answer E) → o ≡ Some command → IfOk r (IsAnswer (IsDueToCommand fns command) told turns f0 f1) → IfOk r (AnswersWords fns words told turns f0 f1)
  command_answer turns command (Err e) some h = tt
  command_answer turns command (Ok a) some h =
      subst (λ x. MatchOption x (due_in a ≡ due_of ShardStatus.Words usage_line) (λ c. IsAnswer (IsDueToCommand fns c) told turns f0 f1 a)) (sym some ∙ asked) h

-- ---- what is written

-- what a status is among those of answers
kinds : (s : ShardStatus) → IsOfFiles s → IsFinal s ⊎ (s ≡ ShardStatus.ReadFault)
kinds ShardStatus.Done h = inl tt
kinds ShardStatus.Memory h = absurd h
kinds ShardStatus.Words h = absurd h
kinds ShardStatus.ReadFault h = inr refl
kinds ShardStatus.WriteFault h = absurd h
kinds ShardStatus.NoFile h = inl tt
kinds ShardStatus.ScriptRefused h = inl tt
kinds ShardStatus.TableRefused h = inl tt
kinds ShardStatus.LoopFault h = inl tt
kinds ShardStatus.BadSpan h = inl tt
kinds ShardStatus.FileRefused h = inl tt
kinds ShardStatus.FilesDiffer h = inl tt
kinds ShardStatus.NotCovered h = inl tt
kinds ShardStatus.TooLong h = inl tt

-- the answer is due to the words, or says that a read failed
pub record IsWritten (fns : List Function) (words : List (List ℕ)) (told : Option Files) (turns : List (List ℕ)) (f0 f1 : ℕ) (a : Answer) : Type 0 where
  pub is_due : IsFinal a.status → IfSome told (λ f. IsDue fns words f (due_in a))
  pub failed : a.status ≡ ShardStatus.ReadFault → IsFailedRead turns f0 f1 a.text
  pub kind : IsFinal a.status ⊎ (a.status ≡ ShardStatus.ReadFault)

module _ (fns : List Function) (words : List (List ℕ)) (told : Option Files) (turns : List (List ℕ)) (f0 f1 : ℕ) (a : Answer) where
  by_command : (o : Option ShardCommand) → asked_of words ≡ o → MatchOption o (due_in a ≡ due_of ShardStatus.Words usage_line) (λ command. IsAnswer (IsDueToCommand fns command) told turns f0 f1 a) → IsWritten fns words told turns f0 f1 a
  by_command None e h =
      let is : a.status ≡ ShardStatus.Words = ap (λ (d : ShardDue). d.status) h in
      record {
        is_due = λ final. any_file told (λ f. IsDue fns words f (due_in a)) (λ f. subst (λ o. MatchOption o (due_in a ≡ due_of ShardStatus.Words usage_line) (λ command. IsDueToCommand fns command f (due_in a))) (sym e) h);
        failed = λ s. absurd (cc (sym s ∙ is));
        kind = inl (subst IsFinal (sym is) tt);
      }
  by_command (Some command) e h = record {
    is_due = λ final. each_file told (λ f. IsDueToCommand fns command f (due_in a)) (λ f. IsDue fns words f (due_in a))
        (λ f due. subst (λ o. MatchOption o (due_in a ≡ due_of ShardStatus.Words usage_line) (λ c. IsDueToCommand fns c f (due_in a))) (sym e) due) (h.is_due final);
    failed = h.failed;
    kind = kinds a.status h.of_files;
  }

  pub is_written : AnswersWords fns words told turns f0 f1 a → IsWritten fns words told turns f0 f1 a
  is_written h = by_command (asked_of words) refl h

  module _ (is : IsWritten fns words told turns f0 f1 a) (before after : Option (List ℕ)) where
    pub due_written : IsFinal a.status → Appends before after a.text → IfSome told (WritesDue (IsDue fns words) a.status before after)
    due_written final w = each_file told (λ f. IsDue fns words f (due_in a)) (WritesDue (IsDue fns words) a.status before after) (λ f h. (a.text, h, w)) (is.is_due final)

    pub part_written : AppendsPart before after a.text → WritesPart (IsDue fns words) told turns f0 f1 before after
    part_written part = go is.kind
      where
        go : IsFinal a.status ⊎ (a.status ≡ ShardStatus.ReadFault) → WritesPart (IsDue fns words) told turns f0 f1 before after
        go (inl final) = inl (each_file told (λ f. IsDue fns words f (due_in a)) (WritesDuePart (IsDue fns words) before after) (λ f h. (due_in a, h, part)) (is.is_due final))
        go (inr e) = (let r = is.failed e in inr (r.rose, (r.name, r.last, subst (AppendsPart before after) r.line part)))
