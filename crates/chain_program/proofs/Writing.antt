-- What is written of an answer to the words.
use Rattle.lemmas.proofs.{◌≡◌, ◌⊎◌, inl, inr, ℕ, List, Option, None, Some, IfSome, refl, sym, subst, MatchOption}
use Rattle.rdf_outside.specs.{Appends, AppendsPart}
use Rattle.rdf_values.specs.{Function}
use Rattle.input_files.specs.{due_of, WritesDue, WritesDuePart, WritesPart, WritesReadFailed}
use Rattle.chain_words.specs.{asked_of, ChainCommand}
use Rattle.chain_due.specs.{Files, IsDue, IsDueToCommand, IsFinal, usage_line}
use Rattle.chain_due.specs.declared.status.ChainStatus.TheVariants.{Memory, Words, ReadFault, WriteFault, FileChanged}
use Rattle.chain_program.specs.{AnswersWords, IsAnswer, IsOfFiles, IsUnread}
use Rattle.chain_program.specs.declared.answer.Answer.{Answer}
use Rattle.chain_program.proofs.Staging.{all_told, as_due, each_told}

module _ (fns : List Function) (words : List (List ℕ)) (told : Option Files) (turns : List (List ℕ)) (f0 f1 : ℕ) (a : Answer) where
  -- the answer is the usage line, is due, or says that a read failed
  record IsUntaken : Type 0 where
    none : asked_of words ≡ None
    status : a.status ≡ Words
    text : a.text ≡ usage_line

  record IsTaken : Type 0 where
    of_files : IsOfFiles a.status
    due : IfSome told (λ files. IsDue fns words files (due_of a.status a.text))

  kinds : AnswersWords fns words told turns f0 f1 a → IsUntaken ⊎ (IsTaken ⊎ ((asked_of words ≡ None → ⊥) × IsUnread turns f0 f1 a))
  kinds h = go (asked_of words) refl h
    where
      go : (o : Option ChainCommand) → asked_of words ≡ o → MatchOption o ((a.status ≡ Words) × (a.text ≡ usage_line)) (λ command. IsAnswer (IsDueToCommand fns command) told turns f0 f1 a)
          → IsUntaken ⊎ (IsTaken ⊎ ((asked_of words ≡ None → ⊥) × IsUnread turns f0 f1 a))
      go None e k = inl (record { none = e; status = k.0; text = k.1 })
      go (Some command) e (inl k) = inr (inl (record {
        of_files = k.0;
        due = each_told told (λ files. IsDueToCommand fns command files (due_of a.status a.text)) (λ files. IsDue fns words files (due_of a.status a.text))
            (λ files d. subst (λ o. MatchOption o (due_of a.status a.text ≡ due_of Words usage_line) (λ c. IsDueToCommand fns c files (due_of a.status a.text))) (sym e) d) k.1;
      }))
      go (Some command) e (inr k) = inr (inr ((λ n. absurd (cc (e, n))), k))

  untaken_due : IsUntaken → (files : Files) → IsDue fns words files (due_of a.status a.text)
  untaken_due u files = subst (λ o. MatchOption o (due_of a.status a.text ≡ due_of Words usage_line) (λ c. IsDueToCommand fns c files (due_of a.status a.text))) (sym u.none) (as_due a Words usage_line u.status u.text)

  pub due_written : (before after : Option (List ℕ)) → AnswersWords fns words told turns f0 f1 a → Appends before after a.text → IsFinal a.status → IfSome told (WritesDue (IsDue fns words) a.status before after)
  due_written before after h w final = go (kinds h)
    where
      go : IsUntaken ⊎ (IsTaken ⊎ ((asked_of words ≡ None → ⊥) × IsUnread turns f0 f1 a)) → IfSome told (WritesDue (IsDue fns words) a.status before after)
      go (inl u) = all_told told (WritesDue (IsDue fns words) a.status before after) (λ files. (a.text, untaken_due u files, w))
      go (inr (inl t)) = each_told told (λ files. IsDue fns words files (due_of a.status a.text)) (WritesDue (IsDue fns words) a.status before after) (λ files d. (a.text, d, w)) t.due
      go (inr (inr n)) = absurd (subst IsFinal n.1.status final)

  pub words_written : (before after : Option (List ℕ)) → AnswersWords fns words told turns f0 f1 a → Appends before after a.text → a.status ≡ Words → (asked_of words ≡ None) × Appends before after usage_line
  words_written before after h w s = go (kinds h)
    where
      go : IsUntaken ⊎ (IsTaken ⊎ ((asked_of words ≡ None → ⊥) × IsUnread turns f0 f1 a)) → (asked_of words ≡ None) × Appends before after usage_line
      go (inl u) = (u.none, subst (Appends before after) u.text w)
      go (inr (inl t)) = absurd (subst IsOfFiles s t.of_files)
      go (inr (inr n)) = (let e = n.1.status in absurd (cc (s, e)))

  pub never_memory : AnswersWords fns words told turns f0 f1 a → a.status ≡ Memory → ⊥
  never_memory h s = go (kinds h)
    where
      go : IsUntaken ⊎ (IsTaken ⊎ ((asked_of words ≡ None → ⊥) × IsUnread turns f0 f1 a)) → ⊥
      go (inl u) = (let e = u.status in cc (s, e))
      go (inr (inl t)) = subst IsOfFiles s t.of_files
      go (inr (inr n)) = (let e = n.1.status in cc (s, e))

  pub never_write : AnswersWords fns words told turns f0 f1 a → a.status ≡ WriteFault → ⊥
  never_write h s = go (kinds h)
    where
      go : IsUntaken ⊎ (IsTaken ⊎ ((asked_of words ≡ None → ⊥) × IsUnread turns f0 f1 a)) → ⊥
      go (inl u) = (let e = u.status in cc (s, e))
      go (inr (inl t)) = subst IsOfFiles s t.of_files
      go (inr (inr n)) = (let e = n.1.status in cc (s, e))

  pub never_changed : AnswersWords fns words told turns f0 f1 a → a.status ≡ FileChanged → ⊥
  never_changed h s = go (kinds h)
    where
      go : IsUntaken ⊎ (IsTaken ⊎ ((asked_of words ≡ None → ⊥) × IsUnread turns f0 f1 a)) → ⊥
      go (inl u) = (let e = u.status in cc (s, e))
      go (inr (inl t)) = subst IsOfFiles s t.of_files
      go (inr (inr n)) = (let e = n.1.status in cc (s, e))

  pub unread_of : AnswersWords fns words told turns f0 f1 a → a.status ≡ ReadFault → IsUnread turns f0 f1 a
  unread_of h s = go (kinds h)
    where
      go : IsUntaken ⊎ (IsTaken ⊎ ((asked_of words ≡ None → ⊥) × IsUnread turns f0 f1 a)) → IsUnread turns f0 f1 a
      go (inl u) = (let e = u.status in absurd (cc (s, e)))
      go (inr (inl t)) = absurd (subst IsOfFiles s t.of_files)
      go (inr (inr n)) = n.1

  pub read_line_written : (before after : Option (List ℕ)) → AnswersWords fns words told turns f0 f1 a → Appends before after a.text → a.status ≡ ReadFault → WritesReadFailed turns before after
  read_line_written before after h w s = (let u = unread_of h s in (u.name, u.last, subst (Appends before after) u.text w))

  pub part_written : (before after : Option (List ℕ)) → AnswersWords fns words told turns f0 f1 a → AppendsPart before after a.text → WritesPart (IsDue fns words) told turns f0 f1 before after
  part_written before after h w = go (kinds h)
    where
      go : IsUntaken ⊎ (IsTaken ⊎ ((asked_of words ≡ None → ⊥) × IsUnread turns f0 f1 a)) → WritesPart (IsDue fns words) told turns f0 f1 before after
      go (inl u) = inl (all_told told (WritesDuePart (IsDue fns words) before after) (λ files. (due_of a.status a.text, untaken_due u files, w)))
      go (inr (inl t)) = inl (each_told told (λ files. IsDue fns words files (due_of a.status a.text)) (WritesDuePart (IsDue fns words) before after) (λ files d. (due_of a.status a.text, d, w)) t.due)
      go (inr (inr n)) = inr (n.1.rose, (n.1.name, n.1.last, subst (AppendsPart before after) n.1.text w))
