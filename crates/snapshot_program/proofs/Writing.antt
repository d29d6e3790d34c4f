-- What the top call leaves written.
use Rattle.std.proofs.Common.{◌≡◌, ◌⊎◌, inl, inr, ℕ, List, Option, None, Some, IfSome, refl, subst, ⊎_elim}
use Rattle.rdf_outside.specs.{Appends, AppendsPart}
use Rattle.rdf_values.specs.{Function}
use Rattle.input_files.specs.{due_of, Files, WritesDue, WritesDuePart, WritesPart, WritesReadFailed}
use Rattle.snapshot_due.specs.{IsDue, IsFinal, SnapshotStatus}
use Rattle.snapshot_due.specs.declared.status.SnapshotStatus.TheVariants.{Done, Memory, Words, ReadFault, WriteFault, NoFile, ScriptRefused, TableRefused, LoopFault, BadNode, BadColumn, BadVariation, TooMany, TooLong}
use Rattle.snapshot_program.specs.{IsAnswer}
use Rattle.snapshot_program.specs.declared.answer.Answer.{Answer}

-- a status is due, that of a failed read, or none of an answer
kinds : (s : SnapshotStatus) → IsFinal s ⊎ ((s ≡ ReadFault) ⊎ ((s ≡ Memory) ⊎ (s ≡ WriteFault)))
kinds Done = inl tt
kinds Memory = inr (inr (inl refl))
kinds Words = inl tt
kinds ReadFault = inr (inl refl)
kinds WriteFault = inr (inr (inr refl))
kinds NoFile = inl tt
kinds ScriptRefused = inl tt
kinds TableRefused = inl tt
kinds LoopFault = inl tt
kinds BadNode = inl tt
kinds BadColumn = inl tt
kinds BadVariation = inl tt
kinds TooMany = inl tt
kinds TooLong = inl tt

module _ (fns : List Function) (words : List (List ℕ)) (told : Option Files) (turns : List (List ℕ)) (first now : ℕ) (a : Answer) (is : IsAnswer fns words told turns first now a) (before after : Option (List ℕ)) where
  pub due_written : IsFinal a.status → Appends before after a.text → IfSome told (WritesDue (IsDue fns words) a.status before after)
  due_written final w = step told (is.answers.is_due final)
    where
      step : (told : Option Files) → IfSome told (λ f. IsDue fns words f (due_of a.status a.text)) → IfSome told (WritesDue (IsDue fns words) a.status before after)
      step None h = tt
      step (Some f) h = (a.text, h, w)

  pub failed_read_written : a.status ≡ ReadFault → Appends before after a.text → WritesReadFailed turns before after
  failed_read_written e w = (let n = is.answers.named e in (n.0, n.1, subst (Appends before after) n.2 w))

  pub part_written : AppendsPart before after a.text → WritesPart (IsDue fns words) told turns first now before after
  part_written part =
      ⊎_elim (λ (final : IsFinal a.status). inl (step told (is.answers.is_due final)))
      (⊎_elim (λ (e : a.status ≡ ReadFault). (let n = is.answers.named e in inr (is.answers.rose e, (n.0, n.1, subst (AppendsPart before after) n.2 part))))
      (⊎_elim (λ (e : a.status ≡ Memory). absurd (is.answers.no_want e)) (λ (e : a.status ≡ WriteFault). absurd (is.answers.no_write e))))
      (kinds a.status)
    where
      step : (told : Option Files) → IfSome told (λ f. IsDue fns words f (due_of a.status a.text)) → IfSome told (WritesDuePart (IsDue fns words) before after)
      step None h = tt
      step (Some f) h = (due_of a.status a.text, h, part)
