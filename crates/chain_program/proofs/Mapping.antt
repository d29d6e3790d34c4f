-- The part of one table.
use Rattle.lemmas.proofs.{◌≡◌, ◌<◌, ◌+◌, ◌⊎◌, inl, inr, ℕ, List, [], ◌∷◌, ◌++◌, length, Option, arith, ap, refl, sym, subst, ◌∙◌, append-nil}
use Rattle.rdf_values.specs.{AnswerIn64Bits, Function, history, MarkedTable, Script, StatementsHaveWords, Value}
use Rattle.input_files.specs.{due_of, HoldsTheTable, Tells}
use Rattle.chain_files.specs.{digest_of, IsPart, part_text, PartView}
use Rattle.chain_runs.specs.{chain_part}
use Rattle.chain_runs.proofs.Parts.{chains_are_part}
use Rattle.chain_due.specs.{chain_of, ChainStatus, Files, IsMapDue, IsText, WithAccepted}
use Rattle.chain_due.specs.declared.status.ChainStatus.TheVariants.{Done, TooLong}
use Rattle.chain_program.specs.{IsAnswer, IsOfFiles, IsOver}
use Rattle.chain_program.specs.declared.answer.Answer.{Answer}
use Rattle.chain_program.specs.declared.first_table.FirstTable.{FirstTable}
use Rattle.chain_program.proofs.Chaining.{checked}
use Rattle.chain_program.proofs.Refusing.{of_table}
use Rattle.chain_program.proofs.Staging.{accepted_goes, of_files}

-- a bounded text has a status that is due
pub text_status : (a : Answer) (status : ChainStatus) → IsOfFiles status → (a.status ≡ status) ⊎ (a.status ≡ TooLong) → IsOfFiles a.status
text_status a status h (inl e) = of_files a.status status h e
text_status a status h (inr e) = of_files a.status TooLong tt e

module _ (fns : List Function) (bytes : List ℕ) (script : Script) (number : ℕ) where
  abbrev part_of : MarkedTable → PartView
  part_of t = chain_part bytes script (chain_of fns t.table.columns (t ∷ [])) number

  -- what was found of the table
  pub mapped : (t : MarkedTable) (f : FirstTable) (entries : ℕ) (digest : List ℕ) → IsOver fns script number t f → entries ≡ f.entries → digest ≡ digest_of bytes
      → ◌≡◌ {A = PartView} (record { first_file = number; end_file = number + 1; entries = entries; script = digest; columns = f.columns; loops = f.loops }) (part_of t)
  mapped t f entries digest over n e =
      let rows : entries ≡ length (t.table.rows ++ []) = n ∙ over.entries ∙ ap (λ (l : List (List Value)). length l) (sym (append-nil t.table.rows)) in
      (λ i. record { first_file = number; end_file = number + 1; entries = rows i; script = e i; columns = over.columns i; loops = over.loops i })

  pub mapped_is_part : (t : MarkedTable) (f : FirstTable) → number < 16777216 → StatementsHaveWords (history script) → AnswerIn64Bits fns → IsOver fns script number t f → IsPart (part_of t)
  mapped_is_part t f few words answers over =
      chains_are_part bytes script (chain_of fns t.table.columns (t ∷ [])) number
      (checked fns script t.table.columns (record { accepted = over.accepted; words = words; answers = answers; named = over.named }) (t ∷ []) ((over.table, refl), tt))
      (omega arith) (omega (arith, few))

  -- the text of the part
  pub map_due : (told : Option Files) (name : List ℕ) (turns : List (List ℕ)) (f0 f1 : ℕ) (a : Answer) (t : MarkedTable) (f : FirstTable) (part : PartView) (text : List ℕ) → Tells told name (HoldsTheTable t) → IsOver fns script number t f
      → part ≡ part_of t → text ≡ part_text part → IsText Done text (due_of a.status a.text) × ((a.status ≡ Done) ⊎ (a.status ≡ TooLong)) → IsAnswer (IsMapDue fns bytes script number name) told turns f0 f1 a
  map_due told name turns f0 f1 a t f part text hold over e same h =
      of_table told name turns f0 f1 a t (λ u k. WithAccepted fns script u.table.columns (λ g. IsText Done (part_text (part_of u)) g) k) hold (
        text_status a Done tt h.1,
        accepted_goes fns script t.table.columns (λ g. IsText Done (part_text (part_of t)) g) (due_of a.status a.text) over.accepted (subst (λ l. IsText Done l (due_of a.status a.text)) (same ∙ ap part_text e) h.0),
      )
