-- Commands by their scripts.
use Rattle.lemmas.proofs.{◌≡◌, ◌≤◌, ℕ, List, [], ◌∷◌, ◌++◌, Option, None, Some}
use Rattle.rdf_values.specs.{Function}
use Rattle.chain_words.specs.{ChainCommand}
use Rattle.chain_words.specs.declared.command.ChainCommand.TheVariants.{Run, Map, Join, Print}
use Rattle.chain_due.specs.{ChainDue, Files, IsDueToCommand, IsJoinDue, IsMapDue, IsPrintDue, IsRunOver}
use Rattle.chain_program.specs.{AreCommandsTurns, AreTurned, HoldsScript, HoldsTheText, IsAnswer, IsDueToText, IsFileRead, IsOtherRead, IsText, others_in, script_in, WithText}
use Rattle.chain_program.specs.declared.answer.Answer.{Answer}
use Rattle.chain_program.specs.declared.scripts.ScriptText.{ScriptText}
use Rattle.chain_program.proofs.Staging.{all_told, from_told, goes_on, script_goes, script_stops, stands}
use Rattle.chain_program.proofs.Turning.{turned_to_others}

holds_script : (t : ScriptText) (file : Option (List ℕ)) → HoldsTheText t file → HoldsScript file
holds_script t None h = absurd h
holds_script t (Some bytes) h = (t.script, (h.1, h.2))

module _ (fns : List Function) where
  due_goes : (command : ChainCommand) (files : Files) (t : ScriptText) (d : ChainDue) → HoldsTheText t (files (script_in command)) → IsDueToText fns command t files d → IsDueToCommand fns command files d
  due_goes (Run r) files t d h next = script_goes files r.script t (λ bytes script e. IsRunOver fns script r.tables files e) d h next
  due_goes (Map m) files t d h next = script_goes files m.script t (λ bytes script e. IsMapDue fns bytes script m.number m.table files e) d h next
  due_goes (Join j) files t d h next = script_goes files j.script t (λ bytes script e. IsJoinDue fns bytes script j.parts files e) d h next
  due_goes (Print p) files t d h next = script_goes files p.script t (λ bytes script e. IsPrintDue fns bytes script p.count p.part files e) d h next

  due_stops : (command : ChainCommand) (files : Files) (d : ChainDue) → WithText files (script_in command) (λ bytes script e. ⊥) d → IsDueToCommand fns command files d
  due_stops (Run r) files d h = script_stops files r.script (λ bytes script e. IsRunOver fns script r.tables files e) d h
  due_stops (Map m) files d h = script_stops files m.script (λ bytes script e. IsMapDue fns bytes script m.number m.table files e) d h
  due_stops (Join j) files d h = script_stops files j.script (λ bytes script e. IsJoinDue fns bytes script j.parts files e) d h
  due_stops (Print p) files d h = script_stops files p.script (λ bytes script e. IsPrintDue fns bytes script p.count p.part files e) d h

  -- the answer to a command whose script was read
  pub command_answers : (command : ChainCommand) (told : Option Files) (t : ScriptText) (turns : List (List ℕ)) (f0 f1 f2 : ℕ) (a : Answer) → f0 ≤ f1 → IsText told (script_in command) t → IsAnswer (IsDueToText fns command t) told turns f1 f2 a
      → IsAnswer (IsDueToCommand fns command) told turns f0 f2 a
  command_answers command told t turns f0 f1 f2 a le is h =
      goes_on told turns f0 f1 f2 a (IsDueToText fns command t) (IsDueToCommand fns command)
      (from_told told (script_in command) (HoldsTheText t) (λ files. (d : ChainDue) → IsDueToText fns command t files d → IsDueToCommand fns command files d) is.holds (λ files k d next. due_goes command files t d k next)) le h

  -- and where its script is refused
  pub command_refused : (command : ChainCommand) (told : Option Files) (turns : List (List ℕ)) (f0 f1 : ℕ) (a : Answer) → IsAnswer (λ files d. WithText files (script_in command) (λ bytes script e. ⊥) d) told turns f0 f1 a → IsAnswer (IsDueToCommand fns command) told turns f0 f1 a
  command_refused command told turns f0 f1 a h =
      stands told turns f0 f1 a (λ files d. WithText files (script_in command) (λ bytes script e. ⊥) d) (IsDueToCommand fns command)
      (all_told told (λ files. (d : ChainDue) → WithText files (script_in command) (λ bytes script e. ⊥) d → IsDueToCommand fns command files d) (λ files d e. due_stops command files d e)) h

-- the turns of a command whose script was read
pub command_turns : (command : ChainCommand) (told : Option Files) (t : ScriptText) (before mid after : List (List ℕ)) → mid ≡ before ++ script_in command ∷ [] → IsText told (script_in command) t → AreTurned (IsOtherRead told command) (others_in command) mid after
    → AreCommandsTurns command told before after
command_turns command told t before mid after e is h =
    turned_to_others (script_in command) (others_in command) (IsOtherRead told command) (IsFileRead told command) before mid after e
    (from_told told (script_in command) (HoldsTheText t) (λ files. HoldsScript (files (script_in command))) is.holds (λ files k. holds_script t (files (script_in command)) k)) (λ i k. k) h
