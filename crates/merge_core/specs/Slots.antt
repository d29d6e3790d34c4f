-- The machine and its slots as contracts see them, and what a step and a replay answer.
use Rattle.std.specs.Prelude.{◌≡◌, ℕ, List, [], None, Result, Ok, Err, map, MatchResult, ◌∷◌}
use Rattle.rdf_values.specs.{Ended, Faulted, Left, Machine, Phase, Running, Slot, StepCause}
use Rattle.merge_core.specs.declared.slot.Front.{Front}
use Rattle.merge_core.specs.declared.slot.Phase.{Phase as CorePhase}
use Rattle.merge_core.specs.declared.slot.Slot.{Slot as CoreSlot}
use Rattle.merge_core.specs.declared.refusal.ReplayRefusal.{ReplayRefusal}
use Rattle.merge_core.specs.declared.refusal.StepRefusal.{StepRefusal}
use Rattle.merge_core.specs.declared.refusal.StepRefusal.TheVariants.{Cause, Memory}
use Rattle.merge_core.specs.declared.slot.Phase.TheVariants as core
use Rattle.merge_core.specs.declared.refusal.ReplayRefusal.TheVariants as replay

abbrev pub seen_phase : CorePhase → Phase
seen_phase core.Running = Running
seen_phase core.Ended = Ended
seen_phase (core.Faulted fault) = Faulted fault

abbrev pub seen_slot : CoreSlot → Slot
seen_slot s = record { drawn = s.drawn; held = s.held; phase = seen_phase s.phase }

abbrev pub seen_slots : List CoreSlot → List Slot
seen_slots slots = map seen_slot slots

-- the machine of these slots
abbrev pub seen_machine : Front → List CoreSlot → Machine
seen_machine front slots = record { next = front.next; bar = front.bar; slots = seen_slots slots }

abbrev pub fresh_slot : Slot
fresh_slot = record { drawn = []; held = None; phase = Running }

-- what an event leaves
abbrev pub left_with : Front → CoreSlot → Left
left_with front slot = record { next = front.next; bar = front.bar; slot = seen_slot slot }

-- the error is the wanted cause, or want of memory
abbrev pub Refused : {A : Type 0} → Result A StepCause → StepRefusal → Type 0
Refused wanted (Cause cause) = wanted ≡ Err cause
Refused wanted Memory = Unit {0}

-- the step of a slot is the wanted one; after a refusal the slot is as before
abbrev pub Steps : Result Left StepCause → CoreSlot → CoreSlot → Result Front StepRefusal → Type 0
Steps wanted old new answer = MatchResult answer (λ front. wanted ≡ Ok (left_with front new)) (λ refusal. (new ≡ old) × Refused wanted refusal)

-- the machine over so many clusters
pub record CoreView : Type 0 where
  pub clusters : ℕ
  pub machine : Machine

-- the step of the machine likewise
abbrev pub IsStep : Result Machine StepCause → CoreView → CoreView → Result (Unit {0}) StepRefusal → Type 0
IsStep wanted old new answer =
    MatchResult answer (λ done. (wanted ≡ Ok new.machine) × (new.clusters ≡ old.clusters)) (λ refusal. (new ≡ old) × Refused wanted refusal)

-- the error is the wanted place and cause, or want of memory
abbrev pub RefusedAt : Result Machine (ℕ × StepCause) → ReplayRefusal → Type 0
RefusedAt wanted (replay.At place cause) = wanted ≡ Err (place, cause)
RefusedAt wanted replay.Memory = Unit {0}

-- over these clusters the machine is the wanted one
abbrev pub Replays : ℕ → Result Machine (ℕ × StepCause) → Result CoreView ReplayRefusal → Type 0
Replays clusters wanted answer = MatchResult answer (λ core. (core.clusters ≡ clusters) × (wanted ≡ Ok core.machine)) (λ refusal. RefusedAt wanted refusal)

-- as many pieces as sets, each of which stands for its set
abbrev pub Stand : {P : Type 0} → (List ℕ → P → Type 0) → List (List ℕ) → List P → Type 0
Stand stands [] [] = Unit {0}
Stand stands (set ∷ sets) (p ∷ ps) = stands set p × Stand stands sets ps
Stand stands sets ps = ⊥
