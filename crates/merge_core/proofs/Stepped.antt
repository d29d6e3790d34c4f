-- What a step of the machine did, case by case.
use Rattle.lemmas.proofs.{◌≡◌, ℕ, ◌+◌, ◌<◌, ◌≤◌, List, [], ◌∷◌, ◌++◌, min, Option, None, Some, refl, sym, subst, append-nil, append_assoc, arith, Result, Ok, Err, slice_get, slice_set, length, get_or, set, ap, ◌∙◌, option_map, map-set, set-get_or, slice_get-get_or, slice_get-map}
use Rattle.std.proofs.lemmas.Bool.Decides.{nat_tests}
use Rattle.rdf_values.specs.{claim_next, claim_step, end_slot, Ended, Event, Faulted, give_up, if_running, Left, Machine, pass_over, Phase, replay_from, Running, running_step, Slot, slot_of, step_of, StepCause, with_slot}
use Rattle.rdf_values.specs.declared.clusters.event.Event.TheVariants.{Claim, Finish, Fault, Skip, End}
use Rattle.merge_core.specs.declared.slot.Front.{Front}
use Rattle.merge_core.specs.declared.slot.Slot.{Slot as CoreSlot}
use Rattle.merge_core.specs.declared.refusal.StepRefusal.{StepRefusal}
use Rattle.merge_core.specs.declared.refusal.StepRefusal.TheVariants.{Cause, Memory}
use Rattle.merge_core.specs.{Refused, seen_machine, seen_slot, seen_slots, Steps}

abbrev pub slot_with : List ℕ → Option ℕ → Phase → Slot
slot_with drawn held phase = record { drawn = drawn; held = held; phase = phase }

abbrev pub left : ℕ → ℕ → Slot → Left
left next bar slot = record { next = next; bar = bar; slot = slot }

-- what an event asks of a slot that runs, and what it leaves
abbrev pub How : ℕ → ℕ → ℕ → Slot → Event → Left → Type 0
How clusters next bar s (Claim i c) l = (s.held ≡ None) × (next < clusters) × (l ≡ left (next + 1) bar (slot_with (s.drawn ++ next ∷ []) (Some next) Running))
How clusters next bar s (Finish i c) l = (s.held ≡ Some c) × (l ≡ left next bar (slot_with s.drawn None Running))
How clusters next bar s (Fault i c f) l = (s.held ≡ Some c) × (l ≡ left next (min bar c) (slot_with s.drawn None (Faulted f)))
How clusters next bar s (Skip i c) l = (s.held ≡ Some c) × (bar ≤ c) × (l ≡ left next bar (slot_with s.drawn None Ended))
How clusters next bar s (End i) l = (s.held ≡ None) × (clusters ≤ next) × (l ≡ left next bar (slot_with s.drawn None Ended))

-- the machine with one slot changed
abbrev pub changed : Machine → ℕ → Left → Machine
changed m i l = record { next = l.next; bar = l.bar; slots = slice_set m.slots i l.slot }

pub record IsStepped (clusters : ℕ) (m : Machine) (e : Event) (after : Machine) : Type 0 where
  pub slot : Slot
  pub at : slice_get m.slots (slot_of e) ≡ Some slot
  pub runs : slot.phase ≡ Running
  pub leaves : Left
  pub is : after ≡ changed m (slot_of e) leaves
  pub how : How clusters m.next m.bar slot e leaves

claimed : (clusters next bar c : ℕ) (s : Slot) (held : Option ℕ) (l : Left) → claim_next clusters next bar c s held ≡ Ok l → (held ≡ None) × (next < clusters) × (l ≡ left (next + 1) bar (slot_with (s.drawn ++ next ∷ []) (Some next) Running))
claimed clusters next bar c s held l h = grind (arith, nat_tests)

given_up : (next bar c : ℕ) (s : Slot) (held : Option ℕ) (phase : Phase) (l : Left) → give_up next bar c s held phase ≡ Ok l → (held ≡ Some c) × (l ≡ left next bar (slot_with s.drawn None phase))
given_up next bar c s held phase l h = grind (arith, nat_tests)

passed_over : (next bar c : ℕ) (s : Slot) (held : Option ℕ) (l : Left) → pass_over next bar c s held ≡ Ok l → (held ≡ Some c) × (bar ≤ c) × (l ≡ left next bar (slot_with s.drawn None Ended))
passed_over next bar c s held l h = grind (arith, nat_tests)

ended : (clusters next bar : ℕ) (s : Slot) (held : Option ℕ) (l : Left) → end_slot clusters next bar s held ≡ Ok l → (held ≡ None) × (clusters ≤ next) × (l ≡ left next bar (slot_with s.drawn None Ended))
ended clusters next bar s held l h = grind (arith, nat_tests)

how : (clusters next bar : ℕ) (s : Slot) (e : Event) (l : Left) → running_step clusters next bar s e ≡ Ok l → How clusters next bar s e l
how clusters next bar s e l h = grind (arith, claimed, given_up, passed_over, ended)

running : (i : ℕ) (p : Phase) (r : Result Left StepCause) (l : Left) → if_running i p r ≡ Ok l → (p ≡ Running) × (r ≡ Ok l)
running i p r l h = grind arith

slotted : (m : Machine) (i : ℕ) (r : Result Left StepCause) (after : Machine) → with_slot m i r ≡ Ok after → (l : Left) × (r ≡ Ok l) × (after ≡ changed m i l)
slotted m i r after h = grind arith

stepped_at : (clusters : ℕ) (m : Machine) (e : Event) (after : Machine) (o : Option Slot) → slice_get m.slots (slot_of e) ≡ o → step_of clusters m e o ≡ Ok after → IsStepped clusters m e after
stepped_at clusters m e after o h k = grind (arith, slotted, running, how)

pub stepped : (clusters : ℕ) (m : Machine) (e : Event) (after : Machine) → claim_step clusters m e ≡ Ok after → IsStepped clusters m e after
stepped clusters m e after h = stepped_at clusters m e after (slice_get m.slots (slot_of e)) refl h

-- what steps keep is kept by all events
pub replays : (clusters : ℕ) (P : List Event → Machine → Type 0)
    → ((past : List Event) (m : Machine) (e : Event) (after : Machine) → P past m → IsStepped clusters m e after → P (past ++ e ∷ []) after)
    → (n : ℕ) (past es : List Event) (m after : Machine) → P past m → replay_from clusters n m es ≡ Ok after → P (past ++ es) after
replays clusters P keeps n past [] m after p h = let same : m ≡ after = cc in subst (λ l. P l after) (sym (append-nil past)) (subst (P past) same p)
replays clusters P keeps n past (e ∷ es) m after p h =
    go (λ next is k. replays clusters P keeps (n + 1) (past ++ e ∷ []) es next after (keeps past m e next p (stepped clusters m e next is)) k) (claim_step clusters m e) refl h
  where
    go : ((next : Machine) → claim_step clusters m e ≡ Ok next → replay_from clusters (n + 1) next es ≡ Ok after → P ((past ++ e ∷ []) ++ es) after)
        → (r : Result Machine StepCause) → claim_step clusters m e ≡ r → ◌≡◌ {A = Result Machine (ℕ × StepCause)} (elim r [ Err cause ↦ Err (n, cause) | Ok next ↦ replay_from clusters (n + 1) next es ]) (Ok after) → P (past ++ e ∷ es) after
    go rest (Err cause) is k = absurd (cc)
    go rest (Ok next) is k = subst (λ l. P l after) (append_assoc past (e ∷ []) es) (rest next is k)

-- ---- a step of one slot among all

module _ (clusters number : ℕ) (front : Front) (slots : List CoreSlot) (e : Event) (d now : CoreSlot) (is : number ≡ slot_of e) (within : number < length slots) where
  found : slice_get (seen_slots slots) number ≡ Some (seen_slot (get_or slots number d))
  found = slice_get-map seen_slot slots number ∙ ap (option_map seen_slot) (slice_get-get_or slots number d within)

  -- the slot of that number, as it steps under this number
  abbrev slot_step : ℕ → Result Left StepCause
  slot_step n = if_running n (seen_slot (get_or slots number d)).phase (running_step clusters front.next front.bar (seen_slot (get_or slots number d)) e)

  slot_stepped : claim_step clusters (seen_machine front slots) e ≡ with_slot (seen_machine front slots) number (slot_step number)
  slot_stepped =
      ap (λ n. step_of clusters (seen_machine front slots) e (slice_get (seen_slots slots) n)) (sym is)
      ∙ ap (step_of clusters (seen_machine front slots) e) found
      ∙ ap (λ n. with_slot (seen_machine front slots) n (slot_step n)) (sym is)

  unchanged : now ≡ get_or slots number d → set slots number now ≡ slots
  unchanged same = ap (set slots number) same ∙ set-get_or slots number d

  -- the machine's step by that of the slot
  abbrev pub StepsAmong : Result Front StepRefusal → Type 0
  StepsAmong (Ok after) = claim_step clusters (seen_machine front slots) e ≡ Ok (seen_machine after (set slots number now))
  StepsAmong (Err refusal) = (set slots number now ≡ slots) × Refused (claim_step clusters (seen_machine front slots) e) refusal

  pub among : (r : Result Front StepRefusal) → Steps (slot_step number) (get_or slots number d) now r → StepsAmong r
  among (Ok after) steps = slot_stepped ∙ ap (with_slot (seen_machine front slots) number) steps ∙ ap (λ l. Ok (record { next = after.next; bar = after.bar; slots = l })) (sym (map-set seen_slot slots number now))
  among (Err (Cause c)) steps = (unchanged steps.0, slot_stepped ∙ ap (with_slot (seen_machine front slots) number) steps.1)
  among (Err Memory) steps = (unchanged steps.0, tt)
