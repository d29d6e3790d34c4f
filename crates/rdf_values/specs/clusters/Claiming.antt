-- Slots that claim clusters, as a machine of events. A fault lowers a bar, at and above which a slot passes its cluster over.
use Rattle.std.specs.Prelude.{◌≡◌, ⊤, ℕ, ◌+◌, ◌<◌, Bool, true, false, ◌&&◌, min, List, [], ◌∷◌, ◌++◌, length, map, flat_map, replicate, All, IsTrue, Option, Some, None, if◌then◌else◌, nat_eq, nat_lt, nat_le, slice_get, slice_set, Result, Ok, Err}
use Rattle.rdf_values.specs.declared.clusters.event.Event.{Event}
use Rattle.rdf_values.specs.declared.clusters.event.Event.TheVariants.{Claim, Finish, Fault, Skip, End}
use Rattle.rdf_values.specs.declared.clusters.event.StepCause.{StepCause}
use Rattle.rdf_values.specs.declared.clusters.event.StepCause.TheVariants.{NoSlot, Stopped, Busy, NotHeld, NotBarred, NotNext, NotOver}
use Rattle.rdf_values.specs.declared.results.Fault.{Fault as LoopFault}

-- whether a slot goes on
pub data Phase : Type 0 where
  Running Ended : Phase
  Faulted : (fault : LoopFault) → Phase

-- the clusters that a slot drew, the one that it holds, and whether it goes on
pub record Slot : Type 0 where
  pub drawn : List ℕ
  pub held : Option ℕ
  pub phase : Phase

-- the next cluster to be drawn, the bar, and the slots by their numbers
pub record Machine : Type 0 where
  pub next : ℕ
  pub bar : ℕ
  pub slots : List Slot

-- no cluster of so many is drawn, and each slot runs and holds nothing
abbrev pub opening : ℕ → ℕ → Machine
opening clusters slots = record { next = 0; bar = clusters; slots = replicate slots (record { drawn = []; held = None; phase = Running }) }

-- the slot of an event
abbrev pub slot_of : Event → ℕ
slot_of (Claim slot cluster) = slot
slot_of (Finish slot cluster) = slot
slot_of (Fault slot cluster fault) = slot
slot_of (Skip slot cluster) = slot
slot_of (End slot) = slot

-- ---- one event of a running slot: the next number, the bar and the slot afterwards

-- what an event leaves
pub record Left : Type 0 where
  pub next : ℕ
  pub bar : ℕ
  pub slot : Slot

-- a claim of the next cluster by a slot that holds nothing
abbrev pub claim_next : ℕ → ℕ → ℕ → ℕ → Slot → Option ℕ → Result Left StepCause
claim_next clusters next bar cluster s (Some c) = Err (Busy c)
claim_next clusters next bar cluster s None =
    if nat_eq cluster next && nat_lt next clusters
    then Ok (record { next = next + 1; bar = bar; slot = record { drawn = s.drawn ++ next ∷ []; held = Some next; phase = Running } })
    else Err (NotNext next)

-- the slot gives up the cluster that it holds, and is then in this phase, with this bar
abbrev pub give_up : ℕ → ℕ → ℕ → Slot → Option ℕ → Phase → Result Left StepCause
give_up next bar cluster s None phase = Err (NotHeld None)
give_up next bar cluster s (Some c) phase =
    if nat_eq c cluster then Ok (record { next = next; bar = bar; slot = record { drawn = s.drawn; held = None; phase = phase } }) else Err (NotHeld (Some c))

-- the slot passes over the cluster that it holds and ends, where it isn't below the bar
abbrev pub pass_over : ℕ → ℕ → ℕ → Slot → Option ℕ → Result Left StepCause
pass_over next bar cluster s None = Err (NotHeld None)
pass_over next bar cluster s (Some c) =
    if nat_eq c cluster
    then (if nat_lt c bar then Err (NotBarred bar) else Ok (record { next = next; bar = bar; slot = record { drawn = s.drawn; held = None; phase = Ended } }))
    else Err (NotHeld (Some c))

-- a slot that holds nothing stops, once every cluster is claimed
abbrev pub end_slot : ℕ → ℕ → ℕ → Slot → Option ℕ → Result Left StepCause
end_slot clusters next bar s (Some c) = Err (Busy c)
end_slot clusters next bar s None =
    if nat_lt next clusters then Err (NotOver next) else Ok (record { next = next; bar = bar; slot = record { drawn = s.drawn; held = None; phase = Ended } })

-- the event by its kind
abbrev pub running_step : ℕ → ℕ → ℕ → Slot → Event → Result Left StepCause
running_step clusters next bar s (Claim slot cluster) = claim_next clusters next bar cluster s s.held
running_step clusters next bar s (Finish slot cluster) = give_up next bar cluster s s.held Running
running_step clusters next bar s (Fault slot cluster fault) = give_up next (min bar cluster) cluster s s.held (Faulted fault)
running_step clusters next bar s (Skip slot cluster) = pass_over next bar cluster s s.held
running_step clusters next bar s (End slot) = end_slot clusters next bar s s.held

-- ---- one event of the machine

-- a slot that ended or faulted takes no event
abbrev pub if_running : ℕ → Phase → Result Left StepCause → Result Left StepCause
if_running slot Running r = r
if_running slot phase r = Err (Stopped slot)

-- the machine with that slot afterwards
abbrev pub with_slot : Machine → ℕ → Result Left StepCause → Result Machine StepCause
with_slot m slot (Err cause) = Err cause
with_slot m slot (Ok r) = Ok (record { next = r.next; bar = r.bar; slots = slice_set m.slots slot r.slot })

-- the step of the slot that the event names, where there is one
abbrev pub step_of : ℕ → Machine → Event → Option Slot → Result Machine StepCause
step_of clusters m e None = Err (NoSlot (length m.slots))
step_of clusters m e (Some s) = with_slot m (slot_of e) (if_running (slot_of e) s.phase (running_step clusters m.next m.bar s e))

-- the machine over so many clusters after an event, or why it is refused
abbrev pub claim_step : ℕ → Machine → Event → Result Machine StepCause
claim_step clusters m e = step_of clusters m e (slice_get m.slots (slot_of e))

-- the machine after all events, or the place of the first that is refused, counted from n, and why
abbrev pub replay_from : ℕ → ℕ → Machine → List Event → Result Machine (ℕ × StepCause)
replay_from clusters n m [] = Ok m
replay_from clusters n m (e ∷ es) =
    elim (claim_step clusters m e) [ Err cause ↦ Err (n, cause) | Ok after ↦ replay_from clusters (n + 1) after es ]

-- the machine after all events from the opening on, or the place of the first that is refused, and why
abbrev pub replayed : ℕ → ℕ → List Event → Result Machine (ℕ × StepCause)
replayed clusters slots es = replay_from clusters 0 (opening clusters slots) es

-- ---- what a replay tells

-- the numbers that each slot drew
abbrev pub drawn_lists : Machine → List (List ℕ)
drawn_lists m = map (λ (s : Slot). s.drawn) m.slots

-- a slot ended or faulted
abbrev pub is_over : Phase → Bool
is_over Running = false
is_over phase = true

-- for each cluster its first fault or none: a fault of a lower cluster has a lower entry
abbrev pub AreInEntryOrder : List (Option LoopFault) → Type 0
AreInEntryOrder faults = (c d : ℕ) (f g : LoopFault) → c < d → slice_get faults c ≡ Some (Some f) → slice_get faults d ≡ Some (Some g) → f.entry < g.entry

-- a cluster that is finished has no fault, and a fault is that of its cluster
abbrev pub IsHonestEvent : List (Option LoopFault) → Event → Type 0
IsHonestEvent faults (Finish slot cluster) = slice_get faults cluster ≡ Some None
IsHonestEvent faults (Fault slot cluster fault) = slice_get faults cluster ≡ Some (Some fault)
IsHonestEvent faults e = ⊤

-- each event tells the truth about its cluster
abbrev pub IsHonest : List (Option LoopFault) → List Event → Type 0
IsHonest faults [] = ⊤
IsHonest faults (e ∷ es) = IsHonestEvent faults e × IsHonest faults es

-- ---- faults

-- the fault at the lower entry
abbrev pub lesser_fault : LoopFault → Option LoopFault → LoopFault
lesser_fault f None = f
lesser_fault f (Some g) = if nat_le f.entry g.entry then f else g

-- the fault at the least entry, where there is one
abbrev pub least_fault : List LoopFault → Option LoopFault
least_fault [] = None
least_fault (f ∷ fs) = Some (lesser_fault f (least_fault fs))

-- the fault of the first cluster that has one
abbrev pub first_in : List (Option LoopFault) → Option LoopFault
first_in [] = None
first_in (None ∷ faults) = first_in faults
first_in (Some f ∷ faults) = Some f

-- the fault with which a slot stopped
abbrev pub fault_of : Phase → List LoopFault
fault_of Running = []
fault_of Ended = []
fault_of (Faulted fault) = fault ∷ []

-- the faults with which slots stopped
abbrev pub slot_faults : Machine → List LoopFault
slot_faults m = flat_map (λ (s : Slot). fault_of s.phase) m.slots

-- the clusters that the events finish, and none that a slot passed over
abbrev pub finished : List Event → List ℕ
finished [] = []
finished (Finish slot cluster ∷ es) = cluster ∷ finished es
finished (e ∷ es) = finished es

-- each slot ended or faulted
abbrev pub AreOver : Machine → Type 0
AreOver m = All (λ (s : Slot). IsTrue (is_over s.phase)) m.slots
