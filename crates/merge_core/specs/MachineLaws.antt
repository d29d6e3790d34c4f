-- Laws of slots that claim clusters.
use Rattle.std.specs.Prelude.{◌≡◌, ◌<◌, ℕ, Option, Ok, List, [], IsPermutation, length}
use Rattle.rdf_values.specs.{AreInEntryOrder, AreOver, below, drawn_lists, DrawnBy, Event, Fault, finished, first_in, IsHonest, least_fault, Machine, replayed, slot_faults}

-- the clusters below the next one are drawn, each once
abbrev pub EachIsDrawnOnce : Type 0
EachIsDrawnOnce = (clusters slots : ℕ) (es : List Event) (m : Machine) → replayed clusters slots es ≡ Ok m → DrawnBy (drawn_lists m) m.next

-- once every slot is over, honest events tell the first fault: it is the slots' fault at the least entry;
-- and where no slot faulted, no cluster has a fault, and all are finished, each once
abbrev pub FirstFaultIsTold : Type 0
FirstFaultIsTold =
    (clusters slots : ℕ) (es : List Event) (m : Machine) (faults : List (Option Fault))
    → 0 < slots → replayed clusters slots es ≡ Ok m → AreOver m
    → length faults ≡ clusters → AreInEntryOrder faults → IsHonest faults es
    → (least_fault (slot_faults m) ≡ first_in faults) × (slot_faults m ≡ [] → IsPermutation (finished es) (below clusters))
