-- What a run of a snapshot answers.
use Rattle.std.specs.Prelude.{◌≡◌, ⊤, ◌<◌, ◌≤◌, ℕ, List, flat_map, None, Some, Result, Ok, Err, length}
use Rattle.rdf_values.specs.{TableView}
use Rattle.rdf_model.specs.{Dataset}
use Rattle.snapshot_plan.specs.{PlanView}
use Rattle.snapshot_text.specs.{entries_text, table_text}
use Rattle.snapshot_rows.specs.{snapshot, snapshot_entries, snapshot_fault}
use Rattle.snapshot_run.specs.declared.stop.SnapStop.{SnapStop}

-- the most bytes of a text
abbrev pub most_bytes : ℕ
most_bytes = 67108864

-- the whole text, where it isn't too long; or how long it would be; or memory was wanted
abbrev pub IsTogether : List ℕ → Result (List ℕ) SnapStop → Type 0
IsTogether whole (Ok text) = (text ≡ whole) × (length whole ≤ most_bytes)
IsTogether whole (Err (SnapStop.Fault entry kind)) = ⊥
IsTogether whole (Err (SnapStop.TooLong bytes)) = (bytes ≡ length whole) × (most_bytes < bytes)
IsTogether whole (Err SnapStop.Memory) = ⊤

-- the records of all entries, in parts; or their first fault; or memory was wanted
abbrev pub AreRecords : PlanView → Dataset → Result (List (List ℕ)) SnapStop → Type 0
AreRecords p d (Ok texts) = (snapshot_fault p d 0 d.rows ≡ None) × (flat_map (λ t. t) texts ≡ entries_text (snapshot_entries p d d.rows))
AreRecords p d (Err (SnapStop.Fault entry kind)) = snapshot_fault p d 0 d.rows ≡ Some (record { entry = entry; kind = kind })
AreRecords p d (Err (SnapStop.TooLong bytes)) = ⊥
AreRecords p d (Err SnapStop.Memory) = ⊤

-- the text of the snapshot, where it isn't too long; or the snapshot's fault; or how long the text would be; or memory was wanted
abbrev pub IsRun : PlanView → Dataset → Result (List ℕ) SnapStop → Type 0
IsRun p d (Ok text) = (t : TableView) × (snapshot p d ≡ Ok t) × (text ≡ table_text t) × (length text ≤ most_bytes)
IsRun p d (Err (SnapStop.Fault entry kind)) = snapshot p d ≡ Err (record { entry = entry; kind = kind })
IsRun p d (Err (SnapStop.TooLong bytes)) = (t : TableView) × (snapshot p d ≡ Ok t) × (bytes ≡ length (table_text t)) × (most_bytes < bytes)
IsRun p d (Err SnapStop.Memory) = ⊤
