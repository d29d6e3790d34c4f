-- What a sink in memory holds, and what a write does to it.
use Rattle.std.specs.Prelude.{◌≡◌, ◌<◌, ℕ, ◌+◌, ◌-◌, ◌^◌, ◌⊎◌, min, List, [], ◌++◌, Result, Ok, Err, true, length, take}
use Rattle.rdf_outside.specs.Memory.{is_listed, Counts}
use Rattle.rdf_outside.specs.declared.shelf.Failed.{Failed}
use Rattle.rdf_outside.specs.declared.memory_sink.MemorySink.{MemorySink}

-- the bytes that were written
abbrev pub sink_bytes : MemorySink → List ℕ
sink_bytes s = s.bytes.items

-- how many bytes a write takes at most
abbrev pub sink_at_most : MemorySink → ℕ
sink_at_most s = s.at_most

-- how many writes were made
abbrev pub sink_made : MemorySink → ℕ
sink_made s = s.calls.made

-- the numbers of the writes that are to fail
abbrev pub sink_listed : MemorySink → List ℕ
sink_listed s = s.calls.listed.items

-- how many writes have failed
abbrev pub sink_faults : MemorySink → ℕ
sink_faults s = s.faults

-- how many more bytes fit
abbrev pub sink_free : MemorySink → ℕ
sink_free s = s.room - length s.bytes.items

-- an empty sink of this size, to which nothing was written
pub record IsNew (s : MemorySink) (size : ℕ) : Type 0 where
  pub bytes : s.bytes.items ≡ []
  pub room : s.room ≡ size
  pub at_most : s.at_most ≡ 2 ^ 64 - 1
  pub made : s.calls.made ≡ 0
  pub listed : s.calls.listed.items ≡ []
  pub faults : s.faults ≡ 0

-- what was written, the room and the counts are the same
pub record HoldsStill (before after : MemorySink) : Type 0 where
  pub bytes : after.bytes.items ≡ before.bytes.items
  pub room : after.room ≡ before.room
  pub made : after.calls.made ≡ before.calls.made
  pub faults : after.faults ≡ before.faults

-- one more write was made, these bytes were added, and so many writes have failed
pub record IsWritten (before after : MemorySink) (added : List ℕ) (faults : ℕ) : Type 0 where
  pub room : after.room ≡ before.room
  pub at_most : after.at_most ≡ before.at_most
  pub calls : Counts before.calls after.calls
  pub bytes : after.bytes.items ≡ before.bytes.items ++ added
  pub count : after.faults ≡ faults

-- the number of the write is listed, or the piece isn't empty and there is no room
abbrev pub IsRefused : MemorySink → List ℕ → Type 0
IsRefused s piece = (is_listed s.calls ≡ true) ⊎ ((0 < length piece) × (sink_free s ≡ 0))

-- a write takes the first bytes of the piece, as many as fit and the bound allows, but where it is refused
abbrev pub TakesWhatFits : MemorySink → MemorySink → Result ℕ Failed → List ℕ → Type 0
TakesWhatFits before after (Ok n) piece = (IsRefused before piece → ⊥) × (n ≡ min (min (length piece) (sink_free before)) before.at_most) × IsWritten before after (take n piece) before.faults
TakesWhatFits before after (Err e) piece = IsRefused before piece × IsWritten before after [] (min (before.faults + 1) (2 ^ 64 - 1))
