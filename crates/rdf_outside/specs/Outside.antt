-- What calls of a shelf and a sink do to their bytes and to their counts of faults.
use Rattle.std.specs.Prelude.{◌≡◌, ◌<◌, ◌≤◌, ◌+◌, ◌-◌, ◌^◌, ℕ, List, [], ◌++◌, Option, Some, None, Result, Ok, Err, Bool, true, false, OnErr, OnOk, min, length, take, drop, flat_map}
use Rattle.rdf_outside.specs.declared.shelf.TurnStop.{TurnStop}
use Rattle.rdf_outside.specs.declared.shelf.TurnStop.TheVariants.{Failed}
use Rattle.std.specs.Io.KnownBytes.{ReadConsumes}
use Rattle.std.specs.IoError.{error_kind}
use Rattle.std.specs.declared.io.Error.{Error}
use Rattle.std.specs.declared.io.ErrorKind.{ErrorKind}
use Rattle.std.specs.declared.io.ErrorKind.TheVariants.{NotFound, OutOfMemory}
use Rattle.rdf_outside.specs.declared.shelf.Failed as F

-- a count is greater than before, or stands at its last value
abbrev pub Rose : ℕ → ℕ → Type 0
Rose before now = min (before + 1) (2 ^ 64 - 1) ≤ now

-- an error is answered only where the count rose
pub record HasCause {T E : Type 0} (before now : ℕ) (result : Result T E) : Type 0 where
  pub later : before ≤ now
  pub failed : OnErr result (Rose before now)
  pub kept : OnOk result (now ≡ before)

abbrev pub IsFailed : Result Bool TurnStop → Type 0
IsFailed (Err Failed) = Unit {0}
IsFailed r = ⊥

pub record TurnHasCause (before now : ℕ) (result : Result Bool TurnStop) : Type 0 where
  pub later : before ≤ now
  pub failed : IsFailed result → Rose before now
  pub kept : (IsFailed result → ⊥) → now ≡ before

-- turning to a file: whether it is there, and all its bytes are left
abbrev pub Finds : Option (List ℕ) → Option (List ℕ) → Bool → Type 0
Finds None left found = (found ≡ false) × (left ≡ Some [])
Finds (Some bytes) left found = (found ≡ true) × (left ≡ Some bytes)

abbrev pub TurnsTo : Option (List ℕ → Option (List ℕ)) → List ℕ → Option (List ℕ) → Result Bool TurnStop → Type 0
TurnsTo None name left result = Unit {0}
TurnsTo (Some files) name left (Ok found) = Finds (files name) left found
TurnsTo (Some files) name left (Err e) = left ≡ None

-- a read of n bytes into a buffer
pub record Takes (left : List ℕ) (after : Option (List ℕ)) (n : ℕ) (buf : List ℕ) : Type 0 where
  pub within : n ≤ length left
  pub rest : after ≡ Some (drop n left)
  pub taken : take n buf ≡ take n left
  pub ends : n ≡ 0 → 0 < length buf → left ≡ []

abbrev pub ReadsTold : Option (List ℕ) → Option (List ℕ) → ℕ → List ℕ → Type 0
ReadsTold None after n buf = Unit {0}
ReadsTold (Some left) after n buf = Takes left after n buf

abbrev pub ReadsFrom : {E : Type 0} → Option (List ℕ) → Option (List ℕ) → Result ℕ E → List ℕ → Type 0
ReadsFrom left after (Ok n) buf = (n ≤ length buf) × ReadsTold left after n buf
ReadsFrom left after (Err e) buf = after ≡ None

-- what was written is followed by these bytes, where it is told
abbrev pub Appends : Option (List ℕ) → Option (List ℕ) → List ℕ → Type 0
Appends None after bytes = Unit {0}
Appends (Some written) after bytes = after ≡ Some (written ++ bytes)

abbrev pub WritesTo : {E : Type 0} → Option (List ℕ) → Option (List ℕ) → Result ℕ E → List ℕ → Type 0
WritesTo written after (Ok n) piece = (n ≤ length piece) × (0 < length piece → 0 < n) × Appends written after (take n piece)
WritesTo written after (Err e) piece = after ≡ written

-- a first part of these bytes
pub record IsPartOf (part all : List ℕ) : Type 0 where
  pub rest : List ℕ
  pub whole : all ≡ part ++ rest

-- some first part of the bytes was written
pub record AppendsPart (written after : Option (List ℕ)) (bytes : List ℕ) : Type 0 where
  pub part : List ℕ
  pub is_part : IsPartOf part bytes
  pub appends : Appends written after part

-- ---- what is read of a file as a whole

-- these are all the bytes that were left, and none is left now, where that is told
abbrev pub Reads : Option (List ℕ) → Option (List ℕ) → List ℕ → Type 0
Reads None after bytes = Unit {0}
Reads (Some left) after bytes = (bytes ≡ left) × (after ≡ Some [])

-- more than so many bytes were left, where that is told
abbrev pub IsTooLarge : ℕ → Option (List ℕ) → Type 0
IsTooLarge max None = Unit {0}
IsTooLarge max (Some left) = max < length left

-- the first bytes of what was left were taken, one more than so many, where that is told
abbrev pub TakesOneMore : ℕ → Option (List ℕ) → Option (List ℕ) → Type 0
TakesOneMore max None after = Unit {0}
TakesOneMore max (Some left) after = after ≡ Some (drop (max + 1) left)

-- the bytes that were read and those that are left make up the whole
abbrev pub Joins : List ℕ → List ℕ → Option (List ℕ) → Type 0
Joins all bytes None = ⊥
Joins all bytes (Some rest) = all ≡ bytes ++ rest

-- the bytes of the parts, one part behind the other
abbrev pub in_a_row : List (List ℕ) → List ℕ
in_a_row parts = flat_map (λ part. part) parts

-- all the bytes that were left, in parts, and no more than so many
pub record ReadsParts (max : ℕ) (left after : Option (List ℕ)) (parts : List (List ℕ)) : Type 0 where
  pub bytes : Reads left after (in_a_row parts)
  pub few : length (in_a_row parts) ≤ max

-- ---- what a shelf and a sink answer to an answer of std, and what their counts of faults then are

-- the answer is this one, and no fault was counted
abbrev pub Passes : {A : Type 0} → A → A → ℕ → ℕ → Type 0
Passes answer result before now = (result ≡ answer) × (now ≡ before)

-- the answer is this fault, which was counted
abbrev pub Faults : {A : Type 0} → A → A → ℕ → ℕ → Type 0
Faults fault result before now = (result ≡ fault) × (now ≡ min (before + 1) (2 ^ 64 - 1))

-- the count of a read stands as it is; each error is a fault
abbrev pub AnswersRead : {E : Type 0} → Result ℕ E → Result ℕ F.Failed → ℕ → ℕ → Type 0
AnswersRead (Ok n) result before now = Passes (Ok n) result before now
AnswersRead (Err e) result before now = Faults (Err (record {})) result before now

-- the count of a write stands as it is, but 0 of a piece that isn't empty is a fault, as each error is
abbrev pub AnswersWrite : {E : Type 0} → Result ℕ E → List ℕ → Result ℕ F.Failed → ℕ → ℕ → Type 0
AnswersWrite (Ok n) piece result before now =
    (0 < n → Passes (Ok n) result before now) × (piece ≡ [] → Passes (Ok n) result before now) × (n ≡ 0 → 0 < length piece → Faults (Err (record {})) result before now)
AnswersWrite (Err e) piece result before now = Faults (Err (record {})) result before now

-- a file that isn't found is none, want of memory is itself, and each other error is a fault
abbrev pub AnswersMiss : ErrorKind → Result Bool TurnStop → ℕ → ℕ → Type 0
AnswersMiss NotFound result before now = Passes (Ok false) result before now
AnswersMiss OutOfMemory result before now = Passes (Err TurnStop.Memory) result before now
AnswersMiss kind result before now = Faults (Err TurnStop.Failed) result before now

-- a file that was opened is there and is the one turned to
abbrev pub AnswersOpen : {T : Type 0} → Result T Error → Option T → Result Bool TurnStop → ℕ → ℕ → Type 0
AnswersOpen (Ok file) kept result before now = (kept ≡ Some file) × Passes (Ok true) result before now
AnswersOpen (Err error) kept result before now = (kept ≡ None) × AnswersMiss (error_kind error) result before now

-- there is a file turned to exactly where one was found
abbrev pub KeepsFound : {T : Type 0} → Option T → Result Bool TurnStop → Type 0
KeepsFound (Some file) result = result ≡ Ok true
KeepsFound None result = result ≡ Ok true → ⊥

-- the file turned to is kept, and its next bytes are read; where there is none, nothing is left
abbrev pub ReadsOn : {File E : Type 0} → (File → Option (List ℕ)) → Option File → Option File → Result ℕ E → List ℕ → Type 0
ReadsOn remaining None kept result buf = (kept ≡ None) × (result ≡ Ok 0)
ReadsOn remaining (Some file) None result buf = ⊥
ReadsOn remaining (Some file) (Some kept) result buf = ReadConsumes (remaining file) (remaining kept) result buf
