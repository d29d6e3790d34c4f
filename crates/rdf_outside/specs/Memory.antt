-- What a shelf in memory holds.
use Rattle.std.specs.Prelude.{◌≡◌, nat_eq, ℕ, ◌+◌, ◌-◌, ◌^◌, min, Bool, if◌then◌else◌, zero, suc, List, [], ◌∷◌, Option, Some, None, true, false, Result, Ok, Err, drop}
use Rattle.std.specs.List.{list_any}
use Rattle.rdf_outside.specs.declared.call_list.CallList.{CallList}
use Rattle.std.specs.Cmp.Lexicographic.{pointwise}
use Rattle.rdf_outside.specs.declared.memory_shelf.MemoryFile.{MemoryFile}
use Rattle.rdf_outside.specs.declared.memory_shelf.MemoryShelf.{MemoryShelf}
use Rattle.rdf_outside.specs.declared.memory_shelf.ReadPlace.{ReadPlace}
use Rattle.rdf_outside.specs.declared.shelf.TurnStop.{TurnStop}
use Rattle.rdf_outside.specs.declared.shelf.TurnStop.TheVariants.{Failed}

-- ---- the calls of a shelf or a sink in memory, and which of them fail

-- the number of the next call is among those that are to fail
abbrev pub is_listed : CallList → Bool
is_listed c = list_any (λ call. nat_eq call c.made) c.listed.items

-- one more call was made, and those that are to fail are the same
pub record Counts (before after : CallList) : Type 0 where
  pub made : after.made ≡ min (before.made + 1) (2 ^ 64 - 1)
  pub listed : after.listed.items ≡ before.listed.items

-- the count of faults, one higher where this call failed
abbrev pub faults_after : ℕ → Bool → ℕ
faults_after faults failed = if failed then min (faults + 1) (2 ^ 64 - 1) else faults

-- two texts have the same bytes
abbrev pub same_bytes : List ℕ → List ℕ → Bool
same_bytes xs ys = pointwise nat_eq xs ys

abbrev pub has_name : List ℕ → MemoryFile → Bool
has_name name file = same_bytes file.name.items name

-- the bytes of the first file of that name
abbrev pub file_of : List MemoryFile → List ℕ → Option (List ℕ)
file_of [] name = None
file_of (f ∷ fs) name = if has_name name f then Some f.bytes.items else file_of fs name

-- the bytes of the file at a place; none past the last file
abbrev pub bytes_at : List MemoryFile → ℕ → List ℕ
bytes_at [] i = []
bytes_at (f ∷ fs) zero = f.bytes.items
bytes_at (f ∷ fs) (suc i) = bytes_at fs i

-- what is not yet read of the file turned to; nothing where there is none
abbrev pub left_at : List MemoryFile → Option ReadPlace → List ℕ
left_at files None = []
left_at files (Some p) = drop p.read (bytes_at files p.file)

-- the place after so many more bytes
abbrev pub moved : Option ReadPlace → ℕ → Option ReadPlace
moved None n = None
moved (Some p) n = Some record { file = p.file; read = min (p.read + n) (2 ^ 64 - 1) }

-- the bytes of the shelf's file of that name
abbrev pub shelf_file : MemoryShelf → List ℕ → Option (List ℕ)
shelf_file s name = file_of s.items.items name

-- what is not yet read of the shelf's file turned to, where no call has failed since
abbrev pub shelf_left : MemoryShelf → Option (List ℕ)
shelf_left s = if s.is_lost then None else Some (left_at s.items.items s.turned)

-- the names that the shelf was turned to
abbrev pub shelf_turns : MemoryShelf → List (List ℕ)
shelf_turns s = s.turns.names

-- how many calls were made
abbrev pub shelf_made : MemoryShelf → ℕ
shelf_made s = s.calls.made

-- the numbers of the calls that are to fail
abbrev pub shelf_listed : MemoryShelf → List ℕ
shelf_listed s = s.calls.listed.items

-- how many of those were made
abbrev pub shelf_faults : MemoryShelf → ℕ
shelf_faults s = s.faults

abbrev pub turn_fails : Result Bool TurnStop → Bool
turn_fails (Err Failed) = true
turn_fails r = false

abbrev pub read_fails : {E : Type 0} → Result ℕ E → Bool
read_fails (Ok n) = false
read_fails (Err e) = true

-- a call fails exactly where its number is listed, and is then counted
pub record FailsWhereListed (before after : MemoryShelf) (failed : Bool) : Type 0 where
  pub listed : failed ≡ is_listed before.calls
  pub counted : Counts before.calls after.calls
  pub faults : after.faults ≡ faults_after before.faults failed
