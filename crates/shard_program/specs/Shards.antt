-- What reading the files of a merging comes to.
use Rattle.std.specs.Prelude.{◌≡◌, ◌≤◌, ◌+◌, ⊤, ℕ, List, [], ◌∷◌, Option, Some, None, IfSome, length}
use Rattle.rdf_values.specs.{Function, Script}
use Rattle.input_files.specs.{Tells, WithFile}
use Rattle.shard_files.specs.{IsShard, IsShardText, ShardView}
use Rattle.shard_due.specs.{bytes_in, Files, IsDueToShards, max_files, ReadsShard, ShardDue, statuses, WithShard, WithShards}
use Rattle.shard_program.specs.Answers.{Answers, IsAnswer}
use Rattle.shard_program.specs.declared.shard_file.ReadShard.{ReadShard}
use Rattle.shard_program.specs.declared.shards.ReadShards.{ReadShards}

-- ---- one file

-- the file is the text of the shard, in so many bytes
abbrev pub HoldsTheShard : ShardView → ℕ → Option (List ℕ) → Type 0
HoldsTheShard shard count None = ⊥
HoldsTheShard shard count (Some bytes) = (length bytes ≡ count) × IsShardText bytes shard

-- the shard that the bytes are the text of, or the line at which they are refused
abbrev pub ReadsShardText : List ℕ → List ℕ → ReadShard → Type 0
ReadsShardText name bytes (ReadShard.Whole shard count) = (count ≡ length bytes) × IsShardText bytes shard
ReadsShardText name bytes (ReadShard.Refused answer) = Answers (λ due. ReadsShard name bytes (λ s d. ⊥) due) answer

-- what is due to a file that holds no shard, or has too many bytes together with those before it
abbrev pub IsDueToFile : List ℕ → ℕ → Files → ShardDue → Type 0
IsDueToFile name before files due = WithFile statuses name (files name) (λ bytes d. WithShard name before bytes (λ s e. ⊥) d) due

-- the shard of a file that isn't too long together with those before it
pub record IsShardOf (told : Option Files) (name : List ℕ) (before count : ℕ) (shard : ShardView) : Type 0 where
  pub holds : Tells told name (HoldsTheShard shard count)
  pub few : before + count ≤ max_files
  pub valid : IsShard shard

-- the shard that the file holds, or why it gives none
abbrev pub ReadsShardFile : Option Files → List (List ℕ) → ℕ → ℕ → List ℕ → ℕ → ReadShard → Type 0
ReadsShardFile told turns faults now name before (ReadShard.Whole shard count) = IsShardOf told name before count shard
ReadsShardFile told turns faults now name before (ReadShard.Refused answer) = IsAnswer (IsDueToFile name before) told turns faults now answer

-- ---- all files

abbrev pub AreShards : List ShardView → Type 0
AreShards [] = ⊤
AreShards (s ∷ shards) = IsShard s × AreShards shards

abbrev pub IsTextOf : ShardView → Option (List ℕ) → Type 0
IsTextOf shard None = ⊥
IsTextOf shard (Some bytes) = IsShardText bytes shard

-- the files of these names are the texts of these shards, one by one
abbrev pub HoldShards : Files → List (List ℕ) → List ShardView → Type 0
HoldShards files [] [] = ⊤
HoldShards files [] (s ∷ shards) = ⊥
HoldShards files (name ∷ names) [] = ⊥
HoldShards files (name ∷ names) (s ∷ shards) = IsTextOf s (files name) × HoldShards files names shards

-- and they have so many bytes together
pub record HoldAll (names : List (List ℕ)) (shards : List ShardView) (count : ℕ) (files : Files) : Type 0 where
  pub hold : HoldShards files names shards
  pub bytes : bytes_in files names ≡ count

-- what is due to files of which one holds no shard, or is too long
abbrev pub IsDueToNames : List (List ℕ) → Files → ShardDue → Type 0
IsDueToNames names files due = WithShards files 0 [] names (λ s d. ⊥) due

-- the shards of these files, which aren't too long together
pub record AreShardsRead (told : Option Files) (names : List (List ℕ)) (shards : List ShardView) : Type 0 where
  pub many : length shards ≡ length names
  pub valid : AreShards shards
  pub count : ℕ
  pub few : count ≤ max_files
  pub hold : IfSome told (HoldAll names shards count)

-- the shards that all files hold, or why one gives none
abbrev pub ReadsShards : Option Files → List (List ℕ) → ℕ → ℕ → List (List ℕ) → ReadShards → Type 0
ReadsShards told turns faults now names (ReadShards.All shards) = AreShardsRead told names shards
ReadsShards told turns faults now names (ReadShards.Refused answer) = IsAnswer (IsDueToNames names) told turns faults now answer

-- what is due to a script and files
abbrev pub IsDueToFiles : List Function → Script → List (List ℕ) → Files → ShardDue → Type 0
IsDueToFiles fns script names files due = WithShards files 0 [] names (λ shards d. IsDueToShards fns names script shards d) due
