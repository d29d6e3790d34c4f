-- Laws of chains. Each is the contract of a function of this crate, and so proved.
use Rattle.std.specs.Prelude.{◌≡◌, ◌≤◌, ◌<◌, ◌+◌, ◌-◌, ◌++◌, ℕ, true, All, List, ◌∷◌, None, length, map, option_map, take}
use Rattle.rdf_values.specs.{ColType, Fault, Pass, Script, Span, Value}
use Rattle.rdf_model.specs.{first_fault}
use Rattle.shard_spans.specs.{loops_of, pass_shapes}
use Rattle.shard_runs.specs.{IsChecked, script_shapes}
use Rattle.chain_files.specs.{are_loops, BreaksAt, ChainFault, digest_of, end_file_of, first_differing, first_misshapen, first_uncovered, in_order, IsPart, IsPartText, joined_loop, joined_part, joined_parts, part_text, PartView}
use Rattle.chain_runs.specs.Chains.{Chain, all_rows, chain_fault, chain_loop, chain_part, one_table, part_over, with_rows}

-- ---- faults

-- where a fault stands in the rows of all tables, the files from the first one on
abbrev pub in_rows : List (List (List Value)) → ℕ → ChainFault → Fault
in_rows tables first f = record { entry = length (all_rows (take (f.file - first) tables)) + f.entry; pass = f.pass; kind = f.kind }

-- the first fault in a chain is that of its rows
abbrev pub FaultIsOfTheRows : Type 0
FaultIsOfTheRows = (c : Chain) (first : ℕ) (ps : List Pass) → option_map (in_rows c.tables first) (chain_fault c first ps) ≡ first_fault (one_table c) ps

-- ---- parts

-- each table has the checks of a run over it
abbrev pub AreChecked : Script → Chain → Type 0
AreChecked script c = All (λ rows. IsChecked script (with_rows c rows)) c.tables

-- what a run over a chain finds is a part
abbrev pub ChainsArePart : Type 0
ChainsArePart =
    (bytes : List ℕ) (script : Script) (c : Chain) (first : ℕ)
    → AreChecked script c → 0 < length c.tables → first + length c.tables ≤ 16777216 → IsPart (chain_part bytes script c first)

-- its text is read as what it found, and no line of it is refused
abbrev pub WrittenPartsReadBack : Type 0
WrittenPartsReadBack =
    (bytes : List ℕ) (script : Script) (c : Chain) (first : ℕ)
    → AreChecked script c → 0 < length c.tables → first + length c.tables ≤ 16777216
    → (let part : PartView = chain_part bytes script c first in
    ((s : PartView) → IsPartText (part_text part) s → s ≡ part) × ((number : ℕ) → BreaksAt (part_text part) number → ⊥))

-- its loops have the shapes of the script's passes
abbrev pub ChainsHaveShapes : Type 0
ChainsHaveShapes =
    (bytes : List ℕ) (script : Script) (c : Chain) (first : ℕ)
    → AreChecked script c → 0 < length c.tables → are_loops (script_shapes script (one_table c)) (chain_part bytes script c first).loops ≡ true

-- ---- joining

-- the chain with other tables behind its own
abbrev pub with_more : Chain → List (List (List Value)) → Chain
with_more c more = record { fns = c.fns; columns = c.columns; tables = c.tables ++ more }

-- the parts of two chains of which the second's files follow the first's join to the part of both
abbrev pub ChainsJoin : Type 0
ChainsJoin =
    (bytes : List ℕ) (script : Script) (c : Chain) (more : List (List (List Value))) (first : ℕ) (column : Pass → ColType)
    → (let behind : Chain = record { fns = c.fns; columns = c.columns; tables = more } in
    joined_part (map (pass_shapes column) (loops_of script)) (chain_part bytes script c first) (chain_part bytes script behind (first + length c.tables)) ≡ chain_part bytes script (with_more c more) first)

-- and so for each loop by itself
abbrev pub LoopsJoin : Type 0
LoopsJoin =
    (c : Chain) (more : List (List (List Value))) (first : ℕ) (column : Pass → ColType) (ps : List Pass)
    → (let behind : Chain = record { fns = c.fns; columns = c.columns; tables = more } in
    joined_loop (pass_shapes column ps) (chain_loop c first ps) (chain_loop behind (first + length c.tables) ps) ≡ chain_loop (with_more c more) first ps)

-- some files of the chain, at least one
abbrev pub AreFiles : Chain → Span → Type 0
AreFiles c files = (files.lo < files.hi) × (files.hi ≤ length c.tables)

-- parts over some files each of one chain, named in any order, are refused for no script, columns or shape
abbrev pub OnlyFilesAreRefused : Type 0
OnlyFilesAreRefused =
    (bytes : List ℕ) (script : Script) (c : Chain) (groups : List Span)
    → AreChecked script c → All (AreFiles c) groups
    → (let parts : List PartView = map (part_over bytes script c) groups in
    (first_differing (digest_of bytes) parts ≡ None) × (first_misshapen (script_shapes script (one_table c)) parts ≡ None))

-- where no file is uncovered they join, in the order of their files, to the part over the files of all
abbrev pub PartsJoinToOneRun : Type 0
PartsJoinToOneRun =
    (bytes : List ℕ) (script : Script) (c : Chain) (groups : List Span) (column : Pass → ColType) (first : PartView) (others : List PartView)
    → All (AreFiles c) groups → in_order (map (part_over bytes script c) groups) ≡ first ∷ others → first_uncovered (first ∷ others) ≡ None
    → joined_parts (map (pass_shapes column) (loops_of script)) first others ≡ part_over bytes script c (record { lo = first.first_file; hi = end_file_of (first ∷ others) })

-- of all files it is the part of the chain
abbrev pub AllFilesAreTheChain : Type 0
AllFilesAreTheChain = (bytes : List ℕ) (script : Script) (c : Chain) → part_over bytes script c (record { lo = 0; hi = length c.tables }) ≡ chain_part bytes script c 0
