-- Parts of one script, joined in the order of their files.
use Rattle.std.specs.Prelude.{◌≡◌, ◌+◌, ⊤, Bool, true, false, ◌&&◌, List, [], ◌∷◌, length, fold, nat_lt}
use Rattle.shard_lines.specs.{have_shapes, joined_lines, PassShape}
use Rattle.chain_files.specs.Parts.{PartView}
use Rattle.chain_files.specs.declared.part_loop.PartLoop.{PartLoop}
use Rattle.chain_files.specs.declared.part_loop.PartLoop.TheVariants.{Whole, Faulted}

-- the loops of a script in order, up to the last one or to the first one with a fault, which is of one of its passes
abbrev pub are_loops : List (List PassShape) → List PartLoop → Bool
are_loops [] [] = true
are_loops [] (l ∷ ls) = false
are_loops (shapes ∷ loops) [] = false
are_loops (shapes ∷ loops) (Whole ps ∷ ls) = have_shapes shapes ps && are_loops loops ls
are_loops (shapes ∷ loops) (Faulted f ∷ ls) = nat_lt f.pass (length shapes)

-- what a loop comes to in earlier files and in later ones: the fault of the earlier files goes first
abbrev pub joined_loop : List PassShape → PartLoop → PartLoop → PartLoop
joined_loop shapes (Faulted f) m = Faulted f
joined_loop shapes (Whole ps) (Faulted g) = Faulted g
joined_loop shapes (Whole ps) (Whole qs) = Whole (joined_lines shapes ps qs)

abbrev pub is_faulty : PartLoop → Bool
is_faulty (Whole ps) = false
is_faulty (Faulted f) = true

-- a faulty loop is the last one
abbrev pub up_to_fault : PartLoop → List PartLoop → List PartLoop
up_to_fault (Whole ps) ls = Whole ps ∷ ls
up_to_fault (Faulted f) ls = Faulted f ∷ []

-- loop by loop, up to and including the first one that is faulty in one of the two
abbrev pub joined_loops : List (List PassShape) → List PartLoop → List PartLoop → List PartLoop
joined_loops [] ls ms = []
joined_loops (shapes ∷ loops) [] ms = []
joined_loops (shapes ∷ loops) (l ∷ ls) [] = []
joined_loops (shapes ∷ loops) (l ∷ ls) (m ∷ ms) = up_to_fault (joined_loop shapes l m) (joined_loops loops ls ms)

-- the part of the files of both, the earlier files first
abbrev pub joined_part : List (List PassShape) → PartView → PartView → PartView
joined_part loops a b = record { first_file = a.first_file; end_file = b.end_file; entries = a.entries + b.entries; script = a.script; columns = a.columns; loops = joined_loops loops a.loops b.loops }

-- both are of one script and one list of columns and have the script's shape, and the later one begins where the earlier one
-- ends
pub record CanJoin (loops : List (List PassShape)) (a b : PartView) : Type 0 where
  pub next : a.end_file ≡ b.first_file
  pub script : a.script ≡ b.script
  pub columns : a.columns ≡ b.columns
  pub earlier : are_loops loops a.loops ≡ true
  pub later : are_loops loops b.loops ≡ true

-- a part and those behind it, each behind the one before it
abbrev pub CanJoinAll : List (List PassShape) → PartView → List PartView → Type 0
CanJoinAll loops a [] = ⊤
CanJoinAll loops a (b ∷ bs) = CanJoin loops a b × CanJoinAll loops b bs

-- a part and those behind it, joined one after the other
abbrev pub joined_parts : List (List PassShape) → PartView → List PartView → PartView
joined_parts loops first others = fold (joined_part loops) first others
