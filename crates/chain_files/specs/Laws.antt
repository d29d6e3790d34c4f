-- Laws of part files. Each is the contract of a function of this crate, and so proved.
use Rattle.std.specs.Prelude.{◌≡◌, ℕ, true, None, List, ◌∷◌, ◌++◌}
use Rattle.shard_lines.specs.{PassShape}
use Rattle.chain_files.specs.Covering.{AreInOrder, AreNext, IsFirstUncovered, first_uncovered, have_files, in_order, parts_with}
use Rattle.chain_files.specs.Joining.{CanJoinAll, are_loops, joined_loops, joined_part, joined_parts}
use Rattle.chain_files.specs.Parts.{BreaksAt, IsPart, PartView, part_text}
use Rattle.chain_files.specs.Refusing.{first_differing, first_misshapen}
use Rattle.chain_files.specs.declared.part_loop.PartLoop.{PartLoop}

-- a text is of one part at most: what was printed reads as what it was printed from
abbrev pub TextIsOfOnePart : Type 0
TextIsOfOnePart = (s t : PartView) → IsPart s → IsPart t → part_text s ≡ part_text t → s ≡ t

-- no line of a part's text is refused
abbrev pub TextBreaksNowhere : Type 0
TextBreaksNowhere = (s : PartView) (number : ℕ) → IsPart s → BreaksAt (part_text s) number → ⊥

-- joining is associative: of three parts the first two may be joined first, or the last two
abbrev pub JoiningIsAssociative : Type 0
JoiningIsAssociative = (loops : List (List PassShape)) (a b c : PartView) → joined_part loops (joined_part loops a b) c ≡ joined_part loops a (joined_part loops b c)

-- parts that are cut into two groups anywhere come to the same by groups as one after the other
abbrev pub GroupsAreFree : Type 0
GroupsAreFree =
    (loops : List (List PassShape)) (a : PartView) (before : List PartView) (b : PartView) (behind : List PartView)
    → joined_parts loops a (before ++ b ∷ behind) ≡ joined_part loops (joined_parts loops a before) (joined_parts loops b behind)

-- parts of the script's shape, of which the second begins where the first ends, come to a part
abbrev pub JoinedIsPart : Type 0
JoinedIsPart =
    (loops : List (List PassShape)) (s t : PartView) → IsPart s → IsPart t → are_loops loops s.loops ≡ true → are_loops loops t.loops ≡ true → s.end_file ≡ t.first_file → IsPart (joined_part loops s t)

-- what loops of the script's shape come to is of that shape
abbrev pub JoinedKeepsShape : Type 0
JoinedKeepsShape = (loops : List (List PassShape)) (ks ls : List PartLoop) → are_loops loops ks ≡ true → are_loops loops ls ≡ true → are_loops loops (joined_loops loops ks ls) ≡ true

-- parts that are put in order are in order
abbrev pub OrderIsKept : Type 0
OrderIsKept = (parts : List PartView) → AreInOrder (in_order parts)

-- each file is in as many of them as before
abbrev pub OrderKeepsFiles : Type 0
OrderKeepsFiles = (file : ℕ) (parts : List PartView) → parts_with file (in_order parts) ≡ parts_with file parts

-- the file that is found is the least that isn't in just one part; where none is found, all are
abbrev pub LeastIsUncovered : Type 0
LeastIsUncovered = (parts : List PartView) → AreInOrder parts → have_files parts ≡ true → IsFirstUncovered parts (first_uncovered parts)

-- where none is found, each part begins where the one before it ends
abbrev pub CoveredAreNext : Type 0
CoveredAreNext = (parts : List PartView) → first_uncovered parts ≡ None → AreNext parts

-- parts that are refused for no script, columns, shape or files can be joined in the order of their files
abbrev pub AcceptedCanJoin : Type 0
AcceptedCanJoin =
    (loops : List (List PassShape)) (script : List ℕ) (s : PartView) (ss : List PartView) (first : PartView) (others : List PartView)
    → first_differing script (s ∷ ss) ≡ None → first_misshapen loops (s ∷ ss) ≡ None → in_order (s ∷ ss) ≡ first ∷ others → first_uncovered (first ∷ others) ≡ None → CanJoinAll loops first others
