-- The files that are turned to, one after the other.
use Rattle.lemmas.proofs.{◌≡◌, ◌≤◌, ◌<◌, ◌+◌, ℕ, zero, suc, List, [], ◌∷◌, ◌++◌, length, take, drop, Option, None, Some, IfSome, sym, ap, arith, slice_get}
use Rattle.std.proofs.lemmas.List.{length-take-le, take-append-drop}
use Rattle.input_files.specs.{AreTurnedTo}
use Rattle.shard_due.specs.{Files, name_at}
use Rattle.shard_files.specs.{ShardView}
use Rattle.shard_program.specs.{HoldAll, HoldsAShard, HoldShards, IsShardRead, IsTextOf}

-- the names before a place, and the one there
pub taken_next : (names : List (List ℕ)) (i : ℕ) (name : List ℕ) → slice_get names i ≡ Some name → take (suc i) names ≡ take i names ++ name ∷ []
taken_next [] i name h = absurd (cc h)
taken_next (n ∷ names) zero name h = (let e : n ≡ name = cc h in ap (λ x. x ∷ []) e)
taken_next (n ∷ names) (suc i) name h = ap (λ l. n ∷ l) (taken_next names i name h)

text_of_some : (s : ShardView) (file : Option (List ℕ)) → IsTextOf s file → HoldsAShard file
text_of_some s None h = absurd h
text_of_some s (Some bytes) h = (s, h)

-- a file before a place up to which all were read
held_at : (files : Files) (names : List (List ℕ)) (i : ℕ) (shards : List ShardView) (j : ℕ) → HoldShards files (take i names) shards → j < i → i ≤ length names → HoldsAShard (files (name_at names j))
held_at files names zero shards j h lt le = absurd (omega (arith, lt))
held_at files [] (suc i) shards j h lt le = absurd (omega (arith, le))
held_at files (n ∷ names) (suc i) [] j h lt le = absurd h
held_at files (n ∷ names) (suc i) (s ∷ shards) zero h lt le = text_of_some s (files n) h.0
held_at files (n ∷ names) (suc i) (s ∷ shards) (suc j) h lt le = held_at files names i shards j h.1 (omega (arith, lt)) (omega (arith, le))

-- where all up to a place were read, the one there may be turned to
pub turned_up_to : (told : Option Files) (names : List (List ℕ)) (i n count : ℕ) (shards : List ShardView) (before after : List (List ℕ)) → IfSome told (HoldAll (take i names) shards count) → i ≤ length names → n ≤ length names → n ≤ i + 1
    → after ≡ before ++ take n names → AreTurnedTo names (IsShardRead told names) before after
turned_up_to told names i n count shards before after held le in_names further e = record {
  turns = take n names;
  follow = e;
  rest = drop n names;
  in_order = sym (take-append-drop n names);
  called = λ j h. let long = length-take-le n names in_names in by_told told held j (omega (arith, h, long, further));
}
  where
    by_told : (o : Option Files) → IfSome o (HoldAll (take i names) shards count) → (j : ℕ) → j < i → IsShardRead o names j
    by_told None h j lt = tt
    by_told (Some files) h j lt = held_at files names i shards j h.hold lt le
