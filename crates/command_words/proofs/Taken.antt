-- What the clauses of a parse say of the words, and words one by one.
use Rattle.std.proofs.Common.{◌≡◌, ◌<◌, ◌+◌, ◌++◌, ◌∙◌, ℕ, List, [], ◌∷◌, true, false, None, HoldsAt, ap, length, map, refl, sym, take, ◌≤◌, ℤ, Bool, ◌&&◌, leb, Option, Some, if◌then◌else◌, arith}
use Rattle.std.proofs.lemmas.List.{map-append, take_more}
use Rattle.clap.specs.Words.{App, HasMatchesOf, IsAmong, Kinds, Text, fault_of, found_of, is_simple, is_simple_and_free, rows_of, Row, matches_of}
use Rattle.clap.specs.declared.error.kind.ErrorKind.{ErrorKind}
use Rattle.clap.specs.declared.parser.matches.ArgMatches.{ArgMatches}
use Rattle.clap.proofs.OnLiterals.{clap_on_literals}
use Rattle.clap.proofs.WalkLemmas.{first_value-rows}
use Rattle.command_words.specs.{asked_in, asked_of, has_none, is_taken, rdf_command, AreWithinLimits, asked_by, Command, Friend, generated_by, Input, input_from, input_of, input_with, IsWithin, number_of, setting_of, within}
use Rattle.rdf_values.specs.{integer_of}

-- what finds the first value of an argument
pub ruleset values = (first_value-rows)

pub rdf_simple : is_simple rdf_command ≡ true
unfolding rdf_command clap_on_literals
rdf_simple = refl

pub rdf_free : is_simple_and_free rdf_command ≡ true
unfolding rdf_command clap_on_literals
rdf_free = refl

pub some_is : (k : ErrorKind) (ks : Kinds) → IsAmong k ks → has_none ks ≡ false
some_is k [] h = absurd h
some_is k (x ∷ xs) h = refl

is_taken_at : (words : List Text) → fault_of rdf_command words ≡ [] → is_taken words ≡ true
unfolding is_taken
is_taken_at words e = ap has_none e

is_refused_at : (k : ErrorKind) (words : List Text) → IsAmong k (fault_of rdf_command words) → is_taken words ≡ false
unfolding is_taken
is_refused_at k words h = some_is k (fault_of rdf_command words) h

pub taken_by : (a : App) (ws words : List Text) (m : ArgMatches) → a ≡ rdf_command → ws ≡ words → HasMatchesOf a ws m → fault_of a ws ≡ []
    → asked_of words ≡ asked_in (rows_of (found_of m))
unfolding asked_of
taken_by a ws words m e w h f =
    let taken = is_taken_at words (rw (e, w) at f) in
    let rows = (rw (e, w) at h) rdf_simple in
    rw (taken, sym rows.0) refl

pub refused_by : (a : App) (ws words : List Text) (k : ErrorKind) → a ≡ rdf_command → ws ≡ words → IsAmong k (fault_of a ws) → asked_of words ≡ None
unfolding asked_of
refused_by a ws words k e w h = rw (is_refused_at k words (rw (e, w) at h)) refl

-- one more word of the words
pub map_more : {W : Type 0} (f : W → List ℕ) (ws more : List W) (w : W) (words : List (List ℕ)) (i : ℕ) → i < length words → more ≡ ws ++ w ∷ []
    → HoldsAt (λ word. f w ≡ word) words i → map f ws ≡ take i words → map f more ≡ take (i + 1) words
map_more f ws more w words i l e h m =
    ap (map f) e ∙ map-append f ws (w ∷ []) ∙ ap (λ xs. xs ++ f w ∷ []) m ∙ ap (λ x. take i words ++ x ∷ []) (h (f w)) ∙ sym (take_more words i (f w) l)

-- ---- the numbers of a command are within their limits

-- a number that stands in an option
abbrev Is : ℕ → ℕ → Option ℕ → Type 0
Is least most o = (n : ℕ) → o ≡ Some n → (least ≤ n) × (n ≤ most)

pub if_within : (least most n m : ℕ) (low high : Bool) → leb least n ≡ low → leb n most ≡ high → (if low && high then Some n else None) ≡ Some m → (least ≤ m) × (m ≤ most)
if_within least most n m low high l h e = grind arith

is_within : (least most : ℕ) (o : Option ℤ) → Is least most (within least most o)
is_within least most o = grind (arith, if_within)

is_number : (least most : ℕ) (text : Text) → Is least most (number_of least most text)
unfolding number_of
is_number least most text = is_within least most (integer_of text)

is_setting : (usual most : ℕ) (o : Option Text) → 1 ≤ usual → usual ≤ most → Is 1 most (setting_of usual most o)
is_setting usual most o low high = grind (arith, is_number)

-- an input that stands in an option
abbrev Fits : Option Input → Type 0
Fits o = (i : Input) → o ≡ Some i → IsWithin i

pub found_is : {A : Type 0} (x y : A) → Some x ≡ Some y → x ≡ y
found_is x y e = cc e

generated_fits : (entries seed : Option ℕ) → Is 1 1000000 entries → Is 0 4294967295 seed → Fits (generated_by entries seed)
generated_fits entries seed e s = grind (arith, found_is)

input_fits : (is_made : Bool) (first second : Option Text) (friend : Option Friend) → Fits (input_from is_made first second friend)
input_fits is_made first second friend = grind (arith, found_is, generated_fits, is_number)

with_fits : (friend : Option (Option Friend)) (is_made : Bool) (first second : Option Text) → Fits (input_with friend (λ f. input_from is_made first second f))
with_fits None is_made first second = λ i h. absurd (cc h)
with_fits (Some friend) is_made first second = input_fits is_made first second friend

input_of_fits : (rows : List Row) → Fits (input_of rows)
unfolding input_of
input_of_fits rows = with_fits _ _ _ _

asked_by_fits : (slots cluster watch : Option ℕ) (input : Option Input) → Is 1 16 slots → Is 1 1000000 cluster → Is 1 1000000 watch → Fits input
    → (c : Command) → asked_by slots cluster watch input ≡ Some c → AreWithinLimits c
asked_by_fits slots cluster watch input s k w i c e = grind (arith, found_is)

asked_in_fits : (rows : List Row) (c : Command) → asked_in rows ≡ Some c → AreWithinLimits c
unfolding asked_in
asked_in_fits rows c e =
    asked_by_fits _ _ _ _ (is_setting 1 16 _ (omega arith) (omega arith)) (is_setting 10000 1000000 _ (omega arith) (omega arith)) (is_setting 1 1000000 _ (omega arith) (omega arith)) (input_of_fits rows) c e

taken_fits : (taken : Bool) (rows : List Row) (c : Command) → (if taken then asked_in rows else None) ≡ Some c → AreWithinLimits c
taken_fits taken rows c e = grind (arith, asked_in_fits)

pub asked_fits : (words : List Text) (c : Command) → asked_of words ≡ Some c → AreWithinLimits c
unfolding asked_of
asked_fits words c e = taken_fits (is_taken words) (matches_of rdf_command words) c e
