-- The numbers and names of a command are within their limits.
use Rattle.lemmas.proofs.{◌≡◌, ◌≤◌, ℕ, ℤ, pos, negsuc, Bool, true, false, ◌&&◌, leb, List, [], ◌∷◌, length, Option, None, Some, if◌then◌else◌, refl, arith, subst, sym, ◌∙◌, bytes_eq, codes, nat_le, nat_lt}
use Rattle.std.proofs.lemmas.Bool.Decides.{nat_tests}
use Rattle.rdf_values.specs.{integer_of}
use Rattle.command_words.specs.{number_of, within}
use Rattle.shard_words.specs.{asked_of, merge_of, run_of, run_with, ShardCommand, SpanRun}
use Rattle.shard_words.specs.declared.command.ShardCommand.TheVariants.{Run, Merge}
use Rattle.command_words.proofs.Taken.{found_is}

-- clusters have some entry, and a merging has 1 to 64 files
abbrev IsFit : ShardCommand → Type 0
IsFit (Run run) = 1 ≤ run.size
IsFit (Merge m) = (1 ≤ length m.files) × (length m.files ≤ 64)

abbrev Fits : Option ShardCommand → Type 0
Fits o = (c : ShardCommand) → o ≡ Some c → IsFit c

-- ---- numbers

if_within : (least n m : ℕ) (low high : Bool) → leb least n ≡ low → (if low && high then Some n else None) ≡ Some m → least ≤ m
if_within least n m true true l e = grind arith
if_within least n m true false l e = absurd (cc e)
if_within least n m false high l e = absurd (cc e)

is_within : (least most : ℕ) (o : Option ℤ) (n : ℕ) → within least most o ≡ Some n → least ≤ n
is_within least most None n e = absurd (cc e)
is_within least most (Some (negsuc k)) n e = absurd (cc e)
is_within least most (Some (pos k)) n e = if_within least k n (leb least k) (leb k most) refl e

is_number : (least most : ℕ) (text : List ℕ) (n : ℕ) → number_of least most text ≡ Some n → least ≤ n
unfolding number_of
is_number least most text n e = is_within least most (integer_of text) n e

-- ---- runs

run_with_fits : (script table : List ℕ) (size lo hi : Option ℕ) → ((n : ℕ) → size ≡ Some n → 1 ≤ n) → Fits (run_with script table size lo hi)
run_with_fits script table None lo hi some = λ c e. absurd (cc e)
run_with_fits script table (Some size) None hi some = λ c e. absurd (cc e)
run_with_fits script table (Some size) (Some lo) None some = λ c e. absurd (cc e)
run_with_fits script table (Some size) (Some lo) (Some hi) some = λ c e. subst IsFit (found_is _ _ e) (some size refl)

run_fits : (words : List (List ℕ)) → Fits (run_of words)
run_fits [] = λ c e. absurd (cc e)
run_fits (script ∷ []) = λ c e. absurd (cc e)
run_fits (script ∷ table ∷ []) = λ c e. absurd (cc e)
run_fits (script ∷ table ∷ size ∷ []) = λ c e. absurd (cc e)
run_fits (script ∷ table ∷ size ∷ lo ∷ []) = λ c e. absurd (cc e)
run_fits (script ∷ table ∷ size ∷ lo ∷ hi ∷ []) = run_with_fits script table (number_of 1 1000000 size) (number_of 0 1000000 lo) (number_of 0 1000000 hi) (is_number 1 1000000 size)
run_fits (script ∷ table ∷ size ∷ lo ∷ hi ∷ more ∷ words) = λ c e. absurd (cc e)

-- ---- mergings

merge_if : (script : List ℕ) (files : List (List ℕ)) (low high : Bool) → nat_lt 0 (length files) ≡ low → nat_le (length files) 64 ≡ high
    → Fits (if low && high then Some (Merge (record { script = script; files = files })) else None)
merge_if script files true true l h = λ c e. subst IsFit (found_is _ _ e) (grind (arith, nat_tests, l), grind (arith, nat_tests, h))
merge_if script files true false l h = λ c e. absurd (cc e)
merge_if script files false high l h = λ c e. absurd (cc e)

merge_fits : (words : List (List ℕ)) → Fits (merge_of words)
merge_fits [] = λ c e. absurd (cc e)
merge_fits (script ∷ files) = merge_if script files (nat_lt 0 (length files)) (nat_le (length files) 64) refl refl

-- ---- words

none_fits : Fits None
none_fits = λ c e. absurd (cc e)

choice_fits : (b : Bool) (x y : Option ShardCommand) → Fits x → Fits y → Fits (if b then x else y)
choice_fits true x y p q = p
choice_fits false x y p q = q

-- what the words ask for
asked_fits : (words : List (List ℕ)) (c : ShardCommand) → asked_of words ≡ Some c → IsFit c
asked_fits [] = none_fits
asked_fits (word ∷ words) =
    choice_fits (bytes_eq word (codes "run")) (run_of words) (if bytes_eq word (codes "merge") then merge_of words else None) (run_fits words)
    (choice_fits (bytes_eq word (codes "merge")) (merge_of words) None (merge_fits words) none_fits)

-- of a run
pub run_fits_asked : (words : List (List ℕ)) (o : Option ShardCommand) (c : ShardCommand) (run : SpanRun) → o ≡ asked_of words → o ≡ Some c → c ≡ Run run → 1 ≤ run.size
run_fits_asked words o c run asked some is = subst IsFit is (asked_fits words c (sym asked ∙ some))
