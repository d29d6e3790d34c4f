-- The numbers of a command are within their limits.
use Rattle.lemmas.proofs.{◌≡◌, ◌≤◌, ◌<◌, ℕ, ℤ, pos, negsuc, Bool, true, false, leb, List, [], ◌∷◌, length, drop, nat_lt, Option, None, Some, if◌then◌else◌, codes, refl, arith, subst, unwrap_or}
use Rattle.std.proofs.lemmas.Bool.Decides.{nat_tests}
use Rattle.rdf_values.specs.{integer_of, same}
use Rattle.command_words.specs.{within}
use Rattle.chain_words.specs.{after, AreSettings, AreWithinLimits, asked_of, awaiting, begins, ChainCommand, cluster_by, command_by, command_of, has_options, is_over, is_plain, join_of, joined_word, map_of, map_with, named, no_words, number_in, once, option_word, print_of, print_with, run_of, settings_of, slots_by, with_cluster, with_slots, word_read, words_read}
use Rattle.chain_words.specs.declared.command.ChainCommand.TheVariants.{Run, Map, Join, Print}
use Rattle.chain_words.specs.declared.command.Settings.{Settings}
use Rattle.chain_words.specs.declared.reading.Awaits.{Awaits}
use Rattle.chain_words.specs.declared.reading.WordsRead.{WordsRead}
use Rattle.command_words.proofs.Taken.{if_within}

-- a number that stands in an option
abbrev Is : ℕ → ℕ → Option ℕ → Type 0
Is least most o = (n : ℕ) → o ≡ Some n → (least ≤ n) × (n ≤ most)

is_within : (least most : ℕ) (o : Option ℤ) → Is least most (within least most o)
is_within least most None = λ n e. absurd (cc e)
is_within least most (Some (negsuc k)) = λ n e. absurd (cc e)
is_within least most (Some (pos k)) = λ n e. if_within least most k n (leb least k) (leb k most) refl refl e

is_number : (least most : ℕ) (text : List ℕ) → Is least most (number_in least most text)
is_number least most text = is_within least most (integer_of text)

-- ---- what was read

abbrev Fits : WordsRead → Type 0
Fits r = Is 1 16 r.slots × Is 1 1000000 r.cluster

abbrev AllFit : Option WordsRead → Type 0
AllFit o = (q : WordsRead) → o ≡ Some q → Fits q

none_fits : AllFit None
none_fits = λ q e. absurd (cc e)

one_fits : (r : WordsRead) → Fits r → AllFit (Some r)
one_fits r h = λ q e. (let same : r ≡ q = cc e in subst Fits same h)

slots_fit : (r : WordsRead) (o : Option ℕ) → Fits r → Is 1 16 o → AllFit (with_slots r o)
slots_fit r None h i = none_fits
slots_fit r (Some n) h i = one_fits (record { awaits = Awaits.Any; names = r.names; slots = Some n; cluster = r.cluster }) (i, h.1)

cluster_fits : (r : WordsRead) (o : Option ℕ) → Fits r → Is 1 1000000 o → AllFit (with_cluster r o)
cluster_fits r None h i = none_fits
cluster_fits r (Some n) h i = one_fits (record { awaits = Awaits.Any; names = r.names; slots = r.slots; cluster = Some n }) (h.0, i)

once_fits : (o : Option ℕ) (r : Option WordsRead) → AllFit r → AllFit (once o r)
once_fits None r h = h
once_fits (Some n) r h = none_fits

by_test : (b : Bool) (p q : Option WordsRead) → AllFit p → AllFit q → AllFit (if b then p else q)
by_test true p q h g = h
by_test false p q h g = g

joined_fits : (r : WordsRead) (w : List ℕ) → Fits r → AllFit (joined_word r w)
joined_fits r w h =
    by_test (begins (codes "--slots=") w) _ _ (once_fits r.slots (slots_by r (drop 8 w)) (slots_fit r (number_in 1 16 (drop 8 w)) h (is_number 1 16 (drop 8 w))))
    (by_test (begins (codes "--cluster=") w) _ _ (once_fits r.cluster (cluster_by r (drop 10 w)) (cluster_fits r (number_in 1 1000000 (drop 10 w)) h (is_number 1 1000000 (drop 10 w)))) none_fits)

option_fits : (r : WordsRead) (w : List ℕ) → Fits r → AllFit (option_word r w)
option_fits r w h =
    by_test (same w (codes "--slots")) _ _ (once_fits r.slots (Some (awaiting Awaits.Slots r)) (one_fits (awaiting Awaits.Slots r) h))
    (by_test (same w (codes "--cluster")) _ _ (once_fits r.cluster (Some (awaiting Awaits.Cluster r)) (one_fits (awaiting Awaits.Cluster r) h)) (joined_fits r w h))

word_fits : (a : Awaits) (r : WordsRead) (w : List ℕ) → Fits r → AllFit (word_read a r w)
word_fits Awaits.Any r w h =
    by_test (same w (codes "--")) _ _ (one_fits (awaiting Awaits.Name r) h) (by_test (is_plain w) _ _ (one_fits (named r w) h) (option_fits r w h))
word_fits Awaits.Name r w h = one_fits (named r w) h
word_fits Awaits.Slots r w h = by_test (is_plain w) _ _ (slots_fit r (number_in 1 16 w) h (is_number 1 16 w)) none_fits
word_fits Awaits.Cluster r w h = by_test (is_plain w) _ _ (cluster_fits r (number_in 1 1000000 w) h (is_number 1 1000000 w)) none_fits

words_fit : (ws : List (List ℕ)) (r : WordsRead) → Fits r → AllFit (words_read r ws)
words_fit [] r h = one_fits r h
words_fit (w ∷ ws) r h = go (word_read r.awaits r w) (word_fits r.awaits r w h) (λ q f. words_fit ws q f)
  where
    go : (o : Option WordsRead) → AllFit o → ((q : WordsRead) → Fits q → AllFit (words_read q ws)) → AllFit (after o (λ q. words_read q ws))
    go None g step = none_fits
    go (Some q) g step = step q (g q refl)

-- ---- the command

settings_fit : (r : WordsRead) → Fits r → AreSettings (settings_of r)
settings_fit r h = record { some_slots = slots r.slots h.0; few_slots = few r.slots h.0; cluster = cut r.cluster h.1 }
  where
    slots : (o : Option ℕ) → Is 1 16 o → 0 < unwrap_or o 1
    slots None i = omega arith
    slots (Some n) i = let b = i n refl in omega (arith, b.0)

    few : (o : Option ℕ) → Is 1 16 o → unwrap_or o 1 ≤ 16
    few None i = omega arith
    few (Some n) i = (i n refl).1

    cut : (o : Option ℕ) → Is 1 1000000 o → 1 ≤ unwrap_or o 10000
    cut None i = omega arith
    cut (Some n) i = (i n refl).0

abbrev Limited : Option ChainCommand → Type 0
Limited o = (c : ChainCommand) → o ≡ Some c → AreWithinLimits c

none_limited : Limited None
none_limited = λ c e. absurd (cc e)

one_limited : (c : ChainCommand) → AreWithinLimits c → Limited (Some c)
one_limited c h = λ d e. (let same : c ≡ d = cc e in subst AreWithinLimits same h)

run_limited : (names : List (List ℕ)) (s : Settings) → AreSettings s → Limited (run_of names s)
run_limited [] s h = none_limited
run_limited (script ∷ []) s h = none_limited
run_limited (script ∷ table ∷ tables) s h = go (nat_lt 16384 (length (table ∷ tables))) refl
  where
    go : (b : Bool) → nat_lt 16384 (length (table ∷ tables)) ≡ b → Limited (if b then None else Some (Run (record { script = script; tables = table ∷ tables; settings = s })))
    go true e = none_limited
    go false e = one_limited (Run (record { script = script; tables = table ∷ tables; settings = s })) (omega arith, grind (arith, nat_tests), h)

map_limited : (script table : List ℕ) (o : Option ℕ) (s : Settings) → Is 0 16777215 o → AreSettings s → Limited (map_with script o table s)
map_limited script table None s i h = none_limited
map_limited script table (Some n) s i h = one_limited (Map (record { script = script; number = n; table = table; settings = s })) (let b = (i n refl).1 in omega (arith, b), h)

all_map_limited : (names : List (List ℕ)) (s : Settings) → AreSettings s → Limited (map_of names s)
all_map_limited [] s h = none_limited
all_map_limited (script ∷ []) s h = none_limited
all_map_limited (script ∷ number ∷ []) s h = none_limited
all_map_limited (script ∷ number ∷ table ∷ []) s h = map_limited script table (number_in 0 16777215 number) s (is_number 0 16777215 number) h
all_map_limited (script ∷ number ∷ table ∷ other ∷ names) s h = none_limited

join_limited : (names : List (List ℕ)) → Limited (join_of names)
join_limited [] = none_limited
join_limited (script ∷ []) = none_limited
join_limited (script ∷ part ∷ parts) = go (nat_lt 4096 (length (part ∷ parts)))
  where
    go : (b : Bool) → Limited (if b then None else Some (Join (record { script = script; parts = part ∷ parts })))
    go true = none_limited
    go false = one_limited (Join (record { script = script; parts = part ∷ parts })) (omega arith)

print_limited : (script part : List ℕ) (o : Option ℕ) → Is 1 16777216 o → Limited (print_with script o part)
print_limited script part None i = none_limited
print_limited script part (Some n) i = one_limited (Print (record { script = script; count = n; part = part })) (let b = (i n refl).0 in omega (arith, b))

all_print_limited : (names : List (List ℕ)) → Limited (print_of names)
all_print_limited [] = none_limited
all_print_limited (script ∷ []) = none_limited
all_print_limited (script ∷ count ∷ []) = none_limited
all_print_limited (script ∷ count ∷ part ∷ []) = print_limited script part (number_in 1 16777216 count) (is_number 1 16777216 count)
all_print_limited (script ∷ count ∷ part ∷ other ∷ names) = none_limited

either_limited : (b : Bool) (p q : Option ChainCommand) → Limited p → Limited q → Limited (if b then p else q)
either_limited true p q h g = h
either_limited false p q h g = g

by_limited : (word : List ℕ) (r : WordsRead) → Fits r → Limited (command_by word r)
by_limited word r h =
    either_limited (same word (codes "run")) _ _ (run_limited r.names (settings_of r) (settings_fit r h))
    (either_limited (same word (codes "map")) _ _ (all_map_limited r.names (settings_of r) (settings_fit r h))
    (either_limited (has_options r) _ _ none_limited
    (either_limited (same word (codes "join")) _ _ (join_limited r.names) (either_limited (same word (codes "print")) _ _ (all_print_limited r.names) none_limited))))

pub asked_fits : (words : List (List ℕ)) (c : ChainCommand) → asked_of words ≡ Some c → AreWithinLimits c
asked_fits [] c e = absurd (cc e)
asked_fits (word ∷ words) c e = go (words_read no_words words) (words_fit words no_words (λ n z. absurd (cc z), λ n z. absurd (cc z))) c e
  where
    go : (o : Option WordsRead) → AllFit o → Limited (command_of word o)
    go None g = none_limited
    go (Some r) g = either_limited (is_over r.awaits) _ _ (by_limited word r (g r refl)) none_limited
