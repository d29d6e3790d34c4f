-- Reading the words behind the command: names, and options that are set once.
use Rattle.std.specs.Prelude.{ℕ, Bool, true, not, drop, List, [], ◌∷◌, ◌++◌, Option, Some, None, length, take, if◌then◌else◌, ◌==◌, codes}
use Rattle.rdf_values.specs.{integer_of, same}
use Rattle.command_words.specs.{within}
use Rattle.chain_words.specs.declared.reading.Awaits.{Awaits}
use Rattle.chain_words.specs.declared.reading.WordsRead.{WordsRead}

-- the number that the text is canonical for, within the limits
abbrev pub number_in : ℕ → ℕ → List ℕ → Option ℕ
number_in least most text = within least most (integer_of text)

-- nothing was read yet
abbrev pub no_words : WordsRead
no_words = record { awaits = Awaits.Any; names = []; slots = None; cluster = None }

-- the word is a name or a value: it doesn't begin with '-', or is that alone
abbrev pub is_plain : List ℕ → Bool
is_plain [] = true
is_plain (b ∷ []) = true
is_plain (b ∷ d ∷ ws) = not (b == 45)

abbrev pub begins : List ℕ → List ℕ → Bool
begins text w = same (take (length text) w) text

abbrev pub named : WordsRead → List ℕ → WordsRead
named r w = record { awaits = r.awaits; names = r.names ++ w ∷ []; slots = r.slots; cluster = r.cluster }

abbrev pub awaiting : Awaits → WordsRead → WordsRead
awaiting a r = record { awaits = a; names = r.names; slots = r.slots; cluster = r.cluster }

abbrev pub with_slots : WordsRead → Option ℕ → Option WordsRead
with_slots r None = None
with_slots r (Some n) = Some (record { awaits = Awaits.Any; names = r.names; slots = Some n; cluster = r.cluster })

abbrev pub with_cluster : WordsRead → Option ℕ → Option WordsRead
with_cluster r None = None
with_cluster r (Some n) = Some (record { awaits = Awaits.Any; names = r.names; slots = r.slots; cluster = Some n })

-- the values: 1 to 16 slots, and clusters of 1 to 1,000,000 entries
abbrev pub slots_by : WordsRead → List ℕ → Option WordsRead
slots_by r text = with_slots r (number_in 1 16 text)

abbrev pub cluster_by : WordsRead → List ℕ → Option WordsRead
cluster_by r text = with_cluster r (number_in 1 1000000 text)

-- only where the option isn't set
abbrev pub once : Option ℕ → Option WordsRead → Option WordsRead
once None r = r
once (Some n) r = None

-- an option with its value behind '='
abbrev pub joined_word : WordsRead → List ℕ → Option WordsRead
joined_word r w =
    if begins (codes "--slots=") w then once r.slots (slots_by r (drop 8 w)) else (if begins (codes "--cluster=") w then once r.cluster (cluster_by r (drop 10 w)) else None)

-- an option: its value is the next word, or stands behind '='
abbrev pub option_word : WordsRead → List ℕ → Option WordsRead
option_word r w =
    if same w (codes "--slots") then once r.slots (Some (awaiting Awaits.Slots r)) else (if same w (codes "--cluster") then once r.cluster (Some (awaiting Awaits.Cluster r)) else joined_word r w)

-- `--` ends the options
abbrev pub any_word : WordsRead → List ℕ → Option WordsRead
any_word r w = if same w (codes "--") then Some (awaiting Awaits.Name r) else (if is_plain w then Some (named r w) else option_word r w)

abbrev pub word_read : Awaits → WordsRead → List ℕ → Option WordsRead
word_read Awaits.Any r w = any_word r w
word_read Awaits.Name r w = Some (named r w)
word_read Awaits.Slots r w = if is_plain w then slots_by r w else None
word_read Awaits.Cluster r w = if is_plain w then cluster_by r w else None

abbrev pub after : Option WordsRead → (WordsRead → Option WordsRead) → Option WordsRead
after None go = None
after (Some r) go = go r

-- all words, one after another
abbrev pub words_read : WordsRead → List (List ℕ) → Option WordsRead
words_read r [] = Some r
words_read r (w ∷ ws) = after (word_read r.awaits r w) (λ q. words_read q ws)
