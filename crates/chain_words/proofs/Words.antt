-- Words read one after another.
use Rattle.lemmas.proofs.{◌≡◌, ℕ, zero, suc, ◌+◌, ◌<◌, Bool, true, false, List, [], ◌∷◌, length, drop, get_or, Option, None, Some, sym, ap, ◌∙◌, arith, if◌then◌else◌}
use Rattle.chain_words.specs.{after, asked_of, ChainCommand, command_by, command_of, is_over, no_words, word_read, words_read}
use Rattle.chain_words.specs.declared.reading.WordsRead.{WordsRead}

pub one_left : (words : List (List ℕ)) (i : ℕ) (w : List ℕ) → i < length words → ((d : List ℕ) → w ≡ get_or words i d) → drop i words ≡ w ∷ drop (i + 1) words
one_left [] i w lt is = absurd (omega arith)
one_left (x ∷ xs) zero w lt is = ap (λ (y : List ℕ). y ∷ xs) (sym (is []))
one_left (x ∷ xs) (suc i) w lt is = one_left xs i w (omega arith) is ∙ (let e : suc i + 1 ≡ suc (i + 1) = omega arith in ap (λ k. w ∷ drop k (x ∷ xs)) (sym e))

module _ (words : List (List ℕ)) (i : ℕ) (w : List ℕ) (lt : i < length words) (is : (d : List ℕ) → w ≡ get_or words i d) (r : WordsRead) (all : Option WordsRead) where
  -- what the words from here on come to
  from_here : (o : Option WordsRead) → word_read r.awaits r w ≡ o → words_read r (drop i words) ≡ after o (λ q. words_read q (drop (i + 1) words))
  from_here o h = ap (words_read r) (one_left words i w lt is) ∙ ap (λ x. after x (λ q. words_read q (drop (i + 1) words))) h

  pub goes_on : (q : WordsRead) → word_read r.awaits r w ≡ Some q → words_read r (drop i words) ≡ all → words_read q (drop (i + 1) words) ≡ all
  goes_on q h k = sym (from_here (Some q) h) ∙ k

  pub stops : word_read r.awaits r w ≡ None → words_read r (drop i words) ≡ all → None ≡ all
  stops h k = sym (from_here None h) ∙ k

pub asked : (words : List (List ℕ)) (w : List ℕ) (r : WordsRead) (command : Option ChainCommand) → 0 < length words → ((d : List ℕ) → w ≡ get_or words 0 d) → words_read no_words (drop 1 words) ≡ Some r → is_over r.awaits ≡ true → command ≡ command_by w r
    → command ≡ asked_of words
asked [] w r command lt is read over h = absurd (omega arith)
asked (x ∷ xs) w r command lt is read over h = h ∙ ap (λ (y : List ℕ). command_by y r) (is []) ∙ sym (ap (command_of x) read ∙ ap (λ (b : Bool). if b then command_by x r else None) over)

pub unasked : (words : List (List ℕ)) (r : WordsRead) → words_read no_words (drop 1 words) ≡ Some r → is_over r.awaits ≡ false → None ≡ asked_of words
unasked [] r read over = λ i. None
unasked (x ∷ xs) r read over = sym (ap (command_of x) read ∙ ap (λ (b : Bool). if b then command_by x r else None) over)
