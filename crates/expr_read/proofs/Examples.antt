-- Some texts, worked out by hand.
use Rattle.lemmas.proofs.{◌≡◌, ℕ, pos, List, [], ◌∷◌, ◌++◌, arith, refl, ap, codes}
use Rattle.std.proofs.lemmas.Fmt.{decimal_digit}
use Rattle.rdf_values.specs.{at_end, at_token, bare, Bin, binary, BinOp, Col, ExprCause, first_token, Lit, long_mark, magnitude_of, Mark, minus_sign, name, NamedTree, Neg, number, number_first, Op, parenthesized, Partial, Placed, Punct, Reads, ReadsText, Refusal, RefusesText, short_mark, text_of, tighter, Token, tokens_at, Whole, word_first}
use Rattle.rdf_values.specs.expressions.Tokens.{Word, Number}
use Rattle.expr_read.proofs.WholeReads.{whole}

abbrev at : ℕ → Token → Placed
at place t = record { token = t; place = place }

abbrev refusal : ℕ → Refusal
refusal place = record { cause = ExprCause.Unexpected; place = place }

abbrev a : List ℕ
a = codes "a"

abbrev b : List ℕ
b = codes "b"

abbrev c : List ℕ
c = codes "c"

abbrev tree : NamedTree
tree = Bin BinOp.Sub (Bin BinOp.Mul (Bin BinOp.Add (Col a) (Col b)) (Col c)) (Neg (Lit (pos 1)))

abbrev found : List Placed
found = at 0 (Punct Mark.Open) ∷ at 1 (Word a) ∷ at 2 (Op BinOp.Add) ∷ at 3 (Word b) ∷ at 4 (Punct Mark.Close) ∷ at 5 (Op BinOp.Mul) ∷ at 6 (Word c) ∷ at 8 (Op BinOp.Sub) ∷ at 10 (Op BinOp.Sub) ∷ at 11 (Number (pos 1)) ∷ []

sum : Reads 5 (Word a ∷ Op BinOp.Add ∷ Word b ∷ []) (Bin BinOp.Add (Col a) (Col b))
sum = binary (tighter (tighter (tighter (tighter name)))) (tighter (tighter (tighter name))) refl refl

product : Reads 6 (Punct Mark.Open ∷ Word a ∷ Op BinOp.Add ∷ Word b ∷ Punct Mark.Close ∷ Op BinOp.Mul ∷ Word c ∷ []) (Bin BinOp.Mul (Bin BinOp.Add (Col a) (Col b)) (Col c))
product = binary (tighter (tighter (tighter (parenthesized (tighter (tighter (tighter (tighter (tighter sum))))) refl)))) (tighter (tighter name)) refl refl

difference : Reads 5 (bare found) tree
difference = binary (tighter product) (tighter (minus_sign (tighter (tighter number)))) refl refl

-- `(a+b)*c - -1` reads, and its canonical text is `(a + b) * c - -1`
reads : ReadsText (codes "(a+b)*c - -1") tree
unfolding tokens_at first_token word_first number_first long_mark short_mark magnitude_of
reads = record { found = found; tokens_are = refl; reads_as = tighter (tighter (tighter (tighter (tighter difference)))) }

canonical : text_of tree ≡ codes "(a + b) * c - -1"
canonical = ap (λ (digits : List ℕ). codes "(a + b) * c - -" ++ digits) (decimal_digit 1 (omega arith))

-- `a & b` has no token at 2
lone_mark : RefusesText (codes "a & b") (record { cause = ExprCause.BadByte; place = 2 })
unfolding tokens_at first_token word_first long_mark short_mark
lone_mark = at_token refl

-- `07` is no number
leading_zero : RefusesText (codes "07") (record { cause = ExprCause.BadNumber; place = 0 })
unfolding tokens_at first_token number_first magnitude_of
leading_zero = at_token refl

-- `a +` wants an operand at its end
wants_operand : RefusesText (codes "a +") (refusal 3)
unfolding tokens_at first_token word_first long_mark short_mark
wants_operand =
    let ts : List Placed = at 0 (Word a) ∷ at 2 (Op BinOp.Add) ∷ [] in
    at_end {ts = ts} refl (λ p h. cc h) (λ x r. let never : Partial ≡ Whole = whole ts x r in cc never)
