-- The tokens of an expression.
use Rattle.std.specs.Prelude.{ℕ, zero, suc, ℤ, pos, ◌+◌, Bool, true, ◌||◌, false, List, [], ◌∷◌, ◌++◌, length, drop, Option, Some, None, if◌then◌else◌, nat_eq, nat_le, codes, take_while, Result, Ok, Err}
use Rattle.std.specs.List.{prefix_len}
use Rattle.rdf_values.specs.tables.Integers.{magnitude_of}
use Rattle.rdf_values.specs.scripts.Names.{same, is_digit, is_word_start, is_word_byte}
use Rattle.rdf_values.specs.declared.expressions.expr.BinOp.{BinOp}
use Rattle.rdf_values.specs.declared.expressions.expr.Mark.{Mark}
use Rattle.rdf_values.specs.declared.expressions.expr.ExprCause.{ExprCause}

-- a name, a truth value, a number, an operator of two sides, or another mark
pub data Token : Type 0 where
  Word : (name : List ℕ) → Token
  Truth : (b : Bool) → Token
  Number : (z : ℤ) → Token
  Op : (o : BinOp) → Token
  Punct : (m : Mark) → Token

-- a token and its place in the text
pub record Placed : Type 0 where
  pub token : Token
  pub place : ℕ

-- why and where an expression is refused
pub record Refusal : Type 0 where
  pub cause : ExprCause
  pub place : ℕ

-- ---- the token that a text begins with

-- a space or a tab
abbrev pub is_blank : ℕ → Bool
is_blank c = nat_eq c 32 || nat_eq c 9

-- the marks of two bytes
abbrev pub long_marks : List (List ℕ × Token)
long_marks = (codes "<=", Op BinOp.Le) ∷ (codes ">=", Op BinOp.Ge) ∷ (codes "==", Op BinOp.Eq) ∷ (codes "!=", Op BinOp.Ne) ∷ (codes "&&", Op BinOp.And) ∷ (codes "||", Op BinOp.Or) ∷ []

-- the marks of one byte
abbrev pub short_marks : List (List ℕ × Token)
short_marks =
    (codes "(", Punct Mark.Open) ∷ (codes ")", Punct Mark.Close) ∷ (codes "[", Punct Mark.OpenBracket) ∷ (codes "]", Punct Mark.CloseBracket)
    ∷ (codes "{", Punct Mark.OpenBrace) ∷ (codes "}", Punct Mark.CloseBrace) ∷ (codes ",", Punct Mark.Comma) ∷ (codes "?", Punct Mark.Question) ∷ (codes ":", Punct Mark.Colon)
    ∷ (codes "+", Op BinOp.Add) ∷ (codes "-", Op BinOp.Sub) ∷ (codes "*", Op BinOp.Mul) ∷ (codes "/", Op BinOp.Div) ∷ (codes "%", Op BinOp.Rem)
    ∷ (codes "!", Punct Mark.Bang) ∷ (codes "<", Op BinOp.Lt) ∷ (codes ">", Op BinOp.Gt) ∷ []

-- the token of a mark
abbrev pub mark_in : List (List ℕ × Token) → List ℕ → Option Token
mark_in [] text = None
mark_in (m ∷ ms) text = if same text m.0 then Some m.1 else mark_in ms text

unfoldable pub long_mark : ℕ → ℕ → Option Token
long_mark c d = mark_in long_marks (c ∷ d ∷ [])

unfoldable pub short_mark : ℕ → Option Token
short_mark c = mark_in short_marks (c ∷ [])

-- a truth value, or a name
abbrev pub word_token : List ℕ → Token
word_token w = if same w (codes "true") then Truth true else (if same w (codes "false") then Truth false else Word w)

-- a token and how many bytes it has, or why and how many bytes on there is none
abbrev pub First : Type 0
First = Result (Token × ℕ) Refusal

-- a word has at most 64 bytes
unfoldable pub word_first : List ℕ → First
word_first w = if nat_le (length w) 64 then Ok (word_token w, length w) else Err (record { cause = ExprCause.BadByte; place = 64 })

abbrev pub number_found : ℕ → Option ℕ → First
number_found size None = Err (record { cause = ExprCause.BadNumber; place = 0 })
number_found size (Some n) = Ok (Number (pos n), size)

-- one digit, or several of which the first isn't 0, below 2 ^ 63
unfoldable pub number_first : List ℕ → First
number_first ds = number_found (length ds) (magnitude_of 9223372036854775807 ds)

abbrev pub short_first : Option Token → First
short_first None = Err (record { cause = ExprCause.BadByte; place = 0 })
short_first (Some t) = Ok (t, 1)

abbrev pub long_first : ℕ → Option Token → First
long_first c None = short_first (short_mark c)
long_first c (Some t) = Ok (t, 2)

-- the mark that a text begins with, the longest
abbrev pub mark_first : ℕ → List ℕ → First
mark_first c [] = short_first (short_mark c)
mark_first c (d ∷ text) = long_first c (long_mark c d)

-- the token that a text begins with; its first byte isn't blank
unfoldable pub first_token : ℕ → List ℕ → First
first_token c text =
    if is_word_start c then word_first (take_while is_word_byte (c ∷ text)) else (if is_digit c then number_first (take_while is_digit (c ∷ text)) else mark_first c text)

-- ---- the tokens of a text

-- how many blanks a text begins with
abbrev pub blanks : List ℕ → ℕ
blanks text = prefix_len is_blank text

-- a refusal, counted from a place on
abbrev pub from : ℕ → Refusal → Refusal
from place e = record { cause = e.cause; place = place + e.place }

-- the refusal of the two that stands first; at one byte the left one
abbrev pub earlier : Refusal → Refusal → Refusal
earlier a b = if nat_le a.place b.place then a else b

-- one token too many, unless there is none where it begins
abbrev pub too_many : ℕ → First → Refusal
too_many place (Ok t) = record { cause = ExprCause.TooLong; place = place }
too_many place (Err e) = earlier (from place e) (record { cause = ExprCause.TooLong; place = place })

-- these tokens before the others
abbrev pub before : List Placed → Result (List Placed) Refusal → Result (List Placed) Refusal
before ts (Ok us) = Ok (ts ++ us)
before ts (Err e) = Err e

-- the first token, and then those that come so many bytes on
abbrev pub and_then : ℕ → First → (ℕ → Result (List Placed) Refusal) → Result (List Placed) Refusal
and_then place (Ok t) others = before (record { token = t.0; place = place } ∷ []) (others t.1)
and_then place (Err e) others = Err (from place e)

-- what is behind so many bytes of a text and the blanks after them
abbrev pub behind : ℕ → List ℕ → List ℕ
behind size text = drop (blanks (drop size text)) (drop size text)

-- the tokens of a text that begins at the place and with no blank, at most so many, or the first refusal
unfoldable pub tokens_at : ℕ → ℕ → List ℕ → Result (List Placed) Refusal
tokens_at most place [] = Ok []
tokens_at zero place (c ∷ text) = Err (too_many place (first_token c text))
tokens_at (suc most) place (c ∷ text) =
    and_then place (first_token c text) (λ size. tokens_at most (place + size + blanks (drop size (c ∷ text))) (behind size (c ∷ text)))

-- the same, of any text
abbrev pub tokens_within : ℕ → ℕ → List ℕ → Result (List Placed) Refusal
tokens_within most place text = tokens_at most (place + blanks text) (behind 0 text)

-- the tokens of a text, or the first refusal
abbrev pub tokens : List ℕ → Result (List Placed) Refusal
tokens text = tokens_within 256 0 text
