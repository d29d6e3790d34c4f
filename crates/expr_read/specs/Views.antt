-- What tokens and refusals are to the definitions, and which tokens a text can give.
use Rattle.std.specs.Prelude.{◌≡◌, ◌⊎◌, ℕ, ℤ, pos, negsuc, Bool, true, false, nat_lt, List, [], ◌∷◌, Result, Ok, Err}
use Rattle.std.specs.List.{list_all}
use Rattle.rdf_values.specs.{ExprCause, First, is_name, Op, Partial, Placed, Punct, Refusal, Refused, scan, ScanState, Token}
use Rattle.rdf_values.specs.expressions.Scans.{Refuses}
use Rattle.rdf_values.specs.expressions.Tokens.{Word, Truth, Number}
use Rattle.expr_read.specs.declared.lexeme.Token.{Token as Seen}
use Rattle.expr_read.specs.declared.lexeme.Token.TheVariants as seen
use Rattle.expr_read.specs.declared.lexeme.Placed.{Placed as SeenAt}
use Rattle.expr_read.specs.declared.tokenizer.ExprRefusal.{ExprRefusal}

abbrev pub token_of : Seen → Token
token_of (seen.Word w) = Word w.now
token_of (seen.Truth b) = Truth b
token_of (seen.Number z) = Number z
token_of (seen.Op o) = Op o
token_of (seen.Punct m) = Punct m

abbrev pub placed_of : SeenAt → Placed
placed_of t = record { token = token_of t.token; place = t.place }

abbrev pub first_of : Result (Seen × ℕ) (ExprCause × ℕ) → First
first_of (Ok l) = Ok (token_of l.0, l.1)
first_of (Err m) = Err (record { cause = m.0; place = m.1 })

-- a number of a token isn't below 0, and is below 2 ^ 63
abbrev pub is_number : ℤ → Bool
is_number (pos n) = nat_lt n 9223372036854775808
is_number (negsuc n) = false

-- a word is a name
abbrev pub is_valid : Token → Bool
is_valid (Word x) = is_name x
is_valid (Number z) = is_number z
is_valid t = true

abbrev pub are_valid : List Token → Bool
are_valid ts = list_all is_valid ts

-- ---- refusals

-- a refusal is the wanted one, or there was no memory
abbrev pub IsRefusalOf : {A : Type 0} → Result A Refusal → ExprRefusal → Type 0
IsRefusalOf wanted (ExprRefusal.At cause place) = wanted ≡ Err (record { cause = cause; place = place })
IsRefusalOf wanted ExprRefusal.Memory = Unit {0}

-- the place of the first token, or the end
abbrev pub place_from : List Placed → ℕ → ℕ
place_from [] end = end
place_from (t ∷ ts) end = t.place

-- the scan, begun so, refuses a token at the place, or wants more than there are and the place is the end
abbrev pub RefusesTokensAs : ScanState → List Placed → ℕ → ExprRefusal → Type 0
RefusesTokensAs begin ts end ExprRefusal.Memory = Unit {0}
RefusesTokensAs begin ts end (ExprRefusal.At why place) = (why ≡ ExprCause.Unexpected) × ((scan begin ts ≡ Refused place) ⊎ ((scan begin ts ≡ Partial) × (place ≡ end)))

-- this is the first refusal of the text, or there was no memory
abbrev pub RefusesTextAs : {T : Type 0} → (List Token → T → Type 0) → ScanState → List ℕ → ExprRefusal → Type 0
RefusesTextAs reads begin text ExprRefusal.Memory = Unit {0}
RefusesTextAs reads begin text (ExprRefusal.At why place) = Refuses reads begin text (record { cause = why; place = place })
