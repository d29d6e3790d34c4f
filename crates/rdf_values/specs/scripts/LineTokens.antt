-- The tokens of a script's line.
use Rattle.std.specs.Prelude.{ℕ, zero, suc, ℤ, ◌+◌, ◌-◌, not, ◌&&◌, ◌||◌, ◌==◌, List, [], ◌∷◌, length, map, Option, Some, None, Result, Ok, Err, if◌then◌else◌, nat_lt, take_while}
use Rattle.std.specs.List.{list_all}
use Rattle.rdf_values.specs.tables.Integers.{integer_of}
use Rattle.rdf_values.specs.scripts.Names.{between, is_digit, is_word_start, is_word_byte, is_name}
use Rattle.rdf_values.specs.expressions.Tokens.{is_blank}

-- a string: the place of its quote in the line, and what stands between the quotes
pub record QuotedText : Type 0 where
  pub place : ℕ
  pub content : List ℕ

-- a word, a canonical integer, a string, or a mark
pub data LineToken : Type 0 where
  Word : (name : List ℕ) → LineToken
  Number : (z : ℤ) → LineToken
  Quoted : (text : QuotedText) → LineToken
  Equals Dot Open Close OpenBracket CloseBracket Comma : LineToken

-- a token and its place in the line
pub record PlacedToken : Type 0 where
  pub token : LineToken
  pub place : ℕ

-- ---- what a line begins with

-- what a line begins with: a blank, a comment, a token with so many bytes behind its first, or none of these
pub data Lexeme : Type 0 where
  Blank Comment Bad : Lexeme
  Found : (token : LineToken) (more : ℕ) → Lexeme

-- a word is a name, so it has at most 64 bytes and is no truth value
unfoldable pub word_lexeme : List ℕ → Lexeme
word_lexeme word = if is_name word then Found (Word word) (length word - 1) else Bad

abbrev pub integer_lexeme : ℕ → Option ℤ → Lexeme
integer_lexeme more None = Bad
integer_lexeme more (Some z) = Found (Number z) more

-- the bytes up to the next quote
abbrev pub content_of : List ℕ → List ℕ
content_of bytes = take_while (λ c. not (c == 34)) bytes

-- a string whose quote stands at the place, from the bytes behind the quote: it is closed on the line and holds printable bytes
unfoldable pub string_lexeme : ℕ → List ℕ → Lexeme
string_lexeme place bytes =
    if nat_lt (length (content_of bytes)) (length bytes) && list_all (between 32 126) (content_of bytes)
    then Found (Quoted (record { place = place; content = content_of bytes })) (length (content_of bytes) + 1)
    else Bad

abbrev pub mark_lexeme : ℕ → Lexeme
mark_lexeme c =
    if c == 61 then Found Equals 0
    else (if c == 46 then Found Dot 0
    else (if c == 40 then Found Open 0
    else (if c == 41 then Found Close 0
    else (if c == 91 then Found OpenBracket 0
    else (if c == 93 then Found CloseBracket 0
    else (if c == 44 then Found Comma 0
    else Bad))))))

-- what the bytes `c ∷ cs` at the place begin with; a run of digits, also behind a `-`, is one integer
unfoldable pub lexeme : ℕ → ℕ → List ℕ → Lexeme
lexeme place c cs =
    if is_blank c then Blank
    else (if c == 35 then Comment
    else (if is_word_start c then word_lexeme (c ∷ take_while is_word_byte cs)
    else (if is_digit c || c == 45 then integer_lexeme (length (take_while is_digit cs)) (integer_of (c ∷ take_while is_digit cs))
    else (if c == 34 then string_lexeme place cs
    else mark_lexeme c))))

-- ---- the tokens of a line

abbrev pub with_token : LineToken → ℕ → Result (List PlacedToken) ℕ → Result (List PlacedToken) ℕ
with_token token place (Ok ts) = Ok (record { token = token; place = place } ∷ ts)
with_token token place (Err p) = Err p

-- what a lexeme at the place adds to the tokens that come so many bytes behind it
abbrev pub with_lexeme : ℕ → Lexeme → (ℕ → Result (List PlacedToken) ℕ) → Result (List PlacedToken) ℕ
with_lexeme place Blank tokens = tokens 0
with_lexeme place Comment tokens = Ok []
with_lexeme place Bad tokens = Err place
with_lexeme place (Found token more) tokens = with_token token place (tokens more)

-- the tokens of the bytes at the place, behind so many that belong to a token before; or the place of the first byte with which none begins
unfoldable pub tokens_from : List ℕ → ℕ → ℕ → Result (List PlacedToken) ℕ
tokens_from [] passed place = Ok []
tokens_from (c ∷ cs) (suc passed) place = tokens_from cs passed (place + 1)
tokens_from (c ∷ cs) zero place = with_lexeme place (lexeme place c cs) (λ more. tokens_from cs more (place + 1))

-- the tokens of a line
abbrev pub line_tokens : List ℕ → Result (List PlacedToken) ℕ
line_tokens line = tokens_from line 0 0

-- tokens without their places
abbrev pub bare_tokens : List PlacedToken → List LineToken
bare_tokens ts = map (λ (t : PlacedToken). t.token) ts
