-- The script that a text is, or its first refusal.
use Rattle.std.specs.Prelude.{ℕ, Bool, false, ◌&&◌, ◌==◌, List, [], ◌∷◌, if◌then◌else◌, ◌≡◌, ◌<◌, ◌≤◌, suc, length, Some, Ok, Err, slice_get}
use Rattle.rdf_values.specs.scripts.LineTokens.{PlacedToken, line_tokens, bare_tokens}
use Rattle.rdf_values.specs.scripts.LineForms.{Form, IsForm, BeginsLine, StopsAt}
use Rattle.rdf_values.specs.scripts.Statements.{Says, LineRefusal, FirstBad, form_strings}
use Rattle.rdf_values.specs.scripts.Statements as refused
use Rattle.rdf_values.specs.declared.scripts.statement.Line.{Line}
use Rattle.rdf_values.specs.declared.scripts.statement.Script.{Script}
use Rattle.rdf_values.specs.declared.scripts.script_cause.ScriptCause.{ScriptCause}
use Rattle.rdf_values.specs.declared.scripts.statement.Statement.{Statement}

-- ---- the lines of a text

-- the bytes begin with that byte
abbrev pub begins_with : ℕ → List ℕ → Bool
begins_with byte [] = false
begins_with byte (c ∷ cs) = c == byte

-- the lines with one more byte before the first
abbrev pub with_byte : ℕ → List (List ℕ) → List (List ℕ)
with_byte c [] = (c ∷ []) ∷ []
with_byte c (line ∷ lines) = (c ∷ line) ∷ lines

-- the lines without their LF and a CR directly before it; the last may lack its LF
unfoldable pub lines_of : List ℕ → List (List ℕ)
lines_of [] = []
lines_of (c ∷ cs) =
    if c == 10 then [] ∷ lines_of cs
    else (if c == 13 && begins_with 10 cs then lines_of cs else with_byte c (lines_of cs))

-- ---- a line

-- the line has no tokens
abbrev pub IsBlankLine : List ℕ → Type 0
IsBlankLine line = line_tokens line ≡ Ok []

-- the line says this
pub record IsLine (line : List ℕ) (s : Statement) : Type 0 where
  pub found : List PlacedToken
  pub tokens : line_tokens line ≡ Ok found
  pub form : Form
  pub is_form : IsForm (bare_tokens found) form
  pub says : Says form s

-- the line is refused: at a byte that begins no token, at a token that can't stand where it does, at its end, or at a string
pub data RefusesLine (line : List ℕ) : LineRefusal → Type 0 where
  at_byte : {place : ℕ} → line_tokens line ≡ Err place → RefusesLine line (refused.Syntax place)
  at_token : {ts : List PlacedToken} {i : ℕ} {t : PlacedToken} → line_tokens line ≡ Ok ts → StopsAt (bare_tokens ts) i → slice_get ts i ≡ Some t
      → RefusesLine line (refused.Syntax t.place)
  at_end : {ts : List PlacedToken} → line_tokens line ≡ Ok ts → 0 < length ts → BeginsLine (bare_tokens ts) → ((f : Form) → IsForm (bare_tokens ts) f → ⊥)
      → RefusesLine line (refused.Syntax (length line))
  at_string : {ts : List PlacedToken} {f : Form} {r : LineRefusal} → line_tokens line ≡ Ok ts → IsForm (bare_tokens ts) f → FirstBad (form_strings f) r
      → RefusesLine line r

-- the refusal of the line with that number
abbrev pub cause_at : ℕ → LineRefusal → ScriptCause
cause_at number (refused.Syntax place) = ScriptCause.Syntax number place
cause_at number (refused.Expression place why) = ScriptCause.Expression number place why

-- ---- a script

-- the lines say these statements; lines are numbered on from a number
pub data AreLines : ℕ → List (List ℕ) → List Line → Type 0 where
  no_lines : {number : ℕ} → AreLines number [] []
  blank_line : {number : ℕ} {line : List ℕ} {lines : List (List ℕ)} {ls : List Line} → IsBlankLine line → AreLines (suc number) lines ls → AreLines number (line ∷ lines) ls
  statement_line : {number : ℕ} {line : List ℕ} {lines : List (List ℕ)} {s : Statement} {ls : List Line} → IsLine line s → AreLines (suc number) lines ls
      → AreLines number (line ∷ lines) (record { number = number; statement = s } ∷ ls)

-- the text is this script; it has at most 256 statements
pub record IsScript (bytes : List ℕ) (s : Script) : Type 0 where
  pub lines : AreLines 1 (lines_of bytes) s.lines
  pub few : length s.lines ≤ 256

-- the first of the lines that is refused, where so many statements stand before them
pub data RefusesLines : ℕ → ℕ → List (List ℕ) → ScriptCause → Type 0 where
  refused_line : {number before : ℕ} {line : List ℕ} {lines : List (List ℕ)} {r : LineRefusal} → RefusesLine line r → RefusesLines number before (line ∷ lines) (cause_at number r)
  too_many : {number before : ℕ} {line : List ℕ} {lines : List (List ℕ)} {s : Statement} → IsLine line s → before ≡ 256 → RefusesLines number before (line ∷ lines) (ScriptCause.TooMany number)
  after_blank : {number before : ℕ} {line : List ℕ} {lines : List (List ℕ)} {c : ScriptCause} → IsBlankLine line → RefusesLines (suc number) before lines c → RefusesLines number before (line ∷ lines) c
  after_statement : {number before : ℕ} {line : List ℕ} {lines : List (List ℕ)} {s : Statement} {c : ScriptCause} → IsLine line s → before < 256 → RefusesLines (suc number) (suc before) lines c
      → RefusesLines number before (line ∷ lines) c

-- the text is refused for this cause
abbrev pub RefusesScript : List ℕ → ScriptCause → Type 0
RefusesScript bytes c = RefusesLines 1 0 (lines_of bytes) c
