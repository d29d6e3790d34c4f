-- What tokens and forms are to the definitions.
use Rattle.std.specs.Prelude.{ℤ, List, map, option_map, ◌≡◌, ◌<◌, ◌≤◌, ◌+◌, ℕ, [], ◌∷◌, ◌++◌, length, Option, Some, None}
use Rattle.rdf_values.specs.{LineToken, PlacedToken, QuotedText, Strings, IsBlankLine, IsLine, IsName, Line, LineRefusal, RefusesLines, RefusesScript, Statement}
use Rattle.rdf_values.specs.scripts.LineForms.{Edges}
use Rattle.script_read.specs.declared.form.FormMark.{FormMark}
use Rattle.script_read.specs.declared.form.FormToken.{FormToken}
use Rattle.script_read.specs.declared.form.Quoted.{Quoted}
use Rattle.script_read.specs.declared.form.TokenAt.{TokenAt}
use Rattle.script_read.specs.declared.lexeme.Lexeme.{Lexeme}
use Rattle.script_read.specs.declared.form.OneOrMore.{OneOrMore}
use Rattle.script_read.specs.declared.form.Action.{Action}
use Rattle.script_read.specs.declared.form.Method.{Method}
use Rattle.script_read.specs.declared.form.Form.{Form}
use Rattle.script_read.specs.declared.walk.Walk.{Walk}
use Rattle.expr_read.specs.{ExprRefusal}
use Rattle.script_read.specs.declared.refusal.LineStop.{LineStop}
use Rattle.script_read.specs.declared.refusal.ScriptRefusal.{ScriptRefusal}
use Rattle.rdf_values.specs.scripts.LineTokens as t
use Rattle.rdf_values.specs.scripts.LineForms as f
use Rattle.rdf_values.specs.scripts.Statements as refused

-- ---- tokens

-- a string of a line
abbrev pub quoted_of : Quoted → QuotedText
quoted_of q = record { place = q.place; content = q.content.now }

-- a mark as a token
abbrev pub mark_token : FormMark → LineToken
mark_token FormMark.Equals = t.Equals
mark_token FormMark.Dot = t.Dot
mark_token FormMark.Open = t.Open
mark_token FormMark.Close = t.Close
mark_token FormMark.OpenBracket = t.OpenBracket
mark_token FormMark.CloseBracket = t.CloseBracket
mark_token FormMark.Comma = t.Comma

-- a token
abbrev pub token_of : FormToken → LineToken
token_of (FormToken.Word w) = t.Word w.bytes.now
token_of (FormToken.Number z) = t.Number z
token_of (FormToken.Quoted q) = t.Quoted (quoted_of q)
token_of (FormToken.Mark m) = mark_token m

-- a token at its place
abbrev pub placed_of : TokenAt → PlacedToken
placed_of p = record { token = token_of p.token; place = p.place }

-- the tokens that a walk has left
abbrev pub left_of : Walk → List PlacedToken
left_of w = map placed_of w.left.now

-- a lexeme
abbrev pub lexeme_of : Lexeme → t.Lexeme
lexeme_of Lexeme.Blank = t.Blank
lexeme_of Lexeme.Comment = t.Comment
lexeme_of Lexeme.Bad = t.Bad
lexeme_of (Lexeme.Found token more) = t.Found (token_of token) more

-- ---- forms

-- a list of strings
abbrev pub strings_of : OneOrMore Quoted → Strings
strings_of s = record { first = quoted_of s.first; rest = map quoted_of s.rest.items }

-- a list of edges
abbrev pub edges_of : OneOrMore ℤ → Edges
edges_of s = record { first = s.first; rest = s.rest.items }

-- an action
abbrev pub action_of : Action → f.Method
action_of Action.Count = f.Count
action_of (Action.Sum c) = f.Sum (quoted_of c)
action_of (Action.Min c) = f.Min (quoted_of c)
action_of (Action.Max c) = f.Max (quoted_of c)
action_of (Action.Take c) = f.Take (quoted_of c)
action_of (Action.Reduce p) = f.Reduce (quoted_of p.0) (quoted_of p.1)
action_of (Action.Histo1D es x w) = f.Histo1D (edges_of es) (quoted_of x) (option_map quoted_of w)
action_of (Action.Histo2D es gs x y w) = f.Histo2D (edges_of es) (edges_of gs) (quoted_of x) (quoted_of y) (option_map quoted_of w)

-- a method
abbrev pub method_of : Method → f.Method
method_of (Method.Define p) = f.Define (quoted_of p.0) (quoted_of p.1)
method_of (Method.Redefine p) = f.Redefine (quoted_of p.0) (quoted_of p.1)
method_of (Method.Alias p) = f.Alias (quoted_of p.0) (quoted_of p.1)
method_of (Method.Filter e l) = f.Filter (quoted_of e) (option_map quoted_of l)
method_of (Method.VaryOne c v ts n) = f.VaryOne (quoted_of c) (quoted_of v) (strings_of ts) (option_map quoted_of n)
method_of (Method.VaryAll cs v ts n) = f.VaryAll (strings_of cs) (quoted_of v) (strings_of ts) (quoted_of n)
method_of Method.Report = f.Report
method_of (Method.Action a) = action_of a

-- a form
abbrev pub form_of : Form → f.Form
form_of (Form.Books n p m) = f.Books n.bytes.now p.bytes.now (method_of m)
form_of (Form.Print r) = f.Print r.bytes.now
form_of (Form.VariationsFor r) = f.VariationsFor r.bytes.now
form_of (Form.Watch r) = f.Watch r.bytes.now

-- ---- what stops and refusals say, and what a line adds to the statements before it

-- the stop is a refusal of which that holds, or want of memory
abbrev pub RefusedFor : (LineRefusal → Type 0) → LineStop → Type 0
RefusedFor P (LineStop.Syntax place) = P (refused.Syntax place)
RefusedFor P (LineStop.Expression place cause) = P (refused.Expression place cause)
RefusedFor P LineStop.Memory = Unit {0}

-- the text is refused for that cause, or memory was wanted
abbrev pub RefusesTextAs : List ℕ → ScriptRefusal → Type 0
RefusesTextAs text (ScriptRefusal.At cause) = RefusesScript text cause
RefusesTextAs text ScriptRefusal.Memory = Unit {0}

-- the refusal stands in a text of so many bytes, or at its end
abbrev pub StandsWithin : ℕ → ExprRefusal → Type 0
StandsWithin size (ExprRefusal.At cause place) = place ≤ size
StandsWithin size ExprRefusal.Memory = Unit {0}

-- the refusal of what the string holds, counted in the line
abbrev pub stop_in : QuotedText → ExprRefusal → LineStop
stop_in q (ExprRefusal.At cause place) = LineStop.Expression (q.place + 1 + place) cause
stop_in q ExprRefusal.Memory = LineStop.Memory

-- a Vary of one column has this name: the string's, or the column's where there is no string
abbrev pub IsNamed : List ℕ → Option QuotedText → List ℕ → Type 0
IsNamed column None name = name ≡ column
IsNamed column (Some t) name = IsName t name

-- a blank line adds nothing; a statement, with its line's number, comes last
pub data AddsLine (number : ℕ) (line : List ℕ) (before : List Line) : List Line → Type 0 where
  adds_nothing : IsBlankLine line → AddsLine number line before before
  adds_statement : {s : Statement} → IsLine line s → length before < 256 → AddsLine number line before (before ++ record { number = number; statement = s } ∷ [])

-- whatever lines follow, they are refused at this first line, where so many statements stand before it; or memory was wanted
abbrev pub RefusesFirstAs : ℕ → ℕ → List ℕ → ScriptRefusal → Type 0
RefusesFirstAs number before line (ScriptRefusal.At cause) = (lines : List (List ℕ)) → RefusesLines number before (line ∷ lines) cause
RefusesFirstAs number before line ScriptRefusal.Memory = Unit {0}
