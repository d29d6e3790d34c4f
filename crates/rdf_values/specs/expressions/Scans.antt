-- The scan, which finds the first token that can't stand where it does.
use Rattle.std.specs.Prelude.{◌≡◌, ℕ, List, [], ◌∷◌, length, Option, Some, None, Ok, Err}
use Rattle.rdf_values.specs.expressions.Expressions.{NamedTree}
use Rattle.rdf_values.specs.expressions.Tokens.{Token, Word, Truth, Number, Op, Punct, Placed, Refusal, tokens}
use Rattle.rdf_values.specs.expressions.Grammar.{Reads, ReadsValues, bare}
use Rattle.rdf_values.specs.declared.expressions.expr.BinOp.{BinOp}
use Rattle.rdf_values.specs.declared.expressions.expr.Mark.{Mark}
use Rattle.rdf_values.specs.declared.expressions.expr.ExprCause.{ExprCause}
use Rattle.rdf_values.specs.declared.scripts.statement.VaryValues.{VaryValues}

-- what is open: a parenthesis, the bracket of an index, a `?`, the arguments of a call, a list in braces, the outer brace of lists
pub data OpenMark : Type 0 where
  InParens InIndex InChoice InCall InList InLists : OpenMark

-- what may stand next: an operand, an operand or the end of a call's arguments, an operator, an operator or a call's arguments;
-- in the values of a Vary also the very beginning, a second brace, what follows a list, a list's brace, and nothing
pub data Wanted : Type 0 where
  Operand FirstArgument Operator AfterName Beginning AfterBrace AfterList NextList Nothing : Wanted

-- what is wanted next, and what is open, the innermost first
abbrev pub ScanState : Type 0
ScanState = Wanted × List OpenMark

-- where an operand is wanted
abbrev pub operand : Token → List OpenMark → Option ScanState
operand (Word x) stack = Some (AfterName, stack)
operand (Truth b) stack = Some (Operator, stack)
operand (Number z) stack = Some (Operator, stack)
operand (Op BinOp.Sub) stack = Some (Operand, stack)
operand (Op o) stack = None
operand (Punct Mark.Bang) stack = Some (Operand, stack)
operand (Punct Mark.Open) stack = Some (Operand, InParens ∷ stack)
operand (Punct m) stack = None

-- after a list was closed
abbrev pub after_list : List OpenMark → ScanState
after_list [] = (Nothing, [])
after_list (o ∷ stack) = (AfterList, o ∷ stack)

-- where an operator is wanted
abbrev pub operator : Token → List OpenMark → Option ScanState
operator (Op o) stack = Some (Operand, stack)
operator (Punct Mark.OpenBracket) stack = Some (Operand, InIndex ∷ stack)
operator (Punct Mark.Question) stack = Some (Operand, InChoice ∷ stack)
operator (Punct Mark.Colon) (InChoice ∷ stack) = Some (Operand, stack)
operator (Punct Mark.Comma) (InCall ∷ stack) = Some (Operand, InCall ∷ stack)
operator (Punct Mark.Comma) (InList ∷ stack) = Some (Operand, InList ∷ stack)
operator (Punct Mark.Close) (InParens ∷ stack) = Some (Operator, stack)
operator (Punct Mark.Close) (InCall ∷ stack) = Some (Operator, stack)
operator (Punct Mark.CloseBracket) (InIndex ∷ stack) = Some (Operator, stack)
operator (Punct Mark.CloseBrace) (InList ∷ stack) = Some (after_list stack)
operator t stack = None

-- after a name
abbrev pub after_name : Token → List OpenMark → Option ScanState
after_name (Punct Mark.Open) stack = Some (FirstArgument, InCall ∷ stack)
after_name t stack = operator t stack

-- after the `(` of a call
abbrev pub first_argument : Token → List OpenMark → Option ScanState
first_argument (Punct Mark.Close) (InCall ∷ stack) = Some (Operator, stack)
first_argument t stack = operand t stack

-- at the first token of the values of a Vary
abbrev pub beginning : Token → List OpenMark → Option ScanState
beginning (Punct Mark.OpenBrace) stack = Some (AfterBrace, InList ∷ stack)
beginning t stack = operand t stack

-- after the first `{`
abbrev pub after_brace : Token → List OpenMark → Option ScanState
after_brace (Punct Mark.OpenBrace) stack = Some (Operand, InList ∷ InLists ∷ [])
after_brace t stack = operand t stack

-- after a list in an outer brace
abbrev pub between_lists : Token → List OpenMark → Option ScanState
between_lists (Punct Mark.Comma) stack = Some (NextList, stack)
between_lists (Punct Mark.CloseBrace) stack = Some (Nothing, [])
between_lists t stack = None

-- after the comma behind a list
abbrev pub next_list : Token → List OpenMark → Option ScanState
next_list (Punct Mark.OpenBrace) stack = Some (Operand, InList ∷ stack)
next_list t stack = None

-- the state after the token, or none where it is refused
abbrev pub scan_step : ScanState → Token → Option ScanState
scan_step (Operand, stack) t = operand t stack
scan_step (FirstArgument, stack) t = first_argument t stack
scan_step (Operator, stack) t = operator t stack
scan_step (AfterName, stack) t = after_name t stack
scan_step (Beginning, stack) t = beginning t stack
scan_step (AfterBrace, stack) t = after_brace t stack
scan_step (AfterList, stack) t = between_lists t stack
scan_step (NextList, stack) t = next_list t stack
scan_step (Nothing, stack) t = None

-- how a scan ends: all tokens are taken and nothing is open, something is still wanted, or the token at a place is refused
pub data ScanEnd : Type 0 where
  Whole Partial : ScanEnd
  Refused : (place : ℕ) → ScanEnd

-- how a scan ends after the last token
abbrev pub ending : ScanState → ScanEnd
ending (Operator, []) = Whole
ending (AfterName, []) = Whole
ending (Nothing, []) = Whole
ending s = Partial

-- the scan goes on, or the token at the place is refused
abbrev pub continued : Option ScanState → ℕ → (ScanState → ScanEnd) → ScanEnd
continued None place go = Refused place
continued (Some s) place go = go s

-- how the scan of the tokens ends that begins so
abbrev pub scan : ScanState → List Placed → ScanEnd
scan s [] = ending s
scan s (t ∷ ts) = continued (scan_step s t.token) t.place (λ s'. scan s' ts)

-- the scan of an expression begins so
abbrev pub begin_expr : ScanState
begin_expr = (Operand, [])

-- and that of the values of a Vary
abbrev pub begin_values : ScanState
begin_values = (Beginning, [])

-- ---- a text

-- the text is of a grammar, and this is what it reads as
pub record IsText {T : Type 0} (reads : List Token → T → Type 0) (text : List ℕ) (x : T) : Type 0 where
  pub found : List Placed
  pub tokens_are : tokens text ≡ Ok found
  pub reads_as : reads (bare found) x

-- the first refusal of a text that isn't of a grammar, where the scan begins so
pub data Refuses {T : Type 0} (reads : List Token → T → Type 0) (begin : ScanState) (text : List ℕ) : Refusal → Type 0 where
  at_token : {r : Refusal} → tokens text ≡ Err r → Refuses reads begin text r
  at_scan : {ts : List Placed} {p : ℕ} → tokens text ≡ Ok ts → scan begin ts ≡ Refused p → Refuses reads begin text (record { cause = ExprCause.Unexpected; place = p })
  at_end : {ts : List Placed} → tokens text ≡ Ok ts → ((p : ℕ) → scan begin ts ≡ Refused p → ⊥) → ((x : T) → reads (bare ts) x → ⊥) → Refuses reads begin text (record { cause = ExprCause.Unexpected; place = length text })

-- an expression
abbrev pub ReadsText : List ℕ → NamedTree → Type 0
ReadsText = IsText (Reads 0)

abbrev pub RefusesText : List ℕ → Refusal → Type 0
RefusesText = Refuses (Reads 0) begin_expr

-- the values of a Vary
abbrev pub ReadsValuesText : List ℕ → VaryValues → Type 0
ReadsValuesText = IsText ReadsValues

abbrev pub RefusesValuesText : List ℕ → Refusal → Type 0
RefusesValuesText = Refuses ReadsValues begin_values
