-- What the parser takes of the tokens that are left.
use Rattle.std.specs.Prelude.{◌≡◌, ◌<◌, ◌≤◌, ℕ, Bool, true, false, nat_le, nat_eq, List, [], ◌∷◌, ◌++◌, length, drop, map, Option, Some, None}
use Rattle.rdf_values.specs.{after_list, AfterName, bare, begin_values, BinOp, End, InCall, InList, InLists, level_of, Mark, NamedTree, NamedTrees, Nothing, Op, OpenMark, Operand, Operator, Partial, Placed, Punct, Reads, ReadsArgs, ReadsList, ReadsLists, ReadsValues, Refused, scan, ScanEnd, ScanState, Token, VaryValues, Whole}
use Rattle.expr_read.specs.declared.lexeme.Token.{Token as Seen}
use Rattle.expr_read.specs.declared.parser.Parser.{Parser}
use Rattle.expr_read.specs.Views.{placed_of, token_of}

-- the tokens that a parser has left
abbrev pub left_of : Parser → List Placed
left_of p = map placed_of p.left.now

-- the token comes first, and then the new tokens
pub record Begins (t : Token) (old new : List Placed) : Type 0 where
  pub place : ℕ
  pub is : old ≡ record { token = t; place = place } ∷ new

-- another token comes first, or none
abbrev pub BeginsNot : Token → List Placed → Type 0
BeginsNot t old = (new : List Placed) → Begins t old new → ⊥

-- neither `-` nor `!` comes first
abbrev pub HasNoSign : List Placed → Type 0
HasNoSign old = BeginsNot (Op BinOp.Sub) old × BeginsNot (Punct Mark.Bang) old

-- the first of the tokens
abbrev pub Sees : List Placed → Option Seen → Type 0
Sees old None = old ≡ []
Sees old (Some t) = Begins (token_of t) old (drop 1 old)

-- whether the token was passed over
abbrev pub Ate : Token → Bool → List Placed → List Placed → Type 0
Ate t true old new = Begins t old new
Ate t false old new = (new ≡ old) × BeginsNot t old

-- an operator of the level was passed over, or there is none
abbrev pub IsOpOf : ℕ → Option BinOp → List Placed → List Placed → Type 0
IsOpOf n None old new = (new ≡ old) × ((o : BinOp) → level_of o ≡ n → BeginsNot (Op o) old)
IsOpOf n (Some o) old new = (level_of o ≡ n) × Begins (Op o) old new

-- whether an expression of the level goes on with the token
abbrev pub continues : ℕ → Token → Bool
continues n (Op o) = nat_le n (level_of o)
continues n (Punct Mark.Question) = nat_eq n 0
continues n (Punct Mark.OpenBracket) = nat_le n 8
continues n t = false

abbrev pub Stops : ℕ → List Placed → Type 0
Stops n [] = Unit {0}
Stops n (t ∷ ts) = continues n t.token ≡ false

-- an expression of the level was read; the scan comes as far
pub record Took (n : ℕ) (a : NamedTree) (old new : List Placed) : Type 0 where
  pub tokens : List Token
  pub split : bare old ≡ tokens ++ bare new
  pub reads : Reads n tokens a
  pub scans : (s : List OpenMark) → scan (Operand, s) old ≡ scan (Operator, s) new
  pub fewer : length new < length old

-- one argument of a call at least and its `)` were read
pub record TookArgs (args : NamedTrees) (old new : List Placed) : Type 0 where
  pub tokens : List Token
  pub split : bare old ≡ tokens ++ Punct Mark.Close ∷ bare new
  pub reads : ReadsArgs tokens args
  pub some : (args ≡ End) → ⊥
  pub scans : (s : List OpenMark) → scan (Operand, InCall ∷ s) old ≡ scan (Operator, s) new
  pub fewer : length new < length old

-- how a scan ends that can't take the first of the tokens, or wants more than there are
abbrev pub stuck_at : List Placed → ScanEnd
stuck_at [] = Partial
stuck_at (t ∷ ts) = Refused t.place

abbrev pub IsStuckFrom : (List OpenMark → ScanState) → List Placed → List Placed → Type 0
IsStuckFrom begin old new = (s : List OpenMark) → scan (begin s) old ≡ stuck_at new

-- where an expression is wanted, what follows a name, or an argument of a call
abbrev pub at_expr : List OpenMark → ScanState
at_expr s = (Operand, s)

abbrev pub after_name : List OpenMark → ScanState
after_name s = (AfterName, s)

abbrev pub at_more : List OpenMark → ScanState
at_more s = (Operand, InCall ∷ s)

-- ---- the values of a Vary

-- items of a list were read, and a comma after each: an item or more complete them; the scan comes as far
pub record Listing (items : List NamedTree) (old new : List Placed) : Type 0 where
  pub tokens : List Token
  pub split : bare old ≡ tokens ++ bare new
  pub completes : (us : List Token) (es : List NamedTree) → ReadsList us es → ReadsList (tokens ++ us) (items ++ es)
  pub scans : (s : List OpenMark) → scan (Operand, InList ∷ s) old ≡ scan (Operand, InList ∷ s) new
  pub within : length new ≤ length old

-- the items of a list and its `}` were read
pub record TookList (items : List NamedTree) (old new : List Placed) : Type 0 where
  pub tokens : List Token
  pub split : bare old ≡ tokens ++ Punct Mark.CloseBrace ∷ bare new
  pub reads : ReadsList tokens items
  pub scans : (s : List OpenMark) → scan (Operand, InList ∷ s) old ≡ scan (after_list s) new
  pub fewer : length new < length old

abbrev pub at_item : List OpenMark → ScanState
at_item s = (Operand, InList ∷ s)

-- in a list of lists
abbrev pub in_list : ScanState
in_list = (Operand, InList ∷ InLists ∷ [])

-- lists were read, after the `{` of the first, and a comma and a `{` after each
pub record Listings (lists : List (List NamedTree)) (old new : List Placed) : Type 0 where
  pub tokens : List Token
  pub split : bare old ≡ tokens ++ bare new
  pub completes : (us : List Token) (ls : List (List NamedTree)) → ReadsLists (Punct Mark.OpenBrace ∷ us) ls → ReadsLists (Punct Mark.OpenBrace ∷ (tokens ++ us)) (lists ++ ls)
  pub scans : scan in_list old ≡ scan in_list new

-- lists were read, after the `{` of the first, and the outer `}`
pub record TookLists (lists : List (List NamedTree)) (old new : List Placed) : Type 0 where
  pub tokens : List Token
  pub split : bare old ≡ tokens ++ Punct Mark.CloseBrace ∷ bare new
  pub reads : ReadsLists (Punct Mark.OpenBrace ∷ tokens) lists
  pub scans : scan in_list old ≡ scan (Nothing, []) new

-- how a scan ends that wants nothing more
abbrev pub ends_at : List Placed → ScanEnd
ends_at [] = Whole
ends_at (t ∷ ts) = Refused t.place

-- the values of a Vary were read, after which the scan wants nothing more
pub record TookValues (values : VaryValues) (old new : List Placed) : Type 0 where
  pub tokens : List Token
  pub split : bare old ≡ tokens ++ bare new
  pub reads : ReadsValues tokens values
  pub ends : scan begin_values old ≡ ends_at new
