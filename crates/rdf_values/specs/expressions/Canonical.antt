-- The canonical tokens and text of an expression, with the fewest parentheses.
use Rattle.std.specs.Prelude.{ℕ, suc, ◌+◌, Bool, true, false, List, [], ◌∷◌, ◌++◌, nat_le, codes}
use Rattle.std.specs.Fmt.{signed_decimal}
use Rattle.rdf_values.specs.expressions.Expressions.{NamedTree, Lit, Col, Neg, Not, Bin, Cond, Pick, Call, End, More}
use Rattle.rdf_values.specs.expressions.Expressions as e
use Rattle.rdf_values.specs.expressions.Tokens.{Token, Word, Truth, Number, Op, Punct}
use Rattle.rdf_values.specs.expressions.Grammar.{NamedTrees, level_of}
use Rattle.rdf_values.specs.declared.expressions.expr.BinOp.{BinOp}
use Rattle.rdf_values.specs.declared.expressions.expr.Mark.{Mark}

-- the tightest level that a tree reads at without parentheses
abbrev pub tree_level : NamedTree → ℕ
tree_level (Neg a) = 7
tree_level (Not a) = 7
tree_level (Bin o a b) = level_of o
tree_level (Cond c a b) = 0
tree_level (Pick v i) = 8
tree_level t = 9

-- the tokens in parentheses, where the level asked for is tighter than the tree's
abbrev pub enclosed : Bool → List Token → List Token
enclosed true ts = ts
enclosed false ts = Punct Mark.Open ∷ (ts ++ Punct Mark.Close ∷ [])

abbrev mutual
  -- the tokens of a tree without parentheses around them
  pub tokens_of : NamedTree → List Token
  tokens_of (Lit z) = Number z ∷ []
  tokens_of (e.Truth b) = Truth b ∷ []
  tokens_of (Col x) = Word x ∷ []
  tokens_of (Neg a) = Op BinOp.Sub ∷ enclosed (nat_le 7 (tree_level a)) (tokens_of a)
  tokens_of (Not a) = Punct Mark.Bang ∷ enclosed (nat_le 7 (tree_level a)) (tokens_of a)
  tokens_of (Bin o a b) = enclosed (nat_le (level_of o) (tree_level a)) (tokens_of a) ++ Op o ∷ enclosed (nat_le (suc (level_of o)) (tree_level b)) (tokens_of b)
  tokens_of (Cond c a b) = enclosed (nat_le 1 (tree_level c)) (tokens_of c) ++ (Punct Mark.Question ∷ (tokens_of a ++ Punct Mark.Colon ∷ tokens_of b))
  tokens_of (Pick v i) = enclosed (nat_le 8 (tree_level v)) (tokens_of v) ++ (Punct Mark.OpenBracket ∷ (tokens_of i ++ Punct Mark.CloseBracket ∷ []))
  tokens_of (Call f args) = Word f ∷ Punct Mark.Open ∷ (args_tokens args ++ Punct Mark.Close ∷ [])

  pub args_tokens : NamedTrees → List Token
  args_tokens End = []
  args_tokens (More a rest) = tokens_of a ++ more_tokens rest

  -- the arguments after the first, each after a comma
  pub more_tokens : NamedTrees → List Token
  more_tokens End = []
  more_tokens (More a rest) = Punct Mark.Comma ∷ (tokens_of a ++ more_tokens rest)

-- the tokens of a tree where a level is asked for
abbrev pub tokens_at_level : ℕ → NamedTree → List Token
tokens_at_level n t = enclosed (nat_le n (tree_level t)) (tokens_of t)

-- ---- the text

abbrev pub in_parens : Bool → List ℕ → List ℕ
in_parens true text = text
in_parens false text = codes "(" ++ text ++ codes ")"

abbrev pub op_text : BinOp → List ℕ
op_text BinOp.Mul = codes " * "
op_text BinOp.Div = codes " / "
op_text BinOp.Rem = codes " % "
op_text BinOp.Add = codes " + "
op_text BinOp.Sub = codes " - "
op_text BinOp.Lt = codes " < "
op_text BinOp.Le = codes " <= "
op_text BinOp.Gt = codes " > "
op_text BinOp.Ge = codes " >= "
op_text BinOp.Eq = codes " == "
op_text BinOp.Ne = codes " != "
op_text BinOp.And = codes " && "
op_text BinOp.Or = codes " || "

abbrev pub truth_text : Bool → List ℕ
truth_text true = codes "true"
truth_text false = codes "false"

abbrev mutual
  pub text_of : NamedTree → List ℕ
  text_of (Lit z) = signed_decimal z
  text_of (e.Truth b) = truth_text b
  text_of (Col x) = x
  text_of (Neg a) = codes "-" ++ in_parens (nat_le 7 (tree_level a)) (text_of a)
  text_of (Not a) = codes "!" ++ in_parens (nat_le 7 (tree_level a)) (text_of a)
  text_of (Bin o a b) = in_parens (nat_le (level_of o) (tree_level a)) (text_of a) ++ op_text o ++ in_parens (nat_le (level_of o + 1) (tree_level b)) (text_of b)
  text_of (Cond c a b) = in_parens (nat_le 1 (tree_level c)) (text_of c) ++ codes " ? " ++ text_of a ++ codes " : " ++ text_of b
  text_of (Pick v i) = in_parens (nat_le 8 (tree_level v)) (text_of v) ++ codes "[" ++ text_of i ++ codes "]"
  text_of (Call f args) = f ++ codes "(" ++ args_text args ++ codes ")"

  pub args_text : NamedTrees → List ℕ
  args_text End = []
  args_text (More a rest) = text_of a ++ more_text rest

  pub more_text : NamedTrees → List ℕ
  more_text End = []
  more_text (More a rest) = codes ", " ++ text_of a ++ more_text rest
