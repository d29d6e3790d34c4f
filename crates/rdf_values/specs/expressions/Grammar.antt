-- The grammar of expressions.
use Rattle.std.specs.Prelude.{◌≡◌, ℕ, suc, Bool, ℤ, List, [], ◌∷◌, ◌++◌, map}
use Rattle.rdf_values.specs.expressions.Expressions.{Trees, NamedTree}
use Rattle.rdf_values.specs.expressions.Expressions as e
use Rattle.rdf_values.specs.expressions.Tokens.{Token, Word, Truth, Number, Op, Punct, Placed}
use Rattle.rdf_values.specs.declared.expressions.expr.BinOp.{BinOp}
use Rattle.rdf_values.specs.declared.expressions.expr.Mark.{Mark}
use Rattle.rdf_values.specs.declared.scripts.statement.VaryValues.{VaryValues}
use Rattle.rdf_values.specs.declared.scripts.statement.VaryValues.TheVariants.{Lists, Vector}

-- how tight an operator binds, between `?` at level 0 and the signs at 7, indexing at 8 and operands at 9
abbrev pub level_of : BinOp → ℕ
level_of BinOp.Or = 1
level_of BinOp.And = 2
level_of BinOp.Eq = 3
level_of BinOp.Ne = 3
level_of BinOp.Lt = 4
level_of BinOp.Le = 4
level_of BinOp.Gt = 4
level_of BinOp.Ge = 4
level_of BinOp.Add = 5
level_of BinOp.Sub = 5
level_of BinOp.Mul = 6
level_of BinOp.Div = 6
level_of BinOp.Rem = 6

abbrev pub NamedTrees : Type 0
NamedTrees = Trees (List ℕ) (List ℕ)

mutual
  -- the tokens read as the tree at the level; parentheses leave no trace
  pub data Reads : ℕ → List Token → NamedTree → Type 0 where
    number : {z : ℤ} → Reads 9 (Number z ∷ []) (e.Lit z)
    truth : {b : Bool} → Reads 9 (Truth b ∷ []) (e.Truth b)
    name : {x : List ℕ} → Reads 9 (Word x ∷ []) (e.Col x)
    parenthesized : {ts us : List Token} {a : NamedTree} → Reads 0 ts a → us ≡ Punct Mark.Open ∷ (ts ++ Punct Mark.Close ∷ []) → Reads 9 us a
    call : {f : List ℕ} {ts us : List Token} {args : NamedTrees} → ReadsArgs ts args → us ≡ Word f ∷ Punct Mark.Open ∷ (ts ++ Punct Mark.Close ∷ []) → Reads 9 us (e.Call f args)
    pick : {ts us vs : List Token} {a b : NamedTree} → Reads 8 ts a → Reads 0 us b → vs ≡ ts ++ (Punct Mark.OpenBracket ∷ (us ++ Punct Mark.CloseBracket ∷ [])) → Reads 8 vs (e.Pick a b)
    minus_sign : {ts : List Token} {a : NamedTree} → Reads 7 ts a → Reads 7 (Op BinOp.Sub ∷ ts) (e.Neg a)
    not_sign : {ts : List Token} {a : NamedTree} → Reads 7 ts a → Reads 7 (Punct Mark.Bang ∷ ts) (e.Not a)
    binary : {o : BinOp} {n : ℕ} {ts us vs : List Token} {a b : NamedTree} → Reads n ts a → Reads (suc n) us b → level_of o ≡ n → vs ≡ ts ++ Op o ∷ us → Reads n vs (e.Bin o a b)
    conditional : {ts us ws vs : List Token} {c a b : NamedTree} → Reads 1 ts c → Reads 0 us a → Reads 0 ws b → vs ≡ ts ++ (Punct Mark.Question ∷ (us ++ Punct Mark.Colon ∷ ws)) → Reads 0 vs (e.Cond c a b)
    tighter : {n : ℕ} {ts : List Token} {a : NamedTree} → Reads (suc n) ts a → Reads n ts a

  -- the tokens read as arguments with commas between
  pub data ReadsArgs : List Token → NamedTrees → Type 0 where
    no_arguments : ReadsArgs [] e.End
    last_argument : {ts : List Token} {a : NamedTree} → Reads 0 ts a → ReadsArgs ts (e.More a e.End)
    more_arguments : {ts us vs : List Token} {a b : NamedTree} {args : NamedTrees} → Reads 0 ts a → ReadsArgs us (e.More b args) → vs ≡ ts ++ Punct Mark.Comma ∷ us → ReadsArgs vs (e.More a (e.More b args))

-- ---- the values of a Vary

-- expressions with commas between, at least one
pub data ReadsList : List Token → List NamedTree → Type 0 where
  last_item : {ts : List Token} {a : NamedTree} → Reads 0 ts a → ReadsList ts (a ∷ [])
  more_items : {ts us vs : List Token} {a : NamedTree} {es : List NamedTree} → Reads 0 ts a → ReadsList us es → vs ≡ ts ++ Punct Mark.Comma ∷ us → ReadsList vs (a ∷ es)

-- lists in braces with commas between, at least one
pub data ReadsLists : List Token → List (List NamedTree) → Type 0 where
  last_list : {ts us : List Token} {es : List NamedTree} → ReadsList ts es → us ≡ Punct Mark.OpenBrace ∷ (ts ++ Punct Mark.CloseBrace ∷ []) → ReadsLists us (es ∷ [])
  more_lists : {ts us vs : List Token} {es : List NamedTree} {ls : List (List NamedTree)} → ReadsList ts es → ReadsLists us ls → vs ≡ Punct Mark.OpenBrace ∷ (ts ++ Punct Mark.CloseBrace ∷ Punct Mark.Comma ∷ us) → ReadsLists vs (es ∷ ls)

-- one list, lists in an outer brace, or one expression
pub data ReadsValues : List Token → VaryValues → Type 0 where
  one_list : {ts us : List Token} {es : List NamedTree} → ReadsList ts es → us ≡ Punct Mark.OpenBrace ∷ (ts ++ Punct Mark.CloseBrace ∷ []) → ReadsValues us (Lists (es ∷ []))
  several_lists : {ts us : List Token} {ls : List (List NamedTree)} → ReadsLists ts ls → us ≡ Punct Mark.OpenBrace ∷ (ts ++ Punct Mark.CloseBrace ∷ []) → ReadsValues us (Lists ls)
  vector : {ts : List Token} {a : NamedTree} → Reads 0 ts a → ReadsValues ts (Vector a)

-- tokens without their places
abbrev pub bare : List Placed → List Token
bare ts = map (λ (t : Placed). t.token) ts
