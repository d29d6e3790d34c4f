-- Expressions as trees: what a contract sees of an expression, without the boxes that hold its parts.
use Rattle.std.specs.Prelude.{ℕ, ℤ, Bool, List}
use Rattle.rdf_values.specs.declared.expressions.expr.BinOp.{BinOp}
use Rattle.rdf_values.specs.declared.expressions.num_expr.Callee.{Callee}

mutual
  -- an expression over columns C and functions F
  pub data Tree (C F : Type 0) : Type 0 where
    Lit : (z : ℤ) → Tree C F
    Truth : (b : Bool) → Tree C F
    Col : (c : C) → Tree C F
    Neg : (a : Tree C F) → Tree C F
    Not : (a : Tree C F) → Tree C F
    Bin : (op : BinOp) (a b : Tree C F) → Tree C F
    Cond : (c a b : Tree C F) → Tree C F
    Pick : (v i : Tree C F) → Tree C F
    Call : (f : F) (args : Trees C F) → Tree C F

  -- the arguments of a call
  pub data Trees (C F : Type 0) : Type 0 where
    End : Trees C F
    More : (a : Tree C F) (rest : Trees C F) → Trees C F

-- an expression as it is written
abbrev pub NamedTree : Type 0
NamedTree = Tree (List ℕ) (List ℕ)

-- an expression with its columns and functions numbered
abbrev pub NumTree : Type 0
NumTree = Tree ℕ Callee

-- a fact of a column
module _ {C F : Type 0} (P : C → Type 0) where
  abbrev mutual
    -- each column that stands in the expression meets it
    pub EachColumn : Tree C F → Type 0
    EachColumn (Lit z) = Unit {0}
    EachColumn (Truth b) = Unit {0}
    EachColumn (Col c) = P c
    EachColumn (Neg a) = EachColumn a
    EachColumn (Not a) = EachColumn a
    EachColumn (Bin op a b) = EachColumn a × EachColumn b
    EachColumn (Cond c a b) = EachColumn c × EachColumn a × EachColumn b
    EachColumn (Pick v i) = EachColumn v × EachColumn i
    EachColumn (Call f args) = EachArgument args

    -- each column that stands in the arguments of a call meets it
    pub EachArgument : Trees C F → Type 0
    EachArgument End = Unit {0}
    EachArgument (More a rest) = EachColumn a × EachArgument rest
