-- The forms of a script's lines. A form is what a line books or asks for, with the texts of its strings as they stand; its tokens are a function of it.
use Rattle.std.specs.Prelude.{◌≡◌, ℕ, ℤ, ◌+◌, not, Bool, true, ◌&&◌, ◌||◌, List, [], ◌∷◌, ◌++◌, Option, Some, None, codes, take}
use Rattle.rdf_values.specs.scripts.Names.{same}
use Rattle.rdf_values.specs.scripts.LineTokens.{LineToken, Word, Number, Quoted, Equals, Dot, Open, Close, OpenBracket, CloseBracket, Comma, QuotedText}

-- one string or more
pub record Strings : Type 0 where
  pub first : QuotedText
  pub rest : List QuotedText

-- one integer or more
pub record Edges : Type 0 where
  pub first : ℤ
  pub rest : List ℤ

-- what is called on a node
pub data Method : Type 0 where
  Define Redefine : (column expr : QuotedText) → Method
  Alias : (column target : QuotedText) → Method
  Filter : (expr : QuotedText) (label : Option QuotedText) → Method
  VaryOne : (column values : QuotedText) (tags : Strings) (name : Option QuotedText) → Method
  VaryAll : (columns : Strings) (values : QuotedText) (tags : Strings) (name : QuotedText) → Method
  Count Report : Method
  Sum Min Max Take : (column : QuotedText) → Method
  Reduce : (operation column : QuotedText) → Method
  Histo1D : (x_edges : Edges) (x : QuotedText) (weight : Option QuotedText) → Method
  Histo2D : (x_edges y_edges : Edges) (x y : QuotedText) (weight : Option QuotedText) → Method

-- a line that has tokens
pub data Form : Type 0 where
  Books : (name parent : List ℕ) (method : Method) → Form
  Print VariationsFor Watch : (result : List ℕ) → Form

-- ---- the tokens of a form

-- a comma and a string, or nothing
abbrev pub maybe_string : Option QuotedText → List LineToken
maybe_string None = []
maybe_string (Some t) = Comma ∷ Quoted t ∷ []

-- further strings of a list, and its end
abbrev pub more_strings : List QuotedText → List LineToken
more_strings [] = CloseBracket ∷ []
more_strings (t ∷ ts) = Comma ∷ Quoted t ∷ more_strings ts

-- a list of strings
abbrev pub strings_tokens : Strings → List LineToken
strings_tokens ts = OpenBracket ∷ Quoted ts.first ∷ more_strings ts.rest

-- further edges of a list, and its end
abbrev pub more_edges : List ℤ → List LineToken
more_edges [] = CloseBracket ∷ []
more_edges (z ∷ zs) = Comma ∷ Number z ∷ more_edges zs

-- a list of edges
abbrev pub edges_tokens : Edges → List LineToken
edges_tokens es = OpenBracket ∷ Number es.first ∷ more_edges es.rest

-- a word, and what stands in its parentheses
abbrev pub call : List ℕ → List LineToken → List LineToken
call word inside = Word word ∷ Open ∷ (inside ++ Close ∷ [])

-- what a method is called
abbrev pub method_word : Method → List ℕ
method_word (Define c e) = codes "Define"
method_word (Redefine c e) = codes "Redefine"
method_word (Alias c t) = codes "Alias"
method_word (Filter e l) = codes "Filter"
method_word (VaryOne c v ts n) = codes "Vary"
method_word (VaryAll cs v ts n) = codes "Vary"
method_word Count = codes "Count"
method_word Report = codes "Report"
method_word (Sum c) = codes "Sum"
method_word (Min c) = codes "Min"
method_word (Max c) = codes "Max"
method_word (Take c) = codes "Take"
method_word (Reduce o c) = codes "Reduce"
method_word (Histo1D xs x w) = codes "Histo1D"
method_word (Histo2D xs ys x y w) = codes "Histo2D"

-- what stands in its parentheses
abbrev pub arguments : Method → List LineToken
arguments (Define c e) = Quoted c ∷ Comma ∷ Quoted e ∷ []
arguments (Redefine c e) = Quoted c ∷ Comma ∷ Quoted e ∷ []
arguments (Alias c t) = Quoted c ∷ Comma ∷ Quoted t ∷ []
arguments (Filter e l) = Quoted e ∷ maybe_string l
arguments (VaryOne c v ts n) = Quoted c ∷ Comma ∷ Quoted v ∷ Comma ∷ (strings_tokens ts ++ maybe_string n)
arguments (VaryAll cs v ts n) = strings_tokens cs ++ Comma ∷ Quoted v ∷ Comma ∷ (strings_tokens ts ++ Comma ∷ Quoted n ∷ [])
arguments Count = []
arguments Report = []
arguments (Sum c) = Quoted c ∷ []
arguments (Min c) = Quoted c ∷ []
arguments (Max c) = Quoted c ∷ []
arguments (Take c) = Quoted c ∷ []
arguments (Reduce o c) = Quoted o ∷ Comma ∷ Quoted c ∷ []
arguments (Histo1D xs x w) = edges_tokens xs ++ Comma ∷ Quoted x ∷ maybe_string w
arguments (Histo2D xs ys x y w) = edges_tokens xs ++ Comma ∷ (edges_tokens ys ++ Comma ∷ Quoted x ∷ Comma ∷ Quoted y ∷ maybe_string w)

-- the tokens of a whole line
abbrev pub form_tokens : Form → List LineToken
form_tokens (Books n p m) = Word n ∷ Equals ∷ Word p ∷ Dot ∷ call (method_word m) (arguments m)
form_tokens (Print r) = call (codes "Print") (Word r ∷ [])
form_tokens (VariationsFor r) = call (codes "VariationsFor") (Word r ∷ [])
form_tokens (Watch r) = call (codes "Watch") (Word r ∷ [])

-- ---- the grammar

-- a name in a line is none of the words that begin a line of another kind
abbrev pub is_free : List ℕ → Bool
is_free n = not (same n (codes "Print") || same n (codes "VariationsFor") || same n (codes "Watch"))

abbrev pub has_free_names : Form → Bool
has_free_names (Books n p m) = is_free n && is_free p
has_free_names (Print r) = is_free r
has_free_names (VariationsFor r) = is_free r
has_free_names (Watch r) = is_free r

-- the tokens are a whole line of that form
pub record IsForm (ts : List LineToken) (f : Form) : Type 0 where
  pub tokens : ts ≡ form_tokens f
  pub free : has_free_names f ≡ true

-- some line begins with these tokens
pub record BeginsLine (ts : List LineToken) : Type 0 where
  pub rest : List LineToken
  pub form : Form
  pub whole : IsForm (ts ++ rest) form

-- the first token that can't stand where it does, by its number: some line begins with those before it, and none with it too
pub record StopsAt (ts : List LineToken) (i : ℕ) : Type 0 where
  pub before : BeginsLine (take i ts)
  pub with_it : BeginsLine (take (i + 1) ts) → ⊥
