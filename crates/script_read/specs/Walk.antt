-- A walk over the tokens of a line, which takes each token that can stand where it does.
use Rattle.std.specs.Prelude.{◌≡◌, ℕ, Bool, true, false, List, [], ◌∷◌, ◌++◌, Option, Some, None, option_map, drop, codes, if◌then◌else◌}
use Rattle.rdf_values.specs.{arguments, bare_tokens, Form, form_tokens, has_free_names, is_free, LineToken, Method, method_word, PlacedToken, same}
use Rattle.rdf_values.specs.scripts.LineTokens as t
use Rattle.rdf_values.specs.scripts.LineForms as form
use Rattle.script_read.specs.Views.{mark_token}
use Rattle.script_read.specs.declared.walk.MethodName.{MethodName}
use Rattle.script_read.specs.declared.walk.ActionName.{ActionName}
use Rattle.script_read.specs.declared.form.FormMark.{FormMark}

-- whether the token is the mark
abbrev pub is_mark : FormMark → LineToken → Bool
is_mark FormMark.Equals t.Equals = true
is_mark FormMark.Dot t.Dot = true
is_mark FormMark.Open t.Open = true
is_mark FormMark.Close t.Close = true
is_mark FormMark.OpenBracket t.OpenBracket = true
is_mark FormMark.CloseBracket t.CloseBracket = true
is_mark FormMark.Comma t.Comma = true
is_mark m t = false

-- ---- methods by their names

-- the word of a name
abbrev pub name_word : MethodName → List ℕ
name_word MethodName.Define = codes "Define"
name_word MethodName.Redefine = codes "Redefine"
name_word MethodName.Alias = codes "Alias"
name_word MethodName.Filter = codes "Filter"
name_word MethodName.Vary = codes "Vary"
name_word (MethodName.Action ActionName.Count) = codes "Count"
name_word MethodName.Report = codes "Report"
name_word (MethodName.Action ActionName.Sum) = codes "Sum"
name_word (MethodName.Action ActionName.Min) = codes "Min"
name_word (MethodName.Action ActionName.Max) = codes "Max"
name_word (MethodName.Action ActionName.Take) = codes "Take"
name_word (MethodName.Action ActionName.Reduce) = codes "Reduce"
name_word (MethodName.Action ActionName.Histo1D) = codes "Histo1D"
name_word (MethodName.Action ActionName.Histo2D) = codes "Histo2D"

-- all names of methods
abbrev pub all_names : List MethodName
all_names = MethodName.Define ∷ MethodName.Redefine ∷ MethodName.Alias ∷ MethodName.Filter ∷ MethodName.Vary ∷ (MethodName.Action ActionName.Count) ∷ MethodName.Report ∷ (MethodName.Action ActionName.Sum) ∷ (MethodName.Action ActionName.Min) ∷ (MethodName.Action ActionName.Max) ∷ (MethodName.Action ActionName.Take) ∷ (MethodName.Action ActionName.Reduce) ∷ (MethodName.Action ActionName.Histo1D) ∷ (MethodName.Action ActionName.Histo2D) ∷ []

-- the first of those by whose word this one stands
abbrev pub named : {A : Type 0} → (A → List ℕ) → List ℕ → List A → Option A
named word_of word [] = None
named word_of word (x ∷ xs) = if same word (word_of x) then Some x else named word_of word xs

-- the method that the word names
unfoldable pub name_of : List ℕ → Option MethodName
name_of word = named name_word word all_names

-- ---- what is wanted next

-- what can stand next: a line, a part of one, or the further items and the end of a list; `MaybeString` and `VaryArguments` have their closing parenthesis with them
pub data Want : Type 0 where
  ALine AWord AMethod AString ANumber MoreStrings MoreEdges MaybeString VaryArguments : Want
  AMark : (mark : FormMark) → Want

-- a name, and what is called on it
abbrev pub booking_wants : List Want
booking_wants = AMark FormMark.Equals ∷ AWord ∷ AMark FormMark.Dot ∷ AMethod ∷ []

-- the name of a result
abbrev pub asking_wants : List Want
asking_wants = AMark FormMark.Open ∷ AWord ∷ AMark FormMark.Close ∷ []

-- what follows the first word of a line
abbrev pub line_wants : List ℕ → List Want
line_wants word = if is_free word then booking_wants else asking_wants

-- a list of strings
abbrev pub strings_wants : List Want
strings_wants = AMark FormMark.OpenBracket ∷ AString ∷ MoreStrings ∷ []

-- a list of integers
abbrev pub edges_wants : List Want
edges_wants = AMark FormMark.OpenBracket ∷ ANumber ∷ MoreEdges ∷ []

-- a string that ends a call
abbrev pub one_string_wants : List Want
one_string_wants = AString ∷ AMark FormMark.Close ∷ []

-- two strings that end a call
abbrev pub two_string_wants : List Want
two_string_wants = AString ∷ AMark FormMark.Comma ∷ one_string_wants

-- the values and the tags of a variation, behind its columns
abbrev pub variation_wants : List Want
variation_wants = AMark FormMark.Comma ∷ AString ∷ AMark FormMark.Comma ∷ strings_wants

-- what stands in a method's parentheses, with the closing one
abbrev pub arguments_wants : MethodName → List Want
arguments_wants MethodName.Filter = AString ∷ MaybeString ∷ []
arguments_wants MethodName.Vary = VaryArguments ∷ []
arguments_wants MethodName.Report = AMark FormMark.Close ∷ []
arguments_wants (MethodName.Action ActionName.Count) = AMark FormMark.Close ∷ []
arguments_wants (MethodName.Action ActionName.Histo1D) = edges_wants ++ AMark FormMark.Comma ∷ AString ∷ MaybeString ∷ []
arguments_wants (MethodName.Action ActionName.Histo2D) = edges_wants ++ AMark FormMark.Comma ∷ (edges_wants ++ AMark FormMark.Comma ∷ AString ∷ AMark FormMark.Comma ∷ AString ∷ MaybeString ∷ [])
arguments_wants (MethodName.Action ActionName.Reduce) = two_string_wants
arguments_wants (MethodName.Action a) = one_string_wants
arguments_wants n = two_string_wants

-- what follows the name of a method
abbrev pub method_wants : MethodName → List Want
method_wants n = AMark FormMark.Open ∷ arguments_wants n

-- what asks for the result by that word, which is not free
abbrev pub asked_form : List ℕ → List ℕ → Form
asked_form word r = if same word (codes "Print") then form.Print r else (if same word (codes "VariationsFor") then form.VariationsFor r else form.Watch r)

-- ---- the walk

-- what is wanted behind the token, where it can stand
abbrev pub next : Want → LineToken → Option (List Want)
next ALine (t.Word x) = Some (line_wants x)
next AWord (t.Word x) = if is_free x then Some [] else None
next AMethod (t.Word x) = option_map method_wants (name_of x)
next AString (t.Quoted q) = Some []
next ANumber (t.Number z) = Some []
next MoreStrings t.Comma = Some (AString ∷ MoreStrings ∷ [])
next MoreStrings t.CloseBracket = Some []
next MoreEdges t.Comma = Some (ANumber ∷ MoreEdges ∷ [])
next MoreEdges t.CloseBracket = Some []
next MaybeString t.Comma = Some one_string_wants
next MaybeString t.Close = Some []
next VaryArguments (t.Quoted q) = Some (variation_wants ++ MaybeString ∷ [])
next VaryArguments t.OpenBracket = Some (AString ∷ MoreStrings ∷ (variation_wants ++ AMark FormMark.Comma ∷ one_string_wants))
next (AMark m) t = if is_mark m t then Some [] else None
next w t = None

-- how a walk ends: all is taken, or it is stuck before these
pub data WalkEnd (A : Type 0) : Type 0 where
  Done : WalkEnd A
  StuckAt : (left : List A) → WalkEnd A

-- a walk goes on with what is wanted then, or is stuck
abbrev pub walk_on : {A : Type 0} → List A → Option (List Want) → (List Want → WalkEnd A) → WalkEnd A
walk_on left None others = StuckAt left
walk_on left (Some wants) others = others wants

-- the walk over what has tokens, where these are wanted
abbrev pub walk : {A : Type 0} → (A → LineToken) → List A → List Want → WalkEnd A
walk token [] [] = Done
walk token [] (w ∷ ws) = StuckAt []
walk token (x ∷ xs) [] = StuckAt (x ∷ xs)
walk token (x ∷ xs) (w ∷ ws) = walk_on (x ∷ xs) (next w (token x)) (λ vs. walk token xs (vs ++ ws))

-- the walk over tokens with their places
unfoldable pub walk_placed : List PlacedToken → List Want → WalkEnd PlacedToken
walk_placed ts ws = walk (λ (p : PlacedToken). p.token) ts ws

-- ---- what the parser does

-- the token comes first, and then the new tokens
pub record Begins (t : LineToken) (old new : List PlacedToken) : Type 0 where
  pub place : ℕ
  pub is : old ≡ record { token = t; place = place } ∷ new

-- the name of the method comes first
abbrev pub SeesMethod : MethodName → List PlacedToken → Type 0
SeesMethod n old = Begins (t.Word (name_word n)) old (drop 1 old)

-- another token comes first, or none
abbrev pub BeginsNot : LineToken → List PlacedToken → Type 0
BeginsNot t old = (new : List PlacedToken) → Begins t old new → ⊥

-- whether the mark was passed over
abbrev pub Ate : FormMark → Bool → List PlacedToken → List PlacedToken → Type 0
Ate m true old new = Begins (mark_token m) old new
Ate m false old new = (new ≡ old) × BeginsNot (mark_token m) old

-- these tokens were taken, and the walk that wants this comes as far
pub record Took (ws : List Want) (ts : List LineToken) (old new : List PlacedToken) : Type 0 where
  pub split : bare_tokens old ≡ ts ++ bare_tokens new
  pub walks : (k : List Want) → walk_placed old (ws ++ k) ≡ walk_placed new k

-- the walk that wants this is stuck there
abbrev pub IsStuck : List Want → List PlacedToken → List PlacedToken → Type 0
IsStuck ws old new = (k : List Want) → walk_placed old (ws ++ k) ≡ StuckAt new

-- where a line is refused that has these left, or ends there
abbrev pub place_from : List PlacedToken → ℕ → ℕ
place_from [] end = end
place_from (p ∷ ps) end = p.place

-- the arguments of a method of that name were taken, and its closing parenthesis
pub record TookArguments (n : MethodName) (m : Method) (old new : List PlacedToken) : Type 0 where
  pub word : method_word m ≡ name_word n
  pub took : Took (arguments_wants n) (arguments m ++ t.Close ∷ []) old new

-- what books the name was taken, behind the name
pub record TookBooking (word : List ℕ) (f : Form) (old new : List PlacedToken) : Type 0 where
  pub free : has_free_names f ≡ true
  pub rest : List LineToken
  pub whole : form_tokens f ≡ t.Word word ∷ rest
  pub took : Took booking_wants rest old new

-- a form was taken
pub record TookForm (f : Form) (old new : List PlacedToken) : Type 0 where
  pub free : has_free_names f ≡ true
  pub took : Took (ALine ∷ []) (form_tokens f) old new
