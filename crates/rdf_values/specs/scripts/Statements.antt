-- What a line says, once its tokens are those of a form, and which of its strings isn't what it must be.
use Rattle.std.specs.Prelude.{◌≡◌, ℕ, ℤ, ◌+◌, true, false, List, [], ◌∷◌, ◌++◌, map, Option, Some, None, codes}
use Rattle.rdf_values.specs.scripts.Names.{is_name, is_label}
use Rattle.rdf_values.specs.expressions.Expressions.{NamedTree}
use Rattle.rdf_values.specs.expressions.Tokens.{Refusal}
use Rattle.rdf_values.specs.expressions.Scans.{ReadsText, RefusesText, ReadsValuesText, RefusesValuesText}
use Rattle.rdf_values.specs.scripts.LineTokens.{QuotedText}
use Rattle.rdf_values.specs.scripts.LineForms.{Form, Books, Print, VariationsFor, Watch, Method, Strings, Edges}
use Rattle.rdf_values.specs.scripts.LineForms as form
use Rattle.rdf_values.specs.declared.scripts.statement.ActionKind.{ActionKind}
use Rattle.rdf_values.specs.declared.scripts.statement.ReduceOp.{ReduceOp}
use Rattle.rdf_values.specs.declared.expressions.expr.ExprCause.{ExprCause}
use Rattle.rdf_values.specs.declared.scripts.statement.Statement.{Statement}
use Rattle.rdf_values.specs.declared.scripts.statement.VaryValues.{VaryValues}

-- ---- what a string says

abbrev pub operation_text : ReduceOp → List ℕ
operation_text ReduceOp.Min = codes "min"
operation_text ReduceOp.Max = codes "max"
operation_text ReduceOp.And = codes "and"
operation_text ReduceOp.Or = codes "or"
operation_text ReduceOp.Xor = codes "xor"
operation_text ReduceOp.WrapAdd = codes "wrapadd"

-- the string is that name
pub record IsName (t : QuotedText) (x : List ℕ) : Type 0 where
  pub content : t.content ≡ x
  pub name : is_name x ≡ true

-- the string, if there is one, is that name
pub data IsMaybeName : Option QuotedText → Option (List ℕ) → Type 0 where
  no_name : IsMaybeName None None
  a_name : {t : QuotedText} {x : List ℕ} → IsName t x → IsMaybeName (Some t) (Some x)

-- the strings are those names
pub data AreNames : List QuotedText → List (List ℕ) → Type 0 where
  no_names : AreNames [] []
  more_names : {t : QuotedText} {ts : List QuotedText} {x : List ℕ} {xs : List (List ℕ)} → IsName t x → AreNames ts xs → AreNames (t ∷ ts) (x ∷ xs)

-- the string, if there is one, is that label
pub data IsMaybeLabel : Option QuotedText → Option (List ℕ) → Type 0 where
  no_label : IsMaybeLabel None None
  a_label : {t : QuotedText} {x : List ℕ} → t.content ≡ x → is_label x ≡ true → IsMaybeLabel (Some t) (Some x)

abbrev pub all_strings : Strings → List QuotedText
all_strings ts = ts.first ∷ ts.rest

abbrev pub all_edges : Edges → List ℤ
all_edges es = es.first ∷ es.rest

-- ---- what a form says

-- the method is an action of this kind
pub data IsAction : Method → ActionKind → Type 0 where
  count : IsAction form.Count ActionKind.Count
  sum : {c : QuotedText} {x : List ℕ} → IsName c x → IsAction (form.Sum c) (ActionKind.Sum x)
  min : {c : QuotedText} {x : List ℕ} → IsName c x → IsAction (form.Min c) (ActionKind.Min x)
  max : {c : QuotedText} {x : List ℕ} → IsName c x → IsAction (form.Max c) (ActionKind.Max x)
  take : {c : QuotedText} {x : List ℕ} → IsName c x → IsAction (form.Take c) (ActionKind.Take x)
  reduce : {o c : QuotedText} {f : ReduceOp} {x : List ℕ} → o.content ≡ operation_text f → IsName c x → IsAction (form.Reduce o c) (ActionKind.Reduce f x)
  histo1d : {es : Edges} {c : QuotedText} {w : Option QuotedText} {x : List ℕ} {v : Option (List ℕ)} → IsName c x → IsMaybeName w v → IsAction (form.Histo1D es c w) (ActionKind.Histo1D (all_edges es) x v)
  histo2d : {es fs : Edges} {c d : QuotedText} {w : Option QuotedText} {x y : List ℕ} {v : Option (List ℕ)} → IsName c x → IsName d y → IsMaybeName w v
      → IsAction (form.Histo2D es fs c d w) (ActionKind.Histo2D (all_edges es) (all_edges fs) x y v)

-- the form says this; a Vary of one column that has no name is named as the column
pub data Says : Form → Statement → Type 0 where
  define : {n p : List ℕ} {c e : QuotedText} {x : List ℕ} {a : NamedTree} → IsName c x → ReadsText e.content a → Says (Books n p (form.Define c e)) (Statement.Define n p x a)
  redefine : {n p : List ℕ} {c e : QuotedText} {x : List ℕ} {a : NamedTree} → IsName c x → ReadsText e.content a → Says (Books n p (form.Redefine c e)) (Statement.Redefine n p x a)
  alias : {n p : List ℕ} {c t : QuotedText} {x y : List ℕ} → IsName c x → IsName t y → Says (Books n p (form.Alias c t)) (Statement.Alias n p x y)
  filter : {n p : List ℕ} {e : QuotedText} {l : Option QuotedText} {a : NamedTree} {b : Option (List ℕ)} → ReadsText e.content a → IsMaybeLabel l b → Says (Books n p (form.Filter e l)) (Statement.Filter n p a b)
  vary : {n p : List ℕ} {c v : QuotedText} {ts : Strings} {x : List ℕ} {vs : VaryValues} {tags : List (List ℕ)} → IsName c x → ReadsValuesText v.content vs → AreNames (all_strings ts) tags
      → Says (Books n p (form.VaryOne c v ts None)) (Statement.Vary n p (x ∷ []) vs tags x)
  vary_named : {n p : List ℕ} {c v m : QuotedText} {ts : Strings} {x y : List ℕ} {vs : VaryValues} {tags : List (List ℕ)} → IsName c x → ReadsValuesText v.content vs → AreNames (all_strings ts) tags → IsName m y
      → Says (Books n p (form.VaryOne c v ts (Some m))) (Statement.Vary n p (x ∷ []) vs tags y)
  vary_all : {n p : List ℕ} {v m : QuotedText} {cs ts : Strings} {y : List ℕ} {xs tags : List (List ℕ)} {vs : VaryValues} → AreNames (all_strings cs) xs → ReadsValuesText v.content vs → AreNames (all_strings ts) tags → IsName m y
      → Says (Books n p (form.VaryAll cs v ts m)) (Statement.Vary n p xs vs tags y)
  action : {n p : List ℕ} {m : Method} {k : ActionKind} → IsAction m k → Says (Books n p m) (Statement.Action n p k)
  report : {n p : List ℕ} → Says (Books n p form.Report) (Statement.Report n p)
  print : {r : List ℕ} → Says (Print r) (Statement.Print r)
  variations_for : {r : List ℕ} → Says (VariationsFor r) (Statement.VariationsFor r)
  watch : {r : List ℕ} → Says (Watch r) (Statement.Watch r)

-- ---- strings that aren't what they must be

-- what a string must be
pub data Wanted : Type 0 where
  AName ALabel AnOperation AnExpression SomeValues : Wanted

-- why and where a line is refused
pub data LineRefusal : Type 0 where
  Syntax : (place : ℕ) → LineRefusal
  Expression : (place : ℕ) (cause : ExprCause) → LineRefusal

abbrev pub wanted_names : List QuotedText → List (QuotedText × Wanted)
wanted_names ts = map (λ t. (t, AName)) ts

abbrev pub maybe_wanted : Option QuotedText → Wanted → List (QuotedText × Wanted)
maybe_wanted None w = []
maybe_wanted (Some t) w = (t, w) ∷ []

-- the strings of a method from left to right, and what each must be
abbrev pub method_strings : Method → List (QuotedText × Wanted)
method_strings (form.Define c e) = (c, AName) ∷ (e, AnExpression) ∷ []
method_strings (form.Redefine c e) = (c, AName) ∷ (e, AnExpression) ∷ []
method_strings (form.Alias c t) = (c, AName) ∷ (t, AName) ∷ []
method_strings (form.Filter e l) = (e, AnExpression) ∷ maybe_wanted l ALabel
method_strings (form.VaryOne c v ts n) = (c, AName) ∷ (v, SomeValues) ∷ (wanted_names (all_strings ts) ++ maybe_wanted n AName)
method_strings (form.VaryAll cs v ts n) = wanted_names (all_strings cs) ++ (v, SomeValues) ∷ (wanted_names (all_strings ts) ++ (n, AName) ∷ [])
method_strings form.Count = []
method_strings form.Report = []
method_strings (form.Sum c) = (c, AName) ∷ []
method_strings (form.Min c) = (c, AName) ∷ []
method_strings (form.Max c) = (c, AName) ∷ []
method_strings (form.Take c) = (c, AName) ∷ []
method_strings (form.Reduce o c) = (o, AnOperation) ∷ (c, AName) ∷ []
method_strings (form.Histo1D es x w) = (x, AName) ∷ maybe_wanted w AName
method_strings (form.Histo2D es fs x y w) = (x, AName) ∷ (y, AName) ∷ maybe_wanted w AName

abbrev pub form_strings : Form → List (QuotedText × Wanted)
form_strings (Books n p m) = method_strings m
form_strings (Print r) = []
form_strings (VariationsFor r) = []
form_strings (Watch r) = []

-- the string isn't what it must be; an expression's cause stands at its byte in the line
pub data IsBad : QuotedText × Wanted → LineRefusal → Type 0 where
  no_name : {t : QuotedText} → is_name t.content ≡ false → IsBad (t, AName) (Syntax t.place)
  no_label : {t : QuotedText} → is_label t.content ≡ false → IsBad (t, ALabel) (Syntax t.place)
  no_operation : {t : QuotedText} → ((o : ReduceOp) → t.content ≡ operation_text o → ⊥) → IsBad (t, AnOperation) (Syntax t.place)
  no_expression : {t : QuotedText} {r : Refusal} → RefusesText t.content r → IsBad (t, AnExpression) (Expression (t.place + 1 + r.place) r.cause)
  no_values : {t : QuotedText} {r : Refusal} → RefusesValuesText t.content r → IsBad (t, SomeValues) (Expression (t.place + 1 + r.place) r.cause)

-- the first bad string of those
pub data FirstBad : List (QuotedText × Wanted) → LineRefusal → Type 0 where
  here : {s : QuotedText × Wanted} {ss : List (QuotedText × Wanted)} {r : LineRefusal} → IsBad s r → FirstBad (s ∷ ss) r
  later : {s : QuotedText × Wanted} {ss : List (QuotedText × Wanted)} {r : LineRefusal} → ((q : LineRefusal) → IsBad s q → ⊥) → FirstBad ss r → FirstBad (s ∷ ss) r
