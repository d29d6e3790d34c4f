-- Steps of the walk over tokens.
use Rattle.rdf_values.proofs.OneScript.{good_name}
use Rattle.lemmas.proofs.{arith, ◌≡◌, ◌∙◌, ℕ, ℤ, List, [], ◌∷◌, ◌++◌, Option, Some, None, Bool, true, false, refl, sym, ap, subst, if◌then◌else◌, append_assoc, codes, not, ◌||◌, ◌≤◌, length, ◌<◌, ◌+◌, map, get_or, drop, pos, option_map, take, Ok, slice_get, ◌==◌, both_true}
use Rattle.rdf_values.specs.{bare_tokens, is_free, LineToken, PlacedToken, maybe_string, more_edges, more_strings, QuotedText, arguments, edges_tokens, Form, form_tokens, has_free_names, Method, method_word, same, Strings, strings_tokens, at_end, at_scan, at_token, continued, ending, OpenMark, Placed as ExprPlaced, Refusal, Refused, scan, scan_step, ScanState, Token as ExprToken, all_strings, AreNames, IsName, ReadsValuesText, Says, Statement, VaryValues, FirstBad, more_names, no_names, wanted_names, BeginsLine, IsForm, line_tokens, RefusesLine, StopsAt}
use Rattle.script_read.specs.{ALine, AMark, AMethod, ANumber, AString, AWord, Begins, BeginsNot, is_mark, IsStuck, FormMark, mark_token, MaybeString, MoreEdges, MoreStrings, next, one_string_wants, Quoted, strings_wants, FormToken, token_of, Took, variation_wants, VaryArguments, walk, walk_on, walk_placed, Want, ActionName, arguments_wants, asked_form, asking_wants, booking_wants, edges_wants, method_wants, MethodName, name_of, name_word, TookArguments, TookBooking, TookForm, all_names, IsNamed, LineStop, named, quoted_of, RefusedFor, StandsWithin, Done, WalkEnd, place_from, placed_of, StuckAt}
use Rattle.script_read.specs.declared.form.Word.{Word}
use Rattle.std.proofs.Math.Seq.{take-append_seam, take-append-add}
use Rattle.std.proofs.lemmas.List.{append-nil, drop_more, drop_all, length-map, map-append}
use Rattle.std.proofs.lemmas.Slice.Eq.{bytes_eq-Decides}
use Rattle.rdf_values.specs.scripts.LineForms.{Edges, call}
use Rattle.rdf_values.specs.expressions.Scans.{Wanted, Refuses}
use Rattle.expr_read.specs.{ExprRefusal, RefusesTextAs}
use Rattle.expr_read.proofs.TokenSteps.{StandBelow, no_tokens, more_tokens, all_fine}
use Rattle.script_read.proofs.FirstBads.{refused_later}
use Rattle.script_read.specs.declared.form.TokenAt.{TokenAt}
use Rattle.rdf_values.specs.scripts.LineTokens as t
use Rattle.rdf_values.specs.scripts.LineForms as form
use Rattle.rdf_values.specs.scripts.Statements as st
use Rattle.rdf_values.specs.scripts.Scripts as script

-- a token that can stand there is passed over
pub walk_over : {t : LineToken} {old new : List PlacedToken} → (w : Want) (ws k : List Want) → Begins t old new → next w t ≡ Some ws → walk_placed old (w ∷ k) ≡ walk_placed new (ws ++ k)
unfolding walk_placed
walk_over w ws k b e = rw (b.is, e) refl

pub took_one : {t : LineToken} {old new : List PlacedToken} → (w : Want) → Begins t old new → next w t ≡ Some [] → Took (w ∷ []) (t ∷ []) old new
took_one w b e = record { split = ap bare_tokens b.is; walks = λ k. walk_over w [] k b e }

-- the walk is stuck before what can't stand there
pub stuck_none : (w : Want) (old : List PlacedToken) → ((t : LineToken) (new : List PlacedToken) → Begins t old new → next w t ≡ None) → IsStuck (w ∷ []) old old
unfolding walk_placed
stuck_none w [] h k = refl
stuck_none w (p ∷ ps) h k = let e = h p.token ps (record { place = p.place; is = refl }) in rw e refl

pub stuck_empty : (w : Want) (old : List PlacedToken) → old ≡ [] → IsStuck (w ∷ []) old old
unfolding walk_placed
stuck_empty w old e k = rw e refl

pub stuck_token : {t : LineToken} {new : List PlacedToken} → (w : Want) (old : List PlacedToken) → Begins t old new → next w t ≡ None → IsStuck (w ∷ []) old old
unfolding walk_placed
stuck_token w old b e k = rw (b.is, e) refl

-- ---- marks

mark_next : (m : FormMark) → next (AMark m) (mark_token m) ≡ Some []
mark_next m = grind arith

no_mark_next : (m : FormMark) (t : LineToken) → (t ≡ mark_token m → ⊥) → next (AMark m) t ≡ None
no_mark_next m t isnt = grind arith

-- the first token isn't this one
pub first_is_not : (t u : LineToken) (old new : List PlacedToken) → BeginsNot t old → Begins u old new → u ≡ t → ⊥
first_is_not t u old new isnt b e = isnt new (record { place = b.place; is = b.is ∙ ap (λ (k : LineToken). record { token = k; place = b.place } ∷ new) e })

pub took_mark : {old new : List PlacedToken} → (m : FormMark) → Begins (mark_token m) old new → Took (AMark m ∷ []) (mark_token m ∷ []) old new
took_mark m b = took_one (AMark m) b (mark_next m)

pub stuck_mark : {old new : List PlacedToken} → (m : FormMark) → new ≡ old → BeginsNot (mark_token m) old → IsStuck (AMark m ∷ []) old new
stuck_mark {old} {new} m e isnt =
    subst (λ (x : List PlacedToken). IsStuck (AMark m ∷ []) old x) (sym e)
    (stuck_none (AMark m) old (λ t rest b. no_mark_next m t (first_is_not (mark_token m) t old rest isnt b)))

-- what begins with the token that was seen
begins_as : {s u : LineToken} {old seen new : List PlacedToken} → s ≡ u → Begins s old seen → new ≡ seen → Begins u old new
begins_as {s} {u} {old} {seen} {new} e b same = record { place = b.place; is = b.is ∙ (λ i. record { token = e i; place = b.place } ∷ sym same i) }

-- the token that was seen is passed over
pub took_seen : {s t : LineToken} {old seen new : List PlacedToken} → (w : Want) → s ≡ t → Begins s old seen → new ≡ seen → next w t ≡ Some [] → Took (w ∷ []) (t ∷ []) old new
took_seen w e b same n = took_one w (begins_as e b same) n

abbrev first_token : List PlacedToken → Option LineToken
first_token [] = None
first_token (p ∷ ps) = Some p.token

-- the first token is one
pub same_first : {t u : LineToken} {old new seen : List PlacedToken} → Begins t old new → Begins u old seen → t ≡ u
same_first b c = let e = ap first_token (sym b.is ∙ c.is) in cc e

-- ---- tokens that can't stand there

pub no_string : (t : FormToken) → ((q : Quoted) → t ≡ FormToken.Quoted q → ⊥) → next AString (token_of t) ≡ None
no_string t isnt = grind arith

pub no_number : (t : FormToken) → ((z : ℤ) → t ≡ FormToken.Number z → ⊥) → next ANumber (token_of t) ≡ None
no_number t isnt = grind arith

-- no word stands there
pub no_word : (t : FormToken) → ((x : Word) → t ≡ FormToken.Word x → ⊥) → (next AWord (token_of t) ≡ None) × (next AMethod (token_of t) ≡ None) × (next ALine (token_of t) ≡ None)
no_word t isnt = grind arith

pub is_name_next : (x : List ℕ) → is_free x ≡ true → next AWord (t.Word x) ≡ Some []
is_name_next x f = rw f refl

-- a name that is one of the words that begin other lines
pub not_free : (t : FormToken) (x : Word) → t ≡ FormToken.Word x → false ≡ is_free x.bytes.now → next AWord (token_of t) ≡ None
not_free t x e f = rw (e, sym f) refl

-- ---- what is wanted like a mark

instead_on : (b : Bool) (p : PlacedToken) (ps : List PlacedToken) (ws k : List Want)
    → walk_on (p ∷ ps) (if b then Some ws else None) (λ vs. walk (λ (q : PlacedToken). q.token) ps (vs ++ k)) ≡ walk_on (p ∷ ps) (if b then Some [] else None) (λ vs. walk (λ (q : PlacedToken). q.token) ps (vs ++ (ws ++ k)))
instead_on b p ps ws k = grind arith

instead : (w : Want) (m : FormMark) (ws : List Want) (old : List PlacedToken) (k : List Want) → ((t : LineToken) (new : List PlacedToken) → Begins t old new → next w t ≡ (if is_mark m t then Some ws else None))
    → walk_placed old (w ∷ k) ≡ walk_placed old (AMark m ∷ (ws ++ k))
unfolding walk_placed
instead w m ws [] k h = refl
instead w m ws (p ∷ ps) k h =
    let e = h p.token ps (record { place = p.place; is = refl }) in
    rw e (instead_on (is_mark m p.token) p ps ws k)

close_next : (u : LineToken) → (u ≡ t.Comma → ⊥) → next MaybeString u ≡ (if is_mark FormMark.Close u then Some [] else None)
close_next u isnt = grind arith

-- what is wanted for an item of a list, and behind it
pub data IsList : Want → Want → Type 0 where
  a_string : IsList AString MoreStrings
  an_edge : IsList ANumber MoreEdges

pub next_item : {item more : Want} → IsList item more → next more t.Comma ≡ Some (item ∷ more ∷ [])
next_item a_string = refl
next_item an_edge = refl

list_next : {item more : Want} (u : LineToken) → IsList item more → (u ≡ t.Comma → ⊥) → next more u ≡ (if is_mark FormMark.CloseBracket u then Some [] else None)
list_next u a_string isnt = grind arith
list_next u an_edge isnt = grind arith

vary_next : (t : FormToken) → ((q : Quoted) → t ≡ FormToken.Quoted q → ⊥)
    → next VaryArguments (token_of t) ≡ (if is_mark FormMark.OpenBracket (token_of t) then Some (AString ∷ MoreStrings ∷ (variation_wants ++ AMark FormMark.Comma ∷ one_string_wants)) else None)
vary_next t isnt = grind arith

-- without a comma the call ends
pub close_wanted : (old : List PlacedToken) (k : List Want) → BeginsNot t.Comma old → walk_placed old (MaybeString ∷ k) ≡ walk_placed old (AMark FormMark.Close ∷ k)
close_wanted old k isnt = instead MaybeString FormMark.Close [] old k (λ u new b. close_next u (first_is_not t.Comma u old new isnt b))

-- without a comma the list ends
pub list_end : {item more : Want} (old : List PlacedToken) (k : List Want) → IsList item more → BeginsNot t.Comma old → walk_placed old (more ∷ k) ≡ walk_placed old (AMark FormMark.CloseBracket ∷ k)
list_end {more = more} old k l isnt = instead more FormMark.CloseBracket [] old k (λ u new b. list_next u l (first_is_not t.Comma u old new isnt b))

-- a variation begins with a list of columns unless with a string
pub columns_wanted : {s : FormToken} {seen : List PlacedToken} → (old : List PlacedToken) (k : List Want) → Begins (token_of s) old seen → ((q : Quoted) → s ≡ FormToken.Quoted q → ⊥)
    → walk_placed old (VaryArguments ∷ k) ≡ walk_placed old (strings_wants ++ ((variation_wants ++ AMark FormMark.Comma ∷ one_string_wants) ++ k))
columns_wanted {s} {seen} old k b isnt =
    instead VaryArguments FormMark.OpenBracket (AString ∷ MoreStrings ∷ (variation_wants ++ AMark FormMark.Comma ∷ one_string_wants)) old k (λ u new c. let e = same_first b c in rw (sym e) (vary_next s isnt))

-- ---- what was taken, from what its parts took: arguments, methods and lines: a further string, or none

pub took_some : {q : QuotedText} {old mid new : List PlacedToken} → Begins t.Comma old mid → Took one_string_wants (t.Quoted q ∷ t.Close ∷ []) mid new → Took (MaybeString ∷ []) (maybe_string (Some q) ++ t.Close ∷ []) old new
took_some b k = record { split = ap bare_tokens b.is ∙ ap (λ ts. t.Comma ∷ ts) k.split; walks = λ ws. walk_over MaybeString one_string_wants ws b refl ∙ k.walks ws }

pub took_none : {old mid new : List PlacedToken} → mid ≡ old → BeginsNot t.Comma old → Took (AMark FormMark.Close ∷ []) (t.Close ∷ []) mid new → Took (MaybeString ∷ []) (t.Close ∷ []) old new
took_none e isnt k = grind (arith, close_wanted)

pub none_wanted : (old mid : List PlacedToken) (k : List Want) → mid ≡ old → BeginsNot t.Comma old → walk_placed old (MaybeString ∷ k) ≡ walk_placed mid (AMark FormMark.Close ∷ k)
none_wanted old mid k e isnt = close_wanted old k isnt ∙ ap (λ ts. walk_placed ts (AMark FormMark.Close ∷ k)) (sym e)

-- ---- lists

-- how the items of a list are wanted and written
pub record ListKind (A : Type 0) : Type 0 where
  pub item : Want
  pub more : Want
  pub listed : IsList item more
  pub token : A → LineToken
  pub tokens : List A → List LineToken
  pub ends : tokens [] ≡ t.CloseBracket ∷ []
  pub goes_on : (x : A) (xs : List A) → tokens (x ∷ xs) ≡ t.Comma ∷ token x ∷ tokens xs

abbrev pub strings : ListKind QuotedText
strings = record { item = AString; more = MoreStrings; listed = a_string; token = λ q. t.Quoted q; tokens = more_strings; ends = refl; goes_on = λ x xs. refl }

abbrev pub edges : ListKind ℤ
edges = record { item = ANumber; more = MoreEdges; listed = an_edge; token = λ z. t.Number z; tokens = more_edges; ends = refl; goes_on = λ x xs. refl }

-- items of a list were taken, up to a comma or its end
pub record TookItems {A : Type 0} (l : ListKind A) (first : A) (rest : List A) (old new : List PlacedToken) : Type 0 where
  pub split : (us : List A) (ts : List LineToken) → bare_tokens new ≡ l.tokens us ++ ts → bare_tokens old ≡ t.OpenBracket ∷ l.token first ∷ (l.tokens (rest ++ us) ++ ts)
  pub walks : (k : List Want) → walk_placed old (AMark FormMark.OpenBracket ∷ l.item ∷ l.more ∷ k) ≡ walk_placed new (l.more ∷ k)

pub items_go : {A : Type 0} {l : ListKind A} {first : A} {rest : List A} {old m1 : List PlacedToken} (m2 : List PlacedToken) (k : List Want) → TookItems l first rest old m1 → Begins t.Comma m1 m2
    → walk_placed old (AMark FormMark.OpenBracket ∷ l.item ∷ l.more ∷ k) ≡ walk_placed m2 (l.item ∷ l.more ∷ k)
items_go {l = l} m2 k i b = i.walks k ∙ walk_over l.more (l.item ∷ l.more ∷ []) k b (next_item l.listed)

pub items_close : {A : Type 0} {l : ListKind A} {first : A} {rest : List A} {old m1 : List PlacedToken} (m2 : List PlacedToken) (k : List Want) → TookItems l first rest old m1 → m2 ≡ m1 → BeginsNot t.Comma m1
    → walk_placed old (AMark FormMark.OpenBracket ∷ l.item ∷ l.more ∷ k) ≡ walk_placed m2 (AMark FormMark.CloseBracket ∷ k)
items_close {l = l} {m1 = m1} m2 k i e isnt = i.walks k ∙ list_end m1 k l.listed isnt ∙ ap (λ (ts : List PlacedToken). walk_placed ts (AMark FormMark.CloseBracket ∷ k)) (sym e)

pub items_more : {A : Type 0} {l : ListKind A} {first x : A} {rest more : List A} {old m1 m2 new : List PlacedToken}
    → TookItems l first rest old m1 → Begins t.Comma m1 m2 → Took (l.item ∷ []) (l.token x ∷ []) m2 new → more ≡ rest ++ x ∷ [] → TookItems l first more old new
items_more {l = l} {first} {x} {rest} {more} {old} {m1} {m2} {new} i b k e = record {
  split = λ us ts h.
      i.split (x ∷ us) ts (rw l.goes_on (ap bare_tokens b.is ∙ ap (λ (s : List LineToken). t.Comma ∷ s) (k.split ∙ ap (λ (s : List LineToken). l.token x ∷ s) h)))
      ∙ ap (λ us. t.OpenBracket ∷ l.token first ∷ (l.tokens us ++ ts)) (sym (append_assoc rest (x ∷ []) us) ∙ ap (λ xs. xs ++ us) (sym e));
  walks = λ ws. items_go m2 ws i b ∙ k.walks (l.more ∷ ws);
}

pub items_done : {A : Type 0} {l : ListKind A} {first : A} {rest : List A} {old m1 m2 new : List PlacedToken}
    → TookItems l first rest old m1 → m2 ≡ m1 → BeginsNot t.Comma m1 → Took (AMark FormMark.CloseBracket ∷ []) (t.CloseBracket ∷ []) m2 new
    → Took (AMark FormMark.OpenBracket ∷ l.item ∷ l.more ∷ []) (t.OpenBracket ∷ l.token first ∷ l.tokens rest) old new
items_done {l = l} {first} {rest} {old} {m1} {m2} {new} i e isnt k = record {
  split = i.split [] (bare_tokens new) (rw l.ends (sym (ap bare_tokens e) ∙ k.split)) ∙ ap (λ us. t.OpenBracket ∷ l.token first ∷ (l.tokens us ++ bare_tokens new)) (append-nil rest);
  walks = λ ws. items_close m2 ws i e isnt ∙ k.walks ws;
}

-- ---- Arguments, methods and lines that were taken, from what their parts took.

-- one after the other
pub took_then : {ws vs : List Want} {a b : List LineToken} {old mid new : List PlacedToken} → Took ws a old mid → Took vs b mid new → Took (ws ++ vs) (a ++ b) old new
took_then {ws} {vs} {a} {b} {old} {mid} {new} x y = record {
  split = x.split ∙ ap (λ (ts : List LineToken). a ++ ts) y.split ∙ sym (append_assoc a b (bare_tokens new));
  walks = λ k. ap (λ (us : List Want). walk_placed old us) (append_assoc ws vs k) ∙ x.walks (vs ++ k) ∙ y.walks k;
}

pub took_as : {ws : List Want} {a b : List LineToken} {old new : List PlacedToken} → a ≡ b → Took ws a old new → Took ws b old new
took_as {ws} {a} {b} {old} {new} e k = subst (λ (ts : List LineToken). Took ws ts old new) e k

pub walk_seen : {s u : LineToken} {old seen new : List PlacedToken} → (w : Want) (ws k : List Want) → s ≡ u → Begins s old seen → new ≡ seen → next w u ≡ Some ws → walk_placed old (w ∷ k) ≡ walk_placed new (ws ++ k)
walk_seen w ws k e b same n = walk_over w ws k (begins_as e b same) n

-- the token that was seen, and what is wanted behind it
pub took_first : {s u : LineToken} {ws : List Want} {a : List LineToken} {old seen mid new : List PlacedToken} → (w : Want) → s ≡ u → Begins s old seen → mid ≡ seen → next w u ≡ Some ws → Took ws a mid new → Took (w ∷ []) (u ∷ a) old new
took_first {s} {u} {ws} {a} {old} {seen} {mid} {new} w e b same n k =
    let begins : Begins u old mid = begins_as e b same in
    record {
      split = ap bare_tokens begins.is ∙ ap (λ (ts : List LineToken). u ∷ ts) k.split;
      walks = λ us. walk_over w ws us begins n ∙ k.walks us;
    }

-- ---- arguments

pub took_vary_one : {s : LineToken} {old seen mid m new : List PlacedToken} (c v : QuotedText) (ts : Strings) (n : Option QuotedText) → s ≡ t.Quoted c → Begins s old seen → mid ≡ seen
    → Took variation_wants (t.Comma ∷ t.Quoted v ∷ t.Comma ∷ strings_tokens ts) mid m → Took (MaybeString ∷ []) (maybe_string n ++ t.Close ∷ []) m new → TookArguments MethodName.Vary (form.VaryOne c v ts n) old new
took_vary_one c v ts n e b same x y = record {
  word = refl;
  took = took_as (ap (λ (us : List LineToken). t.Quoted c ∷ t.Comma ∷ t.Quoted v ∷ t.Comma ∷ us) (sym (append_assoc (strings_tokens ts) (maybe_string n) (t.Close ∷ [])))) (took_first VaryArguments e b same refl (took_then x y));
}

pub took_vary_all : {s : FormToken} {old seen m1 m2 m3 new : List PlacedToken} (cs : Strings) (v : QuotedText) (ts : Strings) (n : QuotedText) → Begins (token_of s) old seen → ((q : Quoted) → s ≡ FormToken.Quoted q → ⊥)
    → Took strings_wants (strings_tokens cs) old m1 → Took variation_wants (t.Comma ∷ t.Quoted v ∷ t.Comma ∷ strings_tokens ts) m1 m2 → Took (AMark FormMark.Comma ∷ []) (t.Comma ∷ []) m2 m3 → Took one_string_wants (t.Quoted n ∷ t.Close ∷ []) m3 new
    → TookArguments MethodName.Vary (form.VaryAll cs v ts n) old new
took_vary_all {s} {old} {seen} {m1} {m2} {m3} {new} cs v ts n b isnt x y z w =
    let parts : Took (strings_wants ++ (variation_wants ++ (AMark FormMark.Comma ∷ one_string_wants))) (arguments (form.VaryAll cs v ts n) ++ t.Close ∷ []) old new = took_as (simp append_assoc refl) (took_then x (took_then y (took_then z w))) in
    record { word = refl; took = record { split = parts.split; walks = λ k. columns_wanted old k b isnt ∙ parts.walks k } }

pub took_histo2d : {old m1 m2 m3 m4 m5 m6 m7 new : List PlacedToken} (xs ys : Edges) (x y : QuotedText) (w : Option QuotedText)
    → Took edges_wants (edges_tokens xs) old m1 → Took (AMark FormMark.Comma ∷ []) (t.Comma ∷ []) m1 m2 → Took edges_wants (edges_tokens ys) m2 m3 → Took (AMark FormMark.Comma ∷ []) (t.Comma ∷ []) m3 m4
    → Took (AString ∷ []) (t.Quoted x ∷ []) m4 m5 → Took (AMark FormMark.Comma ∷ []) (t.Comma ∷ []) m5 m6 → Took (AString ∷ []) (t.Quoted y ∷ []) m6 m7 → Took (MaybeString ∷ []) (maybe_string w ++ t.Close ∷ []) m7 new
    → TookArguments (MethodName.Action ActionName.Histo2D) (form.Histo2D xs ys x y w) old new
took_histo2d xs ys x y w a b c d e f g h = record {
  word = refl;
  took = took_as (simp append_assoc refl) (took_then a (took_then b (took_then c (took_then d (took_then e (took_then f (took_then g h)))))));
}

-- ---- methods

pub name_word_is : (n : MethodName) → name_of (name_word n) ≡ Some n
unfolding name_of
name_word_is n = grind arith

pub method_next : (n : MethodName) → next AMethod (t.Word (name_word n)) ≡ Some (method_wants n)
method_next n = rw (name_word_is n) refl

pub method_wanted : {old seen : List PlacedToken} (new : List PlacedToken) (n : MethodName) (k : List Want) → Begins (t.Word (name_word n)) old seen → new ≡ seen → walk_placed old (AMethod ∷ k) ≡ walk_placed new (AMark FormMark.Open ∷ (arguments_wants n ++ k))
method_wanted new n k b same = walk_seen AMethod (method_wants n) k refl b same (method_next n)

pub took_method : {old seen m1 m2 new : List PlacedToken} (n : MethodName) (m : Method) → Begins (t.Word (name_word n)) old seen → m1 ≡ seen → Took (AMark FormMark.Open ∷ []) (t.Open ∷ []) m1 m2 → TookArguments n m m2 new
    → Took (AMethod ∷ []) (call (method_word m) (arguments m)) old new
took_method n m b same x y =
    took_as (ap (λ (w : List ℕ). t.Word w ∷ t.Open ∷ (arguments m ++ t.Close ∷ [])) (sym y.word)) (took_first AMethod refl b same (method_next n) (took_then x y.took))

-- ---- lines

pub took_booking : {old m1 m2 m3 new : List PlacedToken} (n p : List ℕ) (m : Method) → is_free n ≡ true → is_free p ≡ true
    → Took (AMark FormMark.Equals ∷ []) (t.Equals ∷ []) old m1 → Took (AWord ∷ []) (t.Word p ∷ []) m1 m2 → Took (AMark FormMark.Dot ∷ []) (t.Dot ∷ []) m2 m3 → Took (AMethod ∷ []) (call (method_word m) (arguments m)) m3 new
    → TookBooking n (form.Books n p m) old new
took_booking n p m f g a b c d = record { free = rw (f, g) refl; rest = t.Equals ∷ t.Word p ∷ t.Dot ∷ call (method_word m) (arguments m); whole = refl; took = took_then a (took_then b (took_then c d)) }

pub line_next : (x : List ℕ) (b : Bool) → is_free x ≡ b → next ALine (t.Word x) ≡ Some (if b then booking_wants else asking_wants)
line_next x b f = ap (λ (c : Bool). Some (if c then booking_wants else asking_wants)) f

pub took_line : {s : LineToken} {old seen mid new : List PlacedToken} (x : List ℕ) (f : Form) → s ≡ t.Word x → Begins s old seen → mid ≡ seen → is_free x ≡ true → TookBooking x f mid new → TookForm f old new
took_line x f e b same free k = record { free = k.free; took = took_as (sym k.whole) (took_first ALine e b same (line_next x true free) k.took) }

asked_case : (x r : List ℕ) (a b c : Bool) → (a ≡ true → x ≡ codes "Print") → (b ≡ true → x ≡ codes "VariationsFor") → (c ≡ true → x ≡ codes "Watch") → not (a || b || c) ≡ false
    → form_tokens (if a then form.Print r else (if b then form.VariationsFor r else form.Watch r)) ≡ call x (t.Word r ∷ [])
asked_case x r a b c p q w h = grind arith

pub asked_tokens : (x r : List ℕ) → is_free x ≡ false → form_tokens (asked_form x r) ≡ call x (t.Word r ∷ [])
asked_tokens x r h = grind (arith, asked_case, bytes_eq-Decides)

pub asked_free : (a b : Bool) (r : List ℕ) → has_free_names (if a then form.Print r else (if b then form.VariationsFor r else form.Watch r)) ≡ is_free r
asked_free a b r = grind arith

pub took_asking : {s : LineToken} {old seen mid new : List PlacedToken} (x r : List ℕ) (f : Form) → s ≡ t.Word x → Begins s old seen → mid ≡ seen → is_free x ≡ false → is_free r ≡ true
    → Took asking_wants (t.Open ∷ t.Word r ∷ t.Close ∷ []) mid new → f ≡ asked_form x r → TookForm f old new
took_asking {s} {old} {seen} {mid} {new} x r f e b at asks free k g =
    let asked : TookForm (asked_form x r) old new = record {
      free = asked_free (same x (codes "Print")) (same x (codes "VariationsFor")) r ∙ free;
      took = took_as (sym (asked_tokens x r asks)) (took_first ALine e b at (line_next x false asks) k);
    } in
    subst (λ (h : Form). TookForm h old new) (sym g) asked

pub line_wanted : {s : LineToken} {old seen : List PlacedToken} (new : List PlacedToken) (x : List ℕ) (b : Bool) (k : List Want) → s ≡ t.Word x → Begins s old seen → new ≡ seen → is_free x ≡ b
    → walk_placed old (ALine ∷ k) ≡ walk_placed new ((if b then booking_wants else asking_wants) ++ k)
line_wanted new x b k e begins at free = walk_seen ALine (if b then booking_wants else asking_wants) k e begins at (line_next x b free)

-- ---- what stands where something is wanted: names, methods, expressions and what a Vary says

not_refused_at_end : (w : Wanted) (stack : List OpenMark) (p : ℕ) → ending (w, stack) ≡ Refused p → ⊥
not_refused_at_end w stack p e = grind arith

goes_below : (o : Option ScanState) (t : ExprPlaced) (ts : List ExprPlaced) (p end : ℕ) → t.place ≤ end → ((s : ScanState) → scan s ts ≡ Refused p → p ≤ end)
    → continued o t.place (λ s. scan s ts) ≡ Refused p → p ≤ end
goes_below o t ts p end h k e = grind arith

scan_below : (ts : List ExprPlaced) (s : ScanState) (p end : ℕ) → StandBelow end ts → scan s ts ≡ Refused p → p ≤ end
scan_below [] s p end no_tokens e = absurd (not_refused_at_end s.0 s.1 p e)
scan_below (t ∷ ts) s p end (more_tokens h k) e = goes_below (scan_step s t.token) t ts p end h (λ z f. scan_below ts z p end k f) e

refused_below : {T : Type 0} (reads : List ExprToken → T → Type 0) (begin : ScanState) (text : List ℕ) (r : Refusal) → Refuses reads begin text r → r.place ≤ length text
refused_below reads begin text r (at_token e) = rw e at (all_fine text)
refused_below reads begin text r (at_scan {ts = ts} {p = p} e f) = let fine = rw e at (all_fine text) in scan_below ts begin p (length text) fine.2 f
refused_below reads begin text r (at_end e f g) = omega arith

pub stands_within : {T : Type 0} (reads : List ExprToken → T → Type 0) (begin : ScanState) (text : List ℕ) (e : ExprRefusal) → RefusesTextAs reads begin text e → StandsWithin (length text) e
stands_within reads begin text e h = grind (arith, refused_below)

-- What a Vary of one column says
pub says_vary : (n p : List ℕ) (c v : QuotedText) (ts : Strings) (m : Option QuotedText) (x : List ℕ) (vs : VaryValues) (tags : List (List ℕ)) (y : List ℕ)
    → IsName c x → ReadsValuesText v.content vs → AreNames (all_strings ts) tags → IsNamed x m y → Says (form.Books n p (form.VaryOne c v ts m)) (Statement.Vary n p (x ∷ []) vs tags y)
says_vary n p c v ts None x vs tags y a b d e = rw e (st.vary a b d)
says_vary n p c v ts (Some m) x vs tags y a b d e = st.vary_named a b d e

-- ---- Which method a word names.

named_first : {A : Type 0} (word_of : A → List ℕ) (word : List ℕ) (y : A) (ys : List A) (x : A) (b : Bool) → same word (word_of y) ≡ b → (named word_of word ys ≡ Some x → word ≡ word_of x) → named word_of word (y ∷ ys) ≡ Some x → word ≡ word_of x
named_first word_of word y ys x b s later e = grind (arith, bytes_eq-Decides)

-- what is named has the word
pub named_is : {A : Type 0} (word_of : A → List ℕ) (word : List ℕ) (xs : List A) (x : A) → named word_of word xs ≡ Some x → word ≡ word_of x
named_is word_of word [] x e = cc e
named_is word_of word (y ∷ ys) x e = named_first word_of word y ys x (same word (word_of y)) refl (named_is word_of word ys x) e

pub name_is : (word : List ℕ) (n : MethodName) → name_of word ≡ Some n → word ≡ name_word n
unfolding name_of
name_is word n e = named_is name_word word all_names n e

pub no_method_named : (u : LineToken) (word : List ℕ) → u ≡ t.Word word → ((n : MethodName) → word ≡ name_word n → ⊥) → next AMethod u ≡ None
no_method_named u word e isnt = rw (e, at (name_of word) refl) refl
  where
    at : (o : Option MethodName) → name_of word ≡ o → name_of word ≡ None
    at None h = h
    at (Some n) h = absurd (isnt n (name_is word n h))

pub method_seen : {u : LineToken} {old seen : List PlacedToken} → (word : List ℕ) (n : MethodName) → u ≡ t.Word word → word ≡ name_word n → Begins u old seen → Begins (t.Word (name_word n)) old seen
method_seen {u} {old} {seen} word n e h b = subst (λ (v : LineToken). Begins v old seen) (e ∙ ap t.Word h) b

-- ---- Names read one after another.

-- these names were read: what the strings left are completes them, and what refuses the strings left refuses all
pub record Naming (strings left : List QuotedText) (names : List (List ℕ)) : Type 0 where
  pub completes : (xs : List (List ℕ)) → AreNames left xs → AreNames strings (names ++ xs)
  pub refuses : (e : LineStop) → RefusedFor (FirstBad (wanted_names left)) e → RefusedFor (FirstBad (wanted_names strings)) e

pub begun : (strings : List QuotedText) → Naming strings strings []
begun strings = record { completes = λ xs h. h; refuses = λ e h. h }

pub one_more : {strings left : List QuotedText} {names : List (List ℕ)} (t : QuotedText) (x : List ℕ) → Naming strings (t ∷ left) names → IsName t x → Naming strings left (names ++ x ∷ [])
one_more {strings} {left} t x n is = record {
  completes = λ xs h. rw append_assoc (n.completes (x ∷ xs) (more_names is h));
  refuses = λ e h. n.refuses e (refused_later _ (wanted_names left) e (good_name t x is) h);
}

-- the strings left begin with the one at the place
pub at_place : {strings : List QuotedText} {names : List (List ℕ)} (qs : List Quoted) (i : ℕ) (q : Quoted) → i < length qs → q ≡ get_or qs i q
    → Naming strings (map quoted_of (drop i qs)) names → Naming strings (quoted_of q ∷ map quoted_of (drop (i + 1) qs)) names
at_place qs i q h e n = grind (arith, drop_more)

pub all_read : {strings : List QuotedText} {names : List (List ℕ)} (qs : List Quoted) (i : ℕ) → length qs ≤ i → Naming strings (map quoted_of (drop i qs)) names → AreNames strings names
all_read {strings} {names} qs i h n =
    subst (AreNames strings) (append-nil names) (n.completes [] (rw (drop_all i qs h) no_names))

-- ---- What stands where something is wanted.

-- what can stand where that is wanted
abbrev pub Item : Want → Type 0
Item ALine = (f : Form) × (has_free_names f ≡ true)
Item AWord = (x : List ℕ) × (is_free x ≡ true)
Item AMethod = Method
Item AString = QuotedText
Item ANumber = ℤ
Item MoreStrings = List QuotedText
Item MoreEdges = List ℤ
Item MaybeString = Option QuotedText
Item VaryArguments = (m : Method) × (method_word m ≡ codes "Vary")
Item (AMark m) = Unit {0}

abbrev pub item_tokens : (w : Want) → Item w → List LineToken
item_tokens ALine f = form_tokens f.0
item_tokens AWord x = t.Word x.0 ∷ []
item_tokens AMethod m = call (method_word m) (arguments m)
item_tokens AString q = t.Quoted q ∷ []
item_tokens ANumber z = t.Number z ∷ []
item_tokens MoreStrings qs = more_strings qs
item_tokens MoreEdges zs = more_edges zs
item_tokens MaybeString q = maybe_string q ++ t.Close ∷ []
item_tokens VaryArguments m = arguments m.0 ++ t.Close ∷ []
item_tokens (AMark m) x = mark_token m ∷ []

abbrev pub Items : List Want → Type 0
Items [] = Unit {0}
Items (w ∷ ws) = Item w × Items ws

abbrev pub items_tokens : (ws : List Want) → Items ws → List LineToken
items_tokens [] xs = []
items_tokens (w ∷ ws) xs = item_tokens w xs.0 ++ items_tokens ws xs.1

-- ---- something can stand there

some_text : QuotedText
some_text = record { place = 0; content = [] }

pub some_item : (w : Want) → Item w
some_item ALine = (form.Print [], refl)
some_item AWord = ([], refl)
some_item AMethod = form.Count
some_item AString = some_text
some_item ANumber = pos 0
some_item MoreStrings = []
some_item MoreEdges = []
some_item MaybeString = None
some_item VaryArguments = (form.VaryOne some_text some_text (record { first = some_text; rest = [] }) None, refl)
some_item (AMark m) = tt

pub some_items : (ws : List Want) → Items ws
some_items [] = tt
some_items (w ∷ ws) = (some_item w, some_items ws)

-- items in two parts
record InTwo (vs ws : List Want) (xs : Items (vs ++ ws)) : Type 0 where
  first : Items vs
  last : Items ws
  tokens : items_tokens (vs ++ ws) xs ≡ items_tokens vs first ++ items_tokens ws last

in_two : (vs ws : List Want) (xs : Items (vs ++ ws)) → InTwo vs ws xs
in_two [] ws xs = record { first = tt; last = xs; tokens = refl }
in_two (v ∷ vs) ws xs =
    let rest = in_two vs ws xs.1 in
    record { first = (xs.0, rest.first); last = rest.last; tokens = ap (λ (ts : List LineToken). item_tokens v xs.0 ++ ts) rest.tokens ∙ sym (append_assoc (item_tokens v xs.0) (items_tokens vs rest.first) (items_tokens ws rest.last)) }

-- ---- a token, and what is wanted behind it, are what was wanted

-- an item of that begins with the token and goes on with those
pub record BeginsItem (w : Want) (u : LineToken) (ts : List LineToken) : Type 0 where
  pub item : Item w
  pub tokens : item_tokens w item ≡ u ∷ ts

abbrev pub Follows : Want → LineToken → Option (List Want) → Type 0
Follows w u None = Unit {0}
Follows w u (Some vs) = (xs : Items vs) → BeginsItem w u (items_tokens vs xs)

-- a method of that name whose arguments are those tokens
record ArgumentsItem (n : MethodName) (ts : List LineToken) : Type 0 where
  method : Method
  word : method_word method ≡ name_word n
  tokens : arguments method ++ t.Close ∷ [] ≡ ts

vary_one_tokens : (ts : List QuotedText) (n : Option QuotedText) → (more_strings ts ++ maybe_string n) ++ t.Close ∷ [] ≡ more_strings ts ++ ((maybe_string n ++ t.Close ∷ []) ++ [])
vary_one_tokens ts n = append_assoc (more_strings ts) (maybe_string n) (t.Close ∷ []) ∙ ap (λ (us : List LineToken). more_strings ts ++ us) (sym (append-nil (maybe_string n ++ t.Close ∷ [])))

arguments_item : (n : MethodName) (xs : Items (arguments_wants n)) → ArgumentsItem n (items_tokens (arguments_wants n) xs)
arguments_item MethodName.Define xs = record { method = form.Define xs.0 xs.1.1.0; word = refl; tokens = refl }
arguments_item MethodName.Redefine xs = record { method = form.Redefine xs.0 xs.1.1.0; word = refl; tokens = refl }
arguments_item MethodName.Alias xs = record { method = form.Alias xs.0 xs.1.1.0; word = refl; tokens = refl }
arguments_item MethodName.Filter xs = record { method = form.Filter xs.0 xs.1.0; word = refl; tokens = ap (λ (us : List LineToken). t.Quoted xs.0 ∷ us) (sym (append-nil (maybe_string xs.1.0 ++ t.Close ∷ []))) }
arguments_item MethodName.Vary xs = record { method = xs.0.0; word = xs.0.1; tokens = sym (append-nil (arguments xs.0.0 ++ t.Close ∷ [])) }
arguments_item (MethodName.Action ActionName.Count) xs = record { method = form.Count; word = refl; tokens = refl }
arguments_item MethodName.Report xs = record { method = form.Report; word = refl; tokens = refl }
arguments_item (MethodName.Action ActionName.Sum) xs = record { method = form.Sum xs.0; word = refl; tokens = refl }
arguments_item (MethodName.Action ActionName.Min) xs = record { method = form.Min xs.0; word = refl; tokens = refl }
arguments_item (MethodName.Action ActionName.Max) xs = record { method = form.Max xs.0; word = refl; tokens = refl }
arguments_item (MethodName.Action ActionName.Take) xs = record { method = form.Take xs.0; word = refl; tokens = refl }
arguments_item (MethodName.Action ActionName.Reduce) xs = record { method = form.Reduce xs.0 xs.1.1.0; word = refl; tokens = refl }
arguments_item (MethodName.Action ActionName.Histo1D) xs = record { method = form.Histo1D (record { first = xs.1.0; rest = xs.1.1.0 }) xs.1.1.1.1.0 xs.1.1.1.1.1.0; word = refl; tokens = simp (append_assoc, append-nil) refl }
arguments_item (MethodName.Action ActionName.Histo2D) xs = record {
  method = form.Histo2D (record { first = xs.1.0; rest = xs.1.1.0 }) (record { first = xs.1.1.1.1.1.0; rest = xs.1.1.1.1.1.1.0 }) xs.1.1.1.1.1.1.1.1.0 xs.1.1.1.1.1.1.1.1.1.1.0 xs.1.1.1.1.1.1.1.1.1.1.1.0;
  word = refl;
  tokens = simp (append_assoc, append-nil) refl;
}

method_follows : (x : List ℕ) (o : Option MethodName) → name_of x ≡ o → Follows AMethod (t.Word x) (option_map method_wants o)
method_follows x None e = tt
method_follows x (Some n) e = λ xs.
    let found = arguments_item n xs.1 in
    let word : method_word found.method ≡ x = found.word ∙ sym (name_is x n e) in
    record { item = found.method; tokens = ap (λ (w : List ℕ). t.Word w ∷ t.Open ∷ (arguments found.method ++ t.Close ∷ [])) word ∙ ap (λ (us : List LineToken). t.Word x ∷ t.Open ∷ us) found.tokens }

line_follows : (x : List ℕ) (b : Bool) → is_free x ≡ b → (xs : Items (if b then booking_wants else asking_wants)) → BeginsItem ALine (t.Word x) (items_tokens (if b then booking_wants else asking_wants) xs)
line_follows x true e xs =
    let name = xs.1.0 in
    let m = xs.1.1.1.0 in
    record { item = (form.Books x name.0 m, rw (e, name.1) refl); tokens = ap (λ (us : List LineToken). t.Word x ∷ t.Equals ∷ t.Word name.0 ∷ t.Dot ∷ us) (sym (append-nil (call (method_word m) (arguments m)))) }
line_follows x false e xs =
    let name = xs.1.0 in
    record { item = (asked_form x name.0, asked_free _ _ name.0 ∙ name.1); tokens = asked_tokens x name.0 e }

word_follows : (x : List ℕ) (b : Bool) → is_free x ≡ b → Follows AWord (t.Word x) (if b then Some [] else None)
word_follows x true e = λ xs. record { item = (x, e); tokens = refl }
word_follows x false e = tt

marked : (m : FormMark) (u : LineToken) → is_mark m u ≡ true → mark_token m ≡ u
marked m u e = grind arith

mark_follows : (m : FormMark) (u : LineToken) (b : Bool) → is_mark m u ≡ b → Follows (AMark m) u (if b then Some [] else None)
mark_follows m u b e = grind (arith, marked)

pub follows : (w : Want) (u : LineToken) → Follows w u (next w u)
follows ALine (t.Word x) = line_follows x (is_free x) refl
follows AWord (t.Word x) = word_follows x (is_free x) refl
follows AMethod (t.Word x) = method_follows x (name_of x) refl
follows AString (t.Quoted q) = λ xs. record { item = q; tokens = refl }
follows ANumber (t.Number z) = λ xs. record { item = z; tokens = refl }
follows MoreStrings t.Comma = λ xs. record { item = xs.0 ∷ xs.1.0; tokens = ap (λ (us : List LineToken). t.Comma ∷ t.Quoted xs.0 ∷ us) (sym (append-nil (more_strings xs.1.0))) }
follows MoreStrings t.CloseBracket = λ xs. record { item = []; tokens = refl }
follows MoreEdges t.Comma = λ xs. record { item = xs.0 ∷ xs.1.0; tokens = ap (λ (us : List LineToken). t.Comma ∷ t.Number xs.0 ∷ us) (sym (append-nil (more_edges xs.1.0))) }
follows MoreEdges t.CloseBracket = λ xs. record { item = []; tokens = refl }
follows MaybeString t.Comma = λ xs. record { item = Some xs.0; tokens = refl }
follows MaybeString t.Close = λ xs. record { item = None; tokens = refl }
follows VaryArguments (t.Quoted c) = λ xs. record {
  item = (form.VaryOne c xs.1.0 (record { first = xs.1.1.1.1.0; rest = xs.1.1.1.1.1.0 }) xs.1.1.1.1.1.1.0, refl);
  tokens = ap (λ (us : List LineToken). t.Quoted c ∷ t.Comma ∷ t.Quoted xs.1.0 ∷ t.Comma ∷ t.OpenBracket ∷ t.Quoted xs.1.1.1.1.0 ∷ us) (vary_one_tokens xs.1.1.1.1.1.0 xs.1.1.1.1.1.1.0);
}
follows VaryArguments t.OpenBracket = λ xs. record {
  item = (form.VaryAll (record { first = xs.0; rest = xs.1.0 }) xs.1.1.1.0 (record { first = xs.1.1.1.1.1.1.0; rest = xs.1.1.1.1.1.1.1.0 }) xs.1.1.1.1.1.1.1.1.1.0, refl);
  tokens = simp append_assoc refl;
}
follows (AMark m) u = mark_follows m u (is_mark m u) refl
follows w u = tt

-- ---- the walk passes over every line

abbrev walked : List LineToken → List Want → WalkEnd LineToken
walked ts ws = walk (λ (u : LineToken). u) ts ws

passes_on : (w : Want) (ws k : List Want) (u : LineToken) (us : List LineToken) → next w u ≡ Some ws → walked (u ∷ us) (w ∷ k) ≡ walked us (ws ++ k)
passes_on w ws k u us e = rw e refl

passes_strings : (qs : List QuotedText) (ts : List LineToken) (k : List Want) → walked (more_strings qs ++ ts) (MoreStrings ∷ k) ≡ walked ts k
passes_strings [] ts k = refl
passes_strings (q ∷ qs) ts k = passes_strings qs ts k

passes_edges : (zs : List ℤ) (ts : List LineToken) (k : List Want) → walked (more_edges zs ++ ts) (MoreEdges ∷ k) ≡ walked ts k
passes_edges [] ts k = refl
passes_edges (z ∷ zs) ts k = passes_edges zs ts k

passes_last : (o : Option QuotedText) → walked (maybe_string o ++ t.Close ∷ []) (MaybeString ∷ []) ≡ Done
passes_last o = grind arith

-- what stands behind the strings or the edges of a list, with the end of the call
behind_strings : (qs : List QuotedText) (ts : List LineToken) (k : List Want) → walked ((more_strings qs ++ ts) ++ t.Close ∷ []) (MoreStrings ∷ k) ≡ walked (ts ++ t.Close ∷ []) k
behind_strings qs ts k = ap (λ (us : List LineToken). walked us (MoreStrings ∷ k)) (append_assoc (more_strings qs) ts (t.Close ∷ [])) ∙ passes_strings qs (ts ++ t.Close ∷ []) k

behind_edges : (zs : List ℤ) (ts : List LineToken) (k : List Want) → walked ((more_edges zs ++ ts) ++ t.Close ∷ []) (MoreEdges ∷ k) ≡ walked (ts ++ t.Close ∷ []) k
behind_edges zs ts k = ap (λ (us : List LineToken). walked us (MoreEdges ∷ k)) (append_assoc (more_edges zs) ts (t.Close ∷ [])) ∙ passes_edges zs (ts ++ t.Close ∷ []) k

-- ---- methods

called : (n : MethodName) (m : Method) → method_word m ≡ name_word n → walked (arguments m ++ t.Close ∷ []) (arguments_wants n) ≡ Done → walked (call (method_word m) (arguments m)) (AMethod ∷ []) ≡ Done
called n m w h = grind (arith, passes_on, method_next, append-nil)

method_passes : (m : Method) → walked (call (method_word m) (arguments m)) (AMethod ∷ []) ≡ Done
method_passes (form.Define c e) = called MethodName.Define (form.Define c e) refl refl
method_passes (form.Redefine c e) = called MethodName.Redefine (form.Redefine c e) refl refl
method_passes (form.Alias c u) = called MethodName.Alias (form.Alias c u) refl refl
method_passes (form.Filter e l) = called MethodName.Filter (form.Filter e l) refl (passes_last l)
method_passes (form.VaryOne c v ts n) = called MethodName.Vary (form.VaryOne c v ts n) refl (behind_strings ts.rest (maybe_string n) (MaybeString ∷ []) ∙ passes_last n)
method_passes (form.VaryAll cs v ts n) =
    called MethodName.Vary (form.VaryAll cs v ts n) refl
    (behind_strings cs.rest (t.Comma ∷ t.Quoted v ∷ t.Comma ∷ (strings_tokens ts ++ t.Comma ∷ t.Quoted n ∷ [])) (variation_wants ++ AMark FormMark.Comma ∷ one_string_wants)
    ∙ behind_strings ts.rest (t.Comma ∷ t.Quoted n ∷ []) (AMark FormMark.Comma ∷ one_string_wants))
method_passes form.Count = called (MethodName.Action ActionName.Count) form.Count refl refl
method_passes form.Report = called MethodName.Report form.Report refl refl
method_passes (form.Sum c) = called (MethodName.Action ActionName.Sum) (form.Sum c) refl refl
method_passes (form.Min c) = called (MethodName.Action ActionName.Min) (form.Min c) refl refl
method_passes (form.Max c) = called (MethodName.Action ActionName.Max) (form.Max c) refl refl
method_passes (form.Take c) = called (MethodName.Action ActionName.Take) (form.Take c) refl refl
method_passes (form.Reduce o c) = called (MethodName.Action ActionName.Reduce) (form.Reduce o c) refl refl
method_passes (form.Histo1D xs x w) =
    called (MethodName.Action ActionName.Histo1D) (form.Histo1D xs x w) refl (behind_edges xs.rest (t.Comma ∷ t.Quoted x ∷ maybe_string w) (AMark FormMark.Comma ∷ AString ∷ MaybeString ∷ []) ∙ passes_last w)
method_passes (form.Histo2D xs ys x y w) =
    called (MethodName.Action ActionName.Histo2D) (form.Histo2D xs ys x y w) refl
    (behind_edges xs.rest (t.Comma ∷ (edges_tokens ys ++ t.Comma ∷ t.Quoted x ∷ t.Comma ∷ t.Quoted y ∷ maybe_string w))
    (AMark FormMark.Comma ∷ (edges_wants ++ AMark FormMark.Comma ∷ AString ∷ AMark FormMark.Comma ∷ AString ∷ MaybeString ∷ []))
    ∙ behind_edges ys.rest (t.Comma ∷ t.Quoted x ∷ t.Comma ∷ t.Quoted y ∷ maybe_string w) (AMark FormMark.Comma ∷ AString ∷ AMark FormMark.Comma ∷ AString ∷ MaybeString ∷ []) ∙ passes_last w)

-- ---- lines

asking_passes : (word r : List ℕ) → next ALine (t.Word word) ≡ Some asking_wants → is_free r ≡ true → walked (call word (t.Word r ∷ [])) (ALine ∷ []) ≡ Done
asking_passes word r asks free = passes_on ALine asking_wants [] (t.Word word) (t.Open ∷ t.Word r ∷ t.Close ∷ []) asks ∙ passes_on AWord [] (AMark FormMark.Close ∷ []) (t.Word r) (t.Close ∷ []) (is_name_next r free)

pub line_passes : (f : Form) → has_free_names f ≡ true → walked (form_tokens f) (ALine ∷ []) ≡ Done
line_passes f free = grind (arith, both_true, passes_on, line_next, is_name_next, method_passes, asking_passes)

-- ---- where the walk over a line's tokens is stuck, no line goes on

abbrev walk_on_places : List PlacedToken → List Want → WalkEnd PlacedToken
walk_on_places ts ws = walk (λ (p : PlacedToken). p.token) ts ws

-- both end, or both begin with this token
abbrev BeginAlike : List PlacedToken → List LineToken → Type 0
BeginAlike [] us = us ≡ []
BeginAlike (p ∷ ps) us = (rest : List LineToken) × (us ≡ p.token ∷ rest)

-- what was taken begins what is wanted, and the walk is stuck behind it whatever comes later
pub record Stuck (ws : List Want) (ts left : List PlacedToken) : Type 0 where
  taken : List PlacedToken
  split : ts ≡ taken ++ left
  items : Items ws
  rest : List LineToken
  whole : bare_tokens taken ++ rest ≡ items_tokens ws items
  stays : (us : List LineToken) → BeginAlike left us → walked (bare_tokens taken ++ us) ws ≡ StuckAt us

stuck_at_end : (w : Want) (ws : List Want) → Stuck (w ∷ ws) [] []
stuck_at_end w ws = record { taken = []; split = refl; items = some_items (w ∷ ws); rest = items_tokens (w ∷ ws) (some_items (w ∷ ws)); whole = refl; stays = λ us e. rw e refl }

behind : (p : PlacedToken) (ps : List PlacedToken) → Stuck [] (p ∷ ps) (p ∷ ps)
behind p ps = record { taken = []; split = refl; items = tt; rest = []; whole = refl; stays = λ us e. rw e.1 refl }

stuck_at_token : (w : Want) (ws : List Want) (p : PlacedToken) (ps : List PlacedToken) → next w p.token ≡ None → Stuck (w ∷ ws) (p ∷ ps) (p ∷ ps)
stuck_at_token w ws p ps n = record { taken = []; split = refl; items = some_items (w ∷ ws); rest = items_tokens (w ∷ ws) (some_items (w ∷ ws)); whole = refl; stays = λ us e. rw (e.1, n) refl }

-- what is wanted behind the token, with the token
with_token : (w : Want) (ws vs : List Want) (u : LineToken) → next w u ≡ Some vs → (xs : Items (vs ++ ws)) → (ys : Items (w ∷ ws)) × (u ∷ items_tokens (vs ++ ws) xs ≡ items_tokens (w ∷ ws) ys)
with_token w ws vs u n xs =
    let parts = in_two vs ws xs in
    let go : Follows w u (Some vs) = subst (λ (o : Option (List Want)). Follows w u o) n (follows w u) in
    let found : BeginsItem w u (items_tokens vs parts.first) = go parts.first in
    ((found.item, parts.last), ap (λ (ts : List LineToken). u ∷ ts) parts.tokens ∙ ap (λ (ts : List LineToken). ts ++ items_tokens ws parts.last) (sym found.tokens))

-- the walk took all that was wanted, or is stuck
abbrev pub WalkedTo : List PlacedToken → List Want → WalkEnd PlacedToken → Type 0
WalkedTo ts ws Done = (xs : Items ws) × (bare_tokens ts ≡ items_tokens ws xs)
WalkedTo ts ws (StuckAt left) = Stuck ws ts left

walked_on : (w : Want) (ws vs : List Want) (p : PlacedToken) (ps : List PlacedToken) (end : WalkEnd PlacedToken) → next w p.token ≡ Some vs → WalkedTo ps (vs ++ ws) end → WalkedTo (p ∷ ps) (w ∷ ws) end
walked_on w ws vs p ps (StuckAt left) n s =
    let all = with_token w ws vs p.token n s.items in
    record {
      taken = p ∷ s.taken;
      split = ap (λ (ts : List PlacedToken). p ∷ ts) s.split;
      items = all.0;
      rest = s.rest;
      whole = ap (λ (ts : List LineToken). p.token ∷ ts) s.whole ∙ all.1;
      stays = λ us e. rw n (s.stays us e);
    }
walked_on w ws vs p ps Done n s = let all = with_token w ws vs p.token n s.0 in (all.0, ap (λ (ts : List LineToken). p.token ∷ ts) s.1 ∙ all.1)

walk_step : (w : Want) (ws : List Want) (p : PlacedToken) (ps : List PlacedToken) (o : Option (List Want)) → next w p.token ≡ o → ((vs : List Want) → WalkedTo ps vs (walk_on_places ps vs))
    → WalkedTo (p ∷ ps) (w ∷ ws) (walk_on (p ∷ ps) o (λ vs. walk_on_places ps (vs ++ ws)))
walk_step w ws p ps None n go = stuck_at_token w ws p ps n
walk_step w ws p ps (Some vs) n go = walked_on w ws vs p ps (walk_on_places ps (vs ++ ws)) n (go (vs ++ ws))

walked_to : (ts : List PlacedToken) (ws : List Want) → WalkedTo ts ws (walk_on_places ts ws)
walked_to [] [] = (tt, refl)
walked_to [] (w ∷ ws) = stuck_at_end w ws
walked_to (p ∷ ps) [] = behind p ps
walked_to (p ∷ ps) (w ∷ ws) = walk_step w ws p ps (next w p.token) refl (λ vs. walked_to ps vs)

-- a walk over a whole line
pub line_walked : (ts : List PlacedToken) (end : WalkEnd PlacedToken) → walk_placed ts (ALine ∷ []) ≡ end → WalkedTo ts (ALine ∷ []) end
unfolding walk_placed
line_walked ts end e = subst (WalkedTo ts (ALine ∷ [])) e (walked_to ts (ALine ∷ []))

-- ---- lines

begins : (ts left : List PlacedToken) (s : Stuck (ALine ∷ []) ts left) → BeginsLine (bare_tokens s.taken)
begins ts left s = record { rest = s.rest; form = s.items.0.0; whole = record { tokens = s.whole ∙ append-nil _; free = s.items.0.1 } }

no_line : (ts left : List PlacedToken) (s : Stuck (ALine ∷ []) ts left) (us : List LineToken) (f : Form) → BeginAlike left us → IsForm (bare_tokens s.taken ++ us) f → ⊥
no_line ts left s us f e h =
    let over : walked (bare_tokens s.taken ++ us) (ALine ∷ []) ≡ Done = ap (λ (vs : List LineToken). walked vs (ALine ∷ [])) h.tokens ∙ line_passes f h.free in
    let stays = s.stays us e in
    cc (over, stays)

token_there : (ts : List PlacedToken) (p : PlacedToken) (ps : List PlacedToken) → slice_get (ts ++ p ∷ ps) (length ts) ≡ Some p
token_there [] p ps = refl
token_there (q ∷ ts) p ps = token_there ts p ps

refused_there : (ts left : List PlacedToken) (end : ℕ) (line : List ℕ) → Stuck (ALine ∷ []) ts left → 0 < length ts → line_tokens line ≡ Ok ts → length line ≡ end → RefusesLine line (st.Syntax (place_from left end))
refused_there ts [] end line s some h e =
    let whole : bare_tokens s.taken ≡ bare_tokens ts = ap bare_tokens (sym (s.split ∙ append-nil s.taken)) in
    let line_begins : BeginsLine (bare_tokens ts) = subst (λ (us : List LineToken). BeginsLine us) whole (begins ts [] s) in
    let not_whole : (f : Form) → IsForm (bare_tokens ts) f → ⊥ = λ f is. no_line ts [] s [] f refl (subst (λ (us : List LineToken). IsForm us f) (sym whole ∙ sym (append-nil (bare_tokens s.taken))) is) in
    subst (λ (n : ℕ). RefusesLine line (st.Syntax n)) e (script.at_end h some line_begins not_whole)
refused_there ts (p ∷ ps) end line s some h e =
    let split : bare_tokens ts ≡ bare_tokens s.taken ++ p.token ∷ bare_tokens ps = ap bare_tokens s.split ∙ map-append (λ (q : PlacedToken). q.token) s.taken (p ∷ ps) in
    let same : length (bare_tokens s.taken) ≡ length s.taken = length-map s.taken (λ (q : PlacedToken). q.token) in
    let before : take (length s.taken) (bare_tokens ts) ≡ bare_tokens s.taken = rw (sym same, split) (take-append_seam (bare_tokens s.taken) (p.token ∷ bare_tokens ps)) in
    let with_it : take (length s.taken + 1) (bare_tokens ts) ≡ bare_tokens s.taken ++ p.token ∷ [] = rw (sym same, split) (take-append-add (bare_tokens s.taken) (p.token ∷ bare_tokens ps) 1) in
    let stops : StopsAt (bare_tokens ts) (length s.taken) = record {
      before = subst (λ (us : List LineToken). BeginsLine us) (sym before) (begins ts (p ∷ ps) s);
      with_it = λ b. no_line ts (p ∷ ps) s (p.token ∷ b.rest) b.form (b.rest, refl) (subst (λ (us : List LineToken). IsForm us b.form) (ap (λ (us : List LineToken). us ++ b.rest) with_it ∙ append_assoc (bare_tokens s.taken) (p.token ∷ []) b.rest) b.whole);
    } in
    script.at_token h stops (ap (λ (us : List PlacedToken). slice_get us (length s.taken)) s.split ∙ token_there s.taken p ps)

-- a line whose walk is stuck is refused there
pub refuses_line : (ts left : List PlacedToken) (end : ℕ) (line : List ℕ) → walk_placed ts (ALine ∷ []) ≡ StuckAt left → 0 < length ts → line_tokens line ≡ Ok ts → length line ≡ end → RefusesLine line (st.Syntax (place_from left end))
refuses_line ts left end line e some h n = refused_there ts left end line (line_walked ts (StuckAt left) e) some h n

pub refused_for : (tokens : List TokenAt) (left : List PlacedToken) (end : ℕ) (s : LineStop) → s ≡ LineStop.Syntax (place_from left end) → walk_placed (map placed_of tokens) (ALine ∷ []) ≡ StuckAt left → 0 < length tokens
    → (line : List ℕ) → line_tokens line ≡ Ok (map placed_of tokens) → length line ≡ end → RefusedFor (RefusesLine line) s
refused_for tokens left end s is e some line h n =
    let some_tokens : 0 < length (map placed_of tokens) = subst (λ (k : ℕ). 0 < k) (sym (length-map tokens placed_of)) some in
    subst (λ (x : LineStop). RefusedFor (RefusesLine line) x) (sym is) (refuses_line (map placed_of tokens) left end line e some_tokens h n)

-- a walk with nothing wanted is stuck before what is left
pub left_over : (tokens : List TokenAt) → (length tokens == 0) ≡ false → walk_placed (map placed_of tokens) [] ≡ StuckAt (map placed_of tokens)
unfolding walk_placed
left_over [] some = cc some
left_over (p ∷ ps) some = refl
