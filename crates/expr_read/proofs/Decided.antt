-- Each text reads as one thing, or has one refusal, and a canonical text reads back.
use Rattle.lemmas.proofs.{◌≡◌, ◌∙◌, ℕ, List, Ok, inl, inr, sym, subst, length, refl, Err, ap, Result, ◌⊎◌, true, [], ◌++◌, ◌≤◌, ◌+◌, ◌-◌, arith, append-nil, both_true, length-map}
use Rattle.rdf_values.specs.{at_end, at_scan, at_token, bare, is_name, begin_expr, begin_values, ExprCause, IsText, NamedTree, Partial, Placed, Reads, ReadsText, ReadsValues, ReadsValuesText, Refusal, Refused, scan, ScanEnd, ScanState, Token, tokens, VaryValues, Whole, before, binary, conditional, last_argument, minus_sign, more_arguments, name, NamedTrees, no_arguments, not_sign, number, parenthesized, pick, ReadsArgs, text_of, tighter, tokens_of, tokens_within, truth}
use Rattle.rdf_values.specs.expressions.Scans.{Refuses}
use Rattle.expr_read.specs.{ExprRefusal, IsRefusalOf, RefusesTextAs, RefusesTokensAs, are_valid, is_number}
use Rattle.expr_read.proofs.WholeReads.{whole, whole_values}
use Rattle.expr_read.proofs.Unique.{unique, unique_values}
use Rattle.rdf_values.proofs.OneScript.{AreReadOnce}
use Rattle.std.proofs.lemmas.List.Folds.{list_all-append}
use Rattle.rdf_values.specs.expressions.Grammar.{call}
use Rattle.expr_read.proofs.SpelledTree.{IsReadable, AreReadable, spells_tree, reads_shown, no_fewer, shown_whole}
use Rattle.expr_read.proofs.TokenSteps.{none_within, valid_tokens}
use Rattle.rdf_values.proofs.OneText.{few_tokens}

-- what reads by the grammar is refused by no scan that begins so, and leaves nothing open
abbrev pub IsWhole : {T : Type 0} → (List Token → T → Type 0) → ScanState → Type 0
IsWhole {T} reads begin = (ts : List Placed) (x : T) → reads (bare ts) x → scan begin ts ≡ Whole

-- what a scan takes whole reads
abbrev pub Completes : {T : Type 0} → (List Token → T → Type 0) → ScanState → Type 0
Completes {T} reads begin = (ts : List Placed) → scan begin ts ≡ Whole → (x : T) × reads (bare ts) x

module _ {T : Type 0} (reads : List Token → T → Type 0) (begin : ScanState) (whole : IsWhole reads begin) where
  pub tokens_refused : (text : List ℕ) (e : ExprRefusal) → IsRefusalOf (tokens text) e → RefusesTextAs reads begin text e
  tokens_refused text ExprRefusal.Memory h = tt
  tokens_refused text (ExprRefusal.At why place) h = at_token h

  pub text_refused : (text : List ℕ) (ts : List Placed) (e : ExprRefusal) → tokens text ≡ Ok ts → RefusesTokensAs begin ts (length text) e → RefusesTextAs reads begin text e
  text_refused text ts ExprRefusal.Memory same h = tt
  text_refused text ts (ExprRefusal.At why place) same (unexpected, inl refused) = rw unexpected (at_scan same refused)
  text_refused text ts (ExprRefusal.At why place) same (unexpected, inr (open_end, there)) =
      rw (unexpected, there) (at_end same (λ p h. let never = sym open_end ∙ h in cc never) (λ x r. let never = sym open_end ∙ whole ts x r in cc never))

  pub reads_these : (text : List ℕ) (ts : List Placed) (x : T) → tokens text ≡ Ok ts → IsText reads text x → reads (bare ts) x
  reads_these text ts x same r = let these : r.found ≡ ts = cc (same, r.tokens_are) in subst (λ (us : List Placed). reads (bare us) x) these r.reads_as

  pub not_both : (text : List ℕ) (x : T) (r : Refusal) → IsText reads text x → Refuses reads begin text r → ⊥
  not_both text x r t h = grind (arith, whole)

  -- a text that reads is refused for want of memory alone
  pub memory_alone : (text : List ℕ) (x : T) (e : ExprRefusal) → IsText reads text x → RefusesTextAs reads begin text e → e ≡ ExprRefusal.Memory
  memory_alone text x e t h = grind (arith, not_both)

  -- ---- each text has one answer

  pub one_refusal : (text : List ℕ) (r s : Refusal) → Refuses reads begin text r → Refuses reads begin text s → r ≡ s
  one_refusal text r s h k = grind arith

  abbrev pub Answered : List ℕ → Type 0
  Answered text = ((x : T) × IsText reads text x) ⊎ ((r : Refusal) × Refuses reads begin text r)

  by_end : Completes reads begin → (text : List ℕ) (ts : List Placed) (end : ScanEnd) → tokens text ≡ Ok ts → scan begin ts ≡ end → Answered text
  by_end completes text ts Whole e h = let x = completes ts h in inl (x.0, record { found = ts; tokens_are = e; reads_as = x.1 })
  by_end completes text ts (Refused p) e h = inr (record { cause = ExprCause.Unexpected; place = p }, at_scan e h)
  by_end completes text ts Partial e h =
      inr (record { cause = ExprCause.Unexpected; place = length text }, at_end e (λ p k. let never = sym h ∙ k in cc never) (λ x r. let never = sym h ∙ whole ts x r in cc never))

  by_tokens : Completes reads begin → (text : List ℕ) (found : Result (List Placed) Refusal) → tokens text ≡ found → Answered text
  by_tokens completes text (Ok ts) e = by_end completes text ts (scan begin ts) e refl
  by_tokens completes text (Err r) e = inr (r, at_token e)

  pub answered : Completes reads begin → (text : List ℕ) → Answered text
  answered completes text = by_tokens completes text (tokens text) refl

pub one_tree : (text : List ℕ) (ts : List Placed) (a b : NamedTree) → tokens text ≡ Ok ts → Reads 0 (bare ts) a → ReadsText text b → a ≡ b
one_tree text ts a b same r q = unique (bare ts) a b r (reads_these (Reads 0) begin_expr whole text ts b same q)

pub one_value : (text : List ℕ) (ts : List Placed) (v w : VaryValues) → tokens text ≡ Ok ts → ReadsValues (bare ts) v → ReadsValuesText text w → v ≡ w
one_value text ts v w same r q = unique_values (bare ts) v w r (reads_these ReadsValues begin_values whole_values text ts w same q)

-- What the laws of scripts ask of the texts of expressions
pub read_once : AreReadOnce
read_once = record {
  one_tree = λ text a b r q. one_tree text r.found a b r.tokens_are r.reads_as q;
  one_values = λ text v w r q. one_value text r.found v w r.tokens_are r.reads_as q;
  tree_or_refusal = not_both (Reads 0) begin_expr whole;
  values_or_refusal = not_both ReadsValues begin_values whole_values;
}

-- ---- The canonical text of an expression that was read from a text reads as this expression.

parts : (ts us : List Token) → are_valid (ts ++ us) ≡ true → (are_valid ts ≡ true) × (are_valid us ≡ true)
parts ts us g = both_true (are_valid ts) (are_valid us) (rw list_all-append at g)

mutual
  pub readable : {n : ℕ} {ts : List Token} {a : NamedTree} → Reads n ts a → are_valid ts ≡ true → IsReadable a
  readable (number {z}) g = (both_true (is_number z) true g).0
  readable truth g = tt
  readable (name {x}) g = (both_true (is_name x) true g).0
  readable (parenthesized {ts} r e) g = readable r (parts ts _ (rw e at g)).0
  readable (call {f} {ts} r e) g = let h = both_true (is_name f) _ (rw e at g) in (h.0, readable_args r (parts ts _ h.1).0)
  readable (pick {ts} {us} r q e) g = let h = parts ts _ (rw e at g) in (readable r h.0, readable q (parts us _ h.1).0)
  readable (minus_sign r) g = readable r g
  readable (not_sign r) g = readable r g
  readable (binary {ts = ts} r q l e) g = let h = parts ts _ (rw e at g) in (readable r h.0, readable q h.1)
  readable (conditional {ts} {us} r q w e) g = let h = parts ts _ (rw e at g) in let k = parts us _ h.1 in (readable r h.0, readable q k.0, readable w k.1)
  readable (tighter r) g = readable r g

  readable_args : {ts : List Token} {args : NamedTrees} → ReadsArgs ts args → are_valid ts ≡ true → AreReadable args
  readable_args no_arguments g = tt
  readable_args (last_argument r) g = (readable r g, tt)
  readable_args (more_arguments {ts} r q e) g = let h = parts ts _ (rw e at g) in (readable r h.0, readable_args q h.1)

spelled_back : (a : NamedTree) → IsReadable a → length (tokens_of a) ≤ 256 → ReadsText (text_of a) a
spelled_back a r few =
    let p = (spells_tree a r [] refl).spells (256 - length (tokens_of a)) 0 in
    let room : length (tokens_of a) + (256 - length (tokens_of a)) ≡ 256 = omega arith in
    let all : tokens_within (length (tokens_of a) + (256 - length (tokens_of a))) 0 (text_of a ++ []) ≡ Ok p.0
    = p.2 ∙ ap (before p.0) (none_within (256 - length (tokens_of a)) (0 + length (text_of a))) ∙ ap Ok (append-nil p.0) in
    record {
      found = p.0;
      tokens_are = ap tokens (sym (append-nil (text_of a))) ∙ ap (λ (n : ℕ). tokens_within n 0 (text_of a ++ [])) (sym room) ∙ all;
      reads_as = subst (λ (ts : List Token). Reads 0 ts a) (shown_whole a ∙ sym p.1) (reads_shown 0 a (omega arith));
    }

pub reads_back : (text : List ℕ) (a : NamedTree) → ReadsText text a → ReadsText (text_of a) a
reads_back text a r = grind (arith, spelled_back, readable, valid_tokens, no_fewer, shown_whole, length-map, few_tokens)
