-- The files that the shelf was turned to, from stage to stage.
use Rattle.lemmas.proofs.{◌≡◌, ◌≤◌, ◌<◌, ◌+◌, inl, inr, ℕ, zero, suc, List, [], ◌∷◌, ◌++◌, length, drop, Some, arith, ap, refl, sym, subst, ◌∙◌, append_assoc, append-nil, MatchOption, slice_get}
use Rattle.input_files.specs.{AreTurnedTo}
use Rattle.chain_program.specs.{AreTurned}

module _ (IsRead : List ℕ → Type 0) where
  -- the first one alone
  pub turned_one : (name : List ℕ) (names before after : List (List ℕ)) → after ≡ before ++ name ∷ [] → AreTurned IsRead (name ∷ names) before after
  turned_one name names before after e = inr (inl e)

  -- the first one, and others
  pub turned_more : (name : List ℕ) (names before mid after : List (List ℕ)) → mid ≡ before ++ name ∷ [] → IsRead name → AreTurned IsRead names mid after → AreTurned IsRead (name ∷ names) before after
  turned_more name names before mid after e is h = inr (inr (is, subst (λ m. AreTurned IsRead names m after) e h))

  -- the first one alone, by its place
  pub first_alone : (names : List (List ℕ)) (name : List ℕ) (before after : List (List ℕ)) → slice_get names 0 ≡ Some name → after ≡ before ++ name ∷ [] → AreTurned IsRead names before after
  first_alone [] name before after at e = absurd (cc at)
  first_alone (x ∷ xs) name before after at e = (let same : x ≡ name = cc at in inr (inl (e ∙ ap (λ y. before ++ y ∷ []) (sym same))))

  -- the first one, and others behind it
  pub first_and_more : (names : List (List ℕ)) (name : List ℕ) (before mid after : List (List ℕ)) → slice_get names 0 ≡ Some name → mid ≡ before ++ name ∷ [] → IsRead name → AreTurned IsRead (drop 1 names) mid after → AreTurned IsRead names before after
  first_and_more [] name before mid after at e is h = absurd (cc at)
  first_and_more (x ∷ xs) name before mid after at e is h = (let same : x ≡ name = cc at in turned_more x xs before mid after (e ∙ ap (λ y. before ++ y ∷ []) (sym same)) (subst IsRead (sym same) is) h)

-- a first part of the names
record Turned (names : List (List ℕ)) (IsRead : List ℕ → Type 0) (before after : List (List ℕ)) : Type 0 where
  turns : List (List ℕ)
  follow : after ≡ before ++ turns
  rest : List (List ℕ)
  in_order : names ≡ turns ++ rest
  called : (i : ℕ) → i + 1 < length turns → MatchOption (slice_get names i) ⊥ IsRead

module _ (IsRead : List ℕ → Type 0) where
  one_more : (name : List ℕ) (names before after : List (List ℕ)) → IsRead name → Turned names IsRead (before ++ name ∷ []) after → Turned (name ∷ names) IsRead before after
  one_more name names before after is t = record {
    turns = name ∷ t.turns;
    follow = t.follow ∙ append_assoc before (name ∷ []) t.turns;
    rest = t.rest;
    in_order = ap (λ l. name ∷ l) t.in_order;
    called = go;
  }
    where
      go : (i : ℕ) → i + 1 < length (name ∷ t.turns) → MatchOption (slice_get (name ∷ names) i) ⊥ IsRead
      go zero lt = is
      go (suc i) lt = t.called i (omega (arith, lt))

  turned : (names before after : List (List ℕ)) → AreTurned IsRead names before after → Turned names IsRead before after
  turned [] before after e = record { turns = []; follow = e ∙ sym (append-nil before); rest = []; in_order = refl; called = λ i lt. absurd (omega (arith, lt)) }
  turned (name ∷ names) before after (inl e) = record { turns = []; follow = e ∙ sym (append-nil before); rest = name ∷ names; in_order = refl; called = λ i lt. absurd (omega (arith, lt)) }
  turned (name ∷ names) before after (inr (inl e)) = record { turns = name ∷ []; follow = e; rest = names; in_order = refl; called = λ i lt. absurd (omega (arith, lt)) }
  turned (name ∷ names) before after (inr (inr h)) = one_more name names before after h.0 (turned names (before ++ name ∷ []) after h.1)

-- the script, and others
pub turned_to_others : (script : List ℕ) (others : List (List ℕ)) (IsRead : List ℕ → Type 0) (IsFileRead : ℕ → Type 0) (before mid after : List (List ℕ)) → mid ≡ before ++ script ∷ [] → IsFileRead 0
    → ((i : ℕ) → MatchOption (slice_get others i) ⊥ IsRead → IsFileRead (suc i)) → AreTurned IsRead others mid after → AreTurnedTo (script ∷ others) IsFileRead before after
turned_to_others script others IsRead IsFileRead before mid after e first step h =
    let t : Turned others IsRead mid after = turned IsRead others mid after h in
    record {
      turns = script ∷ t.turns;
      follow = t.follow ∙ ap (λ m. m ++ t.turns) e ∙ append_assoc before (script ∷ []) t.turns;
      rest = t.rest;
      in_order = ap (λ l. script ∷ l) t.in_order;
      called = go t;
    }
  where
    go : (t : Turned others IsRead mid after) (i : ℕ) → i + 1 < length (script ∷ t.turns) → IsFileRead i
    go t zero lt = first
    go t (suc i) lt = step i (t.called i (omega (arith, lt)))

-- ---- place by place

-- what is left from a place on begins with the name there
pub left_from : (names : List (List ℕ)) (i : ℕ) (name : List ℕ) → i < length names → slice_get names i ≡ Some name → drop i names ≡ name ∷ drop (i + 1) names
left_from [] i name lt at = absurd (omega (arith, lt))
left_from (x ∷ xs) zero name lt at = (let same : x ≡ name = cc at in ap (λ y. y ∷ xs) same)
left_from (x ∷ xs) (suc i) name lt at = left_from xs i name (omega (arith, lt)) at ∙ (let e : suc i + 1 ≡ suc (i + 1) = omega arith in ap (λ k. name ∷ drop k (x ∷ xs)) (sym e))

pub none_from : (names : List (List ℕ)) (i : ℕ) → length names ≤ i → drop i names ≡ []
none_from [] zero le = refl
none_from [] (suc i) le = refl
none_from (x ∷ xs) zero le = absurd (omega (arith, le))
none_from (x ∷ xs) (suc i) le = none_from xs i (omega (arith, le))
