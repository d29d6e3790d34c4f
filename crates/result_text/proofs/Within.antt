-- The numbers in a graph's tables are in range.
use Rattle.lemmas.proofs.{◌≡◌, ℕ, suc, ◌+◌, ◌<◌, ◌≤◌, Bool, true, false, List, [], ◌∷◌, length, Option, None, Some, subst, arith, if◌then◌else◌, not, slice_get, All, All-append, All-cons, All-map, All-nil, cond_both, get_or_from_slice_get, slice_get_within}
use Rattle.rdf_values.specs.{among, Booked, bookings, filled, has_variations, result_depends, Statement, variations}
use Rattle.rdf_values.specs.declared.scripts.statement.Statement.TheVariants.{Print}
use Rattle.graph_numbers.specs.{booked_statements, graph_loops, graph_variations, GraphView, loops, numbered_pass, own_loop, Pass as NumberedPass, passes_from, places_from, result_passes}
use Rattle.graph_numbers.proofs.Placing.{joined, only_at}

-- ---- variations of passes

abbrev Below : ℕ → List ℕ → Type 0
Below n xs = All (λ x. x < n) xs

places_below : {A : Type 0} (test : A → Bool) (n : ℕ) (xs : List A) (top : ℕ) → n + length xs ≤ top → Below top (places_from test n xs)
places_below test n [] top le = All-nil (λ v. v < top)
places_below test n (x ∷ xs) top le =
    let rest = places_below test (suc n) xs top (omega arith) in
    cond_both (test x) _ _ (Below top) (λ _. All-cons (λ v. v < top) n (places_from test (suc n) xs) (omega arith) rest) (λ _. rest)

abbrev pub IsIn : ℕ → Option ℕ → Type 0
IsIn top None = Unit {0}
IsIn top (Some v) = v < top

module _ (script : List Statement) where
  abbrev IsWithin : NumberedPass → Type 0
  IsWithin p = IsIn (length (variations script)) p.variation

  of_result : (n : ℕ) (b : Booked) → All IsWithin (result_passes script n b)
  of_result n b = All-cons IsWithin (numbered_pass n None) _ tt (cond_both (has_variations script b.name) _ _ (All IsWithin)
      (λ _. All-map IsWithin (λ v. numbered_pass n (Some v)) _ (places_below (λ v. result_depends v b.booking) 0 (variations script) (length (variations script)) (omega arith))) (λ _. All-nil IsWithin))

  of_passes : (test : Booked → Bool) (n : ℕ) (bs : List Booked) → All IsWithin (passes_from script test n bs)
  of_passes test n [] = All-nil IsWithin
  of_passes test n (b ∷ bs) =
      All-append IsWithin (if test b then result_passes script n b else []) (passes_from script test (suc n) bs)
      (cond_both (test b) _ _ (All IsWithin) (λ _. of_result n b) (λ _. All-nil IsWithin)) (of_passes test (suc n) bs)

  of_loops : (before : List Statement) (l : ℕ) (ps : List NumberedPass) → slice_get (loops script before) l ≡ Some ps → All IsWithin ps
  of_loops [] l ps at = cc at
  of_loops (s ∷ before) l ps at = joined (loops script before) (own_loop script before s) l ps at (of_loops before l ps) (λ i e q. own s i q)
    where
      printed : (b : Bool) (i : ℕ) → slice_get (if b then [] else passes_from script (λ (x : Booked). not (among x.name (filled before))) 0 (bookings before) ∷ []) i ≡ Some ps → All IsWithin ps
      printed true i q = cc q
      printed false i q = subst (All IsWithin) (only_at _ ps i q) (of_passes (λ (x : Booked). not (among x.name (filled before))) 0 (bookings before))

      own : (s : Statement) (i : ℕ) → slice_get (own_loop script before s) i ≡ Some ps → All IsWithin ps
      own (Print result) i q = printed (among result (filled before)) i q
      own s i q = cc q

pub variation_within : (g : GraphView) (l n : ℕ) (ps : List NumberedPass) (p : NumberedPass) → slice_get (graph_loops g) l ≡ Some ps → slice_get ps n ≡ Some p → IsIn (length (graph_variations g)) p.variation
variation_within g l n ps p loop at =
    subst (λ (x : NumberedPass). IsIn (length (graph_variations g)) x.variation) (get_or_from_slice_get ps n p p at) (of_loops (booked_statements g) (booked_statements g) l ps loop n p (slice_get_within ps n p at))

pub is_in_for : (top : ℕ) (o : Option ℕ) → IsIn top o → (v : ℕ) → o ≡ Some v → v < top
is_in_for top None h v e = absurd (cc)
is_in_for top (Some w) h v e = let same : w ≡ v = cc in omega arith
