-- The result of a Print among those that its loop fills.
use Rattle.lemmas.proofs.{◌≡◌, ℕ, zero, suc, Bool, true, false, not, ◌||◌, List, [], ◌∷◌, ◌++◌, Some, refl, sym, ap, ap₂, ◌∙◌, arith, if◌then◌else◌, filter, flat_map, slice_get, flat_map-append, same_some}
use Rattle.rdf_values.specs.{ActionAt, among, Booked, Booking, bookings, filled, is_watched, names_of, Pass, passes_of, ReportOn, results_named, same, Statement, waiting}
use Rattle.rdf_model.specs.{Course, Dataset, loop_of, loop_passes, named_lines, partial_line, partial_lines, partial_result, pass_lines, result_lines}
use Rattle.rdf_model.proofs.Accepted.{names_equal}
use Rattle.graph_numbers.proofs.Placing.{Extends, itself}
use Rattle.graph.specs.{AreNamedInTurn}
use Rattle.event_loop.proofs.Found.{one_number, AreOf, passes_are_of}
use Rattle.graph_numbers.proofs.Covering.{booked_kept}

-- ---- the only one that passes a test

filter_none : {A : Type 0} (t : A → Bool) (xs : List A) → ((k : ℕ) (y : A) → slice_get xs k ≡ Some y → t y ≡ true → ⊥) → filter t xs ≡ []
filter_none t [] h = refl
filter_none {A} t (x ∷ xs) h = go (t x) refl (filter_none t xs (λ k y at met. h (suc k) y at met))
  where
    go : (b : Bool) → t x ≡ b → filter t xs ≡ [] → (if b then x ∷ filter t xs else filter t xs) ≡ []
    go true e rest = absurd (h 0 x refl e)
    go false e rest = rest

filter_one : {A : Type 0} (t : A → Bool) (xs : List A) (r : ℕ) (x : A) → slice_get xs r ≡ Some x → t x ≡ true → ((k : ℕ) (y : A) → slice_get xs k ≡ Some y → t y ≡ true → k ≡ r) → filter t xs ≡ x ∷ []
filter_one t [] r x at met h = absurd (cc)
filter_one {A} t (y ∷ ys) zero x at met h =
    let is : y ≡ x = same_some at in
    ap (λ (b : Bool). if b then y ∷ filter t ys else filter t ys) (ap t is ∙ met) ∙ ap₂ (λ z zs. z ∷ zs) is (filter_none t ys (λ k z there q. (let e = h (suc k) z there q in absurd (omega (arith, e)))))
filter_one {A} t (y ∷ ys) (suc r) x at met h = go (t y) refl (filter_one t ys r x at met (λ k z there q. (let e = h (suc k) z there q in omega (arith, e))))
  where
    go : (b : Bool) → t y ≡ b → filter t ys ≡ x ∷ [] → (if b then y ∷ filter t ys else filter t ys) ≡ x ∷ []
    go true e rest = let z = h 0 y refl e in absurd (omega (arith, z))
    go false e rest = rest

filters_swap : {A : Type 0} (t q : A → Bool) (xs : List A) → filter t (filter q xs) ≡ filter q (filter t xs)
filters_swap t q [] = refl
filters_swap {A} t q (x ∷ xs) = go (q x) (t x) refl refl (filters_swap t q xs)
  where
    go : (b c : Bool) → q x ≡ b → t x ≡ c → filter t (filter q xs) ≡ filter q (filter t xs) → filter t (if b then x ∷ filter q xs else filter q xs) ≡ filter q (if c then x ∷ filter t xs else filter t xs)
    go true true e f rest = ap (λ (b : Bool). if b then x ∷ filter t (filter q xs) else filter t (filter q xs)) f ∙ ap (λ l. x ∷ l) rest ∙ sym (ap (λ (b : Bool). if b then x ∷ filter q (filter t xs) else filter q (filter t xs)) e)
    go true false e f rest = ap (λ (b : Bool). if b then x ∷ filter t (filter q xs) else filter t (filter q xs)) f ∙ rest
    go false true e f rest = rest ∙ sym (ap (λ (b : Bool). if b then x ∷ filter q (filter t xs) else filter q (filter t xs)) e)
    go false false e f rest = rest

-- ---- the one of a name

-- one of that name is among those that pass
record IsAmong (q : Booked → Bool) (xs : List Booked) (name : List ℕ) : Type 0 where
  r : ℕ
  b : Booked
  there : slice_get xs r ≡ Some b
  named : same b.name name ≡ true
  is : name ≡ b.name
  passes : q b ≡ true

is_among : (q : Booked → Bool) (xs : List Booked) (name : List ℕ) → among name (names_of (filter q xs)) ≡ true → IsAmong q xs name
is_among q [] name h = absurd (cc)
is_among q (x ∷ xs) name h = go (q x) refl h (λ k. is_among q xs name k)
  where
    later : IsAmong q xs name → IsAmong q (x ∷ xs) name
    later m = record { r = suc m.r; b = m.b; there = m.there; named = m.named; is = m.is; passes = m.passes }

    first : (s : Bool) → same name x.name ≡ s → q x ≡ true → (s || among name (names_of (filter q xs))) ≡ true → (among name (names_of (filter q xs)) ≡ true → IsAmong q xs name) → IsAmong q (x ∷ xs) name
    first true e p k next =
        let equal : name ≡ x.name = names_equal name x.name e in
        record { r = 0; b = x; there = refl; named = ap (same x.name) equal ∙ sym (ap (λ n. same n x.name) equal) ∙ e; is = equal; passes = p }
    first false e p k next = later (next k)

    go : (b : Bool) → q x ≡ b → among name (names_of (if b then x ∷ filter q xs else filter q xs)) ≡ true → (among name (names_of (filter q xs)) ≡ true → IsAmong q xs name) → IsAmong q (x ∷ xs) name
    go true e k next = first (same name x.name) refl e k next
    go false e k next = later (next k)

module _ (script : List Statement) (turn : AreNamedInTurn script) (before : List Statement) (begins : Extends before script) (name : List ℕ) (there : among name (names_of (waiting before)) ≡ true) where
  abbrev waits : Booked → Bool
  waits b = not (among b.name (filled before))

  found : IsAmong waits (bookings before) name
  found = is_among waits (bookings before) name there

  alone : (of : List Statement) → Extends of script → slice_get (bookings of) found.r ≡ Some found.b → results_named name (bookings of) ≡ found.b ∷ []
  alone of e at = filter_one (λ (b : Booked). same b.name name) (bookings of) found.r found.b at found.named
      (λ k y here q. one_number script turn k found.r y found.b (booked_kept of script e k y here) (booked_kept of script e found.r found.b at) (sym (ap (same y.name) found.is) ∙ q))

  -- those of a name that wait are those that are booked
  pub same_results : results_named name (waiting before) ≡ results_named name (bookings script)
  same_results =
      filters_swap (λ (b : Booked). same b.name name) waits (bookings before) ∙ ap (filter waits) (alone before begins found.there)
      ∙ ap (λ (b : Bool). if b then found.b ∷ [] else []) found.passes ∙ sym (alone script itself (booked_kept before script begins found.r found.b found.there))

-- ---- partial lines

-- there are none
abbrev pub PrintsNoPartials : List Statement → Dataset → Course → Type 0
PrintsNoPartials script d course = (b : Booked) → (if is_watched script b.name then partial_lines script d course b.name b.booking else []) ≡ []

module _ (script : List Statement) (d : Dataset) (course : Course) where
  pub unwatched_print_none : ((name : List ℕ) → is_watched script name ≡ false) → PrintsNoPartials script d course
  unwatched_print_none h b = ap (λ (t : Bool). if t then partial_lines script d course b.name b.booking else []) (h b.name)

  pub unnoted_print_none : ((l : ℕ) → course.chains l ≡ []) → PrintsNoPartials script d course
  unnoted_print_none h b = go (is_watched script b.name) (none b.name b.booking)
    where
      none : (name : List ℕ) (k : Booking) → partial_lines script d course name k ≡ []
      none name (ActionAt k at) = ap (flat_map (λ set. partial_line name set (partial_result course.spans d set k at))) (h (loop_of script name))
      none name (ReportOn filters) = refl

      go : (t : Bool) → partial_lines script d course b.name b.booking ≡ [] → (if t then partial_lines script d course b.name b.booking else []) ≡ []
      go true e = e
      go false e = refl

-- ---- the lines of a result

module _ (script : List Statement) (d : Dataset) (name : List ℕ) where
  abbrev if_named : Pass → List ℕ
  if_named p = if same p.result.name name then pass_lines d p else []

  of_result : (b : Booked) (ps : List Pass) → AreOf b ps → flat_map if_named ps ≡ (if same b.name name then flat_map (pass_lines d) ps else [])
  of_result b [] h = go (same b.name name)
    where
      go : (t : Bool) → ◌≡◌ {A = List ℕ} [] (if t then [] else [])
      go true = refl
      go false = refl
  of_result b (p ∷ ps) h =
      ap₂ (λ (x y : List ℕ). x ++ y) (ap (λ (r : Booked). if same r.name name then pass_lines d p else []) h.0) (of_result b ps h.1) ∙ go (same b.name name)
    where
      go : (t : Bool) → (if t then pass_lines d p else []) ++ (if t then flat_map (pass_lines d) ps else []) ≡ (if t then pass_lines d p ++ flat_map (pass_lines d) ps else [])
      go true = refl
      go false = refl

  -- the lines of the passes of results, where they are of the name
  pub of_results : (bs : List Booked) → flat_map if_named (loop_passes script bs) ≡ flat_map (λ b. flat_map (pass_lines d) (passes_of script b)) (results_named name bs)
  of_results [] = refl
  of_results (b ∷ bs) =
      flat_map-append if_named (passes_of script b) (loop_passes script bs) ∙ ap₂ (λ (x y : List ℕ). x ++ y) (of_result b (passes_of script b) (passes_are_of script b)) (of_results bs) ∙ go (same b.name name)
    where
      go : (t : Bool) → (if t then flat_map (pass_lines d) (passes_of script b) else []) ++ flat_map (λ c. flat_map (pass_lines d) (passes_of script c)) (results_named name bs)
          ≡ flat_map (λ c. flat_map (pass_lines d) (passes_of script c)) (if t then b ∷ results_named name bs else results_named name bs)
      go true = refl
      go false = refl

  module _ (course : Course) (plainly : PrintsNoPartials script d course) where
    plain : (bs : List Booked) → flat_map (result_lines script d course) bs ≡ flat_map (λ b. flat_map (pass_lines d) (passes_of script b)) bs
    plain [] = refl
    plain (b ∷ bs) = ap₂ (λ (x y : List ℕ). x ++ y) (ap (λ (l : List ℕ). l ++ flat_map (pass_lines d) (passes_of script b)) (plainly b)) (plain bs)

    -- what a result by itself prints
    pub named_are : (bs : List Booked) → results_named name bs ≡ results_named name (bookings script) → flat_map if_named (loop_passes script bs) ≡ named_lines script d course name
    named_are bs h = of_results bs ∙ ap (flat_map (λ b. flat_map (pass_lines d) (passes_of script b))) h ∙ sym (plain (results_named name (bookings script)))
