-- What a line adds to the lists of loops and Prints.
use Rattle.lemmas.proofs.{if◌then◌else◌, ◌≡◌, ◌⊎◌, inl, inr, ℕ, zero, suc, ◌+◌, ◌<◌, ◌≤◌, Bool, true, false, not, List, [], ◌∷◌, ◌++◌, map, length, take, drop, Some, None, refl, sym, ◌∙◌, ap, arith, slice_get, length-append, append_assoc, nat_lt, ◌-◌, replicate, Option, option_map, subst, filter, filter_map, unwrap_or, append-nil, le-ltb, lt-ltb, or_parts, take-append-drop, take-append-le, take-append_seam, length-take-le, slice_get_within, AllZip-long, drop-take, filter_map-append, length-replicate, map-append, map-id, map-map, take_no_longer, same_Some, take-take}
use Rattle.rdf_values.specs.{among, AreAccepted, Booked, booked_by, bookings, check, check_node, filled, FunctionNames, GraphCause, has_variations, is_in_use, is_node, is_result, names_of, place, refuse_if, result_depends, same, Scope, Statement, Variation, variations, Line, waiting}
use Rattle.rdf_values.specs.declared.scripts.statement.Statement.TheVariants.{Print}
use Rattle.rdf_model.proofs.Accepted.{both_none, if_fails, unless_holds, itself, names_equal, place_in_more, turned}
use Rattle.graph_numbers.proofs.Placing.{of_joined}
use Rattle.graph_numbers.specs.{holds_at, numbered_pass, passes_from, places_from, result_passes, loops, own_loop, Pass, result_number}
use Rattle.graph.specs.declared.tables.ResultRow.{ResultRow}
use Rattle.graph.specs.{AreNamedInTurn, AreRowsOf, filled_count, has, IsNamedInTurn, IsRowOf, members_from, passes_of_row, passes_of_rows, AreLoops, AreLoopsOf, BeginsWith, filler_of, statements}
use Rattle.graph.proofs.Listing.{zip_last, place_at, place_end, zip_first}
use Rattle.rdf_model.specs.{Access, accesses, filled_by, loop_results}
use Rattle.graph.specs.declared.loops.LoopTables.{LoopTables}

-- ---- which results are filled, and the passes of a loop, by the numbers of results: names in turn

module _ (names : FunctionNames) (header : Scope) where
  not_in_use : (before : List Statement) (result parent : List ℕ) → check_node before result parent ≡ None → is_result before result ≡ false
  not_in_use before result parent h =
      (or_parts (is_node before result) (is_result before result) (if_fails (is_in_use before result) GraphCause.NameTaken (both_none (refuse_if (is_in_use before result) GraphCause.NameTaken) _ h).0)).1

  named_in_turn : (before : List Statement) (s : Statement) → check names header before s ≡ None → IsNamedInTurn before s
  named_in_turn before s h = grind (arith, not_in_use, both_none, unless_holds)

  -- in accepted statements a result that is booked is new, and one that is printed isn't
  pub all_in_turn : (before : List Statement) → AreAccepted names header before → AreNamedInTurn before
  all_in_turn [] h = tt
  all_in_turn (s ∷ before) h = (named_in_turn before s h.0, all_in_turn before h.1)

-- ---- lists

-- a name is among the first so many exactly where its place is below
among_first : (bs : List Booked) (r : List ℕ) (n k : ℕ) → place (λ (b : Booked). same b.name r) bs ≡ Some n → nat_lt n k ≡ among r (names_of (take k bs))
among_first [] r n k h = cc h
among_first (b ∷ bs) r n zero h = grind arith
among_first (b ∷ bs) r zero (suc k) h = grind (arith, turned)
among_first (b ∷ bs) r (suc n) (suc k) h = grind (arith, turned, among_first bs r n k)

-- what isn't among all of a list isn't among its first
pub among_less : (x : List ℕ) (bs : List Booked) (k : ℕ) → among x (names_of bs) ≡ false → among x (names_of (take k bs)) ≡ false
among_less x bs zero h = refl
among_less x [] (suc k) h = refl
among_less x (b ∷ bs) (suc k) h = grind (arith, or_parts, among_less x bs)

-- the name of a result is among theirs
among_there : (bs : List Booked) (j : ℕ) (b : Booked) → slice_get bs j ≡ Some b → among b.name (names_of bs) ≡ true
among_there [] j b h = cc h
among_there (c ∷ bs) zero b h = grind (arith, itself)
among_there (c ∷ bs) (suc j) b h = grind (arith, among_there bs j b h)

-- ---- what is filled

IsFilled : List Statement → Type 0
IsFilled before = (filled before ≡ names_of (take (filled_count before) (bookings before))) × (filled_count before ≤ length (bookings before))

further_filled : (before : List Statement) (s : Statement) → filled (s ∷ before) ≡ filled before → filled_count (s ∷ before) ≡ filled_count before → IsFilled before → IsFilled (s ∷ before)
unfolding IsFilled
further_filled before s e f h =
    let c = length-append (bookings before) (booked_by before s) in let l = h.1 in (
      e ∙ h.0 ∙ ap (λ bs. names_of bs) (sym (take-append-le (filled_count before) (bookings before) (booked_by before s) h.1))
          ∙ ap (λ k. names_of (take k (bookings before ++ booked_by before s))) (sym f),
      omega (arith, c, f, l),
    )

-- the results that are filled are the first ones
filled_is : (before : List Statement) → IsFilled before
unfolding IsFilled
filled_is [] = (refl, omega arith)
filled_is (Print p ∷ before) = go (among p (filled before)) (filled_is before)
  where
    nothing_more : bookings before ++ [] ≡ bookings before
    nothing_more = append-nil (bookings before)

    all : take (length (bookings before)) (bookings before ++ []) ≡ bookings before
    all = take-append_seam (bookings before) []

    go : (b : Bool) → (filled before ≡ names_of (take (filled_count before) (bookings before))) × (filled_count before ≤ length (bookings before))
        → ((if b then filled before else names_of (bookings before)) ≡ names_of (take (if b then filled_count before else length (bookings before)) (bookings before ++ [])))
        × ((if b then filled_count before else length (bookings before)) ≤ length (bookings before ++ []))
    go b h = grind (arith, nothing_more, all)
filled_is (s ∷ before) = further_filled before s refl refl (filled_is before)

pub filled_few : (before : List Statement) → filled_count before ≤ length (bookings before)
unfolding IsFilled
filled_few before = (filled_is before).1

pub filled_first : (before : List Statement) → filled before ≡ names_of (take (filled_count before) (bookings before))
unfolding IsFilled
filled_first before = (filled_is before).0

-- ---- results have names of their own

-- a result has another name than each before it
pub later_named : (before : List Statement) → AreNamedInTurn before → (j : ℕ) (b : Booked) → slice_get (bookings before) j ≡ Some b → (k : ℕ) → k ≤ j → among b.name (names_of (take k (bookings before))) ≡ false
later_named [] h j b q k le = cc q
later_named (s ∷ before) h j b q k le = go (λ e l. later_named before h.1 j b e k l) (of_joined (bookings before) (booked_by before s) j b q)
  where
    own : (s : Statement) → IsNamedInTurn before s → (i : ℕ) → slice_get (booked_by before s) i ≡ Some b → (i ≡ 0) × (among b.name (names_of (bookings before)) ≡ false)
    own s new i e = grind (arith, same_Some)

    go : (slice_get (bookings before) j ≡ Some b → k ≤ j → among b.name (names_of (take k (bookings before))) ≡ false)
        → (slice_get (bookings before) j ≡ Some b) ⊎ ((i : ℕ) × (j ≡ length (bookings before) + i) × (slice_get (booked_by before s) i ≡ Some b))
        → among b.name (names_of (take k (bookings before ++ booked_by before s))) ≡ false
    go next (inl e) = grind (arith, slice_get_within, take-append-le)
    go next (inr p) = grind (arith, own, take-append-le, among_less)

-- ---- passes by rows

module _ (script : List Statement) where
  members_are : (test : Variation → Bool) (p : ℕ → Bool) (n : ℕ) (vs : List Variation) → ((k : ℕ) → p (n + k) ≡ holds_at test (slice_get vs k)) → places_from test n vs ≡ members_from p n (length vs)
  members_are test p n [] h = refl
  members_are test p n (v ∷ vs) h =
      let z : n + 0 ≡ n = omega arith in
      let e : test v ≡ p n = sym (h 0) ∙ ap p z in
      λ i. if e i then n ∷ members_are test p (suc n) vs next i else members_are test p (suc n) vs next i
    where
      next : (k : ℕ) → p (suc n + k) ≡ holds_at test (slice_get vs k)
      next k = let s : suc n + k ≡ n + suc k = omega arith in ap p s ∙ h (suc k)

  row_passes : (n : ℕ) (b : Booked) (r : ResultRow) → IsRowOf script b r → result_passes script n b ≡ passes_of_row script (length (variations script)) n r
  row_passes n b r h =
      λ i. numbered_pass n None
      ∷ (if has_variations script (sym h.name i) then map (λ v. numbered_pass n (Some v)) (members_are (λ v. result_depends v b.booking) (has r.set) 0 (variations script) (λ k. ap (has r.set) (zero_first k) ∙ h.set k) i) else [])
    where
      zero_first : (k : ℕ) → 0 + k ≡ k
      zero_first k = omega arith

  no_passes : (test : Booked → Bool) (n : ℕ) (bs : List Booked) → ((j : ℕ) (b : Booked) → slice_get bs j ≡ Some b → test b ≡ false) → passes_from script test n bs ≡ []
  no_passes test n [] h = refl
  no_passes test n (b ∷ bs) h = λ i. (if h 0 b refl i then result_passes script n b else []) ++ no_passes test (suc n) bs (λ j c e. h (suc j) c e) i

  all_passes : (test : Booked → Bool) (n : ℕ) (bs : List Booked) (rows : List ResultRow) → AreRowsOf script bs rows → ((j : ℕ) (b : Booked) → slice_get bs j ≡ Some b → test b ≡ true)
      → passes_from script test n bs ≡ passes_of_rows script (length (variations script)) n rows
  all_passes test n [] [] rs h = refl
  all_passes test n [] (r ∷ rows) rs h = absurd rs
  all_passes test n (b ∷ bs) [] rs h = absurd rs
  all_passes test n (b ∷ bs) (r ∷ rows) rs h =
      λ i. (ap (λ t. if t then result_passes script n b else []) (h 0 b refl) ∙ row_passes n b r rs.0) i ++ all_passes test (suc n) bs rows rs.1 (λ j c e. h (suc j) c e) i

  passes_joined : (test : Booked → Bool) (n : ℕ) (bs cs : List Booked) → passes_from script test n (bs ++ cs) ≡ passes_from script test n bs ++ passes_from script test (n + length bs) cs
  passes_joined test n [] cs = let z : n ≡ n + 0 = omega arith in ap (λ m. passes_from script test m cs) z
  passes_joined test n (b ∷ bs) cs =
      let s : suc n + length bs ≡ n + length (b ∷ bs) = omega arith in
      ap (λ ps. (if test b then result_passes script n b else []) ++ ps) (passes_joined test (suc n) bs cs ∙ ap (λ m. passes_from script test (suc n) bs ++ passes_from script test m cs) s)
      ∙ sym (append_assoc (if test b then result_passes script n b else []) (passes_from script test (suc n) bs) (passes_from script test (n + length (b ∷ bs)) cs))

  pub at_last : (k j : ℕ) (bs : List Booked) (b : Booked) → slice_get (drop k bs) j ≡ Some b → slice_get bs (k + j) ≡ Some b
  at_last zero j bs b h = let z : 0 + j ≡ j = omega arith in ap (slice_get bs) z ∙ h
  at_last (suc k) j [] b h = cc h
  at_last (suc k) j (c ∷ bs) b h = let z : suc k + j ≡ suc (k + j) = omega arith in ap (slice_get (c ∷ bs)) z ∙ at_last k j bs b h

  abbrev waits : List Statement → Booked → Bool
  waits before b = not (among b.name (filled before))

  -- the passes of a loop: of all results so far but those that are filled
  pub loop_is : (before : List Statement) → AreNamedInTurn before → (rows : List ResultRow) → AreRowsOf script (bookings before) rows
      → passes_from script (λ (b : Booked). not (among b.name (filled before))) 0 (bookings before) ≡ passes_of_rows script (length (variations script)) (filled_count before) (drop (filled_count before) rows)
  loop_is before turn rows rs =
      ap (passes_from script (waits before) 0) (sym (take-append-drop (filled_count before) (bookings before)))
      ∙ passes_joined (waits before) 0 (take (filled_count before) (bookings before)) (drop (filled_count before) (bookings before))
      ∙ (λ i. none i ++ passes_from script (waits before) (count i) (drop (filled_count before) (bookings before)))
      ∙ all_passes (waits before) (filled_count before) (drop (filled_count before) (bookings before)) (drop (filled_count before) rows) (zip_last (IsRowOf script) (filled_count before) (bookings before) rows rs) all
    where
      none : passes_from script (waits before) 0 (take (filled_count before) (bookings before)) ≡ []
      none = grind (arith, no_passes, filled_first, among_there)

      count : 0 + length (take (filled_count before) (bookings before)) ≡ filled_count before
      count = let c = length-take-le (filled_count before) (bookings before) (filled_few before) in omega (arith, c)

      all : (j : ℕ) (b : Booked) → slice_get (drop (filled_count before) (bookings before)) j ≡ Some b → waits before b ≡ true
      all j b e = grind (arith, filled_first, later_named, at_last)

  -- whether a result is filled, by its number
  pub is_filled : (before : List Statement) (r : List ℕ) (n : ℕ) → place (λ (b : Booked). same b.name r) (bookings before) ≡ Some n → n < filled_count before → among r (filled before) ≡ true
  is_filled before r n h lt = ap (among r) (filled_first before) ∙ sym (among_first (bookings before) r n (filled_count before) h) ∙ lt-ltb n (filled_count before) lt

  pub is_waiting : (before : List Statement) (r : List ℕ) (n : ℕ) → place (λ (b : Booked). same b.name r) (bookings before) ≡ Some n → filled_count before ≤ n → among r (filled before) ≡ false
  is_waiting before r n h le = ap (among r) (filled_first before) ∙ sym (among_first (bookings before) r n (filled_count before) h) ∙ le-ltb n (filled_count before) le

-- ---- lists

get_taken : {A : Type 0} (k j : ℕ) (xs : List A) → j < k → slice_get (take k xs) j ≡ slice_get xs j
get_taken zero j xs h = absurd (omega (arith, h))
get_taken (suc k) j [] h = refl
get_taken (suc k) zero (x ∷ xs) h = refl
get_taken (suc k) (suc j) (x ∷ xs) h = get_taken k j xs (omega (arith, h))

-- places that stay
some_kept : {A : Type 0} (f g : A → Option ℕ) (ls : List ℕ) (xs : List A) → ((x : A) (l : ℕ) → f x ≡ Some l → g x ≡ Some l) → map (λ l. Some l) ls ≡ map f xs → map (λ l. Some l) ls ≡ map g xs
some_kept f g [] [] h e = refl
some_kept f g [] (x ∷ xs) h e = cc e
some_kept f g (l ∷ ls) [] h e = cc e
some_kept f g (l ∷ ls) (x ∷ xs) h e =
    let first : Some l ≡ f x = cc e in let rest : map (λ l. Some l) ls ≡ map f xs = cc e in
    λ i. sym (h x l (sym first)) i ∷ some_kept f g ls xs h rest i

-- numbers whose places are known
pub unwrapped : {A : Type 0} (f : A → Option ℕ) (ls : List ℕ) (xs : List A) → map (λ l. Some l) ls ≡ map f xs → ls ≡ map (λ x. unwrap_or (f x) 0) xs
unwrapped f ls xs e =
    let out : Option ℕ → ℕ = λ o. unwrap_or o 0 in
    sym (map-id ls) ∙ sym (map-map out (λ (l : ℕ). Some l) ls) ∙ ap (map out) e ∙ map-map out f xs

-- ---- results and rows

pub place_of_row : (script : List Statement) (bs : List Booked) (rows : List ResultRow) (x : List ℕ) → AreRowsOf script bs rows → place (λ (r : ResultRow). same r.name x) rows ≡ place (λ (b : Booked). same b.name x) bs
place_of_row script [] [] x h = refl
place_of_row script [] (r ∷ rows) x h = absurd h
place_of_row script (b ∷ bs) [] x h = absurd h
place_of_row script (b ∷ bs) (r ∷ rows) x h = λ i. if same (h.0.name i) x then Some 0 else option_map suc (place_of_row script bs rows x h.1 i)

-- a name among those of results has a place
placed : (bs : List Booked) (x : List ℕ) → among x (names_of bs) ≡ true → place (λ (b : Booked). same b.name x) bs ≡ None → ⊥
placed [] x h e = cc h
placed (b ∷ bs) x h e = grind (arith, turned, placed bs x)

-- the result of a Print that comes in turn has the same place among all
pub printed_place : (script before : List Statement) (r : List ℕ) → IsNamedInTurn before (Print r) → BeginsWith script before
    → place (λ (b : Booked). same b.name r) (bookings script) ≡ place (λ (b : Booked). same b.name r) (bookings before)
printed_place script before r turn begins = go (place (λ (b : Booked). same b.name r) (bookings before)) refl
  where
    go : (o : Option ℕ) → place (λ (b : Booked). same b.name r) (bookings before) ≡ o → place (λ (b : Booked). same b.name r) (bookings script) ≡ place (λ (b : Booked). same b.name r) (bookings before)
    go None e = absurd (placed (bookings before) r turn e)
    go (Some n) e =
        ap (place (λ (b : Booked). same b.name r)) (sym (take-append-drop (length (bookings before)) (bookings script)))
        ∙ ap (λ xs. place (λ (b : Booked). same b.name r) (xs ++ drop (length (bookings before)) (bookings script))) begins
        ∙ place_in_more (λ (b : Booked). same b.name r) (bookings before) (drop (length (bookings before)) (bookings script)) n e ∙ sym e

-- ---- the loops

-- the loops by numbers are as many as the event loops
loops_count : (script before : List Statement) → length (loops script before) ≡ length (loop_results before)
loops_count script [] = refl
loops_count script (Print r ∷ before) =
    length-append (loops script before) (own_loop script before (Print r)) ∙ go (among r (filled before)) (loops_count script before)
    ∙ sym (ap length (filter_map-append (λ (a : Access). a.fills) (accesses before) (record { result = r; fills = filled_by before r } ∷ [])) ∙ length-append (loop_results before) _)
  where
    go : (b : Bool) → length (loops script before) ≡ length (loop_results before)
        → length (loops script before) + length (if b then [] else passes_from script (λ (c : Booked). not (among c.name (filled before))) 0 (bookings before) ∷ [])
        ≡ length (loop_results before) + length (filter_map (λ (a : Access). a.fills) (record { result = r; fills = if b then None else Some (waiting before) } ∷ []))
    go true h = ap (λ n. n + 0) h
    go false h = ap (λ n. n + 1) h
loops_count script (s ∷ before) = ap length (append-nil (loops script before)) ∙ loops_count script before

own_few : (script before : List Statement) (s : Statement) → length (own_loop script before s) ≤ 1
own_few script before (Print r) = grind arith
own_few script before s = omega arith

-- at most one loop for each line
pub loops_few : (script before : List Statement) → length (loops script before) ≤ length before
loops_few script [] = omega arith
loops_few script (s ∷ before) =
    let n = loops_few script before in let m = own_few script before s in let e = length-append (loops script before) (own_loop script before s) in omega (arith, n, m, e)

-- a Print of what is filled runs no loop, and any other a new one
again : (before : List Statement) (r : List ℕ) → among r (filled before) ≡ true → loop_results (Print r ∷ before) ≡ loop_results before
again before r h = grind (arith, filter_map-append, append-nil)

anew : (before : List Statement) (r : List ℕ) → among r (filled before) ≡ false → loop_results (Print r ∷ before) ≡ loop_results before ++ waiting before ∷ []
anew before r h = grind (arith, filter_map-append)

among_waiting : (test : Booked → Bool) (bs : List Booked) (j : ℕ) (b : Booked) → slice_get bs j ≡ Some b → test b ≡ true → among b.name (names_of (filter test bs)) ≡ true
among_waiting test [] j b h e = cc h
among_waiting test (c ∷ bs) zero b h e = grind (arith, itself)
among_waiting test (c ∷ bs) (suc j) b h e = grind (arith, among_waiting test bs j b h e)

among_fewer : (test : Booked → Bool) (x : List ℕ) (bs : List Booked) → among x (names_of bs) ≡ false → among x (names_of (filter test bs)) ≡ false
among_fewer test x [] h = refl
among_fewer test x (b ∷ bs) h = grind (arith, or_parts, among_fewer test x bs)

-- what isn't filled has no loop
no_filler : (before : List Statement) (x : List ℕ) → among x (filled before) ≡ false → filler_of before x ≡ None
no_filler [] x h = refl
no_filler (Print p ∷ before) x h = go (among p (filled before)) refl h (no_filler before x)
  where
    go : (b : Bool) → among p (filled before) ≡ b → among x (if b then filled before else names_of (bookings before)) ≡ false → (among x (filled before) ≡ false → filler_of before x ≡ None) → filler_of (Print p ∷ before) x ≡ None
    go true e q next = ap (λ ls. place (λ bs. among x (names_of bs)) ls) (again before p e) ∙ next q
    go false e q next = grind (arith, anew, place_end, filled_first, among_less, among_fewer)
no_filler (s ∷ before) x h = no_filler before x h

-- ---- one line more

module _ (script before : List Statement) where
  unchanged : (s : Statement) (t : LoopTables) → AreLoops script before t → own_loop script before s ≡ [] → accesses (s ∷ before) ≡ accesses before → filled_count (s ∷ before) ≡ filled_count before → AreLoops script (s ∷ before) t
  unchanged s t h l a f = grind (arith, append-nil)

  -- a line that is no Print
  loops_kept : (s : Statement) (t : LoopTables) → ((r : List ℕ) → s ≡ Print r → ⊥) → AreLoops script before t → AreLoops script (s ∷ before) t
  loops_kept (Print r) t is h = absurd (is r refl)
  loops_kept s t is h = unchanged s t h refl refl refl

  module _ (r : List ℕ) (turn : IsNamedInTurn before (Print r)) (begins : BeginsWith script before) (n : ℕ) (number : place (λ (b : Booked). same b.name r) (bookings script) ≡ Some n) where
    pub own_place : place (λ (b : Booked). same b.name r) (bookings before) ≡ Some n
    own_place = sym (printed_place script before r turn begins) ∙ number

    -- a Print of a result that was filled before runs no loop
    pub print_again : (t : LoopTables) → AreLoops script before t → n < length t.fillers.items → AreLoopsOf script (Print r ∷ before) (accesses before) t
    print_again t h lt = record {
      loops = h.loops ∙ sym (ap (λ b. loops script before ++ (if b then [] else passes_from script (λ (c : Booked). not (among c.name (filled before))) 0 (bookings before) ∷ [])) filled_now ∙ append-nil (loops script before));
      prints = h.prints;
      filling = h.filling ∙ (λ i. map (λ (a : Access). sym (same_filler a.result) i) (accesses before));
      count = h.count ∙ sym (ap (λ b. if b then filled_count before else length (bookings before)) filled_now);
      fillers = λ m k b p q. same_filler b.name ∙ h.fillers m k b p q;
    }
      where
        filled_now : among r (filled before) ≡ true
        filled_now = let c = h.count in is_filled script before r n own_place (omega (arith, c, lt))

        same_filler : (x : List ℕ) → filler_of (Print r ∷ before) x ≡ filler_of before x
        same_filler x = ap (place (λ bs. among x (names_of bs))) (again before r filled_now)

    -- the Print itself, whose result and loop are listed last
    pub noted : (mid new : LoopTables) (l : ℕ) → AreLoopsOf script (Print r ∷ before) (accesses before) mid → slice_get mid.fillers.items n ≡ Some l → new.loops.items ≡ mid.loops.items → new.fillers.items ≡ mid.fillers.items
        → new.prints.items ≡ mid.prints.items ++ n ∷ [] → new.filling.items ≡ mid.filling.items ++ l ∷ [] → AreLoops script (Print r ∷ before) new
    noted mid new l h at loops_so fillers_so prints_so filling_so = record {
      loops = loops_so ∙ h.loops;
      prints = ap (map (λ m. Some m)) prints_so ∙ map-append (λ m. Some m) mid.prints.items (n ∷ []) ∙ (λ i. h.prints i ++ sym number i ∷ [])
          ∙ sym (map-append (λ (a : Access). result_number script a.result) (accesses before) (access ∷ []));
      filling = ap (map (λ m. Some m)) filling_so ∙ map-append (λ m. Some m) mid.filling.items (l ∷ []) ∙ (λ i. h.filling i ++ sym mine i ∷ [])
          ∙ sym (map-append (λ (a : Access). filler_of (Print r ∷ before) a.result) (accesses before) (access ∷ []));
      count = ap length fillers_so ∙ h.count;
      fillers = λ m k b p q. h.fillers m k b (ap (λ xs. slice_get xs m) (sym fillers_so) ∙ p) q;
    }
      where
        access : Access
        access = record { result = r; fills = filled_by before r }

        mine : filler_of (Print r ∷ before) r ≡ Some l
        mine =
            let p = place_at (λ (b : Booked). same b.name r) (bookings script) n number in
            subst (λ (x : List ℕ). filler_of (Print r ∷ before) x ≡ Some l) (names_equal p.0.name r p.2) (h.fillers n l p.0 at p.1)

    -- a Print that fills all results that wait
    pub print_fills : (old mid : LoopTables) (passes : List Pass) (spot count : ℕ) → AreNamedInTurn before → AreLoops script before old → length old.fillers.items ≤ n
        → passes ≡ passes_from script (λ (c : Booked). not (among c.name (filled before))) 0 (bookings before) → spot ≡ length old.loops.items → count ≡ length (bookings before) - length old.fillers.items
        → mid.loops.items ≡ old.loops.items ++ passes ∷ [] → mid.fillers.items ≡ old.fillers.items ++ replicate count spot
        → mid.prints.items ≡ old.prints.items → mid.filling.items ≡ old.filling.items → AreLoopsOf script (Print r ∷ before) (accesses before) mid
    print_fills old mid passes spot count named h le ps at many more_loops more_fillers prints_so filling_so = record {
      loops = more_loops ∙ (λ i. h.loops i ++ ps i ∷ []) ∙ sym (ap (λ b. loops script before ++ (if b then [] else passes_from script (λ (c : Booked). not (among c.name (filled before))) 0 (bookings before) ∷ [])) waits_now);
      prints = ap (map (λ m. Some m)) prints_so ∙ h.prints;
      filling = ap (map (λ m. Some m)) filling_so
          ∙ some_kept (λ (a : Access). filler_of before a.result) (λ (a : Access). filler_of (Print r ∷ before) a.result) old.filling.items (accesses before) (λ a l e. kept a.result l e) h.filling;
      count = ap length more_fillers ∙ length-append old.fillers.items _ ∙ ap (λ m. length old.fillers.items + m) (length-replicate count spot) ∙ whole
          ∙ sym (ap (λ b. if b then filled_count before else length (bookings before)) waits_now);
      fillers = λ m l b p q. filler m l b (of_joined old.fillers.items (replicate count spot) m l (ap (λ xs. slice_get xs m) (sym more_fillers) ∙ p)) q;
    }
      where
        waits_now : among r (filled before) ≡ false
        waits_now = let c = h.count in is_waiting script before r n own_place (omega (arith, c, le))

        place_now : spot ≡ length (loop_results before)
        place_now = at ∙ ap length h.loops ∙ loops_count script before

        whole : length old.fillers.items + count ≡ length (bookings before)
        whole = let c = h.count in let f = filled_few before in omega (arith, c, f, many)

        kept : (x : List ℕ) (l : ℕ) → filler_of before x ≡ Some l → filler_of (Print r ∷ before) x ≡ Some l
        kept x l e = ap (place (λ bs. among x (names_of bs))) (anew before r waits_now) ∙ place_in_more (λ bs. among x (names_of bs)) (loop_results before) (waiting before ∷ []) l e

        -- a result that waits is filled by the new loop
        next : (m : ℕ) (b : Booked) → slice_get (bookings before) m ≡ Some b → filled_count before ≤ m → filler_of (Print r ∷ before) b.name ≡ Some spot
        next m b q l = grind (arith, filled_first, later_named, anew, waits_now, place_end, no_filler, among_waiting, place_now)

        repeated : (k i x y : ℕ) → slice_get (replicate k x) i ≡ Some y → (x ≡ y) × (i < k)
        repeated zero i x y e = cc e
        repeated (suc k) zero x y e = grind arith
        repeated (suc k) (suc i) x y e = grind (arith, repeated k i x y)

        filler : (m l : ℕ) (b : Booked)
            → (slice_get old.fillers.items m ≡ Some l) ⊎ ((i : ℕ) × (m ≡ length old.fillers.items + i) × (slice_get (replicate count spot) i ≡ Some l))
            → slice_get (bookings script) m ≡ Some b → filler_of (Print r ∷ before) b.name ≡ Some l
        filler m l b (inl e) q = kept b.name l (h.fillers m l b e q)
        filler m l b (inr t) q =
            let c = h.count in let p = repeated count t.0 spot l t.2 in
            let e = t.1 in let lt = p.1 in
            let below : m < length (bookings before) = omega (arith, e, lt, many) in
            let there : slice_get (bookings before) m ≡ Some b = ap (λ xs. slice_get xs m) (sym begins) ∙ get_taken (length (bookings before)) m (bookings script) below ∙ q in
            next m b there (omega (arith, c, e)) ∙ ap (λ k. Some k) p.0

-- the passes that are read off the rows from the first that waits on
pub open_passes : (script before : List Statement) → AreNamedInTurn before → BeginsWith script before → (rows : List ResultRow) → AreRowsOf script (bookings script) rows → (k m : ℕ) → k ≡ filled_count before → m ≡ length (bookings before)
    → passes_of_rows script (length (variations script)) k (take (m - k) (drop k rows)) ≡ passes_from script (λ (c : Booked). not (among c.name (filled before))) 0 (bookings before)
open_passes script before turn begins rows rs k m e f =
    (λ i. passes_of_rows script (length (variations script)) (e i) (take (f i - e i) (drop (e i) rows)))
    ∙ ap (passes_of_rows script (length (variations script)) (filled_count before)) (sym (drop-take (filled_count before) (length (bookings before) - filled_count before) rows) ∙ ap (λ j. drop (filled_count before) (take j rows)) whole)
    ∙ sym (loop_is script before turn (take (length (bookings before)) rows) (subst (λ (bs : List Booked). AreRowsOf script bs (take (length (bookings before)) rows)) begins (zip_first (IsRowOf script) (length (bookings before)) (bookings script) rows rs)))
  where
    whole : filled_count before + (length (bookings before) - filled_count before) ≡ length (bookings before)
    whole = let l = filled_few before in omega (arith, l)

-- the results of the statements before the last begin those of all
pub begins_further : (script before : List Statement) (s : Statement) → BeginsWith script (s ∷ before) → BeginsWith script before
begins_further script before s h =
    let c = length-append (bookings before) (booked_by before s) in
    sym (take-take (length (bookings before)) (length (bookings before ++ booked_by before s)) (bookings script) (omega (arith, c))) ∙ ap (take (length (bookings before))) h ∙ take-append_seam (bookings before) (booked_by before s)

-- the lists before the first line
pub none_yet : (script : List Statement) (t : LoopTables) → t.loops.items ≡ [] → t.prints.items ≡ [] → t.filling.items ≡ [] → t.fillers.items ≡ [] → AreLoops script [] t
none_yet script t l p f k = record {
  loops = l;
  prints = ap (map (λ n. Some n)) p;
  filling = ap (map (λ n. Some n)) f;
  count = ap length k;
  fillers = λ n m b q e. nothing n m (ap (λ xs. slice_get xs n) (sym k) ∙ q);
}
  where
    nothing : {A : Type 0} (n m : ℕ) → slice_get {X = ℕ} [] n ≡ Some m → A
    nothing n m e = cc e

-- there are at most as many results as lines
pub bookings_few : (before : List Statement) → length (bookings before) ≤ length before
bookings_few [] = omega arith
bookings_few (s ∷ before) = let n = bookings_few before in let m = length-append (bookings before) (booked_by before s) in let o = own_booked s in omega (arith, n, m, o)
  where
    own_booked : (s : Statement) → length (booked_by before s) ≤ 1
    own_booked s = grind arith

-- what is booked begins what all have
pub begun_few : (script before : List Statement) → BeginsWith script before → length (bookings before) ≤ length (bookings script)
begun_few script before h = let n = ap length h in let m = take_no_longer (length (bookings before)) (bookings script) in omega (arith, n, m)

-- ---- the answers of the code

-- where a Print looks
pub in_bounds : (script before : List Statement) (t : LoopTables) (rows : List ResultRow) → AreLoops script before t → BeginsWith script before → AreRowsOf script (bookings script) rows
    → (length t.fillers.items ≤ length (bookings before)) × (length (bookings before) ≤ length rows) × (length t.loops.items ≤ length before)
in_bounds script before t rows h begins rs = grind (arith, filled_few, begun_few, AllZip-long, loops_few)

pub print_no_row : (script before : List Statement) (r : List ℕ) (rows : List ResultRow) → IsNamedInTurn before (Print r) → BeginsWith script before → AreRowsOf script (bookings script) rows
    → None ≡ place (λ (x : ResultRow). same x.name r) rows → ⊥
print_no_row script before r rows turn begins rs e = placed (bookings before) r turn (sym (printed_place script before r turn begins) ∙ sym (place_of_row script (bookings script) rows r rs) ∙ sym e)

-- the tables of no lines, and of lines of which the last is no Print
pub no_lines : (script : List Statement) (lines : List Line) (t : LoopTables) → length lines ≡ 0 → AreLoops script [] t → AreLoops script (statements lines) t
no_lines script [] t e h = h
no_lines script (l ∷ lines) t e h = absurd (omega (arith, e))

pub line_kept : (script : List Statement) (lines : List Line) (l : Line) (rest : List Line) (t : LoopTables) → lines ≡ l ∷ rest → ((r : List ℕ) → l.statement ≡ Print r → ⊥) → AreLoops script (statements rest) t → AreLoops script (statements lines) t
line_kept script lines l rest t e is h = subst (λ (ls : List Line). AreLoops script (statements ls) t) (sym e) (loops_kept script (statements rest) l.statement t is h)
