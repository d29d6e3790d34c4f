-- The passes of a loop by numbers and by names, and the place of a result among them.
use Rattle.lemmas.proofs.{◌≡◌, ℕ, zero, suc, ◌+◌, ◌<◌, Bool, true, false, cond, List, [], ◌∷◌, ◌++◌, map, length, Some, refl, sym, ◌∙◌, ap, arith, slice_get, if◌then◌else◌, append_assoc, count_by, filter, nat_eq, ◌⊎◌, not, ◌||◌, take, None, subst, ◌&&◌, drop, Option, length-append, is_none, option_map, ◌*◌, ◌≤◌, ap₂, inl, inr, append-nil, ◌^◌, get_or, unwrap_or, take-length, before_or_last, cond_both, cons_option, filter_map-append, length-map, list_any, ne_eqb, or_right, position_or_len, same_some, slice_get_within, sum_by-append, sum_by-cons, eq-eqb, flat_map-append, kept_at, mapped_at, nat_tests, position, slice_get-map, something_at, take-append-drop, take-append_seam, take_next, All-map, All-permutation, AllByRecursion, IsPermutation-reverse, recursion_from_All, same_Some, take_all}
use Rattle.std.specs.Prelude.{⊤}
use Rattle.rdf_values.specs.{Booked, has_variations, Statement, among, bookings, filled, names_of, same, waiting, is_watched, Pass, Under, passes_of, result_depends, Variation, variations, scope_of, place, ActionAt, ActionKind, are_edges, AreAccepted, booked_by, can_watch, check, check_edges, FunctionNames, GraphCause, history, is_result, IsBookable, IsShort, Line, Path, refuse_unless, result_is, Scope, Script, fn_names, named_before}
use Rattle.rdf_model.specs.{Access, accesses, filled_by, loop_results, kind_in, kinds_in, loop_passes}
use Rattle.graph_numbers.specs.{numbered_pass, Pass as NumberedPass, passes_from, result_passes, loops, booked_statements, graph_loops, graph_results, graph_variations, GraphView, pass_at, ResultAt, under_at, IsGraph, graph_filters, graph_under, kind_of_booking, ResultKind}
use Rattle.rdf_values.specs.declared.scripts.statement.Statement.TheVariants.{Print, Action, Watch}
use Rattle.rdf_model.proofs.Accepted.{itself, names_equal, verdict_is_the_first_refusal, place_in_more, both_none, third, unless_holds, filled_is_booked}
use Rattle.graph_numbers.proofs.Placing.{Extends, itself as all_of_it, shorter, by_test, itself as same_itself, of_joined, only_at}
use Rattle.graph_numbers.proofs.Covering.{booked_kept, loops_are, result_are, booked_are}
use Rattle.graph.specs.{AreNamedInTurn}
use Rattle.graph.proofs.Looped.{later_named, all_in_turn}
use Rattle.graph.proofs.Listing.{any_map}
use Rattle.event_loop.specs.{fills, IsPassOf, IsPlaced, loop_filling, IsOfPasses, places_before}
use Rattle.loop_pieces.specs.{place_if_watched, watched_from, watched_places}
use Rattle.loop_keys.proofs.EvaluateLaws.{of_mapped, of_chosen, accepted_of}
use Rattle.loop_keys.proofs.PassNumbers.{actions_few, loop_few as passes_few, pass_of as pass_numbered, passes_count, result_inside, result_there, few_passes, kinds_next, covered_count, read_pass}
use mir.Val.{bool_byte}
use Rattle.result_text.proofs.PassLines.{is_pass_at, result_within as booked_within, action_booking}
use Rattle.result_text.proofs.Within.{is_in_for, variation_within}
use Rattle.std.proofs.lemmas.Bool.{and_parts, both_ways, or_cases, or_left}
use Rattle.histograms.specs.{IsAxis}
use Rattle.actions.specs.{HasEdges}
use Rattle.cluster_tally.specs.{CanWatch, IsFresh, TallyView}
use Rattle.loop_keys.specs.{IsJob, job_graph, JobView, numbered_in, numbered_passes, passes_in}

-- ---- which results a loop fills, and the passes of a result in a loop, by the numbers of results and by names

-- the pass is of the result of that number
abbrev pub is_of : ℕ → NumberedPass → Bool
is_of r p = nat_eq p.result r

-- each of the passes is, or none
abbrev pub AllAre : Bool → ℕ → List NumberedPass → Type 0
AllAre b r [] = ⊤
AllAre b r (p ∷ ps) = (is_of r p ≡ b) × AllAre b r ps

pub none_both : (r : ℕ) (xs ys : List NumberedPass) → AllAre false r xs → AllAre false r ys → AllAre false r (xs ++ ys)
none_both r [] ys h k = k
none_both r (x ∷ xs) ys h k = (h.0, none_both r xs ys h.1 k)

varied_are : (b : Bool) (r n : ℕ) → nat_eq n r ≡ b → (vs : List ℕ) → AllAre b r (map (λ v. numbered_pass n (Some v)) vs)
varied_are b r n is [] = tt
varied_are b r n is (v ∷ vs) = (is, varied_are b r n is vs)

-- what is met among those that pass a test stands in the list
pub kept_any : (p test : Booked → Bool) (bs : List Booked) → list_any p (filter test bs) ≡ true → (k : ℕ) × (c : Booked) × (slice_get bs k ≡ Some c) × (test c ≡ true) × (p c ≡ true)
kept_any p test [] h = absurd (cc)
kept_any p test (c ∷ bs) h =
    let later : list_any p (filter test bs) ≡ true → (k : ℕ) × (d : Booked) × (slice_get (c ∷ bs) k ≡ Some d) × (test d ≡ true) × (p d ≡ true) =
    λ q. (let r = kept_any p test bs q in (suc r.0, r.1, r.2, r.3, r.4)) in
    by_test (test c) (λ met. by_test (p c) (λ is. (0, c, refl, met, is)) (λ not_it. later (rw (met, not_it) at h))) (λ other. later (rw other at h))

module _ (script : List Statement) where
  pub all_are : (t : Bool) (r n : ℕ) (b : Booked) → nat_eq n r ≡ t → AllAre t r (result_passes script n b)
  all_are t r n b is = (is, cond_both (has_variations script b.name) _ _ (AllAre t r) (λ _. varied_are t r n is _) (λ _. tt))

  -- behind it no pass is of the result
  pub later_none : (test : Booked → Bool) (r n : ℕ) → r < n → (bs : List Booked) → AllAre false r (passes_from script test n bs)
  later_none test r n lt [] = tt
  later_none test r n lt (b ∷ bs) =
      let own = all_are false r n b (ne_eqb n r (λ q. omega arith)) in
      grind (arith, none_both, cond_both, own, later_none test r (suc n) (omega arith) bs)

  -- the passes of the result stand together in the loop
  pub record IsFound (r : ℕ) (b : Booked) (ps : List NumberedPass) : Type 0 where
    pub start : List NumberedPass
    pub rest : List NumberedPass
    pub numbered : ps ≡ start ++ (result_passes script r b ++ rest)
    pub none_before : AllAre false r start
    pub none_after : AllAre false r rest

  pub split_at : (test : Booked → Bool) (r n k : ℕ) (bs : List Booked) (b : Booked) → n + k ≡ r → slice_get bs k ≡ Some b → test b ≡ true → IsFound r b (passes_from script test n bs)
  split_at test r n k [] b e at met = absurd (cc)
  split_at test r n zero (c ∷ bs) b e at met =
      let same_result : c ≡ b = cc in
      let same_number : n ≡ r = omega arith in
      let first : test c ≡ true = ap test same_result ∙ met in
      record {
        start = [];
        rest = passes_from script test (suc n) bs;
        numbered = ap (λ (t : Bool). (if t then result_passes script n c else []) ++ passes_from script test (suc n) bs) first ∙ ap (λ (m : ℕ). result_passes script m c ++ passes_from script test (suc n) bs) same_number ∙ ap (λ (x : Booked). result_passes script r x ++ passes_from script test (suc n) bs) same_result;
        none_before = tt;
        none_after = later_none test r (suc n) (omega arith) bs;
      }
  split_at test r n (suc k) (c ∷ bs) b e at met =
      let s = split_at test r (suc n) k bs b (omega arith) at met in
      let own : List NumberedPass = if test c then result_passes script n c else [] in
      record {
        start = own ++ s.start;
        rest = s.rest;
        numbered = ap (λ l. own ++ l) s.numbered ∙ sym (append_assoc own s.start (result_passes script r b ++ s.rest));
        none_before = none_both r own s.start
            (cond_both (test c) _ _ (AllAre false r) (λ _. all_are false r n c (ne_eqb n r (λ q. omega arith))) (λ _. tt)) s.none_before;
        none_after = s.none_after;
      }

-- ---- what is found

pub position_first : (r : ℕ) (xs : List NumberedPass) (p : NumberedPass) (ps : List NumberedPass) → AllAre false r xs → is_of r p ≡ true → position_or_len (is_of r) (xs ++ p ∷ ps) ≡ length xs
position_first r [] p ps h met = rw met refl
position_first r (x ∷ xs) p ps h met = let first = h.0 in let rest = position_first r xs p ps h.1 met in rw first (omega (arith, rest))

count_each : (b : Bool) (r : ℕ) (ps : List NumberedPass) → AllAre b r ps → count_by (is_of r) ps ≡ (if b then length ps else 0)
count_each b r [] h = grind arith
count_each b r (p ∷ ps) h = let one = sum_by-cons (λ x. cond {A = ℕ} (is_of r x) 1 0) p ps in grind (arith, one, h.0, count_each b r ps h.1)

pub count_own : (r : ℕ) (xs ps ys : List NumberedPass) → AllAre false r xs → AllAre true r ps → AllAre false r ys → count_by (is_of r) (xs ++ (ps ++ ys)) ≡ length ps
count_own r xs ps ys h all k =
    let both = sum_by-append (λ x. cond {A = ℕ} (is_of r x) 1 0) in
    omega (arith, both xs (ps ++ ys), both ps ys, count_each false r xs h, count_each true r ps all, count_each false r ys k)

among_front : (bs : List Booked) (i k : ℕ) (b : Booked) (name : List ℕ) → slice_get bs i ≡ Some b → i < k → same name b.name ≡ true → among name (names_of (take k bs)) ≡ true
among_front [] i k b name at lt is = absurd (cc)
among_front (c ∷ bs) i zero b name at lt is = absurd (omega arith)
among_front (c ∷ bs) zero (suc k) b name at lt is = let one : same name c.name ≡ true = ap (λ (x : Booked). same name x.name) (same_some at) ∙ is in ap (λ (t : Bool). t || among name (names_of (take k bs))) one
among_front (c ∷ bs) (suc i) (suc k) b name at lt is = or_right (same name c.name) (among name (names_of (take k bs))) (among_front bs i k b name at (omega arith) is)

-- ---- names

one_name : (script : List Statement) → AreNamedInTurn script → (i j : ℕ) (b c : Booked) → slice_get (bookings script) i ≡ Some b → slice_get (bookings script) j ≡ Some c → same c.name b.name ≡ true → i < j → ⊥
one_name script turn i j b c at there is lt = cc (later_named script turn j c there (i + 1) (omega arith), among_front (bookings script) i (i + 1) b c.name at (omega arith) is)

-- results of one name have one number
pub one_number : (script : List Statement) → AreNamedInTurn script → (i j : ℕ) (b c : Booked) → slice_get (bookings script) i ≡ Some b → slice_get (bookings script) j ≡ Some c → same b.name c.name ≡ true → i ≡ j
one_number script turn i j b c at there is =
    let equal : b.name ≡ c.name = names_equal b.name c.name is in
    grind (arith, one_name script turn i j b c at there (ap (same c.name) equal ∙ itself c.name), one_name script turn j i c b there at is)

-- ---- loops

-- the result waits behind these statements
abbrev pub waits : List Statement → Booked → Bool
waits before b = not (among b.name (filled before))

module _ (script : List Statement) where
  -- the loop is that of a Print behind some statements
  pub record IsLoop (ps : List NumberedPass) (results : List Booked) : Type 0 where
    pub before : List Statement
    pub begins : Extends before script
    pub numbered : ps ≡ passes_from script (waits before) 0 (bookings before)
    pub named : results ≡ waiting before

  pub many : (before : List Statement) → Extends before script → length (loops script before) ≡ length (loop_results before)
  many before e = grind (arith, loops_are, length-map)

  pub loop_at : (before : List Statement) → Extends before script → (l : ℕ) (ps : List NumberedPass) (results : List Booked) → slice_get (loops script before) l ≡ Some ps → slice_get (loop_results before) l ≡ Some results → IsLoop ps results
  loop_at [] e l ps results at there = absurd (cc)
  loop_at (Print result ∷ before) e l ps results at there =
      go (among result (filled before)) (loop_at before (shorter (Print result) before script e) l ps results) at
      (ap (λ x. slice_get x l) (sym (filter_map-append (λ (a : Access). a.fills) (accesses before) (record { result = result; fills = filled_by before result } ∷ []))) ∙ there)
    where
      ends : Extends before script
      ends = shorter (Print result) before script e

      own : IsLoop (passes_from script (waits before) 0 (bookings before)) (waiting before)
      own = record { before = before; begins = ends; numbered = refl; named = refl }

      both : (slice_get (loops script before) l ≡ Some ps → slice_get (loop_results before) l ≡ Some results → IsLoop ps results)
          → (slice_get (loops script before) l ≡ Some ps) ⊎ ((l ≡ length (loops script before)) × (passes_from script (waits before) 0 (bookings before) ≡ ps))
          → (slice_get (loop_results before) l ≡ Some results) ⊎ ((l ≡ length (loop_results before)) × (waiting before ≡ results)) → IsLoop ps results
      both next h k = grind (arith, slice_get_within, many, ends, own)

      go : (b : Bool) → (slice_get (loops script before) l ≡ Some ps → slice_get (loop_results before) l ≡ Some results → IsLoop ps results)
          → slice_get (loops script before ++ (if b then [] else passes_from script (waits before) 0 (bookings before) ∷ [])) l ≡ Some ps
          → slice_get (loop_results before ++ cons_option (if b then None else Some (waiting before)) []) l ≡ Some results → IsLoop ps results
      go b next p q = grind (arith, append-nil, both, before_or_last)
  loop_at (s ∷ before) e l ps results at there = loop_at before (shorter s before script e) l ps results (ap (λ x. slice_get x l) (sym (append-nil (loops script before))) ∙ at) there

  -- in a loop that fills the result all its passes stand together
  pub is_found : AreNamedInTurn script → (r : ℕ) (b : Booked) → slice_get (bookings script) r ≡ Some b → (l : ℕ) (ps : List NumberedPass) (results : List Booked)
      → slice_get (loops script script) l ≡ Some ps → slice_get (loop_results script) l ≡ Some results → fills b.name results ≡ true → IsFound script r b ps
  is_found turn r b its l ps results at there filled =
      let loop = loop_at script all_of_it l ps results at there in
      let before = loop.before in
      let test = waits before in
      let k = kept_any (λ (c : Booked). same b.name c.name) test (bookings before) (sym (any_map (λ (c : Booked). c.name) (same b.name) (waiting before)) ∙ ap (fills b.name) (sym loop.named) ∙ filled) in
      let kept = booked_kept before script loop.begins k.0 k.1 k.2 in
      let number : r ≡ k.0 = one_number script turn r k.0 b k.1 its kept k.4 in
      let is : k.1 ≡ b = same_some (sym (ap (slice_get (bookings script)) number ∙ kept) ∙ its) in
      subst (IsFound script r b) (sym loop.numbered)
      (split_at script test r 0 r (bookings before) b (omega arith) (ap (slice_get (bookings before)) number ∙ k.2 ∙ ap (λ (x : Booked). Some x) is) (ap test (sym is) ∙ k.3))

-- the passes of some numbers have these names
abbrev pub AreDecoded : List Statement → List NumberedPass → List Pass → Type 0
AreDecoded script ps qs = map (pass_at script) ps ≡ map (λ (q : Pass). Some q) qs

-- ---- a pass

pub pass_is : (script : List Statement) (p : NumberedPass) (q : Pass) → pass_at script p ≡ Some q → (slice_get (bookings script) p.result ≡ Some q.result) × (q.under ≡ under_at script p.variation)
pass_is script p q h = grind (arith, same_some)

-- the graph's row of the result
pub row_is : (g : GraphView) (r : ℕ) (b : Booked) → slice_get (bookings (booked_statements g)) r ≡ Some b → option_map (λ (x : ResultAt). x.booked) (slice_get (graph_results g) r) ≡ Some b
row_is g r b at = sym (slice_get-map (λ (x : ResultAt). x.booked) (graph_results g) r) ∙ ap (λ (bs : List Booked). slice_get bs r) (booked_are g.header g.names (booked_statements g)) ∙ at

pub booked_row : (g : GraphView) (r : ℕ) (x : ResultAt) → slice_get (graph_results g) r ≡ Some x → slice_get (bookings (booked_statements g)) r ≡ Some x.booked
booked_row g r x at = ap (λ (bs : List Booked). slice_get bs r) (sym (booked_are g.header g.names (booked_statements g))) ∙ slice_get-map (λ (y : ResultAt). y.booked) (graph_results g) r ∙ ap (option_map (λ (y : ResultAt). y.booked)) at

-- what is known of the row is known of what was booked
pub of_row : {A : Type 0} (f : Booked → A) (o : Option ResultAt) (b : Booked) (a : A) → option_map (λ (x : ResultAt). x.booked) o ≡ Some b → option_map (λ (x : ResultAt). f x.booked) o ≡ Some a → a ≡ f b
of_row f o b a h k = grind (arith, same_some)

-- ---- counts of a pass

module _ (g : GraphView) (p : NumberedPass) (q : Pass) (is : pass_at (booked_statements g) p ≡ Some q) where
  pub actions_are : (n : ℕ) → option_map (λ (x : ResultAt). length (kind_in x.booked.booking)) (slice_get (graph_results g) p.result) ≡ Some n → n ≡ length (kind_in q.result.booking)
  actions_are n h = of_row (λ (b : Booked). length (kind_in b.booking)) (slice_get (graph_results g) p.result) q.result n (row_is g p.result q.result (pass_is (booked_statements g) p q is).0) h

  pub varied_unwatched : (n v : ℕ) → p.variation ≡ Some v → IsPassOf g p → place_if_watched (booked_statements g) n q ≡ []
  varied_unwatched n v e of =
      let at = something_at (graph_variations g) v (of.its_variation v e) in
      let under : q.under ≡ Some at.0 = (pass_is (booked_statements g) p q is).1 ∙ ap (under_at (booked_statements g)) e ∙ at.1 in
      ap (λ (u : Under). if is_none u && is_watched (booked_statements g) q.result.name then map (λ k. n) (kind_in q.result.booking) else []) under

  -- the nominal pass of the row
  pub nominal_is : p.variation ≡ None → (x : ResultAt) → slice_get (graph_results g) p.result ≡ Some x → ◌≡◌ {A = Pass} (record { result = x.booked; under = None }) q
  nominal_is e x at = grind (arith, pass_is, booked_row, same_some)

-- ---- watched places

pub watched-append : (script : List Statement) (n : ℕ) (ps qs : List Pass) → watched_from script n (ps ++ qs) ≡ watched_from script n ps ++ watched_from script (n + length (kinds_in ps)) qs
watched-append script n [] qs = let e : n ≡ n + 0 = omega arith in ap (λ m. watched_from script m qs) e
watched-append script n (p ∷ ps) qs =
    let next = watched-append script (n + length (kind_in p.result.booking)) ps qs in
    let many = length-append (kind_in p.result.booking) (kinds_in ps) in
    let e : n + length (kind_in p.result.booking) + length (kinds_in ps) ≡ n + length (kinds_in (p ∷ ps)) = omega (arith, many) in
    ap (λ l. place_if_watched script n p ++ l) (next ∙ ap (λ m. watched_from script (n + length (kind_in p.result.booking)) ps ++ watched_from script m qs) e)
    ∙ sym (append_assoc (place_if_watched script n p) (watched_from script (n + length (kind_in p.result.booking)) ps) (watched_from script (n + length (kinds_in (p ∷ ps))) qs))

-- how many places a pass has doesn't hang on which they are
place_count : (script : List Statement) (n m : ℕ) (p : Pass) → length (place_if_watched script n p) ≡ length (place_if_watched script m p)
place_count script n m p = grind (arith, by_test, length-map)

-- ---- one pass more

pub one_more : (script : List Statement) (ps : List NumberedPass) (qs : List Pass) (i : ℕ) (p : NumberedPass) → AreDecoded script ps qs → slice_get ps i ≡ Some p → (q : Pass) × (pass_at script p ≡ Some q) × (take (i + 1) qs ≡ take i qs ++ q ∷ [])
one_more script ps qs i p e at =
    let q = of_mapped (λ (q : Pass). Some q) qs i (pass_at script p) (ap (λ l. slice_get l i) (sym e) ∙ mapped_at (pass_at script) ps i p at) in (q.0, sym q.2, take_next qs i q.0 q.1)

pub kinds_more : (qs : List Pass) (q : Pass) → length (kinds_in (qs ++ q ∷ [])) ≡ length (kinds_in qs) + length (kind_in q.result.booking)
kinds_more qs q =
    omega (arith, ap length (flat_map-append (λ (p : Pass). kind_in p.result.booking) qs (q ∷ [])), length-append (kinds_in qs) (kind_in q.result.booking ++ []), length-append (kind_in q.result.booking) [])

pub watched_more : (script : List Statement) (qs : List Pass) (q : Pass) → length (watched_places script (qs ++ q ∷ [])) ≡ length (watched_places script qs) + length (place_if_watched script 0 q)
watched_more script qs q =
    let all = ap (λ (l : List ℕ). length l) (watched-append script 0 qs (q ∷ [])) in
    let both = length-append (watched_places script qs) (place_if_watched script (0 + length (kinds_in qs)) q ++ []) in
    let own = length-append (place_if_watched script (0 + length (kinds_in qs)) q) [] in
    let same_count = place_count script (0 + length (kinds_in qs)) 0 q in
    omega (arith, all, both, own, same_count)

-- what the passes up to the next one count for
pub next_counts : (g : GraphView) (ps : List NumberedPass) (i : ℕ) (p : NumberedPass) (actions watched_ones a w : ℕ) (b : Bool) → slice_get ps i ≡ Some p
    → ((qs : List Pass) → AreDecoded (booked_statements g) ps qs → (actions ≡ length (kinds_in (take i qs))) × (watched_ones ≡ length (watched_places (booked_statements g) (take i qs))))
    → option_map (λ (x : ResultAt). length (kind_in x.booked.booking)) (slice_get (graph_results g) p.result) ≡ Some a → w ≡ bool_byte b
    → ((n : ℕ) (q : Pass) → pass_at (booked_statements g) p ≡ Some q → place_if_watched (booked_statements g) n q ≡ (if b then n ∷ [] else []))
    → (qs : List Pass) → AreDecoded (booked_statements g) ps qs → (actions + a ≡ length (kinds_in (take (i + 1) qs))) × (watched_ones + w ≡ length (watched_places (booked_statements g) (take (i + 1) qs)))
next_counts g ps i p actions watched_ones a w b h each own is told qs e = grind (arith, one_more, kinds_more, actions_are, watched_more)

-- ---- a loop

pub decoded : (g : GraphView) (l : ℕ) (ps : List NumberedPass) (results : List Booked) → slice_get (graph_loops g) l ≡ Some ps → slice_get (loop_results (booked_statements g)) l ≡ Some results → AreDecoded (booked_statements g) ps (loop_passes (booked_statements g) results)
decoded g l ps results at there = same_some (
    sym (ap (option_map (map (pass_at (booked_statements g)))) at) ∙ sym (slice_get-map (map (pass_at (booked_statements g))) (graph_loops g) l)
    ∙ ap (λ ls. slice_get ls l) (loops_are (booked_statements g) (booked_statements g) same_itself)
    ∙ slice_get-map (λ rs. map (λ (q : Pass). Some q) (loop_passes (booked_statements g) rs)) (loop_results (booked_statements g)) l
    ∙ ap (option_map (λ rs. map (λ (q : Pass). Some q) (loop_passes (booked_statements g) rs))) there
    )

-- the passes of a front of the numbers, and those of the rest
parted : (script : List Statement) (ps rest : List NumberedPass) (qs : List Pass) → AreDecoded script (ps ++ rest) qs
    → (front : List Pass) × (back : List Pass) × (qs ≡ front ++ back) × AreDecoded script ps front × AreDecoded script rest back
parted script [] rest qs e = ([], qs, refl, refl, e)
parted script (p ∷ ps) rest [] e = absurd (cc)
parted script (p ∷ ps) rest (q ∷ qs) e =
    let first : pass_at script p ≡ Some q = cc in
    let next : AreDecoded script (ps ++ rest) qs = cc in
    let r = parted script ps rest qs next in
    (q ∷ r.0, r.1, ap (λ l. q ∷ l) r.2, (λ i. first i ∷ r.3 i), r.4)

same_passes : (xs ys : List Pass) → map (λ (q : Pass). Some q) xs ≡ map (λ (q : Pass). Some q) ys → xs ≡ ys
same_passes [] [] e = refl
same_passes (x ∷ xs) (y ∷ ys) e =
    let first : x ≡ y = cc in
    let rest : map (λ (q : Pass). Some q) xs ≡ map (λ (q : Pass). Some q) ys = cc in λ i. first i ∷ same_passes xs ys rest i
same_passes xs ys e = cc e

pub taken_at : {A : Type 0} (n : ℕ) (xs : List A) (i : ℕ) (x : A) → slice_get (take n xs) i ≡ Some x → slice_get xs i ≡ Some x
taken_at n xs i x at = ap (λ l. slice_get l i) (sym (take-append-drop n xs)) ∙ kept_at (take n xs) (drop n xs) i x at

pub found_at : (r : ℕ) (xs : List NumberedPass) (p : NumberedPass) (ps : List NumberedPass) → AllAre false r xs → is_of r p ≡ true → position (is_of r) (xs ++ p ∷ ps) ≡ Some (length xs)
found_at r xs p ps h met = grind (arith, nat_tests, position_first r xs p ps h met, length-append xs (p ∷ ps))

-- ---- the passes of a result

-- each pass is of the result
abbrev pub AreOf : Booked → List Pass → Type 0
AreOf b [] = ⊤
AreOf b (p ∷ ps) = (p.result ≡ b) × AreOf b ps

pub passes_are_of : (script : List Statement) (b : Booked) → AreOf b (passes_of script b)
passes_are_of script b = (refl, cond_both (has_variations script b.name) _ _ (AreOf b) (λ _. varied (filter (λ v. result_depends v b.booking) (variations script))) (λ _. tt))
  where
    varied : (vs : List Variation) → AreOf b (map (λ v. record { result = b; under = Some v }) vs)
    varied [] = tt
    varied (v ∷ vs) = (refl, varied vs)

pub own_kinds : (b : Booked) (own : List Pass) → AreOf b own → length (kinds_in own) ≡ length own * length (kind_in b.booking)
own_kinds b [] h = omega arith
own_kinds b (p ∷ own) h =
    let both = length-append (kind_in p.result.booking) (kinds_in own) in
    let one = ap (λ (x : Booked). length (kind_in x.booking)) h.0 in
    let rest = own_kinds b own h.1 in
    omega (arith, both, one, rest)

pub kinds-append : (ps qs : List Pass) → kinds_in (ps ++ qs) ≡ kinds_in ps ++ kinds_in qs
kinds-append ps qs = flat_map-append (λ (p : Pass). kind_in p.result.booking) ps qs

-- ---- a graph

pub in_turn : (g : GraphView) → IsGraph g → AreNamedInTurn (booked_statements g)
in_turn g is = all_in_turn g.names (scope_of g.header) (booked_statements g) ((verdict_is_the_first_refusal g.names g.header g.script).0 is.accepted)

module _ (g : GraphView) (is : IsGraph g) (l : ℕ) (ps : List NumberedPass) (loop : slice_get (graph_loops g) l ≡ Some ps) where
  pub pass_of : (i : ℕ) (p : NumberedPass) → slice_get ps i ≡ Some p → IsPassOf g p
  pass_of i p at = record { its_result = booked_within g l i p (is_pass_at g l i ps p loop at); its_variation = is_in_for (length (graph_variations g)) p.variation (variation_within g l i ps p loop at) }

  module _ (results : List Booked) (there : slice_get (loop_results (booked_statements g)) l ≡ Some results) (r : ℕ) (x : ResultAt) (its : slice_get (graph_results g) r ≡ Some x) (filled : fills x.booked.name results ≡ true) where
    pub its_place : IsFound (booked_statements g) r x.booked ps
    its_place = is_found (booked_statements g) (in_turn g is) r x.booked (booked_row g r x its) l ps results loop there filled

    -- the first of them is the nominal one
    pub at_start : position (is_of r) ps ≡ Some (length its_place.start)
    at_start = ap (position (is_of r)) its_place.numbered ∙ found_at r its_place.start _ _ its_place.none_before
        (all_are (booked_statements g) true r r x.booked (eq-eqb r r refl)).0

    own_many : count_by (is_of r) ps ≡ length (passes_of (booked_statements g) x.booked)
    own_many =
        let script = booked_statements g in
        let own = result_passes script r x.booked in
        ap (count_by (is_of r)) its_place.numbered ∙ count_own r its_place.start own its_place.rest its_place.none_before
        (all_are script true r r x.booked (eq-eqb r r refl)) its_place.none_after
        ∙ sym (length-map own (pass_at script)) ∙ ap length (result_are script r x.booked (booked_row g r x its)) ∙ length-map (passes_of script x.booked) (λ (q : Pass). Some q)

    pub place_is : (n : ℕ) → position (is_of r) ps ≡ Some n → length ps ≤ 33024 → (first watched own accumulators : ℕ)
        → ((qs : List Pass) → AreDecoded (booked_statements g) (take n ps) qs → (first ≡ length (kinds_in qs)) × (watched ≡ length (watched_places (booked_statements g) qs)))
        → own ≡ count_by (is_of r) ps → option_map (λ (y : ResultAt). length (kind_in y.booked.booking)) (slice_get (graph_results g) r) ≡ Some accumulators
        → IsPlaced (booked_statements g) (loop_passes (booked_statements g) results) x.booked (record { first = first; passes = own * accumulators; watched = watched })
    place_is n at few first watched own accumulators counts own_is accumulators_is =
        let script = booked_statements g in
        let passes = loop_passes script results in
        let its_own = passes_of script x.booked in
        let front_is : take n ps ≡ its_place.start =
        ap₂ (λ (k : ℕ) (l : List NumberedPass). take k l) (same_some (sym at ∙ at_start)) its_place.numbered ∙ take-append_seam its_place.start (result_passes script r x.booked ++ its_place.rest) in
        let all_decoded = decoded g l ps results loop there in
        let parts = parted script its_place.start (result_passes script r x.booked ++ its_place.rest) passes (ap (map (pass_at script)) (sym its_place.numbered) ∙ all_decoded) in
        let behind = parted script (result_passes script r x.booked) its_place.rest parts.1 parts.4 in
        let own_same = same_passes behind.0 its_own (sym behind.3 ∙ result_are script r x.booked (booked_row g r x its)) in
        let named : passes ≡ parts.0 ++ (its_own ++ behind.1) = parts.2 ∙ ap (λ (q : List Pass). parts.0 ++ q) (behind.2 ∙ ap (λ (q : List Pass). q ++ behind.1) own_same) in
        let both = counts parts.0 (ap (map (pass_at script)) front_is ∙ parts.3) in
        let many : accumulators ≡ length (kind_in x.booked.booking) = of_row (λ (b : Booked). length (kind_in b.booking)) (slice_get (graph_results g) r) x.booked accumulators (ap (option_map (λ (y : ResultAt). y.booked)) its) accumulators_is in
        let first_is = both.0 in
        let passes_is = ap₂ (λ (m k : ℕ). m * k) (own_is ∙ own_many) many ∙ sym (own_kinds x.booked its_own (passes_are_of script x.booked)) in
        let all = ap (λ (q : List Pass). length (kinds_in q)) named in
        let front = ap (λ (q : List _). length q) (kinds-append parts.0 (its_own ++ behind.1)) in
        let back = ap (λ (q : List _). length q) (kinds-append its_own behind.1) in
        let front_count = length-append (kinds_in parts.0) (kinds_in (its_own ++ behind.1)) in
        let back_count = length-append (kinds_in its_own) (kinds_in behind.1) in
        let few_kinds = subst (λ (qs : List Pass). length (kinds_in qs) ≤ length passes) (take-length passes) (actions_few (length passes) passes) in
        let same_length : length ps ≡ length passes = sym (length-map ps (pass_at script)) ∙ ap (λ (q : List _). length q) all_decoded ∙ length-map passes (λ (q : Pass). Some q) in
        record {
          before = parts.0;
          after = behind.1;
          passes_are = named;
          first = both.0;
          passes = passes_is;
          watched = both.1;
          few = omega (arith, few, first_is, passes_is, all, front, back, front_count, back_count, few_kinds, same_length);
        }

-- few passes, by the numbers of variations
pub loop_few : (g : GraphView) → IsGraph g → (l : ℕ) (ps : List NumberedPass) → slice_get (graph_loops g) l ≡ Some ps → (vs : List Variation) (n : ℕ) → vs ≡ graph_variations g → n ≡ length vs → n ≤ 128 → length ps ≤ 33024
loop_few g is l ps loop vs n same_list count few = passes_few g is (omega (arith, ap (λ (x : List Variation). length x) same_list, count, few)) l ps loop

-- ---- each result that is printed is filled by a loop: places

-- some place is the first one
abbrev HasPlace : {A : Type 0} → (A → Bool) → List A → Type 0
HasPlace t xs = (n : ℕ) × (place t xs ≡ Some n)

place_end : {A : Type 0} (t : A → Bool) (xs : List A) (y : A) → t y ≡ true → HasPlace t (xs ++ y ∷ [])
place_end t [] y met = (0, rw met refl)
place_end t (x ∷ xs) y met = let rest = place_end t xs y met in by_test (t x) (λ e. (0, rw e refl)) (λ e. (suc rest.0, rw e (ap (option_map suc) rest.1)))

-- ---- what is filled

among_taken : (name : List ℕ) (k : ℕ) (bs : List Booked) → among name (names_of (take k bs)) ≡ true → among name (names_of bs) ≡ true
among_taken name zero bs h = absurd (cc)
among_taken name (suc k) [] h = h
among_taken name (suc k) (b ∷ bs) h = grind (arith, among_taken name k bs)

-- what is booked and not filled waits
waits_too : (name : List ℕ) (full : List (List ℕ)) (bs : List Booked) → among name full ≡ false → among name (names_of bs) ≡ true → among name (names_of (filter (λ (b : Booked). not (among b.name full)) bs)) ≡ true
waits_too name full [] out h = h
waits_too name full (b ∷ bs) out h = by_test (same name b.name)
    (λ q. (let e = ap (λ (n : List ℕ). among n full) (names_equal name b.name q) in grind (arith, q, e, out)))
    (λ q. grind (arith, q, waits_too name full bs out))

filled_has_loop : (before : List Statement) (name : List ℕ) → among name (filled before) ≡ true → HasPlace (fills name) (loop_results before)
filled_has_loop [] name h = absurd (cc)
filled_has_loop (Print p ∷ before) name h = subst (HasPlace (fills name)) (sym (filter_map-append (λ (a : Access). a.fills) (accesses before) (record { result = p; fills = filled_by before p } ∷ [])))
    (by_test (among p (filled before))
    (λ e. rw (e, append-nil (loop_results before)) (filled_has_loop before name (rw e at h)))
    (λ e. rw e (by_test (among name (filled before))
    (λ f. let r = filled_has_loop before name f in (r.0, place_in_more (fills name) (loop_results before) (waiting before ∷ []) r.0 r.1))
    (λ f. place_end (fills name) (loop_results before) (waiting before) (waits_too name (filled before) (bookings before) f (rw e at h))))))
filled_has_loop (s ∷ before) name h = filled_has_loop before name h

filled_stays : (before : List Statement) (p name : List ℕ) → among name (filled before) ≡ true → among name (filled (Print p ∷ before)) ≡ true
filled_stays before p name h = grind (arith, filled_is_booked before name h)

printed_is_filled : (script : List Statement) → AreNamedInTurn script → (p : ℕ) (a : Access) → slice_get (accesses script) p ≡ Some a → among a.result (filled script) ≡ true
printed_is_filled [] turn p a at = absurd (cc)
printed_is_filled (Print r ∷ before) turn p a at = elim (before_or_last (accesses before) (record { result = r; fills = filled_by before r }) p a at) [
  | inl q ↦ filled_stays before r a.result (printed_is_filled before turn.1 p a q)
  | inr q ↦ subst (λ (x : Access). among x.result (filled (Print r ∷ before)) ≡ true) q.1 (by_test (among r (filled before)) (λ e. rw e e) (λ e. rw e turn.0))
]
printed_is_filled (s ∷ before) turn p a at = printed_is_filled before turn.1 p a at

-- the result of a Print is filled by a loop
pub printed_has_loop : (script : List Statement) → AreNamedInTurn script → (p : ℕ) (a : Access) → slice_get (accesses script) p ≡ Some a → (l : ℕ) × (loop_filling script a.result ≡ Some l)
printed_has_loop script turn p a at = filled_has_loop script a.result (printed_is_filled script turn p a at)

-- ---- one more pass, and what an accepted script says of its actions: their edges are those of an axis, and only numbers are watched: edges

module _ (names : FunctionNames) (header : Scope) where
  axis : (edges : List _) → are_edges edges ≡ true → length edges ≤ 65536 → IsAxis edges
  axis edges rise few = record { rise = rise; few = omega (arith, few) }

  of_kind : (k : ActionKind) (result parent : List ℕ) → check_edges k ≡ None → IsShort (Action result parent k) → HasEdges k
  of_kind (ActionKind.Histo1D edges x w) r p h short = axis edges (unless_holds (are_edges edges) GraphCause.BadEdges h) short
  of_kind (ActionKind.Histo2D xs ys x y w) r p h short = grind (arith, and_parts, unless_holds, axis)
  of_kind k r p h short = tt

  edges_kept : (before : List Statement) (result parent : List ℕ) (k : ActionKind) → check names header before (Action result parent k) ≡ None → check_edges k ≡ None
  edges_kept before result parent k h = grind (arith, third)

  own_edges : (before : List Statement) (s : Statement) → check names header before s ≡ None → IsShort s → (n : ℕ) (b : Booked) (k : ActionKind) (at : Path) → slice_get (booked_by before s) n ≡ Some b
      → b.booking ≡ ActionAt k at → HasEdges k
  own_edges before s h short n b k at is of = grind (arith, only_at, of_kind, edges_kept)

  -- the edges of a booked action
  pub has_edges : (st : List Statement) → AreAccepted names header st → AllByRecursion IsShort st → (n : ℕ) (b : Booked) (k : ActionKind) (at : Path) → slice_get (bookings st) n ≡ Some b → b.booking ≡ ActionAt k at → HasEdges k
  has_edges [] acc short n b k at is of = cc is
  has_edges (s ∷ before) acc short n b k at is of = elim (of_joined (bookings before) (booked_by before s) n b is) [
    | inl q ↦ has_edges before acc.1 short.1 n b k at q of
    | inr q ↦ own_edges before s acc.0 short.0 q.0 b k at q.2 of
  ]

-- ---- names of results

module _ (names : FunctionNames) (header : Scope) where
  among_more : (xs ys : List Booked) (name : List ℕ) → among name (names_of xs) ≡ true → among name (names_of (xs ++ ys)) ≡ true
  among_more [] ys name h = cc h
  among_more (x ∷ xs) ys name h = elim (or_cases (same name x.name) (among name (names_of xs)) h) [
    | inl p ↦ or_left (same name x.name) (among name (names_of (xs ++ ys))) p
    | inr p ↦ or_right (same name x.name) (among name (names_of (xs ++ ys))) (among_more xs ys name p)
  ]

  -- a result that a statement books has a name of its own
  new_name : (before : List Statement) (s : Statement) → AreAccepted names header (s ∷ before) → (n : ℕ) (b : Booked) → slice_get (bookings (s ∷ before)) n ≡ Some b → length (bookings before) ≤ n → is_result before b.name ≡ false
  new_name before s acc n b is le =
      subst (λ (bs : List Booked). among b.name (names_of bs) ≡ false) (take-append_seam (bookings before) (booked_by before s))
      (later_named (s ∷ before) (all_in_turn names header (s ∷ before) acc) n b is (length (bookings before)) le)

  -- what is watched is a result
  watched_named : (st : List Statement) → AreAccepted names header st → (name : List ℕ) → is_watched st name ≡ true → is_result st name ≡ true
  watched_named [] acc name h = cc h
  watched_named (Watch r ∷ before) acc name h = among_more (bookings before) [] name (elim (or_cases (same r name) (is_watched before name) h) [
    | inl p ↦ subst (λ n. is_result before n ≡ true) (names_equal r name p) (unless_holds (is_result before r) GraphCause.UnknownName (both_none (refuse_unless (is_result before r) GraphCause.UnknownName) _ acc.0).0)
    | inr p ↦ watched_named before acc.1 name p
  ])
  watched_named (s ∷ before) acc name h = among_more (bookings before) (booked_by before s) name (watched_named before acc.1 name h)

  watched_can : (st : List Statement) → AreAccepted names header st → (n : ℕ) (b : Booked) → slice_get (bookings st) n ≡ Some b → is_watched st b.name ≡ true → can_watch b.booking ≡ true
  watched_can [] acc n b is h = cc is
  watched_can (Watch r ∷ before) acc n b is h =
      let here : slice_get (bookings before) n ≡ Some b = ap (λ l. slice_get l n) (sym (append-nil (bookings before))) ∙ is in
      elim (or_cases (same r b.name) (is_watched before b.name) h) [
        | inl p ↦ (
            let known = (both_none (refuse_unless (is_result before r) GraphCause.UnknownName) _ acc.0).1 in
            let can = unless_holds (result_is can_watch before r) GraphCause.WrongKind (both_none (refuse_unless (result_is can_watch before r) GraphCause.WrongKind) _ known).0 in
            let c = kept_any (λ (x : Booked). can_watch x.booking) (λ (x : Booked). same x.name r) (bookings before) can in
            let same_name : same c.1.name b.name ≡ true = ap (λ (m : List ℕ). same m b.name) (names_equal c.1.name r c.3) ∙ p in
            let number = one_number before (all_in_turn names header before acc.1) c.0 n c.1 b c.2 here same_name in
            let one : c.1 ≡ b = same_some (sym c.2 ∙ ap (slice_get (bookings before)) number ∙ here) in
            subst (λ (x : Booked). can_watch x.booking ≡ true) one c.4)
        | inr p ↦ watched_can before acc.1 n b here p
      ]
  watched_can (s ∷ before) acc n b is h = elim (of_joined (bookings before) (booked_by before s) n b is) [
    | inl q ↦ watched_can before acc.1 n b q h
    | inr q ↦ absurd (both_ways (is_result before b.name) (new_name before s acc n b is (omega (arith, q.1))) (watched_named before acc.1 b.name h))
  ]

-- what is watched can be
pub can_be_watched : (names : FunctionNames) (header : Scope) (st : List Statement) → AreAccepted names header st → (n : ℕ) (b : Booked) (k : ActionKind) (at : Path) → slice_get (bookings st) n ≡ Some b → b.booking ≡ ActionAt k at
    → is_watched st b.name ≡ true → CanWatch k
can_be_watched names header st acc n b k at is of h =
    let can : can_watch (ActionAt k at) ≡ true = ap can_watch (sym of) ∙ watched_can names header st acc n b is h in
    grind (arith, can)

-- ---- short statements

pub all_short : (script : Script) → IsBookable script → AllByRecursion IsShort (history script)
all_short script h = recursion_from_All IsShort (history script)
    (All-permutation IsShort _ (history script) (IsPermutation-reverse (map (λ (l : Line). l.statement) script.lines)) (All-map IsShort (λ (l : Line). l.statement) script.lines h.short))

-- what has a place is watched
pub watched_at : (script : List Statement) (n : ℕ) (p : Pass) → place_if_watched script n p ≡ n ∷ [] → is_watched script p.result.name ≡ true
watched_at script n p e = grind (arith, by_test)

-- ---- the passes of a job by numbers

pub read : (j : JobView) (g : GraphView) (ps : List NumberedPass) → g ≡ job_graph j → slice_get (graph_loops g) j.number ≡ Some ps → ps ≡ numbered_passes j
read j g ps e q = sym (ap (λ (h : GraphView). unwrap_or (slice_get (graph_loops h) j.number) []) (sym e) ∙ ap (λ o. unwrap_or o []) q)

pub counted : (j : JobView) (ps : List NumberedPass) → ps ≡ numbered_passes j → length ps ≡ length (passes_in j)
counted j ps e = ap length e ∙ passes_count j

pub fewer : (j : JobView) → IsJob j → (g : GraphView) → g ≡ job_graph j → (n : ℕ) → n ≡ length (graph_variations g) → n ≤ 128 → (ps : List NumberedPass) → ps ≡ numbered_passes j → length ps < 2 ^ 32
fewer j job g e n q le ps is = grind (arith, few_passes)

pub numbered_at : (j : JobView) (g : GraphView) (ps : List NumberedPass) → g ≡ job_graph j → slice_get (graph_loops g) j.number ≡ Some ps → (n : ℕ) → n < length (passes_in j) → (d : NumberedPass) → numbered_in j n ≡ Some (get_or ps n d)
numbered_at j g ps e q n lt d = let is = read j g ps e q in read_pass j ps is n (omega (arith, lt, counted j ps is)) d

-- ---- a pass by its number

module _ (j : JobView) (n : ℕ) (m : NumberedPass) (its : numbered_in j n ≡ Some m) where
  abbrev pub its_result : ResultAt
  its_result = (result_there j n m its).0

  pub its_result_is : slice_get (graph_results (job_graph j)) m.result ≡ Some its_result
  its_result_is = (result_there j n m its).1

  pub its_pass : slice_get (passes_in j) n ≡ Some (record { result = its_result.booked; under = graph_under (job_graph j) m.variation })
  its_pass = pass_numbered j n m its its_result its_result_is

  pub result_within : (g : GraphView) → g ≡ job_graph j → m.result < length (graph_results g)
  result_within g same = let lt = result_inside j n m its in let e = ap (λ (h : GraphView). length (graph_results h)) same in omega (arith, lt, e)

  booked_is : slice_get (bookings (history j.script)) m.result ≡ Some its_result.booked
  booked_is =
      ap (λ bs. slice_get bs m.result) (sym (booked_are j.dataset.columns (fn_names j.dataset.fns) (history j.script)))
      ∙ mapped_at (λ (x : ResultAt). x.booked) (graph_results (job_graph j)) m.result its_result its_result_is

  pub named : pass_at (history j.script) m ≡ Some (record { result = its_result.booked; under = graph_under (job_graph j) m.variation })
  named = grind (arith, booked_is)

  pub is_its_pass : (g : GraphView) → g ≡ job_graph j → IsPassOf g m
  is_its_pass g h = grind (arith, of_chosen, result_within, is_in_for, variation_within)

  -- ---- what it is

  module _ (kind : ResultKind) (g : GraphView) (same : g ≡ job_graph j) (is : option_map (λ (x : ResultAt). kind_of_booking x.booked.booking) (slice_get (graph_results g) m.result) ≡ Some kind) where
    kind_is : kind_of_booking its_result.booked.booking ≡ kind
    kind_is = grind (arith, same_Some, its_result_is)

    pub of_action : (k : ActionKind) → kind ≡ ResultKind.Action k → (at : Path) × (its_result.booked.booking ≡ ActionAt k at)
    of_action k e = action_booking its_result.booked.booking k (kind_is ∙ e)

    pub of_report : kind ≡ ResultKind.Report → kind_in its_result.booked.booking ≡ []
    of_report e = grind (arith, kind_is)

    pub edges : (job : IsJob j) (k : ActionKind) → kind ≡ ResultKind.Action k → HasEdges k
    edges job k e =
        let b = of_action k e in
        has_edges (fn_names j.dataset.fns) (scope_of j.dataset.columns) (history j.script) (accepted_of j job) (all_short j.script job.graph.bookable) m.result its_result.booked k b.0 booked_is b.1

    pub may_watch : (job : IsJob j) (k : ActionKind) → kind ≡ ResultKind.Action k → (i : ℕ)
        → place_if_watched (history j.script) i (record { result = its_result.booked; under = graph_under (job_graph j) m.variation }) ≡ i ∷ [] → CanWatch k
    may_watch job k e i on =
        let b = of_action k e in
        can_be_watched (fn_names j.dataset.fns) (scope_of j.dataset.columns) (history j.script) (accepted_of j job) m.result its_result.booked k b.0 booked_is b.1
        (watched_at (history j.script) i _ on)

-- ---- one more

module _ (j : JobView) (n : ℕ) (p : Pass) (here : slice_get (passes_in j) n ≡ Some p) where
  places_next : places_before j (n + 1) ≡ places_before j n ++ place_if_watched (history j.script) (length (kinds_in (take n (passes_in j)))) p
  places_next =
      let e : 0 + length (kinds_in (take n (passes_in j))) ≡ length (kinds_in (take n (passes_in j))) = omega arith in
      ap (watched_places (history j.script)) (take_next (passes_in j) n p here)
      ∙ watched-append (history j.script) 0 (take n (passes_in j)) (p ∷ [])
      ∙ ap (λ k. places_before j n ++ watched_from (history j.script) k (p ∷ [])) e
      ∙ ap (λ l. places_before j n ++ l) (append-nil (place_if_watched (history j.script) (length (kinds_in (take n (passes_in j)))) p))

  -- a report's pass adds nothing
  module _ (none : kind_in p.result.booking ≡ []) where
    no_place : place_if_watched (history j.script) (length (kinds_in (take n (passes_in j)))) p ≡ []
    no_place = by_test (is_none p.under && is_watched (history j.script) p.result.name) (λ e. rw e (ap (map (λ k. length (kinds_in (take n (passes_in j))))) none)) (λ e. rw e refl)

    same_kinds : kinds_in (take (n + 1) (passes_in j)) ≡ kinds_in (take n (passes_in j))
    same_kinds = kinds_next (passes_in j) n p here ∙ ap (λ l. kinds_in (take n (passes_in j)) ++ l) none ∙ append-nil (kinds_in (take n (passes_in j)))

    same_places : places_before j (n + 1) ≡ places_before j n
    same_places = places_next ∙ ap (λ l. places_before j n ++ l) no_place ∙ append-nil (places_before j n)

    pub kept : (t : TallyView) → IsOfPasses j n t → IsOfPasses j (n + 1) t
    kept t h = subst (λ ks. IsFresh ks (places_before j (n + 1)) t) (sym same_kinds) (subst (λ ws. IsFresh (kinds_in (take n (passes_in j))) ws t) (sym same_places) h)

  -- an action's pass adds its kind, and its place where it is watched
  pub added : (k : ActionKind) (at : Path) → p.result.booking ≡ ActionAt k at → (ws : List ℕ)
      → places_before j n ++ place_if_watched (history j.script) (length (kinds_in (take n (passes_in j)))) p ≡ ws
      → (t : TallyView) → IsFresh (kinds_in (take n (passes_in j)) ++ k ∷ []) ws t → IsOfPasses j (n + 1) t
  added k at of ws told t h =
      subst (λ ks. IsFresh ks (places_before j (n + 1)) t) (sym (kinds_next (passes_in j) n p here ∙ ap (λ b. kinds_in (take n (passes_in j)) ++ kind_in b) of))
      (subst (λ ws. IsFresh (kinds_in (take n (passes_in j)) ++ k ∷ []) ws t) (sym (places_next ∙ told)) h)

-- those of all passes
pub of_all : (j : JobView) (n : ℕ) (t : TallyView) → length (passes_in j) ≤ n → IsOfPasses j n t → IsOfPasses j (length (passes_in j)) t
of_all j n t le h = subst (λ (ps : List Pass). IsFresh (kinds_in ps) (watched_places (history j.script) ps) t) (take_all n (passes_in j) le ∙ sym (take-length (passes_in j))) h

pub filters_same : (j : JobView) (g : GraphView) → g ≡ job_graph j → length (graph_filters g) ≡ length (named_before (history j.script))
filters_same j g e = grind (arith, covered_count, length-map)
