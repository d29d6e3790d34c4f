-- The loops of an accepted script: each fills 1 to 64 results, and so has 1 to 8,256 passes.
use Rattle.lemmas.proofs.{◌≡◌, ℕ, suc, ◌+◌, ◌*◌, ◌<◌, ◌≤◌, Bool, true, false, not, ◌||◌, List, [], ◌∷◌, ◌++◌, length, map, filter, filter_map, Option, Some, None, refl, sym, ◌∙◌, ap, subst, arith, if◌then◌else◌, length-append, nat_lt, AllByRecursion, cons_option, length-map, nat_tests}
use Rattle.rdf_values.specs.{among, AreAccepted, Booked, booked_by, bookings, check_columns, check_edges, check_node, check_passes, check_results, check_tags, check_target, check_values, filled, first_refusal, FunctionNames, GraphCause, has_variations, is_result, is_variation_name, names_of, own_variations, Pass, passes_of, path, permitted_kinds, printed_results, refuse_if, refuse_unless, repeats, result_depends, same, Scope, scope_at, Statement, StatementsHaveWords, Variation, variations, varied_passes, waiting}
use Rattle.rdf_values.specs.declared.scripts.script_cause.GraphCause.TheVariants.{NameTaken, TooMany, UnknownName}
use Rattle.rdf_values.specs.declared.scripts.statement.Statement.TheVariants.{Action, Alias, Define, Filter, Print, Redefine, Report, VariationsFor, Vary, Watch}
use Rattle.rdf_model.specs.{Access, accesses, filled_by, loop_passes, loop_results}
use Rattle.rdf_model.proofs.Accepted.{both_none, if_fails, names_equal, third, unless_holds}
use Rattle.shard_runs.proofs.Sums.{all_both}

-- ---- how many results and variations

module _ (names : FunctionNames) (header : Scope) where
  at_most_64 : (script : List Statement) → check_results script ≡ None → length (bookings script) ≤ 64
  at_most_64 script h = let few = if_fails (nat_lt 64 (length (bookings script))) TooMany h in grind (arith, nat_tests, few)

  no_more : (before : List Statement) → length (bookings before) ≤ 64 → length (bookings before ++ []) ≤ 64
  no_more before h = let l = length-append (bookings before) [] in omega arith

  few_bookings : (before : List Statement) → AreAccepted names header before → length (bookings before) ≤ 64
  few_bookings [] h = omega arith
  few_bookings (Action result parent k ∷ before) h =
      let node : Option GraphCause = check_node before result parent in
      let columns : Option GraphCause = check_columns (scope_at names header before parent) (permitted_kinds k) [] _ in
      let results : Option GraphCause = check_results (Action result parent k ∷ before) in
      let passes : Option GraphCause = check_passes before (bookings (Action result parent k ∷ before)) in
      let one = both_none node (columns ∷ check_edges k ∷ results ∷ passes ∷ []) h.0 in
      let two = both_none columns (check_edges k ∷ results ∷ passes ∷ []) one.1 in
      let three = both_none (check_edges k) (results ∷ passes ∷ []) two.1 in
      at_most_64 (Action result parent k ∷ before) (both_none results (passes ∷ []) three.1).0
  few_bookings (Report result parent ∷ before) h =
      let results : Option GraphCause = check_results (Report result parent ∷ before) in
      at_most_64 (Report result parent ∷ before) (both_none results [] (both_none (check_node before result parent) (results ∷ []) h.0).1).0
  few_bookings (Define node parent column expr ∷ before) h = no_more before (few_bookings before h.1)
  few_bookings (Redefine node parent column expr ∷ before) h = no_more before (few_bookings before h.1)
  few_bookings (Alias node parent column target ∷ before) h = no_more before (few_bookings before h.1)
  few_bookings (Filter node parent expr label ∷ before) h = no_more before (few_bookings before h.1)
  few_bookings (Vary node parent columns values tags vary ∷ before) h = no_more before (few_bookings before h.1)
  few_bookings (VariationsFor result ∷ before) h = no_more before (few_bookings before h.1)
  few_bookings (Watch result ∷ before) h = no_more before (few_bookings before h.1)
  few_bookings (Print result ∷ before) h = no_more before (few_bookings before h.1)

  or_false : (a b : Bool) → (a || b) ≡ false → b ≡ false
  or_false true b h = cc h
  or_false false b h = h

  with_tags : (before : List Statement) (tags : List (List ℕ)) (name : List ℕ) → check_tags before tags name ≡ None → length (variations before) + length tags ≤ 128
  with_tags before tags name h =
      let many : Option GraphCause = refuse_if (nat_lt 16 (length tags) || nat_lt 128 (length (variations before) + length tags)) TooMany in
      let none = third (refuse_if (repeats tags) NameTaken) (refuse_if (is_variation_name before name) NameTaken) many [] h in
      let few = or_false (nat_lt 16 (length tags)) (nat_lt 128 (length (variations before) + length tags)) (if_fails (nat_lt 16 (length tags) || nat_lt 128 (length (variations before) + length tags)) TooMany none) in
      grind (arith, nat_tests, few)

  as_many : (before : List Statement) → length (variations before) ≤ 128 → length (variations before ++ []) ≤ 128
  as_many before h = let l = length-append (variations before) [] in omega arith

  pub few_variations : (before : List Statement) → AreAccepted names header before → length (variations before) ≤ 128
  few_variations [] h = omega arith
  few_variations (Vary node parent columns values tags vary ∷ before) h =
      let a : Option GraphCause = check_node before node parent in
      let b : Option GraphCause = refuse_if (repeats columns) NameTaken in
      let c : Option GraphCause = first_refusal (map (check_target (scope_at names header before parent) (path before parent)) columns) in
      let t : Option GraphCause = check_tags before tags vary in
      let v : Option GraphCause = check_values names (scope_at names header before parent) (length tags) columns values in
      let one = both_none a (b ∷ c ∷ t ∷ v ∷ []) h.0 in
      let two = third b c t (v ∷ []) one.1 in
      let few = with_tags before tags vary two in
      let more = length-append (variations before) (own_variations (Vary node parent columns values tags vary)) in
      let of_tag : List ℕ → Variation = λ tag. record { name = vary; tag = tag } in
      let own : length (map of_tag tags) ≡ length tags = length-map tags of_tag in
      omega arith
  few_variations (Action result parent k ∷ before) h = as_many before (few_variations before h.1)
  few_variations (Report result parent ∷ before) h = as_many before (few_variations before h.1)
  few_variations (Define node parent column expr ∷ before) h = as_many before (few_variations before h.1)
  few_variations (Redefine node parent column expr ∷ before) h = as_many before (few_variations before h.1)
  few_variations (Alias node parent column target ∷ before) h = as_many before (few_variations before h.1)
  few_variations (Filter node parent expr label ∷ before) h = as_many before (few_variations before h.1)
  few_variations (VariationsFor result ∷ before) h = as_many before (few_variations before h.1)
  few_variations (Watch result ∷ before) h = as_many before (few_variations before h.1)
  few_variations (Print result ∷ before) h = as_many before (few_variations before h.1)

-- ---- what waits

kept_fewer : {A : Type 0} (t : A → Bool) (xs : List A) → length (filter t xs) ≤ length xs
kept_fewer t [] = omega arith
kept_fewer t (x ∷ xs) = go (t x) (kept_fewer t xs)
  where
    go : (b : Bool) → length (filter t xs) ≤ length xs → length (if b then x ∷ filter t xs else filter t xs) ≤ suc (length xs)
    go true h = omega arith
    go false h = omega arith

kept_all : {A : Type 0} (P : A → Type 0) (t : A → Bool) (xs : List A) → AllByRecursion P xs → AllByRecursion P (filter t xs)
kept_all P t [] h = tt
kept_all P t (x ∷ xs) h = go (t x) (kept_all P t xs h.1)
  where
    go : (b : Bool) → AllByRecursion P (filter t xs) → AllByRecursion P (if b then x ∷ filter t xs else filter t xs)
    go true k = (h.0, k)
    go false k = k

-- of a name that was booked and isn't filled, a result waits
some_waits : (name : List ℕ) (full : List (List ℕ)) (bs : List Booked) → among name full ≡ false → among name (names_of bs) ≡ true → 0 < length (filter (λ (b : Booked). not (among b.name full)) bs)
some_waits name full [] h k = absurd (cc)
some_waits name full (b ∷ bs) h k = go (same name b.name) (among b.name full) refl refl k (λ q. some_waits name full bs h q)
  where
    go : (s f : Bool) → same name b.name ≡ s → among b.name full ≡ f → (s || among name (names_of bs)) ≡ true → (among name (names_of bs) ≡ true → 0 < length (filter (λ (x : Booked). not (among x.name full)) bs))
        → 0 < length (if not f then b ∷ filter (λ (x : Booked). not (among x.name full)) bs else filter (λ (x : Booked). not (among x.name full)) bs)
    go s false q r j next = omega arith
    go true true q r j next = cc (sym h ∙ ap (λ (n : List ℕ). among n full) (names_equal name b.name q) ∙ r)
    go false true q r j next = next j

-- ---- loops

module _ (names : FunctionNames) (header : Scope) (P : Booked → Type 0)
    (own : (before : List Statement) (s : Statement) → AreAccepted names header (s ∷ before) → StatementsHaveWords before → AllByRecursion P (booked_by before s)) where
  -- 1 to 64 results that are so
  abbrev pub IsLoop : List Booked → Type 0
  IsLoop bs = (0 < length bs) × (length bs ≤ 64) × AllByRecursion P bs

  all_booked : (before : List Statement) → AreAccepted names header before → StatementsHaveWords before → AllByRecursion P (bookings before)
  all_booked [] h w = tt
  all_booked (s ∷ before) h w = all_both P (bookings before) (booked_by before s) (all_booked before h.1 w.1) (own before s h w.1)

  run_more : (xs : List Access) (a : Access) → AllByRecursion IsLoop (filter_map (λ (x : Access). x.fills) xs) → ((bs : List Booked) → a.fills ≡ Some bs → IsLoop bs) → AllByRecursion IsLoop (filter_map (λ (x : Access). x.fills) (xs ++ a ∷ []))
  run_more [] a h one = go a.fills refl
    where
      go : (o : Option (List Booked)) → a.fills ≡ o → AllByRecursion IsLoop (cons_option o [])
      go None q = tt
      go (Some bs) q = (one bs q, tt)
  run_more (x ∷ xs) a h one = go x.fills h (λ k. run_more xs a k one)
    where
      go : (o : Option (List Booked)) → AllByRecursion IsLoop (cons_option o (filter_map (λ (y : Access). y.fills) xs))
          → (AllByRecursion IsLoop (filter_map (λ (y : Access). y.fills) xs) → AllByRecursion IsLoop (filter_map (λ (y : Access). y.fills) (xs ++ a ∷ [])))
          → AllByRecursion IsLoop (cons_option o (filter_map (λ (y : Access). y.fills) (xs ++ a ∷ [])))
      go None k next = next k
      go (Some bs) k next = (k.0, next k.1)

  is_loop : (before : List Statement) (result : List ℕ) → AreAccepted names header before → StatementsHaveWords before → is_result before result ≡ true → (bs : List Booked) → filled_by before result ≡ Some bs → IsLoop bs
  is_loop before result h w booked bs q = go (among result (filled before)) refl q
    where
      go : (b : Bool) → among result (filled before) ≡ b → (if b then None else Some (waiting before)) ≡ Some bs → IsLoop bs
      go true e r = cc r
      go false e r =
          let one : waiting before ≡ bs = cc r in
          let fewer = kept_fewer (λ (x : Booked). not (among x.name (filled before))) (bookings before) in
          let few = few_bookings names header before h in
          subst IsLoop one (some_waits result (filled before) (bookings before) e booked, omega arith, kept_all P (λ (x : Booked). not (among x.name (filled before))) (bookings before) (all_booked before h w))

  pub loops_are : (before : List Statement) → AreAccepted names header before → StatementsHaveWords before → AllByRecursion IsLoop (loop_results before)
  loops_are [] h w = tt
  loops_are (Print result ∷ before) h w =
      let booked : is_result before result ≡ true = unless_holds (is_result before result) UnknownName (both_none (refuse_unless (is_result before result) UnknownName) (check_passes before (printed_results (Print result ∷ before)) ∷ []) h.0).0 in
      run_more (accesses before) (record { result = result; fills = filled_by before result }) (loops_are before h.1 w.1) (λ bs q. is_loop before result h.1 w.1 booked bs q)
  loops_are (s ∷ before) h w = loops_are before h.1 w.1

-- ---- passes

module _ (script : List Statement) (few : length (variations script) ≤ 128) where
  few_varied : (b : Booked) → length (varied_passes script b) ≤ 128
  few_varied b =
      let fewer = kept_fewer (λ (v : Variation). result_depends v b.booking) (variations script) in
      let pass_of : Variation → Pass = λ v. record { result = b; under = Some v } in
      let kept : List Variation = filter (λ (v : Variation). result_depends v b.booking) (variations script) in
      let same_number : length (map pass_of kept) ≡ length kept = length-map kept pass_of in
      omega arith

  few_of : (b : Booked) → length (passes_of script b) ≤ 129
  few_of b = go (has_variations script b.name)
    where
      go : (t : Bool) → suc (length (if t then varied_passes script b else [])) ≤ 129
      go true = let l = few_varied b in omega arith
      go false = omega arith

  few_by : (bs : List Booked) → length (loop_passes script bs) ≤ length bs * 129
  few_by [] = omega arith
  few_by (b ∷ bs) =
      let l = length-append (passes_of script b) (loop_passes script bs) in
      let one = few_of b in
      let rest = few_by bs in
      omega arith

  -- 64 results of one nominal pass and 128 variations
  pub few_passes : (bs : List Booked) → length bs ≤ 64 → length (loop_passes script bs) ≤ 8256
  few_passes bs h = let all = few_by bs in omega arith

pub some_passes : (script : List Statement) (bs : List Booked) → 0 < length bs → 0 < length (loop_passes script bs)
some_passes script [] h = absurd (omega arith)
some_passes script (b ∷ bs) h = omega arith

module _ (P : Booked → Type 0) (script : List Statement) where
  varied_of : (b : Booked) → P b → (vs : List Variation) → AllByRecursion (λ (p : Pass). P p.result) (map (λ v. record { result = b; under = Some v }) vs)
  varied_of b h [] = tt
  varied_of b h (v ∷ vs) = (h, varied_of b h vs)

  own_passes : (b : Booked) → P b → AllByRecursion (λ (p : Pass). P p.result) (passes_of script b)
  own_passes b h = (h, go (has_variations script b.name))
    where
      go : (t : Bool) → AllByRecursion (λ (p : Pass). P p.result) (if t then varied_passes script b else [])
      go true = varied_of b h (filter (λ v. result_depends v b.booking) (variations script))
      go false = tt

  -- the passes of results that are so
  pub passes_are : (bs : List Booked) → AllByRecursion P bs → AllByRecursion (λ (p : Pass). P p.result) (loop_passes script bs)
  passes_are [] h = tt
  passes_are (b ∷ bs) h = all_both (λ (p : Pass). P p.result) (passes_of script b) (loop_passes script bs) (own_passes b h.0) (passes_are bs h.1)
