-- Runs and further numbers, put together.
use Rattle.lemmas.proofs.{◌≡◌, ℕ, zero, suc, ◌<◌, List, [], ◌∷◌, length, get_or, refl, ap, arith, slice_get, ◌+◌, ◌≤◌, ◌++◌, Some, sym, ◌∙◌, subst, ⊎_elim, length-append, ◌-◌, map, take, append_assoc, append-nil, reverse, nat_eq, option_map, cases_lt, common_steps, cond_both, eq_itself, eqb-true, get_or-append_right, get_or-range_with_len, IsStrictlyIncreasing, length-map, length-range_with_len, range_with_len, slice_get-get_or, slice_get-map, take-suc, take_all}
use Rattle.rdf_values.specs.{times, IsUnion, Span}
use Rattle.rdf_values.proofs.UnionLemmas.{one_if, times_self, times_append, rises_from, once_rising, same_rising, counted, two, first_rises, rest_rise}
use Rattle.std.proofs.lemmas.List.Sums.{get_or-le-sum_by}
use Rattle.loop_pieces.specs.{span_of}
use Rattle.slot_words.specs.{run_in_front}
use Rattle.rdf_model.specs.{in_front, maximal_runs, Run}

pub stands_there : (xs : List ℕ) (k d : ℕ) → k < length xs → 0 < times (get_or xs k d) xs
stands_there xs k d lt = let x = get_or xs k d in grind (arith, common_steps, get_or-le-sum_by (one_if x) xs k d lt)

-- ---- Runs and further numbers, put together from the greatest on: the numbers of runs

-- the runs have these numbers, one run after the other
abbrev pub Have : List Run → List ℕ → Type 0
Have [] xs = xs ≡ []
Have (r ∷ rs) xs = (m : ℕ) × (ys : List ℕ) × (r.last ≡ r.first + m) × (xs ≡ range_with_len r.first (suc m) ++ ys) × Have rs ys

have_front : (x : ℕ) (rs : List Run) (xs : List ℕ) → Have rs xs → Have (in_front x rs) (x ∷ xs)
have_front x [] xs h = (0, [], omega arith, ap (λ l. x ∷ l) h, refl)
have_front x (r ∷ rs) xs h = cond_both (nat_eq (x + 1) r.first) _ _ (λ l. Have l (x ∷ xs))
    (λ t. let is : x + 1 ≡ r.first = eqb-true (x + 1) r.first t in (suc h.0, h.1, omega (arith, h.2), ap (λ l. x ∷ l) (h.3 ∙ ap (λ n. range_with_len n (suc h.0) ++ h.1) (sym is)), h.4))
    (λ _. (0, xs, omega arith, refl, h))

have_all : (xs : List ℕ) → Have (maximal_runs xs) xs
have_all [] = refl
have_all (x ∷ xs) = have_front x (maximal_runs xs) xs (have_all xs)

-- the numbers of the last run are the last ones
have_last : (ls : List Run) (r : Run) (xs : List ℕ) → Have (ls ++ r ∷ []) xs → (m : ℕ) × (ys : List ℕ) × (r.last ≡ r.first + m) × (xs ≡ ys ++ range_with_len r.first (suc m)) × Have ls ys
have_last [] r xs h = (h.0, [], h.2, h.3 ∙ ap (λ l. range_with_len r.first (suc h.0) ++ l) h.4 ∙ append-nil (range_with_len r.first (suc h.0)), refl)
have_last (l ∷ ls) r xs h =
    let here = range_with_len l.first (suc h.0) in
    let t = have_last ls r h.1 h.4 in
    (t.0, here ++ t.1, t.2, h.3 ∙ ap (λ z. here ++ z) t.3 ∙ sym (append_assoc here t.1 (range_with_len r.first (suc t.0))), (h.0, t.1, h.2, refl, t.4))

front_one : (x : ℕ) (rs : List Run) → in_front x rs ≡ run_in_front (record { first = x; last = x }) rs
front_one x rs = grind arith

-- a run's numbers in front of others
runs_put : (a m k : ℕ) (done : List ℕ) → k ≡ a + m → maximal_runs (range_with_len a (suc m) ++ done) ≡ run_in_front (record { first = a; last = k }) (maximal_runs done)
runs_put a zero k done is = let e : a ≡ k = omega arith in front_one a (maximal_runs done) ∙ ap (λ n. run_in_front (record { first = a; last = n }) (maximal_runs done)) e
runs_put a (suc m) k done is = grind (arith, eq_itself, runs_put (a + 1) m k done (omega arith))

-- each number between the ends is in the run
in_run : (a m x : ℕ) → a ≤ x → x ≤ a + m → 0 < times x (range_with_len a (suc m))
in_run a m x le lt = grind (arith, stands_there (range_with_len a (suc m)) (x - a) 0, length-range_with_len a (suc m), get_or-range_with_len a (suc m) (x - a) 0)

-- ---- rising lists

front_part : (xs ys : List ℕ) → IsStrictlyIncreasing (xs ++ ys) → IsStrictlyIncreasing xs
front_part xs ys up k lt = grind (arith, common_steps, up k)

back_part : (xs ys : List ℕ) → IsStrictlyIncreasing (xs ++ ys) → IsStrictlyIncreasing ys
back_part xs ys up k lt = grind (arith, common_steps, up (length xs + k))

-- one list after another that begins above its last
glued : (xs : List ℕ) (a : ℕ) (es : List ℕ) → IsStrictlyIncreasing xs → IsStrictlyIncreasing (a ∷ es) → (0 < length xs → get_or xs (length xs - 1) 0 < a) → IsStrictlyIncreasing (xs ++ a ∷ es)
glued xs a es up down low k lt = grind (arith, common_steps, up k, down (k - length xs), low)

-- the last of a list that ends with a run
last_in_run : (ys : List ℕ) (a m : ℕ) → let xs = ys ++ range_with_len a (suc m) in get_or xs (length xs - 1) 0 ≡ a + m
last_in_run ys a m = grind (arith, length-append ys (range_with_len a (suc m)), length-range_with_len a (suc m), get_or-append_right ys (range_with_len a (suc m)) (length ys + m) 0, get_or-range_with_len a (suc m) m 0)

-- ---- one after another, from the greatest on

-- some runs and numbers are left; the runs, which stand last first, are those of all others
pub record IsJoining (all : List ℕ) (left : List Run) (news : List ℕ) (runs : List Span) : Type 0 where
  pub olds : List ℕ
  pub done : List ℕ
  pub have : Have left olds
  pub runs_are : reverse runs ≡ map span_of (maximal_runs done)
  pub counts : (x : ℕ) → times x all ≡ (times x olds + times x news) + times x done
  pub olds_rise : IsStrictlyIncreasing (olds ++ done)
  pub news_rise : IsStrictlyIncreasing (news ++ done)

-- what is put in front of the runs
abbrev pub IsPut : Run → List Span → List Span → Type 0
IsPut r runs now = (rs : List Run) → reverse runs ≡ map span_of rs → reverse now ≡ map span_of (run_in_front r rs)

take_last : {A : Type 0} (l : List A) (i : ℕ) (d : A) → 0 < i → i ≤ length l → take i l ≡ take (i - 1) l ++ get_or l (i - 1) d ∷ []
take_last l i d some within = let e : i ≡ suc (i - 1) = omega arith in ap (λ n. take n l) e ∙ take-suc l (i - 1) d (omega arith)

module _ (xs all numbers : List ℕ) (runs : List Span) (i k : ℕ) (joined now : List Span) (are : runs ≡ map span_of (maximal_runs xs)) (rise : IsStrictlyIncreasing all)
    (h : IsJoining all (take i (maximal_runs xs)) (take k numbers) joined) (within : i ≤ length runs) (within' : k ≤ length numbers) where
  -- the last run and the last number that are left
  abbrev run : Run
  run = get_or (maximal_runs xs) (i - 1) (record { first = 0; last = 0 })

  abbrev number : ℕ
  number = get_or numbers (k - 1) 0

  long : length runs ≡ length (maximal_runs xs)
  long = ap length are ∙ length-map (maximal_runs xs) span_of

  run_at : 0 < i → slice_get runs (i - 1) ≡ Some (span_of run)
  run_at some = ap (λ l. slice_get l (i - 1)) are ∙ slice_get-map span_of (maximal_runs xs) (i - 1) ∙ ap (option_map span_of) (slice_get-get_or (maximal_runs xs) (i - 1) _ (omega (arith, long)))

  last_run : 0 < i → (m : ℕ) × (ys : List ℕ) × (run.last ≡ run.first + m) × (h.olds ≡ ys ++ range_with_len run.first (suc m)) × Have (take (i - 1) (maximal_runs xs)) ys
  last_run some = have_last (take (i - 1) (maximal_runs xs)) run h.olds (subst (λ l. Have l h.olds) (take_last (maximal_runs xs) i _ some (omega (arith, long))) h.have)

  pub next_number : 0 < k → ((s : Span) → 0 < i → slice_get runs (i - 1) ≡ Some s → s.lo ≤ number) → IsPut (record { first = number; last = number }) joined now → IsJoining all (take i (maximal_runs xs)) (take (k - 1) numbers) now
  next_number some low put =
      let ns = take (k - 1) numbers in
      let news_is = take_last numbers k 0 some within' in
      let up = subst IsStrictlyIncreasing (append_assoc ns (number ∷ []) h.done) (subst (λ l. IsStrictlyIncreasing (l ++ h.done)) news_is h.news_rise) in
      record {
        olds = h.olds;
        done = number ∷ h.done;
        have = h.have;
        runs_are = put (maximal_runs h.done) h.runs_are ∙ ap (map span_of) (sym (front_one number (maximal_runs h.done)));
        counts = λ x. omega (arith, h.counts x, ap (times x) news_is, times_append x ns (number ∷ []), times_append x (number ∷ []) h.done);
        olds_rise = glued h.olds number h.done (front_part h.olds h.done h.olds_rise) (back_part ns (number ∷ h.done) up) below;
        news_rise = up;
      }
    where
      -- what is left of the runs is less: its last run begins at the number or below it, and hasn't the number
      below : 0 < length h.olds → get_or h.olds (length h.olds - 1) 0 < number
      below any = ⊎_elim
          (λ (there : 0 < i).
          let l = last_run there in
          let least = low (span_of run) there (run_at there) in
          let end = ap (λ ys. get_or ys (length ys - 1) 0) l.3 ∙ last_in_run l.1 run.first l.0 in
          grind (
            arith,
            cases_lt (run.first + l.0) number,
            end,
            h.counts number,
            once_rising number all (rises_from all rise),
            ap (times number) l.3,
            times_append number l.1 (range_with_len run.first (suc l.0)),
            in_run run.first l.0 number least,
            ap (times number) (take_last numbers k 0 some within'),
            times_append number (take (k - 1) numbers) (number ∷ []),
            times_self number [],
          ))
          (λ (none : i ≤ 0). let e : i ≡ 0 = omega arith in let gone : h.olds ≡ [] = subst (λ j. Have (take j (maximal_runs xs)) h.olds) e h.have in absurd (omega (arith, ap length gone)))
          (cases_lt 0 i)

  pub next_run : 0 < i → (0 < k → (s : Span) → slice_get runs (i - 1) ≡ Some s → number < s.lo) → ((r : Run) → slice_get runs (i - 1) ≡ Some (span_of r) → IsPut r joined now) → IsJoining all (take (i - 1) (maximal_runs xs)) (take k numbers) now
  next_run some high put =
      let l = last_run some in
      let own = range_with_len run.first (suc l.0) in
      let up = subst IsStrictlyIncreasing (append_assoc l.1 own h.done) (subst (λ ys. IsStrictlyIncreasing (ys ++ h.done)) l.3 h.olds_rise) in
      let last : 0 < length (take k numbers) → get_or (take k numbers) (length (take k numbers) - 1) 0 < run.first = λ any. (let lt = high (grind (arith, common_steps)) (span_of run) (run_at some) in grind (arith, common_steps)) in
      record {
        olds = l.1;
        done = own ++ h.done;
        have = l.4;
        runs_are = put run (run_at some) (maximal_runs h.done) h.runs_are ∙ ap (map span_of) (sym (runs_put run.first l.0 run.last h.done l.2));
        counts = λ x. omega (arith, h.counts x, ap (times x) l.3, times_append x l.1 own, times_append x own h.done);
        olds_rise = up;
        news_rise = glued (take k numbers) run.first (range_with_len (run.first + 1) l.0 ++ h.done) (front_part (take k numbers) h.done h.news_rise) (back_part l.1 (own ++ h.done) up) last;
      }

pub none_yet : (xs all numbers : List ℕ) (runs joined : List Span) → runs ≡ map span_of (maximal_runs xs) → IsUnion (xs ∷ numbers ∷ []) all → joined ≡ [] → IsJoining all (take (length runs) (maximal_runs xs)) (take (length numbers) numbers) joined
none_yet xs all numbers runs joined are u none =
    let long = ap length are ∙ length-map (maximal_runs xs) span_of in
    rw (take_all (length runs) (maximal_runs xs) (omega arith), take_all (length numbers) numbers (omega arith)) record {
      olds = xs;
      done = [];
      have = have_all xs;
      runs_are = ap reverse none;
      counts = λ x. omega (arith, counted x (xs ∷ numbers ∷ []) all u, two x xs numbers);
      olds_rise = subst IsStrictlyIncreasing (sym (append-nil xs)) (first_rises xs (numbers ∷ []) u.sets_rise);
      news_rise = subst IsStrictlyIncreasing (sym (append-nil numbers)) (first_rises numbers [] (rest_rise xs (numbers ∷ []) u.sets_rise));
    }

pub none_left : (xs all numbers : List ℕ) (i k : ℕ) (joined : List Span) → IsUnion (xs ∷ numbers ∷ []) all → IsJoining all (take i (maximal_runs xs)) (take k numbers) joined → i ≤ 0 → k ≤ 0 → reverse joined ≡ map span_of (maximal_runs all)
none_left xs all numbers zero zero joined u h no_run no_number =
    let up : IsStrictlyIncreasing h.done = back_part h.olds h.done h.olds_rise in
    h.runs_are ∙ ap (λ l. map span_of (maximal_runs l)) (same_rising h.done all (rises_from h.done up) (rises_from all u.rising) (λ x. omega (arith, h.counts x, ap (times x) h.have)))
none_left xs all numbers i k joined u h no_run no_number = absurd (omega arith)
