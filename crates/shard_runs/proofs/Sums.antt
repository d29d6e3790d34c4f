-- How large sums, extremes and reductions of some numbers are.
use Rattle.lemmas.proofs.{◌≡◌, ℕ, suc, ◌+◌, ◌*◌, ◌^◌, ◌%◌, ◌<◌, ◌≤◌, ℤ, pos, negsuc, ◌+ℤ◌, ◌*ℤ◌, List, [], ◌∷◌, ◌++◌, length, map, Bool, true, false, cond, refl, sym, ap, ◌∙◌, subst, arith, w64, FitsSigned, nat_abs, int_lt, fold, bit_and, bit_or, bit_xor, abs_add, AllByRecursion, and_le_l, cast_signed, cast_unsigned, int_max, int_min, mod-eq_of_lt, mod-lt, mul-le, or_lt, SFits-int_wrap, unsigned_abs-mul, wrapping_add-bits, xor_lt}
use Rattle.rdf_values.specs.{extreme, Has64Bits, integer_sum, reduce_start, reduce_step, ReduceOp}
use Rattle.rdf_values.specs.results.Fold.{cell_of}
use Rattle.shard_lines.specs.{FitsExtreme}
use Rattle.loop_pieces.proofs.WatchLemmas.{abs_small as word_small}

-- ---- lists

pub all_both : {A : Type 0} (P : A → Type 0) (xs ys : List A) → AllByRecursion P xs → AllByRecursion P ys → AllByRecursion P (xs ++ ys)
all_both P [] ys h k = k
all_both P (x ∷ xs) ys h k = (h.0, all_both P xs ys h.1 k)

pub all_weaker : {A : Type 0} (P Q : A → Type 0) → ((a : A) → P a → Q a) → (xs : List A) → AllByRecursion P xs → AllByRecursion Q xs
all_weaker P Q f [] h = tt
all_weaker P Q f (x ∷ xs) h = (f x h.0, all_weaker P Q f xs h.1)

-- ---- sums

abbrev AreAtMost : ℕ → List ℤ → Type 0
AreAtMost b zs = AllByRecursion (λ z. nat_abs z ≤ b) zs

onto_small : (b a : ℕ) (acc : ℤ) (zs : List ℤ) → nat_abs acc ≤ a → AreAtMost b zs → nat_abs (fold ◌+ℤ◌ acc zs) ≤ a + length zs * b
onto_small b a acc [] h k = omega arith
onto_small b a acc (z ∷ zs) h k =
    let more = abs_add acc z in
    let first = k.0 in
    let rest = onto_small b (a + b) (acc +ℤ z) zs (omega arith) k.1 in
    let many : suc (length zs) * b ≡ b + length zs * b = grind arith in
    omega arith

pub sum_small : (b : ℕ) (zs : List ℤ) → AreAtMost b zs → nat_abs (integer_sum zs) ≤ length zs * b
sum_small b zs h = let all = onto_small b 0 (pos 0) zs (omega arith) h in omega arith

-- a sum of at most so many numbers of 64 bits
pub sum_fits : (most : ℕ) (zs : List ℤ) → length zs ≤ most → AllByRecursion Has64Bits zs → nat_abs (integer_sum zs) ≤ most * 2 ^ 63
sum_fits most zs few h = let small = sum_small (2 ^ 63) zs (all_weaker Has64Bits (λ z. nat_abs z ≤ 2 ^ 63) word_small zs h) in omega arith

-- ---- cells

abbrev pub IsLight : ℤ → Type 0
IsLight w = nat_abs w < 2 ^ 31

square_small : (w : ℤ) → IsLight w → nat_abs (w *ℤ w) ≤ 4611686014132420609
square_small w h = rw (unsigned_abs-mul w w) (mul-le (nat_abs w) (nat_abs w) 2147483647 2147483647 (omega arith) (omega arith))

squares_small : (ws : List ℤ) → AllByRecursion IsLight ws → AreAtMost 4611686014132420609 (map (λ w. w *ℤ w) ws)
squares_small [] h = tt
squares_small (w ∷ ws) h = (square_small w h.0, squares_small ws h.1)

as_many : (ws : List ℤ) → length (map (λ w. w *ℤ w) ws) ≡ length ws
as_many [] = refl
as_many (w ∷ ws) = ap suc (as_many ws)

light_small : (w : ℤ) → IsLight w → nat_abs w ≤ 2147483647
light_small w h = omega arith

-- a cell of at most so many weights
pub cell_fits : (most : ℕ) (ws : List ℤ) → length ws ≤ most → AllByRecursion IsLight ws
    → (nat_abs (cell_of ws).sum ≤ most * 2147483647) × (nat_abs (cell_of ws).squares ≤ most * 4611686014132420609)
cell_fits most ws few h =
    let many = as_many ws in
    let sum = sum_small 2147483647 ws (all_weaker IsLight (λ w. nat_abs w ≤ 2147483647) light_small ws h) in
    let squares = sum_small 4611686014132420609 (map (λ w. w *ℤ w) ws) (squares_small ws h) in
    (omega arith, omega arith)

-- ---- numbers of 64 bits

one_of_two : (x y : ℤ) (b : Bool) → Has64Bits x → Has64Bits y → Has64Bits (cond b x y)
one_of_two x y true h k = h
one_of_two x y false h k = k

min_fits : (x y : ℤ) → Has64Bits x → Has64Bits y → Has64Bits (int_min x y)
min_fits x y h k = one_of_two y x (int_lt y x) k h

max_fits : (x y : ℤ) → Has64Bits x → Has64Bits y → Has64Bits (int_max x y)
max_fits x y h k = one_of_two x y (int_lt y x) h k

bits : (z : ℤ) → FitsSigned w64 z → Has64Bits z
bits (pos n) h = let s = h.sfits in omega arith
bits (negsuc n) h = let s = h.sfits in omega arith

signed_fits : (n : ℕ) → n < 2 ^ 64 → Has64Bits (cast_signed w64 n)
signed_fits n h =
    let same : (n + 0) % 2 ^ 64 ≡ n = (let e : n + 0 ≡ n = omega arith in ap (λ m. m % 2 ^ 64) e ∙ mod-eq_of_lt h) in
    bits (cast_signed w64 n)
    (subst (λ m. FitsSigned w64 (cast_signed w64 m)) same (subst (FitsSigned w64) (sym (wrapping_add-bits w64 n 0 h (omega arith))) (SFits-int_wrap w64 (cast_signed w64 n +ℤ cast_signed w64 0))))

low_bits : (z : ℤ) → cast_unsigned w64 z % 2 ^ 64 < 2 ^ 64
low_bits z = mod-lt (cast_unsigned w64 z) (omega arith)

step_fits : (o : ReduceOp) (x y : ℤ) → Has64Bits x → Has64Bits y → Has64Bits (reduce_step o x y)
step_fits ReduceOp.Min x y h k = min_fits x y h k
step_fits ReduceOp.Max x y h k = max_fits x y h k
step_fits ReduceOp.And x y h k =
    let small = low_bits x in
    let less = and_le_l (cast_unsigned w64 x % 2 ^ 64) (cast_unsigned w64 y % 2 ^ 64) in
    signed_fits (bit_and (cast_unsigned w64 x % 2 ^ 64) (cast_unsigned w64 y % 2 ^ 64)) (omega arith)
step_fits ReduceOp.Or x y h k = signed_fits (bit_or (cast_unsigned w64 x % 2 ^ 64) (cast_unsigned w64 y % 2 ^ 64)) (or_lt 64 (cast_unsigned w64 x % 2 ^ 64) (cast_unsigned w64 y % 2 ^ 64) (low_bits x) (low_bits y))
step_fits ReduceOp.Xor x y h k = signed_fits (bit_xor (cast_unsigned w64 x % 2 ^ 64) (cast_unsigned w64 y % 2 ^ 64)) (xor_lt 64 (cast_unsigned w64 x % 2 ^ 64) (cast_unsigned w64 y % 2 ^ 64) (low_bits x) (low_bits y))
step_fits ReduceOp.WrapAdd x y h k = signed_fits ((cast_unsigned w64 x + cast_unsigned w64 y) % 2 ^ 64) (mod-lt (cast_unsigned w64 x + cast_unsigned w64 y) (omega arith))

start_fits : (o : ReduceOp) → Has64Bits (reduce_start o)
start_fits ReduceOp.Min = omega arith
start_fits ReduceOp.Max = omega arith
start_fits ReduceOp.And = omega arith
start_fits ReduceOp.Or = omega arith
start_fits ReduceOp.Xor = omega arith
start_fits ReduceOp.WrapAdd = omega arith

-- what is folded from numbers of 64 bits, by what keeps them so
fold_fits : (f : ℤ → ℤ → ℤ) → ((x y : ℤ) → Has64Bits x → Has64Bits y → Has64Bits (f x y)) → (acc : ℤ) (zs : List ℤ) → Has64Bits acc → AllByRecursion Has64Bits zs → Has64Bits (fold f acc zs)
fold_fits f keeps acc [] h k = h
fold_fits f keeps acc (z ∷ zs) h k = fold_fits f keeps (f acc z) zs (keeps acc z h k.0) k.1

pub reduced_fits : (o : ReduceOp) (zs : List ℤ) → AllByRecursion Has64Bits zs → Has64Bits (fold (reduce_step o) (reduce_start o) zs)
reduced_fits o zs h = fold_fits (reduce_step o) (step_fits o) (reduce_start o) zs (start_fits o) h

extreme_fits : (f : ℤ → ℤ → ℤ) → ((x y : ℤ) → Has64Bits x → Has64Bits y → Has64Bits (f x y)) → (zs : List ℤ) → AllByRecursion Has64Bits zs → FitsExtreme (extreme f zs)
extreme_fits f keeps [] h = tt
extreme_fits f keeps (z ∷ zs) h = fold_fits f keeps z zs h.0 h.1

pub least_fits : (zs : List ℤ) → AllByRecursion Has64Bits zs → FitsExtreme (extreme int_min zs)
least_fits zs h = extreme_fits int_min min_fits zs h

pub greatest_fits : (zs : List ℤ) → AllByRecursion Has64Bits zs → FitsExtreme (extreme int_max zs)
greatest_fits zs h = extreme_fits int_max max_fits zs h
