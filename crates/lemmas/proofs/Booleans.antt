-- Tests that are joined.
use Rattle.std.proofs.Common.{◌&&◌, ◌||◌, ◌≡◌, Bool, false, refl, true, if◌then◌else◌, Err, None, Ok, OnOk, Option, Result, Some, arith, option_map}

pub both_true : (a b : Bool) → (a && b) ≡ true → (a ≡ true) × (b ≡ true)
both_true true b h = (refl, h)
both_true false b h = cc h

pub and_left : (a b : Bool) → (a && b) ≡ true → a ≡ true
and_left true b h = refl
and_left false b h = h

pub and_right : (a b : Bool) → (a && b) ≡ true → b ≡ true
and_right true b h = h
and_right false b h = cc h

pub and_true : (b : Bool) → (b && true) ≡ b
and_true true = refl
and_true false = refl

pub and_false : (b : Bool) → (b && false) ≡ false
and_false true = refl
and_false false = refl

pub left_false : (a b : Bool) → (a || b) ≡ false → a ≡ false
left_false true b h = h
left_false false b h = refl

pub right_false : (a b : Bool) → (a || b) ≡ false → b ≡ false
right_false true b h = cc h
right_false false b h = h

pub or_true : (b : Bool) → (b || true) ≡ true
or_true true = refl
or_true false = refl

pub or_false : (a : Bool) → (a || false) ≡ a
or_false true = refl
or_false false = refl

-- ---- what an answer says

pub same_some : {A : Type 0} {a b : A} → ◌≡◌ {A = Option A} (Some a) (Some b) → a ≡ b
same_some q = cc

pub on_ok : {A E : Type 0} (r : Result A E) (P Q : Type 0) → (P → Q) → OnOk r P → OnOk r Q
on_ok (Ok x) P Q f h = f h
on_ok (Err e) P Q f h = h

pub if_some : {A : Type 0} (b : Bool) (x : A) (q : A) → (if b then Some x else None) ≡ Some q → (b ≡ true) × (x ≡ q)
if_some true x q h = (refl, cc h)
if_some false x q h = cc h

pub if_none : {A : Type 0} (b : Bool) (x : A) (q : A) → (if b then None else Some x) ≡ Some q → (b ≡ false) × (x ≡ q)
if_none true x q h = cc h
if_none false x q h = (refl, cc h)

pub of_option : {A B : Type 0} (f : A → B) (o : Option A) (y : B) → option_map f o ≡ Some y → (x : A) × (o ≡ Some x) × (f x ≡ y)
of_option f o y h = grind arith
