-- Steps of whole reads and writes, and of walks that make a struct without fields.
use Rattle.lemmas.proofs.{List, [], ◌∷◌, refl, ◌≡◌, ◌≤◌, ◌+◌, ℕ, ◌++◌, Option, None, Some, length, take, drop, ap, sym, ◌∙◌, append_assoc, length-append, arith, ◌<◌, ◌-◌, ◌^◌, ⊎_elim, min, zero, suc, Bool, Ok, if◌then◌else◌, position, cond, not, length-drop, true, false, get_or, cases_lt, cond-false, cond-true, drop_of_length-le, le-ltb, lt-ltb, position_or_len, take-append_seam}
use seplogic.Ra.Ura.{Ura}
use mir.Val.{Val, vstruct, vnil}
use types.Logic.{Logic}
use types.Kit.{Goal, Step, step, Item, ‵, ◌$◌, fjoin, fpack, feq_i}
use denote.RattleType.{RattleType, Valss}
use denote.Steps.{nothing}
use denote.Struct.Struct.{Struct, within}
use Rattle.std.proofs.lemmas.List.{take-append-drop, nil_from_length, drop-drop, length-take, take_all}
use Rattle.rdf_outside.specs.{Appends, Joins, Reads, bytes_at, file_of, Finds, has_name, left_at, moved, ReadsFrom, Takes}
use Rattle.rdf_outside.specs.declared.shelf.Failed.{Failed}
use Rattle.rdf_outside.specs.declared.memory_shelf.MemoryFile.{MemoryFile}
use Rattle.rdf_outside.specs.declared.memory_shelf.ReadPlace.{ReadPlace}

-- a struct without fields: what it owns does not read its name
abbrev pub plain_none : RattleType
plain_none = Struct (record { name = []; args = []; types = []; fields = [] })

abbrev pub none : Val
none = vstruct vnil

module _ {M : Type 1} {𝓤 : Ura M} {𝓛 : Logic 𝓤} {K : Type 0} {Γ : List (Item 𝓤)} {G : Goal 𝓤 𝓛.H} where
  pub none_made : K → Step K 𝓛 (‵ (plain_none.own_val tt (none ∷ [])) ∷ Γ) G Γ G
  none_made t = step (λ s.
      nothing t $ feq_i t (List Val) (none ∷ []) (none ∷ []) refl $ fjoin t $
      fpack t (Valss []) (within (record { name = []; args = []; types = []; fields = [] }) tt (none ∷ [])) tt $ s)

-- ---- Steps of whole reads and writes.

-- nothing stands behind the whole
nil_behind : (all bytes rest : List ℕ) → all ≡ bytes ++ rest → bytes ≡ all → rest ≡ []
nil_behind all bytes rest e same =
    let n : length all ≡ length bytes + length rest = ap length e ∙ length-append bytes rest in
    let m : length bytes ≡ length all = ap length same in
    nil_from_length rest (omega arith)

nothing_left : (all bytes : List ℕ) (after : Option (List ℕ)) → Joins all bytes after → bytes ≡ all → after ≡ Some []
nothing_left all bytes None j e = absurd j
nothing_left all bytes (Some rest) j e = ap Some (nil_behind all bytes rest j e)

-- the whole was read where what was read and what is left make up all that was left
pub reads : (left after : Option (List ℕ)) (bytes : List ℕ) → ((all : List ℕ) → left ≡ Some all → Joins all bytes after × (bytes ≡ all)) → Reads left after bytes
reads None after bytes h = tt
reads (Some all) after bytes h = let j = h all refl in (j.1, nothing_left all bytes after j.0 j.1)

pub Appends-more : (w v u : Option (List ℕ)) (d p : List ℕ) → Appends w v d → Appends v u p → Appends w u (d ++ p)
Appends-more None v u d p a b = tt
Appends-more (Some x) v u d p a b = let b' = rw a at b in b' ∙ ap Some (append_assoc x d p)

-- one more piece of the bytes is done
pub done_more : (w v u : Option (List ℕ)) (all rest rest' : List ℕ) (n : ℕ) → n ≤ length rest → rest' ≡ drop n rest
    → (d : List ℕ) × (all ≡ d ++ rest) × Appends w v d → Appends v u (take n rest) → (d : List ℕ) × (all ≡ d ++ rest') × Appends w u d
done_more w v u all rest rest' n h e done a =
    (done.0 ++ take n rest, rw (e, append_assoc) (done.1 ∙ ap (λ r. done.0 ++ r) (sym (take-append-drop n rest))), Appends-more w v u done.0 (take n rest) done.2 a)

-- ---- files in memory, place by place

pub bytes_at_is : (fs : List MemoryFile) (i : ℕ) (f : MemoryFile) → i < length fs → f ≡ get_or fs i f → bytes_at fs i ≡ f.bytes.items
bytes_at_is [] i f h e = absurd (omega arith)
bytes_at_is (g ∷ gs) zero f h e = ap (λ (x : MemoryFile). x.bytes.items) (sym e)
bytes_at_is (g ∷ gs) (suc i) f h e = bytes_at_is gs i f (omega arith) e

pub bytes_past : (fs : List MemoryFile) (i : ℕ) → length fs ≤ i → bytes_at fs i ≡ []
bytes_past [] i h = refl
bytes_past (g ∷ gs) zero h = absurd (omega arith)
bytes_past (g ∷ gs) (suc i) h = bytes_past gs i (omega arith)

bytes_behind : (f : MemoryFile) (fs : List MemoryFile) (n : ℕ) → bytes_at (f ∷ fs) (1 + n) ≡ bytes_at fs n
bytes_behind f fs n = let e : 1 + n ≡ suc n = omega arith in rw e refl

-- the file at the first place with the name is the file of that name
file_at : (fs : List MemoryFile) (name : List ℕ) → position_or_len (has_name name) fs < length fs → file_of fs name ≡ Some (bytes_at fs (position_or_len (has_name name) fs))
file_at [] name = λ h. absurd (omega arith)
file_at (f ∷ fs) name =
    elim (has_name name f) as (λ b. cond (not b) (1 + position_or_len (has_name name) fs) 0 < length (f ∷ fs)
    → cond b (Some f.bytes.items) (file_of fs name) ≡ Some (bytes_at (f ∷ fs) (cond (not b) (1 + position_or_len (has_name name) fs) 0))) [
      | true ↦ λ h. refl
      | false ↦ λ h. file_at fs name (omega arith) ∙ ap Some (sym (bytes_behind f fs (position_or_len (has_name name) fs)))
    ]

no_file : (fs : List MemoryFile) (name : List ℕ) → length fs ≤ position_or_len (has_name name) fs → file_of fs name ≡ None
no_file [] name = λ h. refl
no_file (f ∷ fs) name =
    elim (has_name name f) as (λ b. length (f ∷ fs) ≤ cond (not b) (1 + position_or_len (has_name name) fs) 0 → cond b (Some f.bytes.items) (file_of fs name) ≡ None)
    [ true ↦ λ h. absurd (omega arith) | false ↦ λ h. no_file fs name (omega arith) ]

pub finds_at : (fs : List MemoryFile) (name : List ℕ) (i : ℕ) → Some i ≡ position (has_name name) fs → Finds (file_of fs name) (Some (bytes_at fs i)) true
finds_at fs name i e =
    ⊎_elim
    (λ (lt : position_or_len (has_name name) fs < length fs).
    let there : Some i ≡ Some (position_or_len (has_name name) fs) = e ∙ cond-true _ _ _ (lt-ltb _ _ lt) in
    let same : i ≡ position_or_len (has_name name) fs = cc in
    rw (file_at fs name lt, same) (refl, refl))
    (λ (ge : length fs ≤ position_or_len (has_name name) fs). absurd (cc (e ∙ cond-false _ _ _ (le-ltb _ _ ge))))
    (cases_lt (position_or_len (has_name name) fs) (length fs))

pub finds_none : (fs : List MemoryFile) (name : List ℕ) → None ≡ position (has_name name) fs → Finds (file_of fs name) (Some []) false
finds_none fs name e =
    ⊎_elim (λ (lt : position_or_len (has_name name) fs < length fs). absurd (cc (e ∙ cond-true _ _ _ (lt-ltb _ _ lt))))
    (λ (ge : length fs ≤ position_or_len (has_name name) fs). rw (no_file fs name ge) (refl, refl))
    (cases_lt (position_or_len (has_name name) fs) (length fs))

bytes_fit : (fs : List MemoryFile) (i : ℕ) → length (bytes_at fs i) < 2 ^ 64
bytes_fit [] i = omega arith
bytes_fit (g ∷ gs) zero = omega arith
bytes_fit (g ∷ gs) (suc i) = bytes_fit gs i

drop_min : (bs : List ℕ) (k top : ℕ) → length bs ≤ top → drop (min k top) bs ≡ drop k bs
drop_min bs k top h =
    ⊎_elim (λ (le : k < top). ap (λ n. drop n bs) (let e : min k top ≡ k = omega arith in e))
    (λ (gt : top ≤ k). drop_of_length-le bs (let e : length bs ≤ min k top = omega arith in e) ∙ sym (drop_of_length-le bs (let e : length bs ≤ k = omega arith in e)))
    (cases_lt k top)

pub left_moved : (fs : List MemoryFile) (place : Option ReadPlace) (n : ℕ) → left_at fs (moved place n) ≡ drop n (left_at fs place)
left_moved fs None n = sym (drop_of_length-le [] (omega arith))
left_moved fs (Some p) n =
    let fits = bytes_fit fs p.file in
    drop_min (bytes_at fs p.file) (p.read + n) (2 ^ 64 - 1) (omega arith) ∙ sym (drop-drop n p.read (bytes_at fs p.file))

pub left_is : (fs : List MemoryFile) (place : Option ReadPlace) (p : ReadPlace) (bs : List ℕ) → place ≡ Some p → bytes_at fs p.file ≡ bs → left_at fs place ≡ drop p.read bs
left_is fs place p bs e b = rw (e, b) refl

take_front : (n : ℕ) (xs ys : List ℕ) → length xs ≡ n → take n (xs ++ ys) ≡ xs
take_front n xs ys e = rw (← e) (take-append_seam xs ys)

pub takes : (left : List ℕ) (after : List ℕ) (n m : ℕ) (buf buf' : List ℕ) → n ≡ min (length left) (length buf) → after ≡ drop n left → buf' ≡ take n left ++ drop n buf → (n ≤ length buf') × Takes left (Some after) n buf'
takes left after n m buf buf' e a b =
    let within : n ≤ length left = omega arith in
    let room : n ≤ length buf = omega arith in
    let front : length (take n left) ≡ n = simp length-take (omega arith) in
    let whole : length buf' ≡ length buf = rw b (simp (length-append, length-take, length-drop) (omega arith)) in (
      omega arith,
      record {
        within = within;
        rest = ap Some a;
        taken = rw b (take_front n (take n left) (drop n buf) front);
        ends = λ z some. nil_from_length left (omega arith);
      },
    )

pub none_left : (fs : List MemoryFile) (place : Option ReadPlace) (p : ReadPlace) (bs : List ℕ) → place ≡ Some p → bytes_at fs p.file ≡ bs → length bs ≤ p.read → ◌≡◌ {A = List ℕ} [] (left_at fs place)
none_left fs place p bs e b h = sym (left_is fs place p bs e b ∙ drop_of_length-le bs h)

pub some_left : (fs : List MemoryFile) (place : Option ReadPlace) (p : ReadPlace) (bs slice : List ℕ) (n : ℕ) → place ≡ Some p → bytes_at fs p.file ≡ bs → slice ≡ bs → n ≡ min p.read (length slice) → take (length slice - n) (drop n slice) ≡ left_at fs place
some_left fs place p bs slice n e b s m =
    rw (left_is fs place p bs e b, m, s)
    (take_all (length bs - min p.read (length bs)) (drop (min p.read (length bs)) bs) (simp length-drop (omega arith)) ∙ drop_min bs p.read (length bs) (omega arith))

-- a read takes from what is left, where that is told
pub reads_where_told : (lost : Bool) (left after : List ℕ) (n : ℕ) (buf : List ℕ) → (n ≤ length buf) × Takes left (Some after) n buf
    → ReadsFrom {E = Failed} (if lost then None else Some left) (if lost then None else Some after) (Ok n) buf
reads_where_told true left after n buf h = (h.0, tt)
reads_where_told false left after n buf h = h
