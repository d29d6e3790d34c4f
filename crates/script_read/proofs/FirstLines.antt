-- The first line of a text, and the reading of a script line by line.
use Rattle.lemmas.proofs.{◌≡◌, ◌<◌, ◌≤◌, ◌+◌, ℕ, suc, List, [], ◌∷◌, ◌++◌, length, take, drop, get_or, drop-cons, add-one, subst, Bool, true, false, None, Some, Option, arith, refl, ap, sym, ◌∙◌, not, nat_lt, ◌==◌, position, cond, ◌⊎◌, length-append, append_assoc, and_from, list_all, nat_tests, position-Some, position_or_len, strip_last, append-nil}
use Rattle.std.proofs.lemmas.List.{take_all, take-append-drop}
use Rattle.rdf_values.specs.{lines_of, AreLines, IsScript, Line, RefusesLines, RefusesScript, Script, ScriptCause}
use Rattle.rdf_values.proofs.ScriptSteps.{is_in_line, without_cr, lines_of_line, lines_of_last}
use Rattle.rdf_values.proofs.OneScript.{script_or_refusal, one_cause}
use Rattle.expr_read.proofs.Decided.{read_once}
use Rattle.script_read.specs.declared.refusal.ScriptRefusal.{ScriptRefusal}
use Rattle.script_read.specs.{adds_nothing, adds_statement, AddsLine, RefusesFirstAs, RefusesTextAs}
use Rattle.rdf_values.specs.scripts.Scripts as script

abbrev pub is_lf : ℕ → Bool
is_lf byte = byte == 10

-- ---- a CR at a line's end

some : (n : ℕ) → nat_lt 0 (suc n) ≡ true
some n = grind (arith, nat_tests)

strip_more : (c d : ℕ) (cs : List ℕ) → c ∷ strip_last 13 (d ∷ cs) ≡ strip_last 13 (c ∷ d ∷ cs)
strip_more c d cs = grind (arith, some)

stripped : (line : List ℕ) → without_cr line ≡ strip_last 13 line
stripped [] = refl
stripped (c ∷ []) = refl
stripped (c ∷ d ∷ cs) = ap (λ l. c ∷ l) (stripped (d ∷ cs)) ∙ strip_more c d cs

-- ---- an LF

-- no LF stands before the first
no_lf_before : (xs : List ℕ) → list_all is_in_line (take (position_or_len is_lf xs) xs) ≡ true
no_lf_before [] = refl
no_lf_before (x ∷ xs) = at (x == 10) refl (no_lf_before xs)
  where
    at : (b : Bool) → (x == 10) ≡ b → list_all is_in_line (take (position_or_len is_lf xs) xs) ≡ true → list_all is_in_line (take (cond (not b) (1 + position_or_len is_lf xs) 0) (x ∷ xs)) ≡ true
    at true e h = refl
    at false e h =
        let one : suc (position_or_len is_lf xs) ≡ 1 + position_or_len is_lf xs = omega arith in
        subst (λ n. list_all is_in_line (take n (x ∷ xs)) ≡ true) one (and_from (not (x == 10)) (list_all is_in_line (take (position_or_len is_lf xs) xs)) (ap not e) h)

-- the first line ends at that place, or at the text's end
abbrev pub EndsAt : List ℕ → Option ℕ → Type 0
EndsAt text None = 0 < length text → lines_of text ≡ text ∷ []
EndsAt text (Some i) = lines_of text ≡ strip_last 13 (take i text) ∷ lines_of (drop (i + 1) text)

-- the place of the first LF is known
at_lf : (text : List ℕ) (i : ℕ) → i ≡ position_or_len is_lf text → i < length text → (get_or text i 0 == 10) ≡ true → EndsAt text (Some i)
at_lf text i e lt lf =
    let ten : get_or text i 0 ≡ 10 = grind (arith, nat_tests) in
    let parts : take i text ++ 10 ∷ drop (i + 1) text ≡ text = rw (add-one, ← ten, ← drop-cons text i 0 lt) (take-append-drop i text) in
    let front : list_all is_in_line (take i text) ≡ true = rw e (no_lf_before text) in
    ap lines_of (sym parts) ∙ lines_of_line (take i text) (drop (i + 1) text) front ∙ ap (λ l. l ∷ lines_of (drop (i + 1) text)) (stripped (take i text))

no_lf : (text : List ℕ) → length text ≤ position_or_len is_lf text → 0 < length text → lines_of text ≡ text ∷ []
no_lf [] none some = absurd (omega arith)
no_lf (c ∷ cs) none some =
    let all : take (position_or_len is_lf (c ∷ cs)) (c ∷ cs) ≡ c ∷ cs = take_all _ _ none in
    lines_of_last cs c (subst (λ l. list_all is_in_line l ≡ true) all (no_lf_before (c ∷ cs)))

pub first_end : (text : List ℕ) → EndsAt text (position is_lf text)
first_end text = grind (arith, position_or_len, nat_tests, at_lf, position-Some, no_lf)

pub none_behind : lines_of [] ≡ []
unfolding lines_of
none_behind = refl

-- ---- The reading of a script, line by line.

-- what completes the lines left completes the text, and what refuses them refuses it
pub record Reads (text left : List ℕ) (number : ℕ) (found : List Line) : Type 0 where
  pub whole : (ls : List Line) → AreLines number (lines_of left) ls → AreLines 1 (lines_of text) (found ++ ls)
  pub refused : (c : ScriptCause) → RefusesLines number (length found) (lines_of left) c → RefusesScript text c
  pub few : length found ≤ 256
  pub from_one : 1 ≤ number
  pub counted : number + length left ≤ length text + 1

pub reads_line : (text left line behind : List ℕ) (number : ℕ) (found more : List Line) → Reads text left number found → lines_of left ≡ line ∷ lines_of behind
    → length behind < length left → AddsLine number line found more → Reads text behind (suc number) more
reads_line text left line behind number found more r e shorter (adds_nothing b) = record {
  whole = λ ls a. r.whole ls (rw e (script.blank_line b a));
  refused = λ c a. r.refused c (rw e (script.after_blank b a));
  few = r.few;
  from_one = omega arith;
  counted = let h = r.counted in omega arith;
}
reads_line text left line behind number found more r e shorter (adds_statement {s = s} is room) =
    let one : List Line = record { number = number; statement = s } ∷ [] in
    let longer : length (found ++ one) ≡ suc (length found) = omega (arith, length-append found one) in
    record {
      whole = λ ls a. rw append_assoc (r.whole (record { number = number; statement = s } ∷ ls) (rw e (script.statement_line is a)));
      refused = λ c a. r.refused c (rw e (script.after_statement is room (rw longer at a)));
      few = omega arith;
      from_one = omega arith;
      counted = let h = r.counted in omega arith;
    }

pub reads_bad : (text left line behind : List ℕ) (number : ℕ) (found : List Line) (e : ScriptRefusal) → Reads text left number found → lines_of left ≡ line ∷ lines_of behind
    → RefusesFirstAs number (length found) line e → RefusesTextAs text e
reads_bad text left line behind number found e r h bad = grind arith

pub nothing_left : (left : List ℕ) (b : Bool) → b ≡ (length left == 0) → b ≡ true → left ≡ []
nothing_left [] b e f = refl
nothing_left (x ∷ xs) b e f = let no : suc (length xs) ≡ 0 = grind (arith, nat_tests) in absurd (omega arith)

pub reads_all : (text left : List ℕ) (number : ℕ) (s : Script) → Reads text left number s.lines → left ≡ [] → IsScript text s
reads_all text left number s r e = record {
  lines = subst (AreLines 1 (lines_of text)) (append-nil s.lines) (r.whole [] (rw (e, none_behind) script.no_lines));
  few = r.few;
}

-- ---- one answer

-- a text that is a script is refused for want of memory alone
pub memory_alone : (text : List ℕ) (e : ScriptRefusal) (s : Script) → RefusesTextAs text e → IsScript text s → e ≡ ScriptRefusal.Memory
memory_alone text e s bad is = grind (arith, script_or_refusal, read_once)

-- a text that is refused is refused for that cause, or for want of memory
pub cause_or_memory : (text : List ℕ) (e : ScriptRefusal) (c : ScriptCause) → RefusesTextAs text e → RefusesScript text c → (e ≡ ScriptRefusal.At c) ⊎ (e ≡ ScriptRefusal.Memory)
cause_or_memory text e c bad is = grind (arith, one_cause, read_once)
