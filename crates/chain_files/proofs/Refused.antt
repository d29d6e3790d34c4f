-- Reading a part: what holds before each line, and what is refused.
use Rattle.lemmas.proofs.{◌≡◌, ◌≢◌, ◌≤◌, ◌<◌, ◌+◌, ◌↔◌, IsTrue, ℕ, Bool, true, false, Option, None, Some, List, [], ◌∷◌, ◌++◌, length, refl, ap, ◌∙◌, sym, subst, arith, append_assoc, append-nil, length-append, option_and_then}
use Rattle.shard_lines.specs.{EachFits, joined_words, words_in}
use Rattle.shard_lines.proofs.Runs.{joins}
use Rattle.shard_files.specs.Endless.{Endless}
use Rattle.shard_files.proofs.Splitting.{ends_same, joined_again, no_line}
use Rattle.chain_files.specs.{Begins, BreaksAt, IsAll, line_text, lines_text, part_line_of, step, step_on, words_of}
use Rattle.chain_files.specs.declared.part_line.PartLine.{PartLine}
use Rattle.chain_files.specs.declared.progress.PartProgress.{PartProgress}
use Rattle.chain_files.specs.declared.progress.PartStage.{PartStage}
use Rattle.chain_files.proofs.PartLines.{FitsPartLine, part_reads, part_says}
use Rattle.chain_files.proofs.Following.{IsProgress, begins, follows, lines_so_far}
use Rattle.chain_files.proofs.Running.{agrees, ended, run, runs_on, start}
use Rattle.chain_files.proofs.Splitting.{endless_line, fit_front, fit_last, found_again, lines_fit, text_is}

-- what was read of the bytes, the bytes that are left, and the number of the next line
pub record Read (bytes : List ℕ) (p : PartProgress) (rest : List ℕ) (number : ℕ) : Type 0 where
  pub text : bytes ≡ lines_text (lines_so_far p) ++ rest
  pub ran : run start (lines_so_far p) ≡ Some p
  pub holds : IsProgress p
  pub count : length (lines_so_far p) + 1 ≡ number
  pub room : number + length rest ≤ length bytes + 1

lines_push : (ls : List PartLine) (l : PartLine) → lines_text (ls ++ l ∷ []) ≡ lines_text ls ++ line_text l
lines_push ls l = joins line_text ls (l ∷ []) ∙ ap (λ t. lines_text ls ++ t) (append-nil (line_text l))

module _ (bytes : List ℕ) (p : PartProgress) (rest line more : List ℕ) (number : ℕ) (so : Read bytes p rest number) (split : rest ≡ line ++ 10 ∷ more) where
  -- the line was read
  read_line : (l : PartLine) (q : PartProgress) → part_line_of (words_in line) ≡ Some l → step p l ≡ Some q → Read bytes q more (number + 1)
  read_line l q e h =
      let says = part_says (words_in line) l e in
      let next = follows p q l so.holds says.1 h in
      let words : joined_words (words_of l) ≡ line = ap joined_words says.0 ∙ joined_again line in
      let here : line_text l ++ more ≡ rest = text_is l more ∙ ap (λ t. t ++ 10 ∷ more) words ∙ sym split in
      let text : bytes ≡ lines_text (lines_so_far q) ++ more =
      so.text ∙ ap (λ t. lines_text (lines_so_far p) ++ t) (sym here) ∙ sym (append_assoc (lines_text (lines_so_far p)) (line_text l) more)
      ∙ ap (λ t. t ++ more) (sym (lines_push (lines_so_far p) l) ∙ ap lines_text (sym next.1)) in
      let ran : run start (lines_so_far q) ≡ Some q = ap (run start) next.1 ∙ runs_on (lines_so_far p) l p q so.ran h in
      let count : length (lines_so_far q) + 1 ≡ number + 1 = omega (arith, ap length next.1, length-append (lines_so_far p) (l ∷ []), so.count) in
      let size : length rest ≡ length line + length (10 ∷ more) = ap length split ∙ length-append line (10 ∷ more) in
      let room : number + 1 + length more ≤ length bytes + 1 = omega (arith, size, so.room) in
      record { text = text; ran = ran; holds = next.0; count = count; room = room }

  pub read_next : (q : PartProgress) → step_on p (part_line_of (words_in line)) ≡ Some q → Read bytes q more (number + 1)
  read_next q h = by (part_line_of (words_in line)) refl h
    where
      by : (o : Option PartLine) → part_line_of (words_in line) ≡ o → step_on p o ≡ Some q → Read bytes q more (number + 1)
      by None e h = cc h
      by (Some l) e h = read_line l q e h

  refuses : Endless line → step_on p (part_line_of (words_in line)) ≡ None → (l : PartLine) (after : List ℕ) → rest ≡ line_text l ++ after → Begins (lines_so_far p ++ l ∷ []) → ⊥
  refuses endless none l after e b =
      let all : EachFits FitsPartLine ((lines_so_far p ++ l ∷ []) ++ b.more) = subst (EachFits FitsPartLine) b.lines (lines_fit b.part b.valid) in
      let fit : FitsPartLine l = fit_last (lines_so_far p) l (fit_front (lines_so_far p ++ l ∷ []) b.more all) in
      let same = ends_same line (joined_words (words_of l)) more after endless (endless_line l fit) (sym split ∙ e ∙ text_is l after) in
      let read : part_line_of (words_in line) ≡ Some l = ap (λ t. part_line_of (words_in t)) same.0 ∙ ap part_line_of (found_again l fit) ∙ part_reads l fit in
      let stuck : step p l ≡ None = ap (step_on p) (sym read) ∙ none in
      let goes : run p (l ∷ b.more) ≡ Some (ended b.part b.part.loops) = agrees (lines_so_far p) (l ∷ b.more) p b.part so.ran b.valid (b.lines ∙ append_assoc (lines_so_far p) (l ∷ []) b.more) in
      let stops : run p (l ∷ b.more) ≡ None = ap (option_and_then (λ q. run q b.more)) stuck in
      let no : None ≡ Some (ended b.part b.part.loops) = sym stops ∙ goes in
      cc no

  split_some : rest ≡ [] → ⊥
  split_some e = by line (sym e ∙ split)
    where
      by : (t : List ℕ) → [] ≡ t ++ 10 ∷ more → ⊥
      by [] h = cc h
      by (x ∷ t) h = cc h

  pub breaks_at_line : Endless line → step_on p (part_line_of (words_in line)) ≡ None → BreaksAt bytes number
  breaks_at_line endless none =
      record { before = lines_so_far p; rest = rest; text = so.text; count = so.count; begins = begins p so.holds; no_next = refuses endless none; not_over = λ e all. split_some e }

module _ (bytes : List ℕ) (p : PartProgress) (rest : List ℕ) (number : ℕ) (so : Read bytes p rest number) where
  -- no line is left, but the end wasn't read, or bytes are left
  pub breaks_at_end : Endless rest → (rest ≡ [] → p.stage ≢ PartStage.Ended) → BreaksAt bytes number
  breaks_at_end endless unended =
      record {
        before = lines_so_far p;
        rest = rest;
        text = so.text;
        count = so.count;
        begins = begins p so.holds;
        no_next = λ l after e b. no_line rest (joined_words (words_of l)) after endless (e ∙ text_is l after);
        not_over = λ e all. unended e (over all);
      }
    where
      over : IsAll (lines_so_far p) → p.stage ≡ PartStage.Ended
      over all =
          let goes : Some p ≡ Some (ended all.part all.part.loops) = agrees (lines_so_far p) [] p all.part so.ran all.valid (all.lines ∙ sym (append-nil (lines_so_far p))) in
          let same : p ≡ ended all.part all.part.loops = cc goes in
          ap (λ (q : PartProgress). q.stage) same

pub unended : (b : Bool) (P : Type 0) → IsTrue b ↔ P → b ≡ false → P → ⊥
unended true P h e p = cc e
unended false P h e p = let no = h.1 p in cc no

pub full : (rest : List ℕ) → rest ≡ [] → 0 < length rest → ⊥
full rest e l = let none : length rest ≡ 0 = ap length e in absurd (omega (arith, none, l))
