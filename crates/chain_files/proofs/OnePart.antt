-- A text is of one part at most, and it breaks nowhere.
use Rattle.lemmas.proofs.{◌≡◌, Some, List, [], ◌∷◌, ◌++◌, ap, ◌∙◌, refl, sym, append-nil, subst}
use Rattle.shard_lines.specs.{EachFits}
use Rattle.chain_files.specs.declared.part_line.PartLine.{PartLine}
use Rattle.chain_files.specs.{IsPart, lines_text, part_lines, part_of, part_text, PartView, TextBreaksNowhere, TextIsOfOnePart}
use Rattle.chain_files.proofs.PartLines.{FitsPartLine}
use Rattle.chain_files.proofs.Running.{ended, run, start, whole_runs}
use Rattle.chain_files.proofs.Splitting.{begins_with, fit_front, lines_fit, nothing}

pub a_text_breaks_nowhere : TextBreaksNowhere
a_text_breaks_nowhere s number v b =
    let begun = b.begins in
    let before = fit_front b.before begun.more (subst (EachFits FitsPartLine) begun.lines (lines_fit begun.part begun.valid)) in
    let on = begins_with (part_lines s) b.before b.rest (lines_fit s v) before b.text in
    go on.0 on.1 on.2
  where
    go : (more : List PartLine) → part_lines s ≡ b.before ++ more → b.rest ≡ lines_text more → ⊥
    go [] e r = b.not_over r (record { part = s; valid = v; lines = e ∙ append-nil b.before })
    go (l ∷ more) e r = b.no_next l (lines_text more) r (record { part = s; valid = v; more = more; lines = e ∙ regroup b.before l more })
      where
        regroup : (xs : List PartLine) (x : PartLine) (ys : List PartLine) → xs ++ x ∷ ys ≡ (xs ++ x ∷ []) ++ ys
        regroup [] x ys = refl
        regroup (z ∷ xs) x ys = ap (λ t. z ∷ t) (regroup xs x ys)

-- the lines say the part: reading them gives it
same_part : (s t : PartView) → IsPart s → IsPart t → part_lines s ≡ part_lines t → s ≡ t
same_part s t v w h =
    let both : Some (ended s s.loops) ≡ Some (ended t t.loops) = sym (whole_runs s v) ∙ ap (run start) h ∙ whole_runs t w in
    let same : ended s s.loops ≡ ended t t.loops = cc both in
    ap part_of same

nothing_left : (ls : List PartLine) → [] ≡ lines_text ls → ls ≡ []
nothing_left [] h = refl
nothing_left (l ∷ ls) h = absurd (nothing l (lines_text ls) h)

pub a_text_is_of_one_part : TextIsOfOnePart
a_text_is_of_one_part s t v w h =
    let on = begins_with (part_lines s) (part_lines t) [] (lines_fit s v) (lines_fit t w) (h ∙ sym (append-nil (part_text t))) in
    let none = nothing_left on.0 on.2 in
    same_part s t v w (on.1 ∙ ap (λ m. part_lines t ++ m) none ∙ append-nil (part_lines t))
