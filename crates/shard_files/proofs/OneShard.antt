-- A text is of one shard at most, and it breaks nowhere.
use Rattle.lemmas.proofs.{◌≡◌, Some, List, [], ◌∷◌, ◌++◌, ap, ◌∙◌, refl, sym, append-nil, subst}
use Rattle.shard_lines.specs.{EachFits}
use Rattle.shard_files.specs.declared.file_line.FileLine.{FileLine}
use Rattle.shard_files.specs.{file_lines, IsShard, lines_text, shard_of, shard_text, ShardView, TextBreaksNowhere, TextIsOfOneShard}
use Rattle.shard_files.proofs.FileLines.{FitsFileLine}
use Rattle.shard_files.proofs.Running.{ended, run, start, whole_runs}
use Rattle.shard_files.proofs.Splitting.{begins_with, fit_front, lines_fit, nothing}

pub a_text_breaks_nowhere : TextBreaksNowhere
a_text_breaks_nowhere s number v b =
    let begun = b.begins in
    let before = fit_front b.before begun.more (subst (EachFits FitsFileLine) begun.lines (lines_fit begun.shard begun.valid)) in
    let on = begins_with (file_lines s) b.before b.rest (lines_fit s v) before b.text in
    go on.0 on.1 on.2
  where
    go : (more : List FileLine) → file_lines s ≡ b.before ++ more → b.rest ≡ lines_text more → ⊥
    go [] e r = b.not_over r (record { shard = s; valid = v; lines = e ∙ append-nil b.before })
    go (l ∷ more) e r = b.no_next l (lines_text more) r (record { shard = s; valid = v; more = more; lines = e ∙ regroup b.before l more })
      where
        regroup : (xs : List FileLine) (x : FileLine) (ys : List FileLine) → xs ++ x ∷ ys ≡ (xs ++ x ∷ []) ++ ys
        regroup [] x ys = refl
        regroup (z ∷ xs) x ys = ap (λ t. z ∷ t) (regroup xs x ys)

-- the lines say the shard: reading them gives it
same_shard : (s t : ShardView) → IsShard s → IsShard t → file_lines s ≡ file_lines t → s ≡ t
same_shard s t v w h =
    let both : Some (ended s s.loops) ≡ Some (ended t t.loops) = sym (whole_runs s v) ∙ ap (run start) h ∙ whole_runs t w in
    let same : ended s s.loops ≡ ended t t.loops = cc both in
    ap shard_of same

nothing_left : (ls : List FileLine) → [] ≡ lines_text ls → ls ≡ []
nothing_left [] h = refl
nothing_left (l ∷ ls) h = absurd (nothing l (lines_text ls) h)

pub a_text_is_of_one_shard : TextIsOfOneShard
a_text_is_of_one_shard s t v w h =
    let on = begins_with (file_lines s) (file_lines t) [] (lines_fit s v) (lines_fit t w) (h ∙ sym (append-nil (shard_text t))) in
    let none = nothing_left on.0 on.2 in
    same_shard s t v w (on.1 ∙ ap (λ m. file_lines t ++ m) none ∙ append-nil (file_lines t))
