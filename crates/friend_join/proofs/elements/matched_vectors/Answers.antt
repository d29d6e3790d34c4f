use Rattle.lemmas.proofs.{◌≡◌, ◌≤◌, ◌<◌, ◌+◌, ◌∙◌, ℕ, Option, ap, arith, length, subst, sym, take, MatchOption}
use Rattle.std.specs.Prelude.{⊤}
use Rattle.std.specs.List.{sum_by}
use Rattle.friend_join.specs.{length_for, vector_for}
use Rattle.friend_join.proofs.Counting.{lengths_next, match_below, short_at}
use Rattle.friend_join.proofs.elements.matched_vectors.Goals as goal

pub vector_for-requires : goal.vector_for-requires
vector_for-requires c = subst (λ (o : Option ℕ). MatchOption o ⊤ (λ e. e < length c.args.vectors.now)) (sym c.entry-item.is) (match_below _ c.args.matches.now c.loop-entry.entry-index _ c.requires.below c.loop-entry-test.true)

pub loop-entry-preserved : goal.loop-entry-preserved
loop-entry-preserved c =
    let vs = c.args.vectors.now in
    let ms = c.args.matches.now in
    let i = c.loop-entry.entry-index in
    let v = c.vector_for.result.now in
    let here = c.vector_for.ensures ∙ ap (vector_for vs) c.entry-item.is in
    let next : sum_by (length_for vs) (take (i + 1) ms) ≡ sum_by (length_for vs) (take i ms) + length v = lengths_next vs ms i _ v c.loop-entry-test.true here in
    let short : length v ≤ 4096 = short_at vs ms i _ v c.requires.small c.requires.below c.loop-entry-test.true here in
    let so_far = c.loop-entry.invariant.so_far in
    let few = c.loop-entry.invariant.few in
    record { so_far = omega (arith, next, so_far); few = omega (arith, short, few) }
