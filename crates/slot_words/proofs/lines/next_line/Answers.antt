use Rattle.lemmas.proofs.{◌<◌, ℕ, List, [], ◌∷◌, map, refl, sym, ap, ◌∙◌, subst, arith, All, IsStrictlyIncreasing}
use Rattle.rdf_values.specs.{IsUnion}
use Rattle.rdf_values.proofs.UnionLemmas.{both_rise, by_counts, none_rises, two}
use Rattle.rdf_model.specs.{maximal_runs}
use Rattle.loop_pieces.specs.{span_of, watch_facts}
use Rattle.slot_words.proofs.Noting.{alone_added, added_once, added_some, few_added, first_set, grown, have_numbers, line_before, olds, set_grown, StandsAt}
use Rattle.slot_words.proofs.lines.next_line.Goals as goal

pub partial_between-requires : goal.partial_between-requires
partial_between-requires c =
    let n = c.requires.noted in
    record {
      there = c.requires.there;
      numbers = have_numbers n.1;
      rise = n.1.noted.drawn.rising;
      bounds = omega arith;
      some = added_some n.1 c.args.step c.args.lines.now c.requires.step n.2;
      apart = (watch_facts n.1.facts n.1.place, alone_added n.1 _ _, added_once n.1 c.args.step c.args.lines.now c.requires.step n.2);
    }

pub runs_with-requires : goal.runs_with-requires
runs_with-requires c =
    let n = c.requires.noted in
    subst (All (λ (x : ℕ). x < 4294967295)) (sym c.as_slice.ensures) (few_added n.1 c.args.step c.args.lines.now c.requires.step n.2 c.in_ok-more.more.clusters c.in_ok-more.ensures.named)

pub returns-then-count-eq0 : goal.returns-then-count-eq0
returns-then-count-eq0 c = λ clusters w so_far.
    let cs = c.as_slice.result.now in
    let up : IsStrictlyIncreasing cs = subst IsStrictlyIncreasing (sym c.as_slice.ensures) c.in_ok-more.ensures.named.0 in
    let is = first_set w c.args.step c.args.lines.now c.requires.step so_far c.in_ok-more.more.clusters c.in_ok-more.ensures.named c.if-count-eq0.true in
    let runs = c.in_ok-runs.ensures [] cs refl (by_counts ([] ∷ cs ∷ []) cs (both_rise [] cs none_rises up) up (λ x. sym (two x [] cs ∙ omega arith))) in
    record {
      runs = runs ∙ ap (λ l. map span_of (maximal_runs l)) (c.as_slice.ensures ∙ is);
      stands = subst (λ (l : List ℕ). StandsAt w l c.in_ok-more.more.piece) is (c.in_ok-more.ensures.stands (watch_facts w.facts w.place) (alone_added w _ _));
    }

pub join-requires : goal.join-requires
join-requires c =
    let n = c.requires.noted in
    let facts = watch_facts n.1.facts n.1.place in
    let more = c.in_ok-more.more.clusters in (
      facts,
      olds n.1 c.args.step c.args.lines.now c.requires.step n.2,
      more,
      grown n.1 c.args.step c.args.lines.now c.requires.step n.2,
      (line_before n.1 c.args.step c.args.lines.now c.requires.step n.2 c.index-lines-count.result c.if-count-eq0.false c.index-lines-count.is).stands,
      c.in_ok-more.ensures.stands facts (alone_added n.1 _ _),
      set_grown n.1 c.args.step c.args.lines.now c.requires.step n.2 more c.in_ok-more.ensures.named,
    )

pub runs_with-requires-2 : goal.runs_with-requires-2
runs_with-requires-2 c =
    let n = c.requires.noted in
    subst (All (λ (x : ℕ). x < 4294967295)) (sym c.as_slice-3.ensures) (few_added n.1 c.args.step c.args.lines.now c.requires.step n.2 c.in_ok-more.more.clusters c.in_ok-more.ensures.named)

pub returns : goal.returns
returns c = λ clusters w so_far.
    let before = line_before w c.args.step c.args.lines.now c.requires.step so_far c.index-lines-count.result c.if-count-eq0.false c.index-lines-count.is in
    let old = olds w c.args.step c.args.lines.now c.requires.step so_far in
    let now = grown w c.args.step c.args.lines.now c.requires.step so_far in
    let more = c.in_ok-more.more.clusters in
    let facts = watch_facts w.facts w.place in
    let union = set_grown w c.args.step c.args.lines.now c.requires.step so_far more c.in_ok-more.ensures.named in
    record {
      runs = c.in_ok-runs-2.ensures old now (c.as_slice-2.ensures ∙ before.runs) (subst (λ (l : List ℕ). IsUnion (old ∷ l ∷ []) now) (sym c.as_slice-3.ensures) union);
      stands = c.in_ok-join.ensures facts old more now before.stands (c.in_ok-more.ensures.stands facts (alone_added w _ _)) union;
    }
