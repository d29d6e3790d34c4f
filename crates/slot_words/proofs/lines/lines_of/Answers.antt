use Rattle.lemmas.proofs.{◌≡◌, ℕ, List, ◌<◌, ◌≤◌, ◌+◌, ◌*◌, ◌/◌, length, map, sym, ap, ◌∙◌, subst, arith, length_push}
use Rattle.rdf_values.specs.{below}
use Rattle.merge_core.specs.{Noted}
use Rattle.loop_pieces.specs.{ArePartialLines, IsPartialLine, PartialLine, WatchPiece}
use Rattle.slot_words.specs.{AreLinesSoFar, set_before, WatchedPlace}
use Rattle.slot_words.proofs.Noting.{lines_next, multiple_below}
use Rattle.slot_words.proofs.lines.lines_of.Goals as goal

-- the lines before the next one
so_far : (os : List (List ℕ)) (clusters step n : ℕ) (ts : List (List (Noted WatchPiece))) (w : WatchedPlace os clusters ts) (ls now : List PartialLine) → clusters ≤ 1000000 → n < clusters / step → length ls ≡ n → now ≡ ls
    → ArePartialLines w.facts w.place (map (λ j. set_before os w.dones clusters ((j + 1) * step)) (below (length ls))) ls → AreLinesSoFar os clusters w.facts w.place w.dones step now
so_far os clusters step n ts w ls now few lt many is are = grind (arith, multiple_below)

pub next_line-requires-clause-noted : goal.next_line-requires-clause-noted
next_line-requires-clause-noted c = (c.args.clusters, c.requires.noted, so_far _ _ _ c.loop.counter _ c.requires.noted c.loop.lines _ c.requires.few c.loop-test.true c.loop.invariant.many c.as_slice.ensures (c.loop.invariant.are c.requires.noted))

pub loop-preserved : goal.loop-preserved
loop-preserved c =
    let more : length c.push.new.self ≡ length c.loop.lines + 1 = ap length c.in_ok-push.ensures.ok ∙ length_push c.loop.lines c.in_ok-line.line in
    record {
      many = omega (arith, more, c.loop.invariant.many);
      are = λ w.
          (let sets = λ (j : ℕ). set_before c.args.orders.now.slots w.dones c.args.clusters ((j + 1) * c.args.step) in
          let line = subst (λ (ls : List PartialLine). IsPartialLine w.facts w.place (sets (length ls)) c.in_ok-line.line) c.as_slice.ensures (c.in_ok-line.ensures c.args.clusters w (so_far _ _ _ c.loop.counter _ w c.loop.lines _ c.requires.few c.loop-test.true c.loop.invariant.many c.as_slice.ensures (c.loop.invariant.are w))) in
          subst (λ (n : ℕ). ArePartialLines w.facts w.place (map sets (below n)) c.push.new.self) (sym more)
          (lines_next w.facts w.place sets (length c.loop.lines) c.loop.lines c.push.new.self c.in_ok-line.line (c.loop.invariant.are w) line c.in_ok-push.ensures.ok));
    }

pub returns : goal.returns
returns c = λ w.
    let over : length c.loop.lines ≡ c.args.clusters / c.args.step = omega (arith, c.loop.invariant.many) in
    subst (λ (n : ℕ). ArePartialLines w.facts w.place (map (λ j. set_before c.args.orders.now.slots w.dones c.args.clusters ((j + 1) * c.args.step)) (below n)) c.loop.lines) over (c.loop.invariant.are w)
