use Rattle.lemmas.proofs.{◌++◌, drop, sym, ap, ◌∙◌, append_assoc, arith, drop_all}
use Rattle.result_text.specs.{more_taken}
use Rattle.result_text.proofs.PassLines.{put_last, taken_front, taken_next}
use Rattle.result_text.proofs.values.put_taken.Goals as goal

pub loop-i-preserved : goal.loop-i-preserved
loop-i-preserved c = record {
  begun = omega arith;
  text = taken_next c.loop-i.text c.push.new.self c.put_scalar-in-loop-i.new.text _ c.args.taken.now c.loop-i.i c.at-in-loop-i.result c.loop-i.invariant.text c.at-in-loop-i.ensures c.in_ok-push.ensures.ok c.in_ok-put_scalar-2.ensures;
}

pub returns : goal.returns
returns c =
    let others = more_taken (drop 1 c.args.taken.now) in
    put_last _ _ _ c.loop-i.invariant.text (ap more_taken (drop_all c.loop-i.i c.args.taken.now (omega arith)))
    ∙ ap (λ l. l ++ others) c.in_ok-put_scalar.ensures ∙ append_assoc c.args.text.now _ others
    ∙ ap (λ l. c.args.text.now ++ l) (sym (taken_front c.args.taken.now c.at.result c.at.ensures))
