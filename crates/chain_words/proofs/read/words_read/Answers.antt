use Rattle.lemmas.proofs.{◌∙◌, sym, arith}
use Rattle.chain_words.proofs.Words.{goes_on, stops}
use Rattle.chain_words.proofs.read.words_read.Goals as goal

pub returns-in-None : goal.returns-in-None
returns-in-None c =
    let lt = c.loop-i-test.true in
    stops c.args.words.now c.loop-i.i c.word.result.now (omega (arith, c.len-i-end.ensures)) c.word.ensures c.loop-i.reading _ (sym c.in_ok-next.ensures ∙ c.in-None.is) c.loop-i.invariant

pub loop-i-preserved : goal.loop-i-preserved
loop-i-preserved c =
    let lt = c.loop-i-test.true in
    goes_on c.args.words.now c.loop-i.i c.word.result.now (omega (arith, c.len-i-end.ensures)) c.word.ensures c.loop-i.reading _ c.in-Some.next (sym c.in_ok-next.ensures ∙ c.in-Some.is) c.loop-i.invariant
