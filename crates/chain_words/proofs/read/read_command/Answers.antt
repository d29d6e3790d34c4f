use Rattle.lemmas.proofs.{◌∙◌, sym, arith}
use Rattle.chain_words.proofs.Words.{asked}
use Rattle.chain_words.proofs.read.read_command.Goals as goal

pub returns-then-is_over : goal.returns-then-is_over
returns-then-is_over c =
    let some = c.if-len-eq0.false in
    asked c.args.words.now c.word.result.now c.in-Some.reading _ (omega (arith, c.len.ensures)) c.word.ensures (sym c.in_ok-reading.ensures ∙ c.in-Some.is) (sym c.is_over.ensures ∙ c.if-is_over.true) c.command_by.ensures
