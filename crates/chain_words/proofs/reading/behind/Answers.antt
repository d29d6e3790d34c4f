use Rattle.lemmas.proofs.{ap, ◌∙◌, sym, take, drop, length-drop, take-length}
use Rattle.chain_words.proofs.reading.behind.Goals as goal

pub returns : goal.returns
returns c = ap (λ n. take n (drop c.args.n c.args.word.now)) (sym (length-drop c.args.n c.args.word.now)) ∙ take-length (drop c.args.n c.args.word.now)
