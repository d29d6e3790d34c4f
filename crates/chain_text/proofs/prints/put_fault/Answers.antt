use Rattle.lemmas.proofs.{◌++◌, ◌∙◌, ap, decimal, on_ok}
use Rattle.result_text.specs.{passes_at}
use Rattle.chain_text.proofs.FaultLines.{put_behind}
use Rattle.chain_text.proofs.prints.put_fault.Goals as goal

pub returns : goal.returns
returns c =
    on_ok c.extend-2.result _ _
    (λ e. put_behind (passes_at c.args.graph.now c.args.l) c.args.fault.now c.args.text.now c.extend.new.self c.put_count.new.text c.extend-2.new.self c.as_bytes.result.now (c.as_bytes.ensures ∙ c.in_ok-line.ensures) c.in_ok-extend.ensures.ok
    (c.in_ok-put_count.ensures ∙ ap (λ k. c.extend.new.self ++ decimal k) c.from.ensures) e)
    c.extend-2.ensures.ok
