use Rattle.lemmas.proofs.{List, ℕ, [], ◌∷◌, codes, decimal, on_ok}
use Rattle.chain_files.specs.{line_text}
use Rattle.chain_files.proofs.Runs.{line_on}
use Rattle.shard_lines.proofs.Runs.{spaced_on, words_on}
use Rattle.shard_lines.specs.{joined_words}
use Rattle.chain_files.proofs.printing.put_files.Goals as goal

pub returns : goal.returns
unfolding line_text
returns c =
    let first = decimal c.args.first in
    let end = decimal c.args.end in
    let ws : List (List ℕ) = first ∷ end ∷ [] in
    on_ok c.push.result _ _
    (λ e. line_on c.args.text.now c.put_count-2.new.text c.push.new.self (joined_words (codes "files" ∷ ws))
    (words_on c.args.text.now c.extend.new.self c.put_count-2.new.text (codes "files") ws c.in_ok-extend.ensures.ok
    (spaced_on c.extend.new.self c.put_count.new.text c.put_count-2.new.text first (end ∷ []) c.in_ok-put_count.ensures c.in_ok-put_count-2.ensures)) e)
    c.push.ensures.ok
