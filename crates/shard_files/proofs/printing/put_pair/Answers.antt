use Rattle.lemmas.proofs.{List, ℕ, [], ◌∷◌, decimal, on_ok}
use Rattle.shard_files.proofs.Runs.{line_on}
use Rattle.shard_lines.proofs.Runs.{spaced_on, words_on}
use Rattle.shard_lines.specs.{joined_words}
use Rattle.shard_files.proofs.printing.put_pair.Goals as goal

pub returns : goal.returns
returns c =
    let first = decimal c.args.first in
    let second = decimal c.args.second in
    let ws : List (List ℕ) = first ∷ second ∷ [] in
    on_ok c.push.result _ _
    (λ e. line_on c.args.text.now c.put_count-2.new.text c.push.new.self (joined_words (c.args.word.now ∷ ws))
    (words_on c.args.text.now c.extend.new.self c.put_count-2.new.text c.args.word.now ws c.in_ok-extend.ensures.ok
    (spaced_on c.extend.new.self c.put_count.new.text c.put_count-2.new.text first (second ∷ []) c.in_ok-put_count.ensures c.in_ok-put_count-2.ensures)) e)
    c.push.ensures.ok
