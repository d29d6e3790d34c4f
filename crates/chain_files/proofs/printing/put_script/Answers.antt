use Rattle.lemmas.proofs.{List, ℕ, [], ◌∷◌, codes, on_ok}
use Rattle.chain_files.specs.{line_text}
use Rattle.chain_files.proofs.Runs.{line_on}
use Rattle.shard_lines.proofs.Runs.{words_on}
use Rattle.shard_lines.specs.{joined_words}
use Rattle.chain_files.proofs.printing.put_script.Goals as goal

pub returns : goal.returns
unfolding line_text
returns c =
    let ws : List (List ℕ) = c.args.script.now ∷ [] in
    on_ok c.push.result _ _
    (λ e. line_on c.args.text.now c.put_word.new.text c.push.new.self (joined_words (codes "script" ∷ ws))
    (words_on c.args.text.now c.extend.new.self c.put_word.new.text (codes "script") ws c.in_ok-extend.ensures.ok c.in_ok-put_word.ensures) e)
    c.push.ensures.ok
