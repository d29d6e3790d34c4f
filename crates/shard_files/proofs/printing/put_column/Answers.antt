use Rattle.lemmas.proofs.{List, ℕ, ◌∙◌, ap, ◌++◌, ◌∷◌, [], codes, on_ok}
use Rattle.shard_files.specs.{kind_word, line_text}
use Rattle.shard_lines.specs.{joined_words, spaced}
use Rattle.shard_files.proofs.Runs.{line_on}
use Rattle.shard_lines.proofs.Runs.{spaced_on, words_on}
use Rattle.shard_files.proofs.printing.put_column.Goals as goal

pub returns : goal.returns
unfolding line_text
returns c =
    let name = c.args.column.now.name in
    let kind = kind_word c.args.column.now.kind in
    let ws : List (List ℕ) = name ∷ kind ∷ [] in
    on_ok c.push.result _ _
    (λ e. line_on c.args.text.now c.put_word-2.new.text c.push.new.self (joined_words (codes "column" ∷ ws))
    (words_on c.args.text.now c.extend.new.self c.put_word-2.new.text (codes "column") ws c.in_ok-extend.ensures.ok
    (spaced_on c.extend.new.self c.put_word.new.text c.put_word-2.new.text name (kind ∷ [])
    (c.in_ok-put_word.ensures ∙ ap (λ w. c.extend.new.self ++ spaced (w ∷ [])) c.bytes.ensures)
    (c.in_ok-put_word-2.ensures ∙ ap (λ w. c.put_word.new.text ++ spaced (w ∷ [])) (c.as_bytes.ensures.value ∙ c.kind_word.ensures)))) e)
    c.push.ensures.ok
