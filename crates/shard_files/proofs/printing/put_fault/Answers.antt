use Rattle.lemmas.proofs.{List, ℕ, ◌∙◌, ap, ◌++◌, ◌∷◌, [], codes, decimal, on_ok}
use Rattle.shard_files.specs.{fault_number, line_text}
use Rattle.shard_lines.specs.{joined_words, spaced}
use Rattle.shard_files.proofs.Runs.{line_on}
use Rattle.shard_lines.proofs.Runs.{spaced_on, words_on}
use Rattle.shard_files.proofs.printing.put_fault.Goals as goal

pub returns : goal.returns
unfolding line_text
returns c =
    let entry = decimal c.args.fault.entry in
    let pass = decimal c.args.fault.pass in
    let kind = decimal (fault_number c.args.fault.kind) in
    let ws : List (List ℕ) = entry ∷ pass ∷ kind ∷ [] in
    on_ok c.push.result _ _
    (λ e. line_on c.args.text.now c.put_count-3.new.text c.push.new.self (joined_words (codes "fault" ∷ ws))
    (words_on c.args.text.now c.extend.new.self c.put_count-3.new.text (codes "fault") ws c.in_ok-extend.ensures.ok
    (spaced_on c.extend.new.self c.put_count.new.text c.put_count-3.new.text entry (pass ∷ kind ∷ []) c.in_ok-put_count.ensures
    (spaced_on c.put_count.new.text c.put_count-2.new.text c.put_count-3.new.text pass (kind ∷ []) c.in_ok-put_count-2.ensures
    (c.in_ok-put_count-3.ensures ∙ ap (λ n. c.put_count-2.new.text ++ spaced (decimal n ∷ [])) c.fault_number.ensures)))) e)
    c.push.ensures.ok
