use Rattle.lemmas.proofs.{rules, ◌≡◌, ◌∷◌, on_ok}
use Rattle.snapshot_text.specs.{column_field}
use Rattle.snapshot_text.proofs.Joined.{grown_by}
use Rattle.snapshot_text.proofs.header.put_columns.Goals as goal

pub returns-in_ok-put_column-in-Some : goal.returns-in_ok-put_column-in-Some
returns-in_ok-put_column-in-Some c =
    let whole : c.args.columns.now ≡ c.in-Some.first.now ∷ c.in-Some.rest.now = search rules in
    on_ok c.put_more_columns.result _ _
    (λ e. grown_by 44 column_field c.args.text.now c.put_column.new.text c.put_more_columns.new.text c.in-Some.first.now c.in-Some.rest.now c.args.columns.now whole c.in_ok-put_column-in-Some.ensures e)
    c.put_more_columns.ensures
