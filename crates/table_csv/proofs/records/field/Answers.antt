use Rattle.lemmas.proofs.{◌∙◌}
use Rattle.csv.specs.Records.{fields_of}
use Rattle.table_csv.proofs.RecordSteps.{field_at-get_or, some_field}
use Rattle.table_csv.proofs.records.field.Goals as goal

pub unwrap-requires : goal.unwrap-requires
unwrap-requires c = some_field _ _ (c.get.ensures.value ∙ field_at-get_or (fields_of c.args.fields.now) c.args.i c.requires)

pub returns : goal.returns
returns c =
    let found = rw c.unwrap.ensures at (c.get.ensures.value ∙ field_at-get_or (fields_of c.args.fields.now) c.args.i c.requires) in
    cc found
