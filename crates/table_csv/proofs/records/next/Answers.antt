use Rattle.csv.specs.Records.{fields_of}
use Rattle.table_csv.proofs.RecordSteps.{takes}
use Rattle.table_csv.proofs.records.next.Goals as goal

pub returns-in-Ok : goal.returns-in-Ok
returns-in-Ok c left h =
    takes c.in-Ok.found c.args.reader.now c.read_byte_record.new.self (fields_of c.read_byte_record.new.row) left h (c.in-Ok.ensures.ready h.trims) c.in-Ok.ensures.flexible (c.in-Ok.ensures.reads h.trims h.ready)
