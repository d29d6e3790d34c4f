use Rattle.snapshot_entries.proofs.Stored.{not_stored}
use Rattle.snapshot_entries.proofs.view.cell.Goals as goal

pub unreachable-requires : goal.unreachable-requires
unreachable-requires c = not_stored c.args.columns.now.table.columns c.columns.result.now c.columns.ensures.value c.columns.ensures.valid.header.distinct c.args.col c.requires.column _ c.in-Bool.is
