use Rattle.lemmas.proofs.{◌<◌, ◌≡◌, length, get_or, refl, arith}
use Rattle.snapshot_entries.specs.{data_of, plan_of, version_in}
use Rattle.snapshot_entries.proofs.Answering.{cell_given, gathered_all, gathered_next, given_value}
use Rattle.snapshot_entries.proofs.values.gather.Goals as goal

pub cell_of-requires : goal.cell_of-requires
cell_of-requires g c =
    let p = plan_of c.args.at.now.job.now in
    let d = data_of c.args.at.now.job.now in
    let cs = c.args.columns.now in
    let i = c.loop-column.column-index in
    let lt : i < length cs = omega (arith, c.loop-column-test.true) in
    cell_given p d c.args.at.now.entry c.requires.entry cs c.requires.values.0 i (get_or cs i 0) c.look.result c.requires.values.1 lt refl c.requires.columns c.look.ensures

pub loop-column-preserved : goal.loop-column-preserved
loop-column-preserved g c = λ vs h.
    let p = plan_of c.args.at.now.job.now in
    let d = data_of c.args.at.now.job.now in
    let e = c.args.at.now.entry in
    let cs = c.args.columns.now in
    let i = c.loop-column.column-index in
    let lt : i < length cs = omega (arith, c.loop-column-test.true) in
    gathered_next (version_in p d e) cs vs i (get_or cs i 0) c.cell_of.result c.loop-column.row.items c.push.new.self.items h lt refl
    (λ v q. c.cell_of.ensures (get_or cs i 0) v (given_value (version_in p d e (get_or cs i 0)) (get_or cs i 0) c.look.result v q c.look.ensures)) (c.loop-column.invariant vs h) c.in_ok-push.ensures.items

pub returns : goal.returns
returns g c = λ vs h.
    let p = plan_of c.args.at.now.job.now in
    let d = data_of c.args.at.now.job.now in
    let cs = c.args.columns.now in
    let i = c.loop-column.column-index in
    let all : i ≡ length cs = omega (arith, c.loop-column-test.false, c.loop-column.auto.column-index-end) in
    gathered_all (version_in p d c.args.at.now.entry) cs vs i c.loop-column.row.items h all (c.loop-column.invariant vs h)
