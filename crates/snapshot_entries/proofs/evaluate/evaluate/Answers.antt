use Rattle.snapshot_entries.specs.{data_of, plan_of, site_in}
use Rattle.snapshot_entries.proofs.Evaluated.{all_fit, can_ask, scalar_faulted, scalar_given, scalar_never, told_whole, value_faulted, value_given, value_never}
use Rattle.snapshot_entries.proofs.evaluate.evaluate.Goals as goal

pub eval_int-requires-clause-can : goal.eval_int-requires-clause-can
eval_int-requires-clause-can g c = can_ask (plan_of c.args.view.now.at.now.job.now) (data_of c.args.view.now.at.now.job.now) c.requires.work c.args._site c.args.expr.now c.requires.expr c.args.view.now.at.now.entry c.requires.entry c.args.view.now.cells.now c.requires.known c.requires.held

pub eval_int-requires-clause-fit : goal.eval_int-requires-clause-fit
eval_int-requires-clause-fit g c = all_fit (plan_of c.args.view.now.at.now.job.now) (data_of c.args.view.now.at.now.job.now) c.requires.work c.args._site c.args.expr.now c.requires.expr c.args.view.now.at.now.entry c.requires.entry c.args.view.now.cells.now c.requires.known c.requires.held

pub eval-requires-clause-can : goal.eval-requires-clause-can
eval-requires-clause-can g c = can_ask (plan_of c.args.view.now.at.now.job.now) (data_of c.args.view.now.at.now.job.now) c.requires.work c.args._site c.args.expr.now c.requires.expr c.args.view.now.at.now.entry c.requires.entry c.args.view.now.cells.now c.requires.known c.requires.held

pub eval-requires-clause-fit : goal.eval-requires-clause-fit
eval-requires-clause-fit g c = all_fit (plan_of c.args.view.now.at.now.job.now) (data_of c.args.view.now.at.now.job.now) c.requires.work c.args._site c.args.expr.now c.requires.expr c.args.view.now.at.now.entry c.requires.entry c.args.view.now.cells.now c.requires.known c.requires.held

pub unreachable-requires : goal.unreachable-requires
unreachable-requires g c =
    let p = plan_of c.args.view.now.at.now.job.now in
    let d = data_of c.args.view.now.at.now.job.now in
    let e = c.args.view.now.at.now.entry in
    scalar_never (site_in p d e c.args._site) _ (told_whole p d c.requires.work c.args._site c.args.expr.now c.requires.expr e) c.in-Err-Need.field-0 c.in-Err-Need.field-0-0 c.in-Err-Need.field-0-is c.in-Err-Need.ensures.value

pub unreachable-requires-in-Err-Need-eval : goal.unreachable-requires-in-Err-Need-eval
unreachable-requires-in-Err-Need-eval g c =
    let p = plan_of c.args.view.now.at.now.job.now in
    let d = data_of c.args.view.now.at.now.job.now in
    let e = c.args.view.now.at.now.entry in
    value_never (site_in p d e c.args._site) _ (told_whole p d c.requires.work c.args._site c.args.expr.now c.requires.expr e) c.in-Err-Need-eval.field-0 c.in-Err-Need-eval.field-0-0 c.in-Err-Need-eval.field-0-is c.in-Err-Need-eval.ensures.value

pub returns-in-Ok : goal.returns-in-Ok
returns-in-Ok g c =
    let p = plan_of c.args.view.now.at.now.job.now in
    let d = data_of c.args.view.now.at.now.job.now in
    let e = c.args.view.now.at.now.entry in
    scalar_given (site_in p d e c.args._site) _ (told_whole p d c.requires.work c.args._site c.args.expr.now c.requires.expr e) c.in-Ok.value c.value_of.result c.value_of.ensures c.in-Ok.ensures.value

pub returns-in-Err-Fault : goal.returns-in-Err-Fault
returns-in-Err-Fault g c =
    let p = plan_of c.args.view.now.at.now.job.now in
    let d = data_of c.args.view.now.at.now.job.now in
    let e = c.args.view.now.at.now.entry in
    scalar_faulted (site_in p d e c.args._site) _ (told_whole p d c.requires.work c.args._site c.args.expr.now c.requires.expr e) c.in-Err-Fault.field-0 c.in-Err-Fault.kind c.in-Err-Fault.field-0-is c.in-Err-Fault.ensures.value

pub returns-in-Ok-eval : goal.returns-in-Ok-eval
returns-in-Ok-eval g c =
    let p = plan_of c.args.view.now.at.now.job.now in
    let d = data_of c.args.view.now.at.now.job.now in
    let e = c.args.view.now.at.now.entry in
    value_given (site_in p d e c.args._site) _ (told_whole p d c.requires.work c.args._site c.args.expr.now c.requires.expr e) c.in-Ok-eval.value c.in-Ok-eval.ensures.value

pub returns-in-Err-Fault-eval : goal.returns-in-Err-Fault-eval
returns-in-Err-Fault-eval g c =
    let p = plan_of c.args.view.now.at.now.job.now in
    let d = data_of c.args.view.now.at.now.job.now in
    let e = c.args.view.now.at.now.entry in
    value_faulted (site_in p d e c.args._site) _ (told_whole p d c.requires.work c.args._site c.args.expr.now c.requires.expr e) c.in-Err-Fault-eval.field-0 c.in-Err-Fault-eval.kind c.in-Err-Fault-eval.field-0-is c.in-Err-Fault-eval.ensures.value
