use Rattle.lemmas.proofs.{◌≡◌, ◌<◌, Bool, true, false, Err, refl, sym, ap, ◌∙◌, subst}
use Rattle.std.specs.List.{AllByRecursion}
use Rattle.rdf_model.specs.{for_all, Gives}
use Rattle.graph_numbers.specs.{through_sites}
use Rattle.snapshot_entries.specs.{data_of, IsAnswer, IsColumn, IsRowAnswer, plan_of, site_in, site_total, version_in}
use Rattle.snapshot_entries.proofs.Answering.{entry_kept, entry_skipped, entry_stopped}
use Rattle.snapshot_entries.proofs.Planned.{columns_good, filters_below, outcome_is}
use Rattle.snapshot_entries.proofs.entry.try_entry.Goals as goal

pub pass_filters-requires-clause-sites : goal.pass_filters-requires-clause-sites
pass_filters-requires-clause-sites g c =
    let p = plan_of c.args.at.now.job.now in
    let d = data_of c.args.at.now.job.now in
    subst (AllByRecursion (λ s. s < site_total p d)) (sym c.as_slice.ensures) (filters_below p d c.requires.work c.args.wanted.now c.requires.wanted)

pub put_row-requires-clause-columns : goal.put_row-requires-clause-columns
put_row-requires-clause-columns g c =
    let p = plan_of c.args.at.now.job.now in
    let d = data_of c.args.at.now.job.now in
    subst (AllByRecursion (IsColumn p d)) (sym c.as_slice-in-Ok-true.ensures) (columns_good p d c.requires.work c.args.wanted.now c.requires.wanted)

pub returns-in-Err-clause-answer : goal.returns-in-Err-clause-answer
returns-in-Err-clause-answer g c =
    let p = plan_of c.args.at.now.job.now in
    let d = data_of c.args.at.now.job.now in
    let e = c.args.at.now.entry in
    let w = c.args.wanted.now in
    entry_stopped p d e (through_sites (site_in p d e) w.filters) (for_all (version_in p d e) w.columns) (outcome_is p d c.requires.work w c.requires.wanted e) c.args.text.now c.args.text.now c.in-Err.stop
    (subst (λ ss. IsAnswer {A = Bool} (through_sites (site_in p d e) ss) (Err c.in-Err.stop)) c.as_slice.ensures c.in-Err.ensures.answer)

pub returns-in-Ok-false-clause-answer : goal.returns-in-Ok-false-clause-answer
returns-in-Ok-false-clause-answer g c =
    let p = plan_of c.args.at.now.job.now in
    let d = data_of c.args.at.now.job.now in
    let e = c.args.at.now.entry in
    let w = c.args.wanted.now in
    let stopped : through_sites (site_in p d e) w.filters ≡ Gives false = ap (through_sites (site_in p d e)) (sym c.as_slice.ensures) ∙ c.in-Ok-false.ensures.answer ∙ ap (λ b. Gives b) c.in-Ok-false.field-0-test in
    entry_skipped p d e (through_sites (site_in p d e) w.filters) (for_all (version_in p d e) w.columns) (outcome_is p d c.requires.work w c.requires.wanted e) c.args.text.now c.args.text.now stopped refl

pub returns-in-Ok-true-clause-answer : goal.returns-in-Ok-true-clause-answer
returns-in-Ok-true-clause-answer g c =
    let p = plan_of c.args.at.now.job.now in
    let d = data_of c.args.at.now.job.now in
    let e = c.args.at.now.entry in
    let w = c.args.wanted.now in
    let passed : through_sites (site_in p d e) w.filters ≡ Gives true = ap (through_sites (site_in p d e)) (sym c.as_slice.ensures) ∙ c.in-Ok-true.ensures.answer ∙ ap (λ b. Gives b) c.in-Ok-true.field-0-test in
    entry_kept p d e (through_sites (site_in p d e) w.filters) (for_all (version_in p d e) w.columns) (outcome_is p d c.requires.work w c.requires.wanted e) c.args.text.now c.put_row.new.text c.put_row.result passed
    (subst (λ cs. IsRowAnswer (for_all (version_in p d e) cs) c.args.text.now c.put_row.new.text c.put_row.result) c.as_slice-in-Ok-true.ensures c.put_row.ensures.answer)
