use Rattle.lemmas.proofs.{ℕ, sym, ◌∙◌, ap, subst, arith, length}
use Rattle.std.specs.List.{All}
use Rattle.columns.specs.Views.{CutsView}
use Rattle.snapshot_entries.specs.{data_of, plan_of}
use Rattle.snapshot_pieces.specs.{AreFacts, HasStopped}
use Rattle.snapshot_run.specs.{facts_of, spans_of}
use Rattle.snapshot_run.proofs.Whole.{are_facts, are_records, has_all, is_fault}
use Rattle.snapshot_run.proofs.records.make_records.Goals as goal
use Rattle.slot_words.specs.{IsReady}
use Rattle.slot_words.proofs.Steps.{seats_many, seats_ready}

pub run_slots-requires-clause-ready : goal.run_slots-requires-clause-ready
run_slots-requires-clause-ready g c = λ κs h.
    subst (All (IsReady c.in_ok-claims.claims)) (sym c.into_vec-ready.ensures) (seats_ready c.in_ok-claims.claims c.args.slots c.in_ok-claims.seats c.in_ok-claims.ensures.2)

pub run_slots-requires-clause-clusters : goal.run_slots-requires-clause-clusters
run_slots-requires-clause-clusters g c = λ κs h.
    c.in_ok-claims.ensures.0 ∙ c.count-clusters.ensures.value ∙ ap (λ (k : CutsView). length (spans_of k)) c.cuts.ensures.value

pub gathered-requires-clause-some : goal.gathered-requires-clause-some
gathered-requires-clause-some g c =
    let many = seats_many c.in_ok-claims.claims c.args.slots c.in_ok-claims.seats c.in_ok-claims.ensures.2 in
    omega (arith, c.in_ok-finished.ensures.len, c.into_vec-ready.result.ok.0, ap length c.into_vec-ready.ensures, many, c.requires.slots.0)

pub gathered-requires-clause-many : goal.gathered-requires-clause-many
gathered-requires-clause-many g c =
    let many = seats_many c.in_ok-claims.claims c.args.slots c.in_ok-claims.seats c.in_ok-claims.ensures.2 in
    omega (arith, c.in_ok-finished.ensures.len, c.into_vec-ready.result.ok.0, ap length c.into_vec-ready.ensures, many, c.in_ok-claims.ensures.1)

pub gathered-requires-clause-of : goal.gathered-requires-clause-of
gathered-requires-clause-of g c =
    let finished = c.in_ok-finished.finished in
    let ok = finished.ok.0 in
    λ k d lt. (c.in_ok-finished.ensures.each k d (omega (arith, ok, c.in_ok-finished.ensures.len, lt))).seat_of

pub placed-requires : goal.placed-requires
placed-requires g c =
    let p = plan_of c.args.job.now in
    let d = data_of c.args.job.now in
    let cuts = c.args.job.now.columns.now.cuts in
    let facts = facts_of p d (spans_of cuts) in
    let all = sym (ap (λ (k : CutsView). k.entries) c.cuts.ensures.value) ∙ c.cuts.ensures.valid in
    let right = are_facts p d cuts all c.count-clusters.result (c.count-clusters.ensures.value ∙ ap (λ (k : CutsView). length (spans_of k)) c.cuts.ensures.value) in
    let finished = c.in_ok-finished.finished in
    let ok = finished.ok.0 in
    let ran : All (HasStopped c.in_ok-claims.claims facts) finished.items = λ k d lt. c.in_ok-finished.ensures.each k d (omega (arith, ok, c.in_ok-finished.ensures.len, lt)) in
    let ended = c.in_ok-fault.ensures facts (subst (λ (n : ℕ). AreFacts n facts) (sym c.in_ok-claims.ensures.0) right) ran in
    (facts, right.texts, has_all p d cuts all _ c.in-Made.pieces ended c.in-Made.is)

pub returns-in-Faulted : goal.returns-in-Faulted
returns-in-Faulted g c =
    let p = plan_of c.args.job.now in
    let d = data_of c.args.job.now in
    let cuts = c.args.job.now.columns.now.cuts in
    let facts = facts_of p d (spans_of cuts) in
    let all = sym (ap (λ (k : CutsView). k.entries) c.cuts.ensures.value) ∙ c.cuts.ensures.valid in
    let right = are_facts p d cuts all c.count-clusters.result (c.count-clusters.ensures.value ∙ ap (λ (k : CutsView). length (spans_of k)) c.cuts.ensures.value) in
    let finished = c.in_ok-finished.finished in
    let ok = finished.ok.0 in
    let ran : All (HasStopped c.in_ok-claims.claims facts) finished.items = λ k d lt. c.in_ok-finished.ensures.each k d (omega (arith, ok, c.in_ok-finished.ensures.len, lt)) in
    let ended = c.in_ok-fault.ensures facts (subst (λ (n : ℕ). AreFacts n facts) (sym c.in_ok-claims.ensures.0) right) ran in
    is_fault p d cuts all _ c.in-Faulted.fault ended c.in-Faulted.is

pub returns-in_ok-texts-in-Made : goal.returns-in_ok-texts-in-Made
returns-in_ok-texts-in-Made g c =
    let p = plan_of c.args.job.now in
    let d = data_of c.args.job.now in
    let cuts = c.args.job.now.columns.now.cuts in
    let facts = facts_of p d (spans_of cuts) in
    let all = sym (ap (λ (k : CutsView). k.entries) c.cuts.ensures.value) ∙ c.cuts.ensures.valid in
    let right = are_facts p d cuts all c.count-clusters.result (c.count-clusters.ensures.value ∙ ap (λ (k : CutsView). length (spans_of k)) c.cuts.ensures.value) in
    let finished = c.in_ok-finished.finished in
    let ok = finished.ok.0 in
    let ran : All (HasStopped c.in_ok-claims.claims facts) finished.items = λ k d lt. c.in_ok-finished.ensures.each k d (omega (arith, ok, c.in_ok-finished.ensures.len, lt)) in
    let ended = c.in_ok-fault.ensures facts (subst (λ (n : ℕ). AreFacts n facts) (sym c.in_ok-claims.ensures.0) right) ran in
    are_records p d cuts all _ c.in-Made.pieces c.in_ok-texts-in-Made.texts ended c.in-Made.is
    (c.in_ok-texts-in-Made.ensures facts right.texts (has_all p d cuts all _ c.in-Made.pieces ended c.in-Made.is))
