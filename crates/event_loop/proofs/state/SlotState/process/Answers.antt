use Rattle.lemmas.proofs.{ℕ, ◌≡◌, ◌∙◌, ◌++◌, ◌∷◌, [], Err, None, Some, length, ap, arith, refl, subst}
use Rattle.std.proofs.lemmas.List.{length-map}
use Rattle.std.specs.declared.snapshot.Snapshot.{Snapshot}
use Rattle.loop_keys.specs.{facts_in, job_of}
use Rattle.block_passes.specs.{at_end, IsClusterAnswer}
use Rattle.event_loop.specs.{job_facts, SlotView}
use Rattle.event_loop.specs.contracts.state.SlotState.{the_view}
use Rattle.event_loop.proofs.Ended.{begins, cluster_within, fault_at, going, has_room, is_at_end, seen_with, went_on}
use Rattle.event_loop.proofs.state.SlotState.process.Goals as goal

pub try_cluster-requires-clause-cluster : goal.try_cluster-requires-clause-cluster
try_cluster-requires-clause-cluster g c = cluster_within (job_of c.args.job.now) c.args.cluster c.requires.cluster

pub try_cluster-requires-clause-begin : goal.try_cluster-requires-clause-begin
try_cluster-requires-clause-begin g c = (_, _, begins (job_of c.args.job.now) _ c.requires.slot _ c.self.view_is c.in_default.not-NoMemory c.requires.open _ c.requires.above)

pub close-requires : goal.close-requires
close-requires g c =
    let j = job_of c.args.job.now in (
      _,
      _,
      _,
      c.in-Ok.ensures.holds (job_facts j).watched c.args.self.now.done (begins j _ c.requires.slot _ c.self.view_is c.in_default.not-NoMemory c.requires.open _ c.requires.above),
      is_at_end j c.args.self.now.done c.args.cluster,
    )

pub push_reserved-requires : goal.push_reserved-requires
push_reserved-requires g c =
    let here = has_room (job_of c.args.job.now) _ c.requires.slot _ c.self.view_is c.in_default.not-NoMemory c.requires.open _ c.requires.above c.requires.cluster in
    omega (arith, here, c.self.inside.done.ok.0, length-map c.self.inside.done.items (λ (d : Snapshot ℕ). d.value))

pub returns-in-Ok-close-clause-slot : goal.returns-in-Ok-close-clause-slot
returns-in-Ok-close-clause-slot g c =
    let j = job_of c.args.job.now in
    let begin = begins j _ c.requires.slot _ c.self.view_is c.in_default.not-NoMemory c.requires.open _ c.requires.above in
    went_on j _ c.requires.slot _ c.self.view_is c.in_default.not-NoMemory c.requires.open _ c.requires.above
    (the_view (record { blocks = c.try_cluster.new.self; vectors = c.self.inside.vectors; tally = c.close.new.self; done = c.push_reserved.new.self; phase = c.self.inside.phase }))
    c.try_cluster.ensures.state refl c.push_reserved.ensures.capacity
    (seen_with c.self.inside.done.items c.push_reserved.new.self.items c.args.cluster c.of.result c.of.ensures c.push_reserved.ensures.items)
    (λ next later. c.in-Ok-close.ensures.holds (facts_in j) (job_facts j).watched (at_end (facts_in j) c.args.self.now.done c.args.cluster) next
    (c.in-Ok.ensures.holds (job_facts j).watched c.args.self.now.done begin) (is_at_end j c.args.self.now.done c.args.cluster) later)

pub returns-in-Ok-close-clause-done : goal.returns-in-Ok-close-clause-done
returns-in-Ok-close-clause-done g c = λ e.
    let j = job_of c.args.job.now in
    let on = going j _ c.requires.slot _ c.self.view_is c.in_default.not-NoMemory c.requires.open _ c.requires.above in (
      on,
      fault_at j c.args.cluster None c.requires.cluster (subst (IsClusterAnswer j c.args.cluster) c.in-Ok.is c.try_cluster.ensures.answer),
      seen_with c.self.inside.done.items c.push_reserved.new.self.items c.args.cluster c.of.result c.of.ensures c.push_reserved.ensures.items ∙ ap (λ (s : SlotView). s.done ++ c.args.cluster ∷ []) c.self.view_is,
      ap (λ (s : SlotView). s.phase) c.self.view_is ∙ on,
    )

pub returns-in-Err-clause-plain : goal.returns-in-Err-clause-plain
returns-in-Err-clause-plain g c = λ plain on e.
    let j = job_of c.args.job.now in
    let taken = c.in-Ok.ensures.holds (job_facts j).watched c.args.self.now.done (begins j _ c.requires.slot _ c.self.view_is c.in_default.not-NoMemory c.requires.open _ c.requires.above) in
    absurd (omega (arith, c.in-Err.ensures.memory, taken.trails.many, ap length plain.unwatched))

pub returns-in-Err-Fault-clause-faulted : goal.returns-in-Err-Fault-clause-faulted
returns-in-Err-Fault-clause-faulted g c = λ f e.
    let j = job_of c.args.job.now in
    let same : c.in-Err-Fault.fault ≡ f = cc e in (
      going j _ c.requires.slot _ c.self.view_is c.in_default.not-NoMemory c.requires.open _ c.requires.above,
      fault_at j c.args.cluster (Some f) c.requires.cluster (subst (IsClusterAnswer j c.args.cluster) (c.in-Err-Fault.is ∙ ap Err c.in-Err-Fault.field-0-is) c.try_cluster.ensures.answer ∙ ap Some same),
      ap (λ (s : SlotView). s.done) c.self.view_is,
      refl,
    )
