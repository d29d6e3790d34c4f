use Rattle.lemmas.proofs.{ℕ, sym, ◌∙◌, subst, arith}
use Rattle.loop_keys.specs.{job_of}
use Rattle.event_loop.specs.{AreBlank, IsOutcome, job_facts}
use Rattle.event_loop.proofs.Ended.{facts_of}
use Rattle.event_loop.proofs.one_loop.run_loop.Goals as goal
use Rattle.slot_words.proofs.Steps.{seats_many, seats_ready}

pub run_slots-requires-clause-fresh : goal.run_slots-requires-clause-fresh
run_slots-requires-clause-fresh g c = λ κs h.
    let claims = c.in_ok-claims.claims in
    let seats = c.in_ok-claims.seats in
    let many = seats_many claims c.args.slots seats c.in_ok-claims.ensures.2 in
    c.in_ok-fresh.ensures.fresh (record { claims = claims; book = c.in_ok-book.book }) (seats_ready claims c.args.slots seats c.in_ok-claims.ensures.2)
    (subst (λ (n : ℕ). AreBlank c.in_ok-book.book n c.in_ok-book.shares) (sym many) c.in_ok-book.ensures.1)

pub run_slots-requires-clause-can : goal.run_slots-requires-clause-can
run_slots-requires-clause-can g c = λ κs h. record {
  words = c.requires.words;
  clusters = c.in_ok-claims.ensures.0 ∙ sym (facts_of (job_of c.args.job.now) c.cluster_count-clusters.result c.requires.job.job c.cluster_count-clusters.ensures.value).faults;
  room = grind (arith, c.in_ok-book.ensures.0, c.in_ok-claims.ensures.0);
}

pub filled-requires : goal.filled-requires
filled-requires g c =
    let j = job_of c.args.job.now in
    let facts = facts_of j _ c.requires.job.job (c.in_ok-claims.ensures.0 ∙ c.cluster_count-clusters.ensures.value) in
    let ended = c.in_ok-fault.ensures c.in_ok-book.book (job_facts j) facts
    (λ k f lt. c.in_ok-finished.ensures.each k f (omega (arith, c.in_ok-finished.ensures.len, c.in_ok-finished.finished.ok.0))) in
    (job_facts j, grind (arith, facts, ended, c.in_ok-claims.ensures, c.in-Processed.is, c.requires.slots, c.watched_in-watched.ensures, c.in_ok-book.ensures))

pub returns-in-Faulted : goal.returns-in-Faulted
returns-in-Faulted g c =
    let j = job_of c.args.job.now in
    let facts = facts_of j _ c.requires.job.job (c.in_ok-claims.ensures.0 ∙ c.cluster_count-clusters.ensures.value) in
    let ended = c.in_ok-fault.ensures c.in_ok-book.book (job_facts j) facts
    (λ k f lt. c.in_ok-finished.ensures.each k f (omega (arith, c.in_ok-finished.ensures.len, c.in_ok-finished.finished.ok.0))) in
    subst (IsOutcome c.in_ok-book.book (job_facts j) c.in_ok-claims.claims.slots) c.in-Faulted.is ended

pub returns-in_ok-filled-in-Processed : goal.returns-in_ok-filled-in-Processed
returns-in_ok-filled-in-Processed g c =
    let j = job_of c.args.job.now in
    let facts = facts_of j _ c.requires.job.job (c.in_ok-claims.ensures.0 ∙ c.cluster_count-clusters.ensures.value) in
    let ended = c.in_ok-fault.ensures c.in_ok-book.book (job_facts j) facts
    (λ k f lt. c.in_ok-finished.ensures.each k f (omega (arith, c.in_ok-finished.ensures.len, c.in_ok-finished.finished.ok.0))) in
    c.in_ok-filled-in-Processed.ensures (job_facts j)
    (grind (arith, facts, ended, c.in_ok-claims.ensures, c.in-Processed.is, c.requires.slots, c.watched_in-watched.ensures, c.in_ok-book.ensures))
