use Rattle.lemmas.proofs.{◌≡◌, ◌+◌, ◌∷◌, ◌++◌, List, [], ℕ, Ok, length, inl, inr, sym, ap, ◌∙◌, subst, length-append, IsStrictlyIncreasing}
use Rattle.slot_words.specs.{SeatSeen}
use Rattle.slot_words.specs.Seats.{IsOf}
use Rattle.loop_keys.specs.{job_of}
use Rattle.event_loop.specs.{HasNoted, job_facts}
use Rattle.event_loop.proofs.Ended.{sound_more, below_last}
use Rattle.event_loop.proofs.workers.work.Goals as goal

pub process-requires-clause-above : goal.process-requires-clause-above
process-requires-clause-above g c =
    below_last c.loop-cluster.state.done c.in-Some.cluster
    (subst IsStrictlyIncreasing (c.in-Some.ensures.some.1 ∙ ap (λ (l : List ℕ). l ++ c.in-Some.cluster ∷ []) (sym c.loop-cluster.invariant.done)) c.in-Some.ensures.rises)

pub loop-cluster-preserved : goal.loop-cluster-preserved
loop-cluster-preserved g c =
    let inv = c.loop-cluster.invariant in
    let faults = (job_facts (job_of c.args.job.now)).faults in
    let done = c.loop-cluster.state.done in
    let cluster = c.in-Some.cluster in
    let d = c.process.ensures.done (c.in-Ok-Done.is ∙ ap Ok c.in-Ok-Done.field-0-is) in
    let more : length c.process.new.self.done ≡ length done + 1 = ap length d.2 ∙ length-append done (cluster ∷ []) in
    record {
      seat_of = c.in-Some.ensures.of.0;
      unkept = c.in-Some.ensures.some.2;
      unpassed = c.in-Some.ensures.some.3;
      unlowered = c.in-Some.ensures.of.2;
      slot = c.process.ensures.slot;
      noted = subst (λ (n : ℕ). HasNoted c.args.shared.now.book n c.note.new.share) (sym more) (c.note.ensures (length done) inv.noted);
      sound = sound_more faults done c.process.new.self.done cluster inv.sound d.1 d.2;
      done = d.2 ∙ ap (λ (l : List ℕ). l ++ cluster ∷ []) inv.done ∙ sym c.in-Some.ensures.some.1;
      going = d.3;
    }

pub returns-in-Ok-Faulted : goal.returns-in-Ok-Faulted
returns-in-Ok-Faulted g c =
    let inv = c.loop-cluster.invariant in
    let cluster = c.in-Some.cluster in
    let f = c.process.ensures.faulted c.in-Ok-Faulted.fault (c.in-Ok-Faulted.is ∙ ap Ok c.in-Ok-Faulted.field-0-is) in
    record {
      seat_of = subst (IsOf c.args.shared.now.claims) (sym c.lower.ensures) c.in-Some.ensures.of.0;
      stopped = record {
        done = c.loop-cluster.state.done;
        last = cluster;
        others = ap (λ (s : SeatSeen). s.drawn) c.lower.ensures ∙ c.in-Some.ensures.some.1 ∙ ap (λ (l : List ℕ). l ++ cluster ∷ []) (sym inv.done);
        sound = inv.sound;
        noted = inv.noted;
        its_fault = f.1;
        lowered = ap (λ (s : SeatSeen). s.lowered) c.lower.ensures;
      };
    }

pub returns : goal.returns
returns g c =
    let inv = c.loop-cluster.invariant in
    let job = job_facts (job_of c.args.job.now) in
    record {
      seat_of = c.in_default-claim.ensures.of.0;
      stopped = record {
        done = c.loop-cluster.state.done;
        stands = c.into_piece.ensures.stands job inv.slot;
        trails = c.into_piece.ensures.trails job inv.slot;
        sound = inv.sound;
        noted = inv.noted;
        left = elim c.in_default-claim.ensures.none [
          | inl past ↦ inl record { all = past.1 ∙ sym inv.done; past = past.0 }
          | inr over ↦ inr record { last = over.0; cluster = over.1; others = over.2 ∙ ap (λ (l : List ℕ). l ++ over.0 ∷ []) (sym inv.done); passed = over.3 }
        ];
        unlowered = c.in_default-claim.ensures.of.2;
      };
    }
