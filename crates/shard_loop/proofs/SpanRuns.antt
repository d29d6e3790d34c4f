-- A loop over the clusters of a span, one after another.
use Rattle.lemmas.proofs.{◌≡◌, ℕ, ◌+◌, ◌<◌, ◌≤◌, ◌∷◌, [], ◌++◌, length, map, Option, None, Some, sym, ap, ap₂, ◌∙◌, subst, arith, All, option_map, slice_get, length-map, same_Some, slice_get-map}
use Rattle.rdf_values.specs.{below, Fault, first_in, Lead}
use Rattle.rdf_values.proofs.UnionLemmas.{length-below, slice_get-below}
use Rattle.rdf_values.proofs.Evenly.{cuts_lead}
use Rattle.rdf_model.specs.{first_of}
use Rattle.loop_keys.specs.{IsJob, job_spans, JobView, passes_in}
use Rattle.loop_pieces.specs.{cluster_fault}
use Rattle.event_loop.specs.{IsFreshSlot, IsSlotOf, job_facts, SlotPhase, SlotView}
use Rattle.shard_spans.specs.{clusters_in}
use Rattle.shard_spans.proofs.SpanFaults.{below_end, clusters_more, clusters_none, first_faulty_cluster_has_the_fault, first_next, first_stays}
use Rattle.shard_loop.specs.{loop_fault}

-- the first fault of a cluster
abbrev pub fault_in : JobView → ℕ → Option Fault
fault_in j = cluster_fault j.dataset (job_spans j) (passes_in j)

-- the slot goes on; it finished the clusters from lo to below c, and none of them has a fault
pub record IsUpTo (j : JobView) (lo c : ℕ) (s : SlotView) : Type 0 where
  pub low : lo ≤ c
  pub slot : IsSlotOf (job_facts j) s
  pub going : s.phase ≡ SlotPhase.Going
  pub done : s.done ≡ clusters_in lo c
  pub sound : first_in (map (fault_in j) (clusters_in lo c)) ≡ None

module _ (j : JobView) where
  pub many : length (job_facts j).faults ≡ length (job_spans j)
  many = length-map (below (length (job_spans j))) (fault_in j) ∙ length-below (length (job_spans j))

  its_fault : (c : ℕ) (o : Option Fault) → c < length (job_spans j) → slice_get (job_facts j).faults c ≡ Some o → fault_in j c ≡ o
  its_fault c o lt at = same_Some (fault_in j c) o (sym (slice_get-map (fault_in j) (below (length (job_spans j))) c ∙ ap (option_map (fault_in j)) (slice_get-below (length (job_spans j)) c lt)) ∙ at)

  pub begun : (lo : ℕ) (s : SlotView) → IsFreshSlot (job_facts j) s → IsUpTo j lo lo s
  begun lo s fresh = record {
    low = omega arith;
    slot = fresh.slot;
    going = fresh.going;
    done = fresh.none ∙ sym (clusters_none lo);
    sound = ap (λ l. first_in (map (fault_in j) l)) (clusters_none lo);
  }

  pub all_below : (lo c : ℕ) (s : SlotView) → IsUpTo j lo c s → All (λ d. d < c) s.done
  all_below lo c s up = subst (All (λ d. d < c)) (sym up.done) (below_end lo c up.low)

  -- one more cluster, which has no fault
  pub goes_on : (lo c n : ℕ) (s t : SlotView) → n ≡ c + 1 → c < length (job_spans j) → IsUpTo j lo c s → IsSlotOf (job_facts j) t
      → slice_get (job_facts j).faults c ≡ Some None → t.done ≡ s.done ++ c ∷ [] → t.phase ≡ SlotPhase.Going → IsUpTo j lo n t
  goes_on lo c n s t next lt up slot none done going =
      let low = up.low in
      record {
        low = omega arith;
        slot = slot;
        going = going;
        done = done ∙ ap (λ l. l ++ c ∷ []) up.done ∙ sym (clusters_more lo c up.low) ∙ ap (clusters_in lo) (sym next);
        sound = ap (λ k. first_in (map (fault_in j) (clusters_in lo k))) next ∙ first_next (fault_in j) lo c up.low ∙ ap₂ first_of up.sound (its_fault c None lt none);
      }

  module _ (job : IsJob j) where
    leads : Lead 0 (length j.dataset.rows) (job_spans j)
    leads = subst (λ k. Lead 0 k (job_spans j)) job.cuts (cuts_lead j.cuts.entries j.cuts.size j.cuts.marks)

    -- a fault of the next cluster is the first of the span
    pub stops : (lo c hi : ℕ) (s : SlotView) (f : Fault) → c < hi → hi ≤ length (job_spans j) → IsUpTo j lo c s → slice_get (job_facts j).faults c ≡ Some (Some f) → loop_fault j lo hi ≡ Some f
    stops lo c hi s f lt top up at =
        let low = up.low in
        sym (first_faulty_cluster_has_the_fault j.dataset (job_spans j) (passes_in j) lo hi leads (omega arith) top)
        ∙ first_stays (fault_in j) lo (c + 1) hi f (omega arith) (omega arith) (first_next (fault_in j) lo c up.low ∙ ap₂ first_of up.sound (its_fault c (Some f) (omega arith) at))

    -- where all clusters are finished there is no fault
    pub ends : (lo hi : ℕ) (s : SlotView) → hi ≤ length (job_spans j) → IsUpTo j lo hi s → loop_fault j lo hi ≡ None
    ends lo hi s top up = sym (first_faulty_cluster_has_the_fault j.dataset (job_spans j) (passes_in j) lo hi leads up.low top) ∙ up.sound
