-- A loop over all clusters of a table.
use Rattle.lemmas.proofs.{◌≡◌, ℕ, ◌+◌, ◌-◌, List, [], ◌∷◌, length, map, Option, None, Some, refl, sym, ap, ap₂, ◌∙◌, subst, arith, append-nil, option_map}
use Rattle.std.proofs.lemmas.List.{length-map}
use Rattle.rdf_values.specs.{below, Fault, first_in, Lead, Pass}
use Rattle.rdf_values.proofs.UnionLemmas.{length-below}
use Rattle.rdf_values.proofs.Evenly.{cuts_lead}
use Rattle.rdf_model.specs.{Dataset, first_fault, over_clusters}
use Rattle.loop_keys.specs.{facts_in, IsJob, job_spans, JobView, passes_in}
use Rattle.loop_pieces.specs.{cluster_fault, LoopPiece, StandsFor}
use Rattle.loop_pieces.proofs.ByCluster.{first_cluster_has_first_fault, all_clusters_are_the_table}
use Rattle.event_loop.specs.{FilledLoop, HasEnded, IsFilled, job_facts, LoopEnd}
use Rattle.shard_lines.specs.{ShardLine}
use Rattle.shard_spans.specs.{clusters_from, clusters_in, pass_line, span_fault}
use Rattle.shard_spans.proofs.SpanFaults.{first_faulty_cluster_has_the_fault}
use Rattle.shard_loop.specs.{IsSpanPiece, span_rows_of}
use Rattle.chain_files.specs.{ChainFault, PartLoop}
use Rattle.chain_files.specs.declared.part_loop.PartLoop.TheVariants.{Whole, Faulted}
use Rattle.chain_runs.specs.{alone, chain_loop, fault_or_lines, first_of, in_file, with_rows}

from_zero : (cs : List ℕ) → map (λ c. 0 + c) cs ≡ cs
from_zero [] = refl
from_zero (c ∷ cs) = let same : 0 + c ≡ c = omega arith in ap₂ (λ (x : ℕ) xs. x ∷ xs) same (from_zero cs)

all_clusters : (n : ℕ) → clusters_in 0 n ≡ below n
all_clusters n = (let same : n - 0 ≡ n = omega arith in ap (clusters_from 0) same) ∙ from_zero (below n)

-- ---- one table is a chain

no_other : (o : Option ChainFault) → first_of o None ≡ o
no_other None = refl
no_other (Some f) = refl

module _ (d : Dataset) (file : ℕ) (ps : List Pass) where
  pub loop_is : chain_loop (alone d) file ps ≡ fault_or_lines (option_map (in_file file) (first_fault d ps)) (map (pass_line d) ps)
  loop_is = ap₂ (λ o rows. fault_or_lines o (map (pass_line (with_rows (alone d) rows)) ps)) (no_other (option_map (in_file file) (first_fault d ps))) (append-nil d.rows)

-- ---- the loop of a job

module _ (j : JobView) (job : IsJob j) where
  leads : Lead 0 (length j.dataset.rows) (job_spans j)
  leads = subst (λ k. Lead 0 k (job_spans j)) job.cuts (cuts_lead j.cuts.entries j.cuts.size j.cuts.marks)

  many : length (job_facts j).faults ≡ length (job_spans j)
  many = length-map (below (length (job_spans j))) (cluster_fault j.dataset (job_spans j) (passes_in j)) ∙ length-below (length (job_spans j))

  whole_table : span_rows_of j 0 (length (job_spans j)) ≡ j.dataset
  whole_table = ap (over_clusters (job_spans j) j.dataset) (all_clusters (length (job_spans j))) ∙ all_clusters_are_the_table j.dataset (job_spans j) leads

  first_is : first_in (job_facts j).faults ≡ first_fault j.dataset (passes_in j)
  first_is = first_cluster_has_first_fault j.dataset (job_spans j) (passes_in j) leads

  whole_fault : span_fault (job_spans j) j.dataset (passes_in j) 0 (length (job_spans j)) ≡ first_in (job_facts j).faults
  whole_fault =
      sym (first_faulty_cluster_has_the_fault j.dataset (job_spans j) (passes_in j) 0 (length (job_spans j)) leads (omega arith) (omega arith))
      ∙ ap (λ l. first_in (map (cluster_fault j.dataset (job_spans j) (passes_in j)) l)) (all_clusters (length (job_spans j)))

  filled_at : (k : ℕ) (e : LoopEnd) (filled : FilledLoop) → e ≡ LoopEnd.Filled filled → HasEnded (job_facts j) k e → IsFilled (job_facts j) k filled
  filled_at k e filled is h = subst (HasEnded (job_facts j) k) is h

  -- the piece of all clusters
  pub is_piece : (k : ℕ) (e : LoopEnd) (filled : FilledLoop) (piece : LoopPiece) → e ≡ LoopEnd.Filled filled → filled.piece ≡ piece → HasEnded (job_facts j) k e → IsSpanPiece j 0 (length (job_spans j)) piece
  is_piece k e filled piece is own h =
      let at = filled_at k e filled is h in
      subst (IsSpanPiece j 0 (length (job_spans j))) own
      (record {
        sound = whole_fault ∙ at.sound;
        stands = subst (λ set. StandsFor (facts_in j) set filled.piece) (ap below many ∙ sym (all_clusters (length (job_spans j)))) at.stands;
      })

  -- a loop without a fault is its lines
  pub whole_loop : (k file : ℕ) (e : LoopEnd) (filled : FilledLoop) (lines : List ShardLine) → e ≡ LoopEnd.Filled filled → HasEnded (job_facts j) k e → lines ≡ map (pass_line (span_rows_of j 0 (length (job_spans j)))) (passes_in j)
      → ◌≡◌ {A = PartLoop} (Whole lines) (chain_loop (alone j.dataset) file (passes_in j))
  whole_loop k file e filled lines is h own =
      let at = filled_at k e filled is h in
      ap Whole (own ∙ ap (λ d. map (pass_line d) (passes_in j)) whole_table)
      ∙ sym (loop_is j.dataset file (passes_in j) ∙ ap (λ o. fault_or_lines (option_map (in_file file) o) (map (pass_line j.dataset) (passes_in j))) (sym first_is ∙ at.sound))

  -- a loop with a fault is that
  pub faulted_loop : (k file : ℕ) (e : LoopEnd) (fault : Fault) → e ≡ LoopEnd.Faulted fault → HasEnded (job_facts j) k e → ◌≡◌ {A = PartLoop} (Faulted (in_file file fault)) (chain_loop (alone j.dataset) file (passes_in j))
  faulted_loop k file e fault is h =
      let first = subst (HasEnded (job_facts j) k) is h in
      sym (loop_is j.dataset file (passes_in j) ∙ ap (λ o. fault_or_lines (option_map (in_file file) o) (map (pass_line j.dataset) (passes_in j))) (sym first_is ∙ first))
