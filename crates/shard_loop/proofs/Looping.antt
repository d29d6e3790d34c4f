-- The loops of a graph over a span, one after another.
use Rattle.lemmas.proofs.{◌≡◌, ℕ, zero, suc, ◌+◌, ◌<◌, ◌≤◌, true, false, List, [], ◌∷◌, ◌++◌, length, map, drop, Option, Some, refl, sym, ap, ◌∙◌, subst, arith, append-nil, append_assoc, option_map, slice_get, unwrap_or, length-map, drop_all, slice_get-map, something_at}
use Rattle.rdf_values.specs.{Booked, Fault, history, Pass, Script, Span}
use Rattle.rdf_model.specs.{Dataset, loop_passes, loop_results}
use Rattle.graph_numbers.specs.{graph_loops, GraphView, pass_at}
use Rattle.graph_numbers.proofs.Placing.{itself}
use Rattle.graph_numbers.proofs.Covering.{loops_are}
use Rattle.loop_keys.specs.{job_spans, JobView, passes_in}
use Rattle.loop_pieces.specs.{LoopPiece}
use Rattle.shard_lines.specs.{ShardLine}
use Rattle.shard_files.specs.{fault_or_lines, is_faulty, ShardLoop, up_to_fault}
use Rattle.shard_files.specs.declared.shard_loop.ShardLoop.TheVariants.{Whole, Faulted}
use Rattle.shard_spans.specs.{loops_of, pass_line, span_loop, span_loops}
use Rattle.shard_loop.specs.{IsSpanned, IsSpanPiece, loop_in, span_rows_of}
use Rattle.shard_loop.specs.declared.span_run.Spanned.{Spanned}

-- ---- one loop

module _ (j : JobView) (lo hi : ℕ) where
  pub is_piece : (s : Spanned) (piece : LoopPiece) → s ≡ Spanned.Whole piece → IsSpanned j lo hi s → IsSpanPiece j lo hi piece
  is_piece s piece is h = subst (IsSpanned j lo hi) is h

  -- a loop without a fault is its lines
  pub whole_loop : (piece : LoopPiece) (lines : List ShardLine) → IsSpanPiece j lo hi piece → lines ≡ map (pass_line (span_rows_of j lo hi)) (passes_in j)
      → ◌≡◌ {A = ShardLoop} (Whole lines) (span_loop (job_spans j) j.dataset lo hi (passes_in j))
  whole_loop piece lines span h = ap Whole h ∙ sym (ap (λ (o : Option Fault). fault_or_lines o (map (pass_line (span_rows_of j lo hi)) (passes_in j))) span.sound)

  -- a loop with a fault is that
  pub faulted_loop : (s : Spanned) (fault : Fault) → s ≡ Spanned.Faulted fault → IsSpanned j lo hi s → ◌≡◌ {A = ShardLoop} (Faulted fault) (span_loop (job_spans j) j.dataset lo hi (passes_in j))
  faulted_loop s fault is h = sym (ap (λ (o : Option Fault). fault_or_lines o (map (pass_line (span_rows_of j lo hi)) (passes_in j))) (subst (IsSpanned j lo hi) is h))

-- ---- all loops

pub loops_many : (g : GraphView) → length (graph_loops g) ≡ length (loops_of g.script)
loops_many g =
    let h = history g.script in
    sym (length-map (graph_loops g) (map (pass_at h))) ∙ ap length (loops_are h h itself) ∙ length-map (loop_results h) (λ results. map (λ (p : Pass). Some p) (loop_passes h results))
    ∙ sym (length-map (loop_results h) (loop_passes h))

pub loop_there : (script : Script) (n : ℕ) → n < length (loops_of script) → slice_get (loops_of script) n ≡ Some (loop_in script n)
loop_there script n lt =
    let h = history script in
    let here = something_at (loop_results h) n (omega (arith, length-map (loop_results h) (loop_passes h))) in
    slice_get-map (loop_passes h) (loop_results h) n ∙ ap (option_map (loop_passes h)) here.1 ∙ ap (λ (o : Option (List Booked)). Some (loop_passes h (unwrap_or o []))) (sym here.1)

pub one_left : {A : Type 0} (xs : List A) (n : ℕ) (x : A) → slice_get xs n ≡ Some x → drop n xs ≡ x ∷ drop (n + 1) xs
one_left [] n x at = absurd (cc)
one_left {A} (y ∷ ys) zero x at = ap (λ z. z ∷ ys) (same_some at)
  where
    same_some : {a b : A} → ◌≡◌ {A = Option A} (Some a) (Some b) → a ≡ b
    same_some q = cc
one_left (y ∷ ys) (suc n) x at = one_left ys n x at ∙ (let e : suc n + 1 ≡ suc (n + 1) = omega arith in ap (λ k. x ∷ drop k (y ∷ ys)) (sym e))

module _ (spans : List Span) (d : Dataset) (lo hi : ℕ) (script : Script) where
  -- what is something_at, and what follows
  abbrev pub IsUpToLoop : ℕ → List ShardLoop → Type 0
  IsUpToLoop n all = all ++ span_loops spans d lo hi (drop n (loops_of script)) ≡ span_loops spans d lo hi (loops_of script)

  pub begin_loops : (all : List ShardLoop) → all ≡ [] → IsUpToLoop 0 all
  begin_loops all none = ap (λ l. l ++ span_loops spans d lo hi (loops_of script)) none

  after_whole : (one : ShardLoop) (rest : List ShardLoop) → is_faulty one ≡ false → up_to_fault one rest ≡ one ∷ rest
  after_whole (Whole ls) rest h = refl
  after_whole (Faulted f) rest h = absurd (cc)

  after_fault : (one : ShardLoop) (rest : List ShardLoop) → is_faulty one ≡ true → up_to_fault one rest ≡ one ∷ []
  after_fault (Whole ls) rest h = absurd (cc)
  after_fault (Faulted f) rest h = refl

  left : (n : ℕ) (one : ShardLoop) → n < length (loops_of script) → one ≡ span_loop spans d lo hi (loop_in script n)
      → span_loops spans d lo hi (drop n (loops_of script)) ≡ up_to_fault one (span_loops spans d lo hi (drop (n + 1) (loops_of script)))
  left n one lt is = ap (span_loops spans d lo hi) (one_left (loops_of script) n (loop_in script n) (loop_there script n lt)) ∙ ap (λ x. up_to_fault x (span_loops spans d lo hi (drop (n + 1) (loops_of script)))) (sym is)

  pub next_loop : (n : ℕ) (one : ShardLoop) (all more : List ShardLoop) → n < length (loops_of script) → one ≡ span_loop spans d lo hi (loop_in script n) → is_faulty one ≡ false → more ≡ all ++ one ∷ [] → IsUpToLoop n all → IsUpToLoop (n + 1) more
  next_loop n one all more lt is sound pushed h =
      let rest = span_loops spans d lo hi (drop (n + 1) (loops_of script)) in
      ap (λ l. l ++ rest) pushed ∙ append_assoc all (one ∷ []) rest ∙ sym (ap (λ l. all ++ l) (left n one lt is ∙ after_whole one rest sound)) ∙ h

  pub last_loop : (n : ℕ) (one : ShardLoop) (all more : List ShardLoop) → n < length (loops_of script) → one ≡ span_loop spans d lo hi (loop_in script n) → is_faulty one ≡ true → more ≡ all ++ one ∷ [] → IsUpToLoop n all
      → more ≡ span_loops spans d lo hi (loops_of script)
  last_loop n one all more lt is faulty pushed h =
      pushed ∙ sym (ap (λ l. all ++ l) (left n one lt is ∙ after_fault one (span_loops spans d lo hi (drop (n + 1) (loops_of script))) faulty)) ∙ h

  pub no_loop_left : (n : ℕ) (all : List ShardLoop) → length (loops_of script) ≤ n → IsUpToLoop n all → all ≡ span_loops spans d lo hi (loops_of script)
  no_loop_left n all le h = sym (append-nil all) ∙ sym (ap (λ l. all ++ span_loops spans d lo hi l) (drop_all n (loops_of script) le)) ∙ h
