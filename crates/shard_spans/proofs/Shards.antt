-- Shards of spans that hold each cluster once are joined to one run over all clusters.
use Rattle.lemmas.proofs.{◌≡◌, ℕ, zero, suc, ◌+◌, ◌<◌, ◌≤◌, Bool, true, false, cond, List, [], ◌∷◌, length, map, None, Some, refl, sym, ap, ap₂, ◌∙◌, arith, if◌then◌else◌, All, nat_eq, not, slice_get, nat_tests, position_from, position_from-zero}
use Rattle.rdf_values.specs.{below, ColType, Lead, Pass, Script, Span}
use Rattle.rdf_values.proofs.UnionLemmas.{slice_get-below}
use Rattle.rdf_model.specs.{Dataset}
use Rattle.shard_files.specs.{first_uncovered, in_order, joined_loops, placed, ShardLoop, shards_joined, ShardView, spans_with}
use Rattle.shard_spans.specs.{loops_of, pass_shapes, ShardsJoinToOneRun, span_loops, span_shard}
use Rattle.shard_spans.proofs.Following.{Each, Follow, IsWithin, order_each, order_sorted, order_with, they_follow}
use Rattle.shard_spans.proofs.WholeRuns.{loops_are_whole}

none_pass : (t : ℕ → Bool) (i : ℕ) (xs : List ℕ) → position_from t i xs ≡ None → (k x : ℕ) → slice_get xs k ≡ Some x → t x ≡ false
none_pass t i [] h k x at = absurd (cc)
none_pass t i (y ∷ ys) h k x at = go (t y) refl h k at (λ q j there. none_pass t (i + 1) ys q j x there)
  where
    go : (b : Bool) → t y ≡ b → cond b (Some i) (position_from t (i + 1) ys) ≡ None → (k : ℕ) → slice_get (y ∷ ys) k ≡ Some x → (position_from t (i + 1) ys ≡ None → (j : ℕ) → slice_get ys j ≡ Some x → t x ≡ false) → t x ≡ false
    go true q r k there next = absurd (cc)
    go false q r zero there next = let same : y ≡ x = cc in ap t (sym same) ∙ q
    go false q r (suc k) there next = next r k there

is_one : (n : ℕ) → not (nat_eq n 1) ≡ false → n ≡ 1
is_one n h = grind (arith, nat_tests, h)

-- where no cluster is uncovered, each is in one span
once_each : (n : ℕ) (ss : List ShardView) → first_uncovered n ss ≡ None → (c : ℕ) → c < n → spans_with c ss ≡ 1
once_each n ss h c lt =
    is_one (spans_with c ss)
    (none_pass (λ k. not (nat_eq (spans_with k ss) 1)) 0 (below n) (sym (position_from-zero (λ k. not (nat_eq (spans_with k ss) 1)) (below n)) ∙ h) c c (slice_get-below n c lt))

module _ (script : Script) (d : Dataset) (spans : List Span) (leads : Lead 0 (length d.rows) spans) (column : Pass → ColType) where
  abbrev shard_of : Span → ShardView
  shard_of s = span_shard script d spans s.lo s.hi

  -- a shard of a span within the clusters
  abbrev IsRun : ShardView → Type 0
  IsRun s = IsWithin (length spans) s × (s.loops ≡ span_loops spans d s.lo s.hi (loops_of script))

  each_run : (parts : List Span) → All (λ (s : Span). (s.lo ≤ s.hi) × (s.hi ≤ length spans)) parts → Each IsRun (map shard_of parts)
  each_run [] h = tt
  each_run (s ∷ parts) h = ((h 0 s (omega arith), refl), each_run parts (λ k x lt. h (suc k) x (omega arith)))

  within_all : (ss : List ShardView) → Each IsRun ss → Each (IsWithin (length spans)) ss
  within_all [] h = tt
  within_all (s ∷ ss) h = (h.0.0, within_all ss h.1)

  loops_all : (ss : List ShardView) → Each IsRun ss → map (λ (s : ShardView). s.loops) ss ≡ map (λ (s : ShardView). span_loops spans d s.lo s.hi (loops_of script)) ss
  loops_all [] h = refl
  loops_all (s ∷ ss) h = ap₂ (λ (l : List ShardLoop) ls. l ∷ ls) h.0.1 (loops_all ss h.1)

  placed_some : (s : ShardView) (ts : List ShardView) → placed s ts ≡ [] → ⊥
  placed_some s [] h = absurd (cc)
  placed_some s (t ∷ ts) h = go _ h
    where
      go : (b : Bool) → (if b then s ∷ t ∷ ts else t ∷ placed s ts) ≡ [] → ⊥
      go true q = absurd (cc)
      go false q = absurd (cc)

  whole : (ss : List ShardView) → (ss ≡ [] → ⊥) → Each IsRun ss → Follow (length spans) 0 ss
      → joined_loops (map (pass_shapes column) (loops_of script)) (map (λ (s : ShardView). s.loops) ss) ≡ span_loops spans d 0 (length spans) (loops_of script)
  whole [] some runs follow = absurd (some refl)
  whole (s ∷ ss) some runs follow =
      ap (joined_loops (map (pass_shapes column) (loops_of script))) (loops_all (s ∷ ss) runs) ∙ loops_are_whole d spans leads column (loops_of script) s ss (within_all (s ∷ ss) runs) follow

  joined : (s : ShardView) (ss : List ShardView) → Each IsRun (s ∷ ss) → first_uncovered (length spans) (s ∷ ss) ≡ None → shards_joined (map (pass_shapes column) (loops_of script)) (s ∷ ss) ≡ span_loops spans d 0 (length spans) (loops_of script)
  unfolding shards_joined
  joined s ss runs covered =
      let ordered = order_each IsRun (s ∷ ss) runs in
      let follow = they_follow (length spans) 0 (in_order (s ∷ ss)) (order_sorted (s ∷ ss)) (within_all (in_order (s ∷ ss)) ordered) (omega arith)
      (λ c a b. order_with c (s ∷ ss) ∙ once_each (length spans) (s ∷ ss) covered c b) (λ c a. absurd (omega arith)) in
      whole (in_order (s ∷ ss)) (placed_some s (in_order ss)) ordered follow

pub shards_join_to_one_run : ShardsJoinToOneRun
shards_join_to_one_run script d spans [] column leads some within covered = absurd (omega arith)
shards_join_to_one_run script d spans (s ∷ parts) column leads some within covered =
    let runs = each_run script d spans leads column (s ∷ parts) within in
    joined script d spans leads column (span_shard script d spans s.lo s.hi) (map (λ (t : Span). span_shard script d spans t.lo t.hi) parts) runs covered
