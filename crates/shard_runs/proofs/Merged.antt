-- Shards of runs are merged to one run: their heads agree, and their loops have the script's shapes.
use Rattle.lemmas.proofs.{◌≡◌, ℕ, suc, ◌+◌, ◌<◌, ◌≤◌, Bool, true, false, not, ◌&&◌, List, [], ◌∷◌, length, map, Option, None, Some, Result, Ok, refl, sym, ap, ap₂, ◌∙◌, arith, cond, All, position, AllByRecursion, eq_itself, position_from, position_from-zero}
use Rattle.rdf_values.specs.{ColType, Column, Lead, Script, Span}
use Rattle.rdf_model.specs.{Dataset}
use Rattle.rdf_model.proofs.Accepted.{itself}
use Rattle.shard_files.specs.{are_loops, first_misshapen, first_other, first_uncovered, merge_of, MergeCause, same_columns, same_head, same_kind, ShardLoop, shards_joined, ShardView, unless_at}
use Rattle.shard_files.proofs.OneShard.{a_text_breaks_nowhere, a_text_is_of_one_shard}
use Rattle.shard_spans.specs.{loops_of, span_loops, span_shard}
use Rattle.shard_spans.proofs.Shards.{shards_join_to_one_run}
use Rattle.shard_runs.specs.{AreReadOf, IsChecked, OnlyCoverIsRefused, pass_kind, runs_over, RunsMergeToOneRun, script_shapes, WrittenRunsMergeToOneRun, WrittenRunsReadBack}
use Rattle.shard_runs.proofs.Runs.{runs_are_shards}
use Rattle.shard_runs.proofs.Shapes.{runs_have_shapes}

-- ---- nothing is found

from_none : {A : Type 0} (t : A → Bool) (i : ℕ) (xs : List A) → AllByRecursion (λ x. t x ≡ false) xs → position_from t i xs ≡ None
from_none t i [] h = refl
from_none t i (x ∷ xs) h = ap (λ (b : Bool). cond b (Some i) (position_from t (i + 1) xs)) h.0 ∙ from_none t (i + 1) xs h.1

pub none_at : {A : Type 0} (t : A → Bool) (xs : List A) → AllByRecursion (λ x. t x ≡ false) xs → position t xs ≡ None
none_at t xs h = position_from-zero t xs ∙ from_none t 0 xs h

-- ---- heads

kind_itself : (t : ColType) → same_kind t t ≡ true
kind_itself ColType.Int = refl
kind_itself ColType.Bool = refl
kind_itself ColType.Vect = refl

pub columns_itself : (cs : List Column) → same_columns cs cs ≡ true
columns_itself [] = refl
columns_itself (c ∷ cs) = ap₂ (λ a b. a && b) (ap₂ (λ a b. a && b) (itself c.name) (kind_itself c.kind)) (columns_itself cs)

-- ---- merging

module _ (script : Script) (d : Dataset) (spans : List Span) (checked : IsChecked script d) where
  abbrev run : Span → ShardView
  run s = span_shard script d spans s.lo s.hi

  heads : (s t : Span) → same_head (run s) (run t) ≡ true
  heads s t = ap₂ (λ a b. a && b) (ap₂ (λ a b. a && b) (eq_itself (length d.rows)) (eq_itself (length spans))) (columns_itself d.columns)

  same_heads : (s : Span) (parts : List Span) → AllByRecursion (λ t. not (same_head (run s) t) ≡ false) (map run parts)
  same_heads s [] = tt
  same_heads s (t ∷ parts) = (ap not (heads s t), same_heads s parts)

  shaped : (parts : List Span) → AllByRecursion (λ (s : ShardView). not (are_loops (script_shapes script d) s.loops) ≡ false) (map run parts)
  shaped [] = tt
  shaped (s ∷ parts) = (ap not (runs_have_shapes script d spans s.lo s.hi checked), shaped parts)

  unless_none : (o : Option ℕ) (why : ℕ → MergeCause) (next : Result (List ShardLoop) MergeCause) → o ≡ None → unless_at o why next ≡ next
  unless_none o why next h = ap (λ p. unless_at p why next) h

  cover_alone : (s : Span) (parts : List Span) → merge_of (script_shapes script d) (map run (s ∷ parts)) ≡ unless_at (first_uncovered (length spans) (map run (s ∷ parts))) MergeCause.Cover (Ok (shards_joined (script_shapes script d) (map run (s ∷ parts))))
  unfolding merge_of
  cover_alone s parts =
      let shards : List ShardView = map run (s ∷ parts) in
      let joined : Result (List ShardLoop) MergeCause = unless_at (first_uncovered (length spans) shards) MergeCause.Cover (Ok (shards_joined (script_shapes script d) shards)) in
      unless_none (first_other (run s) shards) MergeCause.Head (unless_at (first_misshapen (script_shapes script d) shards) MergeCause.Shape joined) (none_at (λ t. not (same_head (run s) t)) shards (same_heads s (s ∷ parts)))
      ∙ unless_none (first_misshapen (script_shapes script d) shards) MergeCause.Shape joined (none_at (λ (t : ShardView). not (are_loops (script_shapes script d) t.loops)) shards (shaped (s ∷ parts)))

  merged : (parts : List Span) → Lead 0 (length d.rows) spans → 0 < length parts → All (λ (s : Span). (s.lo ≤ s.hi) × (s.hi ≤ length spans)) parts → first_uncovered (length spans) (map run parts) ≡ None
      → merge_of (script_shapes script d) (map run parts) ≡ Ok (span_loops spans d 0 (length spans) (loops_of script))
  merged [] leads some within covered = absurd (omega arith)
  merged (s ∷ parts) leads some within covered =
      cover_alone s parts
      ∙ unless_none (first_uncovered (length spans) (map run (s ∷ parts))) MergeCause.Cover (Ok (shards_joined (script_shapes script d) (map run (s ∷ parts)))) covered
      ∙ ap Ok (shards_join_to_one_run script d spans (s ∷ parts) (pass_kind d) leads some within covered)

pub only_cover_is_refused : OnlyCoverIsRefused
only_cover_is_refused script d spans [] checked some = absurd (omega arith)
only_cover_is_refused script d spans (s ∷ parts) checked some = cover_alone script d spans checked s parts

pub runs_merge_to_one_run : RunsMergeToOneRun
runs_merge_to_one_run script d spans parts checked leads some within covered = merged script d spans checked parts leads some within covered

-- ---- texts

pub written_runs_read_back : WrittenRunsReadBack
written_runs_read_back script d spans lo hi checked leads le top =
    let valid = runs_are_shards script d spans lo hi checked leads le top in
    (λ s h. a_text_is_of_one_shard s (span_shard script d spans lo hi) h.valid valid h.text, λ number h. a_text_breaks_nowhere (span_shard script d spans lo hi) number valid h)

module _ (script : Script) (d : Dataset) (spans : List Span) (checked : IsChecked script d) (leads : Lead 0 (length d.rows) spans) where
  -- what was read is what was found
  read_is : (parts : List Span) (read : List ShardView) → All (λ (s : Span). (s.lo ≤ s.hi) × (s.hi ≤ length spans)) parts → AreReadOf script d spans parts read → read ≡ runs_over script d spans parts
  read_is [] [] within h = refl
  read_is [] (s ∷ read) within h = absurd h
  read_is (p ∷ parts) [] within h = absurd h
  read_is (p ∷ parts) (s ∷ read) within h =
      let its = within 0 p (omega arith) in
      ap₂ (λ (x : ShardView) xs. x ∷ xs) ((written_runs_read_back script d spans p.lo p.hi checked leads its.0 its.1).0 s h.0) (read_is parts read (λ k x lt. within (suc k) x (omega arith)) h.1)

pub written_runs_merge_to_one_run : WrittenRunsMergeToOneRun
written_runs_merge_to_one_run script d spans parts read checked leads some within reads covered =
    let same_shards = read_is script d spans checked leads parts read within reads in
    ap (merge_of (script_shapes script d)) same_shards
    ∙ runs_merge_to_one_run script d spans parts checked leads some within (sym (ap (first_uncovered (length spans)) same_shards) ∙ covered)
