-- What is due to a script and shards, and to a command.
use Rattle.lemmas.proofs.{◌≡◌, ℕ, List, [], ◌∷◌, None, Some, Result, Ok, IfOk, sym, ap, ◌∙◌, subst, MatchOption, slice_get}
use Rattle.rdf_values.specs.{Column, fn_names, Function, FunctionNames, IsHeader, Script}
use Rattle.graph_numbers.specs.{booked, GraphView}
use Rattle.input_files.specs.{due_of}
use Rattle.shard_files.specs.{first_other, merge_of, ShardLoop, ShardView}
use Rattle.shard_lines.specs.{PassShape}
use Rattle.graph_shapes.specs.{graph_shapes, JoinedLoopsFit}
use Rattle.merged_text.specs.{FitGraph}
use Rattle.shard_due.specs.{differs_line, graph_over, IsDueToShards, IsMerged, name_at, WithAccepted}
use Rattle.shard_due.specs.declared.status.ShardStatus.TheVariants.{FilesDiffer}
use Rattle.shard_program.specs.{AreShards, due_in}
use Rattle.shard_program.specs.Answers.{Answers}
use Rattle.shard_program.specs.declared.answer.Answer.{Answer}
use Rattle.shard_program.proofs.FileReading.{if_ok}
use Rattle.shard_program.proofs.OverTables.{accepted}

-- ---- shards of one table

pub first_header : (shards : List ShardView) (first : ShardView) → slice_get shards 0 ≡ Some first → AreShards shards → IsHeader first.columns
first_header [] first at h = absurd (cc at)
first_header (s ∷ shards) first at h = (let same : s ≡ first = cc at in subst (λ (x : ShardView). IsHeader x.columns) same h.0.header)

module _ (fns : List Function) (script : Script) (names : List (List ℕ)) (a : Answer) where
  -- all of one table, to which what is due is that to a script over it
  pub one_table_due : (shards : List ShardView) (first : ShardView) → slice_get shards 0 ≡ Some first → first_other first shards ≡ None
      → Answers (WithAccepted fns script first.columns (λ d. IsMerged (graph_over fns script first.columns) names shards d)) a → Answers (IsDueToShards fns names script shards) a
  one_table_due [] first at other is = absurd (cc at)
  one_table_due (s ∷ shards) first at other is =
      let same : first ≡ s = cc at in
      let head : first_other s (s ∷ shards) ≡ None = subst (λ (x : ShardView). first_other x (s ∷ shards) ≡ None) same other in
      record {
        of_files = is.of_files;
        final = is.final;
        is_due =
            subst (λ o. MatchOption o (WithAccepted fns script s.columns (λ d. IsMerged (graph_over fns script s.columns) names (s ∷ shards) d) (due_in a)) (λ n. due_in a ≡ due_of FilesDiffer (differs_line (name_at names n))))
            (sym head) (subst (λ (x : ShardView). WithAccepted fns script x.columns (λ d. IsMerged (graph_over fns script x.columns) names (s ∷ shards) d) (due_in a)) same is.is_due);
      }

-- ---- merged loops

pub loops_fit : JoinedLoopsFit → (g : GraphView) (shards : List ShardView) (shapes : List (List PassShape)) (loops loops' : List ShardLoop) → shapes ≡ graph_shapes g → merge_of shapes shards ≡ Ok loops → loops' ≡ loops → FitGraph g loops'
loops_fit law g shards shapes loops loops' same e l = subst (FitGraph g) (sym l) (law g shards loops (ap (λ x. merge_of x shards) (sym same) ∙ e))

-- the answer to all shards, once the script was booked
pub shards_due : {E : Type 0} (fns : List Function) (script : Script) (names : List (List ℕ)) (shards : List ShardView) (first : ShardView) (header : List Column) (fn_names' : FunctionNames) (g : GraphView) (r : Result Answer E) → slice_get shards 0 ≡ Some first
    → first_other first shards ≡ None → header ≡ first.columns → fn_names' ≡ fn_names fns → booked script header fn_names' ≡ Ok g → IfOk r (Answers (IsMerged g names shards)) → IfOk r (Answers (IsDueToShards fns names script shards))
shards_due fns script names shards first header fn_names' g r at other heads named is =
    if_ok (Answers (IsMerged g names shards)) (Answers (IsDueToShards fns names script shards)) r
    (λ a h. one_table_due fns script names a shards first at other (accepted fns script first.columns header fn_names' heads named (λ x d. IsMerged x names shards d) g a is h))
