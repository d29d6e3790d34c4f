-- Joined loops are printed for the graph whose shapes their files have.
use Rattle.lemmas.proofs.{◌≡◌, ℕ, zero, suc, ◌<◌, ◌≤◌, ◌+◌, Bool, cond, true, false, not, List, [], ◌∷◌, length, map, Option, None, Some, Result, Ok, refl, sym, ap, ◌∙◌, subst, arith, if◌then◌else◌, nat_lt, option_map, slice_get, unwrap_or, and_right, length-map, ltb-true, position_from, position_from-zero, slice_get-map}
use Rattle.std.specs.Prelude.{⊤}
use Rattle.rdf_values.specs.{Booked, Fault}
use Rattle.rdf_model.specs.{loop_passes, loop_results}
use Rattle.graph_numbers.specs.{booked_statements, GraphView}
use Rattle.result_text.specs.{passes_at}
use Rattle.shard_lines.specs.{booking_shape, PassShape, ShardLine}
use Rattle.shard_files.specs.{all_lines, are_loops, fault_or_lines, first_loop, first_misshapen, first_other, first_uncovered, in_order, joined_loops, least_fault, merge_of, MergeCause, or_earlier, other_loops, ShardLoop, shards_joined, ShardView, unless_at, up_to_fault}
use Rattle.shard_files.specs.declared.shard_loop.ShardLoop.TheVariants.{Whole, Faulted}
use Rattle.shard_spans.specs.{loops_of, pass_shapes}
use Rattle.shard_spans.proofs.Following.{Each, order_each}
use Rattle.graph_shapes.specs.{graph_shapes, JoinedLoopsFit, pass_kind}
use Rattle.graph_shapes.proofs.Looped.{loops_many}

-- ---- no more loops than these, and each fault is of one of its loop's passes

abbrev pub FitShapes : List (List PassShape) → List ShardLoop → Type 0
FitShapes shapes [] = ⊤
FitShapes [] (l ∷ ls) = ⊥
FitShapes (ss ∷ shapes) (Whole ps ∷ ls) = FitShapes shapes ls
FitShapes (ss ∷ shapes) (Faulted f ∷ ls) = (f.pass < length ss) × FitShapes shapes ls

-- ---- the least fault of a loop

abbrev FitsFault : ℕ → ShardLoop → Type 0
FitsFault n (Whole ps) = ⊤
FitsFault n (Faulted f) = f.pass < n

abbrev AllFit : ℕ → List ShardLoop → Type 0
AllFit n [] = ⊤
AllFit n (l ∷ ls) = FitsFault n l × AllFit n ls

abbrev FaultFits : ℕ → Option Fault → Type 0
FaultFits n None = ⊤
FaultFits n (Some f) = f.pass < n

earlier_fits : (n : ℕ) (f : Fault) (o : Option Fault) → f.pass < n → FaultFits n o → (or_earlier f o).pass < n
earlier_fits n f None h k = h
earlier_fits n f (Some g) h k = go (nat_lt g.entry f.entry)
  where
    go : (b : Bool) → (if b then g else f).pass < n
    go true = k
    go false = h

least_fits : (n : ℕ) (ls : List ShardLoop) → AllFit n ls → FaultFits n (least_fault ls)
least_fits n [] h = tt
least_fits n (Whole ps ∷ ls) h = least_fits n ls h.1
least_fits n (Faulted f ∷ ls) h = earlier_fits n f (least_fault ls) h.0 (least_fits n ls h.1)

-- where none is faulty, each is whole
abbrev AreWhole : List ShardLoop → Type 0
AreWhole [] = ⊤
AreWhole (Whole ps ∷ ls) = AreWhole ls
AreWhole (Faulted f ∷ ls) = ⊥

none_faulty : (ls : List ShardLoop) → least_fault ls ≡ None → AreWhole ls
none_faulty [] h = tt
none_faulty (Whole ps ∷ ls) h = none_faulty ls h
none_faulty (Faulted f ∷ ls) h = cc h

-- ---- files

abbrev HaveLoops : List (List PassShape) → List (List ShardLoop) → Type 0
HaveLoops shapes [] = ⊤
HaveLoops shapes (f ∷ fs) = (are_loops shapes f ≡ true) × HaveLoops shapes fs

first_fits : (ss : List PassShape) (shapes : List (List PassShape)) (f : List ShardLoop) → are_loops (ss ∷ shapes) f ≡ true → FitsFault (length ss) (first_loop f)
first_fits ss shapes [] h = tt
first_fits ss shapes (Whole ps ∷ ls) h = tt
first_fits ss shapes (Faulted f ∷ ls) h = ltb-true f.pass (length ss) h

all_first : (ss : List PassShape) (shapes : List (List PassShape)) (files : List (List ShardLoop)) → HaveLoops (ss ∷ shapes) files → AllFit (length ss) (map first_loop files)
all_first ss shapes [] h = tt
all_first ss shapes (f ∷ fs) h = (first_fits ss shapes f h.0, all_first ss shapes fs h.1)

others_have : (ss : List PassShape) (shapes : List (List PassShape)) (files : List (List ShardLoop)) → HaveLoops (ss ∷ shapes) files → AreWhole (map first_loop files) → HaveLoops shapes (map other_loops files)
others_have ss shapes [] h w = tt
others_have ss shapes ([] ∷ fs) h w = absurd (cc h.0)
others_have ss shapes ((Whole ps ∷ ls) ∷ fs) h w = (and_right _ (are_loops shapes ls) h.0, others_have ss shapes fs h.1 w)
others_have ss shapes ((Faulted f ∷ ls) ∷ fs) h w = absurd w

-- a loop, and those behind it where it isn't faulty
one_fits : (ss : List PassShape) (shapes : List (List PassShape)) (o : Option Fault) (ps : List ShardLine) (rest : List ShardLoop) → FaultFits (length ss) o → (o ≡ None → FitShapes shapes rest)
    → FitShapes (ss ∷ shapes) (up_to_fault (fault_or_lines o ps) rest)
one_fits ss shapes None ps rest fits next = next refl
one_fits ss shapes (Some f) ps rest fits next = (fits, tt)

joined_fit : (shapes : List (List PassShape)) (files : List (List ShardLoop)) → HaveLoops shapes files → FitShapes shapes (joined_loops shapes files)
joined_fit [] files h = tt
joined_fit (ss ∷ shapes) files h =
    one_fits ss shapes (least_fault (map first_loop files)) (all_lines ss (map first_loop files)) (joined_loops shapes (map other_loops files))
    (least_fits (length ss) (map first_loop files) (all_first ss shapes files h))
    (λ none. joined_fit shapes (map other_loops files) (others_have ss shapes files h (none_faulty (map first_loop files) none)))

-- ---- shards

abbrev HasLoops : List (List PassShape) → ShardView → Type 0
HasLoops shapes s = are_loops shapes s.loops ≡ true

files_have : (shapes : List (List PassShape)) (ss : List ShardView) → Each (HasLoops shapes) ss → HaveLoops shapes (map (λ (s : ShardView). s.loops) ss)
files_have shapes [] h = tt
files_have shapes (s ∷ ss) h = (h.0, files_have shapes ss h.1)

none_from : (shapes : List (List PassShape)) (i : ℕ) (ss : List ShardView) → position_from (λ (s : ShardView). not (are_loops shapes s.loops)) i ss ≡ None → Each (HasLoops shapes) ss
none_from shapes i [] h = tt
none_from shapes i (s ∷ ss) h = go (are_loops shapes s.loops) refl h (λ k. none_from shapes (i + 1) ss k)
  where
    go : (b : Bool) → are_loops shapes s.loops ≡ b → cond (not b) (Some i) (position_from (λ (t : ShardView). not (are_loops shapes t.loops)) (i + 1) ss) ≡ None
        → (position_from (λ (t : ShardView). not (are_loops shapes t.loops)) (i + 1) ss ≡ None → Each (HasLoops shapes) ss) → Each (HasLoops shapes) (s ∷ ss)
    go true e q next = (e, next q)
    go false e q next = cc q

none_misshapen : (shapes : List (List PassShape)) (ss : List ShardView) → first_misshapen shapes ss ≡ None → Each (HasLoops shapes) ss
none_misshapen shapes ss h = none_from shapes 0 ss (sym (position_from-zero (λ (s : ShardView). not (are_loops shapes s.loops)) ss) ∙ h)

unless_ok : {A : Type 0} (o : Option ℕ) (why : ℕ → MergeCause) (next : Result A MergeCause) (a : A) → unless_at o why next ≡ Ok a → (o ≡ None) × (next ≡ Ok a)
unless_ok None why next a h = (refl, h)
unless_ok (Some n) why next a h = cc h

-- shards that were merged
pub merged_fit : (shapes : List (List PassShape)) (shards : List ShardView) (loops : List ShardLoop) → merge_of shapes shards ≡ Ok loops → FitShapes shapes loops
unfolding merge_of shards_joined
merged_fit shapes [] loops h = (let same : [] ≡ loops = cc h in subst (FitShapes shapes) same tt)
merged_fit shapes (s ∷ ss) loops h =
    let head = unless_ok (first_other s (s ∷ ss)) MergeCause.Head _ loops h in
    let shape = unless_ok (first_misshapen shapes (s ∷ ss)) MergeCause.Shape _ loops head.1 in
    let cover = unless_ok (first_uncovered s.clusters (s ∷ ss)) MergeCause.Cover _ loops shape.1 in
    let same : joined_loops shapes (map (λ (t : ShardView). t.loops) (in_order (s ∷ ss))) ≡ loops = cc cover.1 in
    subst (FitShapes shapes) same
    (joined_fit shapes (map (λ (t : ShardView). t.loops) (in_order (s ∷ ss))) (files_have shapes (in_order (s ∷ ss)) (order_each (HasLoops shapes) (s ∷ ss) (none_misshapen shapes (s ∷ ss) shape.0))))

-- ---- of a graph

many : (shapes : List (List PassShape)) (loops : List ShardLoop) → FitShapes shapes loops → length loops ≤ length shapes
many shapes [] h = omega arith
many [] (l ∷ ls) h = absurd h
many (ss ∷ shapes) (Whole ps ∷ ls) h = (let rest = many shapes ls h in omega arith)
many (ss ∷ shapes) (Faulted f ∷ ls) h = (let rest = many shapes ls h.1 in omega arith)

fault_at : (shapes : List (List PassShape)) (loops : List ShardLoop) → FitShapes shapes loops → (l : ℕ) (f : Fault) → slice_get loops l ≡ Some (Faulted f) → (ss : List PassShape) × (slice_get shapes l ≡ Some ss) × (f.pass < length ss)
fault_at shapes [] h l f at = absurd (cc at)
fault_at [] (x ∷ ls) h l f at = absurd h
fault_at (ss ∷ shapes) (Whole ps ∷ ls) h zero f at = absurd (cc at)
fault_at (ss ∷ shapes) (Whole ps ∷ ls) h (suc l) f at = fault_at shapes ls h l f at
fault_at (ss ∷ shapes) (Faulted g ∷ ls) h zero f at = (let same : g ≡ f = cc at in (ss, refl, subst (λ (x : Fault). x.pass < length ss) same h.0))
fault_at (ss ∷ shapes) (Faulted g ∷ ls) h (suc l) f at = fault_at shapes ls h.1 l f at

passes_long : (g : GraphView) (l : ℕ) (ss : List PassShape) → slice_get (graph_shapes g) l ≡ Some ss → length ss ≡ length (passes_at g l)
passes_long g l ss at = go (slice_get (loop_results (booked_statements g)) l) refl (sym (slice_get-map (pass_shapes (pass_kind g)) (loops_of g.script) l ∙ ap (option_map (pass_shapes (pass_kind g))) (slice_get-map (loop_passes (booked_statements g)) (loop_results (booked_statements g)) l)) ∙ at)
  where
    go : (o : Option (List Booked)) → slice_get (loop_results (booked_statements g)) l ≡ o → option_map (pass_shapes (pass_kind g)) (option_map (loop_passes (booked_statements g)) o) ≡ Some ss → length ss ≡ length (passes_at g l)
    go None is e = absurd (cc e)
    go (Some results) is e =
        let same : pass_shapes (pass_kind g) (loop_passes (booked_statements g) results) ≡ ss = cc e in
        sym (ap (λ (x : List PassShape). length x) same) ∙ length-map (loop_passes (booked_statements g) results) (λ p. booking_shape (pass_kind g p) p.result.booking)
        ∙ ap (λ (r : Option (List Booked)). length (loop_passes (booked_statements g) (unwrap_or r []))) (sym is)

pub joined_loops_fit : JoinedLoopsFit
joined_loops_fit g shards loops h =
    let fit = merged_fit (graph_shapes g) shards loops h in
    record {
      many = (let few = many (graph_shapes g) loops fit in let same : length (graph_shapes g) ≡ length (loops_of g.script) = length-map (loops_of g.script) (pass_shapes (pass_kind g)) in omega (arith, few, same, loops_many g));
      faults = λ l f at. (let found = fault_at (graph_shapes g) loops fit l f at in let lt = found.2 in omega (arith, passes_long g l found.0 found.1));
    }
