-- The lines of each shard are read, one after the other.
use Rattle.lemmas.proofs.{◌≡◌, ◌≤◌, ◌<◌, ◌+◌, true, false, ◌&&◌, Option, None, Some, List, [], ◌∷◌, ◌++◌, length, map, flat_map, refl, ap, ap₂, ◌∙◌, sym, arith, append_assoc, append-nil, length-append, ◌||◌, if◌then◌else◌, nat_le, nat_lt, option_and_then}
use Rattle.std.proofs.lemmas.Bool.Decides.{nat_tests}
use Rattle.rdf_values.specs.{AreColumns, Column}
use Rattle.shard_lines.specs.{ShardLine}
use Rattle.shard_files.specs.{file_lines, FitLoops, IsShard, loop_lines, ShardLoop, ShardView, step}
use Rattle.shard_files.specs.declared.file_line.FileLine.{FileLine}
use Rattle.shard_files.specs.declared.progress.Progress.{Progress}
use Rattle.shard_files.specs.declared.progress.Stage.{Stage}
use Rattle.shard_files.specs.declared.shard_loop.ShardLoop.TheVariants.{Whole, Faulted}

-- what is read after these lines
abbrev pub run : Progress → List FileLine → Option Progress
run p [] = Some p
run p (l ∷ ls) = option_and_then (λ q. run q ls) (step p l)

pub run_append : (p : Progress) (ls ms : List FileLine) → run p (ls ++ ms) ≡ option_and_then (λ q. run q ms) (run p ls)
run_append p [] ms = refl
run_append p (l ∷ ls) ms = by (step p l) (λ q. run_append q ls ms)
  where
    by : (o : Option Progress) → ((q : Progress) → run q (ls ++ ms) ≡ option_and_then (λ r. run r ms) (run q ls)) → option_and_then (λ q. run q (ls ++ ms)) o ≡ option_and_then (λ q. run q ms) (option_and_then (λ q. run q ls) o)
    by None f = refl
    by (Some q) f = f q

abbrev pub start : Progress
start = record { stage = Stage.First; entries = 0; clusters = 0; columns = []; lo = 0; hi = 0; loops = []; lines = [] }

module _ (s : ShardView) where
  abbrev at_columns : List Column → Progress
  at_columns cs = record { stage = Stage.Columns; entries = s.entries; clusters = s.clusters; columns = cs; lo = 0; hi = 0; loops = []; lines = [] }

  abbrev between : Progress
  between = record { stage = Stage.Between; entries = s.entries; clusters = s.clusters; columns = s.columns; lo = s.lo; hi = s.hi; loops = []; lines = [] }

  abbrev within : List ShardLoop → List ShardLine → Progress
  within loops lines = record { stage = Stage.Within; entries = s.entries; clusters = s.clusters; columns = s.columns; lo = s.lo; hi = s.hi; loops = loops; lines = lines }

  abbrev pub ended : List ShardLoop → Progress
  ended loops = record { stage = Stage.Ended; entries = s.entries; clusters = s.clusters; columns = s.columns; lo = s.lo; hi = s.hi; loops = loops; lines = [] }

  columns_run : (done cs : List Column) (tail : List FileLine) → AreColumns done cs → length done + length cs ≤ 64 → run (at_columns done) (map FileLine.Column cs ++ tail) ≡ run (at_columns (done ++ cs)) tail
  columns_run done [] tail h l = ap (λ t. run (at_columns t) tail) (sym (append-nil done))
  columns_run done (c ∷ cs) tail h l =
      let room : nat_le 64 (length done) ≡ false = grind (arith, nat_tests) in
      let taken : step (at_columns done) (FileLine.Column c) ≡ Some (at_columns (done ++ c ∷ [])) = ap₂ (λ a b. if a || b then None else Some (at_columns (done ++ c ∷ []))) h.0 room in
      ap (option_and_then (λ q. run q (map FileLine.Column cs ++ tail))) taken ∙ columns_run (done ++ c ∷ []) cs tail h.2 (omega (arith, l, length-append done (c ∷ [])))
      ∙ ap (λ t. run (at_columns t) tail) (append_assoc done (c ∷ []) cs)

  lines_run : (loops : List ShardLoop) (done ls : List ShardLine) (tail : List FileLine) → run (within loops done) (map FileLine.Pass ls ++ tail) ≡ run (within loops (done ++ ls)) tail
  lines_run loops done [] tail = ap (λ t. run (within loops t) tail) (sym (append-nil done))
  lines_run loops done (l ∷ ls) tail = lines_run loops (done ++ l ∷ []) ls tail ∙ ap (λ t. run (within loops t) tail) (append_assoc done (l ∷ []) ls)

  abbrev end_of : List ShardLoop → List FileLine
  end_of ls = flat_map loop_lines ls ++ FileLine.End ∷ []

  some_line : (lines : List ShardLine) → 0 < length lines → nat_lt 0 (length lines) ≡ true
  some_line lines l = grind (arith, nat_tests)

  loops_run : (loops : List ShardLoop) (lines : List ShardLine) (ls : List ShardLoop) → 0 < length lines → FitLoops ls → run (within loops lines) (end_of ls) ≡ Some (ended (loops ++ Whole lines ∷ ls))
  loops_run loops lines [] l h = ap (λ b. option_and_then (λ q. run q []) (if b then Some (ended (loops ++ Whole lines ∷ [])) else None)) (some_line lines l)
  loops_run loops lines (Whole ms ∷ ls) l h =
      let before = loops ++ Whole lines ∷ [] in
      ap (λ b. option_and_then (λ q. run q ((map FileLine.Pass ms ++ flat_map loop_lines ls) ++ FileLine.End ∷ [])) (if b then Some (within before []) else None)) (some_line lines l)
      ∙ ap (run (within before [])) (append_assoc (map FileLine.Pass ms) (flat_map loop_lines ls) (FileLine.End ∷ [])) ∙ lines_run before [] ms (end_of ls) ∙ loops_run before ms ls h.0 h.2
      ∙ ap (λ t. Some (ended t)) (append_assoc loops (Whole lines ∷ []) (Whole ms ∷ ls))
  loops_run loops lines (Faulted f ∷ []) l h =
      let before = loops ++ Whole lines ∷ [] in
      ap (λ b. option_and_then (λ q. run q (FileLine.Fault f ∷ FileLine.End ∷ [])) (if b then Some (within before []) else None)) (some_line lines l) ∙ ap (λ t. Some (ended t)) (append_assoc loops (Whole lines ∷ []) (Faulted f ∷ []))
  loops_run loops lines (Faulted f ∷ next ∷ ls) l h = absurd h

  first_run : (ls : List ShardLoop) → FitLoops ls → run between (end_of ls) ≡ Some (ended ls)
  first_run [] h = refl
  first_run (Whole ms ∷ ls) h = ap (run (within [] [])) (append_assoc (map FileLine.Pass ms) (flat_map loop_lines ls) (FileLine.End ∷ [])) ∙ lines_run [] [] ms (end_of ls) ∙ loops_run [] ms ls h.0 h.2
  first_run (Faulted f ∷ []) h = refl
  first_run (Faulted f ∷ next ∷ ls) h = absurd h

  pub whole_runs : IsShard s → run start (file_lines s) ≡ Some (ended s.loops)
  whole_runs v =
      let header = v.header in
      let few : 0 + length s.columns ≤ 64 = let l = header.few in omega arith in
      let some : nat_lt 0 (length s.columns) ≡ true = let l = header.some in grind (arith, nat_tests) in
      let low : nat_le s.lo s.hi ≡ true = let l = v.span in grind (arith, nat_tests) in
      let high : nat_le s.hi s.clusters ≡ true = let l = v.within in grind (arith, nat_tests) in
      let spans : step (at_columns s.columns) (FileLine.Span s.lo s.hi) ≡ Some between =
      ap (λ a. if a && (nat_le s.lo s.hi && nat_le s.hi s.clusters) then Some between else None) some ∙ ap₂ (λ a b. if a && b then Some between else None) low high in
      columns_run [] s.columns (FileLine.Span s.lo s.hi ∷ end_of s.loops) header.distinct few ∙ ap (option_and_then (λ q. run q (end_of s.loops))) spans ∙ first_run s.loops v.loops

-- what follows the lines so far in a shard is read
pub agrees : (before more : List FileLine) (p : Progress) (s : ShardView) → run start before ≡ Some p → IsShard s → file_lines s ≡ before ++ more → run p more ≡ Some (ended s s.loops)
agrees before more p s ran v lines = ap (option_and_then (λ q. run q more)) (sym ran) ∙ sym (run_append start before more) ∙ ap (run start) (sym lines) ∙ whole_runs s v

pub runs_on : (before : List FileLine) (l : FileLine) (p q : Progress) → run start before ≡ Some p → step p l ≡ Some q → run start (before ++ l ∷ []) ≡ Some q
runs_on before l p q ran h = run_append start before (l ∷ []) ∙ ap (option_and_then (λ r. run r (l ∷ []))) ran ∙ ap (option_and_then (λ r. run r [])) h
