-- The lines of each part are read, one after the other.
use Rattle.lemmas.proofs.{◌≡◌, ◌≤◌, ◌<◌, ◌+◌, ◌*◌, ◌-◌, true, false, ◌&&◌, Option, None, Some, List, [], ◌∷◌, ◌++◌, length, map, flat_map, refl, ap, ap₂, ◌∙◌, sym, arith, append_assoc, append-nil, length-append, ◌||◌, if◌then◌else◌, nat_le, nat_lt, option_and_then}
use Rattle.std.proofs.lemmas.Bool.Decides.{nat_tests}
use Rattle.rdf_values.specs.{AreColumns, Column}
use Rattle.shard_lines.specs.{FitLines, ShardLine}
use Rattle.chain_files.specs.{ChainFault, FitLoops, FitsFault, IsPart, loop_lines, part_limits, part_lines, PartLoop, PartView, step}
use Rattle.chain_files.proofs.Within.{is_within_true}
use Rattle.chain_files.specs.declared.part_line.PartLine.{PartLine}
use Rattle.chain_files.specs.declared.progress.PartProgress.{PartProgress}
use Rattle.chain_files.specs.declared.progress.PartStage.{PartStage}
use Rattle.chain_files.specs.declared.part_loop.PartLoop.TheVariants.{Whole, Faulted}

-- what is read after these lines
abbrev pub run : PartProgress → List PartLine → Option PartProgress
run p [] = Some p
run p (l ∷ ls) = option_and_then (λ q. run q ls) (step p l)

pub run_append : (p : PartProgress) (ls ms : List PartLine) → run p (ls ++ ms) ≡ option_and_then (λ q. run q ms) (run p ls)
run_append p [] ms = refl
run_append p (l ∷ ls) ms = by (step p l) (λ q. run_append q ls ms)
  where
    by : (o : Option PartProgress) → ((q : PartProgress) → run q (ls ++ ms) ≡ option_and_then (λ r. run r ms) (run q ls)) → option_and_then (λ q. run q (ls ++ ms)) o ≡ option_and_then (λ q. run q ms) (option_and_then (λ q. run q ls) o)
    by None f = refl
    by (Some q) f = f q

abbrev pub start : PartProgress
start = record { stage = PartStage.First; first_file = 0; end_file = 0; entries = 0; script = []; columns = []; loops = []; lines = [] }

module _ (s : PartView) where
  abbrev at_columns : List Column → PartProgress
  at_columns cs = record { stage = PartStage.Columns; first_file = s.first_file; end_file = s.end_file; entries = s.entries; script = s.script; columns = cs; loops = []; lines = [] }

  abbrev within : List PartLoop → List ShardLine → PartProgress
  within loops lines = record { stage = PartStage.Within; first_file = s.first_file; end_file = s.end_file; entries = s.entries; script = s.script; columns = s.columns; loops = loops; lines = lines }

  abbrev pub ended : List PartLoop → PartProgress
  ended loops = record { stage = PartStage.Ended; first_file = s.first_file; end_file = s.end_file; entries = s.entries; script = s.script; columns = s.columns; loops = loops; lines = [] }

  abbrev faulted : List PartLoop → PartProgress
  faulted loops = record { stage = PartStage.Faulted; first_file = s.first_file; end_file = s.end_file; entries = s.entries; script = s.script; columns = s.columns; loops = loops; lines = [] }

  columns_run : (done cs : List Column) (tail : List PartLine) → AreColumns done cs → length done + length cs ≤ 64 → run (at_columns done) (map PartLine.Column cs ++ tail) ≡ run (at_columns (done ++ cs)) tail
  columns_run done [] tail h l = ap (λ t. run (at_columns t) tail) (sym (append-nil done))
  columns_run done (c ∷ cs) tail h l =
      let room : nat_le 64 (length done) ≡ false = grind (arith, nat_tests) in
      let taken : step (at_columns done) (PartLine.Column c) ≡ Some (at_columns (done ++ c ∷ [])) = ap₂ (λ a b. if a || b then None else Some (at_columns (done ++ c ∷ []))) h.0 room in
      ap (option_and_then (λ q. run q (map PartLine.Column cs ++ tail))) taken ∙ columns_run (done ++ c ∷ []) cs tail h.2 (omega (arith, l, length-append done (c ∷ [])))
      ∙ ap (λ t. run (at_columns t) tail) (append_assoc done (c ∷ []) cs)

  lines_run : (loops : List PartLoop) (done ls : List ShardLine) (tail : List PartLine) → FitLines (part_limits s.entries) ls → run (within loops done) (map PartLine.Pass ls ++ tail) ≡ run (within loops (done ++ ls)) tail
  lines_run loops done [] tail h = ap (λ t. run (within loops t) tail) (sym (append-nil done))
  lines_run loops done (l ∷ ls) tail h =
      ap (λ b. option_and_then (λ q. run q (map PartLine.Pass ls ++ tail)) (if b then Some (within loops (done ++ l ∷ [])) else None)) (is_within_true s.entries l h.0)
      ∙ lines_run loops (done ++ l ∷ []) ls tail h.1 ∙ ap (λ t. run (within loops t) tail) (append_assoc done (l ∷ []) ls)

  abbrev end_of : List PartLoop → List PartLine
  end_of ls = flat_map loop_lines ls ++ PartLine.End ∷ []

  some_line : (lines : List ShardLine) → 0 < length lines → nat_lt 0 (length lines) ≡ true
  some_line lines l = grind (arith, nat_tests)

  fault_run : (loops : List PartLoop) (f : ChainFault) → FitsFault s.first_file s.end_file f → run (within loops []) (PartLine.Fault f ∷ PartLine.End ∷ []) ≡ Some (ended (loops ++ Faulted f ∷ []))
  fault_run loops f h =
      let low : nat_le s.first_file f.file ≡ true = let l = h.0 in grind (arith, nat_tests) in
      let high : nat_lt f.file s.end_file ≡ true = let l = h.1 in grind (arith, nat_tests) in
      ap₂ (λ a b. option_and_then (λ q. run q (PartLine.End ∷ [])) (if a && b then Some (faulted (loops ++ Faulted f ∷ [])) else None)) low high

  loops_run : (loops : List PartLoop) (lines : List ShardLine) (ls : List PartLoop) → 0 < length lines → FitLoops s.first_file s.end_file s.entries ls → run (within loops lines) (end_of ls) ≡ Some (ended (loops ++ Whole lines ∷ ls))
  loops_run loops lines [] l h = ap (λ b. option_and_then (λ q. run q []) (if b then Some (ended (loops ++ Whole lines ∷ [])) else None)) (some_line lines l)
  loops_run loops lines (Whole ms ∷ ls) l h =
      let before = loops ++ Whole lines ∷ [] in
      ap (λ b. option_and_then (λ q. run q ((map PartLine.Pass ms ++ flat_map loop_lines ls) ++ PartLine.End ∷ [])) (if b then Some (within before []) else None)) (some_line lines l)
      ∙ ap (run (within before [])) (append_assoc (map PartLine.Pass ms) (flat_map loop_lines ls) (PartLine.End ∷ [])) ∙ lines_run before [] ms (end_of ls) h.1 ∙ loops_run before ms ls h.0 h.2
      ∙ ap (λ t. Some (ended t)) (append_assoc loops (Whole lines ∷ []) (Whole ms ∷ ls))
  loops_run loops lines (Faulted f ∷ []) l h =
      let before = loops ++ Whole lines ∷ [] in
      ap (λ b. option_and_then (λ q. run q (PartLine.Fault f ∷ PartLine.End ∷ [])) (if b then Some (within before []) else None)) (some_line lines l) ∙ fault_run before f h
      ∙ ap (λ t. Some (ended t)) (append_assoc loops (Whole lines ∷ []) (Faulted f ∷ []))
  loops_run loops lines (Faulted f ∷ next ∷ ls) l h = absurd h

  some_column : 0 < length s.columns → nat_lt 0 (length s.columns) ≡ true
  some_column l = grind (arith, nat_tests)

  -- the first loop, or the end, behind the columns
  first_run : (ls : List PartLoop) → 0 < length s.columns → FitLoops s.first_file s.end_file s.entries ls → run (at_columns s.columns) (end_of ls) ≡ Some (ended ls)
  first_run [] l h = ap (λ b. option_and_then (λ q. run q []) (if b then Some (ended []) else None)) (some_column l)
  first_run (Whole ms ∷ ls) l h =
      ap (λ b. option_and_then (λ q. run q ((map PartLine.Pass ms ++ flat_map loop_lines ls) ++ PartLine.End ∷ [])) (if b then Some (within [] []) else None)) (some_column l)
      ∙ ap (run (within [] [])) (append_assoc (map PartLine.Pass ms) (flat_map loop_lines ls) (PartLine.End ∷ [])) ∙ lines_run [] [] ms (end_of ls) h.1 ∙ loops_run [] ms ls h.0 h.2
  first_run (Faulted f ∷ []) l h = ap (λ b. option_and_then (λ q. run q (PartLine.Fault f ∷ PartLine.End ∷ [])) (if b then Some (within [] []) else None)) (some_column l) ∙ fault_run [] f h
  first_run (Faulted f ∷ next ∷ ls) l h = absurd h

  abbrev behind_files : List PartLine
  behind_files = PartLine.Entries s.entries ∷ PartLine.Script s.script ∷ (map PartLine.Column s.columns ++ end_of s.loops)

  abbrev behind_entries : List PartLine
  behind_entries = PartLine.Script s.script ∷ (map PartLine.Column s.columns ++ end_of s.loops)

  abbrev at_entries : PartProgress
  at_entries = record { stage = PartStage.Entries; first_file = s.first_file; end_file = s.end_file; entries = 0; script = []; columns = []; loops = []; lines = [] }

  abbrev at_script : PartProgress
  at_script = record { stage = PartStage.Script; first_file = s.first_file; end_file = s.end_file; entries = s.entries; script = []; columns = []; loops = []; lines = [] }

  pub whole_runs : IsPart s → run start (part_lines s) ≡ Some (ended s.loops)
  whole_runs v =
      let header = v.header in
      let few : 0 + length s.columns ≤ 64 = let l = header.few in omega arith in
      let files : nat_lt s.first_file s.end_file ≡ true = let l = v.files in grind (arith, nat_tests) in
      let entries : nat_le s.entries (1000000 * (s.end_file - s.first_file)) ≡ true = let l = v.entries in grind (arith, nat_tests) in
      ap (λ b. option_and_then (λ q. run q behind_files) (if b then Some at_entries else None)) files ∙ ap (λ b. option_and_then (λ q. run q behind_entries) (if b then Some at_script else None)) entries
      ∙ columns_run [] s.columns (end_of s.loops) header.distinct few ∙ first_run s.loops header.some v.loops

-- what follows the lines so far in a part is read
pub agrees : (before more : List PartLine) (p : PartProgress) (s : PartView) → run start before ≡ Some p → IsPart s → part_lines s ≡ before ++ more → run p more ≡ Some (ended s s.loops)
agrees before more p s ran v lines = ap (option_and_then (λ q. run q more)) (sym ran) ∙ sym (run_append start before more) ∙ ap (run start) (sym lines) ∙ whole_runs s v

pub runs_on : (before : List PartLine) (l : PartLine) (p q : PartProgress) → run start before ≡ Some p → step p l ≡ Some q → run start (before ++ l ∷ []) ≡ Some q
runs_on before l p q ran h = run_append start before (l ∷ []) ∙ ap (option_and_then (λ r. run r (l ∷ []))) ran ∙ ap (option_and_then (λ r. run r [])) h
