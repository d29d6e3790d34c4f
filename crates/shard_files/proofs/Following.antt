-- What was read so far, line after line: the lines so far begin some shard, and the lines of each shard can be read.
use Rattle.lemmas.proofs.{◌≡◌, ◌≤◌, ◌<◌, ℕ, true, false, ◌&&◌, Some, List, [], ◌∷◌, ◌++◌, length, map, flat_map, refl, ap, ap₂, ◌∙◌, sym, subst, arith, append_assoc, append-nil, codes, length-append, ◌||◌, nat_eq, nat_le, nat_lt, both_true, if_none, if_some, list_all, map_next, nat_tests, or_parts}
use Rattle.rdf_values.specs.{AreColumns, ColType, Column, Fault, has_name, is_name, IsHeader}
use Rattle.shard_lines.specs.{EachFits, FitLines, FitsLine, ShardLine}
use Rattle.shard_files.specs.{Begins, file_lines, FitLoops, FitsFault, IsShard, loop_lines, on_between, on_columns, on_within, shard_limits, shard_of, ShardLoop, ShardView, step, step_at}
use Rattle.shard_files.specs.declared.file_line.FileLine.{FileLine}
use Rattle.shard_files.specs.declared.progress.Progress.{Progress}
use Rattle.shard_files.specs.declared.progress.Stage.{Stage}
use Rattle.shard_files.specs.declared.shard_loop.ShardLoop.TheVariants.{Whole, Faulted}
use Rattle.shard_files.proofs.FileLines.{FitsFileLine}

-- ---- what was read so far, as a shard

-- the shard with these loops
abbrev pub with_loops : Progress → List ShardLoop → ShardView
with_loops p loops = record { entries = p.entries; clusters = p.clusters; columns = p.columns; lo = p.lo; hi = p.hi; loops = loops }

-- up to the span
abbrev top : Progress → List FileLine
top p = FileLine.Version ∷ FileLine.Table p.entries p.clusters ∷ (map FileLine.Column p.columns ++ FileLine.Span p.lo p.hi ∷ [])

abbrev pub lines_at : Stage → Progress → List FileLine
lines_at Stage.First p = []
lines_at Stage.Head p = FileLine.Version ∷ []
lines_at Stage.Columns p = FileLine.Version ∷ FileLine.Table p.entries p.clusters ∷ map FileLine.Column p.columns
lines_at Stage.Between p = top p
lines_at Stage.Within p = top p ++ (flat_map loop_lines p.loops ++ FileLine.Loop ∷ map FileLine.Pass p.lines)
lines_at Stage.Faulted p = top p ++ flat_map loop_lines p.loops
lines_at Stage.Ended p = top p ++ (flat_map loop_lines p.loops ++ FileLine.End ∷ [])

-- the lines so far
abbrev pub lines_so_far : Progress → List FileLine
lines_so_far p = lines_at p.stage p

-- ---- what holds of it

-- loops without a fault
abbrev pub WholeLoops : List ShardLoop → Type 0
WholeLoops [] = Unit {0}
WholeLoops (Whole ls ∷ loops) = (0 < length ls) × FitLines shard_limits ls × WholeLoops loops
WholeLoops (Faulted f ∷ loops) = ⊥

abbrev pub Nothing : Progress → Type 0
Nothing p = (p.loops ≡ []) × (p.lines ≡ [])

pub record HasColumns (p : Progress) : Type 0 where
  pub entries : p.entries ≤ 1000000
  pub clusters : p.clusters ≤ 1000000
  pub few : length p.columns ≤ 64
  pub distinct : AreColumns [] p.columns
  pub named : list_all (λ (c : Column). is_name c.name) p.columns ≡ true

abbrev pub Holds : Stage → Progress → Type 0
Holds Stage.First p = (p.columns ≡ []) × Nothing p
Holds Stage.Head p = (p.columns ≡ []) × Nothing p
Holds Stage.Columns p = HasColumns p × Nothing p
Holds Stage.Between p = IsShard (with_loops p []) × Nothing p
Holds Stage.Within p = IsShard (with_loops p []) × WholeLoops p.loops × FitLines shard_limits p.lines
Holds Stage.Faulted p = IsShard (with_loops p []) × FitLoops p.loops
Holds Stage.Ended p = IsShard (with_loops p []) × FitLoops p.loops

abbrev pub IsProgress : Progress → Type 0
IsProgress p = Holds p.stage p

-- ---- lists

fits_push : {A : Type 0} (Fits : A → Type 0) (xs : List A) (x : A) → EachFits Fits xs → Fits x → EachFits Fits (xs ++ x ∷ [])
fits_push Fits [] x h g = (g, tt)
fits_push Fits (y ∷ xs) x h g = (h.0, fits_push Fits xs x h.1 g)

whole_push : (loops : List ShardLoop) (ls : List ShardLine) → WholeLoops loops → 0 < length ls → FitLines shard_limits ls → WholeLoops (loops ++ Whole ls ∷ [])
whole_push [] ls h l f = (l, f, tt)
whole_push (Whole ms ∷ loops) ls h l f = (h.0, h.1, whole_push loops ls h.2 l f)
whole_push (Faulted g ∷ loops) ls h l f = absurd h

whole_fits : (loops : List ShardLoop) → WholeLoops loops → FitLoops loops
whole_fits [] h = tt
whole_fits (Whole ms ∷ loops) h = (h.0, h.1, whole_fits loops h.2)
whole_fits (Faulted g ∷ loops) h = absurd h

fault_fits : (loops : List ShardLoop) (f : Fault) → WholeLoops loops → FitsFault f → FitLoops (loops ++ Faulted f ∷ [])
fault_fits [] f h g = g
fault_fits (Whole ms ∷ loops) f h g = (h.0, h.1, fault_fits loops f h.2 g)
fault_fits (Faulted e ∷ loops) f h g = absurd h

columns_push : (seen cs : List Column) (c : Column) → AreColumns seen cs → has_name (seen ++ cs) c.name ≡ false → FitsFileLine (FileLine.Column c) → AreColumns seen (cs ++ c ∷ [])
columns_push seen [] c h n f = (subst (λ xs. has_name xs c.name ≡ false) (append-nil seen) n, f.1, tt)
columns_push seen (d ∷ cs) c h n f = (h.0, h.1, columns_push (seen ++ d ∷ []) cs c h.2 (subst (λ xs. has_name xs c.name ≡ false) (sym (append_assoc seen (d ∷ []) cs)) n) f)

named_push : (cs : List Column) (c : Column) → list_all (λ (c : Column). is_name c.name) cs ≡ true → is_name c.name ≡ true → list_all (λ (c : Column). is_name c.name) (cs ++ c ∷ []) ≡ true
named_push [] c h n = ap (λ b. b && true) n
named_push (d ∷ cs) c h n = let both = both_true (is_name d.name) (list_all (λ (c : Column). is_name c.name) cs) h in ap (λ b. b && list_all (λ (c : Column). is_name c.name) (cs ++ c ∷ [])) both.0 ∙ named_push cs c both.1 n

flat_push : (loops : List ShardLoop) (x : ShardLoop) → flat_map loop_lines (loops ++ x ∷ []) ≡ flat_map loop_lines loops ++ loop_lines x
flat_push [] x = append-nil (loop_lines x)
flat_push (y ∷ loops) x = ap (λ t. loop_lines y ++ t) (flat_push loops x) ∙ sym (append_assoc (loop_lines y) (flat_map loop_lines loops) (loop_lines x))

-- ---- a line that follows

abbrev Followed : List FileLine → FileLine → Progress → Type 0
Followed before l q = IsProgress q × (lines_so_far q ≡ before ++ l ∷ [])

some_is : {A : Type 0} (P : A → Type 0) (x y : A) → Some x ≡ Some y → P x → P y
some_is P x y e h = let same : x ≡ y = cc e in subst P same h

columns_follow : (p q : Progress) (l : FileLine) → Holds Stage.Columns p → FitsFileLine l → p.stage ≡ Stage.Columns → on_columns p l ≡ Some q → Followed (lines_at Stage.Columns p) l q
columns_follow p q FileLine.Version h f s e = cc e
columns_follow p q (FileLine.Table a b) h f s e = cc e
columns_follow p q (FileLine.Column c) h f s e =
    let found = if_none (has_name p.columns c.name || nat_le 64 (length p.columns)) (record p { columns = p.columns ++ c ∷ [] }) q e in
    let tests = or_parts (has_name p.columns c.name) (nat_le 64 (length p.columns)) found.0 in
    let room : length p.columns < 64 = let full = tests.1 in grind (arith, nat_tests) in
    let has = h.0 in
    let more : length (p.columns ++ c ∷ []) ≤ 64 = omega (arith, length-append p.columns (c ∷ []), room) in
    let kept : HasColumns (record p { columns = p.columns ++ c ∷ [] }) =
    record { entries = has.entries; clusters = has.clusters; few = more; distinct = columns_push [] p.columns c has.distinct tests.0 f; named = named_push p.columns c has.named f.0 } in
    let lines : lines_at Stage.Columns (record p { columns = p.columns ++ c ∷ [] }) ≡ lines_at Stage.Columns p ++ FileLine.Column c ∷ [] = ap (λ t. FileLine.Version ∷ FileLine.Table p.entries p.clusters ∷ t) (map_next FileLine.Column p.columns c) in
    subst (Followed (lines_at Stage.Columns p) (FileLine.Column c)) found.1
    (subst (λ (t : Stage). Holds t (record p { columns = p.columns ++ c ∷ [] }) × (lines_at t (record p { columns = p.columns ++ c ∷ [] }) ≡ lines_at Stage.Columns p ++ FileLine.Column c ∷ [])) (sym s) ((kept, h.1), lines))
columns_follow p q (FileLine.Span lo hi) h f s e =
    let found = if_some (nat_lt 0 (length p.columns) && (nat_le lo hi && nat_le hi p.clusters)) (record p { stage = Stage.Between; lo = lo; hi = hi }) q e in
    let tests = both_true (nat_lt 0 (length p.columns)) (nat_le lo hi && nat_le hi p.clusters) found.0 in
    let spans = both_true (nat_le lo hi) (nat_le hi p.clusters) tests.1 in
    let some : 0 < length p.columns = let t = tests.0 in grind (arith, nat_tests) in
    let low : lo ≤ hi = let t = spans.0 in grind (arith, nat_tests) in
    let high : hi ≤ p.clusters = let t = spans.1 in grind (arith, nat_tests) in
    let has = h.0 in
    let header : IsHeader p.columns = record { some = some; few = has.few; distinct = has.distinct } in
    let valid : IsShard (with_loops (record p { stage = Stage.Between; lo = lo; hi = hi }) []) = record { entries = has.entries; clusters = has.clusters; header = header; named = has.named; span = low; within = high; loops = tt } in
    subst (Followed (lines_at Stage.Columns p) (FileLine.Span lo hi)) found.1 ((valid, h.1), refl)
columns_follow p q FileLine.Loop h f s e = cc e
columns_follow p q (FileLine.Pass l) h f s e = cc e
columns_follow p q (FileLine.Fault g) h f s e = cc e
columns_follow p q FileLine.End h f s e = cc e

between_follow : (p q : Progress) (l : FileLine) → Holds Stage.Between p → FitsFileLine l → on_between p l ≡ Some q → Followed (lines_at Stage.Between p) l q
between_follow p q FileLine.Version h f e = cc e
between_follow p q (FileLine.Table a b) h f e = cc e
between_follow p q (FileLine.Column c) h f e = cc e
between_follow p q (FileLine.Span lo hi) h f e = cc e
between_follow p q FileLine.Loop h f e =
    let n = record p { stage = Stage.Within } in
    let nothing = h.1 in
    let lines : lines_at Stage.Within n ≡ top p ++ FileLine.Loop ∷ [] = ap₂ (λ ls ms. top p ++ (flat_map loop_lines ls ++ FileLine.Loop ∷ map FileLine.Pass ms)) nothing.0 nothing.1 in
    some_is (Followed (lines_at Stage.Between p) FileLine.Loop) n q e ((h.0, subst WholeLoops (sym nothing.0) tt, subst (FitLines shard_limits) (sym nothing.1) tt), lines)
between_follow p q (FileLine.Pass l) h f e = cc e
between_follow p q (FileLine.Fault g) h f e = cc e
between_follow p q FileLine.End h f e =
    let n = record p { stage = Stage.Ended } in
    let nothing = h.1 in
    let lines : lines_at Stage.Ended n ≡ top p ++ FileLine.End ∷ [] = ap (λ ls. top p ++ (flat_map loop_lines ls ++ FileLine.End ∷ [])) nothing.0 in
    some_is (Followed (lines_at Stage.Between p) FileLine.End) n q e ((h.0, subst FitLoops (sym nothing.0) tt), lines)

-- the lines of a loop that is whole, and one more
closed_lines : (t : List FileLine) (loops : List ShardLoop) (ls : List ShardLine) (more : List FileLine) → t ++ (flat_map loop_lines (loops ++ Whole ls ∷ []) ++ more) ≡ (t ++ (flat_map loop_lines loops ++ FileLine.Loop ∷ map FileLine.Pass ls)) ++ more
closed_lines t loops ls more = ap (λ u. t ++ (u ++ more)) (flat_push loops (Whole ls)) ∙ sym (append_assoc t (flat_map loop_lines loops ++ FileLine.Loop ∷ map FileLine.Pass ls) more)

within_follow : (p q : Progress) (l : FileLine) → Holds Stage.Within p → FitsFileLine l → p.stage ≡ Stage.Within → on_within p l ≡ Some q → Followed (lines_at Stage.Within p) l q
within_follow p q FileLine.Version h f s e = cc e
within_follow p q (FileLine.Table a b) h f s e = cc e
within_follow p q (FileLine.Column c) h f s e = cc e
within_follow p q (FileLine.Span lo hi) h f s e = cc e
within_follow p q FileLine.Loop h f s e =
    let n = record p { stage = Stage.Within; loops = p.loops ++ Whole p.lines ∷ []; lines = [] } in
    let found = if_some (nat_lt 0 (length p.lines)) n q e in
    let some : 0 < length p.lines = let t = found.0 in grind (arith, nat_tests) in
    subst (Followed (lines_at Stage.Within p) FileLine.Loop) found.1 ((h.0, whole_push p.loops p.lines h.1 some h.2, tt), closed_lines (top p) p.loops p.lines (FileLine.Loop ∷ []))
within_follow p q (FileLine.Pass l) h f s e =
    let n = record p { lines = p.lines ++ l ∷ [] } in
    let before = flat_map loop_lines p.loops in
    let lines : lines_at Stage.Within n ≡ lines_at Stage.Within p ++ FileLine.Pass l ∷ [] =
    ap (λ t. top p ++ (before ++ FileLine.Loop ∷ t)) (map_next FileLine.Pass p.lines l)
    ∙ ap (λ t. top p ++ t) (sym (append_assoc before (FileLine.Loop ∷ map FileLine.Pass p.lines) (FileLine.Pass l ∷ []))) ∙ sym (append_assoc (top p) (before ++ FileLine.Loop ∷ map FileLine.Pass p.lines) (FileLine.Pass l ∷ [])) in
    some_is (Followed (lines_at Stage.Within p) (FileLine.Pass l)) n q e
    (subst (λ (t : Stage). Holds t n × (lines_at t n ≡ lines_at Stage.Within p ++ FileLine.Pass l ∷ [])) (sym s) ((h.0, h.1, fits_push (FitsLine shard_limits) p.lines l h.2 f), lines))
within_follow p q (FileLine.Fault g) h f s e =
    let n = record p { stage = Stage.Faulted; loops = p.loops ++ Faulted g ∷ [] } in
    let found = if_some (nat_eq (length p.lines) 0) n q e in
    let empty : p.lines ≡ [] = none p.lines found.0 in
    let before = flat_map loop_lines p.loops in
    let lines : lines_at Stage.Faulted n ≡ lines_at Stage.Within p ++ FileLine.Fault g ∷ [] =
    ap (λ t. top p ++ t) (flat_push p.loops (Faulted g) ∙ sym (append_assoc before (FileLine.Loop ∷ []) (FileLine.Fault g ∷ []))) ∙ sym (append_assoc (top p) (before ++ FileLine.Loop ∷ []) (FileLine.Fault g ∷ []))
    ∙ ap (λ ls. (top p ++ (before ++ FileLine.Loop ∷ map FileLine.Pass ls)) ++ FileLine.Fault g ∷ []) (sym empty) in
    subst (Followed (lines_at Stage.Within p) (FileLine.Fault g)) found.1 ((h.0, fault_fits p.loops g h.1 f), lines)
  where
    none : (ls : List ShardLine) → nat_eq (length ls) 0 ≡ true → ls ≡ []
    none [] e = refl
    none (x ∷ ls) e = absurd (grind (arith, nat_tests))
within_follow p q FileLine.End h f s e =
    let n = record p { stage = Stage.Ended; loops = p.loops ++ Whole p.lines ∷ []; lines = [] } in
    let found = if_some (nat_lt 0 (length p.lines)) n q e in
    let some : 0 < length p.lines = let t = found.0 in grind (arith, nat_tests) in
    subst (Followed (lines_at Stage.Within p) FileLine.End) found.1 ((h.0, whole_fits (p.loops ++ Whole p.lines ∷ []) (whole_push p.loops p.lines h.1 some h.2)), closed_lines (top p) p.loops p.lines (FileLine.End ∷ []))

follow_at : (s : Stage) (p q : Progress) (l : FileLine) → p.stage ≡ s → Holds s p → FitsFileLine l → step_at s p l ≡ Some q → Followed (lines_at s p) l q
follow_at Stage.First p q FileLine.Version s h f e = some_is (Followed [] FileLine.Version) (record p { stage = Stage.Head }) q e (h, refl)
follow_at Stage.First p q (FileLine.Table a b) s h f e = cc e
follow_at Stage.First p q (FileLine.Column c) s h f e = cc e
follow_at Stage.First p q (FileLine.Span lo hi) s h f e = cc e
follow_at Stage.First p q FileLine.Loop s h f e = cc e
follow_at Stage.First p q (FileLine.Pass l) s h f e = cc e
follow_at Stage.First p q (FileLine.Fault g) s h f e = cc e
follow_at Stage.First p q FileLine.End s h f e = cc e
follow_at Stage.Head p q FileLine.Version s h f e = cc e
follow_at Stage.Head p q (FileLine.Table a b) s h f e =
    let n = record p { stage = Stage.Columns; entries = a; clusters = b } in
    let none : p.columns ≡ [] = h.0 in
    let few : length p.columns ≤ 64 = omega (arith, ap length none) in
    let has : HasColumns n = record { entries = f.0; clusters = f.1; few = few; distinct = subst (AreColumns []) (sym none) tt; named = subst (λ cs. list_all (λ (c : Column). is_name c.name) cs ≡ true) (sym none) refl } in
    some_is (Followed (FileLine.Version ∷ []) (FileLine.Table a b)) n q e ((has, h.1), ap (λ cs. FileLine.Version ∷ FileLine.Table a b ∷ map FileLine.Column cs) none)
follow_at Stage.Head p q (FileLine.Column c) s h f e = cc e
follow_at Stage.Head p q (FileLine.Span lo hi) s h f e = cc e
follow_at Stage.Head p q FileLine.Loop s h f e = cc e
follow_at Stage.Head p q (FileLine.Pass l) s h f e = cc e
follow_at Stage.Head p q (FileLine.Fault g) s h f e = cc e
follow_at Stage.Head p q FileLine.End s h f e = cc e
follow_at Stage.Columns p q l s h f e = columns_follow p q l h f s e
follow_at Stage.Between p q l s h f e = between_follow p q l h f e
follow_at Stage.Within p q l s h f e = within_follow p q l h f s e
follow_at Stage.Faulted p q FileLine.Version s h f e = cc e
follow_at Stage.Faulted p q (FileLine.Table a b) s h f e = cc e
follow_at Stage.Faulted p q (FileLine.Column c) s h f e = cc e
follow_at Stage.Faulted p q (FileLine.Span lo hi) s h f e = cc e
follow_at Stage.Faulted p q FileLine.Loop s h f e = cc e
follow_at Stage.Faulted p q (FileLine.Pass l) s h f e = cc e
follow_at Stage.Faulted p q (FileLine.Fault g) s h f e = cc e
follow_at Stage.Faulted p q FileLine.End s h f e = some_is (Followed (lines_at Stage.Faulted p) FileLine.End) (record p { stage = Stage.Ended }) q e (h, sym (append_assoc (top p) (flat_map loop_lines p.loops) (FileLine.End ∷ [])))
follow_at Stage.Ended p q l s h f e = cc e

-- a line that may follow comes behind the lines so far
pub follows : (p q : Progress) (l : FileLine) → IsProgress p → FitsFileLine l → step p l ≡ Some q → Followed (lines_so_far p) l q
follows p q l h f e = follow_at p.stage p q l refl h f e

-- ---- the lines so far begin some shard

-- the lines of a shard, in two parts
parts : (p : Progress) (loops : List ShardLoop) → file_lines (with_loops p loops) ≡ top p ++ (flat_map loop_lines loops ++ FileLine.End ∷ [])
parts p loops = ap (λ t. FileLine.Version ∷ FileLine.Table p.entries p.clusters ∷ t) (sym (append_assoc (map FileLine.Column p.columns) (FileLine.Span p.lo p.hi ∷ []) (flat_map loop_lines loops ++ FileLine.End ∷ [])))

abbrev a_column : Column
a_column = record { name = codes "a"; kind = ColType.Int }

abbrev small : ℕ → ℕ → List Column → ShardView
small e c cs = record { entries = e; clusters = c; columns = cs; lo = 0; hi = 0; loops = [] }

small_valid : (e c : ℕ) (cs : List Column) → e ≤ 1000000 → c ≤ 1000000 → IsHeader cs → list_all (λ (d : Column). is_name d.name) cs ≡ true → IsShard (small e c cs)
small_valid e c cs a b h n = let low : 0 ≤ c = omega arith in record { entries = a; clusters = b; header = h; named = n; span = omega arith; within = low; loops = tt }

lone_header : IsHeader (a_column ∷ [])
lone_header = record { some = omega arith; few = omega arith; distinct = (refl, tt, tt) }

lone_named : list_all (λ (d : Column). is_name d.name) (a_column ∷ []) ≡ true
unfolding is_name
lone_named = refl

begin_columns : (e c : ℕ) (cs : List Column) → e ≤ 1000000 → c ≤ 1000000 → length cs ≤ 64 → AreColumns [] cs → list_all (λ (d : Column). is_name d.name) cs ≡ true → Begins (FileLine.Version ∷ FileLine.Table e c ∷ map FileLine.Column cs)
begin_columns e c [] a b l d n = record { shard = small e c (a_column ∷ []); valid = small_valid e c (a_column ∷ []) a b lone_header lone_named; more = FileLine.Column a_column ∷ FileLine.Span 0 0 ∷ FileLine.End ∷ []; lines = refl }
begin_columns e c (x ∷ cs) a b l d n =
    let header : IsHeader (x ∷ cs) = record { some = omega arith; few = l; distinct = d } in
    record { shard = small e c (x ∷ cs); valid = small_valid e c (x ∷ cs) a b header n; more = FileLine.Span 0 0 ∷ FileLine.End ∷ []; lines = refl }

revalid : (p : Progress) (loops : List ShardLoop) → IsShard (with_loops p []) → FitLoops loops → IsShard (with_loops p loops)
revalid p loops h f = record { entries = h.entries; clusters = h.clusters; header = h.header; named = h.named; span = h.span; within = h.within; loops = f }

begin_at : (s : Stage) (p : Progress) → Holds s p → Begins (lines_at s p)
begin_at Stage.First p h =
    record { shard = small 0 0 (a_column ∷ []); valid = small_valid 0 0 (a_column ∷ []) (omega arith) (omega arith) lone_header lone_named; more = file_lines (small 0 0 (a_column ∷ [])); lines = refl }
begin_at Stage.Head p h =
    record {
      shard = small 0 0 (a_column ∷ []);
      valid = small_valid 0 0 (a_column ∷ []) (omega arith) (omega arith) lone_header lone_named;
      more = FileLine.Table 0 0 ∷ FileLine.Column a_column ∷ FileLine.Span 0 0 ∷ FileLine.End ∷ [];
      lines = refl;
    }
begin_at Stage.Columns p h = let has = h.0 in begin_columns p.entries p.clusters p.columns has.entries has.clusters has.few has.distinct has.named
begin_at Stage.Between p h = record { shard = with_loops p []; valid = h.0; more = FileLine.End ∷ []; lines = parts p [] }
begin_at Stage.Within p h =
    let one : FitsLine shard_limits (ShardLine.Count 0) = omega arith in
    let lines = p.lines ++ ShardLine.Count 0 ∷ [] in
    let some : 0 < length lines = omega (arith, length-append p.lines (ShardLine.Count 0 ∷ [])) in
    let loops = p.loops ++ Whole lines ∷ [] in
    let fits = whole_fits loops (whole_push p.loops lines h.1 some (fits_push (FitsLine shard_limits) p.lines (ShardLine.Count 0) h.2 one)) in
    let before = flat_map loop_lines p.loops in
    let more : List FileLine = FileLine.Pass (ShardLine.Count 0) ∷ FileLine.End ∷ [] in
    record {
      shard = with_loops p loops;
      valid = revalid p loops h.0 fits;
      more = more;
      lines = parts p loops ∙ closed_lines (top p) p.loops lines (FileLine.End ∷ []) ∙ ap (λ t. (top p ++ (before ++ FileLine.Loop ∷ t)) ++ FileLine.End ∷ []) (map_next FileLine.Pass p.lines (ShardLine.Count 0))
          ∙ ap (λ t. (top p ++ t) ++ FileLine.End ∷ []) (sym (append_assoc before (FileLine.Loop ∷ map FileLine.Pass p.lines) (FileLine.Pass (ShardLine.Count 0) ∷ [])))
          ∙ ap (λ t. t ++ FileLine.End ∷ []) (sym (append_assoc (top p) (before ++ FileLine.Loop ∷ map FileLine.Pass p.lines) (FileLine.Pass (ShardLine.Count 0) ∷ [])))
          ∙ append_assoc (top p ++ (before ++ FileLine.Loop ∷ map FileLine.Pass p.lines)) (FileLine.Pass (ShardLine.Count 0) ∷ []) (FileLine.End ∷ []);
    }
begin_at Stage.Faulted p h = record { shard = shard_of p; valid = revalid p p.loops h.0 h.1; more = FileLine.End ∷ []; lines = parts p p.loops ∙ sym (append_assoc (top p) (flat_map loop_lines p.loops) (FileLine.End ∷ [])) }
begin_at Stage.Ended p h = record { shard = shard_of p; valid = revalid p p.loops h.0 h.1; more = []; lines = parts p p.loops ∙ sym (append-nil (lines_at Stage.Ended p)) }

pub begins : (p : Progress) → IsProgress p → Begins (lines_so_far p)
begins p h = begin_at p.stage p h
