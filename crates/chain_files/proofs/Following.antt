-- What was read so far, line after line: the lines so far begin some part, and the lines of each part can be read.
use Rattle.lemmas.proofs.{◌≡◌, ◌≤◌, ◌<◌, ◌*◌, ◌-◌, ℕ, true, false, ◌&&◌, Some, List, [], ◌∷◌, ◌++◌, length, map, flat_map, refl, ap, ap₂, ◌∙◌, sym, subst, arith, append_assoc, append-nil, codes, length-append, ◌||◌, nat_eq, nat_le, nat_lt, both_true, if_none, if_some, list_all, map_next, nat_tests, or_parts}
use Rattle.rdf_values.specs.{AreColumns, ColType, Column, has_name, is_name, IsHeader}
use Rattle.shard_lines.specs.{EachFits, FitLines, FitsLine, ShardLine}
use Rattle.chain_files.specs.{Begins, ChainFault, FitLoops, FitsFault, is_digest, is_within, IsPart, loop_lines, on_columns, on_within, part_limits, part_lines, part_of, PartLoop, PartView, step, step_at}
use Rattle.chain_files.specs.declared.part_line.PartLine.{PartLine}
use Rattle.chain_files.specs.declared.progress.PartProgress.{PartProgress}
use Rattle.chain_files.specs.declared.progress.PartStage.{PartStage}
use Rattle.chain_files.specs.declared.part_loop.PartLoop.TheVariants.{Whole, Faulted}
use Rattle.chain_files.proofs.PartLines.{FitsPartLine}
use Rattle.chain_files.proofs.Within.{within_says}

-- ---- what was read so far, as a part

-- the part with these loops
abbrev pub with_loops : PartProgress → List PartLoop → PartView
with_loops p loops = record { first_file = p.first_file; end_file = p.end_file; entries = p.entries; script = p.script; columns = p.columns; loops = loops }

-- up to the columns
abbrev top : PartProgress → List PartLine
top p = PartLine.Version ∷ PartLine.Files p.first_file p.end_file ∷ PartLine.Entries p.entries ∷ PartLine.Script p.script ∷ map PartLine.Column p.columns

abbrev pub lines_at : PartStage → PartProgress → List PartLine
lines_at PartStage.First p = []
lines_at PartStage.Files p = PartLine.Version ∷ []
lines_at PartStage.Entries p = PartLine.Version ∷ PartLine.Files p.first_file p.end_file ∷ []
lines_at PartStage.Script p = PartLine.Version ∷ PartLine.Files p.first_file p.end_file ∷ PartLine.Entries p.entries ∷ []
lines_at PartStage.Columns p = top p
lines_at PartStage.Within p = top p ++ (flat_map loop_lines p.loops ++ PartLine.Loop ∷ map PartLine.Pass p.lines)
lines_at PartStage.Faulted p = top p ++ flat_map loop_lines p.loops
lines_at PartStage.Ended p = top p ++ (flat_map loop_lines p.loops ++ PartLine.End ∷ [])

-- the lines so far
abbrev pub lines_so_far : PartProgress → List PartLine
lines_so_far p = lines_at p.stage p

-- ---- what holds of it

-- loops without a fault
abbrev pub WholeLoops : ℕ → List PartLoop → Type 0
WholeLoops n [] = Unit {0}
WholeLoops n (Whole ls ∷ loops) = (0 < length ls) × FitLines (part_limits n) ls × WholeLoops n loops
WholeLoops n (Faulted f ∷ loops) = ⊥

abbrev pub Nothing : PartProgress → Type 0
Nothing p = (p.loops ≡ []) × (p.lines ≡ [])

-- nothing behind the head was read
abbrev pub NoColumns : PartProgress → Type 0
NoColumns p = (p.columns ≡ []) × Nothing p

pub record HasFiles (p : PartProgress) : Type 0 where
  pub files : p.first_file < p.end_file
  pub within : p.end_file ≤ 16777216

abbrev pub FewEntries : PartProgress → Type 0
FewEntries p = p.entries ≤ 1000000 * (p.end_file - p.first_file)

pub record HasColumns (p : PartProgress) : Type 0 where
  pub files : HasFiles p
  pub entries : FewEntries p
  pub digest : is_digest p.script ≡ true
  pub few : length p.columns ≤ 64
  pub distinct : AreColumns [] p.columns
  pub named : list_all (λ (c : Column). is_name c.name) p.columns ≡ true

abbrev pub FitAll : PartProgress → List PartLoop → Type 0
FitAll p loops = FitLoops p.first_file p.end_file p.entries loops

abbrev pub Holds : PartStage → PartProgress → Type 0
Holds PartStage.First p = NoColumns p
Holds PartStage.Files p = NoColumns p
Holds PartStage.Entries p = HasFiles p × NoColumns p
Holds PartStage.Script p = (HasFiles p × FewEntries p) × NoColumns p
Holds PartStage.Columns p = HasColumns p × Nothing p
Holds PartStage.Within p = IsPart (with_loops p []) × WholeLoops p.entries p.loops × FitLines (part_limits p.entries) p.lines
Holds PartStage.Faulted p = IsPart (with_loops p []) × FitAll p p.loops
Holds PartStage.Ended p = IsPart (with_loops p []) × FitAll p p.loops

abbrev pub IsProgress : PartProgress → Type 0
IsProgress p = Holds p.stage p

-- ---- lists

fits_push : {A : Type 0} (Fits : A → Type 0) (xs : List A) (x : A) → EachFits Fits xs → Fits x → EachFits Fits (xs ++ x ∷ [])
fits_push Fits [] x h g = (g, tt)
fits_push Fits (y ∷ xs) x h g = (h.0, fits_push Fits xs x h.1 g)

module _ (first end n : ℕ) where
  whole_push : (loops : List PartLoop) (ls : List ShardLine) → WholeLoops n loops → 0 < length ls → FitLines (part_limits n) ls → WholeLoops n (loops ++ Whole ls ∷ [])
  whole_push [] ls h l f = (l, f, tt)
  whole_push (Whole ms ∷ loops) ls h l f = (h.0, h.1, whole_push loops ls h.2 l f)
  whole_push (Faulted g ∷ loops) ls h l f = absurd h

  whole_fits : (loops : List PartLoop) → WholeLoops n loops → FitLoops first end n loops
  whole_fits [] h = tt
  whole_fits (Whole ms ∷ loops) h = (h.0, h.1, whole_fits loops h.2)
  whole_fits (Faulted g ∷ loops) h = absurd h

  fault_fits : (loops : List PartLoop) (f : ChainFault) → WholeLoops n loops → FitsFault first end f → FitLoops first end n (loops ++ Faulted f ∷ [])
  fault_fits [] f h g = g
  fault_fits (Whole ms ∷ loops) f h g = (h.0, h.1, fault_fits loops f h.2 g)
  fault_fits (Faulted e ∷ loops) f h g = absurd h

columns_push : (seen cs : List Column) (c : Column) → AreColumns seen cs → has_name (seen ++ cs) c.name ≡ false → FitsPartLine (PartLine.Column c) → AreColumns seen (cs ++ c ∷ [])
columns_push seen [] c h n f = (subst (λ xs. has_name xs c.name ≡ false) (append-nil seen) n, f.1, tt)
columns_push seen (d ∷ cs) c h n f = (h.0, h.1, columns_push (seen ++ d ∷ []) cs c h.2 (subst (λ xs. has_name xs c.name ≡ false) (sym (append_assoc seen (d ∷ []) cs)) n) f)

named_push : (cs : List Column) (c : Column) → list_all (λ (c : Column). is_name c.name) cs ≡ true → is_name c.name ≡ true → list_all (λ (c : Column). is_name c.name) (cs ++ c ∷ []) ≡ true
named_push [] c h n = ap (λ b. b && true) n
named_push (d ∷ cs) c h n = let both = both_true (is_name d.name) (list_all (λ (c : Column). is_name c.name) cs) h in ap (λ b. b && list_all (λ (c : Column). is_name c.name) (cs ++ c ∷ [])) both.0 ∙ named_push cs c both.1 n

flat_push : (loops : List PartLoop) (x : PartLoop) → flat_map loop_lines (loops ++ x ∷ []) ≡ flat_map loop_lines loops ++ loop_lines x
flat_push [] x = append-nil (loop_lines x)
flat_push (y ∷ loops) x = ap (λ t. loop_lines y ++ t) (flat_push loops x) ∙ sym (append_assoc (loop_lines y) (flat_map loop_lines loops) (loop_lines x))

-- ---- a line that follows

abbrev Followed : List PartLine → PartLine → PartProgress → Type 0
Followed before l q = IsProgress q × (lines_so_far q ≡ before ++ l ∷ [])

some_is : {A : Type 0} (P : A → Type 0) (x y : A) → Some x ≡ Some y → P x → P y
some_is P x y e h = let same : x ≡ y = cc e in subst P same h

-- the head is whole where there is a column
headed : (p : PartProgress) → HasColumns p → nat_lt 0 (length p.columns) ≡ true → IsPart (with_loops p [])
headed p has t =
    let some : 0 < length p.columns = grind (arith, nat_tests) in
    let had = has.files in
    let header : IsHeader p.columns = record { some = some; few = has.few; distinct = has.distinct } in
    record { files = had.files; within = had.within; entries = has.entries; digest = has.digest; header = header; named = has.named; loops = tt }

columns_follow : (p q : PartProgress) (l : PartLine) → Holds PartStage.Columns p → FitsPartLine l → p.stage ≡ PartStage.Columns → on_columns p l ≡ Some q → Followed (top p) l q
columns_follow p q PartLine.Version h f s e = cc e
columns_follow p q (PartLine.Files a b) h f s e = cc e
columns_follow p q (PartLine.Entries k) h f s e = cc e
columns_follow p q (PartLine.Script w) h f s e = cc e
columns_follow p q (PartLine.Column c) h f s e =
    let found = if_none (has_name p.columns c.name || nat_le 64 (length p.columns)) (record p { columns = p.columns ++ c ∷ [] }) q e in
    let tests = or_parts (has_name p.columns c.name) (nat_le 64 (length p.columns)) found.0 in
    let room : length p.columns < 64 = let full = tests.1 in grind (arith, nat_tests) in
    let has = h.0 in
    let more : length (p.columns ++ c ∷ []) ≤ 64 = omega (arith, length-append p.columns (c ∷ []), room) in
    let files : HasFiles (record p { columns = p.columns ++ c ∷ [] }) = let had = has.files in record { files = had.files; within = had.within } in
    let kept : HasColumns (record p { columns = p.columns ++ c ∷ [] }) =
    record { files = files; entries = has.entries; digest = has.digest; few = more; distinct = columns_push [] p.columns c has.distinct tests.0 f; named = named_push p.columns c has.named f.0 } in
    let lines : lines_at PartStage.Columns (record p { columns = p.columns ++ c ∷ [] }) ≡ top p ++ PartLine.Column c ∷ [] =
    ap (λ t. PartLine.Version ∷ PartLine.Files p.first_file p.end_file ∷ PartLine.Entries p.entries ∷ PartLine.Script p.script ∷ t) (map_next PartLine.Column p.columns c) in
    subst (Followed (top p) (PartLine.Column c)) found.1
    (subst (λ (t : PartStage). Holds t (record p { columns = p.columns ++ c ∷ [] }) × (lines_at t (record p { columns = p.columns ++ c ∷ [] }) ≡ top p ++ PartLine.Column c ∷ [])) (sym s) ((kept, h.1), lines))
columns_follow p q PartLine.Loop h f s e =
    let n = record p { stage = PartStage.Within } in
    let found = if_some (nat_lt 0 (length p.columns)) n q e in
    let nothing = h.1 in
    let lines : lines_at PartStage.Within n ≡ top p ++ PartLine.Loop ∷ [] = ap₂ (λ ls ms. top p ++ (flat_map loop_lines ls ++ PartLine.Loop ∷ map PartLine.Pass ms)) nothing.0 nothing.1 in
    subst (Followed (top p) PartLine.Loop) found.1 ((headed p h.0 found.0, subst (WholeLoops p.entries) (sym nothing.0) tt, subst (FitLines (part_limits p.entries)) (sym nothing.1) tt), lines)
columns_follow p q (PartLine.Pass l) h f s e = cc e
columns_follow p q (PartLine.Fault g) h f s e = cc e
columns_follow p q PartLine.End h f s e =
    let n = record p { stage = PartStage.Ended } in
    let found = if_some (nat_lt 0 (length p.columns)) n q e in
    let nothing = h.1 in
    let lines : lines_at PartStage.Ended n ≡ top p ++ PartLine.End ∷ [] = ap (λ ls. top p ++ (flat_map loop_lines ls ++ PartLine.End ∷ [])) nothing.0 in
    subst (Followed (top p) PartLine.End) found.1 ((headed p h.0 found.0, subst (FitAll p) (sym nothing.0) tt), lines)

-- the lines of a loop that is whole, and one more
closed_lines : (t : List PartLine) (loops : List PartLoop) (ls : List ShardLine) (more : List PartLine) → t ++ (flat_map loop_lines (loops ++ Whole ls ∷ []) ++ more) ≡ (t ++ (flat_map loop_lines loops ++ PartLine.Loop ∷ map PartLine.Pass ls)) ++ more
closed_lines t loops ls more = ap (λ u. t ++ (u ++ more)) (flat_push loops (Whole ls)) ∙ sym (append_assoc t (flat_map loop_lines loops ++ PartLine.Loop ∷ map PartLine.Pass ls) more)

within_follow : (p q : PartProgress) (l : PartLine) → Holds PartStage.Within p → FitsPartLine l → p.stage ≡ PartStage.Within → on_within p l ≡ Some q → Followed (lines_at PartStage.Within p) l q
within_follow p q PartLine.Version h f s e = cc e
within_follow p q (PartLine.Files a b) h f s e = cc e
within_follow p q (PartLine.Entries k) h f s e = cc e
within_follow p q (PartLine.Script w) h f s e = cc e
within_follow p q (PartLine.Column c) h f s e = cc e
within_follow p q PartLine.Loop h f s e =
    let n = record p { stage = PartStage.Within; loops = p.loops ++ Whole p.lines ∷ []; lines = [] } in
    let found = if_some (nat_lt 0 (length p.lines)) n q e in
    let some : 0 < length p.lines = let t = found.0 in grind (arith, nat_tests) in
    subst (Followed (lines_at PartStage.Within p) PartLine.Loop) found.1 ((h.0, whole_push p.first_file p.end_file p.entries p.loops p.lines h.1 some h.2, tt), closed_lines (top p) p.loops p.lines (PartLine.Loop ∷ []))
within_follow p q (PartLine.Pass l) h f s e =
    let n = record p { lines = p.lines ++ l ∷ [] } in
    let found = if_some (is_within p.entries l) n q e in
    let fits : FitsLine (part_limits p.entries) l = within_says p.entries l f found.0 in
    let before = flat_map loop_lines p.loops in
    let lines : lines_at PartStage.Within n ≡ lines_at PartStage.Within p ++ PartLine.Pass l ∷ [] =
    ap (λ t. top p ++ (before ++ PartLine.Loop ∷ t)) (map_next PartLine.Pass p.lines l)
    ∙ ap (λ t. top p ++ t) (sym (append_assoc before (PartLine.Loop ∷ map PartLine.Pass p.lines) (PartLine.Pass l ∷ []))) ∙ sym (append_assoc (top p) (before ++ PartLine.Loop ∷ map PartLine.Pass p.lines) (PartLine.Pass l ∷ [])) in
    subst (Followed (lines_at PartStage.Within p) (PartLine.Pass l)) found.1
    (subst (λ (t : PartStage). Holds t n × (lines_at t n ≡ lines_at PartStage.Within p ++ PartLine.Pass l ∷ [])) (sym s) ((h.0, h.1, fits_push (FitsLine (part_limits p.entries)) p.lines l h.2 fits), lines))
within_follow p q (PartLine.Fault g) h f s e =
    let n = record p { stage = PartStage.Faulted; loops = p.loops ++ Faulted g ∷ [] } in
    let found = if_some (nat_eq (length p.lines) 0 && (nat_le p.first_file g.file && nat_lt g.file p.end_file)) n q e in
    let tests = both_true (nat_eq (length p.lines) 0) (nat_le p.first_file g.file && nat_lt g.file p.end_file) found.0 in
    let place = both_true (nat_le p.first_file g.file) (nat_lt g.file p.end_file) tests.1 in
    let low : p.first_file ≤ g.file = let t = place.0 in grind (arith, nat_tests) in
    let high : g.file < p.end_file = let t = place.1 in grind (arith, nat_tests) in
    let empty : p.lines ≡ [] = none p.lines tests.0 in
    let before = flat_map loop_lines p.loops in
    let lines : lines_at PartStage.Faulted n ≡ lines_at PartStage.Within p ++ PartLine.Fault g ∷ [] =
    ap (λ t. top p ++ t) (flat_push p.loops (Faulted g) ∙ sym (append_assoc before (PartLine.Loop ∷ []) (PartLine.Fault g ∷ []))) ∙ sym (append_assoc (top p) (before ++ PartLine.Loop ∷ []) (PartLine.Fault g ∷ []))
    ∙ ap (λ ls. (top p ++ (before ++ PartLine.Loop ∷ map PartLine.Pass ls)) ++ PartLine.Fault g ∷ []) (sym empty) in
    subst (Followed (lines_at PartStage.Within p) (PartLine.Fault g)) found.1 ((h.0, fault_fits p.first_file p.end_file p.entries p.loops g h.1 (low, high, f.1, f.2)), lines)
  where
    none : (ls : List ShardLine) → nat_eq (length ls) 0 ≡ true → ls ≡ []
    none [] e = refl
    none (x ∷ ls) e = absurd (grind (arith, nat_tests))
within_follow p q PartLine.End h f s e =
    let n = record p { stage = PartStage.Ended; loops = p.loops ++ Whole p.lines ∷ []; lines = [] } in
    let found = if_some (nat_lt 0 (length p.lines)) n q e in
    let some : 0 < length p.lines = let t = found.0 in grind (arith, nat_tests) in
    let fits = whole_fits p.first_file p.end_file p.entries (p.loops ++ Whole p.lines ∷ []) (whole_push p.first_file p.end_file p.entries p.loops p.lines h.1 some h.2) in
    subst (Followed (lines_at PartStage.Within p) PartLine.End) found.1 ((h.0, fits), closed_lines (top p) p.loops p.lines (PartLine.End ∷ []))

follow_at : (s : PartStage) (p q : PartProgress) (l : PartLine) → p.stage ≡ s → Holds s p → FitsPartLine l → step_at s p l ≡ Some q → Followed (lines_at s p) l q
follow_at PartStage.First p q PartLine.Version s h f e = some_is (Followed [] PartLine.Version) (record p { stage = PartStage.Files }) q e (h, refl)
follow_at PartStage.First p q (PartLine.Files a b) s h f e = cc e
follow_at PartStage.First p q (PartLine.Entries k) s h f e = cc e
follow_at PartStage.First p q (PartLine.Script w) s h f e = cc e
follow_at PartStage.First p q (PartLine.Column c) s h f e = cc e
follow_at PartStage.First p q PartLine.Loop s h f e = cc e
follow_at PartStage.First p q (PartLine.Pass l) s h f e = cc e
follow_at PartStage.First p q (PartLine.Fault g) s h f e = cc e
follow_at PartStage.First p q PartLine.End s h f e = cc e
follow_at PartStage.Files p q PartLine.Version s h f e = cc e
follow_at PartStage.Files p q (PartLine.Files a b) s h f e =
    let n = record p { stage = PartStage.Entries; first_file = a; end_file = b } in
    let found = if_some (nat_lt a b) n q e in
    let below : a < b = let t = found.0 in grind (arith, nat_tests) in
    let files : HasFiles n = record { files = below; within = f.1 } in
    subst (Followed (PartLine.Version ∷ []) (PartLine.Files a b)) found.1 ((files, h), refl)
follow_at PartStage.Files p q (PartLine.Entries k) s h f e = cc e
follow_at PartStage.Files p q (PartLine.Script w) s h f e = cc e
follow_at PartStage.Files p q (PartLine.Column c) s h f e = cc e
follow_at PartStage.Files p q PartLine.Loop s h f e = cc e
follow_at PartStage.Files p q (PartLine.Pass l) s h f e = cc e
follow_at PartStage.Files p q (PartLine.Fault g) s h f e = cc e
follow_at PartStage.Files p q PartLine.End s h f e = cc e
follow_at PartStage.Entries p q PartLine.Version s h f e = cc e
follow_at PartStage.Entries p q (PartLine.Files a b) s h f e = cc e
follow_at PartStage.Entries p q (PartLine.Entries k) s h f e =
    let n = record p { stage = PartStage.Script; entries = k } in
    let found = if_some (nat_le k (1000000 * (p.end_file - p.first_file))) n q e in
    let few : FewEntries n = let t = found.0 in grind (arith, nat_tests) in
    let had = h.0 in
    let files : HasFiles n = record { files = had.files; within = had.within } in
    subst (Followed (lines_at PartStage.Entries p) (PartLine.Entries k)) found.1 (((files, few), h.1), refl)
follow_at PartStage.Entries p q (PartLine.Script w) s h f e = cc e
follow_at PartStage.Entries p q (PartLine.Column c) s h f e = cc e
follow_at PartStage.Entries p q PartLine.Loop s h f e = cc e
follow_at PartStage.Entries p q (PartLine.Pass l) s h f e = cc e
follow_at PartStage.Entries p q (PartLine.Fault g) s h f e = cc e
follow_at PartStage.Entries p q PartLine.End s h f e = cc e
follow_at PartStage.Script p q PartLine.Version s h f e = cc e
follow_at PartStage.Script p q (PartLine.Files a b) s h f e = cc e
follow_at PartStage.Script p q (PartLine.Entries k) s h f e = cc e
follow_at PartStage.Script p q (PartLine.Script w) s h f e =
    let n = record p { stage = PartStage.Columns; script = w } in
    let held = h.0 in
    let had = held.0 in
    let rest = h.1 in
    let none : p.columns ≡ [] = rest.0 in
    let few : length p.columns ≤ 64 = omega (arith, ap length none) in
    let files : HasFiles n = record { files = had.files; within = had.within } in
    let has : HasColumns n = record { files = files; entries = held.1; digest = f; few = few; distinct = subst (AreColumns []) (sym none) tt; named = subst (λ cs. list_all (λ (c : Column). is_name c.name) cs ≡ true) (sym none) refl } in
    some_is (Followed (lines_at PartStage.Script p) (PartLine.Script w)) n q e ((has, rest.1), ap (λ cs. PartLine.Version ∷ PartLine.Files p.first_file p.end_file ∷ PartLine.Entries p.entries ∷ PartLine.Script w ∷ map PartLine.Column cs) none)
follow_at PartStage.Script p q (PartLine.Column c) s h f e = cc e
follow_at PartStage.Script p q PartLine.Loop s h f e = cc e
follow_at PartStage.Script p q (PartLine.Pass l) s h f e = cc e
follow_at PartStage.Script p q (PartLine.Fault g) s h f e = cc e
follow_at PartStage.Script p q PartLine.End s h f e = cc e
follow_at PartStage.Columns p q l s h f e = columns_follow p q l h f s e
follow_at PartStage.Within p q l s h f e = within_follow p q l h f s e
follow_at PartStage.Faulted p q PartLine.Version s h f e = cc e
follow_at PartStage.Faulted p q (PartLine.Files a b) s h f e = cc e
follow_at PartStage.Faulted p q (PartLine.Entries k) s h f e = cc e
follow_at PartStage.Faulted p q (PartLine.Script w) s h f e = cc e
follow_at PartStage.Faulted p q (PartLine.Column c) s h f e = cc e
follow_at PartStage.Faulted p q PartLine.Loop s h f e = cc e
follow_at PartStage.Faulted p q (PartLine.Pass l) s h f e = cc e
follow_at PartStage.Faulted p q (PartLine.Fault g) s h f e = cc e
follow_at PartStage.Faulted p q PartLine.End s h f e = some_is (Followed (lines_at PartStage.Faulted p) PartLine.End) (record p { stage = PartStage.Ended }) q e (h, sym (append_assoc (top p) (flat_map loop_lines p.loops) (PartLine.End ∷ [])))
follow_at PartStage.Ended p q l s h f e = cc e

-- a line that may follow comes behind the lines so far
pub follows : (p q : PartProgress) (l : PartLine) → IsProgress p → FitsPartLine l → step p l ≡ Some q → Followed (lines_so_far p) l q
follows p q l h f e = follow_at p.stage p q l refl h f e

-- ---- the lines so far begin some part

abbrev a_column : Column
a_column = record { name = codes "a"; kind = ColType.Int }

abbrev a_digest : List ℕ
a_digest = codes "0000000000000000"

a_digest_is : is_digest a_digest ≡ true
a_digest_is = refl

abbrev small : ℕ → ℕ → ℕ → List ℕ → List Column → PartView
small a b n w cs = record { first_file = a; end_file = b; entries = n; script = w; columns = cs; loops = [] }

small_valid : (a b n : ℕ) (w : List ℕ) (cs : List Column) → a < b → b ≤ 16777216 → n ≤ 1000000 * (b - a) → is_digest w ≡ true → IsHeader cs → list_all (λ (d : Column). is_name d.name) cs ≡ true → IsPart (small a b n w cs)
small_valid a b n w cs l m few d h named = record { files = l; within = m; entries = few; digest = d; header = h; named = named; loops = tt }

lone_header : IsHeader (a_column ∷ [])
lone_header = record { some = omega arith; few = omega arith; distinct = (refl, tt, tt) }

lone_named : list_all (λ (d : Column). is_name d.name) (a_column ∷ []) ≡ true
unfolding is_name
lone_named = refl

-- a part of one column
abbrev lone_part : ℕ → ℕ → ℕ → PartView
lone_part a b n = small a b n a_digest (a_column ∷ [])

lone_valid : (a b n : ℕ) → a < b → b ≤ 16777216 → n ≤ 1000000 * (b - a) → IsPart (lone_part a b n)
lone_valid a b n l m few = small_valid a b n a_digest (a_column ∷ []) l m few a_digest_is lone_header lone_named

begin_columns : (a b n : ℕ) (w : List ℕ) (cs : List Column) → a < b → b ≤ 16777216 → n ≤ 1000000 * (b - a) → is_digest w ≡ true → length cs ≤ 64 → AreColumns [] cs → list_all (λ (d : Column). is_name d.name) cs ≡ true
    → Begins (PartLine.Version ∷ PartLine.Files a b ∷ PartLine.Entries n ∷ PartLine.Script w ∷ map PartLine.Column cs)
begin_columns a b n w [] l m few g short d named = record { part = small a b n w (a_column ∷ []); valid = small_valid a b n w (a_column ∷ []) l m few g lone_header lone_named; more = PartLine.Column a_column ∷ PartLine.End ∷ []; lines = refl }
begin_columns a b n w (x ∷ cs) l m few g short d named =
    let header : IsHeader (x ∷ cs) = record { some = omega arith; few = short; distinct = d } in
    record { part = small a b n w (x ∷ cs); valid = small_valid a b n w (x ∷ cs) l m few g header named; more = PartLine.End ∷ []; lines = refl }

revalid : (p : PartProgress) (loops : List PartLoop) → IsPart (with_loops p []) → FitAll p loops → IsPart (with_loops p loops)
revalid p loops h f = record { files = h.files; within = h.within; entries = h.entries; digest = h.digest; header = h.header; named = h.named; loops = f }

begin_at : (s : PartStage) (p : PartProgress) → Holds s p → Begins (lines_at s p)
begin_at PartStage.First p h = record { part = lone_part 0 1 0; valid = lone_valid 0 1 0 (omega arith) (omega arith) (omega arith); more = part_lines (lone_part 0 1 0); lines = refl }
begin_at PartStage.Files p h =
    record { part = lone_part 0 1 0; valid = lone_valid 0 1 0 (omega arith) (omega arith) (omega arith); more = PartLine.Files 0 1 ∷ PartLine.Entries 0 ∷ PartLine.Script a_digest ∷ PartLine.Column a_column ∷ PartLine.End ∷ []; lines = refl }
begin_at PartStage.Entries p h =
    let had = h.0 in
    record { part = lone_part p.first_file p.end_file 0; valid = lone_valid p.first_file p.end_file 0 had.files had.within (omega arith); more = PartLine.Entries 0 ∷ PartLine.Script a_digest ∷ PartLine.Column a_column ∷ PartLine.End ∷ []; lines = refl }
begin_at PartStage.Script p h =
    let held = h.0 in
    let had = held.0 in
    record { part = lone_part p.first_file p.end_file p.entries; valid = lone_valid p.first_file p.end_file p.entries had.files had.within held.1; more = PartLine.Script a_digest ∷ PartLine.Column a_column ∷ PartLine.End ∷ []; lines = refl }
begin_at PartStage.Columns p h =
    let has = h.0 in
    let had = has.files in
    begin_columns p.first_file p.end_file p.entries p.script p.columns had.files had.within has.entries has.digest has.few has.distinct has.named
begin_at PartStage.Within p h =
    let one : FitsLine (part_limits p.entries) (ShardLine.Count 0) = omega arith in
    let lines = p.lines ++ ShardLine.Count 0 ∷ [] in
    let some : 0 < length lines = omega (arith, length-append p.lines (ShardLine.Count 0 ∷ [])) in
    let loops = p.loops ++ Whole lines ∷ [] in
    let fits = whole_fits p.first_file p.end_file p.entries loops (whole_push p.first_file p.end_file p.entries p.loops lines h.1 some (fits_push (FitsLine (part_limits p.entries)) p.lines (ShardLine.Count 0) h.2 one)) in
    let before = flat_map loop_lines p.loops in
    let more : List PartLine = PartLine.Pass (ShardLine.Count 0) ∷ PartLine.End ∷ [] in
    record {
      part = with_loops p loops;
      valid = revalid p loops h.0 fits;
      more = more;
      lines = closed_lines (top p) p.loops lines (PartLine.End ∷ []) ∙ ap (λ t. (top p ++ (before ++ PartLine.Loop ∷ t)) ++ PartLine.End ∷ []) (map_next PartLine.Pass p.lines (ShardLine.Count 0))
          ∙ ap (λ t. (top p ++ t) ++ PartLine.End ∷ []) (sym (append_assoc before (PartLine.Loop ∷ map PartLine.Pass p.lines) (PartLine.Pass (ShardLine.Count 0) ∷ [])))
          ∙ ap (λ t. t ++ PartLine.End ∷ []) (sym (append_assoc (top p) (before ++ PartLine.Loop ∷ map PartLine.Pass p.lines) (PartLine.Pass (ShardLine.Count 0) ∷ [])))
          ∙ append_assoc (top p ++ (before ++ PartLine.Loop ∷ map PartLine.Pass p.lines)) (PartLine.Pass (ShardLine.Count 0) ∷ []) (PartLine.End ∷ []);
    }
begin_at PartStage.Faulted p h = record { part = part_of p; valid = revalid p p.loops h.0 h.1; more = PartLine.End ∷ []; lines = sym (append_assoc (top p) (flat_map loop_lines p.loops) (PartLine.End ∷ [])) }
begin_at PartStage.Ended p h = record { part = part_of p; valid = revalid p p.loops h.0 h.1; more = []; lines = sym (append-nil (lines_at PartStage.Ended p)) }

pub begins : (p : PartProgress) → IsProgress p → Begins (lines_so_far p)
begins p h = begin_at p.stage p h
