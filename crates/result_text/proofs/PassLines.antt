-- The passes of a graph's loops are those of the script, and their lines.
use Rattle.lemmas.proofs.{◌≡◌, ℕ, zero, suc, ◌+◌, List, [], ◌∷◌, ◌++◌, drop, None, Some, refl, sym, ap, ◌∙◌, append_assoc, append-nil, slice_get, ◌<◌, ◌≤◌, ℤ, pos, length, map, get_or, Option, arith, codes, decimal, flat_map, if◌then◌else◌, Bool, filter, unwrap_or, option_map, ◌^◌, true, false, subst, length-append, All, drop-drop, drop_more, get_or_from_slice_get, slice_get-get_or, slice_get_within, drop_all, signed_decimal, join_with_byte, map-map, same_some, flat_map-map, length-map, mapped_at, slice_get-map, All-append, All-cons, All-nil, All-weaker, cond_both, of_option}
use Rattle.rdf_values.specs.results.Fold.{Cell}
use Rattle.rdf_model.specs.{cell_line, cell_lines, cell_names, cell_names_from, plane_lines, run_text, scalar_text, taken_text, filled_lines, FilterCounts, flow_line, flow_lines, label, loop_passes, loop_results, pass_label}
use Rattle.result_text.specs.{behind, bin_name, line_at, lines_on, name_at, plane_at, planes_on, more_runs, more_taken, run_of, runs_text, acc_lines, flow_at, lines_from, members_from, under_lines, value_lines, passes_at, under_in, booking_text, filled_text, FitsBooking, FitsResult}
use Rattle.friend_join.proofs.JoinedRows.{map_self as map_same}
use Rattle.rdf_values.specs.{Scalar, Span, ActionAt, ActionKind, Booked, Booking, Filled, has_variations, Pass, passes_of, Path, result_depends, Statement, Variation, variations, varied_passes, bookings, Column, FunctionNames, makes, named_before, parent_of, path}
use Rattle.actions.specs.{Accumulator}
use Rattle.loop_pieces.specs.{Counts, FilledResult}
use Rattle.graph_numbers.specs.{booked_statements, graph_results, graph_variations, GraphView, kind_of_booking, result_depends_at, ResultAt, ResultKind, graph_loops, Pass as NumberedPass, pass_at, under_at, covered_at, FilterAt, filters_on, graph_filters, numbers_from, own_filter, results}
use Rattle.graph_numbers.proofs.Placing.{itself, each_result}
use Rattle.graph_numbers.proofs.Covering.{loops_are, booked_are, filters_are}
use Rattle.rdf_values.specs.declared.scripts.statement.Statement.TheVariants.{Filter}
use Rattle.rdf_values.specs.results.Fold as filled

-- ---- the names of an axis's cells, by their places, their lines, and texts with something between

-- no element is at the place
pub none_left : {A : Type 0} (xs : List A) (i : ℕ) → slice_get xs i ≡ None → drop i xs ≡ []
none_left [] zero h = refl
none_left [] (suc i) h = refl
none_left (x ∷ xs) zero h = absurd (cc)
none_left (x ∷ xs) (suc i) h = none_left xs i h

-- the element at the place, and those behind it
pub one_left : {A : Type 0} (xs : List A) (i : ℕ) (x : A) → slice_get xs i ≡ Some x → drop i xs ≡ x ∷ drop (i + 1) xs
one_left xs i x h = drop_more xs i x (slice_get_within xs i x h) ∙ ap (λ y. y ∷ drop (i + 1) xs) (get_or_from_slice_get xs i x x h)

-- one piece of a text is put, and the rest is left
pub put_next : (all text now piece rest left : List ℕ) → text ++ left ≡ all → left ≡ piece ++ rest → now ≡ text ++ piece → now ++ rest ≡ all
put_next all text now piece rest left h e is = ap (λ l. l ++ rest) is ∙ append_assoc text piece rest ∙ sym (ap (λ l. text ++ l) e) ∙ h

-- nothing is left
pub put_last : (all text left : List ℕ) → text ++ left ≡ all → left ≡ [] → text ≡ all
put_last all text left h e = sym (append-nil text) ∙ sym (ap (λ l. text ++ l) e) ∙ h

-- ---- The names of an axis's cells, by their places, and the lines of cells.

from_over : (lo : ℤ) (es : List ℤ) → slice_get (cell_names_from lo es) (length es) ≡ Some (codes "over")
from_over lo [] = refl
from_over lo (hi ∷ es) = from_over hi es

pub last_name : (edges : List ℤ) (i : ℕ) → i ≡ length edges → 0 < i → name_at edges i ≡ Some (codes "over")
last_name edges i e h = grind (arith, from_over)

from_bin : (lo : ℤ) (es : List ℤ) (k : ℕ) → k < length es → slice_get (cell_names_from lo es) k ≡ Some (bin_name (get_or (lo ∷ es) k (pos 0)) (get_or es k (pos 0)))
from_bin lo [] k lt = absurd (omega arith)
from_bin lo (hi ∷ es) zero lt = refl
from_bin lo (hi ∷ es) (suc k) lt = from_bin hi es k (omega arith)

pub bin_at : (edges : List ℤ) (k i : ℕ) → i ≡ k + 1 → i < length edges → name_at edges i ≡ Some (bin_name (get_or edges k (pos 0)) (get_or edges i (pos 0)))
bin_at edges k i e lt = grind (arith, from_bin)

-- none is behind a place that has none
none_behind : (ns : List (List ℕ)) (k : ℕ) → slice_get ns k ≡ None → drop (k + 1) ns ≡ []
none_behind ns k h = sym (drop-drop 1 k ns) ∙ ap (drop 1) (none_left ns k h)

no_lines : (names : List (List ℕ)) → cell_lines names [] ≡ []
no_lines [] = refl
no_lines (n ∷ ns) = refl

-- the lines from a place of the axis on, with a text before each name
pub lines_are : (before : List ℕ) (edges : List ℤ) (i : ℕ) (cells : List Cell) → lines_on before edges i cells ≡ cell_lines (map (λ n. before ++ n) (drop i (cell_names edges))) cells
lines_are before edges i [] = sym (no_lines (map (λ n. before ++ n) (drop i (cell_names edges))))
lines_are before edges i (c ∷ cs) = grind (arith, none_left, none_behind, one_left, lines_are before edges (i + 1) cs)

pub flat_lines : (edges : List ℤ) (cells : List Cell) → lines_on [] edges 0 cells ≡ cell_lines (cell_names edges) cells
flat_lines edges cells = lines_are [] edges 0 cells ∙ ap (λ l. cell_lines l cells) (map_same (cell_names edges))

no_planes : (xs ys : List (List ℕ)) → plane_lines xs ys [] ≡ []
no_planes [] ys = refl
no_planes (x ∷ xs) ys = refl

pub planes_are : (xs ys : List ℤ) (i : ℕ) (rows : List (List Cell)) → planes_on xs ys i rows ≡ plane_lines (drop i (cell_names xs)) (cell_names ys) rows
planes_are xs ys i [] = sym (no_planes (drop i (cell_names xs)) (cell_names ys))
planes_are xs ys i (row ∷ rows) = grind (arith, none_behind, none_left, lines_are, one_left, planes_are xs ys (i + 1) rows)

-- ---- one line

past_names : (lo : ℤ) (es : List ℤ) (k : ℕ) → length es < k → slice_get (cell_names_from lo es) k ≡ None
past_names lo [] zero lt = absurd (omega arith)
past_names lo [] (suc k) lt = refl
past_names lo (hi ∷ es) zero lt = absurd (omega arith)
past_names lo (hi ∷ es) (suc k) lt = past_names hi es k (omega arith)

no_name : (edges : List ℤ) (i : ℕ) → length edges < i → name_at edges i ≡ None
no_name edges i lt = grind (arith, past_names)

pub no_line : (before : List ℕ) (edges : List ℤ) (i : ℕ) (c : Cell) → length edges < i → line_at before edges i c ≡ []
no_line before edges i c lt = ap (λ (o : Option (List ℕ)). elim o [ None ↦ [] | Some name ↦ cell_line (before ++ name) c ]) (no_name edges i lt)

pub no_plane : (xs ys : List ℤ) (i : ℕ) (row : List Cell) → length xs < i → plane_at xs ys i row ≡ []
no_plane xs ys i row lt = ap (λ (o : Option (List ℕ)). elim o [ None ↦ [] | Some name ↦ lines_on (name ++ codes " ") ys 0 row ]) (no_name xs i lt)

pub cell_put : (text before : List ℕ) (edges : List ℤ) (i : ℕ) (c : Cell) (t1 t2 t3 t4 t5 t6 t7 t8 : List ℕ) → t1 ≡ text ++ codes "  " → t2 ≡ t1 ++ before → Some t3 ≡ behind t2 (name_at edges i)
    → t4 ≡ t3 ++ codes " " → t5 ≡ t4 ++ signed_decimal c.sum → t6 ≡ t5 ++ codes " " → t7 ≡ t6 ++ signed_decimal c.squares → t8 ≡ t7 ++ 10 ∷ [] → t8 ≡ text ++ line_at before edges i c
cell_put text before edges i c t1 t2 t3 t4 t5 t6 t7 t8 e1 e2 e3 e4 e5 e6 e7 e8 = go (name_at edges i) e3
  where
    go : (o : Option (List ℕ)) → Some t3 ≡ behind t2 o → t8 ≡ text ++ (elim o [ None ↦ [] | Some name ↦ cell_line (before ++ name) c ])
    go None h = absurd (cc)
    go (Some n) h =
        e8 ∙ ap (λ l. l ++ 10 ∷ [])
        (e7 ∙ ap (λ l. l ++ signed_decimal c.squares) (e6 ∙ ap (λ l. l ++ codes " ") (e5 ∙ ap (λ l. l ++ signed_decimal c.sum) (e4 ∙ ap (λ l. l ++ codes " ") (same_some h ∙ ap (λ l. l ++ n) (e2 ∙ ap (λ l. l ++ before) e1))))))
        ∙ simp append_assoc

pub plane_put : (xs ys : List ℤ) (i : ℕ) (row : List Cell) (text b0 b1 b2 b3 now : List ℕ) → b0 ≡ [] → Some b1 ≡ behind b0 (name_at xs i) → b2 ≡ b1 ++ codes " " → b3 ≡ b2
    → now ≡ text ++ lines_on b3 ys 0 row → now ≡ text ++ plane_at xs ys i row
plane_put xs ys i row text b0 b1 b2 b3 now e0 e1 e2 e3 e = grind (arith, same_some)

-- ---- turns

pub line_next : (before text now all : List ℕ) (edges : List ℤ) (i : ℕ) (cells : List Cell) (c : Cell) → text ++ lines_on before edges i (drop i cells) ≡ all → slice_get cells i ≡ Some c → now ≡ text ++ line_at before edges i c
    → now ++ lines_on before edges (i + 1) (drop (i + 1) cells) ≡ all
line_next before text now all edges i cells c h at is =
    put_next all text now (line_at before edges i c) (lines_on before edges (i + 1) (drop (i + 1) cells)) (lines_on before edges i (drop i cells)) h (ap (lines_on before edges i) (one_left cells i c at)) is

pub line_last : (before text all : List ℕ) (edges : List ℤ) (i : ℕ) (cells : List Cell) → text ++ lines_on before edges i (drop i cells) ≡ all → length cells ≤ i → text ≡ all
line_last before text all edges i cells h le = put_last all text (lines_on before edges i (drop i cells)) h (ap (lines_on before edges i) (drop_all i cells le))

-- ---- Texts with something between each two.

-- the first, and then each of the others behind a byte
pub joined_front : {A : Type 0} (c : ℕ) (f : A → List ℕ) (x : A) (xs : List A) → join_with_byte c (map f (x ∷ xs)) ≡ f x ++ flat_map (λ y. c ∷ f y) xs
joined_front c f x [] = sym (append-nil (f x))
joined_front c f x (y ∷ ys) = ap (λ l. f x ++ (c ∷ l)) (joined_front c f y ys)

pub runs_front : (r : Span) (rs : List Span) → runs_text (r ∷ rs) ≡ run_text (run_of r) ++ more_runs rs
runs_front r rs = ap (join_with_byte 44) (map-map run_text run_of (r ∷ rs)) ∙ joined_front 44 (λ (s : Span). run_text (run_of s)) r rs

pub taken_next : (text t1 now all : List ℕ) (xs : List Scalar) (i : ℕ) (x : Scalar) → text ++ more_taken (drop i xs) ≡ all → slice_get xs i ≡ Some x → t1 ≡ text ++ 32 ∷ [] → now ≡ t1 ++ scalar_text x → now ++ more_taken (drop (i + 1) xs) ≡ all
taken_next text t1 now all xs i x h at e is =
    put_next all text now (32 ∷ scalar_text x) (more_taken (drop (i + 1) xs)) (more_taken (drop i xs)) h (ap more_taken (one_left xs i x at)) (is ∙ ap (λ l. l ++ scalar_text x) e ∙ append_assoc text (32 ∷ []) (scalar_text x))

pub taken_front : (xs : List Scalar) (x : Scalar) → slice_get xs 0 ≡ Some x → taken_text xs ≡ scalar_text x ++ more_taken (drop 1 xs)
taken_front [] x at = absurd (cc)
taken_front (y ∷ ys) x at = joined_front 32 scalar_text y ys ∙ ap (λ z. scalar_text z ++ more_taken ys) (same_some at)

-- the line of a fault, put piece by piece
pub fault_put : (text l shown kind bytes : List ℕ) (entry : ℕ) (t1 t2 t3 t4 t5 t6 t7 : List ℕ) → t1 ≡ text ++ codes "fault at entry " → t2 ≡ t1 ++ decimal entry → t3 ≡ t2 ++ codes " in " → t4 ≡ t3 ++ l → l ≡ shown
    → t5 ≡ t4 ++ codes ": " → t6 ≡ t5 ++ bytes → bytes ≡ kind → t7 ≡ t6 ++ 10 ∷ []
    → t7 ≡ text ++ (codes "fault at entry " ++ decimal entry ++ codes " in " ++ shown ++ codes ": " ++ kind ++ 10 ∷ [])
fault_put text l shown kind bytes entry t1 t2 t3 t4 t5 t6 t7 e1 e2 e3 e4 e e5 e6 k e7 =
    e7 ∙ ap (λ t. t ++ 10 ∷ []) (e6 ∙ ap (λ b. t5 ++ b) k ∙ ap (λ t. t ++ kind) (e5 ∙ ap (λ t. t ++ codes ": ") (e4 ∙ ap (λ b. t3 ++ b) e ∙ ap (λ t. t ++ shown) (e3 ∙ ap (λ t. t ++ codes " in ") (e2 ∙ ap (λ t. t ++ decimal entry) e1)))))
    ∙ front text (codes "fault at entry ") (decimal entry) (codes " in ") shown (codes ": ") kind
  where
    front : (a b d f g h i : List ℕ) → a ++ b ++ d ++ f ++ g ++ h ++ i ++ 10 ∷ [] ≡ a ++ (b ++ d ++ f ++ g ++ h ++ i ++ 10 ∷ [])
    front a b d f g h i = simp append_assoc

behind_line : (a b c : List ℕ) → ((a ++ b) ++ 10 ∷ []) ++ c ≡ a ++ ((b ++ 10 ∷ []) ++ c)
behind_line a b c = ap (λ x. x ++ c) (append_assoc a b (10 ∷ [])) ∙ append_assoc a (b ++ 10 ∷ []) c

-- the label and the equals sign, and then what the action holds
pub filled_is : (k : ActionKind) (l : List ℕ) (f : Filled) → filled_lines k l f ≡ (l ++ codes " = ") ++ value_lines k f
filled_is k l (filled.Count n) = append_assoc (l ++ codes " = ") _ (10 ∷ [])
filled_is k l (filled.Sum z) = append_assoc (l ++ codes " = ") _ (10 ∷ [])
filled_is k l (filled.Extreme z) = append_assoc (l ++ codes " = ") _ (10 ∷ [])
filled_is k l (filled.Taken xs) = append_assoc (l ++ codes " = ") _ (10 ∷ [])
filled_is k l (filled.Reduced z) = append_assoc (l ++ codes " = ") _ (10 ∷ [])
filled_is k l (filled.Flat cells) = behind_line (l ++ codes " = ") _ _
filled_is k l (filled.Square cells) = behind_line (l ++ codes " = ") _ _

-- ---- passes under variations

pub varied_lines : (b : Booked) (k : ActionKind) (accs : List Accumulator) (n : ℕ) (vs : List Variation)
    → lines_from k accs n (map (λ v. record { result = b; under = Some v }) vs) ≡ under_lines b.name k accs n vs
varied_lines b k accs n [] = refl
varied_lines b k accs n (v ∷ vs) = ap (λ l. acc_lines k (label b.name (Some v)) (slice_get accs n) ++ l) (varied_lines b k accs (n + 1) vs)

pub members_are : (test : Variation → Bool) (at : ℕ → Bool) (vs : List Variation) (n : ℕ) → ((i : ℕ) (v : Variation) → slice_get vs i ≡ Some v → at (n + i) ≡ test v) → members_from at n vs ≡ filter test vs
members_are test at [] n h = refl
members_are test at (v ∷ vs) n h =
    let here : at n ≡ test v = (let e : n ≡ n + 0 = omega arith in ap at e) ∙ h 0 v refl in
    let rest = members_are test at vs (n + 1) (λ i w there. (let e : (n + 1) + i ≡ n + suc i = omega arith in ap at e) ∙ h (suc i) w there) in
    ap (λ (b : Bool). if b then v ∷ members_from at (n + 1) vs else members_from at (n + 1) vs) here ∙ ap (λ l. if test v then v ∷ l else l) rest

-- the variations on which the graph says that a result depends
pub depends_are : (g : GraphView) (r : ℕ) (x : ResultAt) (at : ℕ → Bool) → slice_get (graph_results g) r ≡ Some x → ((v : ℕ) → at v ≡ result_depends_at g r v)
    → members_from at 0 (graph_variations g) ≡ filter (λ v. result_depends v x.booked.booking) (variations (booked_statements g))
depends_are g r x at its h = grind (arith, members_are)

-- ---- results

pub action_booking : (b : Booking) (k : ActionKind) → kind_of_booking b ≡ ResultKind.Action k → (at : Path) × (b ≡ ActionAt k at)
action_booking b k e = grind arith

-- the passes of a result behind the nominal one
pub passes_are : (script : List Statement) (b : Booked) (k : ActionKind) (accs : List Accumulator) (n : ℕ) (vs : List Variation)
    → vs ≡ filter (λ v. result_depends v b.booking) (variations script) → 1 < length (passes_of script b)
    → (lines_from k accs n (passes_of script b) ≡ acc_lines k (label b.name None) (slice_get accs n) ++ under_lines b.name k accs (n + 1) vs) × (length (passes_of script b) ≡ length vs + 1)
passes_are script b k accs n vs is more = grind (arith, varied_lines, length-map)

pub nominal_alone : (script : List Statement) (b : Booked) (k : ActionKind) (accs : List Accumulator) (n : ℕ) → length (passes_of script b) ≡ 1 → lines_from k accs n (passes_of script b) ≡ acc_lines k (label b.name None) (slice_get accs n)
nominal_alone script b k accs n one = go (if has_variations script b.name then varied_passes script b else []) one
  where
    go : (ps : List Pass) → suc (length ps) ≡ 1 → acc_lines k (label b.name None) (slice_get accs n) ++ lines_from k accs (n + 1) ps ≡ acc_lines k (label b.name None) (slice_get accs n)
    go [] e = append-nil (acc_lines k (label b.name None) (slice_get accs n))
    go (p ∷ ps) e = absurd (omega arith)

-- ---- reports

pub flows_are : (g : GraphView) (flow : List Counts) (name : List ℕ) (f : ℕ) (fs : List ℕ)
    → flow_lines name (map (flow_at g flow) (f ∷ fs)) ≡ flat_map (λ h. flow_line name (flow_at g flow f).1.all (flow_at g flow h).0 (flow_at g flow h).1) (f ∷ fs)
flows_are g flow name f fs = flat_map-map (λ (x : List ℕ × FilterCounts). flow_line name (flow_at g flow f).1.all x.0 x.1) (flow_at g flow) (f ∷ fs)

pub report_lines : (g : GraphView) (flow : List Counts) (name : List ℕ) (f : ℕ) (fs covered : List ℕ) (counts : Counts) → covered ≡ f ∷ fs → slice_get flow f ≡ Some counts
    → flat_map (λ h. flow_line name counts.all (flow_at g flow h).0 (flow_at g flow h).1) covered ≡ flow_lines name (map (flow_at g flow) covered)
report_lines g flow name f fs covered counts is there =
    let reached : (flow_at g flow f).1.all ≡ counts.all = ap (λ (o : Option Counts). (unwrap_or o (record { all = 0; pass = 0 })).all) there in
    ap (flat_map (λ h. flow_line name counts.all (flow_at g flow h).0 (flow_at g flow h).1)) is
    ∙ ap (λ (n : ℕ). flat_map (λ h. flow_line name n (flow_at g flow h).0 (flow_at g flow h).1) (f ∷ fs)) (sym reached)
    ∙ sym (flows_are g flow name f fs) ∙ sym (ap (λ l. flow_lines name (map (flow_at g flow) l)) is)

-- ---- The passes of a graph's loops are those of the script.

module _ (g : GraphView) where
  -- the result and the variation of a numbered pass, which is the pass of that place in the script's loop
  pub record IsPassAt (l n : ℕ) (p : NumberedPass) : Type 0 where
    pub booked : Booked
    pub its_result : slice_get (bookings (booked_statements g)) p.result ≡ Some booked
    pub its_pass : slice_get (passes_at g l) n ≡ Some (record { result = booked; under = under_at (booked_statements g) p.variation })

  pub is_pass_at : (l n : ℕ) (ps : List NumberedPass) (p : NumberedPass) → slice_get (graph_loops g) l ≡ Some ps → slice_get ps n ≡ Some p → IsPassAt l n p
  is_pass_at l n ps p loop at =
      let s = booked_statements g in
      let named : List Booked → List (Option Pass) = λ rs. map (λ (q : Pass). Some q) (loop_passes s rs) in
      let results = of_option named (slice_get (loop_results s) l) (map (pass_at s) ps)
      (sym (slice_get-map named (loop_results s) l) ∙ ap (λ ls. slice_get ls l) (sym (loops_are s s itself)) ∙ mapped_at (map (pass_at s)) (graph_loops g) l ps loop) in
      let pass = of_option (λ (q : Pass). Some q) (slice_get (loop_passes s results.0) n) (pass_at s p)
      (sym (slice_get-map (λ (q : Pass). Some q) (loop_passes s results.0) n) ∙ ap (λ qs. slice_get qs n) results.2 ∙ mapped_at (pass_at s) ps n p at) in
      let booked = of_option (λ (b : Booked). record { result = b; under = under_at s p.variation }) (slice_get (bookings s) p.result) pass.0 (sym pass.2) in
      record {
        booked = booked.0;
        its_result = booked.1;
        its_pass = ap (λ (r : Option (List Booked)). slice_get (loop_passes s (unwrap_or r [])) n) results.1 ∙ pass.1 ∙ ap (λ (q : Pass). Some q) (sym booked.2);
      }

  pub result_within : (l n : ℕ) (p : NumberedPass) → IsPassAt l n p → p.result < length (graph_results g)
  result_within l n p is =
      let within = slice_get_within (bookings (booked_statements g)) p.result is.booked is.its_result in
      let same = ap length (booked_are g.header g.names (booked_statements g)) in
      omega (arith, length-map (graph_results g) (λ (r : ResultAt). r.booked))

  -- the name that the graph has for the result is that of what was booked
  pub name_is : (r : ℕ) (b : Booked) (name : List ℕ) → slice_get (bookings (booked_statements g)) r ≡ Some b → option_map (λ (x : ResultAt). x.booked.name) (slice_get (graph_results g) r) ≡ Some name → name ≡ b.name
  name_is r b name its named =
      let row = of_option (λ (x : ResultAt). x.booked) (slice_get (graph_results g) r) b
      (sym (slice_get-map (λ (x : ResultAt). x.booked) (graph_results g) r) ∙ ap (λ (bs : List Booked). slice_get bs r) (booked_are g.header g.names (booked_statements g)) ∙ its) in
      same_some (sym named ∙ ap (option_map (λ (x : ResultAt). x.booked.name)) row.1) ∙ ap (λ (y : Booked). y.name) row.2

  under_is : (v : Option ℕ) → under_in (graph_variations g) v ≡ under_at (booked_statements g) v
  under_is v = grind arith

  -- the label of a pass by the numbers of its loop and place
  pub label_is : (l n : ℕ) (p : NumberedPass) (name : List ℕ) → IsPassAt l n p → option_map (λ (x : ResultAt). x.booked.name) (slice_get (graph_results g) p.result) ≡ Some name
      → label name (under_in (graph_variations g) p.variation) ≡ pass_label (slice_get (passes_at g l) n)
  label_is l n p name is named = grind (arith, name_is, under_is)

pub pass_there : (ps : List NumberedPass) (n : ℕ) (d : NumberedPass) → n < length ps → slice_get ps n ≡ Some (get_or ps n d)
pass_there ps n d lt = slice_get-get_or ps n d lt

-- ---- The lines of the passes of an action: members

pub members_yes : (at : ℕ → Bool) (vs : List Variation) (v : ℕ) (x : Variation) → slice_get vs v ≡ Some x → at v ≡ true → members_from at v (drop v vs) ≡ x ∷ members_from at (v + 1) (drop (v + 1) vs)
members_yes at vs v x there member = grind (arith, one_left)

pub members_no : (at : ℕ → Bool) (vs : List Variation) (v : ℕ) (x : Variation) → slice_get vs v ≡ Some x → at v ≡ false → members_from at v (drop v vs) ≡ members_from at (v + 1) (drop (v + 1) vs)
members_no at vs v x there other = grind (arith, one_left)

pub members_few : (at : ℕ → Bool) (vs : List Variation) (n : ℕ) → length (members_from at n vs) ≤ length vs
members_few at [] n = omega arith
members_few at (v ∷ vs) n = grind (arith, members_few at vs (n + 1))

-- one pass under a variation is put
pub varied_next : (text now all name : List ℕ) (k : ActionKind) (accs : List Accumulator) (first p q v : ℕ) (vs ms rest : List Variation) (x : Variation) (acc : Accumulator)
    → text ++ under_lines name k accs (first + p) ms ≡ all → ms ≡ x ∷ rest → slice_get vs v ≡ Some x → slice_get accs (first + p) ≡ Some acc → q ≡ p + 1
    → now ≡ text ++ filled_lines k (label name (under_in vs (Some v))) acc.filled → now ++ under_lines name k accs (first + q) rest ≡ all
varied_next text now all name k accs first p q v vs ms rest x acc h is there acc_there next put =
    let further : first + p + 1 ≡ first + q = omega arith in
    put_next all text now (filled_lines k (label name (Some x)) acc.filled) (under_lines name k accs (first + q) rest) (under_lines name k accs (first + p) ms) h
    (ap (under_lines name k accs (first + p)) is ∙ ap (λ (o : Option Accumulator). acc_lines k (label name (Some x)) o ++ under_lines name k accs (first + p + 1) rest) acc_there ∙ ap (λ n. filled_lines k (label name (Some x)) acc.filled ++ under_lines name k accs n rest) further)
    (put ∙ ap (λ u. text ++ filled_lines k (label name u) acc.filled) there)

-- ---- a result that is an action

module _ (g : GraphView) (x : ResultAt) (filled : FilledResult) (k : ActionKind) (action : kind_of_booking x.booked.booking ≡ ResultKind.Action k) (fits : FitsResult g x filled) where
  fit : FitsBooking g x filled (ActionAt k (action_booking x.booked.booking k action).0)
  fit = subst (FitsBooking g x filled) (action_booking x.booked.booking k action).1 fits

  pub passes_many : filled.passes ≡ length (passes_of (booked_statements g) x.booked)
  passes_many = fit.0

  pub numbers_few : filled.first + filled.passes ≤ 2 ^ 32
  numbers_few = fit.1

  pub accs_within : (i : ℕ) → i < filled.passes → filled.first + i < length filled.piece.now.accs.items
  accs_within i lt = grind (arith, slice_get_within, length-map)

  text_is : filled_text g x filled ≡ booking_text g x filled (ActionAt k (action_booking x.booked.booking k action).0)
  text_is = ap (booking_text g x filled) (action_booking x.booked.booking k action).1

  pub nominal_text : (acc : Accumulator) → slice_get filled.piece.now.accs.items filled.first ≡ Some acc → filled.passes ≡ 1 → filled_text g x filled ≡ filled_lines k (label x.booked.name None) acc.filled
  nominal_text acc there one = grind (arith, text_is, nominal_alone, passes_many)

  module _ (r : ℕ) (at : ℕ → Bool) (its : slice_get (graph_results g) r ≡ Some x) (depends : (v : ℕ) → at v ≡ result_depends_at g r v) (several : 1 < filled.passes) where
    pub members_many : filled.passes ≡ length (members_from at 0 (graph_variations g)) + 1
    members_many = passes_many ∙ (passes_are (booked_statements g) x.booked k filled.piece.now.accs.items filled.first (members_from at 0 (graph_variations g)) (depends_are g r x at its depends) (subst (λ (n : ℕ). 1 < n) passes_many several)).1

    pub varied_text : (acc : Accumulator) → slice_get filled.piece.now.accs.items filled.first ≡ Some acc
        → filled_text g x filled ≡ filled_lines k (label x.booked.name None) acc.filled ++ under_lines x.booked.name k filled.piece.now.accs.items (filled.first + 1) (members_from at 0 (graph_variations g))
    varied_text acc there =
        text_is ∙ (passes_are (booked_statements g) x.booked k filled.piece.now.accs.items filled.first (members_from at 0 (graph_variations g)) (depends_are g r x at its depends) (subst (λ (n : ℕ). 1 < n) passes_many several)).0 ∙ ap (λ (o : Option Accumulator). acc_lines k (label x.booked.name None) o ++ under_lines x.booked.name k filled.piece.now.accs.items (filled.first + 1) (members_from at 0 (graph_variations g))) there

-- the name that the graph has for a result
pub its_name : (results : List ResultAt) (r : ℕ) (x : ResultAt) (name : List ℕ) → slice_get results r ≡ Some x → option_map (λ (y : ResultAt). y.booked.name) (slice_get results r) ≡ Some name → name ≡ x.booked.name
its_name results r x name at named = same_some (sym named ∙ ap (option_map (λ (y : ResultAt). y.booked.name)) at)

-- the filters that the graph has for a report
pub its_covers : (results : List ResultAt) (r : ℕ) (x : ResultAt) (covers : List ℕ) → slice_get results r ≡ Some x → option_map (λ (y : ResultAt). y.covers) (slice_get results r) ≡ Some covers → covers ≡ x.covers
its_covers results r x covers at named = same_some (sym named ∙ ap (option_map (λ (y : ResultAt). y.covers)) at)

-- nothing is put of a variation that isn't a member
pub stays : (now text all name : List ℕ) (k : ActionKind) (accs : List Accumulator) (first q p : ℕ) (ms rest : List Variation) → now ≡ text → q ≡ p → ms ≡ rest → text ++ under_lines name k accs (first + p) ms ≡ all → now ++ under_lines name k accs (first + q) rest ≡ all
stays now text all name k accs first q p ms rest same_text same_place same_members h = grind arith

-- ---- the filters that a report covers are named filters of the script

abbrev Below : ℕ → List ℕ → Type 0
Below n xs = All (λ x. x < n) xs

below_more : (m n : ℕ) (xs : List ℕ) → m ≤ n → Below m xs → Below n xs
below_more m n xs le h = All-weaker (λ x. x < m) (λ x. x < n) (λ x lt. omega arith) xs h

numbers_below : {A : Type 0} (n top : ℕ) (xs : List A) → n + length xs ≤ top → Below top (numbers_from n xs)
numbers_below n top [] le = All-nil (λ k. k < top)
numbers_below n top (x ∷ xs) le = All-cons (λ k. k < top) n (numbers_from (suc n) xs) (omega arith) (numbers_below (suc n) top xs (omega arith))

more_named : (s : Statement) (before : List Statement) → length (named_before before) ≤ length (named_before (s ∷ before))
more_named (Filter node parent expr (Some label)) before = omega (arith, length-append (named_before before) ((Filter node parent expr (Some label) ∷ path before parent) ∷ []))
more_named (Filter node parent expr None) before = omega arith
more_named s before = omega arith

own_below : (s : Statement) (before : List Statement) → Below (length (named_before (s ∷ before))) (own_filter s (length (named_before before)))
own_below (Filter node parent expr (Some label)) before =
    let named = length-append (named_before before) ((Filter node parent expr (Some label) ∷ path before parent) ∷ []) in
    All-cons (λ k. k < length (named_before (Filter node parent expr (Some label) ∷ before))) (length (named_before before)) [] (omega (arith, named)) (All-nil (λ k. k < length (named_before (Filter node parent expr (Some label) ∷ before))))
own_below s before = All-nil (λ k. k < length (named_before (s ∷ before)))

on_below : (before : List Statement) (node : List ℕ) → Below (length (named_before before)) (filters_on before node)
on_below [] node = All-nil (λ k. k < 0)
on_below (s ∷ before) node =
    let top = length (named_before (s ∷ before)) in
    let up = below_more (length (named_before before)) top (filters_on before (parent_of s)) (more_named s before) (on_below before (parent_of s)) in
    let rest = below_more (length (named_before before)) top (filters_on before node) (more_named s before) (on_below before node) in
    cond_both (makes s node) _ _ (Below top) (λ _. All-append (λ k. k < top) (filters_on before (parent_of s)) (own_filter s (length (named_before before))) up (own_below s before)) (λ _. rest)

covered_below : (before : List Statement) (node : List ℕ) → Below (length (named_before before)) (covered_at before node)
covered_below before node = grind (arith, on_below, numbers_below)

covers_below : (header : List Column) (names : FunctionNames) (before : List Statement) (r : ℕ) (x : ResultAt) → slice_get (results header names before) r ≡ Some x → Below (length (named_before before)) x.covers
covers_below header names = each_result header names (λ upto x. Below (length (named_before upto)) x.covers)
    (λ upto s x h. below_more (length (named_before upto)) (length (named_before (s ∷ upto))) x.covers (more_named s upto) h)
    (λ upto result parent k. All-nil (λ f. f < length (named_before upto))) (λ upto result parent. covered_below upto parent)

pub covers_within : (g : GraphView) (r : ℕ) (x : ResultAt) → slice_get (graph_results g) r ≡ Some x → All (λ f. f < length (graph_filters g)) x.covers
covers_within g r x at =
    let many = sym (length-map (graph_filters g) (λ (f : FilterAt). f.at)) ∙ ap (λ (l : List Path). length l) (filters_are g.header g.names (booked_statements g)) in
    below_more (length (named_before (booked_statements g))) (length (graph_filters g)) x.covers (omega (arith, many)) (covers_below g.header g.names (booked_statements g) r x at)
