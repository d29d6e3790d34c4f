use Rattle.lemmas.proofs.{◌≡◌, ◌≤◌, ◌<◌, ◌-◌, ◌++◌, ◌∷◌, length, replicate, take, drop, List, Some, ap, ◌∙◌, arith, refl, sym, subst, ℕ, length-map, slice_get_read, take_all}
use Rattle.std.specs.List.{position}
use Rattle.rdf_values.specs.{Booked, bookings, Line, place, same}
use Rattle.rdf_values.specs.declared.scripts.statement.Statement.TheVariants.{Print}
use Rattle.rdf_model.specs.{accesses}
use Rattle.rdf_model.proofs.Accepted.{place_within}
use Rattle.graph.specs.{AreLoops, AreLoopsOf, AreRowsOf, BeginsWith, history, passes_of_rows, statements}
use Rattle.graph.specs.declared.before.Before.{Before}
use Rattle.graph.specs.declared.loops.LoopTables.{LoopTables}
use Rattle.graph.specs.declared.tables.ResultRow.{ResultRow}
use Rattle.graph.proofs.Walking.{place_is}
use Rattle.graph.proofs.Looped.{noted, open_passes, own_place, place_of_row, print_again, print_fills, print_no_row}
use Rattle.graph.proofs.Finished.{print_bounds, rows_are}
use Rattle.graph.proofs.loops.LoopTables.add_print.Goals as goal
use Rattle.graph.proofs.loops.LoopTables.add_print.Goals.{then-n-filled+in_ok-push_passes+in_ok-push+in_ok-resize, else-n-filled}

-- the rows as they are read, and where a Print looks
module _ (script : Before) (rows : List ResultRow) (same_rows : rows ≡ script.tables.now.results.items) where
  rows_there : AreRowsOf (history script) (bookings (history script)) rows
  rows_there = subst (λ (xs : List ResultRow). AreRowsOf (history script) (bookings (history script)) xs) (sym same_rows) (rows_are script.header.now script.names.now (history script) script.tables.now script.are)

  number_is : (name : List ℕ) (n : ℕ) → Some n ≡ position (λ (r : ResultRow). same r.name name) rows → place (λ (b : Booked). same b.name name) (bookings (history script)) ≡ Some n
  number_is name n h = sym (place_of_row (history script) _ rows name rows_there) ∙ sym (h ∙ place_is _ rows)

  bounds : (before : List Line) (t : LoopTables) → AreLoops (history script) (statements before) t → BeginsWith (history script) (statements before) → length before ≤ 256
      → (length t.fillers.items ≤ length (bookings (statements before))) × (length (bookings (statements before)) ≤ length rows) × (length rows ≤ 256) × (length t.loops.items ≤ 256)
  bounds before t h begins few =
      let b = print_bounds script.header.now script.names.now (history script) (statements before) script.tables.now t script.are h begins in
      let r = ap length same_rows in let all = script.few in let n = length-map script.lines.now (λ (l : Line). l.statement) in let m = length-map before (λ (l : Line). l.statement) in
      (b.0, omega (arith, b.1, r), omega (arith, b.2, r, all, n), omega (arith, b.4, m, few))

pub unreachable-requires : goal.unreachable-requires
unreachable-requires c =
    print_no_row (history c.args.script.now) (statements c.args.before.now) c.args.name.now c.as_slice-results.result.now c.requires.named.0 c.requires.begins
    (rows_there c.args.script.now c.as_slice-results.result.now c.as_slice-results.ensures.value) (c.in_default.ensures.value ∙ place_is _ c.as_slice-results.result.now)

pub slice_bounds-open-count : goal.slice_bounds-open-count
slice_bounds-open-count c =
    let b = bounds c.args.script.now _ c.as_slice-results.ensures.value c.args.before.now c.args.self.now c.requires.old c.requires.begins c.requires.lines in
    let v = c.args.self.now.fillers.ok.0 in let l = c.len-filled.ensures in let k = c.result_count-booked.ensures.value in omega (arith, v, l, k, b.0)

pub slice_bounds-open-start : goal.slice_bounds-open-start
slice_bounds-open-start c =
    let b = bounds c.args.script.now _ c.as_slice-results.ensures.value c.args.before.now c.args.self.now c.requires.old c.requires.begins c.requires.lines in
    let v = c.args.self.now.fillers.ok.0 in let l = c.len-filled.ensures in let k = c.result_count-booked.ensures.value in
    let le : c.len-filled.result ≤ c.result_count-booked.result = omega (arith, v, l, k, b.0) in le

pub slice_bounds-open-end : goal.slice_bounds-open-end
slice_bounds-open-end c =
    let b = bounds c.args.script.now _ c.as_slice-results.ensures.value c.args.before.now c.args.self.now c.requires.old c.requires.begins c.requires.lines in
    let k = c.result_count-booked.ensures.value in
    let le : c.result_count-booked.result ≤ length c.as_slice-results.result.now = omega (arith, k, b.1) in le

pub overflow_cast-filled : goal.overflow_cast-filled
overflow_cast-filled c =
    let b = bounds c.args.script.now _ c.as_slice-results.ensures.value c.args.before.now c.args.self.now c.requires.old c.requires.begins c.requires.lines in
    let v = c.args.self.now.fillers.ok.0 in let l = c.len-filled.ensures in omega (arith, v, l, b.0, b.1, b.2)

pub push_passes-requires-clause-room : goal.push_passes-requires-clause-room
push_passes-requires-clause-room c =
    let b = bounds c.args.script.now _ c.as_slice-results.ensures.value c.args.before.now c.args.self.now c.requires.old c.requires.begins c.requires.lines in
    let v = c.args.self.now.fillers.ok.0 in let l = c.len-filled.ensures in let k = c.result_count-booked.ensures.value in grind (arith, b, v, l, k)

pub overflow_cast-place : goal.overflow_cast-place
overflow_cast-place c =
    let b = bounds c.args.script.now _ c.as_slice-results.ensures.value c.args.before.now c.args.self.now c.requires.old c.requires.begins c.requires.lines in
    let v = c.args.self.now.loops.ok.0 in let l = c.len-place.ensures in omega (arith, v, l, b.3)

pub overflow_cast-n : goal.overflow_cast-n
overflow_cast-n c =
    let b = bounds c.args.script.now _ c.as_slice-results.ensures.value c.args.before.now c.args.self.now c.requires.old c.requires.begins c.requires.lines in
    let w = c.in-Some.ensures.within in omega (arith, w, b.2)

pub index-requires : goal.index-requires
index-requires c =
    let number = number_is c.args.script.now _ c.as_slice-results.ensures.value c.args.name.now c.in-Some.n c.in-Some.ensures.value in
    let below = place_within _ (bookings (statements c.args.before.now)) c.in-Some.n (own_place (history c.args.script.now) (statements c.args.before.now) c.args.name.now c.requires.named.0 c.requires.begins c.in-Some.n number) in
    elim c.if-n-filled.branch [
      | then-n-filled+in_ok-push_passes+in_ok-push+in_ok-resize w ↦ let k = w.result_count-booked.ensures.value in let l = w.in_ok-resize.ensures.len in rw w.self-is (omega (arith, below, k, l))
      | else-n-filled w ↦ let l = c.len-filled.ensures in let lt = w.if-n-filled.false in rw w.self-is (omega (arith, l, lt))
    ]

pub returns : goal.returns
returns c =
    let number = number_is c.args.script.now _ c.as_slice-results.ensures.value c.args.name.now c.in-Some.n c.in-Some.ensures.value in
    let old = c.args.self.now in
    let l : c.len-filled.result ≡ length old.fillers.items = let v = old.fillers.ok.0 in let m = c.len-filled.ensures in omega (arith, v, m) in
    let below = place_within _ (bookings (statements c.args.before.now)) c.in-Some.n (own_place (history c.args.script.now) (statements c.args.before.now) c.args.name.now c.requires.named.0 c.requires.begins c.in-Some.n number) in
    let within : c.in-Some.n < length c.if-n-filled.self.fillers.items =
    elim c.if-n-filled.branch [
      | then-n-filled+in_ok-push_passes+in_ok-push+in_ok-resize w ↦ let k = w.result_count-booked.ensures.value in let m = w.in_ok-resize.ensures.len in let v = w.resize.new.self.ok.0 in rw w.self-is (omega (arith, below, k, m, v))
      | else-n-filled w ↦ let lt = w.if-n-filled.false in rw w.self-is (omega (arith, l, lt))
    ] in
    let now : AreLoopsOf (history c.args.script.now) (Print c.args.name.now ∷ statements c.args.before.now) (accesses (statements c.args.before.now)) c.if-n-filled.self =
    elim c.if-n-filled.branch [
      | then-n-filled+in_ok-push_passes+in_ok-push+in_ok-resize w ↦
          let k = w.result_count-booked.ensures.value in
          let few : length old.fillers.items ≤ w.result_count-booked.result =
          let b = bounds c.args.script.now _ c.as_slice-results.ensures.value c.args.before.now old c.requires.old c.requires.begins c.requires.lines in omega (arith, b.0, k) in
          let waits = λ (count : ℕ). passes_of_rows (history c.args.script.now) count c.len-filled.result (take (w.result_count-booked.result - c.len-filled.result) (drop c.len-filled.result c.as_slice-results.result.now)) in
          subst (λ (t : LoopTables). AreLoopsOf (history c.args.script.now) (Print c.args.name.now ∷ statements c.args.before.now) (accesses (statements c.args.before.now)) t) (sym w.self-is)
          (print_fills (history c.args.script.now) (statements c.args.before.now) c.args.name.now c.requires.named.0 c.requires.begins c.in-Some.n number old _ w.push_passes.new.passes w.len-place.result
          (w.result_count-booked.result - c.len-filled.result) c.requires.named.1 c.requires.old (let ge = w.if-n-filled.true in omega (arith, l, ge))
          (w.in_ok-push_passes.ensures ∙ (λ i. w.new-passes.ensures i ++ waits w.len-variations.result) ∙ (λ i. waits ((w.len-variations.ensures.count ∙ ap length c.args.script.now.are.variations) i))
          ∙ open_passes (history c.args.script.now) (statements c.args.before.now) c.requires.named.1 c.requires.begins c.as_slice-results.result.now (rows_there c.args.script.now _ c.as_slice-results.ensures.value) _ _ (l ∙ c.requires.old.count) k)
          (let v = old.loops.ok.0 in let p = w.len-place.ensures in omega (arith, v, p)) (λ i. k i - l i) w.in_ok-push.ensures.items
          (w.in_ok-resize.ensures.items ∙ (λ i. take_all _ old.fillers.items few i ++ replicate (w.result_count-booked.result - sym c.len-filled.ensures i) w.len-place.result)) refl refl)
      | else-n-filled w ↦
          subst (λ (t : LoopTables). AreLoopsOf (history c.args.script.now) (Print c.args.name.now ∷ statements c.args.before.now) (accesses (statements c.args.before.now)) t) (sym w.self-is)
          (print_again (history c.args.script.now) (statements c.args.before.now) c.args.name.now c.requires.named.0 c.requires.begins c.in-Some.n number old c.requires.old (let lt = w.if-n-filled.false in omega (arith, l, lt)))
    ] in
    noted (history c.args.script.now) (statements c.args.before.now) c.args.name.now c.requires.named.0 c.requires.begins c.in-Some.n number c.if-n-filled.self _ c.index.result.now now (slice_get_read c.if-n-filled.self.fillers.items _ c.in-Some.n c.index.result.now refl within c.index.ensures)
    refl refl c.in_ok-push-2.ensures.items c.in_ok-push-3.ensures.items
