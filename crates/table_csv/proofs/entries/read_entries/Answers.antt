use Rattle.lemmas.proofs.{◌≡◌, ◌∙◌, ◌<◌, ◌++◌, ap, inl, inr, length, rules, refl, append-nil, sym}
use Rattle.std.proofs.lemmas.Result.{err_from_is_err_and}
use Rattle.csv.specs.Records.{fields_of}
use Rattle.rdf_values.specs.{rows_kept}
use Rattle.rdf_values.proofs.KeptLemmas.{row_fits_columns, holds_push, length-rows_kept, pushed_back, rows_after_push}
use Rattle.table_csv.proofs.RecordSteps.{row_early}
use Rattle.table_csv.proofs.TableSteps.{mark_if, reading_end, reading_marks, reading_more, reading_stop, same_columns}
use Rattle.table_csv.proofs.entries.read_entries.Goals as goal
use Rattle.table_csv.proofs.entries.read_entries.Goals.{then-begins+in_ok-push, else-begins}

pub next-requires : goal.next-requires
next-requires c =
    let inv = c.loop-fields.invariant.0 c.requires.left.0 c.requires.left.1 in
    (inv.0, inv.1)

pub returns-in_err-begins-clause-value : goal.returns-in_err-begins-clause-value
returns-in_err-begins-clause-value c whole h =
    let inv = c.loop-fields.invariant.0 whole h in
    let took = rw c.if-branch.true at (c.in_ok-next.ensures _ inv.1) in
    let cols = c.as_slice.ensures ∙ same_columns _ _ _ _ (sym c.in_ok-new.ensures ∙ c.into_parts-parts.ensures.same) in
    let p = err_from_is_err_and c.from_residual-in_err-begins.result c.from_residual-in_err-begins.ensures.1 in
    rw (p.1, p.2) (elim c.in_err-begins.ensures [
      | inl memory ↦ inl memory
      | inr bad ↦ inr (bad.0, bad.1, reading_stop _ _ _ _ _ _ _ _ _ inv.2 took.1 (rw cols at bad.2))
    ])

pub push-requires-clause-above : goal.push-requires-clause-above
push-requires-clause-above c =
    let inv = c.loop-fields.invariant.0 c.requires.left.0 c.requires.left.1 in
    reading_marks _ _ _ _ _ _ inv.2

pub loop-fields-preserved : goal.loop-fields-preserved
loop-fields-preserved c =
    let columns = c.args.heading.columns in
    let entry = c.loop-fields.entry in
    let cells = c.loop-fields.cells.items in
    let cols = c.as_slice.ensures ∙ same_columns _ _ _ _ (sym c.in_ok-new.ensures ∙ c.into_parts-parts.ensures.same) in
    let read = rw (cols, c.deref_mut.ensures.value) at c.in_ok-begins.ensures in
    let early = row_early entry (record { columns = columns; marked = c.args.heading.marked }) (fields_of c.next.new.fields) _ read.spelt in
    let fits = rw read.spelt at (row_fits_columns entry (record { columns = columns; marked = c.args.heading.marked }) (fields_of c.next.new.fields)) in
    let size : c.loop-fields.cells.len ≡ length cells = search rules in
    let back = pushed_back c.loop-fields.cells.len c.push_row.new.cells cells read.row read.added size in
    let holds = c.loop-fields.invariant.1 in
    let room : length (rows_kept entry cells) < 1000000 = rw (length-rows_kept entry cells) early in
    let rows = rows_after_push columns cells _ read.row entry _ holds.kept fits back refl in
    let marks : c.if-begins.marks ≡ c.loop-fields.marks ++ mark_if c.in_ok-begins.begins entry = elim c.if-begins.branch [
      | then-begins+in_ok-push w ↦ w.marks-is ∙ w.in_ok-push.ensures.ok ∙ rw w.if-begins.true refl
      | else-begins w ↦ w.marks-is ∙ rw (w.if-begins.false, append-nil) refl
    ] in (
      λ whole h.
          let inv = c.loop-fields.invariant.0 whole h in
          let took = rw c.if-branch.true at (c.in_ok-next.ensures _ inv.1) in
          let more = reading_more _ _ _ _ _ _ _ _ _ _ _ inv.2 took.1 read.spelt (ap (λ t. record { columns = columns; rows = t }) rows) in
          (took.0, took.2, rw marks more),
      holds_push columns cells _ read.row entry _ holds fits room back refl,
    )

pub returns-clause-value : goal.returns-clause-value
returns-clause-value c whole h =
    let inv = c.loop-fields.invariant.0 whole h in
    let none = rw c.if-branch.false at (c.in_ok-next.ensures _ inv.1) in
    let cols = same_columns _ _ _ _ (sym c.in_ok-new.ensures ∙ c.into_parts-parts.ensures.same) in
    rw (c.in_ok-table.ensures, c.from_parts-table.ensures, cols) (reading_end _ _ _ _ _ _ inv.2 none)

pub returns-clause-within : goal.returns-clause-within
returns-clause-within c =
    let inv = c.loop-fields.invariant.0 c.requires.left.0 c.requires.left.1 in
    rw (c.in_ok-table.ensures, c.from_parts-table.ensures, length-rows_kept) (reading_marks _ _ _ _ _ _ inv.2)
