use Rattle.lemmas.proofs.{arith, length, sym}
use Rattle.std.specs.List.{slice_split}
use Rattle.snapshot_words.specs.{is_comma}
use Rattle.snapshot_words.proofs.Parts.{all_read, bad_part, nothing_read, parts_first, parts_of, too_many}
use Rattle.snapshot_words.proofs.lists.names_of.Goals as goal

pub loop-rest-init : goal.loop-rest-init
loop-rest-init c = rw c.new-names.ensures (nothing_read c.args.text.now)

pub returns-in_default-2 : goal.returns-in_default-2
returns-in_default-2 c =
    let p = parts_first c.first_part.result.1 (slice_split is_comma c.in-Some.left.now) c.first_part.result.0.now (length c.in-Some.left.now) c.first_part.ensures in
    let inv = rw (c.in-Some.is, p.0) at c.loop-rest.invariant in
    let bad = rw c.in_default-2.is at c.in_ok-name.ensures in
    sym (bad_part c.args.text.now c.loop-rest.names (parts_of c.first_part.result.1) c.first_part.result.0.now inv bad)

pub returns-then-len-ge-MAX_COLUMNS : goal.returns-then-len-ge-MAX_COLUMNS
returns-then-len-ge-MAX_COLUMNS c =
    let p = parts_first c.first_part.result.1 (slice_split is_comma c.in-Some.left.now) c.first_part.result.0.now (length c.in-Some.left.now) c.first_part.ensures in
    let inv = rw (c.in-Some.is, p.0) at c.loop-rest.invariant in
    sym (too_many c.args.text.now c.loop-rest.names (parts_of c.first_part.result.1) c.first_part.result.0.now inv (omega (arith, c.len.ensures, c.if-len-ge-MAX_COLUMNS.true)))

pub returns : goal.returns
returns c =
    let inv = rw c.in_default.is at c.loop-rest.invariant in
    sym (all_read c.args.text.now c.loop-rest.names inv)
