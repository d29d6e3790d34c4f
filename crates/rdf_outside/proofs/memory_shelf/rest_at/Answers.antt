use Rattle.lemmas.proofs.{arith}
use Rattle.rdf_outside.proofs.Outside.{bytes_at_is, bytes_past, none_left, some_left}
use Rattle.rdf_outside.proofs.memory_shelf.rest_at.Goals as goal

pub returns-then-place-items : goal.returns-then-place-items
returns-then-place-items c =
    none_left _ _ c.in-Some.place _ c.in-Some.is (bytes_past c.args.items.now c.in-Some.place.file c.if-place-items.true) (omega arith)

pub returns : goal.returns
returns c =
    let bytes = bytes_at_is c.args.items.now c.in-Some.place.file c.index-items-place.result c.if-place-items.false c.index-items-place.is in
    let slice = rw (← c.index-items-place.is) at c.as_slice-bytes.ensures.value in
    some_left _ _ c.in-Some.place _ c.as_slice-bytes.result.now c.min.result c.in-Some.is bytes slice c.min.ensures
