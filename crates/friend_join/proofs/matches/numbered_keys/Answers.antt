use Rattle.lemmas.proofs.{◌≡◌, get_or, inr, refl, rules, sym, w64, FitsSigned, get_or_from_slice_get, slice_get_within, to_z-of_z}
use Rattle.friend_join.proofs.Repeats.{grown, new_key, old_key, repeat_here, repeat_more}
use Rattle.friend_join.proofs.matches.numbered_keys.Goals as goal

pub returns-in-Ok-false : goal.returns-in-Ok-false
returns-in-Ok-false c =
    let ns = c.args.keys.now in
    let e = c.loop-entry.entry in
    let number = c.at.result in
    let fits : FitsSigned w64 number = search rules in
    let below = slice_get_within ns e number c.at.ensures in
    let here : number ≡ get_or ns e number = sym (get_or_from_slice_get ns e number number c.at.ensures) in
    let added = rw (to_z-of_z w64 number fits) at c.in-Ok-false.ensures.added in
    inr (e, refl, repeat_here ns e number _ below here (old_key _ _ _ _ c.loop-entry.invariant.so_far added c.in-Ok-false.field-0-test) c.loop-entry.invariant.rest)

pub loop-entry-preserved : goal.loop-entry-preserved
loop-entry-preserved c =
    let ns = c.args.keys.now in
    let e = c.loop-entry.entry in
    let number = c.at.result in
    let fits : FitsSigned w64 number = search rules in
    let below = slice_get_within ns e number c.at.ensures in
    let here : number ≡ get_or ns e number = sym (get_or_from_slice_get ns e number number c.at.ensures) in
    let added = rw (to_z-of_z w64 number fits) at c.in-Ok-true.ensures.added in
    let keys = rw (to_z-of_z w64 number fits) at c.in-Ok-true.ensures.keys in
    let new = new_key _ _ _ _ c.loop-entry.invariant.so_far added c.in-Ok-true.field-0-test in
    record {
      so_far = grown ns e number _ _ below here c.loop-entry.invariant.so_far new keys;
      rest = repeat_more ns e number _ below here new c.loop-entry.invariant.rest;
    }
