use Rattle.lemmas.proofs.{◌<◌, length}
use Rattle.script_read.proofs.FirstBads.{handed_on, refused_here}
use Rattle.script_read.proofs.Walked.{begun, one_more, at_place}
use Rattle.script_read.proofs.strings.names.Goals as goal

pub loop-quoted-init : goal.loop-quoted-init
loop-quoted-init c = rw (c.in_ok-push.ensures.ok, c.new-names.ensures) (one_more _ _ (begun _) c.in_ok-name.ensures.ok)

pub returns-in_err-name-2-clause-err : goal.returns-in_err-name-2-clause-err
returns-in_err-name-2-clause-err c =
    let there : c.loop-quoted.quoted-index < length c.args.strings.now.rest.items = rw c.deref-quoted-items.ensures.value at c.loop-quoted-test.true in
    let is = rw c.deref-quoted-items.ensures.value at c.quoted-item.is in
    handed_on _ _ _ c.from_residual-in_err-name-2.ensures.1 ((at_place _ _ _ there is c.loop-quoted.invariant).refuses _ (refused_here _ _ _ c.in_err-name-2.ensures.err))

pub loop-quoted-preserved : goal.loop-quoted-preserved
loop-quoted-preserved c =
    let there : c.loop-quoted.quoted-index < length c.args.strings.now.rest.items = rw c.deref-quoted-items.ensures.value at c.loop-quoted-test.true in
    let is = rw c.deref-quoted-items.ensures.value at c.quoted-item.is in
    rw c.in_ok-push-2.ensures.ok (one_more _ _ (at_place _ _ _ there is c.loop-quoted.invariant) c.in_ok-name-2.ensures.ok)
