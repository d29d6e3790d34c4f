use Rattle.lemmas.proofs.{◌≡◌, ◌∙◌, Some, ap, arith, length, refl, subst, sym, None}
use Rattle.std.proofs.lemmas.Option.{slice_get_read}
use Rattle.entry_fns.specs.{functions_in}
use Rattle.chain_files.specs.{digest_of, first_differing, first_misshapen}
use Rattle.chain_program.proofs.Accepting.{is_booked, not_booked}
use Rattle.chain_program.proofs.Parting.{all_fit, differing_is, differs_first, differs_shape, unaccepted}
use Rattle.chain_program.proofs.fitting.fit_script.Goals as goal

pub returns-in-Some : goal.returns-in-Some
returns-in-Some g c =
    let parts = c.args.parts.now in
    let names = c.args.names.now in
    let script : c.as_bytes.result.now ≡ digest_of c.args.text.bytes = c.as_bytes.ensures ∙ c.in_ok-digest.ensures.digest ∙ ap digest_of c.as_slice.ensures in
    let within = rw c.in-Some.is at c.first_other.ensures.within in
    let each = c.requires.each in
    let at = slice_get_read names (length names) c.in-Some.place c.index-names-place.result refl (omega (arith, within, each)) c.index-names-place.is ∙ ap Some (sym c.as_str.ensures) in
    let differ = sym (differing_is c.as_bytes.result.now parts c.index-parts-0.result c.columns-columns.result.now c.requires.some c.index-parts-0.is c.columns-columns.ensures) ∙ sym c.first_other.ensures.value ∙ c.in-Some.is in
    differs_first (functions_in c.args.functions.now) c.args.text.bytes c.args.text.script names parts c.in-Some.place c.as_str.result.now c.in_ok-differs.field-0 c.requires.some (subst (λ w. first_differing w parts ≡ Some c.in-Some.place) script differ) at c.in_ok-differs.ensures.0 c.in_ok-differs.ensures.1

pub returns-in-Some-first_misshapen : goal.returns-in-Some-first_misshapen
returns-in-Some-first_misshapen g c =
    let parts = c.args.parts.now in
    let names = c.args.names.now in
    let fns = functions_in c.args.functions.now in
    let script : c.as_bytes.result.now ≡ digest_of c.args.text.bytes = c.as_bytes.ensures ∙ c.in_ok-digest.ensures.digest ∙ ap digest_of c.as_slice.ensures in
    let alike = sym (differing_is c.as_bytes.result.now parts c.index-parts-0.result c.columns-columns.result.now c.requires.some c.index-parts-0.is c.columns-columns.ensures) ∙ sym c.first_other.ensures.value ∙ c.in_default.is in
    let within = rw c.in-Some-first_misshapen.is at c.first_misshapen.ensures.within in
    let each = c.requires.each in
    let at = slice_get_read names (length names) c.in-Some-first_misshapen.place c.index-names-place-in-Some-first_misshapen.result refl (omega (arith, within, each)) c.index-names-place-in-Some-first_misshapen.is ∙ ap Some (sym c.as_str-in-Some-first_misshapen.ensures) in
    differs_shape fns c.args.text.bytes c.args.text.script names parts c.index-parts-0.result c.in-Ok.graph c.in_ok-shapes-in-Ok.shapes c.in-Some-first_misshapen.place c.as_str-in-Some-first_misshapen.result.now c.in_ok-differs-in-Some-first_misshapen.field-0
    c.requires.some c.index-parts-0.is (subst (λ w. first_differing w parts ≡ None) script alike)
    (is_booked fns c.args.text.script c.columns-columns.result.now c.index-parts-0.result.columns c.names.result.now c.in-Ok.graph c.columns-columns.ensures c.names.ensures c.in-Ok.ensures)
    c.in_ok-shapes-in-Ok.ensures (ap (λ z. first_misshapen z parts) (sym c.as_slice-in-Ok.ensures) ∙ sym c.first_misshapen.ensures.value ∙ c.in-Some-first_misshapen.is) at c.in_ok-differs-in-Some-first_misshapen.ensures.0 c.in_ok-differs-in-Some-first_misshapen.ensures.1

pub returns-in-Ok : goal.returns-in-Ok
returns-in-Ok g c =
    let parts = c.args.parts.now in
    let fns = functions_in c.args.functions.now in
    let script : c.as_bytes.result.now ≡ digest_of c.args.text.bytes = c.as_bytes.ensures ∙ c.in_ok-digest.ensures.digest ∙ ap digest_of c.as_slice.ensures in
    let alike = sym (differing_is c.as_bytes.result.now parts c.index-parts-0.result c.columns-columns.result.now c.requires.some c.index-parts-0.is c.columns-columns.ensures) ∙ sym c.first_other.ensures.value ∙ c.in_default.is in
    all_fit fns c.args.text.bytes c.args.text.script c.args.names.now parts c.index-parts-0.result (record { graph = c.in-Ok.graph; shapes = c.in_ok-shapes-in-Ok.shapes }) c.requires.some c.index-parts-0.is (subst (λ w. first_differing w parts ≡ None) script alike)
    (is_booked fns c.args.text.script c.columns-columns.result.now c.index-parts-0.result.columns c.names.result.now c.in-Ok.graph c.columns-columns.ensures c.names.ensures c.in-Ok.ensures)
    c.in_ok-shapes-in-Ok.ensures (ap (λ z. first_misshapen z parts) (sym c.as_slice-in-Ok.ensures) ∙ sym c.first_misshapen.ensures.value ∙ c.in-None.is)

pub returns : goal.returns
returns g c =
    let parts = c.args.parts.now in
    let fns = functions_in c.args.functions.now in
    let script : c.as_bytes.result.now ≡ digest_of c.args.text.bytes = c.as_bytes.ensures ∙ c.in_ok-digest.ensures.digest ∙ ap digest_of c.as_slice.ensures in
    let alike = sym (differing_is c.as_bytes.result.now parts c.index-parts-0.result c.columns-columns.result.now c.requires.some c.index-parts-0.is c.columns-columns.ensures) ∙ sym c.first_other.ensures.value ∙ c.in_default.is in
    unaccepted fns c.args.text.bytes c.args.text.script c.args.names.now parts c.index-parts-0.result c.in_ok-refused_script-in-Err-At.field-0 c.requires.some c.index-parts-0.is (subst (λ w. first_differing w parts ≡ None) script alike)
    (not_booked fns c.args.text.script _ c.index-parts-0.result.columns _ _ c.in-Err-At.line _ c.in-Err-At.cause _ c.in_ok-refused_script-in-Err-At.field-0
    c.columns-columns.ensures c.names.ensures c.in-Err-At.field-0-is c.in-Err-At.ensures (cc c.in-Err-At.line-is) (cc c.in-Err-At.cause-is) c.in_ok-refused_script-in-Err-At.ensures)
