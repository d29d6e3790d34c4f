use Rattle.lemmas.proofs.{◌≡◌, ◌∙◌, sym, w64, SFits, to_z, of_z, ap, refl, arith, rules, common_steps, to_z-of_z}
use Rattle.rdf_values.specs.scripts.LineTokens.{Number}
use Rattle.script_read.specs.{ANumber, token_of}
use Rattle.script_read.proofs.Walked.{took_seen, no_number, stuck_token}
use Rattle.script_read.proofs.walk.Walk.number.Goals as goal

pub returns-clause-took : goal.returns-clause-took
returns-clause-took c =
    let fits : SFits w64 c.in-Number.n = first_of (search rules, grind (arith, common_steps)) in
    let same : to_z w64 (of_z w64 c.in-Number.n) ≡ c.in-Number.n = to_z-of_z w64 c.in-Number.n fits in
    let seen = ap token_of c.in-Number.is ∙ ap Number (sym same) in
    took_seen ANumber seen c.in_ok-n.ensures.sees c.advance.ensures refl

pub returns-in_default-clause-stuck : goal.returns-in_default-clause-stuck
returns-in_default-clause-stuck c _ = stuck_token ANumber _ c.in_ok-n.ensures.sees (no_number _ c.in_default.not-Number)
