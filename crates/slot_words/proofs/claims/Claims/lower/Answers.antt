use Rattle.lemmas.proofs.{sym, ap, ◌∙◌, arith}
use Rattle.slot_words.proofs.Steps.{lowers}
use Rattle.slot_words.proofs.claims.Claims.lower.Goals as goal

pub fetch_min-requires : goal.fetch_min-requires
fetch_min-requires c =
    let claims = c.self.invariant in
    let table = ap (λ v. v.table) c.seat.view_is ∙ c.requires.of.0 ∙ sym (ap (λ v. v.table) c.self.view_is) in
    (table, omega arith, lowers c.self.inside.table.shared.key _ c.seat.inside.seat.id c.args.cluster c.seat.inside.seat.me c.seat.invariant.0 (ap (λ v. v.lowered) c.seat.view_is ∙ c.requires.once))
