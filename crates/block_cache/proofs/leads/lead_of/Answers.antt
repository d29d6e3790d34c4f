use Rattle.lemmas.proofs.{ap, arith, sym, ◌∙◌}
use Rattle.std.proofs.lemmas.Option.{IfSome_then}
use Rattle.block_cache.specs.{first_read}
use Rattle.block_cache.proofs.UnderwayLaws.{lead_key, met_by, met_there}
use Rattle.block_cache.proofs.leads.lead_of.Goals as goal

pub key_read-requires : goal.key_read-requires
key_read-requires g c =
    let met = met_by c.args.wanted.now _ c.expression.ensures (sym c.in_ok-version.was ∙ c.first_read.ensures ∙ ap first_read (c.behind-expression.view_is ∙ c.tree.ensures.tree)) in
    met_there c.args.wanted.now c.in_ok-version.version 0 (met 0)

pub is_held-requires-clause-key : goal.is_held-requires-clause-key
is_held-requires-clause-key g c =
    let met = met_by c.args.wanted.now c.in_ok-version.version c.expression.ensures (sym c.in_ok-version.was ∙ c.first_read.ensures ∙ ap first_read (c.behind-expression.view_is ∙ c.tree.ensures.tree)) in
    let read = c.in_ok-key.ensures in
    let low = lead_key c.args.wanted.now read.0 (record { version = c.in_ok-version.version; source = read.1; met = met }) in
    let same = read.2 in
    omega (arith, low, same, c.requires.ready.many)

pub site_of-requires : goal.site_of-requires
site_of-requires g c =
    let met = met_by c.args.wanted.now _ c.expression.ensures (sym c.in_ok-version.was ∙ c.first_read.ensures ∙ ap first_read (c.behind-expression.view_is ∙ c.tree.ensures.tree)) in
    met_there c.args.wanted.now c.in_ok-version.version 0 (met 0)

pub returns : goal.returns
returns g c =
    let met = met_by c.args.wanted.now c.in_ok-version.version c.expression.ensures (sym c.in_ok-version.was ∙ c.first_read.ensures ∙ ap first_read (c.behind-expression.view_is ∙ c.tree.ensures.tree)) in
    IfSome_then c.site_of.result c.site_of.ensures (λ t is. record { version = c.in_ok-version.version; source = is; met = met })
