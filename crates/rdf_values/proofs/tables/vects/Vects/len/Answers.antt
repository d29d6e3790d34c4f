use Rattle.lemmas.proofs.{rules, ◌≡◌, ◌∙◌, sym, ap, length}
use Rattle.rdf_values.proofs.PieceLemmas.{length-pieces}
use Rattle.rdf_values.proofs.tables.vects.Vects.len.Goals as goal

pub returns : goal.returns
returns c =
    let ends : c.len.result ≡ length c.self.inside.ends.items = search rules in
    ends ∙ sym (length-pieces c.self.inside.ends.items 0 c.self.inside.elements.items) ∙ ap length c.self.view_is
