use Rattle.lemmas.proofs.{Some, ap, ◌∙◌, sym, subst, arith, ℕ, List, length}
use Rattle.graph_numbers.specs.declared.version.Version.TheVariants.{Cell, Computed, Varied}
use Rattle.graph.specs.{HasSites}
use Rattle.graph.proofs.versions.+source_of.Goals as goal

pub returns-in-Cell : goal.returns-in-Cell
returns-in-Cell t c sources h = h c.args.c (Cell c.in-Cell.col) (c.at.ensures ∙ ap (λ x. Some x) c.in-Cell.is)

pub returns-in-Computed : goal.returns-in-Computed
returns-in-Computed t c sources h = h c.args.c (Computed c.in-Computed.site) (c.at.ensures ∙ ap (λ x. Some x) c.in-Computed.is)

pub source_of-requires : goal.source_of-requires
source_of-requires t c =
    let h = c.requires.above c.args.c (Varied c.in-Varied.below c.in-Varied.first c.in-Varied.tags c.in-Varied.sites c.in-Varied.vector) (c.at.ensures ∙ ap (λ x. Some x) c.in-Varied.is) in
    let l = h.0 in let w = c.requires.within in (omega (arith, l), (omega (arith, l, w), c.requires.above))

pub tag_source-requires-clause-sites : goal.tag_source-requires-clause-sites
tag_source-requires-clause-sites t c =
    let h = c.requires.above c.args.c (Varied c.in-Varied.below c.in-Varied.first c.in-Varied.tags c.in-Varied.sites c.in-Varied.vector) (c.at.ensures ∙ ap (λ x. Some x) c.in-Varied.is) in
    subst (λ (xs : List ℕ). HasSites c.in-Varied.vector (length xs) c.in-Varied.tags) (sym c.as_slice.ensures) h.1

pub returns-in-Some : goal.returns-in-Some
returns-in-Some = grind arith
