use Rattle.lemmas.proofs.{◌∙◌, ap, subst, sym, slice_get}
use Rattle.cluster_tally.specs.{Holds, TallyView}
use Rattle.cluster_tally.proofs.tally.Tally.close.Goals as goal

pub close_all-requires-clause-fed : goal.close_all-requires-clause-fed
close_all-requires-clause-fed c i acc at =
    let r = c.requires in
    let h = subst (λ (t : TallyView). Holds r.0 r.1 r.2 t) (sym c.self.view_is) r.3 in
    (_, (h.alone i acc (ap (λ l. slice_get l i) (sym c.as_mut_slice.ensures.value) ∙ at)).held.fed)
