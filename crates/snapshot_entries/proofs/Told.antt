-- What is told of the versions of an entry, by what is known of their sites.
use Rattle.lemmas.proofs.{◌≡◌, ℕ, ◌<◌, List, length, get_or, Option, Some, None, Result, Ok, Err, refl, sym, ◌∙◌, ap, subst, arith, MatchOption, slice_get}
use Rattle.std.proofs.lemmas.Option.{slice_get-get_or}
use Rattle.rdf_values.specs.{AreAccepted, EntryFault, fn_names, scope_of, Value}
use Rattle.rdf_model.specs.{◌>>=◌, Dataset, Outcome, tag_element, with_needs}
use Rattle.rdf_model.proofs.Accepted.{verdict_is_the_first_refusal}
use Rattle.graph_numbers.specs.{booked_statements, cell_value, Source, source_value}
use Rattle.snapshot_plan.specs.{PlanView}
use Rattle.snapshot_entries.specs.{AreKnown, element_of, IsHeld, IsSourceHeld, IsWork, outcome_of, row_in, site_in, source_of, version_in}
use Rattle.snapshot_entries.specs.declared.known.Known.{Known}

pub accepted_of : (p : PlanView) (d : Dataset) → IsWork p d → AreAccepted (fn_names d.fns) (scope_of d.columns) (booked_statements p.graph)
accepted_of p d work = (verdict_is_the_first_refusal (fn_names d.fns) d.columns p.graph.script).0 work.booked.accepted

with_outcome : {A : Type 0} (r : Result A EntryFault) → outcome_of {M = ℕ} r ≡ with_needs (outcome_of r)
with_outcome (Ok v) = refl
with_outcome (Err kind) = refl

with_bind : (r : Result Value EntryFault) (k tags : ℕ) (h : (v : Value) → tag_element {M = ℕ} tags k v ≡ with_needs (tag_element tags k v)) → element_of {M = ℕ} r k tags ≡ with_needs (element_of r k tags)
with_bind (Ok v) k tags h = h v
with_bind (Err kind) k tags h = refl

with_cell : (o : Option Value) → cell_value {M = ℕ} o ≡ with_needs (cell_value o)
with_cell None = refl
with_cell (Some v) = refl

module _ (p : PlanView) (d : Dataset) (cells : List Known) (known : AreKnown p d cells) (e : ℕ) (lt : e < length d.rows) where
  -- what is held of a site is what it comes to
  pub held_is : (s : ℕ) (k : Known) → s < length cells → k ≡ get_or cells s k → IsHeld cells e s → outcome_of k.outcome ≡ site_in p d e s
  held_is s k within is held =
      let at : slice_get cells s ≡ Some k = slice_get-get_or cells s k within ∙ ap Some (sym is) in
      let entry : k.entry ≡ e = subst (λ (o : Option Known). MatchOption o ⊥ (λ (x : Known). x.entry ≡ e)) at held in
      known.each s k at (omega (arith, entry, lt)) ∙ ap (λ n. site_in p d n s) entry

  module _ (c : ℕ) where
    pub told_cell : (col : ℕ) (o : Outcome ℕ Value) → Source.Cell col ≡ source_of p d c → o ≡ cell_value (slice_get (row_in d.rows e) col) → o ≡ with_needs (version_in p d e c)
    told_cell col o is h = h ∙ with_cell (slice_get (row_in d.rows e) col) ∙ ap (λ (src : Source). with_needs (source_value (row_in d.rows e) (site_in p d e) src)) is

    pub told_site : (s : ℕ) (k : Known) (o : Outcome ℕ Value) → s < length cells → k ≡ get_or cells s k → Source.Site s ≡ source_of p d c → IsSourceHeld cells e (source_of p d c) → o ≡ outcome_of k.outcome → o ≡ with_needs (version_in p d e c)
    told_site s k o within at is held h =
        h ∙ with_outcome k.outcome ∙ ap with_needs (held_is s k within at (subst (IsSourceHeld cells e) (sym is) held)) ∙ ap (λ (src : Source). with_needs (source_value (row_in d.rows e) (site_in p d e) src)) is

    pub told_element : (s i tags : ℕ) (k : Known) (o : Outcome ℕ Value) → ((v : Value) → tag_element {M = ℕ} tags i v ≡ with_needs (tag_element tags i v)) → s < length cells → k ≡ get_or cells s k → Source.Element s i tags ≡ source_of p d c
        → IsSourceHeld cells e (source_of p d c) → o ≡ element_of k.outcome i tags → o ≡ with_needs (version_in p d e c)
    told_element s i tags k o known_tag within at is held h =
        h ∙ with_bind k.outcome i tags known_tag ∙ ap (λ (x : Outcome ⊥ Value). with_needs (x >>= tag_element tags i)) (held_is s k within at (subst (IsSourceHeld cells e) (sym is) held))
        ∙ ap (λ (src : Source). with_needs (source_value (row_in d.rows e) (site_in p d e) src)) is
