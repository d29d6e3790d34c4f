-- What one cluster gives.
use Rattle.lemmas.proofs.{◌≡◌, ℕ, zero, suc, ◌<◌, ◌≤◌, List, [], ◌∷◌, ◌++◌, length, Some, None, Ok, Err, refl, sym, ap, ◌∙◌, subst, arith, ⊎_elim, option_map, slice_get, All, All-push, cases_lt, map-append, slice_get-map}
use Rattle.rdf_values.specs.{Lead, Span, times}
use Rattle.rdf_values.proofs.UnionLemmas.{times_push}
use Rattle.merge_core.proofs.Holding.{only}
use Rattle.snapshot_pieces.specs.{AreMade, clusters_of, IsPieceOf, TextPiece, SnapFacts}
use Rattle.rdf_values.proofs.Evenly.{cuts_lead, lead_up}
use Rattle.rdf_model.specs.{Dataset}
use Rattle.columns.specs.Views.{CutsView}
use Rattle.snapshot_plan.specs.{PlanView}
use Rattle.snapshot_text.specs.{entries_text}
use Rattle.snapshot_rows.specs.{snapshot_entries, snapshot_fault}
use Rattle.snapshot_entries.specs.{IsRange, IsSkimAnswer, rows_of, SkimStop}
use Rattle.snapshot_run.specs.{as_fault, facts_of, IsMade, spans_of}

led_within : (spans : List Span) (lo hi c : ℕ) (s : Span) → Lead lo hi spans → slice_get spans c ≡ Some s → (s.lo ≤ s.hi) × (s.hi ≤ hi)
led_within [] lo hi c s h at = cc at
led_within (t ∷ ts) lo hi zero s h at =
    let q : t ≡ s = cc at in
    let low : t.lo ≡ s.lo = ap (λ (x : Span). x.lo) q in
    let high : t.hi ≡ s.hi = ap (λ (x : Span). x.hi) q in
    let up = lead_up ts t.hi hi h.2 in
    let a = h.0 in
    let b = h.1 in
    (omega (arith, low, high, a, b), omega (arith, high, up))
led_within (t ∷ ts) lo hi (suc c) s h at = led_within ts t.hi hi c s h.2 at

pub is_range : (d : Dataset) (cuts : CutsView) (c : ℕ) (s : Span) → cuts.entries ≡ length d.rows → slice_get (spans_of cuts) c ≡ Some s → IsRange d s
is_range d cuts c s all at =
    let w = led_within (spans_of cuts) 0 cuts.entries c s (cuts_lead cuts.entries cuts.size cuts.marks) at in
    record { order = w.0; within = (let b = w.1 in omega (arith, all, b)) }

module _ (p : PlanView) (d : Dataset) (spans : List Span) (c : ℕ) (s : Span) (at : slice_get spans c ≡ Some s) where
  pub piece_made : (text : List ℕ) → IsSkimAnswer p d s [] text (Ok tt) → IsMade (facts_of p d spans) c (Ok (record { cluster = c; text = text }))
  piece_made text h = (
    refl,
    slice_get-map (λ (s : Span). entries_text (snapshot_entries p d (rows_of d s))) spans c ∙ ap (option_map (λ (s : Span). entries_text (snapshot_entries p d (rows_of d s)))) at ∙ ap Some (sym h.1),
    slice_get-map (λ (s : Span). option_map as_fault (snapshot_fault p d s.lo (rows_of d s))) spans c ∙ ap (option_map (λ (s : Span). option_map as_fault (snapshot_fault p d s.lo (rows_of d s)))) at ∙ ap (λ o. Some (option_map as_fault o)) h.0,
  )

  pub piece_stopped : (before after : List ℕ) (stop : SkimStop) → IsSkimAnswer p d s before after (Err stop) → IsMade (facts_of p d spans) c (Err stop)
  piece_stopped before after (SkimStop.Fault entry kind) h =
      slice_get-map (λ (s : Span). option_map as_fault (snapshot_fault p d s.lo (rows_of d s))) spans c ∙ ap (option_map (λ (s : Span). option_map as_fault (snapshot_fault p d s.lo (rows_of d s)))) at ∙ ap (λ o. Some (option_map as_fault o)) h
  piece_stopped before after SkimStop.Memory h = tt

-- one more piece
pub made_more : (facts : SnapFacts) (ps more : List TextPiece) (piece : TextPiece) (n : ℕ) → AreMade facts ps → more ≡ ps ++ piece ∷ [] → IsMade facts n (Ok piece) → AreMade facts more
made_more facts ps more piece n made is one = record {
  each = subst (All (IsPieceOf facts)) (sym is) (All-push (IsPieceOf facts) ps piece made.each one.1);
  sound = λ k some. ⊎_elim
      (λ (here : 0 < times k (clusters_of ps)). made.sound k here)
      (λ (none : times k (clusters_of ps) ≤ 0).
      let clusters : clusters_of more ≡ clusters_of ps ++ piece.cluster ∷ [] = ap clusters_of is ∙ map-append (λ (p : TextPiece). p.cluster) ps (piece ∷ []) in
      let same : piece.cluster ≡ k = only k piece.cluster (omega (arith, ap (times k) clusters, times_push k (clusters_of ps) piece.cluster, some, none)) in
      subst (λ (j : ℕ). slice_get facts.faults j ≡ Some None) (sym one.0 ∙ same) one.2)
      (cases_lt 0 (times k (clusters_of ps)));
}

pub done_more : (facts : SnapFacts) (ps more : List TextPiece) (piece : TextPiece) (n : ℕ) (drawn now : List ℕ) → clusters_of ps ≡ drawn → more ≡ ps ++ piece ∷ [] → IsMade facts n (Ok piece) → now ≡ drawn ++ n ∷ [] → clusters_of more ≡ now
done_more facts ps more piece n drawn now done is one grown =
    ap clusters_of is ∙ map-append (λ (p : TextPiece). p.cluster) ps (piece ∷ []) ∙ ap (λ l. l ++ piece.cluster ∷ []) done ∙ ap (λ j. drawn ++ j ∷ []) one.0 ∙ sym grown
