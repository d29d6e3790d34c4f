-- The least of the faults from the last slot on.
use Rattle.lemmas.proofs.{◌≡◌, ℕ, suc, ◌-◌, ◌<◌, ◌≤◌, List, ◌∷◌, ◌++◌, length, get_or, drop, Option, Some, sym, ap, ◌∙◌, subst, arith, drop-cons, All, All-cons}
use Rattle.rdf_values.specs.{Fault, least_fault, lesser_fault}
use Rattle.snapshot_pieces.specs.{end_faults, fault_of, Finished, HasMemory, IsServed, TextPiece}
use Rattle.snapshot_pieces.specs.declared.finished.End.{End}
use Rattle.snapshot_pieces.specs.declared.finished.End.TheVariants.{Over, Faulted}

-- what is known of the slots from place i on
pub record IsLeast (fs : List Finished) (i : ℕ) (least : Option Fault) : Type 0 where
  pub within : i ≤ length fs
  pub told : least ≡ least_fault (end_faults (drop i fs))
  pub memory : All HasMemory (drop i fs)

one_more : (fs : List Finished) (i : ℕ) (d : Finished) → 0 < i → i ≤ length fs → drop (i - 1) fs ≡ get_or fs (i - 1) d ∷ drop i fs
one_more fs i d some within = drop-cons fs (i - 1) d (omega arith) ∙ (let e : suc (i - 1) ≡ i = omega arith in ap (λ k. get_or fs (i - 1) d ∷ drop k fs) e)

pub next_over : (fs : List Finished) (i : ℕ) (d : Finished) (least : Option Fault) (pieces : List TextPiece) → 0 < i → IsLeast fs i least → (get_or fs (i - 1) d).end ≡ Over pieces → IsLeast fs (i - 1) least
next_over fs i d least pieces some h is =
    let more = one_more fs i d some h.within in
    let f = get_or fs (i - 1) d in
    record {
      within = (let w = h.within in omega arith);
      told = h.told ∙ ap (λ (e : End). least_fault (fault_of e ++ end_faults (drop i fs))) (sym is) ∙ ap (λ l. least_fault (end_faults l)) (sym more);
      memory = subst (All HasMemory) (sym more) (All-cons HasMemory f (drop i fs) (subst IsServed (sym is) tt) h.memory);
    }

pub next_faulted : (fs : List Finished) (i : ℕ) (d : Finished) (least : Option Fault) (fault now : Fault) → 0 < i → IsLeast fs i least → (get_or fs (i - 1) d).end ≡ Faulted fault → now ≡ lesser_fault fault least → IsLeast fs (i - 1) (Some now)
next_faulted fs i d least fault now some h is lesser =
    let more = one_more fs i d some h.within in
    let f = get_or fs (i - 1) d in
    record {
      within = (let w = h.within in omega arith);
      told = ap Some (lesser ∙ ap (lesser_fault fault) h.told) ∙ ap (λ (e : End). least_fault (fault_of e ++ end_faults (drop i fs))) (sym is) ∙ ap (λ l. least_fault (end_faults l)) (sym more);
      memory = subst (All HasMemory) (sym more) (All-cons HasMemory f (drop i fs) (subst IsServed (sym is) tt) h.memory);
    }
