-- Sites that are evaluated, one after another.
use Rattle.lemmas.proofs.{◌≡◌, ℕ, zero, suc, ◌<◌, List, [], ◌∷◌, length, get_or, Some, sym, subst, arith, Contains}
use Rattle.graph_numbers.specs.{IsBelow, Source}
use Rattle.rdf_values.proofs.KeptLemmas.{In, here, there}
use Rattle.snapshot_entries.specs.{Grows, IsSourceHeld, site_behind}
use Rattle.snapshot_entries.specs.declared.known.Known.{Known}

pub in_list : {A : Type 0} (xs : List A) (x : A) → Contains xs x → In x xs
in_list xs x h = go xs h.0 h.1 h.2
  where
    go : (ys : List _) (k : ℕ) → k < length ys → get_or ys k x ≡ x → In x ys
    go [] k lt e = absurd (omega (arith, lt))
    go (y ∷ ys) zero lt e = subst (λ z. In x (z ∷ ys)) (sym e) here
    go (y ∷ ys) (suc k) lt e = there (go ys k (omega (arith, lt)) e)

-- ---- what is held

pub held_grows : (before after : List Known) (e : ℕ) (src : Source) → Grows e before after → IsSourceHeld before e src → IsSourceHeld after e src
held_grows before after e (Source.Cell col) grows h = tt
held_grows before after e (Source.Site s) grows h = grows s h
held_grows before after e (Source.Element s k tags) grows h = grows s h

pub behind_below : (width n s : ℕ) (src : Source) → IsBelow width n src → site_behind src ≡ Some s → s < n
behind_below width n s (Source.Cell col) b h = cc h
behind_below width n s (Source.Site t) b h = let q : t ≡ s = cc h in omega (arith, b, q)
behind_below width n s (Source.Element t k tags) b h = let q : t ≡ s = cc h in omega (arith, b, q)
