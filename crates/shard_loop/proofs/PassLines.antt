-- The lines of passes, from what a piece holds.
use Rattle.lemmas.proofs.{◌≡◌, ◌⊎◌, inl, inr, ℕ, zero, suc, ◌+◌, ◌<◌, List, [], ◌∷◌, ◌++◌, length, map, take, drop, get_or, Option, None, Some, refl, sym, ap, ap₂, ◌∙◌, subst, arith, append_assoc, length-append, All, slice_get, All-from_recursion, AllByRecursion, flat_map-append, get_or_from_slice_get, length-map, same_Some, slice_get_within, something_at}
use Rattle.rdf_values.specs.{ActionAt, ActionKind, below, Booking, EntryFault, Fault, named_before, Pass, Path, path, ReportOn, Span, Statement, Value}
use Rattle.rdf_values.specs.declared.scripts.statement.Statement.TheVariants.{Filter}
use Rattle.rdf_values.proofs.UnionLemmas.{length-below}
use Rattle.rdf_model.specs.{action_pass, cutflow, Dataset, fault_at, fault_or, first_fault, first_fault_from, first_fault_in, first_of, kind_in, kinds_in, loop_facts, over_clusters, pass_result}
use Rattle.actions.specs.{Accumulator}
use Rattle.loop_pieces.specs.{Counts, counts_at, counts_of, LoopPiece, nothing, StandsFor}
use Rattle.graph_numbers.proofs.Placing.{next_at, of_joined}
use Rattle.loop_pieces.proofs.ByCluster.{piece_holds_counts, piece_holds_results}
use Rattle.shard_spans.specs.{booking_line, filled_line, pass_line}

-- ---- lists

-- what stands before and behind an element
split_at : {A : Type 0} (xs : List A) (n : ℕ) (x : A) → slice_get xs n ≡ Some x → xs ≡ take n xs ++ x ∷ drop (suc n) xs
split_at [] n x at = absurd (cc)
split_at (y ∷ ys) zero x at = ap (λ z. z ∷ ys) (same_Some y x at)
split_at (y ∷ ys) (suc n) x at = ap (λ l. y ∷ l) (split_at ys n x at)

taken_long : {A : Type 0} (xs : List A) (n : ℕ) (x : A) → slice_get xs n ≡ Some x → length (take n xs) ≡ n
taken_long [] n x at = absurd (cc)
taken_long (y ∷ ys) zero x at = refl
taken_long (y ∷ ys) (suc n) x at = ap suc (taken_long ys n x at)

kinds-append : (ps qs : List Pass) → kinds_in (ps ++ qs) ≡ kinds_in ps ++ kinds_in qs
kinds-append ps qs = flat_map-append (λ (p : Pass). kind_in p.result.booking) ps qs

-- ---- a fault isn't there, wherever entries are numbered from

module _ (d : Dataset) where
  none_in : (ps : List Pass) (e o n : ℕ) (row : List Value) → first_fault_in d e n row ps ≡ None → first_fault_in d o n row ps ≡ None
  none_in [] e o n row h = refl
  none_in (p ∷ ps) e o n row h = go (fault_at d row p) h (λ q. none_in ps e o (n + 1) row q)
    where
      go : (f : Option EntryFault) → fault_or e n f (first_fault_in d e (n + 1) row ps) ≡ None → (first_fault_in d e (n + 1) row ps ≡ None → first_fault_in d o (n + 1) row ps ≡ None)
          → fault_or o n f (first_fault_in d o (n + 1) row ps) ≡ None
      go None q next = next q
      go (Some kind) q next = absurd (cc)

  two_none : (a b : Option Fault) → first_of a b ≡ None → (a ≡ None) × (b ≡ None)
  two_none None b h = (refl, h)
  two_none (Some f) b h = absurd (cc)

  none_from : (rows : List (List Value)) (e o : ℕ) (ps : List Pass) → first_fault_from d e rows ps ≡ None → first_fault_from d o rows ps ≡ None
  none_from [] e o ps h = refl
  none_from (row ∷ rows) e o ps h =
      let both = two_none (first_fault_in d e 0 row ps) (first_fault_from d (e + 1) rows ps) h in
      ap₂ first_of (none_in ps e o 0 row both.0) (none_from rows (e + 1) (o + 1) ps both.1)

  -- of the rows of some clusters
  pub none_over : (spans : List Span) (set : List ℕ) (e : ℕ) (ps : List Pass) → first_fault_from d e (over_clusters spans d set).rows ps ≡ None → first_fault (over_clusters spans d set) ps ≡ None
  none_over spans set e ps h = same_rows (over_clusters spans d set).rows 0 ps (none_from (over_clusters spans d set).rows e 0 ps h)
    where
      same_rows : (rows : List (List Value)) (o : ℕ) (ps : List Pass) → first_fault_from d o rows ps ≡ None → first_fault_from (over_clusters spans d set) o rows ps ≡ None
      same_rows rows o ps q = q

-- ---- actions

module _ (d : Dataset) (filters : List Path) (spans : List Span) (set : List ℕ) (passes : List Pass) (piece : LoopPiece) (stands : StandsFor (loop_facts d filters spans passes) set piece) where
  -- an action's pass has an accumulator, which holds its result over the clusters
  pub record HasAccumulator (n : ℕ) (p : Pass) (k : ActionKind) (at : Path) : Type 0 where
    pub acc : Accumulator
    pub there : slice_get piece.accs.items (length (kinds_in (take n passes))) ≡ Some acc
    pub holds : acc.filled ≡ pass_result (over_clusters spans d set) k at p.under

  pub has_accumulator : (n : ℕ) (p : Pass) (k : ActionKind) (at : Path) → slice_get passes n ≡ Some p → p.result.booking ≡ ActionAt k at → HasAccumulator n p k at
  has_accumulator n p k at here of =
      let before = take n passes in
      let after = drop (suc n) passes in
      let named : p ≡ action_pass p.result.name k at p.under = ap (λ (b : Booking). record { result = record { name = p.result.name; booking = b }; under = p.under }) of in
      let is : passes ≡ before ++ action_pass p.result.name k at p.under ∷ after = split_at passes n p here ∙ ap (λ (q : Pass). before ++ q ∷ after) named in
      let split = subst (λ (l : List Pass). StandsFor (loop_facts d filters spans l) set piece) is stands in
      let kinds = ap (λ (l : List ActionKind). length l) (stands.kinds ∙ ap kinds_in is ∙ kinds-append before (action_pass p.result.name k at p.under ∷ after)) in
      let many = length-map piece.accs.items (λ (acc : Accumulator). acc.kind) in
      let both = length-append (kinds_in before) (kinds_in (action_pass p.result.name k at p.under ∷ after)) in
      let acc = something_at piece.accs.items (length (kinds_in before)) (omega (arith, many, kinds, both)) in
      let holds = piece_holds_results d filters spans set before after p.result.name k at p.under piece acc.0 split acc.1 in
      record { acc = acc.0; there = acc.1; holds = holds.1 }

  -- its line
  pub action_line : (n : ℕ) (p : Pass) (k : ActionKind) (at : Path) (acc : Accumulator) → slice_get passes n ≡ Some p → p.result.booking ≡ ActionAt k at
      → slice_get piece.accs.items (length (kinds_in (take n passes))) ≡ Some acc → filled_line acc.filled ≡ pass_line (over_clusters spans d set) p
  action_line n p k at acc here of there =
      let own = has_accumulator n p k at here of in
      let same : acc ≡ own.acc = same_Some acc own.acc (sym there ∙ own.there) in
      ap (λ (a : Accumulator). filled_line a.filled) same ∙ ap filled_line own.holds ∙ sym (ap (λ (b : Booking). booking_line (over_clusters spans d set) b p) of)

-- ---- reports

-- no named filter is the head
named_nonempty : (before : List Statement) (n : ℕ) → slice_get (named_before before) n ≡ Some [] → ⊥
named_nonempty [] n h = cc h
named_nonempty (Filter node parent expr (Some label) ∷ before) n h = go (named_nonempty before n) (of_joined (named_before before) ((Filter node parent expr (Some label) ∷ path before parent) ∷ []) n [] h)
  where
    alone : (k : ℕ) → slice_get ((Filter node parent expr (Some label) ∷ path before parent) ∷ []) k ≡ Some [] → ⊥
    alone zero q = cc q
    alone (suc k) q = cc q

    go : (slice_get (named_before before) n ≡ Some [] → ⊥) → (slice_get (named_before before) n ≡ Some []) ⊎ ((k : ℕ) × (n ≡ length (named_before before) + k) × (slice_get ((Filter node parent expr (Some label) ∷ path before parent) ∷ []) k ≡ Some [])) → ⊥
    go next (inl q) = next q
    go next (inr q) = alone q.0 q.2
named_nonempty (Filter node parent expr None ∷ before) n h = named_nonempty before n h
named_nonempty (s ∷ before) n h = named_nonempty before n h

-- the filters of these numbers, in the order of booking
abbrev pub AreNumbered : List Path → List ℕ → List Path → Type 0
AreNumbered named ns ps = map (slice_get named) ns ≡ map (λ p. Some p) ps

first_two : {A : Type 0} {x y : A} {xs ys : List A} → ◌≡◌ {A = List A} (x ∷ xs) (y ∷ ys) → (x ≡ y) × (xs ≡ ys)
first_two q = (cc, cc)

numbers_below : (named : List Path) (ns : List ℕ) (ps : List Path) → AreNumbered named ns ps → AllByRecursion (λ n. n < length named) ns
numbers_below named [] ps h = tt
numbers_below named (n ∷ ns) [] h = absurd (cc)
numbers_below named (n ∷ ns) (p ∷ ps) h = let both = first_two h in (slice_get_within named n p both.0, numbers_below named ns ps both.1)

module _ (d : Dataset) (script : List Statement) (spans : List Span) (set : List ℕ) (passes : List Pass) (piece : LoopPiece) (stands : StandsFor (loop_facts d (named_before script) spans passes) set piece) where
  pub flow_length : length piece.flow ≡ length (named_before script)
  flow_length = ap (λ (l : List Counts). length l) stands.flow ∙ length-map (below (length (named_before script))) (counts_at (loop_facts d (named_before script) spans passes) set) ∙ length-below (length (named_before script))

  pub covers_inside : (ns : List ℕ) (ps : List Path) → AreNumbered (named_before script) ns ps → All (λ n. n < length piece.flow) ns
  covers_inside ns ps h = All-from_recursion (λ n. n < length piece.flow) ns (subst (λ m. AllByRecursion (λ n. n < m) ns) (sym flow_length) (numbers_below (named_before script) ns ps h))

  module _ (sound : first_fault (over_clusters spans d set) passes ≡ None) (n : ℕ) (p : Pass) (here : slice_get passes n ≡ Some p) (fs : List Path) (report : p.result.booking ≡ ReportOn fs) where
    counts_are : (i m : ℕ) (f : Path) → slice_get fs i ≡ Some f → slice_get (named_before script) m ≡ Some f → slice_get piece.flow m ≡ Some (counts_of (cutflow (over_clusters spans d set) f))
    counts_are i m [] at named = absurd (named_nonempty script m named)
    counts_are i m (s ∷ up) at named =
        let is = split_at (named_before script) m (s ∷ up) named in
        let split = subst (λ (l : List Path). StandsFor (loop_facts d l spans passes) set piece) is stands in
        ap (slice_get piece.flow) (sym (taken_long (named_before script) m (s ∷ up) named))
        ∙ piece_holds_counts d (take m (named_before script)) (drop (suc m) (named_before script)) s up spans set passes n i p fs piece here report at sound split

    flows_from : (ns : List ℕ) (gs done : List Path) → fs ≡ done ++ gs → AreNumbered (named_before script) ns gs
        → map (λ m. get_or piece.flow m nothing) ns ≡ map (λ f. counts_of (cutflow (over_clusters spans d set) f)) gs
    flows_from [] [] done joined h = refl
    flows_from [] (f ∷ gs) done joined h = absurd (cc)
    flows_from (m ∷ ns) [] done joined h = absurd (cc)
    flows_from (m ∷ ns) (f ∷ gs) done joined h =
        let both = first_two h in
        let none : length done ≡ length done + 0 = omega arith in
        let listed : slice_get fs (length done) ≡ Some f = ap (λ l. slice_get l (length done)) joined ∙ next_at done (f ∷ gs) 0 (length done) none in
        ap₂ (λ (c : Counts) cs. c ∷ cs) (get_or_from_slice_get piece.flow m (counts_of (cutflow (over_clusters spans d set) f)) nothing (counts_are (length done) m f listed both.0))
        (flows_from ns gs (done ++ f ∷ []) (joined ∙ sym (append_assoc done (f ∷ []) gs)) both.1)

    -- the counts of a report's filters
    pub counts_line : (ns : List ℕ) → AreNumbered (named_before script) ns fs → map (λ m. get_or piece.flow m nothing) ns ≡ map (λ f. counts_of (cutflow (over_clusters spans d set) f)) fs
    counts_line ns h = flows_from ns fs [] refl h
