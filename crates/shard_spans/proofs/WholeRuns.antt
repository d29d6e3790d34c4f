-- The loops of spans that follow one another come to those of one run over all clusters.
use Rattle.lemmas.proofs.{if◌then◌else◌, ◌≡◌, ◌⊎◌, inl, inr, ℕ, zero, suc, ◌+◌, ◌-◌, ◌<◌, ◌≤◌, Bool, false, List, [], ◌∷◌, ◌++◌, length, map, Option, None, Some, refl, sym, ap, ap₂, ◌∙◌, subst, arith, append-nil, append_assoc, ⊎_elim, flat_map, fold, nat_lt, slice_get, flat_map-append, map-append, nat_tests, slice_get-map}
use Rattle.rdf_values.specs.{below, ColType, Fault, first_in, Lead, Pass, Span, Value}
use Rattle.rdf_values.proofs.UnionLemmas.{slice_get-below}
use Rattle.rdf_model.specs.{Dataset, first_of, rows_in, span_rows}
use Rattle.loop_pieces.specs.{cluster_fault, cluster_faults}
use Rattle.loop_pieces.proofs.ByCluster.{lower_clusters_fault_first}
use Rattle.shard_lines.specs.{joined_lines, PassShape, ShardLine}
use Rattle.shard_files.specs.{all_lines, fault_or_lines, first_loop, joined_loop, joined_loops, least_fault, lines_in, or_earlier, other_loops, ShardLoop, ShardView, up_to_fault}
use Rattle.shard_files.specs.declared.shard_loop.ShardLoop.TheVariants.{Whole, Faulted}
use Rattle.shard_spans.specs.{clusters_in, over_span, pass_line, pass_shapes, span_fault, span_loop, span_loops}
use Rattle.shard_spans.proofs.Following.{Each, Follow, IsWithin}
use Rattle.shard_spans.proofs.LinesOfBoth.{line_of_both}
use Rattle.shard_spans.proofs.SpanFaults.{clusters_more, clusters_none, first_faulty_cluster_has_the_fault, first_in-append, first_next}

-- ---- clusters

clusters_by : (a b n : ℕ) → a ≤ b → clusters_in a b ++ clusters_in b (b + n) ≡ clusters_in a (b + n)
clusters_by a b zero le =
    let same : b + 0 ≡ b = omega arith in
    ap (λ k. clusters_in a b ++ clusters_in b k) same ∙ ap (λ l. clusters_in a b ++ l) (clusters_none b) ∙ append-nil (clusters_in a b) ∙ sym (ap (clusters_in a) same)
clusters_by a b (suc n) le =
    let next : b + suc n ≡ (b + n) + 1 = omega arith in
    ap (λ k. clusters_in a b ++ clusters_in b k) next ∙ ap (λ l. clusters_in a b ++ l) (clusters_more b (b + n) (omega arith))
    ∙ sym (append_assoc (clusters_in a b) (clusters_in b (b + n)) ((b + n) ∷ [])) ∙ ap (λ l. l ++ (b + n) ∷ []) (clusters_by a b n le)
    ∙ sym (clusters_more a (b + n) (omega arith)) ∙ sym (ap (clusters_in a) next)

clusters_split : (a b c : ℕ) → a ≤ b → b ≤ c → clusters_in a b ++ clusters_in b c ≡ clusters_in a c
clusters_split a b c le up = let same : b + (c - b) ≡ c = omega arith in subst (λ k. clusters_in a b ++ clusters_in b k ≡ clusters_in a k) same (clusters_by a b (c - b) le)

-- ---- the first fault of a span has a cluster

first_two : (a b : Option Fault) (f : Fault) → first_of a b ≡ Some f → (a ≡ Some f) ⊎ (b ≡ Some f)
first_two None b f h = inr h
first_two (Some g) b f h = inl h

module _ (F : ℕ → Option Fault) where
  has_cluster_by : (a n : ℕ) (f : Fault) → first_in (map F (clusters_in a (a + n))) ≡ Some f → (c : ℕ) × (a ≤ c) × (c < a + n) × (F c ≡ Some f)
  has_cluster_by a zero f h =
      let same : a + 0 ≡ a = omega arith in
      let none : clusters_in a (a + 0) ≡ [] = ap (clusters_in a) same ∙ clusters_none a in
      let no : None ≡ Some f = sym (ap (λ l. first_in (map F l)) none) ∙ h in absurd (cc)
  has_cluster_by a (suc n) f h =
      let next : a + suc n ≡ (a + n) + 1 = omega arith in
      ⊎_elim
      (λ q. let r = has_cluster_by a n f q in let up = r.1 in let lt = r.2 in (r.0, up, omega arith, r.3))
      (λ q. (a + n, omega arith, omega arith, q))
      (first_two (first_in (map F (clusters_in a (a + n)))) (F (a + n)) f (sym (first_next F a (a + n) (omega arith)) ∙ sym (ap (λ k. first_in (map F (clusters_in a k))) next) ∙ h))

  has_cluster : (a b : ℕ) (f : Fault) → a ≤ b → first_in (map F (clusters_in a b)) ≡ Some f → (c : ℕ) × (a ≤ c) × (c < b) × (F c ≡ Some f)
  has_cluster a b f le h = let same : a + (b - a) ≡ b = omega arith in let r = has_cluster_by a (b - a) f (ap (λ k. first_in (map F (clusters_in a k))) same ∙ h) in let lt = r.2 in (r.0, r.1, omega arith, r.3)

  faults_split : (a b c : ℕ) → a ≤ b → b ≤ c → first_in (map F (clusters_in a c)) ≡ first_of (first_in (map F (clusters_in a b))) (first_in (map F (clusters_in b c)))
  faults_split a b c le up = ap (λ l. first_in (map F l)) (sym (clusters_split a b c le up)) ∙ ap first_in (map-append F (clusters_in a b) (clusters_in b c)) ∙ first_in-append (map F (clusters_in a b)) (map F (clusters_in b c))

-- ---- one loop

module _ (d : Dataset) (spans : List Span) (leads : Lead 0 (length d.rows) spans) (column : Pass → ColType) where
  -- the rows of a span, and of spans one behind the other
  abbrev rows_of : ShardView → List (List Value)
  rows_of s = rows_in spans d.rows (clusters_in s.lo s.hi)

  abbrev all_rows : List ShardView → List (List Value)
  all_rows ss = flat_map rows_of ss

  rows_split : (a b c : ℕ) → a ≤ b → b ≤ c → rows_in spans d.rows (clusters_in a b) ++ rows_in spans d.rows (clusters_in b c) ≡ rows_in spans d.rows (clusters_in a c)
  rows_split a b c le up = sym (flat_map-append (λ k. span_rows d.rows (slice_get spans k)) (clusters_in a b) (clusters_in b c)) ∙ ap (rows_in spans d.rows) (clusters_split a b c le up)

  no_rows : (a b : ℕ) → a ≡ b → rows_in spans d.rows (clusters_in a b) ≡ []
  no_rows a b same = ap (λ k. rows_in spans d.rows (clusters_in k b)) same ∙ ap (rows_in spans d.rows) (clusters_none b)

  follow_rows : (at : ℕ) (ss : List ShardView) → Each (IsWithin (length spans)) ss → Follow (length spans) at ss → all_rows ss ≡ rows_in spans d.rows (clusters_in at (length spans))
  follow_rows at [] within h = sym (no_rows at (length spans) h)
  follow_rows at (s ∷ ss) within (inl h) = ap (λ l. l ++ all_rows ss) (no_rows s.lo s.hi h.0) ∙ follow_rows at ss within.1 h.1
  follow_rows at (s ∷ ss) within (inr h) =
      let lt = h.1 in
      ap₂ (λ (a b : List (List Value)). a ++ b) (ap (λ k. rows_in spans d.rows (clusters_in k s.hi)) h.0) (follow_rows s.hi ss within.1 h.2) ∙ rows_split at s.hi (length spans) (omega arith) within.0.1

  module _ (ps : List Pass) where
    abbrev F : ℕ → Option Fault
    F = cluster_fault d spans ps

    fault_of : (lo hi : ℕ) → lo ≤ hi → hi ≤ length spans → span_fault spans d ps lo hi ≡ first_in (map F (clusters_in lo hi))
    fault_of lo hi le top = sym (first_faulty_cluster_has_the_fault d spans ps lo hi leads le top)

    at_cluster : (c : ℕ) (f : Fault) → c < length spans → F c ≡ Some f → slice_get (cluster_faults d spans ps) c ≡ Some (Some f)
    at_cluster c f lt h = slice_get-map F (below (length spans)) c ∙ ap (λ o. elim o [ None ↦ None | Some k ↦ Some (F k) ]) (slice_get-below (length spans) c lt) ∙ ap (λ o. Some o) h

    -- a fault of lower clusters has a lower entry
    lower_first : (a b c : ℕ) (f g : Fault) → a ≤ b → b ≤ c → c ≤ length spans → first_in (map F (clusters_in a b)) ≡ Some f → first_in (map F (clusters_in b c)) ≡ Some g → f.entry < g.entry
    lower_first a b c f g le up top here there =
        let x = has_cluster F a b f le here in
        let y = has_cluster F b c g up there in
        let x_lt = x.2 in let y_up = y.1 in let y_lt = y.2 in
        lower_clusters_fault_first d spans ps leads x.0 y.0 f g (omega arith) (at_cluster x.0 f (omega arith) x.3) (at_cluster y.0 g (omega arith) y.3)

    earlier_first : (a b c : ℕ) (f : Fault) (o : Option Fault) → a ≤ b → b ≤ c → c ≤ length spans → first_in (map F (clusters_in a b)) ≡ Some f → first_in (map F (clusters_in b c)) ≡ o → or_earlier f o ≡ f
    earlier_first a b c f None le up top here there = refl
    earlier_first a b c f (Some g) le up top here there =
        let lt = lower_first a b c f g le up top here there in
        let no : nat_lt g.entry f.entry ≡ false = grind (arith, nat_tests, lt) in
        ap (λ (t : Bool). if t then g else f) no

    abbrev loop_of : ShardView → ShardLoop
    loop_of s = span_loop spans d s.lo s.hi ps

    -- the least fault is that of the first span with one
    one_least : (a b c : ℕ) (lines : List ShardLine) (ls : List ShardLoop) (o : Option Fault) → a ≤ b → b ≤ c → c ≤ length spans → first_in (map F (clusters_in a b)) ≡ o → least_fault ls ≡ first_in (map F (clusters_in b c))
        → least_fault (fault_or_lines o lines ∷ ls) ≡ first_of o (first_in (map F (clusters_in b c)))
    one_least a b c lines ls None le up top here rest = rest
    one_least a b c lines ls (Some f) le up top here rest = ap (λ x. Some x) (ap (or_earlier f) rest ∙ earlier_first a b c f (first_in (map F (clusters_in b c))) le up top here refl)

    follow_faults : (at : ℕ) (ss : List ShardView) → Each (IsWithin (length spans)) ss → Follow (length spans) at ss → least_fault (map loop_of ss) ≡ first_in (map F (clusters_in at (length spans)))
    follow_faults at [] within h = sym (ap (λ k. first_in (map F (clusters_in k (length spans)))) h ∙ ap (λ l. first_in (map F l)) (clusters_none (length spans)))
    follow_faults at (s ∷ ss) within (inl h) =
        let none : first_in (map F (clusters_in s.lo s.hi)) ≡ None = ap (λ k. first_in (map F (clusters_in k s.hi))) h.0 ∙ ap (λ l. first_in (map F l)) (clusters_none s.hi) in
        let sound : span_fault spans d ps s.lo s.hi ≡ None = fault_of s.lo s.hi within.0.0 within.0.1 ∙ none in
        ap (λ o. least_fault (fault_or_lines o (map (pass_line (over_span spans d s.lo s.hi)) ps) ∷ map loop_of ss)) sound ∙ follow_faults at ss within.1 h.1
    follow_faults at (s ∷ ss) within (inr h) =
        let lt = h.1 in
        let here : span_fault spans d ps s.lo s.hi ≡ first_in (map F (clusters_in at s.hi)) = fault_of s.lo s.hi within.0.0 within.0.1 ∙ ap (λ k. first_in (map F (clusters_in k s.hi))) h.0 in
        ap (λ o. least_fault (fault_or_lines o (map (pass_line (over_span spans d s.lo s.hi)) ps) ∷ map loop_of ss)) here
        ∙ one_least at s.hi (length spans) (map (pass_line (over_span spans d s.lo s.hi)) ps) (map loop_of ss) (first_in (map F (clusters_in at s.hi))) (omega arith) within.0.1 (omega arith) refl (follow_faults s.hi ss within.1 h.2)
        ∙ sym (faults_split F at s.hi (length spans) (omega arith) within.0.1)

    -- ---- lines

    lines_of_both : (xs ys : List (List Value)) (qs : List Pass) → joined_lines (pass_shapes column qs) (map (pass_line (record d { rows = xs })) qs) (map (pass_line (record d { rows = ys })) qs) ≡ map (pass_line (record d { rows = xs ++ ys })) qs
    lines_of_both xs ys [] = refl
    lines_of_both xs ys (q ∷ qs) = ap₂ (λ (l : ShardLine) ls. l ∷ ls) (line_of_both d xs ys (column q) q.result.booking q) (lines_of_both xs ys qs)

    its_lines : (s : ShardView) → span_fault spans d ps s.lo s.hi ≡ None → lines_in (loop_of s) ≡ map (pass_line (record d { rows = rows_of s })) ps
    its_lines s sound = ap (λ o. lines_in (fault_or_lines o (map (pass_line (over_span spans d s.lo s.hi)) ps))) sound

    folded : (xs : List (List Value)) (ss : List ShardView) → Each (λ s. span_fault spans d ps s.lo s.hi ≡ None) ss
        → fold (λ ls m. joined_lines (pass_shapes column ps) ls (lines_in m)) (map (pass_line (record d { rows = xs })) ps) (map loop_of ss) ≡ map (pass_line (record d { rows = xs ++ all_rows ss })) ps
    folded xs [] sound = ap (λ l. map (pass_line (record d { rows = l })) ps) (sym (append-nil xs))
    folded xs (s ∷ ss) sound =
        ap (λ ls. fold (λ ks m. joined_lines (pass_shapes column ps) ks (lines_in m)) ls (map loop_of ss)) (ap (joined_lines (pass_shapes column ps) (map (pass_line (record d { rows = xs })) ps)) (its_lines s sound.0) ∙ lines_of_both xs (rows_of s) ps)
        ∙ folded (xs ++ rows_of s) ss sound.1 ∙ ap (λ l. map (pass_line (record d { rows = l })) ps) (append_assoc xs (rows_of s) (all_rows ss))

    lines_of_all : (s : ShardView) (ss : List ShardView) → Each (λ t. span_fault spans d ps t.lo t.hi ≡ None) (s ∷ ss) → all_lines (pass_shapes column ps) (map loop_of (s ∷ ss)) ≡ map (pass_line (record d { rows = all_rows (s ∷ ss) })) ps
    lines_of_all s ss sound = ap (λ ls. fold (λ ks m. joined_lines (pass_shapes column ps) ks (lines_in m)) ls (map loop_of ss)) (its_lines s sound.0) ∙ folded (rows_of s) ss sound.1

    sound_first : (o : Option Fault) (lines : List ShardLine) (ls : List ShardLoop) → least_fault (fault_or_lines o lines ∷ ls) ≡ None → (o ≡ None) × (least_fault ls ≡ None)
    sound_first None lines ls h = (refl, h)
    sound_first (Some f) lines ls h = absurd (cc)

    pub all_sound : (ss : List ShardView) → least_fault (map loop_of ss) ≡ None → Each (λ s. span_fault spans d ps s.lo s.hi ≡ None) ss
    all_sound [] h = tt
    all_sound (s ∷ ss) h = let both = sound_first (span_fault spans d ps s.lo s.hi) (map (pass_line (over_span spans d s.lo s.hi)) ps) (map loop_of ss) h in (both.0, all_sound ss both.1)

    -- the joined loop is that of all clusters
    pub loop_is_whole : (s : ShardView) (ss : List ShardView) → Each (IsWithin (length spans)) (s ∷ ss) → Follow (length spans) 0 (s ∷ ss) → joined_loop (pass_shapes column ps) (map loop_of (s ∷ ss)) ≡ span_loop spans d 0 (length spans) ps
    loop_is_whole s ss within h = go (least_fault (map loop_of (s ∷ ss))) refl
      where
        all_faults : least_fault (map loop_of (s ∷ ss)) ≡ span_fault spans d ps 0 (length spans)
        all_faults = follow_faults 0 (s ∷ ss) within h ∙ sym (fault_of 0 (length spans) (omega arith) (omega arith))

        go : (o : Option Fault) → least_fault (map loop_of (s ∷ ss)) ≡ o → joined_loop (pass_shapes column ps) (map loop_of (s ∷ ss)) ≡ span_loop spans d 0 (length spans) ps
        go (Some f) q =
            ap (λ o. fault_or_lines o (all_lines (pass_shapes column ps) (map loop_of (s ∷ ss)))) q
            ∙ sym (ap (λ o. fault_or_lines o (map (pass_line (over_span spans d 0 (length spans))) ps)) (sym all_faults ∙ q))
        go None q =
            ap₂ (λ o ls. fault_or_lines o ls) q (lines_of_all s ss (all_sound (s ∷ ss) q) ∙ ap (λ l. map (pass_line (record d { rows = l })) ps) (follow_rows 0 (s ∷ ss) within h))
            ∙ sym (ap (λ o. fault_or_lines o (map (pass_line (over_span spans d 0 (length spans))) ps)) (sym all_faults ∙ q))

-- ---- all loops

first_loop_is : (x : ShardLoop) (xs : List ShardLoop) → first_loop (up_to_fault x xs) ≡ x
first_loop_is (Whole ls) xs = refl
first_loop_is (Faulted f) xs = refl

other_loops_are : (o : Option Fault) (lines : List ShardLine) (xs : List ShardLoop) → o ≡ None → other_loops (up_to_fault (fault_or_lines o lines) xs) ≡ xs
other_loops_are o lines xs none = ap (λ p. other_loops (up_to_fault (fault_or_lines p lines) xs)) none

module _ (d : Dataset) (spans : List Span) (leads : Lead 0 (length d.rows) spans) (column : Pass → ColType) where
  abbrev loops_in : List (List Pass) → ShardView → List ShardLoop
  loops_in L s = span_loops spans d s.lo s.hi L

  first_loops : (ps : List Pass) (L : List (List Pass)) (ss : List ShardView) → map first_loop (map (loops_in (ps ∷ L)) ss) ≡ map (λ (s : ShardView). span_loop spans d s.lo s.hi ps) ss
  first_loops ps L [] = refl
  first_loops ps L (s ∷ ss) = ap₂ (λ (l : ShardLoop) ls. l ∷ ls) (first_loop_is (span_loop spans d s.lo s.hi ps) (loops_in L s)) (first_loops ps L ss)

  rest_of_loops : (ps : List Pass) (L : List (List Pass)) (ss : List ShardView) → Each (λ s. span_fault spans d ps s.lo s.hi ≡ None) ss → map other_loops (map (loops_in (ps ∷ L)) ss) ≡ map (loops_in L) ss
  rest_of_loops ps L [] sound = refl
  rest_of_loops ps L (s ∷ ss) sound =
      ap₂ (λ (l : List ShardLoop) ls. l ∷ ls) (other_loops_are (span_fault spans d ps s.lo s.hi) (map (pass_line (over_span spans d s.lo s.hi)) ps) (loops_in L s) sound.0) (rest_of_loops ps L ss sound.1)

  pub loops_are_whole : (L : List (List Pass)) (s : ShardView) (ss : List ShardView) → Each (IsWithin (length spans)) (s ∷ ss) → Follow (length spans) 0 (s ∷ ss)
      → joined_loops (map (pass_shapes column) L) (map (loops_in L) (s ∷ ss)) ≡ span_loops spans d 0 (length spans) L
  loops_are_whole [] s ss within h = refl
  loops_are_whole (ps ∷ L) s ss within h = go (least_fault (map (λ (t : ShardView). span_loop spans d t.lo t.hi ps) (s ∷ ss))) refl (loops_are_whole L s ss within h)
    where
      shapes : List (List PassShape)
      shapes = map (pass_shapes column) L

      one : joined_loop (pass_shapes column ps) (map first_loop (map (loops_in (ps ∷ L)) (s ∷ ss))) ≡ span_loop spans d 0 (length spans) ps
      one = ap (joined_loop (pass_shapes column ps)) (first_loops ps L (s ∷ ss)) ∙ loop_is_whole d spans leads column ps s ss within h

      joined_is : joined_loop (pass_shapes column ps) (map (λ (t : ShardView). span_loop spans d t.lo t.hi ps) (s ∷ ss)) ≡ span_loop spans d 0 (length spans) ps
      joined_is = loop_is_whole d spans leads column ps s ss within h

      go : (o : Option Fault) → least_fault (map (λ (t : ShardView). span_loop spans d t.lo t.hi ps) (s ∷ ss)) ≡ o → joined_loops (map (pass_shapes column) L) (map (loops_in L) (s ∷ ss)) ≡ span_loops spans d 0 (length spans) L
          → joined_loops (map (pass_shapes column) (ps ∷ L)) (map (loops_in (ps ∷ L)) (s ∷ ss)) ≡ span_loops spans d 0 (length spans) (ps ∷ L)
      go None q next =
          ap₂ (λ x xs. up_to_fault x xs) one (ap (joined_loops (map (pass_shapes column) L)) (rest_of_loops ps L (s ∷ ss) (all_sound d spans leads column ps (s ∷ ss) q)) ∙ next)
      go (Some f) q next =
          let faulty : span_loop spans d 0 (length spans) ps ≡ Faulted f = sym joined_is ∙ ap (λ o. fault_or_lines o (all_lines (pass_shapes column ps) (map (λ (t : ShardView). span_loop spans d t.lo t.hi ps) (s ∷ ss)))) q in
          ap (λ x. up_to_fault x (joined_loops (map (pass_shapes column) L) (map other_loops (map (loops_in (ps ∷ L)) (s ∷ ss))))) (one ∙ faulty)
          ∙ sym (ap (λ x. up_to_fault x (span_loops spans d 0 (length spans) L)) faulty)
