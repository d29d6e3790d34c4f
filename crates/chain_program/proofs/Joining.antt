-- Parts of a script, joined or printed.
use Rattle.lemmas.proofs.{◌≡◌, ◌<◌, ◌+◌, ℕ, suc, Bool, true, false, ◌&&◌, cond, None, Some, List, [], ◌∷◌, length, refl, ap, ap₂, ◌∙◌, sym, subst, arith, not, position, slice_get, AllByRecursion, both_true, list_all, position_from, position_from-zero}
use Rattle.rdf_values.specs.{Column, Function, same, Script}
use Rattle.graph_numbers.specs.{GraphView}
use Rattle.shard_files.specs.{same_columns}
use Rattle.graph_shapes.specs.{graph_shapes, pass_kind}
use Rattle.chain_files.specs.{are_loops, digest_of, first_misshapen, in_order, is_of, IsPart, not_behind, PartView, placed}
use Rattle.chain_text.specs.{FitGraph}
use Rattle.chain_text.proofs.Fitting.{shaped_loops_fit}
use Rattle.chain_due.specs.{ChainDue, graph_over, IsEachPrinted, IsJoined}
use Rattle.chain_program.specs.{AllFitScript, AreJoinable, CanPrint, IsJoinedBy, IsPrintedBy}
use Rattle.chain_program.specs.declared.fitting.Fitting.{Fitting}
use Rattle.chain_program.proofs.Chaining.{columns_equal}

-- ---- all parts pass a test

module _ (test : PartView → Bool) where
  none_from : (xs : List PartView) (i : ℕ) → position_from (λ s. not (test s)) i xs ≡ None → list_all test xs ≡ true
  none_from [] i h = refl
  none_from (x ∷ xs) i h = by (test x) h (λ q. none_from xs (i + 1) q)
    where
      by : (b : Bool) → cond (not b) (Some i) (position_from (λ s. not (test s)) (i + 1) xs) ≡ None → (position_from (λ s. not (test s)) (i + 1) xs ≡ None → list_all test xs ≡ true) → (b && list_all test xs) ≡ true
      by true q f = f q
      by false q f = cc q

  pub all_pass : (xs : List PartView) → position (λ s. not (test s)) xs ≡ None → list_all test xs ≡ true
  all_pass xs h = none_from xs 0 (sym (position_from-zero (λ s. not (test s)) xs) ∙ h)

  placed_pass : (s : PartView) (ts : List PartView) → test s ≡ true → list_all test ts ≡ true → list_all test (placed s ts) ≡ true
  placed_pass s [] h g = ap₂ (λ x y. x && y) h g
  placed_pass s (t ∷ ts) h g = let both = both_true (test t) (list_all test ts) g in by (not_behind s t) both.0 (placed_pass s ts h both.1)
    where
      by : (b : Bool) → test t ≡ true → list_all test (placed s ts) ≡ true → list_all test (cond b (s ∷ t ∷ ts) (t ∷ placed s ts)) ≡ true
      by true p q = ap₂ (λ x y. x && y) h g
      by false p q = ap₂ (λ x y. x && y) p q

  in_order_pass : (ss : List PartView) → list_all test ss ≡ true → list_all test (in_order ss) ≡ true
  in_order_pass [] h = refl
  in_order_pass (s ∷ ss) h = let both = both_true (test s) (list_all test ss) h in placed_pass s (in_order ss) both.0 (in_order_pass ss both.1)

-- ---- as many in order

placed_many : (s : PartView) (ts : List PartView) → length (placed s ts) ≡ suc (length ts)
placed_many s [] = refl
placed_many s (t ∷ ts) = by (not_behind s t) (placed_many s ts)
  where
    by : (b : Bool) → length (placed s ts) ≡ suc (length ts) → length (cond b (s ∷ t ∷ ts) (t ∷ placed s ts)) ≡ suc (suc (length ts))
    by true h = refl
    by false h = ap suc h

in_order_many : (ss : List PartView) → length (in_order ss) ≡ length ss
in_order_many [] = refl
in_order_many (s ∷ ss) = placed_many s (in_order ss) ∙ ap suc (in_order_many ss)

-- ---- joining

pub some_in_order : (f : Fitting) (parts sorted : List PartView) → AreJoinable f parts → sorted ≡ in_order parts → 0 < length sorted
some_in_order f parts sorted h e = (let some = h.some in let many : length sorted ≡ length parts = ap length e ∙ in_order_many parts in omega arith)

module _ (fns : List Function) (bytes : List ℕ) (script : Script) where
  pub joinable : (parts : List PartView) (f : Fitting) → AllFitScript fns bytes script parts f → AreJoinable f parts
  joinable [] f h = absurd h
  joinable (first ∷ others) f h = record {
    some = omega arith;
    script = digest_of bytes;
    alike = h.alike;
    shaped = subst (λ shapes. first_misshapen shapes (first ∷ others) ≡ None) (sym h.shapes) h.shaped;
  }

  pub joined_is_due : (parts : List PartView) (f : Fitting) (d : ChainDue) → AllFitScript fns bytes script parts f → IsJoinedBy f.shapes (in_order parts) d → IsJoined fns script (in_order parts) d
  joined_is_due [] f d h j = absurd h
  joined_is_due (first ∷ others) f d h j = go (in_order (first ∷ others)) (in_order_pass (is_of (digest_of bytes) first.columns) (first ∷ others) (all_pass (is_of (digest_of bytes) first.columns) (first ∷ others) h.alike)) j
    where
      go : (sorted : List PartView) → list_all (is_of (digest_of bytes) first.columns) sorted ≡ true → IsJoinedBy f.shapes sorted d → IsJoined fns script sorted d
      go [] p k = k
      go (s ∷ ss) p k =
          let one = both_true (is_of (digest_of bytes) first.columns s) (list_all (is_of (digest_of bytes) first.columns) ss) p in
          let head = both_true (same s.script (digest_of bytes)) (same_columns s.columns first.columns) one.0 in
          let shapes : f.shapes ≡ graph_shapes (graph_over fns script s.columns) = h.shapes ∙ ap (λ (cs : List Column). graph_shapes (graph_over fns script cs)) (sym (columns_equal s.columns first.columns head.1)) in
          subst (λ l. IsJoinedBy l (s ∷ ss) d) shapes k

  -- ---- printing

  pub printable : (parts : List PartView) (part : PartView) (f : Fitting) → AllByRecursion IsPart parts → parts ≡ part ∷ [] → AllFitScript fns bytes script parts f → CanPrint f.graph part
  printable parts part f valid e h = go (subst (λ ss. AllByRecursion IsPart ss) e valid) (subst (λ ss. AllFitScript fns bytes script ss f) e h)
    where
      go : AllByRecursion IsPart (part ∷ []) → AllFitScript fns bytes script (part ∷ []) f → CanPrint f.graph part
      go v k =
          let shaped = all_pass (λ (s : PartView). are_loops (graph_shapes (graph_over fns script part.columns)) s.loops) (part ∷ []) k.shaped in
          let one = both_true (are_loops (graph_shapes (graph_over fns script part.columns)) part.loops) true shaped in
          (v.0, subst (λ (g : GraphView). are_loops (graph_shapes g) part.loops ≡ true) (sym k.graph) one.0)

  pub printed_is_due : (parts : List PartView) (part : PartView) (f : Fitting) (count : ℕ) (d : ChainDue) → parts ≡ part ∷ [] → AllFitScript fns bytes script parts f → IsPrintedBy f.graph count part d → IsEachPrinted fns script count parts d
  printed_is_due parts part f count d e h p = subst (λ ss. IsEachPrinted fns script count ss d) (sym e) (go (subst (λ ss. AllFitScript fns bytes script ss f) e h))
    where
      go : AllFitScript fns bytes script (part ∷ []) f → IsEachPrinted fns script count (part ∷ []) d
      go k = subst (λ (g : GraphView). IsPrintedBy g count part d) k.graph p

pub prints_fit : (g : GraphView) (part : PartView) → CanPrint g part → FitGraph g part.loops
prints_fit g part h = shaped_loops_fit g (pass_kind g) part h.0 h.1

pub only_one : (parts : List PartView) (part : PartView) → length parts ≡ 1 → slice_get parts 0 ≡ Some part → parts ≡ part ∷ []
only_one [] part n at = absurd (omega arith)
only_one (s ∷ []) part n at = (let same : s ≡ part = cc at in ap (λ x. x ∷ []) same)
only_one (s ∷ t ∷ ss) part n at = absurd (omega arith)
