-- A site's lane after it was evaluated over a block.
use Rattle.lemmas.proofs.{◌≡◌, ◌≤◌, ◌+◌, ◌-◌, ◌++◌, ℕ, zero, suc, true, List, [], ◌∷◌, length, map, take, replicate, get_or, Option, Some, None, refl, sym, ◌∙◌, ap, subst, arith, slice_get, ◌<◌, ◌||◌, Bool, false, length-set, set, All, if◌then◌else◌, get_or-set_same, get_or-set_other, ◌⊎◌, inl, inr, not, count_by, ℤ, unwrap_or, All-set, All-weaker, cases_eq, get_or_from_slice_get, length-append, length-map, set-append_right, set_at, slice_get_within, take-append_seam, false_from_ne_true, map-set_same, or_right, sum_by-set}
use Rattle.std.proofs.lemmas.List.{length-replicate}
use Rattle.rdf_values.specs.{NumTree, Value, ColType}
use Rattle.rdf_model.specs.{call_outcome, evaluate, Faults, Gives, Needs, Outcome, fault_in}
use Rattle.expr_check.specs.{CheckedExpr}
use Rattle.graph_numbers.specs.{IsSiteExpr, graph_sites, cell_value}
use Rattle.block_cache.specs.{cells_at, held_at, held_value, IsTelling, LaneView, block_job, own_key, AreReadOver, AreReadyOver, FitAt, HasSource, is_held, IsBegun, IsBegunFor, IsEvaluated, IsLaneSet, IsTriedFor, outcome_over, value_of, AreReady, holds_at, IsSameAt, lane_holds, site_fault, begun_at, begun_count, IsBegunAt, IsBrokenOffFor, IsGrownOver, IsOnlyCalled, kinds_of, lane_begun, room_of, rooms_of, tried_count}
use Rattle.loop_keys.specs.{Held, held_in, held_or_need, is_held as has_held, IsJob, IsRight, IsSound, job_graph, JobView, key, look_at, site_in, key_count, CanEvaluate, CanLook, held_count, IsFilled, source_at, Grows, key_under, ValuePlace, place_of, row_in, row_of}
use Rattle.loop_keys.proofs.EvaluateLaws.{found_right, needed_met, needed_missing}
use Rattle.loop_keys.proofs.KeyLaws.{HasTree, has_tree, written, key_small}
use Rattle.block_cache.specs.declared.block.Wanted.{Wanted}
use Rattle.expr_lanes.specs.{EachPlace, is_in, Stopped, IsVectorAt}
use Rattle.block_cache.proofs.LaneSteps.{given_among}
use Rattle.loop_keys.proofs.ActionLaws.{can_evaluate}
use Rattle.std.specs.Option.{option_and_then}
use Rattle.rdf_values.proofs.KeptLemmas.{cell_of_column, column_length}

-- ---- what is held of the entries of a block, key by key: one key at a place

abbrev pub lane_held : Option LaneView → ℕ → Held
lane_held None p = Held.Nothing
lane_held (Some l) p = held_at l p

none_held : (m i : ℕ) → get_or (replicate m Held.Nothing) i Held.Nothing ≡ Held.Nothing
none_held (suc m) (suc i) = none_held m i
none_held m i = refl

held_then : (m : ℕ) (lanes : List LaneView) (p i : ℕ) → get_or (map (λ (l : LaneView). held_at l p) lanes ++ replicate m Held.Nothing) i Held.Nothing ≡ lane_held (slice_get lanes i) p
held_then m [] p i = none_held m i
held_then m (l ∷ lanes) p zero = refl
held_then m (l ∷ lanes) p (suc i) = held_then m lanes p i

pub held_of_lane : (n : ℕ) (lanes : List LaneView) (p i : ℕ) → held_in (cells_at n lanes p) i ≡ lane_held (slice_get lanes i) p
held_of_lane n lanes p i = held_then (n - length lanes) lanes p i

pub cells_long : (n : ℕ) (lanes : List LaneView) (p : ℕ) → length lanes ≤ n → length (cells_at n lanes p) ≡ n
cells_long n lanes p few = simp (length-append, length-map, length-replicate) (omega (arith, few))

-- ---- the lanes of the first keys alone

taken : (lanes : List LaneView) (k i p : ℕ) (h : Held) (P : Held → Type 0) → P Held.Nothing → P (lane_held (slice_get lanes i) p) → P (lane_held (slice_get (take k lanes) i) p)
taken lanes zero i p h P none is = none
taken (l ∷ lanes) (suc k) (suc i) p h P none is = taken lanes k i p h P none is
taken lanes (suc k) i p h P none is = is

-- what is held of them is right
pub sound_below : (j : JobView) (entry n k p : ℕ) (lanes : List LaneView) → IsSound j entry (cells_at n lanes p) → IsSound j entry (cells_at n (take k lanes) p)
sound_below j entry n k p lanes sound = record {
  each = λ u s inside.
      let i = key (job_graph j) s u in
      subst (λ (h : Held). IsRight (site_in j entry u s) h) (sym (held_of_lane n (take k lanes) p i))
      (taken lanes k i p Held.Nothing (IsRight (site_in j entry u s)) tt (subst (λ (h : Held). IsRight (site_in j entry u s) h) (held_of_lane n lanes p i) (sound.each u s inside)));
}

-- what is held alike is right alike
pub sound_alike : (j : JobView) (entry : ℕ) (a b : List Held) → ((i : ℕ) → held_in a i ≡ held_in b i) → IsSound j entry a → IsSound j entry b
sound_alike j entry a b same sound = record { each = λ u s inside. subst (λ (h : Held). IsRight (site_in j entry u s) h) (same (key (job_graph j) s u)) (sound.each u s inside) }

-- ---- what an evaluation tells

pub value_held : (v : Value) → has_held (held_value v) ≡ true
value_held v = grind arith

pub value_told : (c : ℕ) (v : Value) → held_or_need c (held_value v) ≡ Gives v
value_told c v = grind arith

pub right_value : (o : Outcome ⊥ Value) (v : Value) → IsRight o (held_value v) → o ≡ Gives v
right_value o v h = grind arith

module _ (j : JobView) (job : IsJob j) (entry : ℕ) (u : Option ℕ) (cells : List Held) (sound : IsSound j entry cells) (s : ℕ) (e : CheckedExpr) (its : IsSiteExpr (job_graph j) s e) where
  abbrev looked : Outcome ℕ Value
  looked = evaluate (look_at j entry u cells) (call_outcome j.dataset.fns) e.tree

  pub tells : IsTelling j entry u cells s looked
  tells = go looked refl
    where
      x : HasTree j job entry u cells sound s e its
      x = has_tree j job entry u cells sound s e its

      of_tree : (o : Outcome ℕ Value) → looked ≡ o → o ≡ evaluate (look_at j entry u cells) (call_outcome j.dataset.fns) x.0.tree
      of_tree o is = sym is ∙ ap (λ (t : NumTree). evaluate (look_at j entry u cells) (call_outcome j.dataset.fns) t) (sym x.2)

      go : (o : Outcome ℕ Value) → looked ≡ o → IsTelling j entry u cells s o
      go (Gives v) is = right_value (site_in j entry u s) v (found_right j job entry u cells sound s x.0 x.1 (held_value v) (value_held v) (value_told 0 v ∙ of_tree (Gives v) is))
      go (Faults k) is = sym (found_right j job entry u cells sound s x.0 x.1 (Held.Faulted k) refl (of_tree (Faults k) is))
      go (Needs c) is = ((needed_missing j job entry u cells sound s x.0 x.1 c (of_tree (Needs c) is)).1, needed_met j job entry u cells sound s x.0 x.1 c (of_tree (Needs c) is))

pub given_right : (o : Outcome ⊥ Value) (v : Value) → o ≡ Gives v → IsRight o (held_value v)
given_right o v h = grind arith

-- the parts of a site that is wanted over a block
abbrev pub parts_of : {V : Type 0} {D : V → Type 0} {g : _} (w : Wanted V D g) → record { j : JobView; job : IsJob j; first : ℕ; u : Option ℕ; count : ℕ; s : ℕ; keys : ℕ; own : ℕ; at : ℕ → ℕ }
parts_of w = record {
  j = block_job w.block.now;
  job = w.block.now.fits.job;
  first = w.block.now.at.now.entry;
  u = w.block.now.at.now.under;
  count = w.block.now.count;
  s = w.site;
  keys = key_count (job_graph (block_job w.block.now));
  own = own_key w;
  at = λ t. key (job_graph (block_job w.block.now)) t w.block.now.at.now.under;
}

-- ---- a lane that is written

get_other : (lanes : List LaneView) (k i : ℕ) (l : LaneView) → (i ≡ k → ⊥) → slice_get (set lanes k l) i ≡ slice_get lanes i
get_other (x ∷ lanes) zero zero l other = absurd (other refl)
get_other (x ∷ lanes) (suc k) (suc i) l other = get_other lanes k i l (λ e. other (ap suc e))
get_other lanes k i l other = refl

pub lane_is : {k : ℕ} {before after : List LaneView} (at : IsLaneSet k before after) → slice_get after k ≡ Some at.lane
lane_is {k = k} {before = before} at = ap (λ (ls : List LaneView). slice_get ls k) at.written ∙ set_at before k at.lane (slice_get_within before k at.own at.is_own)

pub other_is : {k : ℕ} {before after : List LaneView} (at : IsLaneSet k before after) (i : ℕ) → (i ≡ k → ⊥) → slice_get after i ≡ slice_get before i
other_is {k = k} {before = before} at i other = ap (λ (ls : List LaneView). slice_get ls i) at.written ∙ get_other before k i at.lane other

-- a key, and any other
pub by_key : (own : ℕ) (P : ℕ → Type 0) → P own → ((k : ℕ) → (k ≡ own → ⊥) → P k) → (k : ℕ) → P k
by_key own P here other k = grind (arith, cases_eq)

-- ---- what it holds

pub selected_inside : {j : JobView} {first count : ℕ} {lanes : List LaneView} (sel : List ℕ) → AreReady j first count lanes → EachPlace sel (λ p. p < count) → All (λ (l : LaneView). EachPlace sel (λ p. p < l.count)) lanes
selected_inside {count = count} {lanes = lanes} sel ready inside = All-weaker (λ (l : LaneView). l.count ≡ count) (λ l. EachPlace sel (λ p. p < l.count)) (λ l e p i. rw e (inside p i)) lanes ready.counts

pub held_true : (l : LaneView) (p : ℕ) → is_held l p ≡ true → held_at l p ≡ held_value (value_of l p)
held_true l p h = ap (λ b. if b then held_value (value_of l p) else Held.Nothing) h

pub held_false : (l : LaneView) (p : ℕ) → is_held l p ≡ false → held_at l p ≡ Held.Nothing
held_false l p h = ap (λ b. if b then held_value (value_of l p) else Held.Nothing) h

-- a place that came to no value holds what it held
pub same_held : (f : ℕ → Outcome ℕ Value) (sel left : List ℕ) (own lane : LaneView) (stops more : List Stopped) → IsEvaluated f sel left own lane stops more → EachPlace sel (λ p. is_held own p ≡ false) → (p : ℕ) → is_in p left ≡ false → held_at own p ≡ held_at lane p
same_held f sel left own lane stops more ev unknown p not_left = grind (arith, held_false, held_true)

-- ---- the lanes of the keys below a site's, and the others, of which its own is the first

got_part : (below rest : List LaneView) (d : LaneView) → 0 < length rest → slice_get (below ++ rest) (length below) ≡ Some (get_or rest 0 d)
got_part [] [] d some = absurd (omega (arith, some))
got_part [] (x ∷ rest) d some = refl
got_part (x ∷ below) rest d some = got_part below rest d some

module _ {V : Type 0} {D : V → Type 0} {g : _} (w : Wanted V D g) (below rest : List LaneView) (long : length below ≡ own_key w) (ready : AreReadyOver w.block.now (below ++ rest)) where
  open parts_of w use {j, first, u, keys, own as own_place}

  abbrev lanes : List LaneView
  lanes = below ++ rest

  small : own_place < keys
  small = key_small (job_graph j) w.site u w.there

  pub own_there : 0 < length rest
  own_there = omega (arith, long, ready.many, small, length-append below rest)

  pub lanes_below : take own_place lanes ≡ below
  lanes_below = ap (λ n. take n lanes) (sym long) ∙ take-append_seam below rest

  module _ (d : LaneView) where
    abbrev own : LaneView
    own = get_or rest 0 d

    pub own_at : slice_get lanes own_place ≡ Some own
    own_at = ap (slice_get lanes) (sym long) ∙ got_part below rest d own_there

    pub own_count : own.count ≡ w.block.now.count
    own_count = grind (arith, small, get_or_from_slice_get, own_at)

    abbrev set_own : (lane : LaneView) (new : List LaneView) → new ≡ below ++ set rest 0 lane → IsLaneSet own_place lanes new
    set_own lane new is = record {
      own = own;
      is_own = own_at;
      lane = lane;
      written =
          (let none : own_place - own_place ≡ 0 = omega arith in
          is ∙ sym (set-append_right below rest own_place own_place lane long (omega arith) ∙ ap (λ n. below ++ set rest n lane) none));
    }

    -- where memory was wanted
    pub begun_over : (sel : List ℕ) (lane : LaneView) (new : List LaneView) → IsBegun sel own lane → new ≡ below ++ set rest 0 lane → IsBegunFor w sel lanes new
    begun_over sel lane new begun is = record { at = set_own lane new is; begun = begun }

    module _ (e : CheckedExpr) (its : IsSiteExpr (job_graph j) w.site e) where
      sound : (p : ℕ) → p < w.block.now.count → IsSound j (first + p) (cells_at keys below p)
      sound p low = subst (λ (ls : List LaneView). IsSound j (first + p) (cells_at keys ls p)) lanes_below (sound_below j (first + p) keys own_place p lanes (ready.sound p low))

      telling : (p : ℕ) → p < w.block.now.count → IsTelling j (first + p) u (cells_at keys (take own_place lanes) p) w.site (outcome_over w.block.now below e.tree p)
      telling p low =
          subst (λ (ls : List LaneView). IsTelling j (first + p) u (cells_at keys ls p) w.site (outcome_over w.block.now below e.tree p)) (sym lanes_below) (tells j w.block.now.fits.job (first + p) u (cells_at keys below p) (sound p low) w.site e its)

      looks : (p : ℕ) → p < w.block.now.count → CanEvaluate j (first + p) u (cells_at keys below p) e
      looks p low = can_evaluate j w.block.now.fits.job (first + p) u (cells_at keys below p) can (sound p low) w.site e its
        where
          can : CanLook j (first + p) (cells_at keys below p)
          can = record { sized = cells_long keys below p (omega (arith, long, small)); within = omega (arith, ready.within, low) }

      -- what the expression reads can be read of the lanes below, and fits
      pub reads_over : All (λ (c : ℕ × ColType). HasSource j first u w.block.now.count (take own_place lanes) w.block.now.cells.now (source_at j u c.0)) e.kinds → AreReadOver w.block.now below e
      reads_over sources k d low = record {
        readable = (looks 0 ready.some).can k d low;
        source = subst (λ (ls : List LaneView). HasSource j first u w.block.now.count ls w.block.now.cells.now (source_at j u (get_or e.kinds k d).0)) lanes_below (sources k d low);
      }

      pub fits_over : (p : ℕ) → p < w.block.now.count → FitAt w.block.now below e p
      fits_over p low = (looks p low).fit

      module _
          (sel left : List ℕ) (lane : LaneView) (stops more : List Stopped) (ev : IsEvaluated (outcome_over w.block.now below e.tree) sel left own lane stops more)
          (unknown : EachPlace sel (λ p. is_held own p ≡ false)) (new : List LaneView)
          (is : new ≡ below ++ set rest 0 lane)
        where
          abbrev at : IsLaneSet own_place lanes new
          at = set_own lane new is

          own_before : (p : ℕ) → held_in (cells_at keys lanes p) own_place ≡ held_at own p
          own_before p = held_of_lane keys lanes p own_place ∙ ap (λ o. lane_held o p) own_at

          own_after : (p : ℕ) → held_in (cells_at keys new p) own_place ≡ held_at lane p
          own_after p = held_of_lane keys new p own_place ∙ ap (λ o. lane_held o p) (lane_is at)

          other_held : (p i : ℕ) → (i ≡ own_place → ⊥) → held_in (cells_at keys lanes p) i ≡ held_in (cells_at keys new p) i
          other_held p i other = held_of_lane keys lanes p i ∙ ap (λ o. lane_held o p) (sym (other_is at i other)) ∙ sym (held_of_lane keys new p i)

          -- a place that came to no value
          kept_at : (p : ℕ) → p < w.block.now.count → is_in p left ≡ false → IsSound j (first + p) (cells_at keys new p)
          kept_at p low not_left =
              sound_alike j (first + p) (cells_at keys lanes p) (cells_at keys new p)
              (by_key own_place (λ i. held_in (cells_at keys lanes p) i ≡ held_in (cells_at keys new p) i) (own_before p ∙ same_held _ sel left own lane stops more ev unknown p not_left ∙ sym (own_after p)) (other_held p)) (ready.sound p low)

          -- and one that did
          given_at : (p : ℕ) → p < w.block.now.count → is_in p left ≡ true → IsSound j (first + p) (cells_at keys new p)
          given_at p low is_left = sound_alike j (first + p) (set (cells_at keys lanes p) own_place h) (cells_at keys new p) same filled.0.sound
            where
              h : Held
              h = held_value (value_of lane p)

              comes : site_in {M = ⊥} j (first + p) u w.site ≡ Gives (value_of lane p)
              comes = subst (λ (o : Outcome ℕ Value). IsTelling j (first + p) u (cells_at keys (take own_place lanes) p) w.site o) (ev.values p is_left) (telling p low)

              can : CanLook j (first + p) (cells_at keys lanes p)
              can = record { sized = cells_long keys lanes p (omega (arith, ready.many)); within = omega (arith, ready.within, low) }

              empty : held_in (cells_at keys lanes p) own_place ≡ Held.Nothing
              empty = own_before p ∙ held_false own p (unknown p (given_among _ sel left ev.left_in p is_left))

              filled : IsFilled j (first + p) u w.site (cells_at keys lanes p) (set (cells_at keys lanes p) own_place h) × (held_count (set (cells_at keys lanes p) own_place h) ≡ held_count (cells_at keys lanes p) + 1)
              filled =
                  written j (first + p) u (cells_at keys lanes p) can (ready.sound p low) w.site w.there own_place refl small h (given_right (site_in j (first + p) u w.site) (value_of lane p) comes) (value_held (value_of lane p)) empty (set (cells_at keys lanes p) own_place h) refl

              same : (i : ℕ) → held_in (set (cells_at keys lanes p) own_place h) i ≡ held_in (cells_at keys new p) i
              same = by_key own_place (λ i. held_in (set (cells_at keys lanes p) own_place h) i ≡ held_in (cells_at keys new p) i)
                  (get_or-set_same (cells_at keys lanes p) own_place h Held.Nothing (omega (arith, can.sized, small)) ∙ sym (own_after p ∙ held_true lane p (ev.held p ∙ ap (λ b. b || is_held own p) is_left)))
                  (λ i n. get_or-set_other (cells_at keys lanes p) own_place i h Held.Nothing n ∙ other_held p i n)

          ready_after : AreReadyOver w.block.now new
          ready_after = record {
            many = ap (λ (ls : List LaneView). length ls) at.written ∙ length-set lanes own_place lane ∙ ready.many;
            counts = subst (λ (ls : List LaneView). All (λ (l : LaneView). l.count ≡ w.block.now.count) ls) (sym at.written) (All-set (λ l. l.count ≡ w.block.now.count) lanes own_place lane (ev.begun.count ∙ own_count) ready.counts);
            some = ready.some;
            within = ready.within;
            sound = λ p low. by p low (is_in p left) refl;
          }
            where
              by : (p : ℕ) → p < w.block.now.count → (b : Bool) → is_in p left ≡ b → IsSound j (first + p) (cells_at keys new p)
              by p low true h = given_at p low h
              by p low false h = kept_at p low h

          pub tried_over : IsTriedFor w sel left lanes new stops more
          tried_over = record { at = at; told = outcome_over w.block.now below e.tree; telling = telling; evaluated = ev; ready = ready_after }

-- ---- what is known of a key at a place, by its lane: what is held

lane_says : (o : Option LaneView) (p : ℕ) → has_held (lane_held o p) ≡ lane_holds o p
lane_says o p = grind (arith, value_held)

pub holds_is : (n : ℕ) (lanes : List LaneView) (k p : ℕ) → has_held (held_in (cells_at n lanes p) k) ≡ holds_at lanes k p
holds_is n lanes k p = ap has_held (held_of_lane n lanes p k) ∙ lane_says (slice_get lanes k) p

pub same_holds : (n : ℕ) (a b : List LaneView) (k p : ℕ) → IsSameAt n a b k p → holds_at b k p ≡ holds_at a k p
same_holds n a b k p same = sym (holds_is n b k p) ∙ ap has_held same.1 ∙ holds_is n a k p

pub same_on : (n : ℕ) (a b c : List LaneView) (k p : ℕ) → IsSameAt n a b k p → IsSameAt n b c k p → IsSameAt n a c k p
same_on n a b c k p h i = (i.0 ∙ h.0, i.1 ∙ h.1)

pub holds_nothing : (n : ℕ) (lanes : List LaneView) (k p : ℕ) → held_in (cells_at n lanes p) k ≡ Held.Nothing → holds_at lanes k p ≡ false
holds_nothing n lanes k p none = sym (holds_is n lanes k p) ∙ ap has_held none

pub holds_on : (n : ℕ) (a b : List LaneView) (k p : ℕ) → Grows (cells_at n a p) (cells_at n b p) → holds_at a k p ≡ true → holds_at b k p ≡ true
holds_on n a b k p grows holds = let was = holds_is n a k p ∙ holds in sym (holds_is n b k p) ∙ ap has_held (grows k was) ∙ was

-- what is held by one and the other
pub lacks_before : (n : ℕ) (a b : List LaneView) (k p : ℕ) → Grows (cells_at n a p) (cells_at n b p) → holds_at b k p ≡ false → holds_at a k p ≡ false
lacks_before n a b k p grows lacks = false_from_ne_true (holds_at a k p) (λ h. cc (lacks, holds_on n a b k p grows h))

-- a held value is the site's
module _ (j : JobView) (first : ℕ) (u : Option ℕ) (count s : ℕ) (inside : s < length (graph_sites (job_graph j))) (lanes : List LaneView) (ready : AreReady j first count lanes) (p : ℕ) (low : p < count) where
  held_right : (o : Option LaneView) → lane_holds o p ≡ true → lane_held o p ≡ held_in (cells_at (key_count (job_graph j)) lanes p) (key (job_graph j) s u) → (v : Value) × (site_in {M = ⊥} j (first + p) u s ≡ Gives v)
  held_right o holds h = grind (arith, held_true)

  pub held_gives : holds_at lanes (key (job_graph j) s u) p ≡ true → (v : Value) × (site_in {M = ⊥} j (first + p) u s ≡ Gives v)
  held_gives holds = held_right (slice_get lanes (key (job_graph j) s u)) holds (sym (held_of_lane (key_count (job_graph j)) lanes p (key (job_graph j) s u)))

  pub held_no_fault : holds_at lanes (key (job_graph j) s u) p ≡ true → site_fault j first u s p ≡ None
  held_no_fault holds = ap fault_in (held_gives holds).1

-- ---- a site whose evaluation was begun at the places of a group, over the lanes of all keys

-- what is known of a key at a place goes by its lane
same_by_lane : (n : ℕ) (a b : List LaneView) (k p : ℕ) → lane_begun (slice_get b k) p ≡ lane_begun (slice_get a k) p → lane_held (slice_get b k) p ≡ lane_held (slice_get a k) p → IsSameAt n a b k p
same_by_lane n a b k p begun held = (begun, held_of_lane n b p k ∙ held ∙ sym (held_of_lane n a p k))

module _
    {V : Type 0} {D : V → Type 0} {g : _} (w : Wanted V D g) {group : List ℕ} {before after : List LaneView} (at : IsLaneSet (own_key w) before after) (begun : IsBegunAt group at.own at.lane)
    (as_was : (p : ℕ) → (is_held at.own p ≡ true) ⊎ (is_in p group ≡ false) → held_at at.own p ≡ held_at at.lane p)
  where
    open parts_of w use {j, first, u, keys, own as its_key}

    other_same : (k p : ℕ) → (k ≡ its_key → ⊥) → IsSameAt keys before after k p
    other_same k p n =
        let e = other_is at k n in
        same_by_lane keys before after k p (ap (λ o. lane_begun o p) e) (ap (λ o. lane_held o p) e)

    pub own_begun : (p : ℕ) → begun_at after its_key p ≡ (is_in p group || begun_at before its_key p)
    own_begun p = ap (λ o. lane_begun o p) (lane_is at) ∙ begun.tried p ∙ ap (λ o. is_in p group || lane_begun o p) (sym at.is_own)

    own_held : (p : ℕ) → (is_held at.own p ≡ true) ⊎ (is_in p group ≡ false) → held_in (cells_at keys after p) its_key ≡ held_in (cells_at keys before p) its_key
    own_held p h = held_of_lane keys after p its_key ∙ ap (λ o. lane_held o p) (lane_is at) ∙ sym (as_was p h) ∙ ap (λ o. lane_held o p) (sym at.is_own) ∙ sym (held_of_lane keys before p its_key)

    own_same : (p : ℕ) → is_in p group ≡ false → IsSameAt keys before after its_key p
    own_same p out = (own_begun p ∙ ap (λ b. b || begun_at before its_key p) out, own_held p (inr out))

    pub all_same : (k p : ℕ) → (k ≡ its_key → ⊥) ⊎ (is_in p group ≡ false) → IsSameAt keys before after k p
    all_same k p (inl n) = other_same k p n
    all_same k p (inr out) = by_key its_key (λ i. IsSameAt keys before after i p) (own_same p out) (λ i n. other_same i p n) k

    grows : (p k : ℕ) → has_held (held_in (cells_at keys before p) k) ≡ true → held_in (cells_at keys after p) k ≡ held_in (cells_at keys before p) k
    grows p = by_key its_key (λ k. has_held (held_in (cells_at keys before p) k) ≡ true → held_in (cells_at keys after p) k ≡ held_in (cells_at keys before p) k)
        (λ h. own_held p (inl (ap (λ o. lane_holds o p) (sym at.is_own) ∙ sym (holds_is keys before its_key p) ∙ h))) (λ k n h. (other_same k p n).1)

    abbrev CalledAt : List ℕ → (ℕ → Bool) → ℕ → ℕ → Type 0
    CalledAt sel D p k = IsSameAt keys before after k p ⊎ ((is_in p sel ≡ true) × ((t : ℕ) × (t ≤ w.site) × (D t ≡ true) × (k ≡ key (job_graph j) t u)))

    only : (sel : List ℕ) → EachPlace group (λ p. is_in p sel ≡ true) → IsOnlyCalled j first u w.site sel before after
    only sel sub D each k p = by_key its_key (CalledAt sel (D p) p) (here (is_in p group) refl) (λ i n. inl (other_same i p n)) k
      where
        here : (b : Bool) → is_in p group ≡ b → CalledAt sel (D p) p its_key
        here true i = inr (sub p i, (w.site, omega arith, (each p (sub p i)).1, refl))
        here false out = inl (own_same p out)

    pub all_grown : (sel : List ℕ) → EachPlace group (λ p. is_in p sel ≡ true) → IsGrownOver j first u w.site sel before after
    all_grown sel sub =
        let was = get_or_from_slice_get before its_key at.own at.own at.is_own in
        record {
          kinds = ap (λ (ls : List LaneView). kinds_of ls) at.written ∙ map-set_same (λ (l : LaneView). l.kind) before its_key at.lane at.own (begun.same.kind ∙ ap (λ (l : LaneView). l.kind) (sym was));
          rooms = ap (λ (ls : List LaneView). rooms_of ls) at.written ∙ map-set_same room_of before its_key at.lane at.own (begun.same.room ∙ ap room_of (sym was));
          stays = λ k p. by_key its_key (λ i. begun_at before i p ≡ true → begun_at after i p ≡ true) (λ h. own_begun p ∙ or_right (is_in p group) (begun_at before its_key p) h) (λ i n h. (other_same i p n).0 ∙ h) k;
          grows = grows;
          only = only sel sub;
        }

    pub all_newly : begun_count after ≡ begun_count before + count_by (λ p. not (begun_at before its_key p)) group
    all_newly =
        let e = sum_by-set tried_count before its_key at.lane at.own (slice_get_within before its_key at.own at.is_own) in
        let was = ap tried_count (get_or_from_slice_get before its_key at.own at.own at.is_own) in
        let now = ap begun_count at.written in
        let more = begun.newly ∙ ap (λ o. tried_count at.own + count_by (λ p. not (lane_begun o p)) group) (sym at.is_own) in
        omega (arith, e, was, now, more)

-- memory was wanted
module _ {V : Type 0} {D : V → Type 0} {g : _} (w : Wanted V D g) {group : List ℕ} {before after : List LaneView} (t : IsBegunFor w group before after) where
  as_before : (p : ℕ) → (is_held t.at.own p ≡ true) ⊎ (is_in p group ≡ false) → held_at t.at.own p ≡ held_at t.at.lane p
  as_before p h = grind (arith, held_true, held_false)

  pub broken_off : {start end : ℕ} → end ≤ start + length group → IsBrokenOffFor w group before after start end
  broken_off few = record { grown = all_grown w t.at t.begun.begun as_before; newly = all_newly w t.at t.begun.begun as_before; few = few }

-- ---- the vectors of the table's columns

row_cell : (o : Option (List Value)) (col : ℕ) (x : Value) → option_and_then (λ row. slice_get row col) o ≡ Some x → slice_get (unwrap_or o []) col ≡ Some x
row_cell o col x h = grind arith

-- each vector of a column is the value of its entry
pub vector_of_entry : (rows : List (List Value)) (col e : ℕ) (vectors : List (List ℤ)) → map (λ row. slice_get row col) rows ≡ map (λ zs. Some (Value.Vect zs)) vectors → e < length rows → IsVectorAt vectors e (cell_value (slice_get (row_in rows e) col))
vector_of_entry rows col e vectors h low = record {
  there = omega (arith, low, column_length rows col (λ zs. Value.Vect zs) vectors h);
  told = λ zs s. ap (cell_value {M = ℕ}) (row_cell (slice_get rows e) col (Value.Vect zs) (cell_of_column rows col e (λ xs. Value.Vect xs) vectors zs h s));
}

-- a version that stands in a column comes to the column's value
pub column_seen : (j : JobView) (entry : ℕ) (u : Option ℕ) (cells : List Held) (c col : ℕ) → place_of (key_under (job_graph j) u) (source_at j u c) ≡ ValuePlace.Cell col → cell_value (slice_get (row_of j entry) col) ≡ look_at j entry u cells c
column_seen j entry u cells c col stood = grind arith
