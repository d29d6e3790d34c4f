-- What rows demand, what reports come to, and what a run's output depends on.
use Rattle.lemmas.proofs.{◌≡◌, true, ◌&&◌, Some, None, refl, ap, nat_eq, ℕ, ◌≤◌, Bool, false, List, [], ◌∷◌, arith, ◌⊎◌, inl, Option, both_true, Decides-eqb}
use Rattle.rdf_values.specs.{same, same_variation, Under, Variation, Column, Function, maker, named_maker, Path, Statement, target_of, Value, Fault, history, is_watched, Script}
use Rattle.rdf_model.specs.{Demand, same_demand, same_site, same_under, Site, ◌>>=◌, column_in, cutflow, Dataset, Entry, Feed, Gives, named_in, named_value, Outcome, passes_filters, report_in, Access, access_passes, access_printed, accesses, Course, first_fault, Printed, printed, transcript}
use Rattle.rdf_model.proofs.Accepted.{names_equal}
use Rattle.std.proofs.lemmas.List.Sums.{sum_by-le-sum_by}

site_is : (s t : Site) → same_site s t ≡ true → s ≡ t
site_is s t h =
    let p = both_true (same s.node t.node && nat_eq s.column t.column) (nat_eq s.tag t.tag) h in
    let q = both_true (same s.node t.node) (nat_eq s.column t.column) p.0 in
    let a : s.node ≡ t.node = names_equal s.node t.node q.0 in
    let b : s.column ≡ t.column = (Decides-eqb s.column t.column).0 q.1 in
    let c : s.tag ≡ t.tag = (Decides-eqb s.tag t.tag).0 p.1 in
    λ i. record { node = a i; column = b i; tag = c i }

variation_is : (v w : Variation) → same_variation v w ≡ true → v ≡ w
variation_is v w h =
    let p = both_true (same v.name w.name) (same v.tag w.tag) h in
    let a : v.name ≡ w.name = names_equal v.name w.name p.0 in
    let b : v.tag ≡ w.tag = names_equal v.tag w.tag p.1 in
    λ i. record { name = a i; tag = b i }

under_is : (u v : Under) → same_under u v ≡ true → u ≡ v
under_is (Some v) (Some w) h = ap Some (variation_is v w h)
under_is u v h = grind arith

pub demand_is : (p q : Demand) → same_demand p q ≡ true → p ≡ q
demand_is p q h =
    let b = both_true (same_site p.site q.site) (same_under p.under q.under) h in
    let a = site_is p.site q.site b.0 in let c = under_is p.under q.under b.1 in
    λ i. record { site = a i; under = c i }

-- ---- Filters and reports.

module _ (d : Dataset) where
  passed_above : (s : Statement) (up : Path) (row : List Value) → passes_filters d (s ∷ up) row ≡ true → passes_filters d up row ≡ true
  passed_above s up row h = grind arith

pub passed_are_among_reached : (d : Dataset) (filter : Path) → (cutflow d filter).pass ≤ (cutflow d filter).all
passed_are_among_reached d filter = grind (arith, sum_by-le-sum_by, passed_above)

-- ---- reports

not_fed : (values : List Value) (o : Outcome ⊥ Bool) (rest : Outcome ⊥ Entry) → (rest ≡ Gives (Feed values) → ⊥) → (o >>= λ passed. rest) ≡ Gives (Feed values) → ⊥
not_fed values o rest h q = grind arith

pub reports_are_fed_nothing : (d : Dataset) (row : List Value) (filters : List Path) (values : List Value) → report_in d row filters ≡ Gives (Feed values) → ⊥
reports_are_fed_nothing d row [] values q = cc q
reports_are_fed_nothing d row (f ∷ fs) values q = grind (arith, not_fed, reports_are_fed_nothing d row fs values)

-- ---- makers

module _ (fns : List Function) (columns : List Column) (row : List Value) where
  -- a column that is no alias, under nominal
  named_from_maker : (at : Path) (name : List ℕ) → named_value fns columns row {M = ⊥} at None name ≡ named_value fns columns row (named_maker at name) None name
  named_from_maker [] name = refl
  named_from_maker (s ∷ up) name = grind (arith, named_from_maker up name)

pub columns_come_from_their_maker : (d : Dataset) (row : List Value) (at : Path) (name : List ℕ) → column_in d row at None name ≡ named_in d row (maker at name) None (target_of at name)
columns_come_from_their_maker d row at name = named_from_maker d.fns d.columns row at (target_of at name)

-- ---- What the output of a run depends on.

module _ (script : List Statement) (d : Dataset) (one other : Course) (unwatched : (name : List ℕ) → is_watched script name ≡ false) where
  access_alike : (a : Access) (f : Option Fault) (rest : Printed) → access_printed script d one a f rest ≡ access_printed script d other a f rest
  access_alike a (Some f) rest = refl
  access_alike a None rest = grind arith

  printed_alike : (as' : List Access) → printed script d one as' ≡ printed script d other as'
  printed_alike [] = refl
  printed_alike (a ∷ rest) =
      λ i. access_alike a (first_fault d (access_passes script d one a)) (printed_alike rest i) i

pub unwatched_output_is_one_function : (script : Script) (d : Dataset) (one other : Course) → ((name : List ℕ) → is_watched (history script) name ≡ false) → transcript script d one ≡ transcript script d other
unwatched_output_is_one_function script d one other h = printed_alike (history script) d one other h (accesses (history script))

module _ (script : List Statement) (d : Dataset) (course : Course) where
  printed_status : (as' : List Access) → ((printed script d course as').status ≡ 0) ⊎ ((printed script d course as').status ≡ 8)
  printed_status [] = inl refl
  printed_status (a ∷ rest) = grind (arith, printed_status rest)

pub status_tells_of_faults : (script : Script) (d : Dataset) (course : Course) → ((transcript script d course).status ≡ 0) ⊎ ((transcript script d course).status ≡ 8)
status_tells_of_faults script d course = printed_status (history script) d course (accesses (history script))
