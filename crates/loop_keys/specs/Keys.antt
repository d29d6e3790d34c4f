-- The keys of an entry's evaluations: for each site in order one for nominal and one for each variation on which it depends.
use Rattle.std.specs.Prelude.{◌≡◌, ℕ, zero, suc, ◌+◌, List, [], ◌∷◌, length, take, Option, Some, None, if◌then◌else◌, slice_get, slice_index_or, count_by}
use Rattle.rdf_values.specs.{place, same_variation, Under, Variation}
use Rattle.rdf_model.specs.{Demand, same_site}
use Rattle.graph.specs.{has, members_below, VarSet}
use Rattle.graph_numbers.specs.{depends_on, graph_sites, graph_sources, graph_variations, graph_versions, GraphView, holds_at, SiteAt, Source, source_in}
use Rattle.loop_keys.specs.declared.rows.ValuePlace.{ValuePlace}
use Rattle.loop_keys.specs.declared.rows.Row.{Row}

-- how many keys a site has
abbrev pub own_keys : List Variation → SiteAt → ℕ
own_keys vs x = suc (count_by (depends_on x) vs)

-- how many keys the first so many sites have
abbrev pub keys_before : List Variation → List SiteAt → ℕ → ℕ
keys_before vs [] s = 0
keys_before vs (x ∷ xs) zero = 0
keys_before vs (x ∷ xs) (suc s) = own_keys vs x + keys_before vs xs s

-- the place of a variation among a site's keys: that of nominal where the site doesn't depend on it
abbrev pub slot : List Variation → SiteAt → Option ℕ → ℕ
slot vs x None = 0
slot vs x (Some v) = if holds_at (depends_on x) (slice_get vs v) then suc (count_by (depends_on x) (take v vs)) else 0

abbrev pub slot_at : List Variation → Option SiteAt → Option ℕ → ℕ
slot_at vs None u = 0
slot_at vs (Some x) u = slot vs x u

-- the key of a site under nominal or a variation, by their numbers
abbrev pub key : GraphView → ℕ → Option ℕ → ℕ
key g s u = keys_before (graph_variations g) (graph_sites g) s + slot_at (graph_variations g) (slice_get (graph_sites g) s) u

-- how many keys there are
abbrev pub key_count : GraphView → ℕ
key_count g = keys_before (graph_variations g) (graph_sites g) (length (graph_sites g))

-- ---- the key of what an entry calls for

-- the number of a variation
abbrev pub under_number : GraphView → Under → Option ℕ
under_number g None = None
under_number g (Some v) = place (same_variation v) (graph_variations g)

abbrev pub key_or_first : GraphView → Option ℕ → Under → ℕ
key_or_first g None u = 0
key_or_first g (Some s) u = key g s (under_number g u)

-- the key of a demand: that of its site's number and its variation's
abbrev pub demand_key : GraphView → Demand → ℕ
demand_key g d = key_or_first g (place (λ x. same_site d.site x.site) (graph_sites g)) d.under

-- the place of a variation's key after that of nominal, by the set of variations on which a site depends
abbrev pub slot_in : VarSet → Option ℕ → ℕ
slot_in depends None = 0
slot_in depends (Some v) = if has depends v then suc (members_below depends v) else 0

-- each element of a list of so many is right at its place
pub record AreEach {A : Type 0} (P : ℕ → A → Type 0) (n : ℕ) (xs : List A) : Type 0 where
  pub many : length xs ≡ n
  pub each : (i : ℕ) (x : A) → slice_get xs i ≡ Some x → P i x

-- ---- where what is read stands

-- the key of a site under nominal or a variation, by the keys under it
abbrev pub key_or_count : List ℕ → ℕ → ℕ → ℕ
key_or_count keys count s = slice_index_or keys s count

abbrev pub key_under : GraphView → Option ℕ → ℕ → ℕ
key_under g u s = key g s u

-- where a version stands that this source gives its value
abbrev pub place_of : (ℕ → ℕ) → Source → ValuePlace
place_of key (Source.Cell col) = ValuePlace.Cell col
place_of key (Source.Site s) = ValuePlace.Key (key s)
place_of key (Source.Element s k tags) = ValuePlace.Element (key s) k tags

-- the key of each site under nominal or a variation
abbrev pub AreUnder : GraphView → Option ℕ → List ℕ → Type 0
AreUnder g u ks = AreEach (λ s k. k ≡ key g s u) (length (graph_sites g)) ks

-- where each version stands under nominal or a variation
abbrev pub ArePlaces : GraphView → Option ℕ → List ValuePlace → Type 0
ArePlaces g u ps = AreEach (λ c p. p ≡ place_of (key_under g u) (source_in (graph_sources g u) c)) (length (graph_versions g)) ps

pub record IsRow (g : GraphView) (u : Option ℕ) (r : Row) : Type 0 where
  pub keys : AreUnder g u r.keys
  pub places : ArePlaces g u r.places

-- nominal first, and then each variation
abbrev pub row_under : ℕ → Option ℕ
row_under zero = None
row_under (suc v) = Some v

-- the rows of nominal and each variation
abbrev pub AreKeys : GraphView → List Row → Type 0
AreKeys g rs = AreEach (λ i r. IsRow g (row_under i) r) (suc (length (graph_variations g))) rs
