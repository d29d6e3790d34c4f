-- What a snapshot reads of each entry.
use Rattle.std.specs.Prelude.{◌≡◌, ℕ, List, map}
use Rattle.rdf_values.specs.{fn_names}
use Rattle.rdf_model.specs.{Dataset}
use Rattle.graph_numbers.specs.{booked_statements, filter_sites, version_at}
use Rattle.snapshot_plan.specs.{PlanView}
use Rattle.snapshot_entries.specs.declared.wanted.WantedSites.{WantedSites}

-- the versions of the plan's columns at its node
abbrev pub AreVersions : PlanView → Dataset → List ℕ → Type 0
AreVersions p d cs = cs ≡ map (version_at d.columns (booked_statements p.graph) p.node) p.columns

-- and the sites of the filters above it
pub record IsWanted (p : PlanView) (d : Dataset) (w : WantedSites) : Type 0 where
  pub filters : w.filters ≡ filter_sites d.columns (fn_names d.fns) (booked_statements p.graph) p.node
  pub columns : AreVersions p d w.columns
