-- The numbers of a plan's versions and sites, by what the graph answers.
use Rattle.lemmas.proofs.{◌≡◌, ℕ, ◌≤◌, List, length, sym, ap, ap₂, ◌∙◌, arith}
use Rattle.rdf_values.specs.{Column, fn_names, Statement}
use Rattle.rdf_model.specs.{Dataset}
use Rattle.graph_numbers.specs.{booked_statements, filter_sites, graph_sites, graph_versions, named_version, version_count}
use Rattle.graph_numbers.proofs.Placing.{versions_count}
use Rattle.graph.specs.{filter_numbers, site_total}
use Rattle.graph.proofs.Finished.{numbers_are, total_is}
use Rattle.graph.proofs.Walking.{named_few}
use Rattle.snapshot_plan.specs.{PlanView}
use Rattle.snapshot_entries.specs.{IsWork}

module _ (p : PlanView) (d : Dataset) (work : IsWork p d) (h : List Column) (b : List Statement) (eh : h ≡ p.graph.header) (eb : b ≡ booked_statements p.graph) where
  pub versions_many : (n : ℕ) → n ≡ length (graph_versions p.graph) → n ≡ version_count h b
  versions_many n is = is ∙ versions_count p.graph.header p.graph.names (booked_statements p.graph) ∙ sym (ap₂ version_count eh eb)

  pub version_few : (n : ℕ) → n ≡ length (graph_versions p.graph) → (node target : List ℕ) (v : ℕ) → v ≡ named_version h b node target → v ≤ n
  version_few n is node target v at = (let few = named_few h b node target in omega (arith, versions_many n is, at, few))

  pub sites_many : (n : ℕ) → n ≡ length (graph_sites p.graph) → n ≡ site_total b
  sites_many n is = is ∙ total_is p.graph.header p.graph.names (booked_statements p.graph) ∙ ap site_total (sym eb)

  pub filters_are : (node : List ℕ) (l : List ℕ) → node ≡ p.node → l ≡ filter_numbers b node → l ≡ filter_sites d.columns (fn_names d.fns) (booked_statements p.graph) p.node
  filters_are node l is at = at ∙ ap₂ filter_numbers eb is ∙ numbers_are d.columns (fn_names d.fns) (booked_statements p.graph) p.node
