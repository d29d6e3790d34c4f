use Rattle.lemmas.proofs.{arith, sym}
use Rattle.rdf_values.specs.{AreAccepted, fn_names, history, scope_of, Script}
use Rattle.rdf_model.specs.{Dataset}
use Rattle.rdf_model.proofs.Typing.{each_weaker}
use Rattle.rdf_model.proofs.Accepted.{verdict_is_the_first_refusal}
use Rattle.graph_numbers.specs.{graph_of, IsGraph}
use Rattle.graph_numbers.proofs.Apart.{site_number, variation_number}
use Rattle.graph_numbers.proofs.Closing.{columns_below}
use Rattle.graph_numbers.proofs.Covering.{column_source, site_is, source_is, actions_have_sites, filters_have_sites, filters_are_the_scripts, reports_cover_filters, loops_are, runs_are, booked_are, result_is}
use Rattle.graph_numbers.proofs.Placing.{itself, versions_count}
use Rattle.graph_numbers.proofs.Origins.{version_source}
use Rattle.graph_numbers.proofs.laws.laws_hold.Goals as goal

accepted : (script : Script) (d : Dataset) → IsGraph (graph_of script d) → AreAccepted (fn_names d.fns) (scope_of d.columns) (history script)
accepted script d g = (verdict_is_the_first_refusal (fn_names d.fns) d.columns script).0 g.accepted

pub returns : goal.returns
returns c =
    record {
      evaluations = λ script d g row u s x h. site_is ⊥ d.fns d.columns row u (history script) (accepted script d g) s x h;
      columns = λ script d g row u node name t h.
          sym (source_is ⊥ d.fns d.columns row u (history script) _ _ (column_source ⊥ d.fns d.columns row u (history script) (accepted script d g) node name t h));
      below = λ script d g u s x h.
          each_weaker _ _ (λ c k. (let n = versions_count d.columns (fn_names d.fns) (history script) in let m = k.0 in omega (arith, n, m), k.1)) x.tree
          (columns_below d.fns d.columns u (history script) (accepted script d g) s x h);
      sites_apart = λ script d g s x h. site_number d.columns (fn_names d.fns) (history script) (accepted script d g) s x h;
      variations_apart = λ script d g v x h. variation_number d.columns (fn_names d.fns) (history script) (accepted script d g) v x h;
      bookings = λ g. booked_are g.header g.names (history g.script);
      results = λ script d g row u n r h. result_is ⊥ d.fns d.columns row u (history script) (history script) (accepted script d g) itself n r h;
      loops = λ g. loops_are (history g.script) (history g.script) itself;
      prints = λ g. runs_are (history g.script) (history g.script) itself;
      sources = λ g is u c x h. version_source g.header g.names (history g.script) ((verdict_is_the_first_refusal g.names g.header g.script).0 is.accepted) u c x h;
      filters = filters_are_the_scripts;
      filter_sites = filters_have_sites;
      action_sites = actions_have_sites;
      covered = reports_cover_filters;
    }
