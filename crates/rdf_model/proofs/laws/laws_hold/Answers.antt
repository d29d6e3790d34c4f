use Rattle.rdf_model.proofs.Accepted as accepted
use Rattle.rdf_model.proofs.Evaluations as evaluations
use Rattle.rdf_model.proofs.Faults as faults
use Rattle.rdf_model.proofs.Limits as limits
use Rattle.rdf_model.proofs.Demands as demands
use Rattle.rdf_model.proofs.SetTexts as texts
use Rattle.rdf_model.proofs.Typing as typing
use Rattle.rdf_model.proofs.Analyses as variations
use Rattle.rdf_values.proofs.Evenly as evenly
use Rattle.rdf_model.proofs.laws.laws_hold.Goals as goal

pub returns : goal.returns
returns c =
    record {
      numbered_evaluates_alike = evaluations.numbered_alike;
      nothing_is_needed = evaluations.nothing_needed;
      unvaried_site_is_nominal = variations.unvaried_site_is_nominal;
      unvaried_entry_is_nominal = variations.unvaried_entry_is_nominal;
      unvaried_result_is_nominal = variations.unvaried_result_is_nominal;
      other_variations_are_nominal = variations.other_variations_are_nominal;
      results_are_of_one_variation = variations.results_are_of_one_variation;
      columns_come_from_their_maker = demands.columns_come_from_their_maker;
      first_fault_is_least = faults.first_fault_is_least;
      noted_sets_grow = accepted.noted_sets_grow;
      last_set_is_whole = accepted.last_set_is_whole;
      few_sets_are_noted = accepted.few_sets_are_noted;
      passed_are_among_reached = demands.passed_are_among_reached;
      reports_are_fed_nothing = demands.reports_are_fed_nothing;
      facts_give_results = faults.facts_give_results;
      facts_give_counts = faults.facts_give_counts;
      unwatched_output_is_one_function = demands.unwatched_output_is_one_function;
      status_tells_of_faults = demands.status_tells_of_faults;
      checked_expressions_fit = typing.checked_expressions_fit;
      verdict_is_the_first_refusal = accepted.verdict_is_the_first_refusal;
      accepted_columns_fit = accepted.accepted_columns_fit;
      accepted_feeds_fit = accepted.accepted_feeds_fit;
      expressions_are_bounded = limits.expressions_are_bounded;
      checked_expressions_fit_columns = limits.checked_expressions_fit_columns;
      columns_are_bounded = λ d row at u name answers fits words. limits.columns_are_bounded d.fns d.columns row answers fits at u name words;
      cuts_lead = evenly.cuts_lead;
      cuts_are_in_order = limits.cuts_are_in_order;
      unmarked_cuts_are_even = evenly.unmarked_cuts_are_even;
      loops_meet_limits = limits.loops_meet_limits;
      loops_come_in_turn = accepted.loops_come_in_turn;
      texts_tell_sets = texts.texts_tell_sets;
    }
