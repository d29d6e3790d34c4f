pub mod Rows
pub mod Checks
pub mod Contexts
pub mod Dependence
pub mod Gains
pub mod OneProof
pub mod ShortProof
-- what other crates name of these
pub use Rows.{asked_after, IsAmount, printed_rows, row_passes, rows_named, rows_of, AreLoops, AreLoopsOf, AreNamedInTurn, AreRowsOf, BeginsWith, filled_count, filler_of, IsNamedInTurn, IsRowOf, members_from, passes_of_row, passes_of_rows, AreAbove, AreSourcesOf, cell_rows, count_from, expression_total, filter_numbers, HasSites, is_filter, is_named, IsAbove, labels, named, named_rows, own_label, own_number, own_site_total, result_path, site_total}
pub use Checks.{all_expressions, AllCheckedAt, Decides, IsRefusal, IsStop, refused, refused_at, refused_then, targets_at, value_expressions}
pub use Contexts.{AppendsChecked, AreCheckedBefore, history, IsCheckedBefore, IsGainAfter, IsRowAfter, named_version_before, scope_before, set_changed, sites_so_far, variation_count, verdict_after, versions_changed}
pub use Dependence.{action_set, any_depends, any_has, AreSets, changed_set, depends_at, expression_set, has, has_at, is_among_own, IsSet, Numbers, own_result_sets, own_site_sets, own_version_sets, read_sets, result_sets, site_set, site_sets, varied_set, version_sets, VersionsDependAsColumns}
pub use Gains.{AreRows, AreSites, AreTables, Gives, GrowBy, IsBookedRow, IsColumnGain, IsEmptyGain, IsFilterGain, IsGain, IsMadeGain, IsRow, IsRowGain, IsSite, IsVaryGain, paths, IsBooked, view_of, AreKinds, books, IsCheckedAt, IsFound, own_target, own_visible, result_in, statements}
unfoldable pub use Dependence.{members_below}
pub use declared.refusals.GraphRefusal.{GraphRefusal}
pub use declared.sets.VarSet.{VarSet}
