pub mod Caches
pub mod Store
pub mod Jobs
pub mod Keys
pub mod Turns
-- what other crates name of these
pub use Caches.{HasFilterDemands, IsActionBooking, IsActionPass, IsCovered, IsPlainLoop, numbered_in}
pub use Store.{entry_demands, facts_in, IsNoTake, job_spans, ArePlain, ArePlainVersions, is_vector_at, IsPlainVersion, CanEvaluate, CanLook, Grows, HasAllKeys, HasPassed, HasTried, held_count, held_element, held_in, held_or_need, is_held, IsClosed, IsFilled, IsMissing, IsMissingSource, IsReadable, IsRight, IsSiteOf, IsSound, IsSourceIn, keys_in, look_at, looked_source, MeetsAt, OnlyIn, row_in, row_of, site_in, source_at, truth_in, version_in}
pub use Jobs.{Fits, IsJob, job_graph, job_of, JobView, outcome_of, pass_outcome, passes_in}
pub use Keys.{AreEach, AreKeys, ArePlaces, AreUnder, demand_key, IsRow, key, key_count, key_or_count, key_or_first, key_under, keys_before, own_keys, place_of, row_under, slot, slot_at, slot_in, under_number}
pub use Turns.{AreReadable, CanAct, IsActionAt, actions_before, covered_in, covers_of, HasAllDemands, is_covering, IsReportPass, numbered_passes, pass_fault}
pub use declared.reading.Held.{Held}
pub use declared.job.Job.{Job}
pub use declared.rows.ValuePlace.{ValuePlace}
pub use declared.rows.Row.{Row}
