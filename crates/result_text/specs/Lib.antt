pub mod FilledLines
pub mod RefusalText
-- what other crates name of these
pub use FilledLines.{acc_lines, behind, bin_name, booking_text, counts_seen, filled_text, FitsBooking, FitsResult, flow_at, line_at, lines_from, lines_on, members_from, more_taken, name_at, passes_at, plane_at, planes_on, under_in, under_lines, value_lines, AreRuns, more_runs, run_of, runs_text, watch_line, watch_lines}
pub use RefusalText.{friend_cause_line, join_cause_line, long_friend_line, refused_for, refusal_text, usage_line}
