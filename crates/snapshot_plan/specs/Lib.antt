pub mod Laws
pub mod Plans
pub mod Views
-- what other crates name of these
pub use Laws.{PlansHaveHeaders}
pub use Plans.{first_bad, is_bad, is_stored, is_under, makes_node, most_statements, statements_planned, unless_bad}
pub use Views.{cause_in, column_at, IsNumber, IsPlan, no_variation, plan_columns, planned, PlanView, scope_in, under_of, unless_cause}
pub use declared.cause.SnapCause.{SnapCause}
pub use declared.refusal.SnapRefusal.{SnapRefusal}
pub use declared.under.Under.{Under}
