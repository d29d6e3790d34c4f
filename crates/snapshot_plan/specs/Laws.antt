-- Laws of plans. Each is the contract of a function of this crate, and so proved.
use Rattle.rdf_values.specs.{IsHeader}
use Rattle.snapshot_plan.specs.Views.{IsPlan, PlanView, plan_columns}

-- the columns of a plan are a table's: 1 to 64 of distinct names, each of numbers or vectors
abbrev pub PlansHaveHeaders : Type 0
PlansHaveHeaders = (p : PlanView) → IsPlan p → IsHeader (plan_columns p)
