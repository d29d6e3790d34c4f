pub mod Answers
pub mod Scalars
-- what other crates name of these
pub use Answers.{AnswersAs, AppendsAs, following, input_outcome, number_outcome, number_value, scalar_outcome, scalar_value, StopsAs, sum_of, vector_outcome, ArgumentsCanCall, CallFits, IsBuiltIn, decision, operand_value, view_value}
pub use Scalars.{answered, Gathers, GivesScalar, is_other, IsScalarPart, number_call}
pub use declared.inputs.ColumnInput.{ColumnInput}
pub use declared.stop.EvalStop.{EvalStop}
pub use declared.stop.ScalarStop.{ScalarStop}
