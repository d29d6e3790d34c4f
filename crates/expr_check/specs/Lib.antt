pub mod Scopes
pub mod NumKinds
-- what other crates name of these
pub use Scopes.{Answers, arguments_fit, RefusedAs, HaveOneKind, LacksColumn, NumberHasKind, numbers_in, NumbersHaveKinds}
pub use NumKinds.{all_are_plain, AllCallsFit, callee_shape, CallsFit, checked_expr, CheckedExpr, distinct, given_shape, gives_vector, HasNoVector, is_plain, is_vector, IsCallable, IsCallOf, IsTyped, IsWellTyped, num_kind, number_kind, parts, parts_of_all, takes_no_vector, with_new}
pub use declared.refusal.CheckRefusal.{CheckRefusal}
