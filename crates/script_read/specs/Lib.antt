pub mod Views
pub mod Walk
-- what other crates name of these
pub use Views.{adds_nothing, adds_statement, AddsLine, IsNamed, RefusedFor, RefusesFirstAs, RefusesTextAs, StandsWithin, stop_in, action_of, edges_of, form_of, left_of, lexeme_of, mark_token, method_of, placed_of, quoted_of, strings_of, token_of}
pub use Walk.{ALine, all_names, AMark, AMethod, ANumber, arguments_wants, asked_form, asking_wants, AString, Ate, AWord, Begins, BeginsNot, booking_wants, Done, edges_wants, is_mark, IsStuck, MaybeString, method_wants, MoreEdges, MoreStrings, name_word, named, next, one_string_wants, place_from, SeesMethod, strings_wants, StuckAt, Took, TookArguments, TookBooking, TookForm, two_string_wants, variation_wants, VaryArguments, walk, walk_on, WalkEnd, Want}
unfoldable pub use Walk.{name_of, walk_placed}
pub use declared.walk.ActionName.{ActionName}
pub use declared.walk.MethodName.{MethodName}
pub use declared.refusal.LineStop.{LineStop}
pub use declared.form.FormMark.{FormMark}
pub use declared.form.Quoted.{Quoted}
pub use declared.form.FormToken.{FormToken}
