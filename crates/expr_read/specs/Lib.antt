pub mod Parsing
pub mod Views
-- what other crates name of these
pub use Parsing.{after_name, at_expr, at_item, at_more, Ate, Begins, BeginsNot, continues, ends_at, HasNoSign, in_list, IsOpOf, IsStuckFrom, left_of, Listing, Listings, Sees, Stops, stuck_at, Took, TookArgs, TookList, TookLists, TookValues}
pub use Views.{are_valid, first_of, is_number, is_valid, IsRefusalOf, place_from, placed_of, RefusesTextAs, RefusesTokensAs, token_of}
pub use declared.tokenizer.ExprRefusal.{ExprRefusal}
