pub mod Booleans
pub mod Lists
pub mod Orders
-- what other crates name of these
pub use Booleans.{if_none, if_some, on_ok, same_some, and_false, and_left, and_right, and_true, both_true, left_false, or_false, or_true, right_false, of_option}
pub use Lists.{map_length, map_next, drop_plus, range_length, take_at_most, take_next, take_no_longer, before_or_last, kept_at, last_at, mapped_at, set_at, set_length, something_at, each_append}
pub use Orders.{abs_add, eq_itself, le_or_lt, lt_or_last, lt_or_le}
-- what proofs of many crates take of std
pub use Rattle.std.proofs.Common.{[], add-one, add-zero, add_assoc, ap, ap₂, arith, below_more, bit_and, bit_or, bit_xor, Bool, bytes_eq, codes, cond, count_ones, Decides, drop, drop-cons, Err, false, filter_map, find, flat_map, fold, get_or, HoldsAt, IfErr, IfOk, IfSome, if◌then◌else◌, inl, inr, int_le, int_lt, is_none, is_some, IsOk, IsPermutation, IsSome, IsSomeAnd, IsTrue, leb, length, List, lit≤, ltb, map, MatchOption, MatchResult, max, min, mul-zero, nat_abs, nat_eq, nat_le, nat_lt, neg_ℤ, negsuc, None, not, of_z, Ok, ok_or, OnErr, OnOk, Option, option_and_then, option_map, option_to_list, pos, refl, replicate, Result, reverse, rules, set, SFits, slice_get, slice_index, slice_range, slice_set, Some, subst, subst₂, suc, sum, sym, take, take_while, to_z, true, true≢false, unsigned_abs, unwrap_or, vec_capacity, vec_len, zero, zero-add, ℕ, ℤ, ⊎_elim, ◌%◌, ◌&&◌, ◌*ℤ◌, ◌*◌, ◌++◌, ◌+ℤ◌, ◌+◌, ◌-ℤ◌, ◌-◌, ◌/◌, ◌<ℤ◌, ◌<◌, ◌==◌, ◌^◌, ◌||◌, ◌↔◌, ◌∙◌, ◌∷◌, ◌≡◌, ◌≢◌, ◌≤ℤ◌, ◌≤◌, ◌⊎◌}
pub use Rattle.std.proofs.lemmas.List.{append-nil, append_assoc, at_drop_more, drop-drop, drop-map, drop-take, drop_all, drop_more, ext_get_or, get_or-append-add, get_or-drop, get_or-map, get_or-replicate, get_or-set_other, get_or-set_same, get_or-take, get_or_append_left, get_or_at, get_or_default, get_or_past, length-append, length-drop, length-map, length-replicate, length-reverse, length-set, length-take, length-take-le, length_push, map-append, map-id, map-set, map_push, nil_from_length, reverse-append, reverse-reverse, same_lists, set-append_right, set-get_or, set_comm, take-append-drop, take-append-le, take-map, take-replicate, take-take, take_all, take_more, take_more_set, take_rest, with_items_is}
pub use Rattle.std.proofs.lemmas.List.Elements.{All-append, All-cons, All-contains, All-contains_itself, All-drop, All-filter, All-from_get_or, All-from_recursion, All-get_or, All-head, All-map, All-nil, All-pop, All-push, All-replicate, All-set, All-tail, All-take, All-weaker, AllWithin-more_set, Contains-append_left, Contains-append_right, Contains-push, Contains-push_cases, filter-append, filter_map-append, recursion_from_All}
pub use Rattle.std.specs.List.{after_first, All, AllByRecursion, AllWithin, AllZip, before_first, concat, cons_option, Contains, count_by, enumerate_from, filter, IsAllAdjacentAnswer, join_with_byte, list_all, list_any, onto_first, position, position_from, position_or_len, prefix_len, range_with_len, remove, slice_index_or, slice_split, sum_by, zip}
pub use Rattle.std.proofs.lemmas.Bool.{and_from, and_left as and_left_false, and_right as and_right_false, cases_Bool, cases_eq, cases_lt, cases_order, cond-false, cond-true, cond_both, eq-eqb, eqb-true, false_from_ne_true, le-leb, le-ltb, leb-false, leb-true, lt-leb, lt-ltb, ltb-false, ltb-true, ne_eqb, not-false, not-true, or_cases, or_from, or_left, or_parts, or_right, true_from_ne_false}
pub use Rattle.std.proofs.lemmas.Nat.{and_comm, and_le_l, and_mask, from_le_bytes-to_le_bytes_2, from_le_bytes-to_le_bytes_4, from_le_bytes-to_le_bytes_8, mod-pow-add, mod_below, mul-le, one_shl, ones_cat, or_comm, or_lt, pow_pos, rows, same_from_place, shr_le, xor_comm, xor_lt}
pub use Rattle.std.proofs.lemmas.List.Sorted.{All-permutation, Contains-permutation, IsNonDecreasingBy-from_sort, IsPartitionedBy-ltb, IsPartitionPoint-from_clause, IsPermutation-append_comm, IsPermutation-append_left, IsPermutation-append_right, IsPermutation-cons, IsPermutation-map, IsPermutation-refl, IsPermutation-remove, IsPermutation-reverse, IsPermutation-sym, IsPermutation-to_front, IsPermutation-trans, length_permutation, sum_by-IsPermutation}
pub use Rattle.std.proofs.lemmas.List.Sums.{count_by-le-length, fold-append, fold_more, length-filter, passes_at_first, prefix_len-le-length, sum_by-append, sum_by-cons, sum_by-le, sum_by-set, sum_by_more, sum_by_push, take_while-cons}
pub use Rattle.std.proofs.lemmas.Fmt.{decimal-digits_value, decimal_by_steps, decimal_by_steps_wide, decimal_digit, decimal_injective, decimal_is_IsNumeral_wide, decimal_nonempty, decimal_step, decimal_step_wide, digits_decimal, digits_value-decimal, first_decimal}
pub use Rattle.std.proofs.lemmas.Int.{clamps, fits_signed_from_abs, fits_signed_mul, int_wrap-add_right, int_wrap_fits, ints, of_z-to_z, SFits-int_wrap, to_z-of_z, unsigned_abs-mul, wrapping_add-bits}
pub use Rattle.std.specs.Int.{bit_at, cast_signed, cast_unsigned, div_ceil, int_max, int_min, int_wrapping_add, to_le_bytes, trailing_zeros, w128, w64}
pub use Rattle.std.proofs.lemmas.Nat.Bits.{bit_at-lt, bit_at-trailing_zeros, bit_at-zero, bit_at_above, bit_at_and, bit_at_or, bit_at_set_other, bit_at_set_same, bit_at_xor, same_from_bits}
pub use Rattle.std.proofs.Math.Seq.{drop-append-add, drop-append_seam, get_or-append_right, get_or-append_seam, map-set_same, take-add, take-append_seam, take-length, take-suc, take-take}
pub use Rattle.std.proofs.lemmas.List.Folds.{flat_map-map, length-prefix_len, list_all-map, list_any-append, list_any-from_Any, list_any_at, list_any_more, list_any_none, sum_by-replicate}
pub use Rattle.std.proofs.lemmas.Option.{get_or_from_slice_get, IfSome_then, same_Some, slice_get-get_or, slice_get-map, slice_get_past, slice_get_read, slice_get_within, unwrap_or-slice_get}
pub use Rattle.std.proofs.Math.Nat.{mod-add-mod, mod-eq_of_lt, mod-lt, mul-le-mul, mul-le-mul_right, mul_comm, pow-le-pow_right, pow-succ'}
pub use Rattle.std.proofs.lemmas.Bool.Decides.{Decides-eqb, Decides-int_eq, Decides-ltb, eqb_tells, nat_tests}
pub use Rattle.std.proofs.lemmas.List.Filters.{FiltersInPlace, FiltersInPlace-more_no, FiltersInPlace-more_set, length-filter_both, sum_by-filter_both}
pub use Rattle.std.proofs.lemmas.List.Splits.{join_with_byte-slice_split, length-slice_split, slice_split_at, slice_split_first, slice_split_none}
pub use Rattle.std.specs.List.Sorted.{IsNonDecreasing, IsNonDecreasingBy, IsPartitionedBy, IsPartitionPoint, IsStrictlyIncreasing}
pub use Rattle.std.proofs.Math.IntN.{+ℤ_assoc, +ℤ_comm, +ℤ_idl, +ℤ_idr}
pub use Rattle.std.proofs.lemmas.Result.{err_from_is_err_and, IfOk-weaker, on_err_weaker, on_ok_weaker}
pub use Rattle.std.proofs.Math.Facts.{Fits-lt-pow, Fits-of_z}
pub use Rattle.std.proofs.lemmas.Grind.{common_steps, div_ceil_times, flat_map-append}
pub use Rattle.std.proofs.lemmas.List.Concat.{concat_is, length-flat_map}
pub use Rattle.std.proofs.lemmas.List.FromFn.{get_or-range_with_len, length-range_with_len, map-range_with_len_more}
pub use Rattle.std.proofs.lemmas.Slice.Zip.{AllZip-long, firsts-zip, seconds-zip}
pub use Rattle.std.proofs.lemmas.Str.Parse.{IsNumeralModel, numerals_by_value, tells_all_ascii_digits}
pub use Rattle.std.proofs.lemmas.List.Kept.{AllPairs-from_increasing, IsStrictlyIncreasing-filter}
pub use Rattle.std.proofs.lemmas.List.Quantifiers.{all_pairs_push, position-Some}
pub use Rattle.std.specs.Char.{digit_value, is_ascii_digit}
pub use Rattle.std.specs.Fmt.{decimal, signed_decimal}
pub use Rattle.std.specs.Result.{IsErrAnd, result_ok}
pub use Rattle.std.specs.Str.Parse.{digits_value, digits_value_after}
pub use Rattle.std.proofs.Math.ListN.{drop_of_length-le}
pub use Rattle.std.proofs.Math.Pow.{shr_mono}
pub use Rattle.std.proofs.lemmas.Int.Digits.{digits_value_push}
pub use Rattle.std.proofs.lemmas.Iterator.Adapters.{position_from-zero}
pub use Rattle.std.proofs.lemmas.List.Edits.{length-remove}
pub use Rattle.std.proofs.lemmas.Map.Keys.{any_passes_from_place, IsStrictlyIncreasing-from_distinct}
pub use Rattle.std.proofs.lemmas.Map.Views.{Contains-from_any}
pub use Rattle.std.proofs.lemmas.Simd.{map-map}
pub use Rattle.std.proofs.lemmas.Slice.{take-put_mid}
pub use Rattle.std.proofs.lemmas.Slice.Eq.{bytes_eq-Decides}
pub use Rattle.std.proofs.lemmas.Str.{digit_value_digit}
pub use Rattle.std.specs.Bool.{MatchBool}
pub use Rattle.std.specs.Borrow.{Bor}
pub use Rattle.std.specs.Int.Count.{ones-ones}
pub use Rattle.std.specs.Int.RustNames.{FitsSigned}
pub use Rattle.std.specs.Io.BufRead.{strip_last}
pub use Rattle.std.specs.Ordering.{int_eq}
pub use Rattle.std.specs.Str.{all_ascii_digits}
pub use Rattle.std.specs.Vec.{with_items}
