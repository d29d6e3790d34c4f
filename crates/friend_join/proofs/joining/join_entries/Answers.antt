use Rattle.lemmas.proofs.{err_from_is_err_and, ◌≡◌, ◌<◌, ◌+◌, ◌^◌, ◌∙◌, ap, arith, get_or, inl, inr, length, map, refl, rules, sym, vec_len, w64, FitsSigned, None, Ok, Some, length-map, remove, sum_by, to_z-of_z}
use Rattle.columns.specs.{whole}
use Rattle.friend_join.specs.{column_elements, JoinCause, keyed_in}
use Rattle.friend_join.proofs.Fitting.{bits}
use Rattle.friend_join.proofs.Refusing.{all_joined, repeated, too_large}
use Rattle.friend_join.proofs.Removing.{whole_at}
use Rattle.friend_join.proofs.Together.{columns_within, count_as, entries_as, few_keys, holds_as, key_ints, matches_few, no_repeat, others_few, others_small, own_ints, pieces_few, pieces_small, pieces_within, table_as}
use Rattle.friend_join.proofs.joining.join_entries.Goals as goal

pub index-requires : goal.index-requires
index-requires c =
    let within = pieces_within c.args.main.columns c.args.main.pieces.items c.args.main.entries c.args.own c.requires.main.kept c.requires.own in
    let size : vec_len c.args.main.pieces ≡ length c.args.main.pieces.items = search rules in
    omega (arith, within, size)

pub remove-requires : goal.remove-requires
remove-requires c =
    let within = pieces_within c.args.friend.columns c.args.friend.pieces.items c.args.friend.entries c.args.other c.requires.friend.kept c.requires.other in
    let size : vec_len c.in_ok-others.others ≡ length c.in_ok-others.others.items = search rules in
    let same : length c.in_ok-others.others.items ≡ length (map whole c.args.friend.pieces.items) = ap length c.in_ok-others.ensures in
    omega (arith, within, size, same, length-map c.args.friend.pieces.items whole)

pub matches_of-requires-clause-column : goal.matches_of-requires-clause-column
matches_of-requires-clause-column c =
    let xs = map whole c.args.main.pieces.items in
    let ys = map whole c.args.friend.pieces.items in
    let x = whole c.index.result.now in
    let y = c.remove.result in
    let x_is = whole_at c.args.main.pieces.items c.args.own c.index.result.now (pieces_within c.args.main.columns c.args.main.pieces.items c.args.main.entries c.args.own c.requires.main.kept c.requires.own) c.index.ensures in
    let y_is = c.remove.ensures.value ∙ ap (λ l. get_or l c.args.other c.remove.result) c.in_ok-others.ensures in
    own_ints c.args.missing c.args.main.columns c.args.friend.columns xs ys c.args.main.entries c.args.friend.entries c.args.own c.args.other x y c.requires.main c.requires.friend c.requires.own c.requires.other x_is y_is

pub matches_of-requires-clause-keys : goal.matches_of-requires-clause-keys
matches_of-requires-clause-keys c =
    let xs = map whole c.args.main.pieces.items in
    let ys = map whole c.args.friend.pieces.items in
    let x = whole c.index.result.now in
    let y = c.remove.result in
    let x_is = whole_at c.args.main.pieces.items c.args.own c.index.result.now (pieces_within c.args.main.columns c.args.main.pieces.items c.args.main.entries c.args.own c.requires.main.kept c.requires.own) c.index.ensures in
    let y_is = c.remove.ensures.value ∙ ap (λ l. get_or l c.args.other c.remove.result) c.in_ok-others.ensures in
    key_ints c.args.missing c.args.main.columns c.args.friend.columns xs ys c.args.main.entries c.args.friend.entries c.args.own c.args.other x y c.requires.main c.requires.friend c.requires.own c.requires.other x_is y_is

pub matches_of-requires-clause-few : goal.matches_of-requires-clause-few
matches_of-requires-clause-few c =
    let xs = map whole c.args.main.pieces.items in
    let ys = map whole c.args.friend.pieces.items in
    let x = whole c.index.result.now in
    let y = c.remove.result in
    let x_is = whole_at c.args.main.pieces.items c.args.own c.index.result.now (pieces_within c.args.main.columns c.args.main.pieces.items c.args.main.entries c.args.own c.requires.main.kept c.requires.own) c.index.ensures in
    let y_is = c.remove.ensures.value ∙ ap (λ l. get_or l c.args.other c.remove.result) c.in_ok-others.ensures in
    few_keys c.args.missing c.args.main.columns c.args.friend.columns xs ys c.args.main.entries c.args.friend.entries c.args.own c.args.other x y c.requires.main c.requires.friend c.requires.own c.requires.other x_is y_is

pub returns-in_err-matches : goal.returns-in_err-matches
returns-in_err-matches c =
    let xs = map whole c.args.main.pieces.items in
    let ys = map whole c.args.friend.pieces.items in
    let x = whole c.index.result.now in
    let y = c.remove.result in
    let x_is = whole_at c.args.main.pieces.items c.args.own c.index.result.now (pieces_within c.args.main.columns c.args.main.pieces.items c.args.main.entries c.args.own c.requires.main.kept c.requires.own) c.index.ensures in
    let y_is = c.remove.ensures.value ∙ ap (λ l. get_or l c.args.other c.remove.result) c.in_ok-others.ensures in
    let p = err_from_is_err_and c.from_residual-in_err-matches.result c.from_residual-in_err-matches.ensures.1 in
    rw (p.1, p.2)
    (elim c.in_err-matches.ensures [
      | inl m ↦ inl m
      | inr d ↦ inr (JoinCause.Duplicate d.0, d.1, repeated (keyed_in c.args.main c.args.own) (keyed_in c.args.friend c.args.other) c.args.missing d.0 (no_repeat c.args.missing c.args.main.columns c.args.friend.columns xs ys c.args.main.entries c.args.friend.entries c.args.own c.args.other x y c.requires.main c.requires.friend c.requires.own c.requires.other x_is y_is (Some d.0) d.2))
    ])

pub elements-requires-clause-few : goal.elements-requires-clause-few
elements-requires-clause-few c =
    pieces_few c.args.main.columns c.args.main.pieces.items c.as_slice.result.now c.args.main.entries c.requires.main c.as_slice.ensures.value

pub elements-requires-clause-small : goal.elements-requires-clause-small
elements-requires-clause-small c =
    pieces_small c.args.main.columns c.args.main.pieces.items c.as_slice.result.now c.args.main.entries c.requires.main c.as_slice.ensures.value

pub matched_elements-requires-clause-entries : goal.matched_elements-requires-clause-entries
matched_elements-requires-clause-entries c =
    let xs = map whole c.args.main.pieces.items in
    let ys = map whole c.args.friend.pieces.items in
    let x = whole c.index.result.now in
    let y = c.remove.result in
    let x_is = whole_at c.args.main.pieces.items c.args.own c.index.result.now (pieces_within c.args.main.columns c.args.main.pieces.items c.args.main.entries c.args.own c.requires.main.kept c.requires.own) c.index.ensures in
    let y_is = c.remove.ensures.value ∙ ap (λ l. get_or l c.args.other c.remove.result) c.in_ok-others.ensures in
    let rest = c.as_slice-2.ensures.value ∙ c.remove.ensures.items ∙ ap (λ l. remove l c.args.other) c.in_ok-others.ensures in
    let found = c.as_slice-3.ensures.value ∙ c.in_ok-matches.ensures.1 in
    entries_as c.args.missing c.args.main.columns c.args.friend.columns xs ys c.args.main.entries c.args.friend.entries c.args.own c.args.other x y c.requires.main c.requires.friend c.requires.own c.requires.other x_is y_is c.as_slice-2.result.now c.as_slice-3.result.now rest found

pub matched_elements-requires-clause-columns : goal.matched_elements-requires-clause-columns
matched_elements-requires-clause-columns c =
    let xs = map whole c.args.main.pieces.items in
    let ys = map whole c.args.friend.pieces.items in
    let x = whole c.index.result.now in
    let y = c.remove.result in
    let x_is = whole_at c.args.main.pieces.items c.args.own c.index.result.now (pieces_within c.args.main.columns c.args.main.pieces.items c.args.main.entries c.args.own c.requires.main.kept c.requires.own) c.index.ensures in
    let y_is = c.remove.ensures.value ∙ ap (λ l. get_or l c.args.other c.remove.result) c.in_ok-others.ensures in
    let rest = c.as_slice-2.ensures.value ∙ c.remove.ensures.items ∙ ap (λ l. remove l c.args.other) c.in_ok-others.ensures in
    others_few c.args.missing c.args.main.columns c.args.friend.columns xs ys c.args.main.entries c.args.friend.entries c.args.own c.args.other x y c.requires.main c.requires.friend c.requires.own c.requires.other x_is y_is c.as_slice-2.result.now rest

pub matched_elements-requires-clause-few : goal.matched_elements-requires-clause-few
matched_elements-requires-clause-few c =
    let xs = map whole c.args.main.pieces.items in
    let ys = map whole c.args.friend.pieces.items in
    let x = whole c.index.result.now in
    let y = c.remove.result in
    let x_is = whole_at c.args.main.pieces.items c.args.own c.index.result.now (pieces_within c.args.main.columns c.args.main.pieces.items c.args.main.entries c.args.own c.requires.main.kept c.requires.own) c.index.ensures in
    let y_is = c.remove.ensures.value ∙ ap (λ l. get_or l c.args.other c.remove.result) c.in_ok-others.ensures in
    let found = c.as_slice-3.ensures.value ∙ c.in_ok-matches.ensures.1 in
    matches_few c.args.missing c.args.main.columns c.args.friend.columns xs ys c.args.main.entries c.args.friend.entries c.args.own c.args.other x y c.requires.main c.requires.friend c.requires.own c.requires.other x_is y_is c.as_slice-3.result.now found

pub matched_elements-requires-clause-small : goal.matched_elements-requires-clause-small
matched_elements-requires-clause-small c =
    let xs = map whole c.args.main.pieces.items in
    let ys = map whole c.args.friend.pieces.items in
    let x = whole c.index.result.now in
    let y = c.remove.result in
    let x_is = whole_at c.args.main.pieces.items c.args.own c.index.result.now (pieces_within c.args.main.columns c.args.main.pieces.items c.args.main.entries c.args.own c.requires.main.kept c.requires.own) c.index.ensures in
    let y_is = c.remove.ensures.value ∙ ap (λ l. get_or l c.args.other c.remove.result) c.in_ok-others.ensures in
    let rest = c.as_slice-2.ensures.value ∙ c.remove.ensures.items ∙ ap (λ l. remove l c.args.other) c.in_ok-others.ensures in
    others_small c.args.missing c.args.main.columns c.args.friend.columns xs ys c.args.main.entries c.args.friend.entries c.args.own c.args.other x y c.requires.main c.requires.friend c.requires.own c.requires.other x_is y_is c.as_slice-2.result.now rest

pub overflow_add-elements : goal.overflow_add-elements
overflow_add-elements c =
    let xs = map whole c.args.main.pieces.items in
    let ys = map whole c.args.friend.pieces.items in
    let x = whole c.index.result.now in
    let y = c.remove.result in
    let x_is = whole_at c.args.main.pieces.items c.args.own c.index.result.now (pieces_within c.args.main.columns c.args.main.pieces.items c.args.main.entries c.args.own c.requires.main.kept c.requires.own) c.index.ensures in
    let y_is = c.remove.ensures.value ∙ ap (λ l. get_or l c.args.other c.remove.result) c.in_ok-others.ensures in
    let rest = c.as_slice-2.ensures.value ∙ c.remove.ensures.items ∙ ap (λ l. remove l c.args.other) c.in_ok-others.ensures in
    let wide = pieces_few c.args.main.columns c.args.main.pieces.items c.as_slice.result.now c.args.main.entries c.requires.main c.as_slice.ensures.value in
    let others = others_few c.args.missing c.args.main.columns c.args.friend.columns xs ys c.args.main.entries c.args.friend.entries c.args.own c.args.other x y c.requires.main c.requires.friend c.requires.own c.requires.other x_is y_is c.as_slice-2.result.now rest in
    let one = c.elements.ensures.few in
    let two = c.matched_elements.ensures.few in
    let small : c.elements.result + c.matched_elements.result < 2 ^ 64 = omega (arith, wide, others, one, two) in
    search rules

pub returns-then-elements-gt-MOST_ELEMENTS : goal.returns-then-elements-gt-MOST_ELEMENTS
returns-then-elements-gt-MOST_ELEMENTS c =
    let xs = map whole c.args.main.pieces.items in
    let ys = map whole c.args.friend.pieces.items in
    let x = whole c.index.result.now in
    let y = c.remove.result in
    let x_is = whole_at c.args.main.pieces.items c.args.own c.index.result.now (pieces_within c.args.main.columns c.args.main.pieces.items c.args.main.entries c.args.own c.requires.main.kept c.requires.own) c.index.ensures in
    let y_is = c.remove.ensures.value ∙ ap (λ l. get_or l c.args.other c.remove.result) c.in_ok-others.ensures in
    let rest = c.as_slice-2.ensures.value ∙ c.remove.ensures.items ∙ ap (λ l. remove l c.args.other) c.in_ok-others.ensures in
    let found = c.as_slice-3.ensures.value ∙ c.in_ok-matches.ensures.1 in
    let fits : FitsSigned w64 c.args.missing = search rules in
    let own = c.elements.ensures.value ∙ ap (λ l. sum_by column_elements (map whole l)) c.as_slice.ensures.value in
    let count = count_as c.args.missing c.args.main.columns c.args.friend.columns xs ys c.args.main.entries c.args.friend.entries c.args.own c.args.other x y c.requires.main c.requires.friend c.requires.own c.requires.other x_is y_is c.requires.header (bits c.args.missing fits) c.elements.result c.matched_elements.result c.as_slice-2.result.now c.as_slice-3.result.now rest found own c.matched_elements.ensures.value in
    let none = no_repeat c.args.missing c.args.main.columns c.args.friend.columns xs ys c.args.main.entries c.args.friend.entries c.args.own c.args.other x y c.requires.main c.requires.friend c.requires.own c.requires.other x_is y_is None c.in_ok-matches.ensures.0 in
    inr (JoinCause.TooLarge (c.elements.result + c.matched_elements.result), refl, too_large (keyed_in c.args.main c.args.own) (keyed_in c.args.friend c.args.other) c.args.missing (c.elements.result + c.matched_elements.result) none count c.if-elements-gt-MOST_ELEMENTS.true)

pub remove-requires-2 : goal.remove-requires-2
remove-requires-2 c =
    let within = columns_within c.args.friend.columns (map whole c.args.friend.pieces.items) c.args.friend.entries c.args.other c.requires.friend.kept c.requires.other in
    let size : vec_len c.into_vec-columns.result ≡ length c.into_vec-columns.result.items = search rules in
    let same : length c.into_vec-columns.result.items ≡ length c.args.friend.columns = ap length c.into_vec-columns.ensures in
    omega (arith, within, size, same)

pub put_together-requires-clause-entries : goal.put_together-requires-clause-entries
put_together-requires-clause-entries c =
    let xs = map whole c.args.main.pieces.items in
    let ys = map whole c.args.friend.pieces.items in
    let x = whole c.index.result.now in
    let y = c.remove.result in
    let x_is = whole_at c.args.main.pieces.items c.args.own c.index.result.now (pieces_within c.args.main.columns c.args.main.pieces.items c.args.main.entries c.args.own c.requires.main.kept c.requires.own) c.index.ensures in
    let y_is = c.remove.ensures.value ∙ ap (λ l. get_or l c.args.other c.remove.result) c.in_ok-others.ensures in
    let others = c.remove.ensures.items ∙ ap (λ l. remove l c.args.other) c.in_ok-others.ensures in
    let matches = c.as_slice-4.ensures.value ∙ c.in_ok-matches.ensures.1 in
    entries_as c.args.missing c.args.main.columns c.args.friend.columns xs ys c.args.main.entries c.args.friend.entries c.args.own c.args.other x y c.requires.main c.requires.friend c.requires.own c.requires.other x_is y_is c.remove.new.self.items c.as_slice-4.result.now others matches

pub put_together-requires-clause-holds : goal.put_together-requires-clause-holds
put_together-requires-clause-holds c =
    let xs = map whole c.args.main.pieces.items in
    let ys = map whole c.args.friend.pieces.items in
    let x = whole c.index.result.now in
    let y = c.remove.result in
    let x_is = whole_at c.args.main.pieces.items c.args.own c.index.result.now (pieces_within c.args.main.columns c.args.main.pieces.items c.args.main.entries c.args.own c.requires.main.kept c.requires.own) c.index.ensures in
    let y_is = c.remove.ensures.value ∙ ap (λ l. get_or l c.args.other c.remove.result) c.in_ok-others.ensures in
    let others = c.remove.ensures.items ∙ ap (λ l. remove l c.args.other) c.in_ok-others.ensures in
    let matches = c.as_slice-4.ensures.value ∙ c.in_ok-matches.ensures.1 in
    let columns = c.remove-2.ensures.items ∙ ap (λ l. remove l c.args.other) c.into_vec-columns.ensures in
    let fits : FitsSigned w64 c.args.missing = search rules in
    holds_as c.args.missing c.args.main.columns c.args.friend.columns xs ys c.args.main.entries c.args.friend.entries c.args.own c.args.other x y c.requires.main c.requires.friend c.requires.own c.requires.other x_is y_is c.requires.header (bits c.args.missing fits) c.remove-2.new.self.items c.remove.new.self.items c.as_slice-4.result.now _ columns others matches (to_z-of_z w64 c.args.missing fits)

pub returns : goal.returns
returns c =
    let xs = map whole c.args.main.pieces.items in
    let ys = map whole c.args.friend.pieces.items in
    let x = whole c.index.result.now in
    let y = c.remove.result in
    let x_is = whole_at c.args.main.pieces.items c.args.own c.index.result.now (pieces_within c.args.main.columns c.args.main.pieces.items c.args.main.entries c.args.own c.requires.main.kept c.requires.own) c.index.ensures in
    let y_is = c.remove.ensures.value ∙ ap (λ l. get_or l c.args.other c.remove.result) c.in_ok-others.ensures in
    let rest = c.as_slice-2.ensures.value ∙ c.remove.ensures.items ∙ ap (λ l. remove l c.args.other) c.in_ok-others.ensures in
    let found = c.as_slice-3.ensures.value ∙ c.in_ok-matches.ensures.1 in
    let others = c.remove.ensures.items ∙ ap (λ l. remove l c.args.other) c.in_ok-others.ensures in
    let matches = c.as_slice-4.ensures.value ∙ c.in_ok-matches.ensures.1 in
    let columns = c.remove-2.ensures.items ∙ ap (λ l. remove l c.args.other) c.into_vec-columns.ensures in
    let fits : FitsSigned w64 c.args.missing = search rules in
    let own = c.elements.ensures.value ∙ ap (λ l. sum_by column_elements (map whole l)) c.as_slice.ensures.value in
    let count = count_as c.args.missing c.args.main.columns c.args.friend.columns xs ys c.args.main.entries c.args.friend.entries c.args.own c.args.other x y c.requires.main c.requires.friend c.requires.own c.requires.other x_is y_is c.requires.header (bits c.args.missing fits) c.elements.result c.matched_elements.result c.as_slice-2.result.now c.as_slice-3.result.now rest found own c.matched_elements.ensures.value in
    let none = no_repeat c.args.missing c.args.main.columns c.args.friend.columns xs ys c.args.main.entries c.args.friend.entries c.args.own c.args.other x y c.requires.main c.requires.friend c.requires.own c.requires.other x_is y_is None c.in_ok-matches.ensures.0 in
    let made = table_as c.args.missing c.args.main.columns c.args.friend.columns xs ys c.args.main.entries c.args.friend.entries c.args.own c.args.other x y c.requires.main c.requires.friend c.requires.own c.requires.other x_is y_is c.requires.header (bits c.args.missing fits) c.in_ok-table.table c.remove-2.new.self.items c.remove.new.self.items c.as_slice-4.result.now _ columns others matches (to_z-of_z w64 c.args.missing fits) c.in_ok-table.ensures in
    all_joined (keyed_in c.args.main c.args.own) (keyed_in c.args.friend c.args.other) c.args.missing (c.elements.result + c.matched_elements.result) none count c.if-elements-gt-MOST_ELEMENTS.false ∙ ap Ok (sym made)
