use Rattle.lemmas.proofs.{◌≡◌, ◌+◌, ◌-◌, ◌∙◌, ap, ap₂, arith, inr, length, refl, rules, sym, subst, List, Result, w64, FitsSigned}
use Rattle.std.proofs.lemmas.Int.{to_z-of_z}
use Rattle.rdf_values.specs.{Answers, Column, TableView}
use Rattle.friend_join.specs.{first_taken, join_entries, join_of, JoinCause, key_place, keyed_in, table_in}
use Rattle.friend_join.specs.declared.refusal.JoinRefusal.{JoinRefusal}
use Rattle.friend_join.proofs.Headers.{joined_header, key_kind}
use Rattle.friend_join.proofs.Refusing.{goes_on, many_columns, no_friend_key, no_key, taken_name}
use Rattle.friend_join.proofs.joining.join.Goals as goal

pub returns-in-None : goal.returns-in-None
returns-in-None c =
    let own_columns = c.as_slice-columns.ensures ∙ sym (ap (λ (t : TableView). t.columns) c.into_parts-main.ensures.same) in
    inr (JoinCause.NoKey _, refl, no_key c.args.table c.args.friend c.args.key.now c.args.missing (ap (key_place c.args.key.now) (sym own_columns) ∙ sym c.in-None.ensures))

pub returns-in-None-key_place : goal.returns-in-None-key_place
returns-in-None-key_place c =
    let own_columns = c.as_slice-columns.ensures ∙ sym (ap (λ (t : TableView). t.columns) c.into_parts-main.ensures.same) in
    let other_columns = c.as_slice-others.ensures ∙ sym (ap (λ (t : TableView). t.columns) c.into_parts-friend.ensures.same) in
    let here = ap (key_place c.args.key.now) (sym own_columns) ∙ sym c.in-Some.ensures in
    inr (JoinCause.NoKey _, refl, no_friend_key c.args.table c.args.friend c.args.key.now c.args.missing c.in-Some.own here (ap (key_place c.args.key.now) (sym other_columns) ∙ sym c.in-None-key_place.ensures))

pub returns-in-Some-first_taken : goal.returns-in-Some-first_taken
returns-in-Some-first_taken c =
    let own_columns = c.as_slice-columns.ensures ∙ sym (ap (λ (t : TableView). t.columns) c.into_parts-main.ensures.same) in
    let other_columns = c.as_slice-others.ensures ∙ sym (ap (λ (t : TableView). t.columns) c.into_parts-friend.ensures.same) in
    let here = ap (key_place c.args.key.now) (sym own_columns) ∙ sym c.in-Some.ensures in
    let there = ap (key_place c.args.key.now) (sym other_columns) ∙ sym c.in-Some-key_place.ensures in
    inr (JoinCause.NameTaken c.in-Some-first_taken.column, refl, taken_name c.args.table c.args.friend c.args.key.now c.args.missing c.in-Some.own here c.in-Some-key_place.other there c.in-Some-first_taken.column (ap₂ (λ (xs ys : List Column). first_taken xs c.args.key.now ys) (sym own_columns) (sym other_columns) ∙ sym c.in-Some-first_taken.ensures))

pub returns-then-count-gt-MOST_COLUMNS : goal.returns-then-count-gt-MOST_COLUMNS
returns-then-count-gt-MOST_COLUMNS c =
    let own_columns = c.as_slice-columns.ensures ∙ sym (ap (λ (t : TableView). t.columns) c.into_parts-main.ensures.same) in
    let other_columns = c.as_slice-others.ensures ∙ sym (ap (λ (t : TableView). t.columns) c.into_parts-friend.ensures.same) in
    let here = ap (key_place c.args.key.now) (sym own_columns) ∙ sym c.in-Some.ensures in
    let there = ap (key_place c.args.key.now) (sym other_columns) ∙ sym c.in-Some-key_place.ensures in
    inr (
      JoinCause.TooManyColumns _,
      refl,
      many_columns c.args.table c.args.friend c.args.key.now c.args.missing c.in-Some.own here c.in-Some-key_place.other there (length c.as_slice-columns.result.now + length c.as_slice-others.result.now - 1) (ap₂ (λ (xs ys : List Column). first_taken xs c.args.key.now ys) (sym own_columns) (sym other_columns) ∙ sym c.in-None-first_taken.ensures) (ap₂ (λ (xs ys : List Column). length xs + length ys - 1) own_columns other_columns) c.if-count-gt-MOST_COLUMNS.true,
    )

pub join_entries-requires-clause-own : goal.join_entries-requires-clause-own
join_entries-requires-clause-own c =
    let here = sym (c.in-Some.ensures ∙ ap (key_place c.args.key.now) c.as_slice-columns.ensures) in
    key_kind c.args.key.now c.into_parts-main.result.columns c.in-Some.own here

pub join_entries-requires-clause-other : goal.join_entries-requires-clause-other
join_entries-requires-clause-other c =
    let there = sym (c.in-Some-key_place.ensures ∙ ap (key_place c.args.key.now) c.as_slice-others.ensures) in
    key_kind c.args.key.now c.into_parts-friend.result.columns c.in-Some-key_place.other there

pub join_entries-requires-clause-header : goal.join_entries-requires-clause-header
join_entries-requires-clause-header c =
    let there = sym (c.in-Some-key_place.ensures ∙ ap (key_place c.args.key.now) c.as_slice-others.ensures) in
    let free = sym (c.in-None-first_taken.ensures ∙ ap₂ (λ (xs ys : List Column). first_taken xs c.args.key.now ys) c.as_slice-columns.ensures c.as_slice-others.ensures) in
    let few = c.if-count-gt-MOST_COLUMNS.false in
    let wide : length c.as_slice-columns.result.now ≡ length c.into_parts-main.result.columns = ap length c.as_slice-columns.ensures in
    let others : length c.as_slice-others.result.now ≡ length c.into_parts-friend.result.columns = ap length c.as_slice-others.ensures in
    joined_header c.into_parts-main.result.columns c.into_parts-friend.result.columns c.args.key.now c.in-Some-key_place.other c.into_parts-main.ensures.holds.header c.into_parts-friend.ensures.holds.header there free (omega (arith, few, wide, others))

pub returns : goal.returns
returns c =
    let here = sym (c.in-Some.ensures ∙ ap (key_place c.args.key.now) c.as_slice-columns.ensures) in
    let there = sym (c.in-Some-key_place.ensures ∙ ap (key_place c.args.key.now) c.as_slice-others.ensures) in
    let free = sym (c.in-None-first_taken.ensures ∙ ap₂ (λ (xs ys : List Column). first_taken xs c.args.key.now ys) c.as_slice-columns.ensures c.as_slice-others.ensures) in
    let fits : FitsSigned w64 c.args.missing = search rules in
    let own = c.in-Some.own in
    let other = c.in-Some-key_place.other in
    let on = goes_on (table_in c.into_parts-main.result) (table_in c.into_parts-friend.result) c.args.key.now c.args.missing own here other there (length c.as_slice-columns.result.now + length c.as_slice-others.result.now - 1) free (ap₂ (λ (xs ys : List Column). length xs + length ys - 1) c.as_slice-columns.ensures c.as_slice-others.ensures) c.if-count-gt-MOST_COLUMNS.false in
    let tables = ap₂ (λ (main friend : TableView). join_of main friend c.args.key.now c.args.missing) c.into_parts-main.ensures.same c.into_parts-friend.ensures.same in
    let all = tables ∙ on ∙ ap (join_entries (keyed_in c.into_parts-main.result own) (keyed_in c.into_parts-friend.result other)) (sym (to_z-of_z w64 c.args.missing fits)) in
    let wanted : Result TableView JoinCause → Type 0 = λ w. Answers JoinRefusal.At JoinRefusal.Memory w c.join_entries.result in
    subst wanted (sym all) c.join_entries.ensures
