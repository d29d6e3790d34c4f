-- The answers of a join, cause by cause.
use Rattle.lemmas.proofs.{◌≡◌, ◌≤◌, ◌<◌, ◌+◌, ◌-◌, ℕ, ℤ, true, false, cond, List, length, ap, ◌∙◌, sym, None, Some, Result, Ok, Err, ok_or}
use Rattle.std.proofs.lemmas.Bool.{le-ltb, lt-ltb}
use Rattle.rdf_values.specs.{on_ok, TableView}
use Rattle.friend_join.specs.{elements, first_repeat, first_taken, join_columns, join_entries, join_of, JoinCause, joined_table, key_place, KeyedTable, keys_of, most_columns, most_elements, unless_above, unless_at}

above : {A : Type 0} (most n : ℕ) (why : ℕ → JoinCause) (next : Result A JoinCause) → most < n → unless_above most n why next ≡ Err (why n)
above most n why next h = ap (λ b. cond b (Err (why n)) next) (lt-ltb most n h)

within : {A : Type 0} (most n : ℕ) (why : ℕ → JoinCause) (next : Result A JoinCause) → n ≤ most → unless_above most n why next ≡ next
within most n why next h = ap (λ b. cond b (Err (why n)) next) (le-ltb most n h)

module _ (main friend : KeyedTable) (missing : ℤ) where
  abbrev joined : TableView
  joined = joined_table main friend missing

  abbrev rest : Result TableView JoinCause
  rest = unless_above most_elements (elements joined.rows) JoinCause.TooLarge (Ok joined)

  pub repeated : (e : ℕ) → first_repeat (keys_of friend) ≡ Some e → join_entries main friend missing ≡ Err (JoinCause.Duplicate e)
  unfolding join_entries
  repeated e h = ap (λ o. unless_at o JoinCause.Duplicate rest) h

  pub too_large : (n : ℕ) → first_repeat (keys_of friend) ≡ None → n ≡ elements joined.rows → most_elements < n → join_entries main friend missing ≡ Err (JoinCause.TooLarge n)
  unfolding join_entries
  too_large n h e l = ap (λ o. unless_at o JoinCause.Duplicate rest) h ∙ ap (λ m. unless_above most_elements m JoinCause.TooLarge (Ok joined)) (sym e) ∙ above most_elements n JoinCause.TooLarge (Ok joined) l

  pub all_joined : (n : ℕ) → first_repeat (keys_of friend) ≡ None → n ≡ elements joined.rows → n ≤ most_elements → join_entries main friend missing ≡ Ok joined
  unfolding join_entries
  all_joined n h e l = ap (λ o. unless_at o JoinCause.Duplicate rest) h ∙ ap (λ m. unless_above most_elements m JoinCause.TooLarge (Ok joined)) (sym e) ∙ within most_elements n JoinCause.TooLarge (Ok joined) l

module _ (main friend : TableView) (key : List ℕ) (missing : ℤ) where
  abbrev keyed : TableView → ℕ → KeyedTable
  keyed table place = record { table = table; key = place }

  pub no_key : key_place key main.columns ≡ None → join_of main friend key missing ≡ Err (JoinCause.NoKey false)
  unfolding join_of
  no_key h = ap (λ o. on_ok (ok_or o (JoinCause.NoKey false)) (λ own. on_ok (ok_or (key_place key friend.columns) (JoinCause.NoKey true)) (λ other. join_columns key (keyed main own) (keyed friend other) missing))) h

  module _ (own : ℕ) (here : key_place key main.columns ≡ Some own) where
    pub no_friend_key : key_place key friend.columns ≡ None → join_of main friend key missing ≡ Err (JoinCause.NoKey true)
    unfolding join_of
    no_friend_key h =
        ap (λ o. on_ok (ok_or o (JoinCause.NoKey false)) (λ a. on_ok (ok_or (key_place key friend.columns) (JoinCause.NoKey true)) (λ other. join_columns key (keyed main a) (keyed friend other) missing))) here
        ∙ ap (λ o. on_ok (ok_or o (JoinCause.NoKey true)) (λ other. join_columns key (keyed main own) (keyed friend other) missing)) h

    module _ (other : ℕ) (there : key_place key friend.columns ≡ Some other) where
      both_keys : join_of main friend key missing ≡ join_columns key (keyed main own) (keyed friend other) missing
      unfolding join_of
      both_keys =
          ap (λ o. on_ok (ok_or o (JoinCause.NoKey false)) (λ a. on_ok (ok_or (key_place key friend.columns) (JoinCause.NoKey true)) (λ p. join_columns key (keyed main a) (keyed friend p) missing))) here
          ∙ ap (λ o. on_ok (ok_or o (JoinCause.NoKey true)) (λ p. join_columns key (keyed main own) (keyed friend p) missing)) there

      abbrev count : ℕ
      count = length main.columns + length friend.columns - 1

      abbrev next : Result TableView JoinCause
      next = join_entries (keyed main own) (keyed friend other) missing

      abbrev counted : Result TableView JoinCause
      counted = unless_above most_columns count JoinCause.TooManyColumns next

      pub taken_name : (c : ℕ) → first_taken main.columns key friend.columns ≡ Some c → join_of main friend key missing ≡ Err (JoinCause.NameTaken c)
      unfolding join_columns
      taken_name c h = both_keys ∙ ap (λ o. unless_at o JoinCause.NameTaken counted) h

      pub many_columns : (n : ℕ) → first_taken main.columns key friend.columns ≡ None → n ≡ count → most_columns < n → join_of main friend key missing ≡ Err (JoinCause.TooManyColumns n)
      unfolding join_columns
      many_columns n h e l = both_keys ∙ ap (λ o. unless_at o JoinCause.NameTaken counted) h ∙ ap (λ m. unless_above most_columns m JoinCause.TooManyColumns next) (sym e) ∙ above most_columns n JoinCause.TooManyColumns next l

      pub goes_on : (n : ℕ) → first_taken main.columns key friend.columns ≡ None → n ≡ count → n ≤ most_columns → join_of main friend key missing ≡ next
      unfolding join_columns
      goes_on n h e l = both_keys ∙ ap (λ o. unless_at o JoinCause.NameTaken counted) h ∙ ap (λ m. unless_above most_columns m JoinCause.TooManyColumns next) (sym e) ∙ within most_columns n JoinCause.TooManyColumns next l
