-- The definitions computed on small tables.
use Rattle.lemmas.proofs.{◌≡◌, ℕ, ℤ, pos, negsuc, false, List, [], ◌∷◌, ◌++◌, refl, Ok, Err, codes}
use Rattle.rdf_values.specs.{ColType, Column, TableView, Value}
use Rattle.friend_join.specs.{join_columns, join_entries, join_of, JoinCause}

abbrev int_column : List ℕ → Column
int_column name = record { name = name; kind = ColType.Int }

abbrev vec_column : List ℕ → Column
vec_column name = record { name = name; kind = ColType.Vect }

-- four entries of pt, w and jets
abbrev main : TableView
main = record {
  columns = int_column (codes "pt") ∷ int_column (codes "w") ∷ vec_column (codes "jets") ∷ [];
  rows = (Value.Int (pos 10) ∷ Value.Int (pos 1) ∷ Value.Vect (pos 3 ∷ pos 4 ∷ []) ∷ []) ∷ (Value.Int (pos 25) ∷ Value.Int (pos 2) ∷ Value.Vect [] ∷ []) ∷ (Value.Int (pos 40) ∷ Value.Int (pos 1) ∷ Value.Vect (pos 50 ∷ []) ∷ [])
      ∷ (Value.Int (pos 5) ∷ Value.Int (negsuc 2) ∷ Value.Vect (pos 1 ∷ pos 1 ∷ pos 1 ∷ []) ∷ []) ∷ [];
}

abbrev friend_columns : List Column
friend_columns = int_column (codes "pt") ∷ int_column (codes "run") ∷ vec_column (codes "ids") ∷ []

abbrev friend_rows : List (List Value)
friend_rows = (Value.Int (pos 40) ∷ Value.Int (pos 7) ∷ Value.Vect (pos 1 ∷ pos 2 ∷ []) ∷ []) ∷ (Value.Int (pos 10) ∷ Value.Int (pos 5) ∷ Value.Vect [] ∷ []) ∷ []

abbrev friend : TableView
friend = record { columns = friend_columns; rows = friend_rows }

-- the columns run and ids of each entry
abbrev joined_with : ℤ → TableView
joined_with missing = record {
  columns = main.columns ++ int_column (codes "run") ∷ vec_column (codes "ids") ∷ [];
  rows = (Value.Int (pos 10) ∷ Value.Int (pos 1) ∷ Value.Vect (pos 3 ∷ pos 4 ∷ []) ∷ Value.Int (pos 5) ∷ Value.Vect [] ∷ []) ∷ (Value.Int (pos 25) ∷ Value.Int (pos 2) ∷ Value.Vect [] ∷ Value.Int missing ∷ Value.Vect [] ∷ [])
      ∷ (Value.Int (pos 40) ∷ Value.Int (pos 1) ∷ Value.Vect (pos 50 ∷ []) ∷ Value.Int (pos 7) ∷ Value.Vect (pos 1 ∷ pos 2 ∷ []) ∷ [])
      ∷ (Value.Int (pos 5) ∷ Value.Int (negsuc 2) ∷ Value.Vect (pos 1 ∷ pos 1 ∷ pos 1 ∷ []) ∷ Value.Int missing ∷ Value.Vect [] ∷ []) ∷ [];
}

pub two_entries_have_a_friend : join_of main friend (codes "pt") (pos 0) ≡ Ok (joined_with (pos 0))
unfolding join_of join_columns join_entries
two_entries_have_a_friend = refl

pub the_missing_number_is_the_callers : join_of main friend (codes "pt") (negsuc 0) ≡ Ok (joined_with (negsuc 0))
unfolding join_of join_columns join_entries
the_missing_number_is_the_callers = refl

pub a_key_stands_twice : join_of main (record { columns = friend_columns; rows = friend_rows ++ (Value.Int (pos 40) ∷ Value.Int (pos 8) ∷ Value.Vect [] ∷ []) ∷ [] }) (codes "pt") (pos 0) ≡ Err (JoinCause.Duplicate 2)
unfolding join_of join_columns join_entries
a_key_stands_twice = refl

pub the_key_is_a_vector : join_of main friend (codes "jets") (pos 0) ≡ Err (JoinCause.NoKey false)
unfolding join_of join_columns join_entries
the_key_is_a_vector = refl
