-- The line that a pass of an action has: its kind, its length, and the sort of a Take's values.
use Rattle.std.specs.Prelude.{ℕ, ◌*◌, suc, Bool, true, false, ◌&&◌, List, [], ◌∷◌, length, nat_eq}
use Rattle.std.specs.List.{list_all}
use Rattle.rdf_values.specs.{ActionAt, ActionKind, Booking, ColType, ReportOn, Scalar}
use Rattle.shard_lines.specs.Lines.{is_number, is_truth}
use Rattle.shard_lines.specs.declared.pass_shape.PassShape.{PassShape}
use Rattle.shard_lines.specs.declared.shard_line.ShardLine.{ShardLine}

-- ---- shapes

-- the shape of an action's passes, where its first column is of that kind
abbrev pub action_shape : ColType → ActionKind → PassShape
action_shape column ActionKind.Count = PassShape.Count
action_shape column (ActionKind.Sum c) = PassShape.Sum
action_shape column (ActionKind.Min c) = PassShape.Least
action_shape column (ActionKind.Max c) = PassShape.Greatest
action_shape column (ActionKind.Take c) = PassShape.Take column
action_shape column (ActionKind.Reduce o c) = PassShape.Number o
action_shape column (ActionKind.Histo1D edges x w) = PassShape.Cells (suc (length edges))
action_shape column (ActionKind.Histo2D xs ys x y w) = PassShape.Cells (suc (length xs) * suc (length ys))

-- the same of a booked result: a report has its filters
abbrev pub booking_shape : ColType → Booking → PassShape
booking_shape column (ActionAt action at) = action_shape column action
booking_shape column (ReportOn filters) = PassShape.Report (length filters)

-- ---- lines of a shape

-- a value may stand in a Take of a column of that kind: the numbers of a vector are taken one by one
abbrev pub is_taken_from : ColType → Scalar → Bool
is_taken_from ColType.Int x = is_number x
is_taken_from ColType.Bool x = is_truth x
is_taken_from ColType.Vect x = is_number x

abbrev pub is_count : ShardLine → Bool
is_count (ShardLine.Count n) = true
is_count l = false

abbrev pub is_sum : ShardLine → Bool
is_sum (ShardLine.Sum z) = true
is_sum l = false

abbrev pub is_extreme : ShardLine → Bool
is_extreme (ShardLine.Extreme z) = true
is_extreme l = false

abbrev pub is_take_from : ColType → ShardLine → Bool
is_take_from column (ShardLine.Take xs) = list_all (is_taken_from column) xs
is_take_from column l = false

abbrev pub is_reduced : ShardLine → Bool
is_reduced (ShardLine.Number z) = true
is_reduced l = false

abbrev pub are_cells : ℕ → ShardLine → Bool
are_cells n (ShardLine.Cells cs) = nat_eq (length cs) n
are_cells n l = false

abbrev pub is_report : ℕ → ShardLine → Bool
is_report n (ShardLine.Report cs) = nat_eq (length cs) n
is_report n l = false

-- the line is of that kind, of its length, and of its sort of values
abbrev pub has_shape : PassShape → ShardLine → Bool
has_shape PassShape.Count l = is_count l
has_shape PassShape.Sum l = is_sum l
has_shape PassShape.Least l = is_extreme l
has_shape PassShape.Greatest l = is_extreme l
has_shape (PassShape.Take column) l = is_take_from column l
has_shape (PassShape.Number o) l = is_reduced l
has_shape (PassShape.Cells n) l = are_cells n l
has_shape (PassShape.Report n) l = is_report n l

-- one line for each shape, in order
abbrev pub have_shapes : List PassShape → List ShardLine → Bool
have_shapes [] [] = true
have_shapes [] (l ∷ ls) = false
have_shapes (s ∷ ss) [] = false
have_shapes (s ∷ ss) (l ∷ ls) = has_shape s l && have_shapes ss ls
