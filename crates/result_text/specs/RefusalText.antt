-- What is printed of a refusal.
use Rattle.std.specs.Prelude.{ℕ, List, ◌++◌, codes, decimal}
use Rattle.rdf_values.specs.{line, TableCause, graph_cause_line, long_script_line, long_table_line, no_file_line, read_failed_line, script_cause_line, table_cause_line}
use Rattle.friend_join.specs.{JoinCause}
use Rattle.result_text.specs.declared.refusals.Refusal.{Refusal}
use Rattle.result_text.specs.declared.refusals.Refusal.TheVariants.{Words, Read, NoFile, ScriptLong, Script, Graph, TableLong, Table, FriendLong, Friend, Join}

-- ---- the lines of a friend that is refused

-- an entry of a table is refused for a cause
abbrev pub at_entry_for : ℕ → List ℕ → List ℕ
at_entry_for entry cause = line (codes " refused at entry " ++ decimal entry ++ codes ": " ++ cause)

-- a field of an entry is refused for a cause
abbrev pub at_field_for : ℕ → ℕ → List ℕ → List ℕ
at_field_for entry field cause = line (codes " refused at entry " ++ decimal entry ++ codes " field " ++ decimal field ++ codes ": " ++ cause)

-- why a text is no table, behind the table's name
abbrev pub refused_for : TableCause → List ℕ
refused_for (TableCause.Header field) = line (codes " refused at header field " ++ decimal field ++ codes ": B1 Header")
refused_for (TableCause.FieldCount entry) = at_entry_for entry (codes "B2 FieldCount")
refused_for (TableCause.BadInt entry field) = at_field_for entry field (codes "B3 BadInt")
refused_for (TableCause.BadVec entry field) = at_field_for entry field (codes "B4 BadVec")
refused_for (TableCause.TooMany entry) = at_entry_for entry (codes "B5 TooMany")
refused_for (TableCause.BadCut entry field) = at_field_for entry field (codes "B6 BadCut")

-- why a text is no friend
abbrev pub friend_cause_line : TableCause → List ℕ
friend_cause_line cause = codes "friend" ++ refused_for cause

abbrev pub long_friend_line : List ℕ
long_friend_line = line (codes "friend refused: longer than 67108864 bytes")

-- why a friend that reads isn't joined
abbrev pub join_cause_line : JoinCause → List ℕ
join_cause_line (JoinCause.NoKey friend) = line (codes "friend refused: J1 NoKey")
join_cause_line (JoinCause.NameTaken column) = line (codes "friend refused: J2 NameTaken")
join_cause_line (JoinCause.TooManyColumns count) = line (codes "friend refused: J3 TooManyColumns")
join_cause_line (JoinCause.Duplicate entry) = line (codes "friend refused at entry " ++ decimal entry ++ codes ": J4 Duplicate")
join_cause_line (JoinCause.TooLarge elements) = line (codes "friend refused: J5 TooLarge")

-- how the command is called
abbrev pub usage_line : List ℕ
usage_line = line (codes "usage: rdf SCRIPT TABLE [--slots N] [--cluster N] [--watch K] [--make] [--friend FILE] [--key NAME] [--missing N]")

abbrev pub refusal_text : Refusal → List ℕ
refusal_text Words = usage_line
refusal_text (Read name) = read_failed_line name
refusal_text (NoFile name) = no_file_line name
refusal_text ScriptLong = long_script_line
refusal_text (Script cause) = script_cause_line cause
refusal_text (Graph number cause) = graph_cause_line number cause
refusal_text TableLong = long_table_line
refusal_text (Table cause) = table_cause_line cause
refusal_text FriendLong = long_friend_line
refusal_text (Friend cause) = friend_cause_line cause
refusal_text (Join cause) = join_cause_line cause
