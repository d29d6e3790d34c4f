-- What the words ask for.
use Rattle.std.specs.Prelude.{ℕ, Bool, true, ◌&&◌, List, length, Option, Some, None, if◌then◌else◌, nat_eq, nat_le, codes, bytes_eq}
use Rattle.std.specs.List.{after_first, before_first, list_all, slice_split}
use Rattle.clap.specs.Words.{App, Row, Text, fault_of, first_of, matches_of, new_app, with_rule}
use Rattle.clap.specs.Simple.{on_top}
use Rattle.rdf_values.specs.{is_colon, is_name}
use Rattle.command_words.specs.{has_none, option, positional, setting_of}
use Rattle.snapshot_plan.specs.{Under}
use Rattle.snapshot_plan.specs.declared.under.Under.TheVariants.{Nominal, Varied}
use Rattle.snapshot_words.specs.declared.command.SnapCommand.{SnapCommand}
use Rattle.snapshot_words.specs.declared.read.Files.{Files}
use Rattle.snapshot_words.specs.declared.read.Shown.{Shown}

-- `rdf_snapshot SCRIPT TABLE NODE COLUMNS UNDER [--slots N] [--cluster N]`, over the words after the program's name
unfoldable pub snapshot_command : App
snapshot_command =
    with_rule (with_rule (with_rule (with_rule (with_rule (with_rule (with_rule
    (on_top (λ s. record s { no_binary_name = true }) (new_app (codes "rdf_snapshot")))
    (positional (codes "SCRIPT"))) (positional (codes "TABLE"))) (positional (codes "NODE"))) (positional (codes "COLUMNS"))) (positional (codes "UNDER")))
    (option (codes "slots"))) (option (codes "cluster"))

-- no step of the parse refuses the words
unfoldable pub is_taken : List Text → Bool
is_taken words = has_none (fault_of snapshot_command words)

-- ---- what is shown

abbrev pub is_comma : ℕ → Bool
is_comma b = nat_eq b 44

abbrev pub if_names : List Text → Option (List Text)
if_names parts = if list_all is_name parts && nat_le (length parts) 64 then Some parts else None

-- 1 to 64 names with commas between them
unfoldable pub names_of : Text → Option (List Text)
names_of text = if_names (slice_split is_comma text)

-- the variation of a name and a tag
abbrev pub varied_of : Text → Text → Option Under
varied_of name tag = if is_name name && is_name tag then Some (Varied name tag) else None

-- `nominal`, or a name, a colon and a tag
unfoldable pub under_in : Text → Option Under
under_in text = if bytes_eq text (codes "nominal") then Some Nominal else varied_of (before_first is_colon text) (after_first is_colon text)

abbrev pub shown_by : Text → Option (List Text) → Option Under → Option Shown
shown_by node None under = None
shown_by node (Some columns) None = None
shown_by node (Some columns) (Some under) = Some (record { node = node; columns = columns; under = under })

-- a node, columns, and nominal or a variation
abbrev pub shown_of : Option Text → Option Text → Option Text → Option Shown
shown_of None columns under = None
shown_of (Some node) None under = None
shown_of (Some node) (Some columns) None = None
shown_of (Some node) (Some columns) (Some under) = if is_name node then shown_by node (names_of columns) (under_in under) else None

-- ---- all words

abbrev pub files_of : Option Text → Option Text → Option Files
files_of None table = None
files_of (Some script) None = None
files_of (Some script) (Some table) = Some (record { script = script; table = table })

abbrev pub command_of : Files → Shown → ℕ → ℕ → SnapCommand
command_of files shown slots cluster =
    record { script = files.script; table = files.table; node = shown.node; columns = shown.columns; under = shown.under; slots = slots; cluster = cluster }

abbrev pub asked_by : Option Files → Option Shown → Option ℕ → Option ℕ → Option SnapCommand
asked_by None shown slots cluster = None
asked_by (Some files) None slots cluster = None
asked_by (Some files) (Some shown) None cluster = None
asked_by (Some files) (Some shown) (Some slots) None = None
asked_by (Some files) (Some shown) (Some slots) (Some cluster) = Some (command_of files shown slots cluster)

-- what is asked by the values of the arguments
unfoldable pub asked_in : List Row → Option SnapCommand
asked_in rows =
    asked_by (files_of (first_of (codes "SCRIPT") rows) (first_of (codes "TABLE") rows))
    (shown_of (first_of (codes "NODE") rows) (first_of (codes "COLUMNS") rows) (first_of (codes "UNDER") rows))
    (setting_of 1 16 (first_of (codes "slots") rows)) (setting_of 10000 1000000 (first_of (codes "cluster") rows))

-- what the words ask for, where the command takes them, each has its form and each number is canonical and within its limits
unfoldable pub asked_of : List Text → Option SnapCommand
asked_of words = if is_taken words then asked_in (matches_of snapshot_command words) else None
