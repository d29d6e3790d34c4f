-- Snapshots computed from the definitions.
use Prim.Native.String.{String}
use Rattle.std.specs.Prelude.{◌≡◌, ℕ, List, [], ◌∷◌, map, pos, Some, None, Ok, Err, codes, flat_map, refl}
use Rattle.std.specs.Fmt.{digits}
use Rattle.rdf_values.specs.{Column, line, Statement, Under, Value}
use Rattle.rdf_values.specs.declared.results.EntryFault.TheVariants.{ZeroDivisor}
use Rattle.rdf_model.proofs.Analyses.{col, define, div, filter, gt, int_column, num, script, sub, table, texts, three_columns, vary_pt, vec_column}
use Rattle.snapshot_plan.specs.{PlanView}
use Rattle.snapshot_text.specs.{table_text}
use Rattle.snapshot_rows.specs.{snapshot}

-- v = df.Vary("pt", "{pt - 11, pt + 11}", ["down", "up"])
-- f = v.Filter("pt > 20")
-- d = f.Define("q", "100 / (pt - 25)")
abbrev statements : List Statement
statements = vary_pt "df" ∷ filter "f" "v" (gt (col "pt") (num 20)) ∷ define "d" "f" "q" (div (num 100) (sub (col "pt") (num 25))) ∷ []

abbrev plan_at : String → List String → Under → PlanView
plan_at node columns u = record {
  graph = record { script = script statements; header = three_columns; names = [] };
  node = codes node;
  columns = texts columns;
  under = u;
}

abbrev pt_up : Under
pt_up = Some (record { name = codes "pt"; tag = codes "up" })

abbrev cells : ℕ → List ℕ → List Value
cells pt jets = Value.Int (pos pt) ∷ Value.Vect (map pos jets) ∷ []

abbrev columns_shown : List Column
columns_shown = int_column "pt" ∷ vec_column "jets" ∷ []

pub varied_entries_are_those_that_pass_varied : snapshot (plan_at "f" ("pt" ∷ "jets" ∷ []) pt_up) table
    ≡ Ok (record { columns = columns_shown; rows = cells 21 (3 ∷ 4 ∷ []) ∷ cells 36 [] ∷ cells 51 (50 ∷ []) ∷ [] })
varied_entries_are_those_that_pass_varied = refl

pub nominal_entries_are_those_that_pass : snapshot (plan_at "f" ("pt" ∷ "jets" ∷ []) None) table
    ≡ Ok (record { columns = columns_shown; rows = cells 25 [] ∷ cells 40 (50 ∷ []) ∷ [] })
nominal_entries_are_those_that_pass = refl

pub its_text : table_text (record { columns = columns_shown; rows = cells 21 (3 ∷ 4 ∷ []) ∷ cells 36 [] ∷ cells 51 (50 ∷ []) ∷ [] })
    ≡ flat_map line (codes "pt:int,jets:vec" ∷ codes "21,3;4" ∷ codes "36," ∷ codes "51,50" ∷ [])
unfolding digits
its_text = refl

pub column_faults_where_the_entry_passes : snapshot (plan_at "d" ("q" ∷ []) None) table ≡ Err (record { entry = 1; kind = ZeroDivisor })
column_faults_where_the_entry_passes = refl

pub column_that_is_not_asked_for_faults_nowhere : snapshot (plan_at "d" ("pt" ∷ "jets" ∷ []) None) table
    ≡ Ok (record { columns = columns_shown; rows = cells 25 [] ∷ cells 40 (50 ∷ []) ∷ [] })
column_that_is_not_asked_for_faults_nowhere = refl
