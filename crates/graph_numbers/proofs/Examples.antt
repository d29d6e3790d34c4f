-- The numbers of a small script, computed from the definitions.
use Rattle.std.specs.Prelude.{◌≡◌, ℕ, List, [], ◌∷◌, map, reverse, codes, Some, None, refl}
use Rattle.rdf_values.specs.{columns_in, Statement, Under}
use Rattle.rdf_model.proofs.Analyses.{num, col, add, gt, define, alias, named_filter, vary_pt, vary_vector, sum, report, variations_for, print, three_columns, IsAccepted}
use Rattle.graph_numbers.specs.{loops, numbered_pass, ResultAt, results, runs, SiteAt, sites, Source, sources}

-- the latest first: two variations of pt, two of w by a vector, a column over an alias of the one and the other, a filter, a sum and a report
abbrev script : List Statement
script =
    print "r" ∷ print "s" ∷ variations_for "s" ∷ report "r" "f" ∷ sum "s" "f" "z" ∷ named_filter "f" "d" (gt (col "z") (num 20)) "big" ∷ define "d" "a" "z" (add (col "p") (col "w"))
    ∷ alias "a" "x" "p" "pt" ∷ vary_vector "x" "v" "w" (col "jets") ("one" ∷ "two" ∷ []) ∷ vary_pt "df" ∷ []

abbrev under : List ℕ → List ℕ → Under
under name tag = Some (record { name = name; tag = tag })

is_accepted : IsAccepted (reverse script)
is_accepted = refl

sites_read_versions : map (λ (x : SiteAt). columns_in x.tree) (sites three_columns [] script) ≡ (0 ∷ []) ∷ (0 ∷ []) ∷ (2 ∷ []) ∷ (3 ∷ 4 ∷ []) ∷ (5 ∷ []) ∷ []
sites_read_versions = refl

nominal_sources : sources three_columns [] None script ≡ Source.Cell 0 ∷ Source.Cell 1 ∷ Source.Cell 2 ∷ Source.Cell 0 ∷ Source.Cell 1 ∷ Source.Site 3 ∷ []
nominal_sources = refl

listed_sources : sources three_columns [] (under (codes "pt") (codes "up")) script ≡ Source.Cell 0 ∷ Source.Cell 1 ∷ Source.Cell 2 ∷ Source.Site 1 ∷ Source.Cell 1 ∷ Source.Site 3 ∷ []
listed_sources = refl

vector_sources : sources three_columns [] (under (codes "w") (codes "two")) script ≡ Source.Cell 0 ∷ Source.Cell 1 ∷ Source.Cell 2 ∷ Source.Cell 0 ∷ Source.Element 2 1 2 ∷ Source.Site 3 ∷ []
vector_sources = refl

results_by_numbers : map {B = List ℕ × List ℕ × List ℕ} (λ (r : ResultAt). (r.filters, r.inputs, r.covers)) (results three_columns [] script) ≡ ((4 ∷ []), (5 ∷ []), []) ∷ ((4 ∷ []), [], (0 ∷ [])) ∷ []
results_by_numbers = refl

passes_by_numbers : loops script script
    ≡ (numbered_pass 0 None ∷ numbered_pass 0 (Some 0) ∷ numbered_pass 0 (Some 1) ∷ numbered_pass 0 (Some 2) ∷ numbered_pass 0 (Some 3) ∷ numbered_pass 1 None ∷ []) ∷ []
passes_by_numbers = refl

prints_by_numbers : runs script ≡ Some 0 ∷ None ∷ []
prints_by_numbers = refl
