-- A table that is made from a number, and a script for it: a large input that anybody can make again.
use Rattle.std.specs.Prelude.{ℕ, ◌+◌, ◌*◌, ◌%◌, List, [], ◌∷◌, ◌++◌, map, take, flat_map, codes, decimal}
use Rattle.std.specs.List.{join_with_byte}
use Rattle.rdf_values.specs.clusters.Cuts.{below}

-- the number in column j, from 0 to 3, of an entry
abbrev pub residue : ℕ → ℕ → ℕ → ℕ
residue seed entry j = (entry * 7919 + j * 104729 + seed) % 1000

-- the vector of an entry: the first c0 mod 4 of c1, c2 and c3
abbrev pub residues : ℕ → ℕ → List ℕ
residues seed entry = take (residue seed entry 0 % 4) (residue seed entry 1 ∷ residue seed entry 2 ∷ residue seed entry 3 ∷ [])

-- the line of an entry: four numbers, and the vector
abbrev pub entry_line : ℕ → ℕ → List ℕ
entry_line seed entry =
    join_with_byte 44 (map (λ j. decimal (residue seed entry j)) (below 4) ++ join_with_byte 59 (map decimal (residues seed entry)) ∷ []) ++ 10 ∷ []

-- the table of so many entries from a seed
abbrev pub generated_table : ℕ → ℕ → List ℕ
generated_table entries seed = codes "c0:int,c1:int,c2:int,c3:int,v:vec\n" ++ flat_map (entry_line seed) (below entries)

-- the script: a variation of c0 up and down, a filter, five results and their Prints
abbrev pub generated_script : List ℕ
generated_script =
    codes "v = df.Vary(\"c0\", \"{c0 - 100, c0 + 100}\", [\"down\", \"up\"])\n"
    ++ codes "f = v.Filter(\"c0 > 499\", \"high\")\n"
    ++ codes "n = f.Count()\n"
    ++ codes "s = f.Sum(\"c0\")\n"
    ++ codes "h = df.Histo1D([0, 500, 1000], \"v\")\n"
    ++ codes "m = df.Max(\"c3\")\n"
    ++ codes "r = df.Report()\n"
    ++ codes "VariationsFor(n)\nVariationsFor(s)\n"
    ++ codes "Print(n)\nPrint(s)\nPrint(h)\nPrint(m)\nPrint(r)\n"
