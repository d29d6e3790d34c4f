use Rattle.lemmas.proofs.{◌≡◌, ◌++◌, codes}
use Rattle.std.specs.List.{flat_map}
use Rattle.rdf_values.specs.{below, entry_line}
use Rattle.rdf_program.proofs.make.make_table.Given as goal

abbrev pub invariant-loop-entry : goal.invariant-loop-entry
invariant-loop-entry l = l.bytes ≡ codes "c0:int,c1:int,c2:int,c3:int,v:vec\n" ++ flat_map (entry_line l.seed) (below l.entry)
