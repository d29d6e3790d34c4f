-- One more statement is counted.
use Rattle.lemmas.proofs.{◌≡◌, ◌+◌, Bool, true, false, List, ◌∷◌, length, refl, arith, filter, if◌then◌else◌}
use Rattle.rdf_values.specs.{Statement}
use Rattle.snapshot_plan.specs.{makes_node}

by : (b : Bool) (s : Statement) (rest : List Statement) → makes_node s ≡ b → length (filter makes_node (s ∷ rest)) ≡ (if b then length (filter makes_node rest) + 1 else length (filter makes_node rest))
by true s rest e = rw e (omega arith)
by false s rest e = rw e refl

pub node_more : (s : Statement) (rest : List Statement) → length (filter makes_node (s ∷ rest)) ≡ (if makes_node s then length (filter makes_node rest) + 1 else length (filter makes_node rest))
node_more s rest = by (makes_node s) s rest refl
