use Rattle.lemmas.proofs.{ℕ, ◌≡◌, ◌<◌, ◌≤◌, get_or}
use Rattle.histograms.specs.{CellSum, together}
use Rattle.histograms.proofs.cell_sum.add_all.Given as goal

-- the cells below i are added, the others are as before
abbrev pub invariant-loop-i : goal.invariant-loop-i
invariant-loop-i l = record {
  done : (k : ℕ) (d : CellSum) → k < l.i → get_or l.cells k d ≡ together (get_or l.initial.cells k d) (get_or l.more k d);
  rest : (k : ℕ) (d : CellSum) → l.i ≤ k → get_or l.cells k d ≡ get_or l.initial.cells k d;
}
