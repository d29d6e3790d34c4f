use Rattle.lemmas.proofs.{ℕ, suc, ◌≡◌, ◌<◌, ◌≤◌, ◌-◌, get_or, length}
use Rattle.histograms.proofs.buckets.begin_up_to.Given as goal

abbrev pub invariant-loop-starts : goal.invariant-loop-starts
invariant-loop-starts l = record {
  kept : (b : ℕ) → b < length l.initial.starts.items → get_or l.starts.items b 0 ≡ get_or l.initial.starts.items b 0;
  begun : (b : ℕ) → length l.initial.starts.items ≤ b → b < length l.starts.items → get_or l.starts.items b 0 ≡ l.cell;
  longer : length l.initial.starts.items ≤ length l.starts.items;
}

abbrev pub decreases-loop-starts : goal.decreases-loop-starts
decreases-loop-starts l = suc l.bucket - length l.starts.items
