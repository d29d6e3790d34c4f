use Rattle.lemmas.proofs.{◌≡◌, rules, int_lt}
use Rattle.std.proofs.lemmas.Fn.{always_returns_same}
use Rattle.histograms.proofs.Filling.{rises-adjacent}
use Rattle.histograms.proofs.edges.rises.Goals as goal

pub returns : goal.returns
returns c = rises-adjacent _ _ (c.is_sorted_by.ensures.cases int_lt (always_returns_same _ (λ a r. r ≡ int_lt a.0.now a.1.0.now) _ (λ a r q k. search rules)))
