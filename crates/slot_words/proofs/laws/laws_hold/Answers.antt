use Rattle.slot_words.proofs.Noting.{as_many_as_the_bound, higher_bound_keeps}
use Rattle.slot_words.proofs.laws.laws_hold.Goals as goal

pub returns : goal.returns
returns g c = record { many = as_many_as_the_bound g.row.P.Denot; higher = higher_bound_keeps g.row.P.Denot }
