use Rattle.lemmas.proofs.{◌≡◌, rules}
use Rattle.actions.proofs.state.State.new.Goals as goal

pub returns-in_ok-clone-in-Histo2D : goal.returns-in_ok-clone-in-Histo2D
returns-in_ok-clone-in-Histo2D c = let weight : c.in_ok-clone-in-Histo2D.field-0 ≡ c.in-Histo2D.weight = search rules in search rules
