use Rattle.lemmas.proofs.{◌≡◌, [], ◌∷◌, if◌then◌else◌, subst, something_at}
use Rattle.rdf_values.specs.{Pass as NamedPass}
use Rattle.graph_numbers.specs.{booked_statements, graph_results}
use Rattle.loop_pieces.specs.{place_if_watched}
use Rattle.event_loop.proofs.Found.{nominal_is, varied_unwatched}
use Rattle.event_loop.proofs.place.is_watched.Goals as goal

pub returns-in-None : goal.returns-in-None
returns-in-None c = λ n q at.
    let graph = c.args.graph.now in
    let x = something_at (graph_results graph) c.args.pass.result c.requires.its_result in
    subst (λ (p : NamedPass). place_if_watched (booked_statements graph) n p ≡ (if c.is_noted.result then n ∷ [] else []))
    (nominal_is graph c.args.pass q at c.in-None.is x.0 x.1) (c.is_noted.ensures x.0 n x.1)

pub returns-in-Some : goal.returns-in-Some
returns-in-Some c = λ n q at. varied_unwatched c.args.graph.now c.args.pass q at n _ c.in-Some.is c.requires
