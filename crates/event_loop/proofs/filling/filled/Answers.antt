use Rattle.lemmas.proofs.{length}
use Rattle.rdf_values.specs.{below}
use Rattle.event_loop.proofs.filling.filled.Goals as goal

pub returns : goal.returns
returns c = λ job can.
    let f = can.finished in
    let partials = c.in_ok-partials.ensures job can in
    record { sound = f.sound; stands = c.in_ok-piece.ensures job.facts f.dones (below (length job.faults)) f.are.stand f.unite; orders = partials.0; dones = f.dones; partials = partials.1 }
