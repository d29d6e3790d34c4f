use Rattle.rdf_outside.proofs.Outside.{finds_at, finds_none}
use Rattle.rdf_outside.proofs.memory_shelf.MemoryShelfShelf.turn_to.Goals as goal

pub returns-in-Some-clause-turned : goal.returns-in-Some-clause-turned
returns-in-Some-clause-turned c = rw (← c.deref.ensures.value, ← c.as_bytes-name.ensures.value) (finds_at c.deref.result.now c.as_bytes-name.result.now c.in-Some.file c.in-Some.ensures)

pub returns-in-None-clause-turned : goal.returns-in-None-clause-turned
returns-in-None-clause-turned c = rw (← c.deref.ensures.value, ← c.as_bytes-name.ensures.value) (finds_none c.deref.result.now c.as_bytes-name.result.now c.in-None.ensures)
