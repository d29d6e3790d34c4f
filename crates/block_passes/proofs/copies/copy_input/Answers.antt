use Rattle.lemmas.proofs.{ℕ, length, refl, All-from_recursion, slice_get_read}
use Rattle.loop_keys.specs.{IsSourceIn}
use Rattle.block_passes.specs.{source_in_turn}
use Rattle.block_passes.proofs.Demanding.{all_get}
use Rattle.block_passes.proofs.copies.copy_input.Goals as goal

pub returns-in-Some-clause-plain : goal.returns-in-Some-clause-plain
returns-in-Some-clause-plain g c = λ plain.
    let l = c.in-Some.ensures.lookup in
    let inputs = c.args.own.now.inputs.now in
    c.copy_version.ensures.plain plain.used plain.sites
    (all_get (λ (v : ℕ). IsSourceIn plain.used (source_in_turn c.args.at.now c.args.own.now.under v)) inputs (All-from_recursion _ inputs plain.inputs) c.args.nth c.in-Some.version.now
    (slice_get_read inputs (length inputs) c.args.nth c.in-Some.version.now refl l.3.0 l.1))
