use Rattle.lemmas.proofs.{◌≡◌, ◌∙◌, arith, length, rules, vec_len}
use Rattle.chain_program.proofs.Joining.{some_in_order}
use Rattle.chain_program.proofs.join.join_fitting.Goals as goal

pub remove-first-requires : goal.remove-first-requires
remove-first-requires c =
    let size : vec_len c.into_vec-others.result ≡ length c.into_vec-others.result.items = search rules in
    let some = some_in_order c.args.fitting.now c.args.parts c.into_vec-others.result.items c.requires (c.into_vec-others.ensures ∙ c.in_ok-sorted.ensures) in
    omega (arith, size, some)
