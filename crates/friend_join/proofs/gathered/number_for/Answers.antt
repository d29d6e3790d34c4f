use Rattle.lemmas.proofs.{◌∙◌, pos, rules, sym, w64, FitsSigned}
use Rattle.std.proofs.lemmas.Int.{to_z-of_z}
use Rattle.friend_join.proofs.Removing.{got}
use Rattle.friend_join.proofs.gathered.number_for.Goals as goal

pub returns-in-Some : goal.returns-in-Some
returns-in-Some c =
    let fits : FitsSigned w64 c.at.result = search rules in
    rw (sym c.get.ensures ∙ c.in-Some.is, to_z-of_z w64 c.at.result fits) (sym (got c.args.numbers.now c.in-Some.entry c.at.result (pos 0) c.at.ensures).1)
