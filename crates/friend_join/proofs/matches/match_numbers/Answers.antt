use Rattle.lemmas.proofs.{◌∙◌, ◌++◌, ◌∷◌, [], ap, append_assoc, map, rules, sym, take, w64, FitsSigned, map_push, take_next, to_z-of_z}
use Rattle.friend_join.specs.{entry_of}
use Rattle.friend_join.proofs.matches.match_numbers.Goals as goal

pub loop-place-preserved : goal.loop-place-preserved
loop-place-preserved c =
    let ns = c.args.numbers.now in
    let i = c.loop-place.place in
    let number = c.at-number.result in
    let f = entry_of c.args.keys.now.keys in
    let fits : FitsSigned w64 number = search rules in
    let entry = rw (to_z-of_z w64 number fits) at (c.new.ensures ∙ c.get_index_of.ensures.index) in
    c.in_ok-push.ensures.items ∙ ap (λ e. c.loop-place.matches.items ++ e ∷ []) entry ∙ ap (λ xs. xs ++ f number ∷ []) c.loop-place.invariant
    ∙ append_assoc c.args.matches.now.items (map f (take i ns)) (f number ∷ []) ∙ ap (λ xs. c.args.matches.now.items ++ xs) (sym (ap (map f) (take_next ns i number c.at-number.ensures) ∙ map_push f (take i ns) number))
