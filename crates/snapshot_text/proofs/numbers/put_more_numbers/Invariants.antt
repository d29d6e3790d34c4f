use Rattle.lemmas.proofs.{◌≡◌, ◌++◌, ◌∷◌, flat_map, take}
use Rattle.std.specs.Fmt.{signed_decimal}
use Rattle.snapshot_text.proofs.numbers.put_more_numbers.Given as goal

abbrev pub invariant-loop-number : goal.invariant-loop-number
invariant-loop-number l = l.text ≡ l.fn.text ++ flat_map (λ z. 59 ∷ signed_decimal z) (take l.number-index l.numbers)
