use Rattle.lemmas.proofs.{rules, ◌≡◌, ◌∷◌, FitsSigned, on_ok, signed_decimal, to_z-of_z, w64}
use Rattle.snapshot_text.proofs.Joined.{grown_by}
use Rattle.snapshot_text.proofs.numbers.put_numbers.Goals as goal

pub returns-in_ok-put_number-in-Some : goal.returns-in_ok-put_number-in-Some
returns-in_ok-put_number-in-Some c =
    let whole : c.args.numbers.now ≡ c.in-Some.first.now ∷ c.in-Some.rest.now = search rules in
    let fits : FitsSigned w64 c.in-Some.first.now = search rules in
    on_ok c.put_more_numbers.result _ _
    (λ e. grown_by 59 signed_decimal c.args.text.now c.put_number.new.text c.put_more_numbers.new.text c.in-Some.first.now c.in-Some.rest.now c.args.numbers.now whole
    (rw (to_z-of_z w64 c.in-Some.first.now fits) at c.in_ok-put_number-in-Some.ensures) e)
    c.put_more_numbers.ensures
