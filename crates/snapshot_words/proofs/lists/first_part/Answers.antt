use Rattle.lemmas.proofs.{◌+◌, arith, sym}
use Rattle.std.proofs.lemmas.List.{length-drop}
use Rattle.rdf_values.proofs.Fronts.{cut_at, rest_of}
use Rattle.snapshot_words.specs.{is_comma}
use Rattle.snapshot_words.proofs.lists.first_part.Goals as goal

pub returns-in-None : goal.returns-in-None
returns-in-None c = rw (sym c.in-None.ensures) at (cut_at is_comma c.args.text.now)

pub returns-in-Some : goal.returns-in-Some
returns-in-Some c =
    let cut = rw (sym c.in-Some.ensures) at (cut_at is_comma c.args.text.now) in
    rw (rest_of (c.in-Some.i + 1) c.args.text.now) (cut.1, omega (arith, length-drop (c.in-Some.i + 1) c.args.text.now))
