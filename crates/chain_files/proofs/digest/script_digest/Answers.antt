use Rattle.lemmas.proofs.{rules, ◌≡◌, ◌∙◌, ap}
use Rattle.chain_files.specs.{digest_of, is_digest}
use Rattle.chain_files.proofs.HexDigits.{are_digits}
use Rattle.chain_files.proofs.digest.script_digest.Goals as goal

pub returns-clause-digits : goal.returns-clause-digits
returns-clause-digits c =
    let same : c.put_digits.new.text ≡ digest_of c.args.script.now = search rules in
    ap is_digest same ∙ are_digits c.args.script.now
