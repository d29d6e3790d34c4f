use Rattle.lemmas.proofs.{◌∙◌, ◌++◌, ℕ, List, ap, ap₂, append_assoc, codes, decimal, sym}
use Rattle.rdf_values.specs.{line}
use Rattle.chain_program.proofs.lines.refused_file.Goals as goal

pub returns : goal.returns
returns c = (
  c.new.ensures.0,
  c.new.ensures.1 ∙ c.in_ok-text.ensures ∙ ap₂ (λ (n t : List ℕ). line (codes "file " ++ (n ++ t))) c.as_bytes.ensures.value (c.as_bytes-2.ensures ∙ c.in_ok-tail.ensures)
      ∙ ap (λ (l : List ℕ). line (codes "file " ++ l)) (sym (append_assoc c.args.name.now (codes " refused at line ") (decimal c.args.number))),
)
