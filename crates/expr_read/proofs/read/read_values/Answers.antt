use Rattle.lemmas.proofs.{Ok, Err, Result, IfOk, IfErr, MatchResult}
use Rattle.rdf_values.specs.{begin_values, ReadsValues}
use Rattle.expr_read.proofs.WholeReads.{whole_values}
use Rattle.expr_read.proofs.Decided.{text_refused, memory_alone, one_value}
use Rattle.expr_read.proofs.read.read_values.Goals as goal

match_as : {A E : Type 0} {P P' : A → Type 0} {Q Q' : E → Type 0} → (r : Result A E) → ((x : A) → P x → P' x) → ((e : E) → Q e → Q' e) → IfOk r P → IfErr r Q → MatchResult r P' Q'
match_as (Ok x) f g h k = f x h
match_as (Err e) f g h k = g e k

pub returns-clause-complete : goal.returns-clause-complete
returns-clause-complete c v r =
    match_as c.parse_values.result (λ x h. one_value c.args.text.now _ x v c.in_ok-tokens.ensures h r)
    (λ e h. memory_alone ReadsValues begin_values whole_values c.args.text.now v e r (text_refused ReadsValues begin_values whole_values c.args.text.now _ e c.in_ok-tokens.ensures h))
    (rw c.as_slice.ensures.value at c.parse_values.ensures.ok) (rw c.as_slice.ensures.value at c.parse_values.ensures.err)
