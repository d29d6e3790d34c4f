-- Scripts that are booked over columns, or refused.
use Rattle.lemmas.proofs.{Ok, ◌≡◌, ℕ, List, None, Some, ap₂, refl, sym, ◌∙◌}
use Rattle.rdf_values.specs.Answered.{Refuses}
use Rattle.rdf_values.specs.{Column, fn_names, Function, FunctionNames, graph_cause_line, GraphCause, Script, verdict}
use Rattle.graph_numbers.specs.{booked, GraphView}
use Rattle.graph.specs.{GraphRefusal, refused_at}
use Rattle.graph.proofs.Finished.{accepted_verdict, refusal_of, refused_verdict}
use Rattle.chain_due.specs.{graph_over, WithAccepted}
use Rattle.chain_due.specs.declared.status.ChainStatus.TheVariants.{ScriptRefused}
use Rattle.chain_program.specs.Answers.{Answers}
use Rattle.chain_program.specs.declared.answer.Answer.{Answer}

-- a script that can't be booked over the columns is refused
pub not_booked : (fns : List Function) (script : Script) (header columns : List Column) (names : FunctionNames) (refusal : GraphRefusal) (line line' : ℕ) (cause cause' : GraphCause) (a : Answer) → header ≡ columns → names ≡ fn_names fns
    → refusal ≡ GraphRefusal.At line cause → Refuses refused_at GraphRefusal.Memory (booked script header names) refusal → line' ≡ line → cause' ≡ cause → (a.status ≡ ScriptRefused) × (a.text ≡ graph_cause_line line' cause')
    → Answers (λ d. WithAccepted fns script columns (λ e. ⊥) d) a
not_booked fns script header columns names refusal line line' cause cause' a h n is refused l k e =
    let v = refused_verdict _ (verdict names header script) (line, cause) (refusal_of _ line cause (rw is at refused)) in
    let w : verdict (fn_names fns) columns script ≡ Some (line, cause) = rw (h, n) at v in
    let text : a.text ≡ graph_cause_line line cause = rw (l, k) at e.1 in
    (rw e.0 tt, rw (w, e.0, text) refl)

-- a script that is booked is accepted
pub is_booked : (fns : List Function) (script : Script) (header columns : List Column) (names : FunctionNames) (g : GraphView) → header ≡ columns → names ≡ fn_names fns → booked script header names ≡ Ok g
    → (verdict (fn_names fns) columns script ≡ None) × (g ≡ graph_over fns script columns)
is_booked fns script header columns names g h n e =
    let both = accepted_verdict _ g (verdict names header script) e in
    (sym (ap₂ (λ ns cs. verdict ns cs script) n h) ∙ both.0, both.1 ∙ (λ i. record { script = script; header = h i; names = n i }))
