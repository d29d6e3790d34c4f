use Rattle.lemmas.proofs.{◌++◌, List, ℕ, append_assoc, ap, ap₂, sym, subst, ◌∙◌, slice_get, on_ok, something_at}
use Rattle.graph_numbers.specs.{graph_results, GraphView}
use Rattle.result_text.specs.{filled_text, FitsResult}
use Rattle.event_loop.specs.{session_of}
use Rattle.event_loop.proofs.SessionLines.{all_lines, fits, have_runs}
use Rattle.event_loop.proofs.prints.put_result.Goals as goal

pub partial_lines-requires-clause-runs : goal.partial_lines-requires-clause-runs
partial_lines-requires-clause-runs g c =
    let x = something_at (graph_results (session_of c.args.session.now).graph) c.args.r c.requires.result in
    have_runs (session_of c.args.session.now) c.requires.session c.args.r x.0 x.1 c.args.loop_index _ _ (c.filled.ensures x.0 x.1)

pub result_lines-requires-clause-filled : goal.result_lines-requires-clause-filled
result_lines-requires-clause-filled g c = λ x its.
    let at = ap (λ (h : GraphView). slice_get (graph_results h) c.args.r) (sym c.graph-2.ensures) ∙ its in
    subst (λ (h : GraphView). FitsResult h x c.filled.result.0) (sym c.graph-2.ensures) (fits (session_of c.args.session.now) c.requires.session c.args.r x at c.args.loop_index _ _ (c.filled.ensures x at))

pub returns : goal.returns
returns g c = λ x course its fits_course.
    let old = c.args.text.now in
    let front = c.in_ok-front.ensures x (ap (λ (h : GraphView). slice_get (graph_results h) c.args.r) c.graph.ensures ∙ its) in
    let text = c.in_ok-lines.ensures x (ap (λ (h : GraphView). slice_get (graph_results h) c.args.r) c.graph-2.ensures ∙ its) ∙ ap (λ (h : GraphView). filled_text h x c.filled.result.0) c.graph-2.ensures in
    let all = all_lines (session_of c.args.session.now) c.requires.session c.args.r x its c.args.loop_index _ _ (c.filled.ensures x its) course fits_course (c.requires.filled x its).0 in
    on_ok c.extend-2.result _ _
    (λ e. e ∙ ap₂ (λ (a b : List ℕ). a ++ b) (c.in_ok-extend.ensures.ok ∙ ap (λ (l : List ℕ). old ++ l) (c.as_bytes.ensures ∙ front)) (c.as_bytes-2.ensures ∙ text) ∙ append_assoc old _ _ ∙ ap (λ (l : List ℕ). old ++ l) all)
    c.extend-2.ensures.ok
