use Rattle.lemmas.proofs.{◌∷◌, List, subst, sym}
use Rattle.rdf_values.specs.{Line, Statement}
use Rattle.graph.specs.{AreLoops, history, statements}
use Rattle.graph.specs.declared.loops.LoopTables.{LoopTables}
use Rattle.graph.proofs.Looped.{line_kept}
use Rattle.graph.proofs.loops.+loop_tables.Goals as goal
use Rattle.graph.proofs.loops.+loop_tables.Goals.{in-Print+in_ok-add_print, in_default-statement}

pub returns : goal.returns
returns t c =
    elim c.match-last.branch [
      | in-Print+in_ok-add_print w ↦ subst (λ (x : LoopTables). AreLoops (history c.args.script.now) (statements c.args.lines.now) x) (sym w.tables-is)
          (subst (λ (ls : List Line). AreLoops (history c.args.script.now) (statements ls) w.add_print.new.self) (sym c.in-Some.ensures.cases.0)
          (subst (λ (s : Statement). AreLoops (history c.args.script.now) (s ∷ statements c.in-Some.rest.now) w.add_print.new.self) (sym w.in-Print.is) w.in_ok-add_print.ensures))
      | in_default-statement w ↦ subst (λ (x : LoopTables). AreLoops (history c.args.script.now) (statements c.args.lines.now) x) (sym w.tables-is)
          (line_kept (history c.args.script.now) c.args.lines.now c.in-Some.last.now c.in-Some.rest.now c.in_ok-tables.tables c.in-Some.ensures.cases.0 w.in_default-statement.not-Print c.in_ok-tables.ensures)
    ]
