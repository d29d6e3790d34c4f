use Rattle.rdf_values.specs.scripts.Statements as st
use Rattle.script_read.proofs.statement.action_kind.Goals as goal

pub returns-in_ok-weight-in-Histo1D-clause-ok : goal.returns-in_ok-weight-in-Histo1D-clause-ok
returns-in_ok-weight-in-Histo1D-clause-ok c = rw (c.in-Histo1D.is, c.in_ok-x_edges-in-Histo1D.ensures.ok) (st.histo1d c.in_ok-x-in-Histo1D.ensures.ok c.in_ok-weight-in-Histo1D.ensures.ok)

pub returns-in_ok-maybe_name-in-Histo2D-clause-ok : goal.returns-in_ok-maybe_name-in-Histo2D-clause-ok
returns-in_ok-maybe_name-in-Histo2D-clause-ok c =
    rw (c.in-Histo2D.is, c.in_ok-edges-in-Histo2D.ensures.ok, c.in_ok-edges-in-Histo2D-2.ensures.ok) (st.histo2d c.in_ok-name-in-Histo2D.ensures.ok c.in_ok-name-in-Histo2D-2.ensures.ok c.in_ok-maybe_name-in-Histo2D.ensures.ok)
