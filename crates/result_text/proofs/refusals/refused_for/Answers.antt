use Rattle.lemmas.proofs.{append_assoc}
use Rattle.result_text.proofs.refusals.refused_for.Goals as goal

pub returns-in_ok-format-in-Header : goal.returns-in_ok-format-in-Header
returns-in_ok-format-in-Header c = rw (c.in-Header.is, c.in_ok-format-in-Header.ensures.ok) (simp append_assoc)

pub returns-in_ok-format-in-FieldCount : goal.returns-in_ok-format-in-FieldCount
returns-in_ok-format-in-FieldCount c = rw (c.in-FieldCount.is, c.in_ok-format-in-FieldCount.ensures.ok) (simp append_assoc)

pub returns-in_ok-format-in-BadInt : goal.returns-in_ok-format-in-BadInt
returns-in_ok-format-in-BadInt c = rw (c.in-BadInt.is, c.in_ok-format-in-BadInt.ensures.ok) (simp append_assoc)

pub returns-in_ok-format-in-BadVec : goal.returns-in_ok-format-in-BadVec
returns-in_ok-format-in-BadVec c = rw (c.in-BadVec.is, c.in_ok-format-in-BadVec.ensures.ok) (simp append_assoc)

pub returns-in_ok-format-in-TooMany : goal.returns-in_ok-format-in-TooMany
returns-in_ok-format-in-TooMany c = rw (c.in-TooMany.is, c.in_ok-format-in-TooMany.ensures.ok) (simp append_assoc)

pub returns-in_ok-format-in-BadCut : goal.returns-in_ok-format-in-BadCut
returns-in_ok-format-in-BadCut c = rw (c.in-BadCut.is, c.in_ok-format-in-BadCut.ensures.ok) (simp append_assoc)
