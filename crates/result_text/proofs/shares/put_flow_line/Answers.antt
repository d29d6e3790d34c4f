use Rattle.lemmas.proofs.{◌≡◌, ◌++◌, ◌∷◌, [], append_assoc, on_ok}
use Rattle.result_text.proofs.shares.put_flow_line.Goals as goal

pub returns : goal.returns
returns c = on_ok c.push.result _ _
    (λ (e : c.push.new.self ≡ c.put_percent-2.new.text ++ 10 ∷ []). rw (e, c.in_ok-put_percent-2.ensures, c.in_ok-extend-7.ensures.ok, c.in_ok-put_percent.ensures, c.in_ok-extend-6.ensures.ok, c.in_ok-put_count-2.ensures, c.in_ok-extend-5.ensures.ok, c.in_ok-put_count.ensures, c.in_ok-extend-4.ensures.ok, c.in_ok-extend-3.ensures.ok, c.bytes.ensures, c.in_ok-extend-2.ensures.ok, c.in_ok-extend.ensures.ok) (simp append_assoc))
    c.push.ensures.ok
