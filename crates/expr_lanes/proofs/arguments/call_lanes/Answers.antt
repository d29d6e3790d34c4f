use Rattle.lemmas.proofs.{◌≡◌, ◌⊎◌, ℕ, List, [], ◌∷◌, length, pos, inl, inr, refl, arith, rules}
use Rattle.rdf_values.specs.{Callee, Function}
use Rattle.rdf_model.specs.{Gives}
use Rattle.expr_lanes.specs.{lane_call, numbers_at}
use Rattle.expr_lanes.specs.declared.scratch.Scratch.{Scratch}
use Rattle.expr_lanes.proofs.Composed.{alike}
use Rattle.expr_lanes.proofs.arguments.call_lanes.Goals as goal
use Rattle.expr_lanes.proofs.arguments.call_lanes.Goals.{in_default-via-in-Abs+then-lanes-lt1, in_default-via-in-Abs+else-lanes-lt1+else-this-lt2, in_default-via-in_default}

one_argument : (functions : List Function) (lanes : List Scratch) (p : ℕ) → (length lanes ≡ 1) ⊎ (Gives (pos 0) ≡ lane_call functions Callee.Abs (numbers_at lanes p))
one_argument functions [] p = inr refl
one_argument functions (x ∷ []) p = inl refl
one_argument functions (x ∷ y ∷ lanes) p = inr refl

pub returns-in_default : goal.returns-in_default
returns-in_default g c =
    alike (λ p. lane_call (g.C.Calls.functions c.args.calls.now) c.args.callee (numbers_at c.args.lanes.now p)) (λ p. Gives (pos 0)) _ _ _ _ _ _
    (λ p h. let one = one_argument (g.C.Calls.functions c.args.calls.now) c.args.lanes.now p in elim c.in_default.branch [
      | in_default-via-in-Abs+then-lanes-lt1 w ↦ grind arith
      | in_default-via-in-Abs+else-lanes-lt1+else-this-lt2 w ↦ grind arith
      | in_default-via-in_default w ↦ search rules
    ])
    c.run-in_default.ensures
