-- Lists of different lengths.
use Rattle.lemmas.proofs.{◌≡◌, ◌≢◌, false, List, [], ◌∷◌, length, refl, ap, suc, and_right_false}
use Rattle.shard_lines.specs.{has_shape, have_shapes, PassShape, ShardLine}

pub other_passes : (ss : List PassShape) (ps : List ShardLine) → length ss ≢ length ps → have_shapes ss ps ≡ false
other_passes [] [] h = absurd (h refl)
other_passes [] (p ∷ ps) h = refl
other_passes (s ∷ ss) [] h = refl
other_passes (s ∷ ss) (p ∷ ps) h = and_right_false (has_shape s p) (have_shapes ss ps) (other_passes ss ps (λ e. h (ap suc e)))
