use Rattle.lemmas.proofs.{◌≡◌, length, None}
use Rattle.std.specs.List.{AllWithin}
use Rattle.block_passes.specs.{KeptPlaces}
use Rattle.block_passes.proofs.reserve.forget.Given as goal

abbrev pub invariant-loop-i : goal.invariant-loop-i
invariant-loop-i l = record { many : length l.kept ≡ length l.initial.kept; none : AllWithin (λ (k : KeptPlaces). k.limit ≡ None) l.kept 0 l.i }
