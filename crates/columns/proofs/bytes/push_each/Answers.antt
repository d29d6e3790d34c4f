use Rattle.lemmas.proofs.{◌≡◌, ◌∙◌, ◌++◌, ◌+◌, ◌*◌, ap, arith, get_or, pos, rules, take, FitsSigned, take_at_most}
use Rattle.std.proofs.Math.Facts.{to_z-of_z}
use mir.Syntax.{w64}
use native.Mathlib.Nat.{add-mul}
use Rattle.std.proofs.lemmas.List.{take_all}
use Rattle.columns.specs.{low_bytes}
use Rattle.columns.proofs.BlockSteps.{pack_step, words_step, first_bytes}
use Rattle.columns.proofs.bytes.push_each.Goals as goal

pub loop-value-preserved : goal.loop-value-preserved
loop-value-preserved g c =
    let w = g.row.WIDTH in
    let i = c.loop-value.value-index in
    let value : FitsSigned w64 (get_or c.args.values.now i (pos 0)) = search rules in
    let least : FitsSigned w64 c.args.least = search rules in
    let d = rw (to_z-of_z value, to_z-of_z least) at c.abs_diff.ensures in
    let low = take w c.to_le_bytes-low.result in
    let all : take c.loop-byte.byte-index low ≡ low = take_all c.loop-byte.byte-index low c.loop-byte-test.false in
    let bytes : low ≡ low_bytes w c.abs_diff.result = ap (take w) c.to_le_bytes-low.ensures ∙ first_bytes w c.abs_diff.result c.requires.width in
    let pushed = c.loop-byte.invariant.pushed ∙ ap (λ l. c.loop-value.bytes.items ++ l) (all ∙ bytes) in
    let size = take_at_most w c.to_le_bytes-low.result in
    let next : (i + 1) * w ≡ i * w + 1 * w = add-mul i 1 w in
    record {
      pushed = rw (to_z-of_z least) (pack_step c.args.bytes.items c.loop-value.bytes.items c.loop-byte.bytes.items (record { least = c.args.least; width = w }) c.args.values.now i c.abs_diff.result c.loop-value-test.true (rw (to_z-of_z least) at c.loop-value.invariant.pushed) pushed d);
      words = words_step c.args.values.now i c.loop-value-test.true c.loop-value.invariant.words value;
      room = omega (arith, c.loop-value.invariant.room, c.loop-byte.invariant.len, c.loop-byte.invariant.capacity, c.loop-byte.auto.byte-index-end, size, next);
    }
