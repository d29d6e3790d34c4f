use Rattle.lemmas.proofs.{◌≡◌, ◌≤◌, ◌+◌, ◌*◌, ◌++◌, All, length, take, vec_capacity, vec_len}
use Rattle.std.specs.Int.RustNames.{FitsSigned}
use mir.Syntax.{w64}
use Rattle.columns.specs.{packed_by}
use Rattle.columns.proofs.bytes.push_each.Given as goal

abbrev pub invariant-loop-byte : goal.invariant-loop-byte
invariant-loop-byte g l = record {
  pushed : l.bytes.items ≡ l.initial.bytes.items ++ take l.byte-index l.byte-items;
  len : vec_len l.bytes ≡ vec_len l.initial.bytes + l.byte-index;
  capacity : vec_capacity l.bytes ≡ vec_capacity l.initial.bytes;
}

abbrev pub invariant-loop-value : goal.invariant-loop-value
invariant-loop-value g l = record {
  pushed : l.bytes.items ≡ l.fn.bytes.items ++ packed_by (record { least = l.least; width = g.row.WIDTH }) (take l.value-index l.values);
  words : All (FitsSigned w64) (take l.value-index l.values);
  room : vec_len l.bytes + length l.values * g.row.WIDTH ≤ vec_capacity l.bytes + l.value-index * g.row.WIDTH;
}
