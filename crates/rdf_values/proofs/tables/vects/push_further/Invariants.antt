use Rattle.lemmas.proofs.{◌≡◌, ◌≤◌, ◌+◌, ◌++◌, length, map, take, vec_len, vec_capacity}
use Rattle.rdf_values.proofs.tables.vects.push_further.Given as goal

abbrev pub invariant-loop-end : goal.invariant-loop-end
invariant-loop-end l = record {
  pushed : l.ends.items ≡ l.initial.ends.items ++ map (λ end. l.by + end) (take l.end-index l.more);
  room : vec_len l.ends + length l.more ≤ vec_capacity l.ends + l.end-index;
}
