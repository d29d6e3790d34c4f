use Rattle.lemmas.proofs.{◌≡◌, take, fold}
use Rattle.chain_files.specs.{hash_step}
use Rattle.chain_files.proofs.digest.hash_of.Given as goal

abbrev pub invariant-loop-byte : goal.invariant-loop-byte
invariant-loop-byte l = l.hash ≡ fold hash_step 14695981039346656037 (take l.byte-index l.bytes)
