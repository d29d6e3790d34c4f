-- The loops of a graph over a table, one after another.
use Rattle.lemmas.proofs.{◌≡◌, ℕ, ◌+◌, ◌<◌, ◌≤◌, true, false, List, [], ◌∷◌, ◌++◌, length, drop, refl, sym, ap, ◌∙◌, append-nil, append_assoc, drop_all}
use Rattle.rdf_values.specs.{Script}
use Rattle.shard_spans.specs.{loops_of}
use Rattle.shard_loop.specs.{loop_in}
use Rattle.shard_loop.proofs.Looping.{loop_there, one_left}
use Rattle.chain_files.specs.{is_faulty, PartLoop, up_to_fault}
use Rattle.chain_files.specs.declared.part_loop.PartLoop.TheVariants.{Whole, Faulted}
use Rattle.chain_runs.specs.{Chain, chain_loop, chain_loops}

module _ (c : Chain) (file : ℕ) (script : Script) where
  -- what is there, and what follows
  abbrev pub IsUpToLoop : ℕ → List PartLoop → Type 0
  IsUpToLoop n all = all ++ chain_loops c file (drop n (loops_of script)) ≡ chain_loops c file (loops_of script)

  pub begin_loops : (all : List PartLoop) → all ≡ [] → IsUpToLoop 0 all
  begin_loops all none = ap (λ l. l ++ chain_loops c file (loops_of script)) none

  after_whole : (one : PartLoop) (rest : List PartLoop) → is_faulty one ≡ false → up_to_fault one rest ≡ one ∷ rest
  after_whole (Whole ls) rest h = refl
  after_whole (Faulted f) rest h = absurd (cc)

  after_fault : (one : PartLoop) (rest : List PartLoop) → is_faulty one ≡ true → up_to_fault one rest ≡ one ∷ []
  after_fault (Whole ls) rest h = absurd (cc)
  after_fault (Faulted f) rest h = refl

  left : (n : ℕ) (one : PartLoop) → n < length (loops_of script) → one ≡ chain_loop c file (loop_in script n)
      → chain_loops c file (drop n (loops_of script)) ≡ up_to_fault one (chain_loops c file (drop (n + 1) (loops_of script)))
  left n one lt is = ap (chain_loops c file) (one_left (loops_of script) n (loop_in script n) (loop_there script n lt)) ∙ ap (λ x. up_to_fault x (chain_loops c file (drop (n + 1) (loops_of script)))) (sym is)

  pub next_loop : (n : ℕ) (one : PartLoop) (all more : List PartLoop) → n < length (loops_of script) → one ≡ chain_loop c file (loop_in script n) → is_faulty one ≡ false → more ≡ all ++ one ∷ [] → IsUpToLoop n all → IsUpToLoop (n + 1) more
  next_loop n one all more lt is sound pushed h =
      let rest = chain_loops c file (drop (n + 1) (loops_of script)) in
      ap (λ l. l ++ rest) pushed ∙ append_assoc all (one ∷ []) rest ∙ sym (ap (λ l. all ++ l) (left n one lt is ∙ after_whole one rest sound)) ∙ h

  pub last_loop : (n : ℕ) (one : PartLoop) (all more : List PartLoop) → n < length (loops_of script) → one ≡ chain_loop c file (loop_in script n) → is_faulty one ≡ true → more ≡ all ++ one ∷ [] → IsUpToLoop n all
      → more ≡ chain_loops c file (loops_of script)
  last_loop n one all more lt is faulty pushed h =
      pushed ∙ sym (ap (λ l. all ++ l) (left n one lt is ∙ after_fault one (chain_loops c file (drop (n + 1) (loops_of script))) faulty)) ∙ h

  pub no_loop_left : (n : ℕ) (all : List PartLoop) → length (loops_of script) ≤ n → IsUpToLoop n all → all ≡ chain_loops c file (loops_of script)
  no_loop_left n all le h = sym (append-nil all) ∙ sym (ap (λ l. all ++ chain_loops c file l) (drop_all n (loops_of script) le)) ∙ h
