-- The line of a fault with its file, from the line without.
use Rattle.lemmas.proofs.{◌≡◌, ◌-◌, ◌++◌, ℕ, List, [], ◌∷◌, length, drop, take, sym, ap, ◌∙◌, append_assoc, codes, decimal, slice_get, length-drop, take-length}
use Rattle.rdf_values.specs.{Fault, Pass}
use Rattle.rdf_model.specs.{fault_line, fault_name, pass_label}
use Rattle.chain_files.specs.{ChainFault}
use Rattle.chain_text.specs.{chain_fault_line}

-- the fault in its table
abbrev pub in_table : ChainFault → Fault
in_table f = record { entry = f.entry; pass = f.pass; kind = f.kind }

module _ (ps : List Pass) (f : ChainFault) where
  -- what stands behind the first word
  abbrev behind : List ℕ
  behind = codes " at entry " ++ decimal f.entry ++ codes " in " ++ pass_label (slice_get ps f.pass) ++ codes ": " ++ fault_name f.kind ++ 10 ∷ []

  with_word : fault_line ps (in_table f) ≡ codes "fault" ++ behind
  with_word = simp append_assoc

  with_file : chain_fault_line ps f ≡ codes "fault in file " ++ (decimal f.file ++ behind)
  with_file = simp append_assoc

  pub put_behind : (text first second third bytes : List ℕ) → bytes ≡ fault_line ps (in_table f) → first ≡ text ++ codes "fault in file " → second ≡ first ++ decimal f.file → third ≡ second ++ take (length bytes - 5) (drop 5 bytes) → third ≡ text ++ chain_fault_line ps f
  put_behind text first second third bytes is one two three =
      three
      ∙ ap (λ l. second ++ l) (ap (λ n. take n (drop 5 bytes)) (sym (length-drop 5 bytes)) ∙ take-length (drop 5 bytes))
      ∙ ap (λ l. second ++ drop 5 l) (is ∙ with_word)
      ∙ ap (λ l. l ++ behind) (two ∙ ap (λ l. l ++ decimal f.file) one)
      ∙ append_assoc (text ++ codes "fault in file ") (decimal f.file) behind
      ∙ append_assoc text (codes "fault in file ") (decimal f.file ++ behind)
      ∙ ap (λ l. text ++ l) (sym with_file)
