-- The Prints in order, and what each gives.
use Rattle.lemmas.proofs.{◌≡◌, ℕ, ◌+◌, ◌≤◌, List, [], ◌++◌, length, drop, Option, Some, sym, ap, ◌∙◌, append-nil, option_map, slice_get, drop_all, same_Some}
use Rattle.rdf_model.specs.{Access, accesses, in_front_of, loop_of, Printed}
use Rattle.graph_numbers.specs.{booked_statements, GraphView}
use Rattle.result_text.specs.{passes_at}
use Rattle.result_text.proofs.PassLines.{one_left}
use Rattle.shard_lines.specs.{ShardLine}
use Rattle.merged_text.specs.{lines_of_result}
use Rattle.chain_files.specs.{ChainFault, PartLoop}
use Rattle.chain_files.specs.declared.part_loop.PartLoop.TheVariants.{Whole, Faulted}
use Rattle.chain_text.specs.{access_printed, chain_fault_line, loop_printed, prints_text}
use Rattle.merged_text.proofs.Printing.{in_front-twice}

-- ---- what a Print gives

module _ (g : GraphView) (loops : List PartLoop) (print l : ℕ) (filling : option_map (λ (a : Access). loop_of (booked_statements g) a.result) (slice_get (accesses (booked_statements g)) print) ≡ Some l) (a : Access)
    (at : slice_get (accesses (booked_statements g)) print ≡ Some a) where
  loop_is : loop_of (booked_statements g) a.result ≡ l
  loop_is = same_Some _ l (sym (ap (option_map (λ (x : Access). loop_of (booked_statements g) x.result)) at) ∙ filling)

  by_loop : (o : Option PartLoop) (rest : Printed) → slice_get loops l ≡ o → access_printed g loops a rest ≡ loop_printed (passes_at g l) a.result o rest
  by_loop o rest is = ap (λ k. loop_printed (passes_at g k) a.result (slice_get loops k) rest) loop_is ∙ ap (λ x. loop_printed (passes_at g l) a.result x rest) is

  pub gives_lines : (text now name : List ℕ) (ls : List ShardLine) (rest : Printed) → slice_get loops l ≡ Some (Whole ls) → name ≡ a.result → now ≡ text ++ lines_of_result name (passes_at g l) ls
      → in_front_of text (access_printed g loops a rest) ≡ in_front_of now rest
  gives_lines text now name ls rest its named is =
      ap (in_front_of text) (by_loop (Some (Whole ls)) rest its) ∙ in_front-twice text (lines_of_result a.result (passes_at g l) ls) rest
      ∙ ap (λ t. in_front_of t rest) (sym (is ∙ ap (λ n. text ++ lines_of_result n (passes_at g l) ls) named))

  pub gives_fault : (text now : List ℕ) (fault : ChainFault) (rest : Printed) → slice_get loops l ≡ Some (Faulted fault) → now ≡ text ++ chain_fault_line (passes_at g l) fault
      → in_front_of text (access_printed g loops a rest) ≡ record { bytes = now; status = 8 }
  gives_fault text now fault rest its is = ap (in_front_of text) (by_loop (Some (Faulted fault)) rest its) ∙ sym (ap (λ t. record { bytes = t; status = 8 }) is)

-- ---- all Prints

module _ (g : GraphView) (loops : List PartLoop) (whole : Printed) where
  -- what is written, and what is still to be printed
  abbrev pub IsWritten : List ℕ → ℕ → Type 0
  IsWritten text print = in_front_of text (prints_text g loops (drop print (accesses (booked_statements g)))) ≡ whole

  left : (print : ℕ) (a : Access) → slice_get (accesses (booked_statements g)) print ≡ Some a → prints_text g loops (drop print (accesses (booked_statements g))) ≡ access_printed g loops a (prints_text g loops (drop (print + 1) (accesses (booked_statements g))))
  left print a at = ap (prints_text g loops) (one_left (accesses (booked_statements g)) print a at)

  pub goes_on : (text now : List ℕ) (print : ℕ) (a : Access) → slice_get (accesses (booked_statements g)) print ≡ Some a → ((rest : Printed) → in_front_of text (access_printed g loops a rest) ≡ in_front_of now rest) → IsWritten text print → IsWritten now (print + 1)
  goes_on text now print a at gives h = sym (gives (prints_text g loops (drop (print + 1) (accesses (booked_statements g))))) ∙ sym (ap (in_front_of text) (left print a at)) ∙ h

  pub ends_there : (text now : List ℕ) (print : ℕ) (a : Access) → slice_get (accesses (booked_statements g)) print ≡ Some a → ((rest : Printed) → in_front_of text (access_printed g loops a rest) ≡ record { bytes = now; status = 8 }) → IsWritten text print
      → record { bytes = now; status = 8 } ≡ whole
  ends_there text now print a at gives h = sym (gives (prints_text g loops (drop (print + 1) (accesses (booked_statements g))))) ∙ sym (ap (in_front_of text) (left print a at)) ∙ h

  pub all_written : (text : List ℕ) (print : ℕ) → length (accesses (booked_statements g)) ≤ print → IsWritten text print → record { bytes = text; status = 0 } ≡ whole
  all_written text print le h = ap (λ t. record { bytes = t; status = 0 }) (sym (append-nil text)) ∙ sym (ap (λ l. in_front_of text (prints_text g loops l)) (drop_all print (accesses (booked_statements g)) le)) ∙ h

-- nothing is written yet
pub begin_written : (g : GraphView) (loops : List PartLoop) (text : List ℕ) → text ≡ [] → IsWritten g loops (prints_text g loops (accesses (booked_statements g))) text 0
begin_written g loops text none = ap (λ t. in_front_of t (prints_text g loops (accesses (booked_statements g)))) none
