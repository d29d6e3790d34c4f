-- What the loops of a chain print, beside what those of one table with all its rows print.
use Rattle.std.proofs.Common.{◌≡◌, ◌⊎◌, inl, inr, ℕ, List, [], ◌∷◌, ◌++◌, length, map, Option, None, Some, refl, sym, ap, ap₂, ◌∙◌, subst, append_assoc, append-nil, option_map, slice_get}
use Rattle.std.proofs.lemmas.Option.{slice_get-map}
use Rattle.rdf_values.specs.{cut, Lead, Pass, Span}
use Rattle.rdf_values.proofs.Evenly.{cuts_lead}
use Rattle.rdf_model.specs.{Access, accesses, Dataset, fault_line, first_fault, in_front_of, loop_of, Printed, transcript}
use Rattle.graph_numbers.specs.{booked_statements, graph_of, GraphView}
use Rattle.result_text.specs.{passes_at}
use Rattle.shard_lines.specs.{ShardLine}
use Rattle.shard_files.specs.Merging as shard
use Rattle.shard_files.specs.{ShardLoop}
use Rattle.shard_spans.specs.{loops_of, pass_line, span_loops}
use Rattle.merged_text.specs.MergedPrints as merged
use Rattle.merged_text.specs.{lines_of_result}
use Rattle.shard_transcripts.proofs.WholeText.{loop_is, merged_run_prints_the_transcript}
use Rattle.chain_files.specs.{ChainFault, PartLoop, PartView, up_to_fault}
use Rattle.chain_files.specs.declared.part_loop.PartLoop.TheVariants.{Whole, Faulted}
use Rattle.chain_runs.specs.{all_rows, alone, Chain, chain_fault, chain_loop, chain_loops, fault_or_lines, in_rows, one_table, part_over}
use Rattle.chain_runs.proofs.Faults.{fault_is_of_the_rows}
use Rattle.chain_runs.proofs.Groups.{parts_join_to_one_run}
use Rattle.chain_runs.proofs.Joining.{all_files_are_the_chain}
use Rattle.chain_text.specs.{access_printed, chain_fault_line, chain_text, loop_printed, prints_text}
use Rattle.chain_transcripts.specs.{ChainPrintsTheTranscript, DifferInPlace, OneTablePrintsTheTranscript, PartsPrintTheTranscript, PrintAs}

module _ (c : Chain) where
  -- ---- the loops of all rows

  abbrev as_rows : PartLoop → ShardLoop
  as_rows (Whole ls) = ShardLoop.Whole ls
  as_rows (Faulted f) = ShardLoop.Faulted (in_rows c.tables 0 f)

  one_loop : (o : Option ChainFault) (ls : List ShardLine) → as_rows (fault_or_lines o ls) ≡ shard.fault_or_lines (option_map (in_rows c.tables 0) o) ls
  one_loop None ls = refl
  one_loop (Some f) ls = refl

  up_to : (l : PartLoop) (ls : List PartLoop) → map as_rows (up_to_fault l ls) ≡ shard.up_to_fault (as_rows l) (map as_rows ls)
  up_to (Whole xs) ls = refl
  up_to (Faulted f) ls = refl

  module _ (spans : List Span) (leads : Lead 0 (length (all_rows c.tables)) spans) where
    same_loop : (ps : List Pass) → as_rows (chain_loop c 0 ps) ≡ shard.fault_or_lines (first_fault (one_table c) ps) (map (pass_line (one_table c)) ps)
    same_loop ps = one_loop (chain_fault c 0 ps) (map (pass_line (one_table c)) ps) ∙ ap (λ o. shard.fault_or_lines o (map (pass_line (one_table c)) ps)) (fault_is_of_the_rows c 0 ps)

    pub same_loops : (L : List (List Pass)) → map as_rows (chain_loops c 0 L) ≡ span_loops spans (one_table c) 0 (length spans) L
    same_loops [] = refl
    same_loops (ps ∷ L) = up_to (chain_loop c 0 ps) (chain_loops c 0 L) ∙ ap₂ (λ l ls. shard.up_to_fault l ls) (same_loop ps ∙ sym (loop_is (one_table c) spans leads ps)) (same_loops L)

  -- ---- what is printed

  module _ (g : GraphView) (loops : List PartLoop) where
    -- the same, but for the place of a fault
    abbrev AreAlike : Printed → Printed → Type 0
    AreAlike p q = (p ≡ q) ⊎ DifferInPlace c g loops p q

    in_front : (text : List ℕ) (p q : Printed) → AreAlike p q → AreAlike (in_front_of text p) (in_front_of text q)
    in_front text p q (inl same) = inl (ap (in_front_of text) same)
    in_front text p q (inr d) = inr (record {
      before = text ++ d.before;
      number = d.number;
      fault = d.fault;
      its_loop = d.its_loop;
      by_file = ap (in_front_of text) d.by_file ∙ ap (λ l. record { bytes = l; status = 8 }) (sym (append_assoc text d.before (chain_fault_line (passes_at g d.number) d.fault)));
      by_row = ap (in_front_of text) d.by_row ∙ ap (λ l. record { bytes = l; status = 8 }) (sym (append_assoc text d.before (fault_line (passes_at g d.number) (in_rows c.tables 0 d.fault))));
    })

    by_loop : (number : ℕ) (name : List ℕ) (o : Option PartLoop) (p q : Printed) → slice_get loops number ≡ o → AreAlike p q
        → AreAlike (loop_printed (passes_at g number) name o p) (merged.loop_printed (passes_at g number) name (option_map as_rows o) q)
    by_loop number name None p q at h = h
    by_loop number name (Some (Whole ls)) p q at h = in_front (lines_of_result name (passes_at g number) ls) p q h
    by_loop number name (Some (Faulted f)) p q at h = inr (record { before = []; number = number; fault = f; its_loop = at; by_file = refl; by_row = refl })

    one_access : (a : Access) (p q : Printed) → AreAlike p q → AreAlike (access_printed g loops a p) (merged.access_printed g (map as_rows loops) a q)
    one_access a p q h =
        let number : ℕ = loop_of (booked_statements g) a.result in
        subst (λ o. AreAlike (access_printed g loops a p) (merged.loop_printed (passes_at g number) a.result o q)) (sym (slice_get-map as_rows loops number))
        (by_loop number a.result (slice_get loops number) p q refl h)

    all_accesses : (rest : List Access) → AreAlike (prints_text g loops rest) (merged.prints_text g (map as_rows loops) rest)
    all_accesses [] = inl refl
    all_accesses (a ∷ rest) = one_access a (prints_text g loops rest) (merged.prints_text g (map as_rows loops) rest) (all_accesses rest)

    pub are_alike : AreAlike (chain_text g loops) (merged.merged_text g (map as_rows loops))
    are_alike = all_accesses (accesses (booked_statements g))

pub chain_prints_the_transcript : ChainPrintsTheTranscript
chain_prints_the_transcript script c course booked unwatched =
    let d : Dataset = one_table c in
    let spans : List Span = cut (length (all_rows c.tables)) 1 [] in
    let leads : Lead 0 (length d.rows) spans = cuts_lead (length (all_rows c.tables)) 1 [] in
    let loops : List PartLoop = chain_loops c 0 (loops_of script) in
    subst (PrintAs c (graph_of script d) loops) (ap (merged.merged_text (graph_of script d)) (same_loops c spans leads (loops_of script)) ∙ merged_run_prints_the_transcript script d spans course booked unwatched leads)
    (are_alike c (graph_of script d) loops)

pub one_table_prints_the_transcript : OneTablePrintsTheTranscript
one_table_prints_the_transcript script d course booked unwatched =
    subst (λ rows. PrintAs (alone d) (graph_of script d) (chain_loops (alone d) 0 (loops_of script)) (transcript script (record d { rows = rows }) course)) (append-nil d.rows)
    (chain_prints_the_transcript script (alone d) course booked unwatched)

pub parts_print_the_transcript : PartsPrintTheTranscript
parts_print_the_transcript bytes script c groups course column first others booked unwatched files ordered covered begin end =
    let whole = parts_join_to_one_run bytes script c groups column first others files ordered covered ∙ ap₂ (λ lo hi. part_over bytes script c (record { lo = lo; hi = hi })) begin end ∙ all_files_are_the_chain bytes script c in
    subst (λ loops. PrintAs c (graph_of script (one_table c)) loops (transcript script (one_table c) course)) (sym (ap (λ (p : PartView). p.loops) whole)) (chain_prints_the_transcript script c course booked unwatched)
