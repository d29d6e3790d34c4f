-- The Prints in order, and the lines of each.
use Rattle.lemmas.proofs.{if◌then◌else◌, ◌≡◌, ◌⊎◌, inl, inr, ℕ, suc, ◌+◌, ◌<◌, ◌≤◌, Bool, true, false, List, [], ◌∷◌, ◌++◌, length, drop, Option, None, Some, refl, sym, ap, ap₂, ◌∙◌, arith, append_assoc, append-nil, option_map, slice_get, length-map, drop_all, same_Some, slice_get-map, slice_get_within, something_at}
use Rattle.rdf_values.specs.{Booked, bookings, Fault, Pass, place, same}
use Rattle.rdf_model.specs.{Access, accesses, fault_line, in_front_of, loop_of, Printed}
use Rattle.rdf_model.proofs.Accepted.{names_equal}
use Rattle.graph_numbers.specs.{booked_statements, graph_prints, graph_results, GraphView, result_number, ResultAt}
use Rattle.graph_numbers.proofs.Covering.{booked_are}
use Rattle.result_text.specs.{passes_at}
use Rattle.result_text.proofs.PassLines.{one_left, put_last, put_next, name_is}
use Rattle.shard_lines.specs.{ShardLine}
use Rattle.shard_files.specs.{ShardLoop}
use Rattle.shard_files.specs.declared.shard_loop.ShardLoop.TheVariants.{Whole, Faulted}
use Rattle.merged_text.specs.{access_printed, lines_of_result, loop_printed, named_text, pass_text, prints_text}

-- ---- the lines of a result

pub named_yes : (name : List ℕ) (p : Pass) (l : ShardLine) → same p.result.name name ≡ true → pass_text p l ≡ named_text name p l
named_yes name p l h = sym (ap (λ (b : Bool). if b then pass_text p l else []) h)

pub named_no : (name : List ℕ) (p : Pass) (l : ShardLine) → same p.result.name name ≡ false → named_text name p l ≡ []
named_no name p l h = ap (λ (b : Bool). if b then pass_text p l else []) h

no_lines : (name : List ℕ) (ps : List Pass) → lines_of_result name ps [] ≡ []
no_lines name [] = refl
no_lines name (p ∷ ps) = refl

pub line_next : (text now all name : List ℕ) (i : ℕ) (ps : List Pass) (ls : List ShardLine) (p : Pass) (l : ShardLine) → slice_get ps i ≡ Some p → slice_get ls i ≡ Some l
    → text ++ lines_of_result name (drop i ps) (drop i ls) ≡ all → now ≡ text ++ named_text name p l → now ++ lines_of_result name (drop (i + 1) ps) (drop (i + 1) ls) ≡ all
line_next text now all name i ps ls p l at there h is =
    put_next all text now (named_text name p l) (lines_of_result name (drop (i + 1) ps) (drop (i + 1) ls)) (lines_of_result name (drop i ps) (drop i ls)) h
    (ap₂ (lines_of_result name) (one_left ps i p at) (one_left ls i l there)) is

pub line_end : (text all name : List ℕ) (i : ℕ) (ps : List Pass) (ls : List ShardLine) → (length ps ≤ i) ⊎ (length ls ≤ i) → text ++ lines_of_result name (drop i ps) (drop i ls) ≡ all → text ≡ all
line_end text all name i ps ls past h = put_last all text (lines_of_result name (drop i ps) (drop i ls)) h (go past)
  where
    go : (length ps ≤ i) ⊎ (length ls ≤ i) → lines_of_result name (drop i ps) (drop i ls) ≡ []
    go (inl le) = ap (λ l. lines_of_result name l (drop i ls)) (drop_all i ps le)
    go (inr le) = ap (lines_of_result name (drop i ps)) (drop_all i ls le) ∙ no_lines name (drop i ps)

-- ---- the result of a Print

place_at : {A : Type 0} (t : A → Bool) (xs : List A) (n : ℕ) → place t xs ≡ Some n → (x : A) × (slice_get xs n ≡ Some x) × (t x ≡ true)
place_at t [] n h = absurd (cc)
place_at {A} t (x ∷ xs) n h = go (t x) refl h (λ j e. place_at t xs j e)
  where
    after : (o : Option ℕ) → option_map suc o ≡ Some n → place t xs ≡ o → ((j : ℕ) → place t xs ≡ Some j → (y : A) × (slice_get xs j ≡ Some y) × (t y ≡ true)) → (y : A) × (slice_get (x ∷ xs) n ≡ Some y) × (t y ≡ true)
    after None q k next = absurd (cc)
    after (Some j) q k next = let e : suc j ≡ n = cc in let r = next j k in (r.0, ap (slice_get (x ∷ xs)) (sym e) ∙ r.1, r.2)

    go : (b : Bool) → t x ≡ b → (if b then Some 0 else option_map suc (place t xs)) ≡ Some n → ((j : ℕ) → place t xs ≡ Some j → (y : A) × (slice_get xs j ≡ Some y) × (t y ≡ true)) → (y : A) × (slice_get (x ∷ xs) n ≡ Some y) × (t y ≡ true)
    go true e q next = let z : 0 ≡ n = cc in (x, ap (slice_get (x ∷ xs)) (sym z), e)
    go false e q next = after (place t xs) q refl next

module _ (g : GraphView) (print r : ℕ) (its : slice_get (graph_prints g) print ≡ Some (Some r)) where
  number_is : (a : Access) → slice_get (accesses (booked_statements g)) print ≡ Some a → result_number (booked_statements g) a.result ≡ Some r
  number_is a at = same_Some _ (Some r) (sym (slice_get-map (λ (x : Access). result_number (booked_statements g) x.result) (accesses (booked_statements g)) print ∙ ap (option_map (λ (x : Access). result_number (booked_statements g) x.result)) at) ∙ its)

  booked : (a : Access) → slice_get (accesses (booked_statements g)) print ≡ Some a → (b : Booked) × (slice_get (bookings (booked_statements g)) r ≡ Some b) × (same b.name a.result ≡ true)
  booked a at = place_at (λ (b : Booked). same b.name a.result) (bookings (booked_statements g)) r (number_is a at)

  -- the graph's name of the result is that of the Print
  pub its_name : (a : Access) (name : List ℕ) → slice_get (accesses (booked_statements g)) print ≡ Some a → option_map (λ (x : ResultAt). x.booked.name) (slice_get (graph_results g) r) ≡ Some name → name ≡ a.result
  its_name a name at named = let b = booked a at in name_is g r b.0 name b.1 named ∙ names_equal b.0.name a.result b.2

  pub result_inside : (a : Access) → slice_get (accesses (booked_statements g)) print ≡ Some a → r < length (graph_results g)
  result_inside a at =
      let b = booked a at in
      let within = slice_get_within (bookings (booked_statements g)) r b.0 b.1 in
      let many = ap length (booked_are g.header g.names (booked_statements g)) in
      omega (arith, length-map (graph_results g) (λ (x : ResultAt). x.booked))

-- the Print of that number
pub print_at : (g : GraphView) (print : ℕ) → print < length (graph_prints g) → (a : Access) × (slice_get (accesses (booked_statements g)) print ≡ Some a)
print_at g print lt = something_at (accesses (booked_statements g)) print (omega (arith, length-map (accesses (booked_statements g)) (λ (a : Access). result_number (booked_statements g) a.result)))

-- ---- what a Print gives

pub in_front-twice : (a b : List ℕ) (p : Printed) → in_front_of a (in_front_of b p) ≡ in_front_of (a ++ b) p
in_front-twice a b p = ap (λ l. record { bytes = l; status = p.status }) (sym (append_assoc a b p.bytes))

module _ (g : GraphView) (loops : List ShardLoop) (print l : ℕ) (filling : option_map (λ (a : Access). loop_of (booked_statements g) a.result) (slice_get (accesses (booked_statements g)) print) ≡ Some l) (a : Access)
    (at : slice_get (accesses (booked_statements g)) print ≡ Some a) where
  loop_is : loop_of (booked_statements g) a.result ≡ l
  loop_is = same_Some _ l (sym (ap (option_map (λ (x : Access). loop_of (booked_statements g) x.result)) at) ∙ filling)

  by_loop : (o : Option ShardLoop) (rest : Printed) → slice_get loops l ≡ o → access_printed g loops a rest ≡ loop_printed (passes_at g l) a.result o rest
  by_loop o rest is = ap (λ k. loop_printed (passes_at g k) a.result (slice_get loops k) rest) loop_is ∙ ap (λ x. loop_printed (passes_at g l) a.result x rest) is

  pub gives_lines : (text now name : List ℕ) (ls : List ShardLine) (rest : Printed) → slice_get loops l ≡ Some (Whole ls) → name ≡ a.result → now ≡ text ++ lines_of_result name (passes_at g l) ls
      → in_front_of text (access_printed g loops a rest) ≡ in_front_of now rest
  gives_lines text now name ls rest its named is =
      ap (in_front_of text) (by_loop (Some (Whole ls)) rest its) ∙ in_front-twice text (lines_of_result a.result (passes_at g l) ls) rest
      ∙ ap (λ t. in_front_of t rest) (sym (is ∙ ap (λ n. text ++ lines_of_result n (passes_at g l) ls) named))

  pub gives_fault : (text now : List ℕ) (fault : Fault) (rest : Printed) → slice_get loops l ≡ Some (Faulted fault) → now ≡ text ++ fault_line (passes_at g l) fault
      → in_front_of text (access_printed g loops a rest) ≡ record { bytes = now; status = 8 }
  gives_fault text now fault rest its is = ap (in_front_of text) (by_loop (Some (Faulted fault)) rest its) ∙ sym (ap (λ t. record { bytes = t; status = 8 }) is)

-- ---- all Prints

module _ (g : GraphView) (loops : List ShardLoop) (whole : Printed) where
  -- what is written, and what is still to be printed
  abbrev pub IsWritten : List ℕ → ℕ → Type 0
  IsWritten text print = in_front_of text (prints_text g loops (drop print (accesses (booked_statements g)))) ≡ whole

  left : (print : ℕ) (a : Access) → slice_get (accesses (booked_statements g)) print ≡ Some a → prints_text g loops (drop print (accesses (booked_statements g))) ≡ access_printed g loops a (prints_text g loops (drop (print + 1) (accesses (booked_statements g))))
  left print a at = ap (prints_text g loops) (one_left (accesses (booked_statements g)) print a at)

  pub goes_on : (text now : List ℕ) (print : ℕ) (a : Access) → slice_get (accesses (booked_statements g)) print ≡ Some a → ((rest : Printed) → in_front_of text (access_printed g loops a rest) ≡ in_front_of now rest) → IsWritten text print → IsWritten now (print + 1)
  goes_on text now print a at gives h = sym (gives (prints_text g loops (drop (print + 1) (accesses (booked_statements g))))) ∙ sym (ap (in_front_of text) (left print a at)) ∙ h

  pub ends_there : (text now : List ℕ) (print : ℕ) (a : Access) → slice_get (accesses (booked_statements g)) print ≡ Some a → ((rest : Printed) → in_front_of text (access_printed g loops a rest) ≡ record { bytes = now; status = 8 }) → IsWritten text print
      → record { bytes = now; status = 8 } ≡ whole
  ends_there text now print a at gives h = sym (gives (prints_text g loops (drop (print + 1) (accesses (booked_statements g))))) ∙ sym (ap (in_front_of text) (left print a at)) ∙ h

  pub all_written : (text : List ℕ) (print : ℕ) → length (accesses (booked_statements g)) ≤ print → IsWritten text print → record { bytes = text; status = 0 } ≡ whole
  all_written text print le h = ap (λ t. record { bytes = t; status = 0 }) (sym (append-nil text)) ∙ sym (ap (λ l. in_front_of text (prints_text g loops l)) (drop_all print (accesses (booked_statements g)) le)) ∙ h

-- nothing is written yet
pub begin_written : (g : GraphView) (loops : List ShardLoop) (text : List ℕ) → text ≡ [] → IsWritten g loops (prints_text g loops (accesses (booked_statements g))) text 0
begin_written g loops text none = ap (λ t. in_front_of t (prints_text g loops (accesses (booked_statements g)))) none
