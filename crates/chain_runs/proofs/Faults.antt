-- The first fault of a chain is that of its rows.
use Rattle.lemmas.proofs.{◌≡◌, ℕ, suc, ◌+◌, ◌-◌, ◌<◌, ◌≤◌, List, [], ◌∷◌, ◌++◌, length, take, Option, None, Some, refl, sym, ap, ap₂, ◌∙◌, arith, length-append, option_map}
use Rattle.std.specs.List.{AllByRecursion}
use Rattle.rdf_values.specs.{EntryFault, Fault, Pass, Value}
use Rattle.rdf_model.specs.{Dataset, fault_at, fault_or, first_fault, first_fault_from, first_fault_in}
use Rattle.rdf_model.specs.Results as rows
use Rattle.chain_files.specs.{ChainFault}
use Rattle.shard_runs.proofs.Rows.{fault_within}
use Rattle.chain_runs.specs.{all_rows, Chain, fault_from, FaultIsOfTheRows, first_of, in_file, in_rows, with_rows}

-- ---- the rows of a table don't change the fault of a row

module _ (c : Chain) (xs ys : List (List Value)) where
  same_in : (ps : List Pass) (e n : ℕ) (row : List Value) → first_fault_in (with_rows c xs) e n row ps ≡ first_fault_in (with_rows c ys) e n row ps
  same_in [] e n row = refl
  same_in (p ∷ ps) e n row = ap (fault_or e n (fault_at (with_rows c xs) row p)) (same_in ps e (n + 1) row)

  same_from : (rs : List (List Value)) (e : ℕ) (ps : List Pass) → first_fault_from (with_rows c xs) e rs ps ≡ first_fault_from (with_rows c ys) e rs ps
  same_from [] e ps = refl
  same_from (r ∷ rs) e ps = ap₂ (λ a b. rows.first_of a b) (same_in ps e 0 r) (same_from rs (e + 1) ps)

-- ---- entries numbered from elsewhere

abbrev later : ℕ → Fault → Fault
later k f = record { entry = k + f.entry; pass = f.pass; kind = f.kind }

first_of_both : (k : ℕ) (o p : Option Fault) → option_map (later k) (rows.first_of o p) ≡ rows.first_of (option_map (later k) o) (option_map (later k) p)
first_of_both k None p = refl
first_of_both k (Some f) p = refl

or_of_both : (k e n : ℕ) (o : Option EntryFault) (p : Option Fault) → option_map (later k) (fault_or e n o p) ≡ fault_or (k + e) n o (option_map (later k) p)
or_of_both k e n None p = refl
or_of_both k e n (Some kind) p = refl

module _ (d : Dataset) (k : ℕ) where
  later_in : (ps : List Pass) (e n : ℕ) (row : List Value) → first_fault_in d (k + e) n row ps ≡ option_map (later k) (first_fault_in d e n row ps)
  later_in [] e n row = refl
  later_in (p ∷ ps) e n row = ap (fault_or (k + e) n (fault_at d row p)) (later_in ps e (n + 1) row) ∙ sym (or_of_both k e n (fault_at d row p) (first_fault_in d e (n + 1) row ps))

  later_from : (rs : List (List Value)) (e : ℕ) (ps : List Pass) → first_fault_from d (k + e) rs ps ≡ option_map (later k) (first_fault_from d e rs ps)
  later_from [] e ps = refl
  later_from (r ∷ rs) e ps =
      let next : (k + e) + 1 ≡ k + (e + 1) = omega arith in
      ap₂ (λ a b. rows.first_of a b) (later_in ps e 0 r) (ap (λ m. first_fault_from d m rs ps) next ∙ later_from rs (e + 1) ps)
      ∙ sym (first_of_both k (first_fault_in d e 0 r ps) (first_fault_from d (e + 1) rs ps))

first_of-assoc : (a b c : Option Fault) → rows.first_of (rows.first_of a b) c ≡ rows.first_of a (rows.first_of b c)
first_of-assoc None b c = refl
first_of-assoc (Some f) b c = refl

module _ (d : Dataset) (ps : List Pass) where
  from-append : (xs ys : List (List Value)) (e : ℕ) → first_fault_from d e (xs ++ ys) ps ≡ rows.first_of (first_fault_from d e xs ps) (first_fault_from d (e + length xs) ys ps)
  from-append [] ys e = let same : e ≡ e + 0 = omega arith in ap (λ k. first_fault_from d k ys ps) same
  from-append (x ∷ xs) ys e =
      let same : (e + 1) + length xs ≡ e + suc (length xs) = omega arith in
      ap (rows.first_of (first_fault_in d e 0 x ps)) (from-append xs ys (e + 1) ∙ ap (λ k. rows.first_of (first_fault_from d (e + 1) xs ps) (first_fault_from d k ys ps)) same)
      ∙ sym (first_of-assoc (first_fault_in d e 0 x ps) (first_fault_from d (e + 1) xs ps) (first_fault_from d (e + suc (length xs)) ys ps))

-- ---- where a fault is

-- the fault is in one of the files, in a row of its table, and of one of the passes
pub record IsIn (first end most passes : ℕ) (f : ChainFault) : Type 0 where
  pub from : first ≤ f.file
  pub before : f.file < end
  pub entry : f.entry < most
  pub pass : f.pass < passes

module _ (c : Chain) (ps : List Pass) where
  abbrev found : ℕ → List (List (List Value)) → Option ChainFault
  found file tables = fault_from (with_rows c) file tables ps

  pub fault_is_in : (most : ℕ) (tables : List (List (List Value))) (first : ℕ) (f : ChainFault) → AllByRecursion (λ (rs : List (List Value)). length rs ≤ most) tables → found first tables ≡ Some f → IsIn first (first + length tables) most (length ps) f
  fault_is_in most [] first f few h = cc h
  fault_is_in most (rs ∷ tables) first f few h = go (first_fault (with_rows c rs) ps) refl h (λ q. fault_is_in most tables (first + 1) f few.1 q)
    where
      go : (o : Option Fault) → first_fault (with_rows c rs) ps ≡ o → first_of (option_map (in_file first) o) (found (first + 1) tables) ≡ Some f
          → (found (first + 1) tables ≡ Some f → IsIn (first + 1) (first + 1 + length tables) most (length ps) f) → IsIn first (first + suc (length tables)) most (length ps) f
      go None r q next =
          let k = next q in
          let from = k.from in
          let before = k.before in
          record { from = omega arith; before = omega arith; entry = k.entry; pass = k.pass }
      go (Some g) r q next =
          let its = fault_within (with_rows c rs) ps 0 rs g r in
          let entry = its.0 in
          let pass = its.2 in
          let least = few.0 in
          let one : in_file first g ≡ f = cc q in
          let file : first ≡ f.file = ap (λ (x : ChainFault). x.file) one in
          let same_entry : g.entry ≡ f.entry = ap (λ (x : ChainFault). x.entry) one in
          let same_pass : g.pass ≡ f.pass = ap (λ (x : ChainFault). x.pass) one in
          record { from = omega arith; before = omega arith; entry = omega arith; pass = omega arith }

  any_size : (tables : List (List (List Value))) → (most : ℕ) × AllByRecursion (λ (rs : List (List Value)). length rs ≤ most) tables
  any_size [] = (0, tt)
  any_size (rs ∷ tables) =
      let rest = any_size tables in
      (length rs + rest.0, (omega arith, grow rest.0 (length rs + rest.0) tables (omega arith) rest.1))
    where
      grow : (a b : ℕ) (ts : List (List (List Value))) → a ≤ b → AllByRecursion (λ (rs : List (List Value)). length rs ≤ a) ts → AllByRecursion (λ (rs : List (List Value)). length rs ≤ b) ts
      grow a b [] le h = tt
      grow a b (t ∷ ts) le h = let one = h.0 in (omega arith, grow a b ts le h.1)

  -- files of the fault are from the first one on
  fault_from_first : (tables : List (List (List Value))) (first : ℕ) (f : ChainFault) → found first tables ≡ Some f → first ≤ f.file
  fault_from_first tables first f h = let size = any_size tables in (fault_is_in size.0 tables first f size.1 h).from

  -- ---- in all rows

  one_more : (rs : List (List Value)) (tables : List (List (List Value))) (first : ℕ) (o : Option ChainFault) → ((f : ChainFault) → o ≡ Some f → first + 1 ≤ f.file)
      → option_map (in_rows (rs ∷ tables) first) o ≡ option_map (later (length rs)) (option_map (in_rows tables (first + 1)) o)
  one_more rs tables first None h = refl
  one_more rs tables first (Some f) h =
      let from = h f refl in
      let next : f.file - first ≡ suc (f.file - (first + 1)) = omega arith in
      let long = length-append rs (all_rows (take (f.file - (first + 1)) tables)) in
      let rows_before : length (all_rows (take (f.file - first) (rs ∷ tables))) ≡ length rs + length (all_rows (take (f.file - (first + 1)) tables))
      = ap (λ n. length (all_rows (take n (rs ∷ tables)))) next ∙ long in
      let entry : length (all_rows (take (f.file - first) (rs ∷ tables))) + f.entry ≡ length rs + (length (all_rows (take (f.file - (first + 1)) tables)) + f.entry) = omega arith in
      ap (λ e. Some (record { entry = e; pass = f.pass; kind = f.kind })) entry

  in_first : (rs : List (List Value)) (tables : List (List (List Value))) (first : ℕ) (f : Fault) → in_rows (rs ∷ tables) first (in_file first f) ≡ f
  in_first rs tables first f =
      let none : first - first ≡ 0 = omega arith in
      let rows_before : length (all_rows (take (first - first) (rs ∷ tables))) ≡ 0 = ap (λ n. length (all_rows (take n (rs ∷ tables)))) none in
      let entry : length (all_rows (take (first - first) (rs ∷ tables))) + f.entry ≡ f.entry = omega arith in
      ap (λ e. record { entry = e; pass = f.pass; kind = f.kind }) entry

  -- over a table with any rows
  of_the_rows : (whole : List (List Value)) (tables : List (List (List Value))) (first : ℕ) → option_map (in_rows tables first) (found first tables) ≡ first_fault_from (with_rows c whole) 0 (all_rows tables) ps
  of_the_rows whole [] first = refl
  of_the_rows whole (rs ∷ tables) first = go (first_fault (with_rows c rs) ps) refl (after (of_the_rows whole tables (first + 1))) ∙ sym (from-append (with_rows c whole) ps rs (all_rows tables) 0)
    where
      after : option_map (in_rows tables (first + 1)) (found (first + 1) tables) ≡ first_fault_from (with_rows c whole) 0 (all_rows tables) ps
          → first_fault_from (with_rows c whole) (0 + length rs) (all_rows tables) ps ≡ option_map (in_rows (rs ∷ tables) first) (found (first + 1) tables)
      after rest =
          let start : 0 + length rs ≡ length rs + 0 = omega arith in
          ap (λ e. first_fault_from (with_rows c whole) e (all_rows tables) ps) start
          ∙ later_from (with_rows c whole) (length rs) (all_rows tables) 0 ps
          ∙ ap (option_map (later (length rs))) (sym rest)
          ∙ sym (one_more rs tables first (found (first + 1) tables) (λ f q. fault_from_first tables (first + 1) f q))

      go : (o : Option Fault) → first_fault (with_rows c rs) ps ≡ o → first_fault_from (with_rows c whole) (0 + length rs) (all_rows tables) ps ≡ option_map (in_rows (rs ∷ tables) first) (found (first + 1) tables)
          → option_map (in_rows (rs ∷ tables) first) (first_of (option_map (in_file first) o) (found (first + 1) tables)) ≡ rows.first_of (first_fault_from (with_rows c whole) 0 rs ps) (first_fault_from (with_rows c whole) (0 + length rs) (all_rows tables) ps)
      go None q rest = sym rest ∙ sym (ap (λ x. rows.first_of x (first_fault_from (with_rows c whole) (0 + length rs) (all_rows tables) ps)) (same_from c whole rs rs 0 ps ∙ q))
      go (Some f) q rest = ap Some (in_first rs tables first f) ∙ sym (ap (λ x. rows.first_of x (first_fault_from (with_rows c whole) (0 + length rs) (all_rows tables) ps)) (same_from c whole rs rs 0 ps ∙ q))

  -- ---- of chains behind each other

  pub faults_split : (tables more : List (List (List Value))) (first : ℕ) → found first (tables ++ more) ≡ first_of (found first tables) (found (first + length tables) more)
  faults_split [] more first = let same : first ≡ first + 0 = omega arith in ap (λ n. found n more) same
  faults_split (rs ∷ tables) more first =
      let same : (first + 1) + length tables ≡ first + suc (length tables) = omega arith in
      ap (first_of (option_map (in_file first) (first_fault (with_rows c rs) ps))) (faults_split tables more (first + 1) ∙ ap (λ n. first_of (found (first + 1) tables) (found n more)) same)
      ∙ sym (assoc (option_map (in_file first) (first_fault (with_rows c rs) ps)) (found (first + 1) tables) (found (first + suc (length tables)) more))
    where
      assoc : (x y z : Option ChainFault) → first_of (first_of x y) z ≡ first_of x (first_of y z)
      assoc None y z = refl
      assoc (Some f) y z = refl

pub fault_is_of_the_rows : FaultIsOfTheRows
fault_is_of_the_rows c first ps = of_the_rows c ps (all_rows c.tables) c.tables first
