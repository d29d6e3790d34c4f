-- The lines of a report's filters, by their numbers.
use Rattle.lemmas.proofs.{◌≡◌, ◌⊎◌, inl, inr, ℕ, ◌+◌, ◌<◌, ◌≤◌, List, [], ◌∷◌, ◌++◌, length, map, drop, Option, None, Some, refl, sym, ap, ap₂, ◌∙◌, arith, append_assoc, append-nil, codes, flat_map, option_map, slice_get, unwrap_or, map-append, drop_all, same_Some, slice_get-map}
use Rattle.rdf_values.specs.{Column, FunctionNames, named_before, Path, path, Statement}
use Rattle.rdf_values.specs.declared.scripts.statement.Statement.TheVariants.{Filter}
use Rattle.rdf_model.specs.{filter_label, FilterCounts, flow_line, flow_lines}
use Rattle.loop_pieces.specs.{Counts}
use Rattle.graph_numbers.specs.{FilterAt, filters, own_filters}
use Rattle.result_text.specs.{counts_seen}
use Rattle.result_text.proofs.PassLines.{one_left, put_last, put_next}
use Rattle.merged_text.specs.{filter_counts, label_of, with_labels}

-- the lines of filters, of which the first shown was reached by so many entries
abbrev pub flows : List ℕ → ℕ → List (List ℕ × FilterCounts) → List ℕ
flows name reached fs = flat_map (λ (f : List ℕ × FilterCounts). flow_line name reached f.0 f.1) fs

empty_list : {A : Type 0} (xs : List A) → length xs ≡ 0 → xs ≡ []
empty_list [] h = refl
empty_list (x ∷ xs) h = absurd (omega arith)

module _ (fs : List FilterAt) where
  none_counted : (ns : List ℕ) → ◌≡◌ {A = List (List ℕ × FilterCounts)} (filter_counts fs ns []) []
  none_counted [] = refl
  none_counted (n ∷ ns) = refl

  -- nothing is shown
  pub no_flows : (text text1 text2 name : List ℕ) (ns : List ℕ) (cs : List Counts) → (length ns ≡ 0) ⊎ (length cs ≡ 0) → text1 ≡ text ++ name → text2 ≡ text1 ++ codes ": no named filters\n" → text2 ≡ text ++ flow_lines name (filter_counts fs ns cs)
  no_flows text text1 text2 name ns cs empty e1 e2 =
      e2 ∙ ap (λ l. l ++ codes ": no named filters\n") e1 ∙ append_assoc text name (codes ": no named filters\n")
      ∙ ap (λ l. text ++ l) (sym (append_assoc name (codes ": no named filters") (10 ∷ [])))
      ∙ sym (ap (λ l. text ++ flow_lines name l) (go empty))
    where
      go : (length ns ≡ 0) ⊎ (length cs ≡ 0) → ◌≡◌ {A = List (List ℕ × FilterCounts)} (filter_counts fs ns cs) []
      go (inl q) = ap (λ l. filter_counts fs l cs) (empty_list ns q)
      go (inr q) = ap (filter_counts fs ns) (empty_list cs q) ∙ none_counted ns

  -- the first is shown, and the others follow
  pub first_flow : (name : List ℕ) (ns : List ℕ) (cs : List Counts) (c : Counts) → 0 < length ns → slice_get cs 0 ≡ Some c → flow_lines name (filter_counts fs ns cs) ≡ flows name c.all (filter_counts fs ns cs)
  first_flow name [] cs c some at = absurd (omega arith)
  first_flow name (n ∷ ns) [] c some at = absurd (cc)
  first_flow name (n ∷ ns) (d ∷ ds) c some at = ap (λ (x : Counts). flows name x.all (filter_counts fs (n ∷ ns) (d ∷ ds))) (same_Some d c at)

  pub flow_next : (text now all name : List ℕ) (reached i n : ℕ) (c : Counts) (l : List ℕ) (ns : List ℕ) (cs : List Counts) → slice_get ns i ≡ Some n → slice_get cs i ≡ Some c → option_map (λ (x : FilterAt). x.label) (slice_get fs n) ≡ Some l
      → text ++ flows name reached (filter_counts fs (drop i ns) (drop i cs)) ≡ all → now ≡ text ++ flow_line name reached l (counts_seen c) → now ++ flows name reached (filter_counts fs (drop (i + 1) ns) (drop (i + 1) cs)) ≡ all
  flow_next text now all name reached i n c l ns cs at there named h is =
      let its : label_of fs n ≡ l = ap (λ (o : Option (List ℕ)). unwrap_or o []) named in
      put_next all text now (flow_line name reached l (counts_seen c)) (flows name reached (filter_counts fs (drop (i + 1) ns) (drop (i + 1) cs))) (flows name reached (filter_counts fs (drop i ns) (drop i cs))) h
      (ap₂ (λ xs ys. flows name reached (filter_counts fs xs ys)) (one_left ns i n at) (one_left cs i c there)
      ∙ ap (λ (x : List ℕ). flow_line name reached x (counts_seen c) ++ flows name reached (filter_counts fs (drop (i + 1) ns) (drop (i + 1) cs))) its)
      is

  pub flow_end : (text all name : List ℕ) (reached i : ℕ) (ns : List ℕ) (cs : List Counts) → (length ns ≤ i) ⊎ (length cs ≤ i) → text ++ flows name reached (filter_counts fs (drop i ns) (drop i cs)) ≡ all → text ≡ all
  flow_end text all name reached i ns cs past h = put_last all text (flows name reached (filter_counts fs (drop i ns) (drop i cs))) h (ap (flows name reached) (go past))
    where
      go : (length ns ≤ i) ⊎ (length cs ≤ i) → ◌≡◌ {A = List (List ℕ × FilterCounts)} (filter_counts fs (drop i ns) (drop i cs)) []
      go (inl le) = ap (λ l. filter_counts fs l (drop i cs)) (drop_all i ns le)
      go (inr le) = ap (filter_counts fs (drop i ns)) (drop_all i cs le) ∙ none_counted (drop i ns)

-- ---- labels

module _ (header : List Column) (names : FunctionNames) where
  labels_are : (before : List Statement) → map (λ (f : FilterAt). f.label) (filters header names before) ≡ map filter_label (named_before before)
  labels_are [] = refl
  labels_are (Filter node parent expr (Some label) ∷ before) =
      map-append (λ (f : FilterAt). f.label) (filters header names before) (own_filters header names before (Filter node parent expr (Some label)))
      ∙ ap (λ ls. ls ++ label ∷ []) (labels_are before)
      ∙ sym (map-append filter_label (named_before before) ((Filter node parent expr (Some label) ∷ path before parent) ∷ []))
  labels_are (Filter node parent expr None ∷ before) = ap (map (λ (f : FilterAt). f.label)) (append-nil (filters header names before)) ∙ labels_are before
  labels_are (s ∷ before) = ap (map (λ (f : FilterAt). f.label)) (append-nil (filters header names before)) ∙ labels_are before

  -- the label of a named filter, by its number
  label_is : (before : List Statement) (n : ℕ) (p : Path) → slice_get (named_before before) n ≡ Some p → label_of (filters header names before) n ≡ filter_label p
  label_is before n p at =
      ap (λ (o : Option (List ℕ)). unwrap_or o [])
      (sym (slice_get-map (λ (f : FilterAt). f.label) (filters header names before) n) ∙ ap (λ l. slice_get l n) (labels_are before) ∙ slice_get-map filter_label (named_before before) n ∙ ap (option_map filter_label) at)

  -- the filters of these numbers have these labels
  pub labels_with : (before : List Statement) (ns : List ℕ) (ps : List Path) (cs : List Counts) → map (slice_get (named_before before)) ns ≡ map (λ p. Some p) ps → filter_counts (filters header names before) ns cs ≡ with_labels ps cs
  labels_with before [] [] cs h = refl
  labels_with before [] (p ∷ ps) cs h = absurd (cc)
  labels_with before (n ∷ ns) [] cs h = absurd (cc)
  labels_with before (n ∷ ns) (p ∷ ps) [] h = refl
  labels_with before (n ∷ ns) (p ∷ ps) (c ∷ cs) h =
      let both = first_two h in
      ap₂ (λ (l : List ℕ) rest. (l, counts_seen c) ∷ rest) (label_is before n p both.0) (labels_with before ns ps cs both.1)
    where
      first_two : {A : Type 0} {x y : A} {xs ys : List A} → ◌≡◌ {A = List A} (x ∷ xs) (y ∷ ys) → (x ≡ y) × (xs ≡ ys)
      first_two q = (cc, cc)
