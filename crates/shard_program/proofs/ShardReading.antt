-- The files of a merging, one after the other.
use Rattle.lemmas.proofs.{◌≡◌, ◌≤◌, ◌<◌, ◌+◌, inl, inr, ℕ, zero, suc, Bool, true, false, List, [], ◌∷◌, ◌++◌, length, take, drop, Option, None, Some, Result, IfOk, IfSome, refl, sym, ap, ◌∙◌, subst, arith, add-one, get_or, append-nil, append_assoc, nat_lt, slice_get, unwrap_or, le-ltb, MatchBool, sum_by-append, sum_by-cons, take-append-drop}
use Rattle.rdf_values.specs.{Function, Script}
use Rattle.input_files.specs.{AreTurnedTo, due_of, Tells, WithFile}
use Rattle.shard_files.specs.{IsShard, ShardView}
use Rattle.shard_due.specs.{bytes_in, Files, IsDueToShards, long_files_line, max_files, ReadsShard, ShardDue, statuses, WithShard, WithShards}
use Rattle.shard_due.specs.declared.status.ShardStatus.TheVariants.{TooLong}
use Rattle.shard_program.specs.{AreShards, AreShardsRead, HoldAll, HoldShards, HoldsTheShard, IsAnswer, IsDueToFile, IsDueToFiles, IsDueToNames, IsShardOf, IsShardRead, IsTextOf}
use Rattle.shard_program.specs.Answers.{Answers}
use Rattle.shard_program.specs.declared.answer.Answer.{Answer}
use Rattle.shard_program.proofs.FileReading.{if_ok, of_answer, staged}
use Rattle.shard_program.proofs.Turning.{taken_next, turned_up_to}

-- ---- one file

-- what follows a file, by what it is due
follow : (name : List ℕ) (before : ℕ) (file : Option (List ℕ)) (P Q : List ℕ → ShardView → ShardDue → Type 0) (d : ShardDue) → ((bytes : List ℕ) (s : ShardView) → P bytes s d → Q bytes s d)
    → WithFile statuses name file (λ bytes e. WithShard name before bytes (P bytes) e) d → WithFile statuses name file (λ bytes e. WithShard name before bytes (Q bytes) e) d
follow name before None P Q d step h = h
follow name before (Some bytes) P Q d step h = go (nat_lt max_files (before + length bytes)) h
  where
    go : (b : Bool) → MatchBool b (d ≡ due_of TooLong long_files_line) (ReadsShard name bytes (P bytes) d) → MatchBool b (d ≡ due_of TooLong long_files_line) (ReadsShard name bytes (Q bytes) d)
    go true e = e
    go false (inl r) = inl r
    go false (inr r) = inr (r.0, r.1, step bytes r.0 r.2)

-- bytes that aren't too long
fitting : (name : List ℕ) (before : ℕ) (bytes : List ℕ) (Next : ShardView → ShardDue → Type 0) (d : ShardDue) → before + length bytes ≤ max_files → ReadsShard name bytes Next d → WithShard name before bytes Next d
fitting name before bytes Next d le h = go (nat_lt max_files (before + length bytes)) (le-ltb max_files (before + length bytes) le)
  where
    go : (b : Bool) → b ≡ false → MatchBool b (d ≡ due_of TooLong long_files_line) (ReadsShard name bytes Next d)
    go true e = absurd (cc e)
    go false e = h

-- ---- all files

module _ (files : Files) where
  -- these files hold these shards; and what follows them
  reads_on : (before : ℕ) (found : List ShardView) (done : List (List ℕ)) (shards : List ShardView) (rest : List (List ℕ)) (Next : List ShardView → ShardDue → Type 0) (d : ShardDue)
      → HoldShards files done shards → before + bytes_in files done ≤ max_files → WithShards files (before + bytes_in files done) (found ++ shards) rest Next d → WithShards files before found (done ++ rest) Next d
  reads_on before found [] [] rest Next d h few w = subst (λ n. WithShards files n found rest Next d) (omega arith) (subst (λ l. WithShards files (before + 0) l rest Next d) (append-nil found) w)
  reads_on before found [] (s ∷ shards) rest Next d h few w = absurd h
  reads_on before found (name ∷ done) [] rest Next d h few w = absurd h
  reads_on before found (name ∷ done) (s ∷ shards) rest Next d h few w =
      by_file (files name) refl h.0
      (λ bytes fits same. reads_on (before + length bytes) (found ++ s ∷ []) done shards rest Next d h.1 fits
      (subst (λ n. WithShards files n ((found ++ s ∷ []) ++ shards) rest Next d) same (subst (λ l. WithShards files (before + bytes_in files (name ∷ done)) l rest Next d) (sym (append_assoc found (s ∷ []) shards)) w)))
    where
      by_file : (o : Option (List ℕ)) → files name ≡ o → IsTextOf s o
          → ((bytes : List ℕ) → before + length bytes + bytes_in files done ≤ max_files → before + bytes_in files (name ∷ done) ≡ before + length bytes + bytes_in files done → WithShards files (before + length bytes) (found ++ s ∷ []) (done ++ rest) Next d)
          → WithFile statuses name o (λ bytes e. WithShard name before bytes (λ x y. WithShards files (before + length bytes) (found ++ x ∷ []) (done ++ rest) Next y) e) d
      by_file None e k next = absurd k
      by_file (Some bytes) e k next =
          let counted = sum_by-cons (λ n. length (unwrap_or (files n) [])) name done in
          let here : length (unwrap_or (files name) []) ≡ length bytes = ap (λ o. length (unwrap_or o [])) e in
          let sum : before + bytes_in files (name ∷ done) ≡ before + length bytes + bytes_in files done = omega (arith, counted, here) in
          fitting name before bytes (λ x y. WithShards files (before + length bytes) (found ++ x ∷ []) (done ++ rest) Next y) d (omega (arith, sum, few)) (inr (s, k, next bytes (omega (arith, sum, few)) sum))

  -- where one file gives no shard, nothing follows
  none_follows : (Next : List ShardView → ShardDue → Type 0) (names : List (List ℕ)) (before : ℕ) (found : List ShardView) (d : ShardDue) → WithShards files before found names (λ s e. ⊥) d → WithShards files before found names Next d
  none_follows Next [] before found d h = absurd h
  none_follows Next (name ∷ names) before found d h =
      follow name before (files name) (λ bytes s e. WithShards files (before + length bytes) (found ++ s ∷ []) names (λ x y. ⊥) e) (λ bytes s e. WithShards files (before + length bytes) (found ++ s ∷ []) names Next e) d
      (λ bytes s w. none_follows Next names (before + length bytes) (found ++ s ∷ []) d w) h

  -- one more file
  hold_more : (done : List (List ℕ)) (shards : List ShardView) (name : List ℕ) (s : ShardView) → HoldShards files done shards → IsTextOf s (files name) → HoldShards files (done ++ name ∷ []) (shards ++ s ∷ [])
  hold_more [] [] name s h t = (t, tt)
  hold_more [] (x ∷ shards) name s h t = absurd h
  hold_more (n ∷ done) [] name s h t = absurd h
  hold_more (n ∷ done) (x ∷ shards) name s h t = (h.0, hold_more done shards name s h.1 t)

  text_in : (s : ShardView) (n : ℕ) (o : Option (List ℕ)) → HoldsTheShard s n o → IsTextOf s o × (length (unwrap_or o []) ≡ n)
  text_in s n None h = absurd h
  text_in s n (Some bytes) h = (h.1, h.0)

  all_more : (done : List (List ℕ)) (shards : List ShardView) (count : ℕ) (name : List ℕ) (s : ShardView) (n : ℕ) → HoldAll done shards count files → HoldsTheShard s n (files name) → HoldAll (done ++ name ∷ []) (shards ++ s ∷ []) (count + n) files
  all_more done shards count name s n h t =
      let text = text_in s n (files name) t in
      let size : ℕ = length (unwrap_or (files name) []) in
      let last = sum_by-cons (λ m. length (unwrap_or (files m) [])) name [] in
      let counted = sum_by-append (λ m. length (unwrap_or (files m) [])) done (name ∷ []) in
      let before = h.bytes in
      let here = text.1 in
      record { hold = hold_more done shards name s h.hold text.0; bytes = omega (arith, counted, last, before, here) }

valid_more : (shards : List ShardView) (s : ShardView) → AreShards shards → IsShard s → AreShards (shards ++ s ∷ [])
valid_more [] s h v = (v, tt)
valid_more (x ∷ shards) s h v = (h.0, valid_more shards s h.1 v)

-- the name at a place, and those behind it
there : (names : List (List ℕ)) (i : ℕ) (name : List ℕ) → slice_get names i ≡ Some name → name ∷ drop (suc i) names ≡ drop i names
there [] i name e = absurd (cc e)
there (n ∷ names) zero name e = (let same : n ≡ name = cc e in ap (λ x. x ∷ names) (sym same))
there (n ∷ names) (suc i) name e = there names i name e

-- an item by its place
pub item_at : (names : List (List ℕ)) (i : ℕ) (name : List ℕ) → i < length names → name ≡ get_or names i name → slice_get names i ≡ Some name
item_at [] i name lt e = absurd (omega (arith, lt))
item_at (n ∷ names) zero name lt e = ap Some (sym e)
item_at (n ∷ names) (suc i) name lt e = item_at names i name (omega (arith, lt)) e

-- the files before a place were read
pub record IsSoFar (told : Option Files) (turns0 : List (List ℕ)) (f0 : ℕ) (names : List (List ℕ)) (i : ℕ) (shards : List ShardView) (count : ℕ) (told' : Option Files) (turns : List (List ℕ)) (f : ℕ) : Type 0 where
  pub same : told' ≡ told
  pub later : f0 ≤ f
  pub turned : turns ≡ turns0 ++ take i names
  pub within : i ≤ length names
  pub many : length shards ≡ i
  pub valid : AreShards shards
  pub few : count ≤ max_files
  pub hold : IfSome told (HoldAll (take i names) shards count)

module _ (told : Option Files) (turns0 : List (List ℕ)) (f0 : ℕ) (names : List (List ℕ)) where
  module _ (i : ℕ) (shards : List ShardView) (count : ℕ) (told' : Option Files) (turns : List (List ℕ)) (f : ℕ) (so_far : IsSoFar told turns0 f0 names i shards count told' turns f) where
    module _ (name : List ℕ) (lt : i < length names) (at : slice_get names i ≡ Some name) (turns' : List (List ℕ)) (turned : turns' ≡ turns ++ name ∷ []) (f' : ℕ) (later : f ≤ f') where
      turned_next : turns' ≡ turns0 ++ take (suc i) names
      turned_next = turned ∙ ap (λ l. l ++ name ∷ []) so_far.turned ∙ append_assoc turns0 (take i names) (name ∷ []) ∙ sym (ap (λ l. turns0 ++ l) (taken_next names i name at))

      pub one_read : (told'' : Option Files) (s : ShardView) (n : ℕ) (shards' : List ShardView) → told'' ≡ told' → IsShardOf told' name count n s → shards' ≡ shards ++ s ∷ []
          → IsSoFar told turns0 f0 names (i + 1) shards' (count + n) told'' turns' f'
      one_read told'' s n shards' same read pushed = subst (λ k. IsSoFar told turns0 f0 names k shards' (count + n) told'' turns' f') (sym (add-one i)) (record {
        same = same ∙ so_far.same;
        later = (let a = so_far.later in omega (arith, a, later));
        turned = turned_next;
        within = omega (arith, lt);
        many = (let many = so_far.many in ap length pushed ∙ length_more shards ∙ ap suc many);
        valid = subst AreShards (sym pushed) (valid_more shards s so_far.valid read.valid);
        few = read.few;
        hold = subst (λ l. IfSome told (HoldAll l shards' (count + n))) (sym (taken_next names i name at)) (each told so_far.hold (subst (λ o. Tells o name (HoldsTheShard s n)) so_far.same read.holds));
      })
        where
          length_more : (xs : List ShardView) → length (xs ++ s ∷ []) ≡ suc (length xs)
          length_more [] = refl
          length_more (x ∷ xs) = ap suc (length_more xs)

          each : (o : Option Files) → IfSome o (HoldAll (take i names) shards count) → Tells o name (HoldsTheShard s n) → IfSome o (HoldAll (take i names ++ name ∷ []) shards' (count + n))
          each None h t = tt
          each (Some files) h t = subst (λ l. HoldAll (take i names ++ name ∷ []) l (count + n) files) (sym pushed) (all_more files (take i names) shards count name s n h t)

      -- a file that gives no shard
      pub refused_there : (a : Answer) → IsAnswer (IsDueToFile name count) told' turns' f f' a → IsAnswer (IsDueToNames names) told turns' f0 f' a
      refused_there a is =
          staged (IsDueToFile name count) (IsDueToNames names) told turns' f0 f f' a so_far.later (λ d h. step told so_far.hold d h)
          (subst (λ o. IsAnswer (IsDueToFile name count) o turns' f f' a) so_far.same is)
        where
          all_names : take i names ++ name ∷ drop (suc i) names ≡ names
          all_names = ap (λ l. take i names ++ l) (there names i name at) ∙ take-append-drop i names

          step : (o : Option Files) → IfSome o (HoldAll (take i names) shards count) → (d : ShardDue) → IfSome o (λ x. IsDueToFile name count x d) → IfSome o (λ x. IsDueToNames names x d)
          step None h d due = tt
          step (Some files) h d due =
              let sum = h.bytes in
              let few = so_far.few in
              subst (λ l. WithShards files 0 [] l (λ s e. ⊥) d) all_names
              (reads_on files 0 [] (take i names) shards (name ∷ drop (suc i) names) (λ s e. ⊥) d h.hold (omega (arith, sum, few))
              (subst (λ n. WithShards files n shards (name ∷ drop (suc i) names) (λ s e. ⊥) d) (omega (arith, sum))
              (follow name count (files name) (λ bytes s e. ⊥) (λ bytes s e. WithShards files (count + length bytes) (shards ++ s ∷ []) (drop (suc i) names) (λ x y. ⊥) e) d (λ bytes s no. absurd no) due)))

      pub turned_there : AreTurnedTo names (IsShardRead told names) turns0 turns'
      turned_there = turned_up_to told names i (suc i) count shards turns0 turns' so_far.hold so_far.within (omega (arith, lt)) (omega arith) turned_next

    -- all were read
    module _ (past : length names ≤ i) where
      pub turned_to_all : AreTurnedTo names (IsShardRead told names) turns0 turns
      turned_to_all = turned_up_to told names i i count shards turns0 turns so_far.hold so_far.within so_far.within (omega arith) so_far.turned

-- ---- what is due to them

module _ (fns : List Function) (script : Script) (names : List (List ℕ)) (told : Option Files) (turns : List (List ℕ)) (f0 f1 : ℕ) (a : Answer) where
  all_due : (shards : List ShardView) → AreShardsRead told names shards → Answers (IsDueToShards fns names script shards) a → IsAnswer (IsDueToFiles fns script names) told turns f0 f1 a
  all_due shards read is = of_answer (IsDueToShards fns names script shards) (IsDueToFiles fns script names) told turns f0 f1 a (λ d h. step told read.hold d h) is
    where
      step : (o : Option Files) → IfSome o (HoldAll names shards read.count) → (d : ShardDue) → IsDueToShards fns names script shards d → IfSome o (λ f. IsDueToFiles fns script names f d)
      step None h d due = tt
      step (Some files) h d due =
          let sum = h.bytes in
          let few = read.few in
          subst (λ l. WithShards files 0 [] l (λ x y. IsDueToShards fns names script x y) d) (append-nil names) (reads_on files 0 [] names shards [] (λ x y. IsDueToShards fns names script x y) d h.hold (omega (arith, sum, few)) due)

  pub none_due : IsAnswer (IsDueToNames names) told turns f0 f1 a → IsAnswer (IsDueToFiles fns script names) told turns f0 f1 a
  none_due is = staged (IsDueToNames names) (IsDueToFiles fns script names) told turns f0 f0 f1 a (omega arith) (λ d h. step told d h) is
    where
      step : (o : Option Files) (d : ShardDue) → IfSome o (λ f. IsDueToNames names f d) → IfSome o (λ f. IsDueToFiles fns script names f d)
      step None d h = tt
      step (Some files) d h = none_follows files (λ x y. IsDueToShards fns names script x y) names 0 [] d h

pub all_due_ok : {E : Type 0} (fns : List Function) (script : Script) (names : List (List ℕ)) (told : Option Files) (turns : List (List ℕ)) (f0 f1 : ℕ) (shards : List ShardView) (r : Result Answer E) → AreShardsRead told names shards
    → IfOk r (Answers (IsDueToShards fns names script shards)) → IfOk r (IsAnswer (IsDueToFiles fns script names) told turns f0 f1)
all_due_ok fns script names told turns f0 f1 shards r read is =
    if_ok (Answers (IsDueToShards fns names script shards)) (IsAnswer (IsDueToFiles fns script names) told turns f0 f1) r (λ a h. all_due fns script names told turns f0 f1 a shards read h) is
