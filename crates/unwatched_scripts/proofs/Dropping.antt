-- What Watch lines don't change.
use Rattle.std.proofs.Common.{◌≡◌, ℕ, Bool, true, false, not, ◌||◌, List, [], ◌∷◌, ◌++◌, map, reverse, Option, None, Some, refl, sym, ap, ap₂, ◌∙◌, append-nil, if◌then◌else◌, filter, filter_map}
use Rattle.std.proofs.lemmas.List.{reverse-append}
use Rattle.rdf_values.specs.{ActionAt, among, Booked, bookings, covered, filled, has_variations, history, is_watched, Line, makes, named_before, names_of, own_variations, parent_of, Pass, passes_of, Path, path, ReportOn, result_depends, same, Script, Statement, variations, waiting}
use Rattle.rdf_values.specs.declared.scripts.statement.Statement.TheVariants.{Action, Filter, Print, Report, VariationsFor, Watch}
use Rattle.rdf_model.specs.{Access, accesses, loop_passes, loop_results}
use Rattle.unwatched_scripts.specs.{DroppedWatchesChangeNoLoop, is_watch, unwatched}

-- ---- statements

-- the statements but for Watches
abbrev pub others : List Statement → List Statement
others [] = []
others (Watch result ∷ before) = others before
others (s ∷ before) = s ∷ others before

others_append : (xs ys : List Statement) → others (xs ++ ys) ≡ others xs ++ others ys
others_append [] ys = refl
others_append (Watch result ∷ xs) ys = others_append xs ys
others_append (s ∷ xs) ys = ap (λ l. s ∷ l) (others_append xs ys)

one_other : (s : Statement) → others (s ∷ []) ≡ (if not (is_watch s) then s ∷ [] else [])
one_other (Watch result) = refl
one_other s = refl

reverse-cons : (s : Statement) (xs : List Statement) → reverse (s ∷ xs) ≡ reverse xs ++ s ∷ []
reverse-cons s xs = reverse-append (s ∷ []) xs

abbrev said : List Line → List Statement
said ls = map (λ (l : Line). l.statement) ls

lines_others : (ls : List Line) → reverse (said (filter (λ (l : Line). not (is_watch l.statement)) ls)) ≡ others (reverse (said ls))
lines_others [] = refl
lines_others (l ∷ ls) = go (not (is_watch l.statement)) refl (lines_others ls)
  where
    rest : reverse (said (filter (λ (k : Line). not (is_watch k.statement)) ls)) ≡ others (reverse (said ls)) → others (reverse (said (l ∷ ls))) ≡ reverse (said (filter (λ (k : Line). not (is_watch k.statement)) ls)) ++ (if not (is_watch l.statement) then l.statement ∷ [] else [])
    rest behind =
        ap others (reverse-cons l.statement (said ls)) ∙ others_append (reverse (said ls)) (l.statement ∷ [])
        ∙ ap₂ (λ (x y : List Statement). x ++ y) (sym behind) (one_other l.statement)

    go : (b : Bool) → not (is_watch l.statement) ≡ b → reverse (said (filter (λ (k : Line). not (is_watch k.statement)) ls)) ≡ others (reverse (said ls)) → reverse (said (if b then l ∷ filter (λ (k : Line). not (is_watch k.statement)) ls else filter (λ (k : Line). not (is_watch k.statement)) ls)) ≡ others (reverse (said (l ∷ ls)))
    go true e behind =
        reverse-cons l.statement (said (filter (λ (k : Line). not (is_watch k.statement)) ls))
        ∙ sym (rest behind ∙ ap (λ (b : Bool). reverse (said (filter (λ (k : Line). not (is_watch k.statement)) ls)) ++ (if b then l.statement ∷ [] else [])) e)
    go false e behind =
        sym (rest behind ∙ ap (λ (b : Bool). reverse (said (filter (λ (k : Line). not (is_watch k.statement)) ls)) ++ (if b then l.statement ∷ [] else [])) e ∙ append-nil (reverse (said (filter (λ (k : Line). not (is_watch k.statement)) ls))))

pub unwatched_history : (script : Script) → history (unwatched script) ≡ others (history script)
unwatched_history script = lines_others script.lines

-- ---- what they make and book

path_same : (h : List Statement) (node : List ℕ) → path (others h) node ≡ path h node
path_same [] node = refl
path_same (Watch result ∷ h) node = path_same h node
path_same (s ∷ h) node = ap₂ (λ (p q : Path). if makes s node then s ∷ p else q) (path_same h (parent_of s)) (path_same h node)

variations_same : (h : List Statement) → variations (others h) ≡ variations h
variations_same [] = refl
variations_same (Watch result ∷ h) = variations_same h ∙ sym (append-nil (variations h))
variations_same (s ∷ h) = ap (λ v. v ++ own_variations s) (variations_same h)

named_same : (h : List Statement) → named_before (others h) ≡ named_before h
named_same [] = refl
named_same (Filter node parent expr (Some label) ∷ h) = ap₂ (λ x (y : Path). x ++ (Filter node parent expr (Some label) ∷ y) ∷ []) (named_same h) (path_same h parent)
named_same (Filter node parent expr None ∷ h) = named_same h
named_same (s ∷ h) = named_same h

covered_same : (h : List Statement) (p : Path) → covered (others h) p ≡ covered h p
covered_same h [] = named_same h
covered_same h (s ∷ up) = refl

bookings_same : (h : List Statement) → bookings (others h) ≡ bookings h
bookings_same [] = refl
bookings_same (Watch result ∷ h) = bookings_same h ∙ sym (append-nil (bookings h))
bookings_same (Action result parent k ∷ h) = ap₂ (λ bs (p : Path). bs ++ record { name = result; booking = ActionAt k p } ∷ []) (bookings_same h) (path_same h parent)
bookings_same (Report result parent ∷ h) =
    ap₂ (λ bs (ps : List Path). bs ++ record { name = result; booking = ReportOn ps } ∷ []) (bookings_same h) (ap (covered (others h)) (path_same h parent) ∙ covered_same h (path h parent))
bookings_same (s ∷ h) = ap (λ bs. bs ++ []) (bookings_same h)

has_variations_same : (h : List Statement) (name : List ℕ) → has_variations (others h) name ≡ has_variations h name
has_variations_same [] name = refl
has_variations_same (VariationsFor result ∷ h) name = ap (λ b. same result name || b) (has_variations_same h name)
has_variations_same (s ∷ h) name = has_variations_same h name

pub none_watched : (h : List Statement) (name : List ℕ) → is_watched (others h) name ≡ false
none_watched [] name = refl
none_watched (Watch result ∷ h) name = none_watched h name
none_watched (s ∷ h) name = none_watched h name

filled_same : (h : List Statement) → filled (others h) ≡ filled h
filled_same [] = refl
filled_same (Print p ∷ h) = ap₂ (λ f (bs : List Booked). if among p f then f else names_of bs) (filled_same h) (bookings_same h)
filled_same (s ∷ h) = filled_same h

waiting_same : (h : List Statement) → waiting (others h) ≡ waiting h
waiting_same h = ap₂ (λ f (bs : List Booked). filter (λ (b : Booked). not (among b.name f)) bs) (filled_same h) (bookings_same h)

-- ---- loops

pub accesses_same : (h : List Statement) → accesses (others h) ≡ accesses h
accesses_same [] = refl
accesses_same (Print result ∷ h) =
    ap₂ (λ before (fills : Option (List Booked)). before ++ record { result = result; fills = fills } ∷ []) (accesses_same h)
    (ap₂ (λ f (bs : List Booked). if among result f then None else Some bs) (filled_same h) (waiting_same h))
accesses_same (s ∷ h) = accesses_same h

pub bookings_are : (h : List Statement) → bookings (others h) ≡ bookings h
bookings_are h = bookings_same h

pub passes_same : (h : List Statement) (b : Booked) → passes_of (others h) b ≡ passes_of h b
passes_same h b =
    ap₂ (λ asked vs. record { result = b; under = None } ∷ (if asked then map (λ v. record { result = b; under = Some v }) (filter (λ v. result_depends v b.booking) vs) else []))
    (has_variations_same h b.name) (variations_same h)

pub loop_passes_same : (h : List Statement) (results : List Booked) → loop_passes (others h) results ≡ loop_passes h results
loop_passes_same h [] = refl
loop_passes_same h (b ∷ bs) = ap₂ (λ (x y : List Pass). x ++ y) (passes_same h b) (loop_passes_same h bs)

pub dropped_watches_change_no_loop : DroppedWatchesChangeNoLoop
dropped_watches_change_no_loop script = (
  ap loop_results (unwatched_history script) ∙ ap (filter_map (λ (a : Access). a.fills)) (accesses_same (history script)),
  λ results. ap (λ h. loop_passes h results) (unwatched_history script) ∙ loop_passes_same (history script) results,
)
