-- What is asked for is within its limits.
use Rattle.lemmas.proofs.{◌≡◌, ◌≤◌, ◌<◌, ℕ, ℤ, pos, negsuc, Bool, true, false, ◌&&◌, leb, List, length, Option, None, Some, if◌then◌else◌, refl, arith, subst, nat_le, length-slice_split, list_all, nat_tests, slice_split}
use Rattle.clap.specs.Words.{Row, Text, matches_of}
use Rattle.command_words.specs.{number_of, setting_of, within}
use Rattle.rdf_values.specs.{integer_of, is_name}
use Rattle.snapshot_plan.specs.{Under}
use Rattle.snapshot_words.specs.{asked_by, asked_in, asked_of, command_of, files_of, is_comma, is_taken, IsAsked, names_of, shown_by, shown_of, SnapCommand, snapshot_command, under_in}
use Rattle.snapshot_words.specs.declared.read.Files.{Files}
use Rattle.snapshot_words.specs.declared.read.Shown.{Shown}
use Rattle.command_words.proofs.Taken.{if_within, found_is}

-- ---- numbers

-- a number that stands in an option
abbrev Is : ℕ → ℕ → Option ℕ → Type 0
Is least most o = (n : ℕ) → o ≡ Some n → (least ≤ n) × (n ≤ most)

is_within : (least most : ℕ) (o : Option ℤ) → Is least most (within least most o)
is_within least most None = λ n e. absurd (cc e)
is_within least most (Some (negsuc k)) = λ n e. absurd (cc e)
is_within least most (Some (pos k)) = λ n e. if_within least most k n (leb least k) (leb k most) refl refl e

is_number : (least most : ℕ) (text : Text) → Is least most (number_of least most text)
unfolding number_of
is_number least most text = is_within least most (integer_of text)

is_setting : (usual most : ℕ) (o : Option Text) → 1 ≤ usual → usual ≤ most → Is 1 most (setting_of usual most o)
is_setting usual most None low high = λ n e. grind arith
is_setting usual most (Some text) low high = is_number 1 most text

-- ---- columns

record AreNames (names : List Text) : Type 0 where
  some : 0 < length names
  few : length names ≤ 64
  named : list_all is_name names ≡ true

if_all : (parts names : List Text) (named few : Bool) → list_all is_name parts ≡ named → nat_le (length parts) 64 ≡ few → 0 < length parts → (if named && few then Some parts else None) ≡ Some names → AreNames names
if_all parts names true true n f some e = subst AreNames (found_is parts names e) (record { some = some; few = grind (arith, nat_tests); named = n })
if_all parts names true false n f some e = absurd (cc e)
if_all parts names false few n f some e = absurd (cc e)

are_names : (text : Text) (names : List Text) → names_of text ≡ Some names → AreNames names
unfolding names_of
are_names text names e =
    let parts = slice_split is_comma text in
    if_all parts names (list_all is_name parts) (nat_le (length parts) 64) refl refl (omega (arith, length-slice_split is_comma text)) e

-- ---- what is shown

abbrev Shows : Option Shown → Type 0
Shows o = (s : Shown) → o ≡ Some s → AreNames s.columns

by_names : (node : Text) (columns : Option (List Text)) (under : Option Under) → ((names : List Text) → columns ≡ Some names → AreNames names) → Shows (shown_by node columns under)
by_names node None under h = λ s e. absurd (cc e)
by_names node (Some columns) None h = λ s e. absurd (cc e)
by_names node (Some columns) (Some under) h = λ s e. subst (λ (x : Shown). AreNames x.columns) (found_is (record { node = node; columns = columns; under = under }) s e) (h columns refl)

if_node : (node columns under : Text) (named : Bool) → Shows (if named then shown_by node (names_of columns) (under_in under) else None)
if_node node columns under true = by_names node (names_of columns) (under_in under) (are_names columns)
if_node node columns under false = λ s e. absurd (cc e)

are_shown : (node columns under : Option Text) → Shows (shown_of node columns under)
are_shown None columns under = λ s e. absurd (cc e)
are_shown (Some node) None under = λ s e. absurd (cc e)
are_shown (Some node) (Some columns) None = λ s e. absurd (cc e)
are_shown (Some node) (Some columns) (Some under) = if_node node columns under (is_name node)

-- ---- all words

asked_by_fits : (files : Option Files) (shown : Option Shown) (slots cluster : Option ℕ) → Shows shown → Is 1 16 slots → Is 1 1000000 cluster → (c : SnapCommand) → asked_by files shown slots cluster ≡ Some c → IsAsked c
asked_by_fits None shown slots cluster w s k c e = absurd (cc e)
asked_by_fits (Some files) None slots cluster w s k c e = absurd (cc e)
asked_by_fits (Some files) (Some shown) None cluster w s k c e = absurd (cc e)
asked_by_fits (Some files) (Some shown) (Some slots) None w s k c e = absurd (cc e)
asked_by_fits (Some files) (Some shown) (Some slots) (Some cluster) w s k c e =
    let names = w shown refl in
    let n = s slots refl in
    subst IsAsked (found_is (command_of files shown slots cluster) c e) (record { some = names.some; few = names.few; named = names.named; slots = (omega (arith, n.0), n.1); cluster = k cluster refl })

asked_in_fits : (rows : List Row) (c : SnapCommand) → asked_in rows ≡ Some c → IsAsked c
unfolding asked_in
asked_in_fits rows c e =
    asked_by_fits (files_of _ _) (shown_of _ _ _) (setting_of 1 16 _) (setting_of 10000 1000000 _) (are_shown _ _ _) (is_setting 1 16 _ (omega arith) (omega arith)) (is_setting 10000 1000000 _ (omega arith) (omega arith)) c e

taken_fits : (taken : Bool) (rows : List Row) (c : SnapCommand) → (if taken then asked_in rows else None) ≡ Some c → IsAsked c
taken_fits true rows c e = asked_in_fits rows c e
taken_fits false rows c e = absurd (cc e)

pub asked_fits : (words : List Text) (c : SnapCommand) → asked_of words ≡ Some c → IsAsked c
unfolding asked_of
asked_fits words c e = taken_fits (is_taken words) (matches_of snapshot_command words) c e
