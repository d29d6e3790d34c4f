-- What the clauses of a parse say of the words.
use Rattle.lemmas.proofs.{◌≡◌, List, [], true, false, None, refl, sym}
use Rattle.clap.specs.Words.{App, HasMatchesOf, IsAmong, Kinds, Text, fault_of, found_of, is_simple, is_simple_and_free, rows_of}
use Rattle.clap.specs.declared.error.kind.ErrorKind.{ErrorKind}
use Rattle.clap.specs.declared.parser.matches.ArgMatches.{ArgMatches}
use Rattle.clap.proofs.OnLiterals.{clap_on_literals}
use Rattle.command_words.specs.{has_none}
use Rattle.snapshot_words.specs.{asked_in, asked_of, is_taken, snapshot_command}
use Rattle.command_words.proofs.Taken.{some_is}

pub is_simple_one : is_simple snapshot_command ≡ true
unfolding snapshot_command clap_on_literals
is_simple_one = refl

pub is_free : is_simple_and_free snapshot_command ≡ true
unfolding snapshot_command clap_on_literals
is_free = refl

none_is : (ks : Kinds) → ks ≡ [] → has_none ks ≡ true
none_is ks e = rw e refl

is_taken_at : (words : List Text) → fault_of snapshot_command words ≡ [] → is_taken words ≡ true
unfolding is_taken
is_taken_at words e = none_is (fault_of snapshot_command words) e

is_refused_at : (k : ErrorKind) (words : List Text) → IsAmong k (fault_of snapshot_command words) → is_taken words ≡ false
unfolding is_taken
is_refused_at k words h = some_is k (fault_of snapshot_command words) h

pub taken_by : (a : App) (ws words : List Text) (m : ArgMatches) → a ≡ snapshot_command → ws ≡ words → HasMatchesOf a ws m → fault_of a ws ≡ []
    → asked_of words ≡ asked_in (rows_of (found_of m))
unfolding asked_of
taken_by a ws words m e w h f =
    let taken = is_taken_at words (rw (e, w) at f) in
    let rows = (rw (e, w) at h) is_simple_one in
    rw (taken, sym rows.0) refl

pub refused_by : (a : App) (ws words : List Text) (k : ErrorKind) → a ≡ snapshot_command → ws ≡ words → IsAmong k (fault_of a ws) → asked_of words ≡ None
unfolding asked_of
refused_by a ws words k e w h = rw (is_refused_at k words (rw (e, w) at h)) refl
