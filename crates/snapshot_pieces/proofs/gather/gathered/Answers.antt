use Rattle.lemmas.proofs.{◌≡◌, ◌<◌, length, map, min, sym, ap, ◌∙◌, subst, arith, All, All-map}
use Rattle.rdf_values.specs.{DrawnBy, least_fault}
use Rattle.slot_words.specs.{IsLeast, IsPassed, SeatSeen}
use Rattle.slot_words.specs.Seats.{IsOf}
use Rattle.snapshot_pieces.specs.{end_faults, HasAll, HasMemory, seat_in}
use Rattle.snapshot_pieces.proofs.Ended.{drawn_in, has_all, IsKept, least_is_first, left_none}
use Rattle.snapshot_pieces.proofs.gather.gathered.Goals as goal

pub finish-requires-clause-of : goal.finish-requires-clause-of
finish-requires-clause-of c = subst (All (IsOf c.args.claims)) (sym c.in_ok-seats.ensures.seats) (All-map (IsOf c.args.claims) seat_in c.args.finished.items c.requires.of)

pub returns-in-Some : goal.returns-in-Some
returns-in-Some c = λ facts are ran.
    let fs = c.args.finished.items in
    let claims = c.args.claims in
    let word = c.finish.result.word in
    let bar = c.finish.result.bar in
    let seats = c.in_ok-seats.ensures.seats in
    let some : 0 < length fs = (let ok = c.args.finished.ok.0 in omega (arith, c.requires.some)) in
    let memory : All HasMemory fs = subst (All HasMemory) c.as_slice.ensures.value c.in_ok-least.ensures.memory in
    let least : c.in_ok-least.least ≡ least_fault (end_faults fs) = c.in_ok-least.ensures.least ∙ ap (λ l. least_fault (end_faults l)) c.as_slice.ensures.value in
    let drawn : DrawnBy (drawn_in fs) (min word claims.clusters) = subst (λ l. DrawnBy (map (λ (s : SeatSeen). s.drawn) l) (min word claims.clusters)) seats c.finish.ensures.drawn in
    let lowest : IsLeast claims.clusters (map seat_in fs) bar = subst (λ l. IsLeast claims.clusters l bar) seats c.finish.ensures.bar in
    let passed : All (IsPassed bar) (map seat_in fs) = subst (All (IsPassed bar)) seats c.finish.ensures.passed in
    let kept : All (IsKept claims.clusters word) (map seat_in fs) = subst (All (IsKept claims.clusters word)) seats c.finish.ensures.kept in
    sym (least_is_first claims facts bar fs word are some ran memory drawn lowest passed kept) ∙ sym least ∙ c.in-Some.is

pub returns-in-None : goal.returns-in-None
returns-in-None c = λ facts are ran.
    let fs = c.args.finished.items in
    let claims = c.args.claims in
    let word = c.finish.result.word in
    let bar = c.finish.result.bar in
    let seats = c.in_ok-seats.ensures.seats in
    let some : 0 < length fs = (let ok = c.args.finished.ok.0 in omega (arith, c.requires.some)) in
    let memory : All HasMemory fs = subst (All HasMemory) c.as_slice.ensures.value c.in_ok-least.ensures.memory in
    let least : c.in_ok-least.least ≡ least_fault (end_faults fs) = c.in_ok-least.ensures.least ∙ ap (λ l. least_fault (end_faults l)) c.as_slice.ensures.value in
    let drawn : DrawnBy (drawn_in fs) (min word claims.clusters) = subst (λ l. DrawnBy (map (λ (s : SeatSeen). s.drawn) l) (min word claims.clusters)) seats c.finish.ensures.drawn in
    let lowest : IsLeast claims.clusters (map seat_in fs) bar = subst (λ l. IsLeast claims.clusters l bar) seats c.finish.ensures.bar in
    let passed : All (IsPassed bar) (map seat_in fs) = subst (All (IsPassed bar)) seats c.finish.ensures.passed in
    let kept : All (IsKept claims.clusters word) (map seat_in fs) = subst (All (IsKept claims.clusters word)) seats c.finish.ensures.kept in
    let none = left_none (end_faults fs) (sym c.in-None.is ∙ least) in (
      sym (least_is_first claims facts bar fs word are some ran memory drawn lowest passed kept) ∙ sym least ∙ c.in-None.is,
      subst (HasAll facts) (sym c.in_ok-seats.ensures.pieces) (has_all claims facts bar fs word are some ran memory drawn lowest passed kept none),
    )
