use Rattle.lemmas.proofs.{◌≡◌, [], ◌∷◌, ◌+◌, map, length, min, subst₂, Some, sym, ap, ◌∙◌, subst, arith, All-weaker, Contains, length-map, map-map}
use Rattle.rdf_values.specs.{DrawnBy}
use Rattle.rdf_values.proofs.UnionLemmas.{sum_by-map}
use Rattle.slot_words.specs.declared.seat.ClaimHand.{ClaimHand}
use Rattle.slot_words.specs.{AreClaimed, IsBarred, IsClaimed, IsHand, IsOver, kept_count, SeatSeen}
use Rattle.slot_words.specs.Seats.{IsOf, hand_seen}
use Rattle.slot_words.proofs.Steps.{again, finished, drawn_by}
use Rattle.slot_words.proofs.Hands.{IsGathering, all_gathered, all_seen, enters, gathers, next_gathered, next_of, none_gathered}
use Rattle.slot_words.proofs.claims.Claims.finish.Goals as goal

pub load_new_seat-all-requires : goal.load_new_seat-all-requires
load_new_seat-all-requires c =
    let key = c.self.inside.table.shared.key in
    let self = c.self.invariant in
    (omega arith, enters (AreClaimed key) (again key) c.self.inside.table.shared.table_id.slots 0)

pub loop-next-init : goal.loop-next-init
loop-next-init c =
    let table = ap (λ v. v.table) c.self.view_is in
    let new = c.load_new_seat-all.ensures in
    let rest = All-weaker (IsOf c.args.self) (λ s. s.table ≡ c.self.inside.table.shared.table_id) (λ s o. o.0 ∙ sym table) c.args.seats c.requires.of in
    subst (λ l. IsGathering hand_seen (λ (s : SeatSeen). s.table) c.self.inside.table.shared.table_id c.args.seats l c.load_new_seat-all.result.1.table_id c.load_new_seat-all.result.1.me) (sym c.into_vec-left.ensures)
    (none_gathered hand_seen (λ (s : SeatSeen). s.table) _ c.args.seats _ _ new.0 new.2 rest)

pub join_seat-requires : goal.join_seat-requires
join_seat-requires c =
    let i = c.loop-next.invariant in
    let key = c.self.inside.table.shared.key in
    let self = c.self.invariant in (
      i.of,
      ap (λ v. v.table) c.next.view_is ∙ next_of hand_seen (λ (s : SeatSeen). s.table) _ c.args.seats _ _ c.in-Some.next _ _ i c.in-Some.ensures.items,
      ap (λ m. m.1) c.next.invariant.0,
      omega arith,
      gathers (AreClaimed key) (again key) c.loop-next.all.id c.loop-next.all.me.0 c.next.inside.seat.id c.next.inside.seat.me.0,
    )

pub loop-next-preserved : goal.loop-next-preserved
loop-next-preserved c =
    let j = c.join_seat.ensures in
    next_gathered hand_seen (λ (s : SeatSeen). s.table) _ c.args.seats _ _ c.in-Some.next _ _ c.loop-next.invariant c.in-Some.ensures.items _ _ _ (ap (λ m. m.0) c.next.invariant.0 ∙ ap (λ s. hand_seen s ∷ []) c.next.view_is) j.0 j.2

-- what the last state of the table says of the seats that were handed in
whole : (c : goal.After-drop-left)
    → IsClaimed c.args.self.clusters c.self.inside.table.shared.key.1 c.word-word.result (map hand_seen c.args.seats) × IsBarred c.args.self.clusters c.word-bar.result (map hand_seen c.args.seats)
whole c =
    let word = c.word-word.result in
    let bar = c.word-bar.result in
    let shared = c.self.inside.table.shared in
    let clusters : shared.key.0 ≡ c.args.self.clusters = ap (λ k. k.0) c.self.invariant.0 ∙ ap (λ v. v.clusters) c.self.view_is in
    let slots : shared.key.1 ≡ c.args.self.slots = ap (λ k. k.1) c.self.invariant.0 ∙ ap (λ v. v.slots) c.self.view_is in
    let hands = all_gathered hand_seen (λ (s : SeatSeen). s.table) _ c.args.seats _ _ _ c.loop-next.invariant (let gone = c.in_default.ensures.cases.0 in let left = c.loop-next.left.ok.0 in omega (arith, gone, left)) in
    let many = ap length hands ∙ length-map c.args.seats hand_seen ∙ c.requires.all ∙ sym slots in
    let end = finished shared.key c.loop-next.all.id c.loop-next.all.me.0 _ _ word bar c.close_with-closed.ensures.values.2 c.word-word.ensures c.word-bar.ensures many in
    subst₂ (λ v n. IsClaimed n shared.key.1 word v × IsBarred n bar v) hands clusters end

pub returns-clause-drawn : goal.returns-clause-drawn
returns-clause-drawn c = subst (λ lists. DrawnBy lists (min c.word-word.result c.args.self.clusters)) (map-map drawn_by hand_seen c.args.seats) (whole c).0.shared

pub returns-clause-word : goal.returns-clause-word
returns-clause-word c = (whole c).0.room ∙ ap (λ n. min c.word-word.result c.args.self.clusters + n) (sum_by-map (λ (h : ClaimHand). kept_count h.kept) hand_seen c.args.seats)

pub returns-clause-kept : goal.returns-clause-kept
returns-clause-kept c =
    All-weaker (λ (s : SeatSeen). IsHand c.args.self.clusters c.word-word.result (hand_seen s)) _ (λ s i. i.past) c.args.seats
    (all_seen hand_seen (IsHand c.args.self.clusters c.word-word.result) c.args.seats (whole c).0.each)

pub returns-clause-passed : goal.returns-clause-passed
returns-clause-passed c = All-weaker (λ (s : SeatSeen). IsOver c.word-bar.result (hand_seen s)) _ (λ s o. o.passed) c.args.seats (all_seen hand_seen (IsOver c.word-bar.result) c.args.seats (whole c).1.each)

pub returns-clause-bar : goal.returns-clause-bar
returns-clause-bar c =
    let w = (whole c).1 in
    record {
      most = w.most;
      below = All-weaker (λ (s : SeatSeen). IsOver c.word-bar.result (hand_seen s)) _ (λ s o. o.lowered) c.args.seats (all_seen hand_seen (IsOver c.word-bar.result) c.args.seats w.each);
      reached = λ lt. subst (λ l. Contains l (Some c.word-bar.result)) (map-map (λ (h : ClaimHand). h.lowered) hand_seen c.args.seats) (w.least lt);
    }
