use Rattle.lemmas.proofs.{ℕ, List, ◌≡◌, [], ◌∷◌, ◌++◌, map, length, sym, ap, ◌∙◌, subst, arith, reverse, length-map, map-map, nil_from_length, reverse-append}
use Rattle.rdf_values.specs.{DrawnBy}
use Rattle.slot_words.specs.{AreNotings, many_in, ShareSeen}
use Rattle.slot_words.specs.Shares.{hand_seen}
use Rattle.slot_words.proofs.Notes.{again, closed, noted_by}
use Rattle.slot_words.proofs.Hands.{taken_next, all_gathered, gathers, next_gathered, next_of}
use Rattle.slot_words.proofs.book.Book.close.Goals as goal

abbrev numbers_in : ShareSeen → List ℕ
numbers_in s = s.numbers

pub join_seat-requires : goal.join_seat-requires
join_seat-requires c =
    let i = c.loop-next.invariant.gathering in
    let key = c.self.inside.table.shared.key in
    let self = c.self.invariant in (
      i.of,
      ap (λ v. v.table) c.next.view_is ∙ next_of hand_seen (λ (s : ShareSeen). s.table) _ c.args.shares _ _ c.in-Some.next _ _ i c.in-Some.ensures.items,
      ap (λ m. m.1) c.next.invariant.0,
      omega arith,
      gathers (AreNotings key) (again key) c.loop-next.all.id c.loop-next.all.me.0 c.next.inside.seat.id c.next.inside.seat.me.0,
    )

pub loop-next-preserved : goal.loop-next-preserved
loop-next-preserved c =
    let i = c.loop-next.invariant in
    let j = c.join_seat.ensures in
    let pops = c.in-Some.ensures.items in
    record {
      gathering =
          next_gathered hand_seen (λ (s : ShareSeen). s.table) _ c.args.shares _ _ c.in-Some.next _ _ i.gathering pops _ _ _ (ap (λ m. m.0) c.next.invariant.0 ∙ ap (λ s. hand_seen s ∷ []) c.next.view_is) j.0 j.2;
      numbers = ap (λ l. map numbers_in c.pop.new.self.items ++ l) (ap reverse c.in_ok-push.ensures.items ∙ reverse-append c.loop-next.lists.items (c.from_vec.result ∷ []))
          ∙ taken_next numbers_in c.loop-next.left.items c.pop.new.self.items c.in-Some.next (c.from_vec.result ∷ []) (reverse c.loop-next.lists.items) (map numbers_in c.args.shares) pops
          (ap (λ l. l ∷ []) (c.from_vec.ensures ∙ ap (λ s. s.numbers) c.next.view_is)) i.numbers;
    }

pub returns : goal.returns
returns c =
    let none : length c.loop-next.left.items ≡ 0 = (let gone = c.in_default.ensures.cases.0 in let left = c.loop-next.left.ok.0 in omega (arith, gone, left)) in
    let shared = c.self.inside.table.shared in
    let slots : shared.key.1 ≡ c.args.self.slots = ap (λ k. k.1) c.self.invariant.0 ∙ ap (λ v. v.slots) c.self.view_is in
    let hands = all_gathered hand_seen (λ (s : ShareSeen). s.table) _ c.args.shares _ _ _ c.loop-next.invariant.gathering none in
    let many = ap length hands ∙ length-map c.args.shares hand_seen ∙ c.requires.all ∙ sym slots in
    record {
      orders = c.from_vec-2.ensures ∙ c.reverse.ensures.items ∙ ap (λ s. map numbers_in s ++ reverse c.loop-next.lists.items) (sym (nil_from_length c.loop-next.left.items none)) ∙ c.loop-next.invariant.numbers;
      drawn = subst (λ l. DrawnBy l (many_in l)) (map-map noted_by hand_seen c.args.shares)
          (subst (λ v. DrawnBy (map noted_by v) (many_in (map noted_by v))) hands (closed shared.key c.loop-next.all.id c.loop-next.all.me.0 _ _ c.close_with-closed.ensures.values.2 many));
    }
