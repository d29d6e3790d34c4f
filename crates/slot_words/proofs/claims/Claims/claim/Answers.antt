use Rattle.lemmas.proofs.{◌≡◌, ◌<◌, length, IfSome, subst, sym, ap, ◌∙◌, arith}
use Rattle.slot_words.specs.{hand_of}
use Rattle.slot_words.proofs.Steps.{draws, draw_room, looks, may_look}
use Rattle.slot_words.proofs.claims.Claims.claim.Goals as goal
use Rattle.slot_words.proofs.claims.Claims.claim.Goals.{then-number-bar, else-number-bar}

pub fetch_add-number-requires : goal.fetch_add-number-requires
fetch_add-number-requires c =
    let claims = c.self.invariant in
    let table = ap (λ v. v.table) c.seat.view_is ∙ c.requires.of.0 ∙ sym (ap (λ v. v.table) c.self.view_is) in
    let free = c.requires.«open» in
    (table, omega arith, draws c.self.inside.table.shared.key _ c.seat.inside.seat.id c.seat.inside.seat.me c.seat.invariant.0 (ap (λ v. v.kept) c.seat.view_is ∙ free.0) (ap (λ v. v.passed) c.seat.view_is ∙ free.1))

pub load-bar-requires : goal.load-bar-requires
load-bar-requires c =
    let claims = c.self.invariant in
    let table = ap (λ v. v.table) c.seat.view_is ∙ c.requires.of.0 ∙ sym (ap (λ v. v.table) c.self.view_is) in
    let d = c.fetch_add-number.ensures in
    let clusters : (hand_of c.seat.inside.seat.me.0).clusters ≡ c.self.inside.clusters = ap (λ v. v.clusters) c.seat.view_is ∙ c.requires.of.1 ∙ sym (ap (λ v. v.clusters) c.self.view_is) in
    let now = may_look (hand_of c.seat.inside.seat.me.0) c.fetch_add-number.result c.fetch_add-number.new.seat.me d.2.0 (omega arith) (ap (λ v. v.passed) c.seat.view_is ∙ c.requires.«open».1) in
    (d.0 ∙ table, omega arith, looks c.self.inside.table.shared.key _ c.fetch_add-number.new.seat.id c.fetch_add-number.new.seat.me now.0 now.1 now.2)

pub returns-clause-fewer : goal.returns-clause-fewer
returns-clause-fewer c =
    let h = hand_of c.seat.inside.seat.me.0 in
    let clusters : h.clusters ≡ c.self.inside.clusters = ap (λ v. v.clusters) c.seat.view_is ∙ c.requires.of.1 ∙ sym (ap (λ v. v.clusters) c.self.view_is) in
    let drawn : length h.drawn ≡ length c.args.seat.now.drawn = ap (λ v. length v.drawn) c.seat.view_is in
    let now : c.self.inside.clusters ≡ c.args.self.now.clusters = ap (λ v. v.clusters) c.self.view_is in
    let lt = c.if-number-self.false in
    let room = draw_room h c.fetch_add-number.result (omega arith) c.fetch_add-number.ensures.2.1 in
    elim c.if-number-bar.branch [
      | then-number-bar w ↦ subst (λ o. IfSome o (λ x. length c.args.seat.now.drawn < c.args.self.now.clusters)) (sym w.result-is) (omega arith)
      | else-number-bar w ↦ subst (λ o. IfSome o (λ x. length c.args.seat.now.drawn < c.args.self.now.clusters)) (sym w.result-is) tt
    ]
