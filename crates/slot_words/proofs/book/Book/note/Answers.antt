use Rattle.lemmas.proofs.{length, sym, ap, ◌∙◌, arith}
use Rattle.slot_words.proofs.Notes.{notes}
use Rattle.slot_words.proofs.book.Book.note.Goals as goal

pub fetch_add-number-requires : goal.fetch_add-number-requires
fetch_add-number-requires c =
    let book = c.self.invariant in
    let table = ap (λ v. v.table) c.share.view_is ∙ c.requires.of.0 ∙ sym (ap (λ v. v.table) c.self.view_is) in
    let clusters = ap (λ v. v.clusters) c.self.view_is in
    let key = ap (λ k. k.0) book.0 in
    let numbers = ap (λ v. length v.numbers) c.share.view_is in
    (table, omega arith, notes c.self.inside.table.shared.key _ c.share.inside.seat.id c.share.inside.seat.me c.share.inside.numbers.items c.share.invariant.0 (omega (arith, c.requires.room)))
