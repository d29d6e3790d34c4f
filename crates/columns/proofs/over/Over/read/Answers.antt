use Rattle.lemmas.proofs.{◌≡◌, ◌∙◌, ◌-◌, arith, length, sym, take}
use Rattle.std.proofs.lemmas.List.{length-take}
use Rattle.rdf_values.specs.{Value}
use Rattle.rdf_values.proofs.KeptLemmas.{cell_of_column, column_length}
use Rattle.columns.specs.{joined}
use Rattle.columns.proofs.InPieces.{cluster_long, number_read}
use Rattle.columns.proofs.over.Over.read.Goals as goal

pub read-requires-clause-within : goal.read-requires-clause-within
read-requires-clause-within c =
    let o = c.args.self.now in
    let size = column_length o.columns.now.table.rows c.args.col (λ z. Value.Int z) (joined c.ints.result.now) c.ints.ensures.column in
    let long = cluster_long o.columns.now.cuts.entries o.columns.now.cuts.size o.columns.now.cuts.marks (joined c.ints.result.now) c.ints.result.now o.cluster o.span c.ints.ensures.clusters (size ∙ sym o.whole) o.there in
    omega (arith, long.1, c.requires.from, c.requires.within, length-take (c.args.entries.hi - c.args.entries.lo) c.args.numbers.now)

pub returns-then-entries : goal.returns-then-entries
returns-then-entries c =
    let o = c.args.self.now in
    let count = c.args.entries.hi - c.args.entries.lo in
    let size = column_length o.columns.now.table.rows c.args.col (λ z. Value.Int z) (joined c.ints.result.now) c.ints.ensures.column in
    let all : length (take count c.args.numbers.now) ≡ count = omega (arith, c.requires.room, length-take count c.args.numbers.now) in
    record {
      each = λ p low.
          cell_of_column o.columns.now.table.rows c.args.col _ (λ z. Value.Int z) (joined c.ints.result.now) _ c.ints.ensures.column
          (number_read o.columns.now.cuts.entries o.columns.now.cuts.size o.columns.now.cuts.marks (joined c.ints.result.now) c.ints.result.now o.cluster o.span c.args.entries.lo count c.read.new.numbers _ c.ints.ensures.clusters (size ∙ sym o.whole) o.there
          c.requires.from (omega (arith, c.requires.within)) (rw all at c.read.ensures) p low);
    }
