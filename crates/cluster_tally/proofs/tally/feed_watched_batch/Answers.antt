use Rattle.lemmas.proofs.{◌∙◌, length, Some, refl, sym, same_Some, set-get_or, slice_get_read}
use Rattle.cluster_tally.proofs.tally.feed_watched_batch.Goals as goal

pub returns-in_default : goal.returns-in_default
returns-in_default c =
    let same = set-get_or c.args.watched.now c.args.pass c.index-watched-pass.result in
    let at = slice_get_read c.args.watched.now (length c.args.watched.now) c.args.pass c.index-watched-pass.result refl c.requires.within c.index-watched-pass.is in
    record {
      none = λ none. same;
      some = λ acc here. (let e = same_Some c.index-watched-pass.result (Some acc) (sym at ∙ here) in absurd (c.in_default.not-Some acc (sym c.index-watched-pass.is ∙ e)));
    }
