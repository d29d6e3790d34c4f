use Rattle.lemmas.proofs.{◌-◌, ◌<◌, refl, ◌∙◌, arith}
use Rattle.std.proofs.lemmas.Option.{get_or_from_slice_get}
use Rattle.loop_pieces.specs.{span_of}
use Rattle.slot_words.proofs.Joining.{none_yet, next_number, next_run, none_left}
use Rattle.slot_words.proofs.runs.runs_with.Goals as goal
use Rattle.slot_words.proofs.runs.runs_with.Goals.{then-i-gt0, else-i-gt0+then-k-gt0}

pub loop-i-init : goal.loop-i-init
loop-i-init = grind (arith, none_yet)

pub loop-i-preserved-in-Continue-1 : goal.loop-i-preserved-in-Continue-1
loop-i-preserved-in-Continue-1 c =
    let inv = c.loop-i.invariant in
    let yes = c.number_is_last.ensures.yes c.if-number_is_last.true in
    record {
      runs_within = inv.runs_within;
      numbers_within = omega arith;
      joining = λ xs all are u.
          next_number xs all c.args.numbers.now c.args.runs.now c.loop-i.i c.loop-i.k c.loop-i.joined.items c.put_in_front.new.runs.items are u.rising (inv.joining xs all are u) inv.runs_within inv.numbers_within yes.0 yes.1
          (λ rs e. c.in_ok-put_in_front.ensures _ rs refl e);
    }

pub loop-i-preserved : goal.loop-i-preserved
loop-i-preserved c =
    let inv = c.loop-i.invariant in
    let no = c.number_is_last.ensures.no c.if-number_is_last.false in
    let some : 0 < c.loop-i.i = elim c.if-i-gt0.branch [ then-i-gt0 w ↦ omega arith | else-i-gt0+then-k-gt0 w ↦ (no (omega arith)).0 ] in
    record {
      runs_within = omega arith;
      numbers_within = inv.numbers_within;
      joining = λ xs all are u.
          next_run xs all c.args.numbers.now c.args.runs.now c.loop-i.i c.loop-i.k c.loop-i.joined.items c.put_in_front-else-number_is_last.new.runs.items are u.rising (inv.joining xs all are u) inv.runs_within inv.numbers_within some (λ any. (no any).1)
          (λ r at rs e. c.in_ok-put_in_front-2.ensures r rs (get_or_from_slice_get c.args.runs.now (c.loop-i.i - 1) (span_of r) (record { lo = 0; hi = 0 }) at) e);
    }

pub returns : goal.returns
returns c = λ xs all are u.
    c.from_vec.ensures ∙ c.reverse.ensures.items ∙ none_left xs all c.args.numbers.now c.loop-i.i c.loop-i.k c.loop-i.joined.items u (c.loop-i.invariant.joining xs all are u) c.if-i-gt0.false c.if-k-gt0.false
