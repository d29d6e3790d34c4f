use Rattle.lemmas.proofs.{◌∙◌, Bool, [], ◌∷◌, Some, ap, arith, if◌then◌else◌, inl, inr, length, refl, sym}
use Rattle.std.proofs.lemmas.Option.{slice_get_read}
use Rattle.loop_pieces.specs.declared.loop_piece.PartialLines.{PartialLines}
use Rattle.event_loop.specs.{session_of}
use Rattle.event_loop.proofs.Courses.{completed_at, fills_it, lines_there, loop_there, placed_at}
use Rattle.event_loop.proofs.session.Session.filled.Goals as goal
use Rattle.event_loop.proofs.session.Session.filled.Goals.{then-is_noted, else-is_noted}

pub place_in-place-requires-clause-its_loop : goal.place_in-place-requires-clause-its_loop
place_in-place-requires-clause-its_loop g c =
    loop_there (session_of c.args.self.now) c.requires.session c.args.loop_index (completed_at (session_of c.args.self.now) c.requires.session c.args.r c.requires.result c.args.loop_index c.requires.filled)

pub place_in-place-requires-clause-filled : goal.place_in-place-requires-clause-filled
place_in-place-requires-clause-filled g c = fills_it (session_of c.args.self.now) c.requires.session c.args.r c.requires.result c.args.loop_index c.requires.filled

pub index-its_loop-requires : goal.index-its_loop-requires
index-its_loop-requires g c =
    omega (arith, completed_at (session_of c.args.self.now) c.requires.session c.args.r c.requires.result c.args.loop_index c.requires.filled, c.args.self.now.loops.ok)

pub lines_at-lines-requires : goal.lines_at-lines-requires
lines_at-lines-requires g c =
    let lt = completed_at (session_of c.args.self.now) c.requires.session c.args.r c.requires.result c.args.loop_index c.requires.filled in
    let at = slice_get_read c.args.self.now.loops.items (length c.args.self.now.loops.items) c.args.loop_index c.index-its_loop.result.now refl lt c.index-its_loop.ensures in
    lines_there (session_of c.args.self.now) c.requires.session c.args.r c.requires.result c.args.loop_index c.requires.filled c.place_in-place.result c.place_in-place.ensures
    (λ x n its. c.is_noted.ensures x n its ∙ ap (λ (b : Bool). if b then n ∷ [] else []) c.if-is_noted.true) c.index-its_loop.result.now at

pub returns : goal.returns
returns g c = λ x its.
    let lt = completed_at (session_of c.args.self.now) c.requires.session c.args.r c.requires.result c.args.loop_index c.requires.filled in
    record {
      filled = c.index-its_loop.result.now;
      place = c.place_in-place.result;
      its_loop = slice_get_read c.args.self.now.loops.items (length c.args.self.now.loops.items) c.args.loop_index c.index-its_loop.result.now refl lt c.index-its_loop.ensures;
      placed = placed_at (session_of c.args.self.now) c.requires.session c.args.r c.requires.result c.args.loop_index c.requires.filled c.place_in-place.result c.place_in-place.ensures x its;
      piece = refl;
      first = refl;
      passes = refl;
      partials = elim c.if-is_noted.branch [
        | then-is_noted w ↦ inl (
          (λ n. c.is_noted.ensures x n its ∙ ap (λ (b : Bool). if b then n ∷ [] else []) w.if-is_noted.true),
          w.lines_at-lines.ensures ∙ ap (λ (l : PartialLines). Some l.lines.now) (sym w.lines-is),
        )
        | else-is_noted w ↦ inr (c.is_noted.ensures x 0 its ∙ ap (λ (b : Bool). if b then 0 ∷ [] else []) w.if-is_noted.false, ap (λ (l : PartialLines). l.lines.now) w.lines-is)
      ];
    }
