use Rattle.lemmas.proofs.{◌≡◌, ◌<◌, ◌+◌, ◌++◌, ◌∷◌, ◌∙◌, [], ℕ, List, HoldsAt, ap, arith, length, map, sym, take}
use Rattle.std.proofs.lemmas.List.{map-append, take_more}
use Rattle.snapshot_words.proofs.read.borrowed.Goals as goal

map_more : {W : Type 0} (f : W → List ℕ) (ws more : List W) (w : W) (words : List (List ℕ)) (i : ℕ) → i < length words → more ≡ ws ++ w ∷ []
    → HoldsAt (λ word. f w ≡ word) words i → map f ws ≡ take i words → map f more ≡ take (i + 1) words
map_more f ws more w words i l e h m =
    ap (map f) e ∙ map-append f ws (w ∷ []) ∙ ap (λ xs. xs ++ f w ∷ []) m ∙ ap (λ x. take i words ++ x ∷ []) (h (f w)) ∙ sym (take_more words i (f w) l)

pub loop-i-preserved : goal.loop-i-preserved
loop-i-preserved c =
    map_more (λ w. w.now) c.loop-i.list.items c.push.new.self.items c.word.result c.args.words.now c.loop-i.i
    (omega (arith, c.loop-i-test.true, c.len-i-end.ensures)) c.in_ok-push.ensures.items c.word.ensures c.loop-i.invariant
