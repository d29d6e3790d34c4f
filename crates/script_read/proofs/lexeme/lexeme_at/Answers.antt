use Rattle.lemmas.proofs.{◌∙◌, sym}
use Rattle.std.proofs.lemmas.List.{take_rest}
use Rattle.script_read.proofs.TokenSteps.{word_taken, lexeme_word, lexeme_integer}
use Rattle.script_read.proofs.lexeme.lexeme_at.Goals as goal

pub word-requires : goal.word-requires
word-requires c = word_taken _ _ (sym c.is_word_start.ensures ∙ c.if-is_word_start.true) c.word_size.ensures

pub returns-in_default : goal.returns-in_default
returns-in_default c = λ d ds e.
    c.word.ensures ∙ lexeme_word c.args.place _ d _ ds (take_rest c.args.line.now c.args.place ∙ e) (sym c.is_word_start.ensures ∙ c.if-is_word_start.true) c.word_size.ensures

pub returns-in_default-2 : goal.returns-in_default-2
returns-in_default-2 c = λ d ds e.
    c.integer.ensures ∙ lexeme_integer c.args.place _ d _ ds (take_rest c.args.line.now c.args.place ∙ e) (sym c.begins_integer.ensures ∙ c.if-begins_integer.true) c.digits_size.ensures
