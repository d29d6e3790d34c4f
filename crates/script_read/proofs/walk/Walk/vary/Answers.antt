use Rattle.lemmas.proofs.{◌∷◌, ◌++◌, [], ◌∙◌, ap, refl, arith, option_map}
use Rattle.std.proofs.lemmas.Grind.{common_steps}
use Rattle.script_read.specs.{AMark, FormMark, MaybeString, one_string_wants, quoted_of, strings_of, token_of, variation_wants, VaryArguments}
use Rattle.script_read.proofs.Walked.{columns_wanted, walk_seen, took_vary_one, took_vary_all}
use Rattle.script_read.proofs.walk.Walk.vary.Goals as goal

pub returns-in_err-values-in-Quoted-clause-stuck : goal.returns-in_err-values-in-Quoted-clause-stuck
returns-in_err-values-in-Quoted-clause-stuck c h k =
    let so_far = walk_seen VaryArguments (variation_wants ++ MaybeString ∷ []) k (ap token_of c.in-Quoted.is) c.in_ok-column.ensures.sees c.advance.ensures refl in grind (arith, common_steps)

pub returns-in_err-name-in-Quoted-clause-stuck : goal.returns-in_err-name-in-Quoted-clause-stuck
returns-in_err-name-in-Quoted-clause-stuck c h k =
    let so_far = walk_seen VaryArguments (variation_wants ++ MaybeString ∷ []) k (ap token_of c.in-Quoted.is) c.in_ok-column.ensures.sees c.advance.ensures refl ∙ c.in_ok-values-in-Quoted.ensures.took.walks (MaybeString ∷ k) in
    grind (arith, common_steps)

pub returns-in_err-columns-in_default-clause-stuck : goal.returns-in_err-columns-in_default-clause-stuck
returns-in_err-columns-in_default-clause-stuck c h k =
    let so_far = columns_wanted _ k c.in_ok-column.ensures.sees c.in_default.not-Quoted in grind (arith, common_steps)

pub returns-in_err-values-in_default-clause-stuck : goal.returns-in_err-values-in_default-clause-stuck
returns-in_err-values-in_default-clause-stuck c h k =
    let so_far = columns_wanted _ k c.in_ok-column.ensures.sees c.in_default.not-Quoted ∙ c.in_ok-columns-in_default.ensures.took.walks (variation_wants ++ AMark FormMark.Comma ∷ (one_string_wants ++ k)) in
    grind (arith, common_steps)

pub returns-in_err-expect-in_default-clause-stuck : goal.returns-in_err-expect-in_default-clause-stuck
returns-in_err-expect-in_default-clause-stuck c h k =
    let so_far = columns_wanted _ k c.in_ok-column.ensures.sees c.in_default.not-Quoted ∙ c.in_ok-columns-in_default.ensures.took.walks (variation_wants ++ AMark FormMark.Comma ∷ (one_string_wants ++ k))
    ∙ c.in_ok-values-in_default.ensures.took.walks (AMark FormMark.Comma ∷ (one_string_wants ++ k)) in
    grind (arith, common_steps)

pub returns-in_err-name-in_default-clause-stuck : goal.returns-in_err-name-in_default-clause-stuck
returns-in_err-name-in_default-clause-stuck c h k =
    let so_far = columns_wanted _ k c.in_ok-column.ensures.sees c.in_default.not-Quoted ∙ c.in_ok-columns-in_default.ensures.took.walks (variation_wants ++ AMark FormMark.Comma ∷ (one_string_wants ++ k))
    ∙ c.in_ok-values-in_default.ensures.took.walks (AMark FormMark.Comma ∷ (one_string_wants ++ k)) ∙ c.in_ok-expect-in_default.ensures.took.walks (one_string_wants ++ k) in
    grind (arith, common_steps)

pub returns-in_ok-name-in-Quoted-clause-took : goal.returns-in_ok-name-in-Quoted-clause-took
returns-in_ok-name-in-Quoted-clause-took c =
    took_vary_one _ (quoted_of c.in_ok-values-in-Quoted.values) (strings_of c.in_ok-values-in-Quoted.tags) (option_map quoted_of c.in_ok-name-in-Quoted.name) (ap token_of c.in-Quoted.is) c.in_ok-column.ensures.sees c.advance.ensures
    c.in_ok-values-in-Quoted.ensures.took c.in_ok-name-in-Quoted.ensures.took

pub returns-in_ok-name-in_default-clause-took : goal.returns-in_ok-name-in_default-clause-took
returns-in_ok-name-in_default-clause-took c =
    took_vary_all (strings_of c.in_ok-columns-in_default.columns) (quoted_of c.in_ok-values-in_default.values) (strings_of c.in_ok-values-in_default.tags) (quoted_of c.in_ok-name-in_default.name) c.in_ok-column.ensures.sees c.in_default.not-Quoted
    c.in_ok-columns-in_default.ensures.took c.in_ok-values-in_default.ensures.took c.in_ok-expect-in_default.ensures.took c.in_ok-name-in_default.ensures.took
