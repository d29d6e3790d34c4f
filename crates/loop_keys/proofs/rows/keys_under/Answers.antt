use Rattle.lemmas.proofs.{◌≡◌, ◌<◌, ◌+◌, length, ◌∙◌, ap, arith}
use Rattle.graph_numbers.specs.{graph_sites}
use Rattle.loop_keys.specs.{key}
use Rattle.loop_keys.proofs.EvaluateLaws.{more_each, none_each}
use Rattle.loop_keys.proofs.KeyLaws.{here_key, next_first, no_keys}
use Rattle.loop_keys.proofs.rows.keys_under.Goals as goal

pub overflow_add-first : goal.overflow_add-first
overflow_add-first c = let a = c.loop-site.invariant.small in let b = c.slot.ensures.bound in let d = c.loop-site-test.true in let e = c.sites-site-end.type_inv in omega (arith, a, b, d, e)

pub overflow_add-first-in-loop-site : goal.overflow_add-first-in-loop-site
overflow_add-first-in-loop-site = grind arith

pub loop-site-init : goal.loop-site-init
loop-site-init = grind (arith, none_each, no_keys)

pub loop-site-preserved : goal.loop-site-preserved
loop-site-preserved c =
    let g = c.args.graph.now in
    let s = c.loop-site.site in
    let i = c.loop-site.invariant in
    let inside : s < length (graph_sites g) = (let a = c.loop-site-test.true in let b = c.sites-site-end.ensures in omega (arith, a, b)) in
    let depends = c.site_depends-depends in
    let own : c.loop-site.first + c.slot.result ≡ key g s c.args.under = ap (λ n. c.loop-site.first + n) c.slot.ensures.value ∙ here_key g s inside depends.result depends.ensures c.loop-site.first i.next c.args.under in
    record {
      each = more_each (λ s k. k ≡ key g s c.args.under) s c.loop-site.keys i.each (c.loop-site.first + c.slot.result) _ own c.in_ok-push.ensures.ok;
      next = next_first g s inside depends.result depends.ensures c.loop-site.first i.next c.count.result c.count.ensures.members c.count.ensures.above;
      small = (let a = i.small in let b = c.count.ensures.bound in omega (arith, a, b));
    }

pub returns : goal.returns
returns = grind arith
