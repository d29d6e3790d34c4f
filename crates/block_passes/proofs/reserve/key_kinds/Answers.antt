use Rattle.lemmas.proofs.{◌≡◌, ◌<◌, ◌+◌, ◌++◌, ◌∙◌, ap, arith, length, length-append, replicate}
use Rattle.std.proofs.lemmas.List.{length-replicate}
use Rattle.graph_numbers.specs.{graph_sites}
use Rattle.block_passes.proofs.Demanding.{more_kinds, more_many}
use Rattle.block_passes.proofs.reserve.key_kinds.Goals as goal

pub loop-site-preserved : goal.loop-site-preserved
loop-site-preserved c =
    let g = c.args.graph.now in
    let inside : c.loop-site.site < length (graph_sites g) = (let a = c.loop-site-test.true in let b = c.sites-site-end.ensures in omega (arith, a, b)) in
    let are : c.push_kind.new.kinds ≡ c.loop-site.kinds ++ replicate (1 + c.count.result) c.site.result.now.kind = c.in_ok-push_kind.ensures ∙ ap (λ k. c.loop-site.kinds ++ replicate (1 + c.count.result) k) c.kind-kind.ensures in
    record {
      many = more_many g c.loop-site.site inside c.site_depends-depends.result c.site_depends-depends.ensures c.count.result c.count.ensures.members c.count.ensures.above c.site.result.now c.site.ensures c.loop-site.kinds c.loop-site.invariant.many c.push_kind.new.kinds are;
      kinds =
          more_kinds g c.loop-site.site inside c.site_depends-depends.result c.site_depends-depends.ensures c.count.result c.count.ensures.members c.count.ensures.above c.site.result.now c.site.ensures c.loop-site.kinds c.loop-site.invariant.many c.push_kind.new.kinds are
          c.loop-site.invariant.kinds;
      few =
          (let so_far = c.loop-site.invariant.few in
          let added = ap length are ∙ length-append c.loop-site.kinds (replicate (1 + c.count.result) c.site.result.now.kind) in
          let own = length-replicate (1 + c.count.result) c.site.result.now.kind in
          let bound = c.count.ensures.bound in
          omega (arith, so_far, added, own, bound));
    }
