use Rattle.lemmas.proofs.{arith}
use Rattle.block_passes.proofs.Serving.{element_held, element_served, served_selected}
use Rattle.block_passes.proofs.inputs.serve_element.Goals as goal

pub test_elements-requires-clause-selected : goal.test_elements-requires-clause-selected
test_elements-requires-clause-selected g c = served_selected _ _ _ _ _ _ _ _ _ _ c.in_ok-serve_site.ensures.served

pub returns-clause-served : goal.returns-clause-served
returns-clause-served g c =
    element_served _ c.args.at.now.first c.args.at.now.count c.args.of.now.under c.args.of.now.site c.args.of.now.nth c.args.of.now.tags c.args.at.now.pass
    c.args.to.now.places c.serve_site.new.to c.test_elements.new.to c.serve_site.new.work.lanes.items c.test_elements.new.work.lanes.items
    c.args.work.now.found c.serve_site.new.work.found c.test_elements.new.work.found c.in_ok-serve_site.ensures.served c.test_elements.ensures.tested

pub returns-clause-held : goal.returns-clause-held
returns-clause-held g c =
    let a = c.in_ok-serve_site.ensures.served.lowers.falls in
    let b = c.test_elements.ensures.tested.lowers.falls in
    let l = c.requires.known.limit in
    element_held _ c.args.at.now.first c.args.at.now.count c.args.of.now.under c.args.of.now.site c.args.of.now.nth c.args.of.now.tags c.args.at.now.pass
    c.args.to.now.places c.serve_site.new.to c.test_elements.new.to c.serve_site.new.work.lanes.items c.test_elements.new.work.lanes.items
    c.args.work.now.found c.serve_site.new.work.found c.test_elements.new.work.found c.in_ok-serve_site.ensures.served c.test_elements.ensures.tested
    c.requires.site (omega (arith, a, b, l)) (rw c.test_elements.ensures.lanes c.in_ok-serve_site.ensures.held)

pub returns-in_err-serve_site-clause-plain : goal.returns-in_err-serve_site-clause-plain
returns-in_err-serve_site-clause-plain g c = λ used p u. absurd (c.in_err-serve_site.ensures.plain used p u)
