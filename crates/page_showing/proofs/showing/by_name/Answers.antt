use Rattle.std.proofs.Common.{◌≡◌, ◌<◌, ◌≤◌, ◌-◌, length, refl, rules, arith}
use Rattle.page_showing.proofs.Shown.{none_put, link_put}
use Rattle.page_showing.proofs.showing.by_name.Goals as goal

pub loop-left-init : goal.loop-left-init
loop-left-init c = record { within = omega arith; numbers = none_put c.args.links.now c.new-numbers.result c.new-numbers.ensures }

pub loop-left-preserved : goal.loop-left-preserved
loop-left-preserved c =
    let some : 0 < c.loop-left.left = search rules in
    let within : c.loop-left.left ≤ length c.args.links.now = c.loop-left.invariant.within in
    let named : c.in_ok-clone.field-0 ≡ c.index-links-left.result.0 = search rules in
    record {
      within = omega (arith, within);
      numbers = link_put c.args.links.now c.loop-left.left c.index-links-left.result c.in_ok-clone.field-0 c.loop-left.numbers c.put.new.self some within c.index-links-left.is named c.in_ok-put.ensures.ok c.loop-left.invariant.numbers;
    }
