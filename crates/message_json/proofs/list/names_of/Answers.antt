use Rattle.std.proofs.Common.{◌≡◌, [], ◌∷◌, ◌++◌, Some, None, drop, ◌+◌, sym, ap, ◌∙◌, rules}
use Rattle.serde_json.specs.View.{view, items_view}
use Rattle.message_json.specs.Reading.{items_in, name_in}
use Rattle.message_json.proofs.Loops.{after, one_read, one_refused, all_done}
use Rattle.message_json.proofs.list.names_of.Goals as goal

pub returns-in-None : goal.returns-in-None
returns-in-None c =
    let none : name_in (view c.item-item.result) ≡ None = search rules in
    sym (one_refused name_in c.loop-item.names.items c.args.items.now c.loop-item.item-index c.item-item.result c.loop-item-test.true c.item-item.is none) ∙ c.loop-item.invariant

pub loop-item-preserved : goal.loop-item-preserved
loop-item-preserved c =
    let some : name_in (view c.item-item.result) ≡ Some c.in-Some.name = search rules in
    let pushed : c.push.new.self.items ≡ c.loop-item.names.items ++ c.in-Some.name ∷ [] = search rules in
    ap (λ l. after l (items_in name_in (items_view (drop (c.loop-item.item-index + 1) c.args.items.now)))) pushed
    ∙ sym (one_read name_in c.loop-item.names.items c.args.items.now c.loop-item.item-index c.item-item.result c.in-Some.name c.loop-item-test.true c.item-item.is some) ∙ c.loop-item.invariant

pub returns : goal.returns
returns c = sym (all_done name_in c.loop-item.names.items c.args.items.now c.loop-item.item-index c.loop-item-test.false) ∙ c.loop-item.invariant
