use Rattle.std.proofs.Common.{rules, ◌≡◌, [], sym, ◌∙◌}
use Rattle.module_semantics.specs.Canon.{nth}
use Rattle.hot_printer.proofs.Params.{nth_at, nth_past}
use Rattle.hot_printer.proofs.names.put_param.Goals as goal

pub returns-in-Some : goal.returns-in-Some
returns-in-Some c =
    let is : nth c.args.params.now c.args.place ≡ c.in-Some.name.now = nth_at _ _ c.in-Some.name.now c.in-Some.ensures.lookup.3.0 ∙ sym c.in-Some.ensures.lookup.1 in
    search (rules, is)

pub returns-in-None : goal.returns-in-None
returns-in-None c =
    let is : nth c.args.params.now c.args.place ≡ [] = nth_past _ _ c.in-None.ensures.lookup.3 in
    search (rules, is)
