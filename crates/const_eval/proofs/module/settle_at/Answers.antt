use Rattle.std.proofs.Common.{rules, ◌≡◌, ◌<◌, length, get_or, Some, None}
use Rattle.std.specs.BTreeMap.{get, UpdatesBy}
use Rattle.std.specs.Ordering.{nat_cmp}
use Rattle.const_eval.proofs.Variables.{settled}
use Rattle.const_eval.proofs.module.settle_at.Goals as goal

pub returns-in-Some-clause-same : goal.returns-in-Some-clause-same
returns-in-Some-clause-same c =
    let lt : c.args.place < length c.args.vars.now.items = search rules in
    let is : c.index_mut.result.now ≡ get_or c.args.vars.now.items c.args.place c.index_mut.result.now = search rules in
    let was : Some c.in-Some.slot ≡ get nat_cmp c.args.given.now c.args.place = search rules in
    let updates : UpdatesBy nat_cmp (nat_cmp c.args.place) c.args.given.now c.remove.new.self None = search rules in
    settled c.in-Some.slot c.index_mut.result.now c.args.vars.now.items c.args.given.now c.remove.new.self c.args.place lt is was updates
