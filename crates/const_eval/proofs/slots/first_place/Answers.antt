use Rattle.std.proofs.Common.{rules, ◌≡◌, ◌++◌}
use Rattle.const_eval.specs.Places.{place_among}
use Rattle.const_eval.proofs.Lookups.{index_tells, place_there}
use Rattle.const_eval.proofs.slots.first_place.Goals as goal

pub returns-in-Some-clause-there : goal.returns-in-Some-clause-there
returns-in-Some-clause-there c =
    let is : c.copied.result ≡ place_among c.args.name.now (c.args.first.now ++ c.args.second.now) = search (rules, index_tells) in
    place_there c.args.name.now (c.args.first.now ++ c.args.second.now) c.copied.result is

pub returns-in-None-clause-there : goal.returns-in-None-clause-there
returns-in-None-clause-there c =
    let is : c.walk_both.result ≡ place_among c.args.name.now (c.args.first.now ++ c.args.second.now) = search rules in
    place_there c.args.name.now (c.args.first.now ++ c.args.second.now) c.walk_both.result is
