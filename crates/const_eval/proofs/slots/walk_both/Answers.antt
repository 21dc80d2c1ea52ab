use Rattle.std.proofs.Common.{rules, ◌≡◌, Some, None}
use Rattle.const_eval.specs.Places.{place_among}
use Rattle.const_eval.proofs.Lookups.{place_in_first, place_in_none, place_in_second}
use Rattle.const_eval.proofs.slots.walk_both.Goals as goal

pub returns-in-Some : goal.returns-in-Some
returns-in-Some c =
    let is : Some c.in-Some.place ≡ place_among c.args.name.now c.args.first.now = search rules in
    place_in_first c.args.name.now c.args.first.now c.args.second.now c.in-Some.place is

pub returns-in-Some-walk_to : goal.returns-in-Some-walk_to
returns-in-Some-walk_to c =
    let none : None ≡ place_among c.args.name.now c.args.first.now = search rules in
    let is : Some c.in-Some-walk_to.place ≡ place_among c.args.name.now c.args.second.now = search rules in
    place_in_second c.args.name.now c.args.first.now c.args.second.now c.in-Some-walk_to.place none is

pub returns-in-None-walk_to : goal.returns-in-None-walk_to
returns-in-None-walk_to c =
    let none : None ≡ place_among c.args.name.now c.args.first.now = search rules in
    let is : None ≡ place_among c.args.name.now c.args.second.now = search rules in
    place_in_none c.args.name.now c.args.first.now c.args.second.now none is
