use Rattle.std.proofs.Common.{◌<◌, ◌≤◌, false, sym, arith}
use Rattle.std.proofs.lemmas.Bool.{le-ltb}
use Rattle.client_queue.proofs.Marking.{stays, stays_unknown, unmarked_now}
use Rattle.client_queue.proofs.known.KnownNames.unmark.Goals as goal

pub returns-then-place-self : goal.returns-then-place-self
returns-then-place-self c =
    let early : c.in-Some.place < c.self.inside.marked_count = omega arith in
    rw (← c.self.view_is) (unmarked_now c.self.inside.row c.self.invariant.0 c.args.name.now c.in-Some.place (sym c.in-Some.ensures) c.self.inside.marked_count early c.exchange.new.self.places.entries c.exchange.ensures.places)

-- it isn't marked
pub returns-else-place-self : goal.returns-else-place-self
returns-else-place-self c =
    let late : c.self.inside.marked_count ≤ c.in-Some.place = omega arith in
    rw (← c.self.view_is) (stays c.self.inside.marked_count c.self.inside.row.places.entries c.args.name.now false c.in-Some.place (sym c.in-Some.ensures) (le-ltb c.in-Some.place c.self.inside.marked_count late))

pub returns-in_default : goal.returns-in_default
returns-in_default c = rw (← c.self.view_is) (stays_unknown c.self.inside.marked_count c.self.inside.row.places.entries c.args.name.now false (sym c.in_default.ensures))
