use Rattle.std.proofs.Common.{◌<◌, ◌≤◌, true, length, ap, sym, arith}
use Rattle.std.proofs.lemmas.Bool.{lt-ltb}
use Rattle.std.proofs.lemmas.List.Edits.{length-swap}
use Rattle.client_queue.proofs.Exchanging.{place_within}
use Rattle.client_queue.proofs.Marking.{marked_now, stays, stays_unknown}
use Rattle.client_queue.proofs.known.KnownNames.mark.Goals as goal

pub exchange-requires-clause-i_within : goal.exchange-requires-clause-i_within
exchange-requires-clause-i_within c = place_within c.self.inside.row c.self.invariant.0 c.args.name.now c.in-Some.place (sym c.in-Some.ensures)

pub exchange-requires-clause-j_within : goal.exchange-requires-clause-j_within
exchange-requires-clause-j_within c = omega (arith, place_within c.self.inside.row c.self.invariant.0 c.args.name.now c.in-Some.place (sym c.in-Some.ensures))

pub invariant_of-self : goal.invariant_of-self
invariant_of-self c =
    let within : c.in-Some.place < length c.self.inside.row.names.items = place_within c.self.inside.row c.self.invariant.0 c.args.name.now c.in-Some.place (sym c.in-Some.ensures) in
    let len = length-swap c.self.inside.row.names.items c.in-Some.place c.self.inside.marked_count in
    (c.exchange.ensures.row, omega (arith, within, len, ap length c.exchange.ensures.names))

pub returns-then-place-self : goal.returns-then-place-self
returns-then-place-self c =
    let late : c.self.inside.marked_count ≤ c.in-Some.place = omega arith in
    rw (← c.self.view_is) (marked_now c.self.inside.row c.self.invariant.0 c.args.name.now c.in-Some.place (sym c.in-Some.ensures) c.self.inside.marked_count late c.exchange.new.self.places.entries c.exchange.ensures.places)

-- it is marked already
pub returns-else-place-self : goal.returns-else-place-self
returns-else-place-self c =
    let early : c.in-Some.place < c.self.inside.marked_count = omega arith in
    rw (← c.self.view_is) (stays c.self.inside.marked_count c.self.inside.row.places.entries c.args.name.now true c.in-Some.place (sym c.in-Some.ensures) (lt-ltb c.in-Some.place c.self.inside.marked_count early))

pub returns-in_default : goal.returns-in_default
returns-in_default c = rw (← c.self.view_is) (stays_unknown c.self.inside.marked_count c.self.inside.row.places.entries c.args.name.now true (sym c.in_default.ensures))
