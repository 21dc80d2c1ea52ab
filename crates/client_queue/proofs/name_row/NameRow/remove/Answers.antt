use Rattle.std.proofs.Common.{◌≡◌, ◌<◌, ◌-◌, None, length, ap, arith, vec_len}
use Rattle.std.proofs.lemmas.List.Edits.{length-swap}
use Rattle.client_queue.proofs.Exchanging.{length_removed, place_within, places_removed, row_removed}
use Rattle.client_queue.proofs.Knowing.{changed}
use Rattle.client_queue.proofs.name_row.NameRow.remove.Goals as goal

pub exchange-requires-clause-i_within : goal.exchange-requires-clause-i_within
exchange-requires-clause-i_within c = place_within c.args.self.now c.requires.row c.args.name.now c.args.place c.requires.there

pub overflow_sub-last : goal.overflow_sub-last
overflow_sub-last c = omega (arith, place_within c.args.self.now c.requires.row c.args.name.now c.args.place c.requires.there)

pub exchange-requires-clause-j_within : goal.exchange-requires-clause-j_within
exchange-requires-clause-j_within c = omega (arith, place_within c.args.self.now c.requires.row c.args.name.now c.args.place c.requires.there)

same_length : (c : goal.After-remove) → vec_len c.exchange.new.self.names - 1 ≡ c.len-last.result - 1
same_length c =
    let len = length-swap c.args.self.now.names.items c.args.place (c.len-last.result - 1) in
    omega (arith, len, ap length c.exchange.ensures.names)

pub returns-clause-len : goal.returns-clause-len
returns-clause-len c =
    let within : c.args.place < length c.args.self.now.names.items = place_within c.args.self.now c.requires.row c.args.name.now c.args.place c.requires.there in
    let at_last : c.len-last.result - 1 ≡ length c.args.self.now.names.items - 1 = omega arith in
    let same : vec_len c.exchange.new.self.names - 1 ≡ c.len-last.result - 1 = same_length c in
    length_removed c.args.self.now c.args.name.now c.args.place (c.len-last.result - 1) c.requires.there within at_last c.exchange.new.self c.exchange.ensures.row c.exchange.ensures.places c.exchange.ensures.names
    c.pop.new.self.items (vec_len c.exchange.new.self.names - 1) same c.pop.ensures.rest

pub returns-clause-places : goal.returns-clause-places
returns-clause-places c =
    let within : c.args.place < length c.args.self.now.names.items = place_within c.args.self.now c.requires.row c.args.name.now c.args.place c.requires.there in
    let at_last : c.len-last.result - 1 ≡ length c.args.self.now.names.items - 1 = omega arith in
    places_removed c.args.self.now c.args.name.now c.args.place (c.len-last.result - 1) c.requires.there within at_last c.exchange.new.self c.exchange.ensures.row c.exchange.ensures.places c.exchange.ensures.names
    c.remove.new.self.entries (changed c.args.name.now None c.exchange.new.self.places.entries c.remove.new.self.entries c.remove.ensures.updates.0)

pub returns-clause-row : goal.returns-clause-row
returns-clause-row c =
    let within : c.args.place < length c.args.self.now.names.items = place_within c.args.self.now c.requires.row c.args.name.now c.args.place c.requires.there in
    let at_last : c.len-last.result - 1 ≡ length c.args.self.now.names.items - 1 = omega arith in
    let same : vec_len c.exchange.new.self.names - 1 ≡ c.len-last.result - 1 = same_length c in
    row_removed c.args.self.now c.args.name.now c.args.place (c.len-last.result - 1) c.requires.there within at_last c.exchange.new.self c.exchange.ensures.row c.exchange.ensures.places c.exchange.ensures.names
    (record { names = c.pop.new.self; places = c.remove.new.self }) (vec_len c.exchange.new.self.names - 1) c.remove.ensures.ordered same c.pop.ensures.rest (changed c.args.name.now None c.exchange.new.self.places.entries c.remove.new.self.entries c.remove.ensures.updates.0)
