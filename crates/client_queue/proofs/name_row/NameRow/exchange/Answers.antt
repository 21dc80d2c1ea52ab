use Rattle.client_queue.proofs.Exchanging.{places_exchanged, row_exchanged}
use Rattle.client_queue.proofs.name_row.NameRow.exchange.Goals as goal

pub returns-clause-places : goal.returns-clause-places
returns-clause-places c = places_exchanged c.args.self.now c.requires.row c.args.i c.args.j c.requires.i_within c.requires.j_within c.index-2.result.now c.index.result.now c.swap.new.self.items c.set_place.new.places.entries c.set_place-2.new.places.entries
    c.swap.ensures.items c.index.ensures c.index-2.ensures c.set_place.ensures.places c.set_place-2.ensures.places

pub returns-clause-row : goal.returns-clause-row
returns-clause-row c = row_exchanged c.args.self.now c.requires.row c.args.i c.args.j c.requires.i_within c.requires.j_within (record { names = c.swap.new.self; places = c.set_place-2.new.places })
    (c.set_place-2.ensures.ordered (c.set_place.ensures.ordered c.requires.row.ordered)) c.swap.ensures.items (returns-clause-places c)
