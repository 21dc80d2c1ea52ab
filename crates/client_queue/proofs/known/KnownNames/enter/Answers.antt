use Rattle.std.proofs.Common.{◌≡◌, None, length, rules}
use Rattle.core_model.specs.Names.{at}
use Rattle.client_queue.proofs.Marking.{entered_now, stays_known}
use Rattle.client_queue.proofs.known.KnownNames.enter.Goals as goal

pub returns-in_ok-push-clause-ok : goal.returns-in_ok-push-clause-ok
returns-in_ok-push-clause-ok c =
    let free : at c.self.inside.row.places.entries c.args.name ≡ None = search rules in
    rw (← c.self.view_is) (entered_now c.args.name c.self.inside.marked_count (length c.self.inside.row.names.items) c.self.inside.row.places.entries c.push.new.self.places.entries c.self.invariant.1 free c.in_ok-push.ensures.places)

pub returns-else-is_none-clause-ok : goal.returns-else-is_none-clause-ok
returns-else-is_none-clause-ok c = rw (← c.self.view_is) (stays_known c.self.inside.marked_count c.self.inside.row.places.entries c.args.name (search rules))
