use Rattle.std.proofs.Common.{◌<◌, ◌≤◌, ◌-◌, false, length, ap, sym, ◌∙◌, arith}
use Rattle.core_model.specs.Names.{at}
use Rattle.client_queue.specs.Queue.{mark_where_known}
use Rattle.client_queue.specs.Row.{mark_of, marks_of}
use Rattle.client_queue.proofs.Exchanging.{place_within}
use Rattle.client_queue.proofs.Marking.{at_name, left_out, left_unknown, marks_at, removed_now, unmarked_place}
use Rattle.client_queue.proofs.known.KnownNames.leave.Goals as goal

-- the name is behind the marked ones
behind : (c : goal.After-remove) → c.self.inside.marked_count ≤ c.in-Some.place
behind c =
    let w = mark_where_known false (at c.args.self.now c.args.name.now) in
    unmarked_place c.self.inside.marked_count c.self.inside.row.places.entries c.args.name.now c.in-Some.place (at c.args.self.now c.args.name.now) (sym c.in-Some.ensures)
    (ap (λ rows. at rows c.args.name.now) c.self.view_is ∙ at_name c.args.name.now w c.args.self.now c.unmark.new.self c.unmark.ensures)

pub invariant_of-self : goal.invariant_of-self
invariant_of-self c =
    let within : c.in-Some.place < length c.self.inside.row.names.items = place_within c.self.inside.row c.self.invariant.0 c.args.name.now c.in-Some.place (sym c.in-Some.ensures) in
    (c.remove.ensures.row, omega (arith, within, behind c, c.remove.ensures.len))

pub returns-in-Some : goal.returns-in-Some
returns-in-Some c =
    let n = c.args.name.now in
    let within : c.in-Some.place < length c.self.inside.row.names.items = place_within c.self.inside.row c.self.invariant.0 n c.in-Some.place (sym c.in-Some.ensures) in
    left_out n (mark_where_known false (at c.args.self.now n)) c.args.self.now c.unmark.new.self c.unmark.ensures (marks_of c.self.inside.marked_count c.remove.new.self.places.entries)
    (rw (← c.self.view_is) (removed_now c.self.inside.row c.self.invariant.0 n c.in-Some.place (sym c.in-Some.ensures) (length c.self.inside.row.names.items - 1) c.self.inside.marked_count (behind c) (omega arith) c.remove.new.self.places.entries c.remove.ensures.places))

pub returns-in_default : goal.returns-in_default
returns-in_default c =
    let n = c.args.name.now in
    left_unknown n (mark_where_known false (at c.args.self.now n)) c.args.self.now c.unmark.new.self c.unmark.ensures
    (ap (λ rows. at rows n) (sym c.self.view_is) ∙ marks_at c.self.inside.marked_count c.self.inside.row.places.entries n ∙ ap (mark_of c.self.inside.marked_count) (sym c.in_default.ensures))
