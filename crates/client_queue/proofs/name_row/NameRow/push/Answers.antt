use Rattle.std.proofs.Common.{◌≡◌, ◌++◌, [], ◌∷◌, Some, length, ap, ◌∙◌, arith, rules}
use Rattle.std.specs.Prelude.{if◌then◌else◌}
use Rattle.core_model.specs.Names.{at, same_name}
use Rattle.client_queue.proofs.Knowing.{changed}
use Rattle.client_queue.proofs.Exchanging.{row_pushed}
use Rattle.client_queue.proofs.name_row.NameRow.push.Goals as goal

pub returns-clause-places : goal.returns-clause-places
returns-clause-places c =
    let at_end : c.len-place.result ≡ length c.args.self.now.names.items = omega arith in
    λ m. changed c.args.name (Some c.len-place.result) c.args.self.now.places.entries c.insert.new.self.entries c.in_ok-insert.ensures.updates.0 m
    ∙ ap (λ k. if same_name c.args.name m then Some k else at c.args.self.now.places.entries m) at_end

pub returns-clause-row : goal.returns-clause-row
returns-clause-row c =
    let copied : c.reserve.new.self.items ++ c.in_ok-copy.copy ∷ [] ≡ c.args.self.now.names.items ++ c.args.name ∷ [] = search rules in
    row_pushed c.args.self.now c.requires.row c.args.name (record { names = c.push.new.self; places = c.insert.new.self }) c.requires.unknown c.insert.ensures.ordered (c.in_ok-push.ensures.items ∙ copied) (returns-clause-places c)
