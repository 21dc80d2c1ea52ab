use Rattle.std.proofs.Common.{sym, ◌∙◌}
use Rattle.client_queue.proofs.Knowing.{found}
use Rattle.client_queue.proofs.name_row.NameRow.place.Goals as goal

pub returns : goal.returns
returns c = c.copied.ensures ∙ c.get.ensures.value ∙ sym (found c.args.self.now.places.entries c.args.name.now)
