use Rattle.std.proofs.Common.{◌∙◌}
use Rattle.retained_data.proofs.ByName.{found}
use Rattle.page_state.proofs.live.LiveNumbers.get.Goals as goal

-- what the map has at the name
pub returns : goal.returns
returns c = rw (← c.self.view_is) (c.copied.ensures ∙ c.get.ensures.value ∙ found c.args.name.now c.self.inside.numbers.entries)
