use Rattle.std.proofs.Common.{ap, ◌∙◌}
use Rattle.page_state.specs.Live.{number_of}
use Rattle.page_showing.specs.Showing.{link_by}
use Rattle.page_showing.proofs.Shown.{no_number}
use Rattle.page_showing.proofs.showing.links_of.Goals as goal

pub returns-in-None : goal.returns-in-None
returns-in-None g c = λ x. ap (λ m. number_of m x) c.new.ensures ∙ no_number x ∙ ap (λ o. link_by o x) c.in-None.ensures
