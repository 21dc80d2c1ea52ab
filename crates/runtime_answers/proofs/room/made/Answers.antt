use Rattle.std.proofs.Common.{◌∙◌, ap, sym}
use Rattle.runtime_state.specs.Standing.{count_of}
use Rattle.runtime_answers.proofs.Full.{made_none, made_some}
use Rattle.runtime_answers.proofs.room.made.Goals as goal

pub returns-in-Some-clause-made : goal.returns-in-Some-clause-made
returns-in-Some-clause-made g c = λ r k t. made_some r c.args.runtime.now _ c.count.result k c.in-Some.is t (λ p i e. c.count.ensures.made r p i e)

pub returns-in-Some-clause-count : goal.returns-in-Some-clause-count
returns-in-Some-clause-count g c = c.count.ensures.count ∙ ap count_of (sym c.in-Some.is)

pub returns-in-None-clause-made : goal.returns-in-None-clause-made
returns-in-None-clause-made g c = λ r k t. made_none r c.args.runtime.now k c.in-None.is

pub returns-in-None-clause-count : goal.returns-in-None-clause-count
returns-in-None-clause-count g c = ap count_of (sym c.in-None.is)
