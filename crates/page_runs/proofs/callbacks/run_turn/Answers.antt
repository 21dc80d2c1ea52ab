use Rattle.std.proofs.Common.{◌∙◌, sym, ap, rules}
use Rattle.std.proofs.lemmas.Option.{same_Some}
use Rattle.core_model.specs.Names.{has}
use Rattle.page_runs.proofs.Turns.{passes_turn}
use Rattle.page_runs.proofs.callbacks.run_turn.Goals as goal

pub run_callback-requires-clause-lists : goal.run_callback-requires-clause-lists
run_callback-requires-clause-lists g c = λ d at. ap (λ x. has x.deps c.args.name.now) (same_Some _ _ (sym at ∙ c.callback.ensures)) ∙ search rules

pub returns-else-lists-clause-runs : goal.returns-else-lists-clause-runs
returns-else-lists-clause-runs g c = passes_turn c.args.name.now c.args.given.now c.args.place c.args.page.now c.args.turn c.callback.result.now c.args.lines.now.items c.callback.ensures (search rules)
