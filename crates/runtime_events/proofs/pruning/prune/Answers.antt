use Rattle.std.proofs.Common.{[], ap, ◌∙◌}
use Rattle.std.specs.Prelude.{filter, not}
use Rattle.std.proofs.Math.Path.{subst}
use Rattle.core_model.specs.Names.{has, without_all}
use Rattle.client_model.specs.Applying.{live_of, prune_instance}
use Rattle.client_model.specs.Runtime.{for_each}
use Rattle.module_language.specs.ModuleLanguage.{module_language}
use Rattle.page_state.specs.Standing.{Follows}
use Rattle.runtime_events.proofs.Asked.{ask_plan}
use Rattle.runtime_events.proofs.Deeds.{all_pruned}
use Rattle.runtime_events.proofs.pruning.prune.Goals as goal

pub returns-clause-becomes : goal.returns-clause-becomes
returns-clause-becomes g c = λ r k s asked.
    all_pruned c.args.paths r c.args.runtime.now c.prune_all.new.page c.drop_names.new.self c.drop_forced.new.forced c.prune_all.new.lines.items k s (ask_plan r asked)
    (subst (λ names. Follows (λ r. for_each (prune_instance module_language) (live_of (has names) r) r) c.args.runtime.now.page c.prune_all.new.page [] c.prune_all.new.lines.items) c.as_slice-names.ensures
    (subst (λ told. Follows (λ r. for_each (prune_instance module_language) (live_of (has c.as_slice-names.result.now) r) r) c.args.runtime.now.page c.prune_all.new.page told c.prune_all.new.lines.items) c.new-lines.ensures.items c.in_ok-prune_all.ensures.follows))
    (c.drop_names.ensures ∙ ap (λ names. without_all names c.args.runtime.now.view) c.as_slice-names.ensures)
    (c.drop_forced.ensures ∙ ap (λ names. filter (λ n. not (has names n)) c.args.runtime.now.forced.items) c.as_slice-names.ensures)
