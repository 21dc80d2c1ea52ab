use Rattle.std.proofs.Common.{◌<◌, length, arith, ◌∙◌, ap, sym}
use Rattle.std.specs.List.{All}
use Rattle.std.proofs.Math.Path.{subst}
use Rattle.core_model.specs.Names.{has}
use Rattle.client_model.specs.Applying.{prune_instance, live_of}
use Rattle.client_model.specs.Runtime.{for_each}
use Rattle.module_language.specs.ModuleLanguage.{module_language}
use Rattle.page_ends.specs.Each.{StandAt}
use Rattle.page_ends.proofs.Each.{falling_within, follows_each, live_stand}
use Rattle.page_state.proofs.Following.{follows_as}
use Rattle.page_ends.proofs.Meant.{live_of_as}
use Rattle.prunes_and_events.proofs.prune.prune_all.Goals as goal

pub returns-clause-follows : goal.returns-clause-follows
returns-clause-follows g c =
    let before = c.args.page.now in
    follows_as (λ r. for_each (prune_instance module_language) (live_of (has c.in_ok-set.set) r) r) (λ r. for_each (prune_instance module_language) (live_of (has c.args.names.now) r) r) before c.prune_each.new.page c.args.lines.now.items c.prune_each.new.lines.items
    (λ r s. ap (λ js. for_each (prune_instance module_language) js r) (live_of_as (has c.in_ok-set.set) (has c.args.names.now) c.in_ok-set.ensures r))
    (follows_each (prune_instance module_language) c.deref.result.now (live_of (has c.in_ok-set.set)) before c.prune_each.new.page c.args.lines.now.items c.prune_each.new.lines.items c.in_ok-prune_each.ensures.each
    (λ r s. subst (λ ks. StandAt before ks (live_of (has c.in_ok-set.set) r)) (sym (c.deref.ensures.value ∙ c.in_ok-places.ensures)) (live_stand (has c.in_ok-set.set) before r s)))

pub prune_each-requires-clause-places : goal.prune_each-requires-clause-places
prune_each-requires-clause-places g c =
    let items = c.args.page.now.instances.items in
    subst (All (λ k. k < length items)) (sym (c.deref.ensures.value ∙ c.in_ok-places.ensures)) (falling_within (has c.in_ok-set.set) items (length items) (omega arith))
