use Rattle.std.proofs.Common.{◌<◌, length, arith, ◌∙◌, true, sym}
use Rattle.std.specs.Prelude.{reverse}
use Rattle.std.specs.List.{All}
use Rattle.std.proofs.lemmas.List.Sorted.{All-permutation, IsPermutation-reverse}
use Rattle.std.proofs.Math.Path.{subst}
use Rattle.client_model.specs.Applying.{live_of}
use Rattle.client_model.specs.Firing.{hear_event}
use Rattle.module_language.specs.ModuleLanguage.{module_language}
use Rattle.page_ends.specs.Each.{StandAt, live_places}
use Rattle.page_ends.proofs.Each.{falling_within, follows_each, live_stand, stand_reverse}
use Rattle.prunes_and_events.proofs.hear.hear_all.Goals as goal

pub returns-clause-follows : goal.returns-clause-follows
returns-clause-follows g c =
    let before = c.args.page.now in
    follows_each (hear_event module_language c.args.event.now c.args.value.now) c.deref.result.now (λ r. reverse (live_of (λ n. true) r)) before c.hear_each.new.page c.args.lines.now.items c.hear_each.new.lines.items c.in_ok-hear_each.ensures.each
    (λ r s. subst (λ ks. StandAt before ks (reverse (live_of (λ n. true) r))) (sym (c.deref.ensures.value ∙ c.in_ok-places.ensures)) (stand_reverse before (live_places (λ n. true) before) (live_of (λ n. true) r) (live_stand (λ n. true) before r s)))

pub hear_each-requires-clause-places : goal.hear_each-requires-clause-places
hear_each-requires-clause-places g c =
    let items = c.args.page.now.instances.items in
    subst (All (λ k. k < length items)) (sym (c.deref.ensures.value ∙ c.in_ok-places.ensures)) (All-permutation (λ k. k < length items) (live_places (λ n. true) c.args.page.now) (reverse (live_places (λ n. true) c.args.page.now)) (IsPermutation-reverse (live_places (λ n. true) c.args.page.now)) (falling_within (λ n. true) items (length items) (omega arith)))
