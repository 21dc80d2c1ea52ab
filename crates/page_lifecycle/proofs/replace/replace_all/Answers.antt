use Rattle.std.proofs.Common.{◌<◌, ◌∙◌, sym, length, arith}
use Rattle.std.specs.List.{All}
use Rattle.std.proofs.Math.Path.{subst}
use Rattle.core_model.specs.Names.{has}
use Rattle.client_model.specs.Applying.{replace_instance, live_of}
use Rattle.module_language.specs.ModuleLanguage.{module_language}
use Rattle.page_plan.specs.Numbers.{new_number}
use Rattle.page_ends.specs.Each.{HasNew, StandAt}
use Rattle.page_state.specs.Standing.{name_at}
use Rattle.page_ends.proofs.Each.{all_new, falling_within, follows_each, live_stand}
use Rattle.page_ends.proofs.Gone.{none_meant, none_stays, replace_loses}
use Rattle.page_ends.proofs.Meant.{replacing_follows}
use Rattle.page_lifecycle.proofs.replace.replace_all.Goals as goal

pub replace_each-requires-clause-places : goal.replace_each-requires-clause-places
replace_each-requires-clause-places g c =
    let items = c.args.page.now.instances.items in
    subst (All (λ k. k < length items)) (sym (c.deref.ensures.value ∙ c.in_ok-places.ensures)) (falling_within (has c.args.replaced) items (length items) (omega arith))

pub replace_each-requires-clause-numbers : goal.replace_each-requires-clause-numbers
replace_each-requires-clause-numbers g c =
    let before = c.args.page.now in
    subst (All (λ k. HasNew c.args.numbers.now (name_at before k))) (sym (c.deref.ensures.value ∙ c.in_ok-places.ensures)) (all_new c.args.numbers.now (has c.args.replaced) before c.requires.numbers (length before.instances.items))

pub returns-clause-within : goal.returns-clause-within
returns-clause-within g c =
    let items = c.args.page.now.instances.items in
    subst (All (λ k. k < length items)) (sym c.in_ok-places.ensures) (falling_within (has c.args.replaced) items (length items) (omega arith))

pub returns-clause-places : goal.returns-clause-places
returns-clause-places g c = λ r s. subst (λ ks. StandAt c.args.page.now ks (live_of (has c.args.replaced) r)) (sym c.in_ok-places.ensures) (live_stand (has c.args.replaced) c.args.page.now r s)

pub returns-clause-follows : goal.returns-clause-follows
returns-clause-follows g c = λ number test is.
    let before = c.args.page.now in
    replacing_follows c.args.replaced c.args.numbers.now before c.replace_each.new.page number test c.args.lines.now.items c.replace_each.new.lines.items is
    (follows_each (replace_instance module_language (new_number c.args.numbers.now)) c.deref.result.now (live_of (has c.args.replaced)) before c.replace_each.new.page c.args.lines.now.items c.replace_each.new.lines.items c.in_ok-replace_each.ensures.each
    (λ r s. subst (λ ks. StandAt before ks (live_of (has c.args.replaced) r)) (sym (c.deref.ensures.value ∙ c.in_ok-places.ensures)) (live_stand (has c.args.replaced) before r s)))

pub returns-clause-gone : goal.returns-clause-gone
returns-clause-gone g c = λ r s n t.
    let before = c.args.page.now in
    none_meant (replace_instance module_language (new_number c.args.numbers.now)) (has c.args.replaced) before c.replace_each.new.page c.args.lines.now.items c.replace_each.new.lines.items
    (follows_each (replace_instance module_language (new_number c.args.numbers.now)) c.deref.result.now (live_of (has c.args.replaced)) before c.replace_each.new.page c.args.lines.now.items c.replace_each.new.lines.items c.in_ok-replace_each.ensures.each
    (λ q u. subst (λ ks. StandAt before ks (live_of (has c.args.replaced) q)) (sym (c.deref.ensures.value ∙ c.in_ok-places.ensures)) (live_stand (has c.args.replaced) before q u)))
    (λ i u q. replace_loses (new_number c.args.numbers.now) i (c.requires.numbers i.name u) q) r s n t

pub returns-clause-fewer : goal.returns-clause-fewer
returns-clause-fewer g c = λ r s n none.
    let before = c.args.page.now in
    none_stays (replace_instance module_language (new_number c.args.numbers.now)) (has c.args.replaced) before c.replace_each.new.page c.args.lines.now.items c.replace_each.new.lines.items
    (follows_each (replace_instance module_language (new_number c.args.numbers.now)) c.deref.result.now (live_of (has c.args.replaced)) before c.replace_each.new.page c.args.lines.now.items c.replace_each.new.lines.items c.in_ok-replace_each.ensures.each
    (λ q u. subst (λ ks. StandAt before ks (live_of (has c.args.replaced) q)) (sym (c.deref.ensures.value ∙ c.in_ok-places.ensures)) (live_stand (has c.args.replaced) before q u)))
    (λ i u q. replace_loses (new_number c.args.numbers.now) i (c.requires.numbers i.name u) q) r s n none
