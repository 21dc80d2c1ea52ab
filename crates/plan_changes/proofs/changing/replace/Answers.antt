use Rattle.std.specs.Prelude.{◌&&◌}
use Rattle.std.proofs.Math.Path.{subst}
use Rattle.core_model.specs.Names.{has}
use Rattle.client_model.specs.Instance.{is_held}
use Rattle.client_model.specs.Linking.{new_names, number_after}
use Rattle.client_model.specs.Running.{drop_each}
use Rattle.client_model.specs.Runtime.{for_each}
use Rattle.page_ends.specs.Each.{FollowsEach}
use Rattle.page_state.specs.Standing.{Follows}
use Rattle.page_ends.specs.Tellings.{told}
use Rattle.plan_changes.proofs.Altering.{is_replacing, updated_changed}
use Rattle.plan_changes.proofs.changing.replace.Goals as goal

pub returns-clause-changed : goal.returns-clause-changed
returns-clause-changed g c = λ r p s u m.
    let a = c.args.page.now in
    let b = c.replace_all.new.page in
    let made = c.make_all.new.page in
    let tells = c.tell_all.new.page in
    let first = c.replace_all.new.lines.items in
    let second = c.make_all.new.lines.items in
    let third = c.tell_all.new.lines.items in
    updated_changed r p c.args.update u c.args.births.items a b made tells c.drop_all.new.page c.args.lines.now.items first second third c.in_ok-places.places.items s m
    c.in_ok-places.ensures.count
    (c.in_ok-places.ensures.follows (λ x. number_after p r) (λ x n. has p.replaced n && has (new_names p r) n) (is_replacing r p c.args.update u a))
    (λ n h. c.in_ok-places.ensures.gone r s n h)
    (λ n h. c.in_ok-places.ensures.fewer r s n h)
    (c.in_ok-places.ensures.places r s)
    c.in_ok-make_all.ensures.follows
    (subst (λ ts. Follows (for_each told ts) made tells second third) c.deref.ensures.value c.in_ok-tell_all.ensures.follows)
    (subst (λ ks. FollowsEach (λ i x. drop_each is_held i.number x) ks tells c.drop_all.new.page third third) c.deref-2.ensures.value (c.drop_all.ensures.each third))
