use Rattle.std.proofs.Common.{◌<◌, length, arith, ◌∙◌, [], true, refl, sym}
use Rattle.std.specs.List.{All}
use Rattle.std.proofs.Math.Path.{subst}
use Rattle.client_model.specs.Applying.{reload_instance, live_of, give_up_all_bags}
use Rattle.client_model.specs.Runtime.{for_each}
use Rattle.page_ends.specs.Each.{StandAt}
use Rattle.page_ends.proofs.Each.{falling_within, follows_each, live_stand}
use Rattle.page_state.proofs.Following.{follows_then}
use Rattle.page_ends.proofs.Gone.{none_meant, reload_loses}
use Rattle.page_ends.proofs.Meant.{give_up_all_follows}
use Rattle.page_ends.proofs.reload.reload_all.Goals as goal

pub returns-clause-follows : goal.returns-clause-follows
returns-clause-follows g c = λ lines.
    let before = c.args.page.now in
    follows_then (λ r. for_each reload_instance (live_of (λ n. true) r) r) give_up_all_bags before c.reload_each.new.page _ lines lines lines
    (follows_each reload_instance c.deref.result.now (live_of (λ n. true)) before c.reload_each.new.page lines lines (c.reload_each.ensures.each lines)
    (λ r s. subst (λ ks. StandAt before ks (live_of (λ n. true) r)) (sym (c.deref.ensures.value ∙ c.in_ok-places.ensures)) (live_stand (λ n. true) before r s)))
    (give_up_all_follows c.reload_each.new.page _ lines refl c.new.ensures)

pub reload_each-requires : goal.reload_each-requires
reload_each-requires g c =
    let items = c.args.page.now.instances.items in
    subst (All (λ k. k < length items)) (sym (c.deref.ensures.value ∙ c.in_ok-places.ensures)) (falling_within (λ n. true) items (length items) (omega arith))

pub returns-clause-gone : goal.returns-clause-gone
returns-clause-gone g c = λ r s n.
    let before = c.args.page.now in
    none_meant reload_instance (λ m. true) before c.reload_each.new.page [] []
    (follows_each reload_instance c.deref.result.now (live_of (λ m. true)) before c.reload_each.new.page [] [] (c.reload_each.ensures.each [])
    (λ q t. subst (λ ks. StandAt before ks (live_of (λ m. true) q)) (sym (c.deref.ensures.value ∙ c.in_ok-places.ensures)) (live_stand (λ m. true) before q t)))
    (λ i t q. reload_loses i q) r s n refl
