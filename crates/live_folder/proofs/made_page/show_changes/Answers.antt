use Rattle.std.proofs.Common.{rules, arith, ◌≡◌, ◌∷◌, [], drop, length}
use Rattle.live_folder.proofs.Added.{shown_before, shows_added}
use Rattle.live_folder.proofs.made_page.show_changes.Goals as goal

pub returns-in_ok-push : goal.returns-in_ok-push
returns-in_ok-push c =
    let shown = c.make_removed.new.changes in
    let one = c.in_ok-made.field-0 in
    let long : c.args.changes.now.len ≡ length shown = omega (arith, c.deref_mut.ensures.len, c.make_removed.auto.changes) in
    let whole = shown_before c.args.changes.now.len shown (drop (length shown) c.args.changes.now.items) (one ∷ [])
    c.push.new.self.items long c.in_ok-push.ensures.items in
    shows_added c.args.page.now c.args.text.now c.args.adds c.args.changes.now.items shown c.push.new.self.items one
    c.if-adds.true whole (search rules) c.in_ok-made.ensures
