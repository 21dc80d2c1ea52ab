use Rattle.std.proofs.Common.{◌≡◌, true, false, ap, sym, ◌∙◌}
use Rattle.page_births.specs.Births.{has_failed_link}
use Rattle.page_births.proofs.Births.{make_follows}
use Rattle.page_births.proofs.make.make.Goals as goal

pub returns-then-has_failed_link-clause-follows : goal.returns-then-has_failed_link-clause-follows
returns-then-has_failed_link-clause-follows g c = λ b is none.
    let told : c.has_failed_link.result ≡ has_failed_link c.args.page.now.instances.items c.args.birth.links = c.has_failed_link.ensures
    ∙ ap (λ cs. has_failed_link cs c.as_slice.result.now) c.deref.ensures.value ∙ ap (has_failed_link c.args.page.now.instances.items) c.as_slice.ensures in
    make_follows b c.args.birth c.args.page.now c.make_unrun.new.page c.args.lines.now.items c.make_unrun.new.lines.items is true (sym told ∙ c.if-has_failed_link.true) (c.in_ok-make_unrun.ensures.follows b is none)

pub returns-clause-follows : goal.returns-clause-follows
returns-clause-follows g c = λ b is none.
    let told : c.has_failed_link.result ≡ has_failed_link c.args.page.now.instances.items c.args.birth.links = c.has_failed_link.ensures
    ∙ ap (λ cs. has_failed_link cs c.as_slice.result.now) c.deref.ensures.value ∙ ap (has_failed_link c.args.page.now.instances.items) c.as_slice.ensures in
    make_follows b c.args.birth c.args.page.now c.make_run.new.page c.args.lines.now.items c.make_run.new.lines.items is false (sym told ∙ c.if-has_failed_link.false) (c.in_ok-make_run.ensures.follows b is none)
