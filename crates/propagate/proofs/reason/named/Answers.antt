use Rattle.std.proofs.Common.{sym, ap, ◌∙◌}
use Rattle.std.specs.Prelude.{if◌then◌else◌}
use Rattle.hmr_types.specs.declared.words.ReloadCause.TheVariants.{Root, Declined}
use Rattle.propagate.specs.Passing.{ends_declining}
use Rattle.propagate.proofs.Onward.{cause_if}
use Rattle.propagate.proofs.reason.named.Goals as goal

pub returns-then-ends_declining-clause-cause : goal.returns-then-ends_declining-clause-cause
returns-then-ends_declining-clause-cause c = ap (λ b. if b then Declined else Root) (sym c.if-ends_declining.true)
    ∙ cause_if c.args.view.now c.args.path.items c.ends_declining.result (c.ends_declining.ensures ∙ ap (ends_declining c.args.view.now) c.deref.ensures.value)

pub returns-else-ends_declining-clause-cause : goal.returns-else-ends_declining-clause-cause
returns-else-ends_declining-clause-cause c = ap (λ b. if b then Declined else Root) (sym c.if-ends_declining.false)
    ∙ cause_if c.args.view.now c.args.path.items c.ends_declining.result (c.ends_declining.ensures ∙ ap (ends_declining c.args.view.now) c.deref.ensures.value)
