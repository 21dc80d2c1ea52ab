use Rattle.std.proofs.Common.{sym, ◌∙◌, ap}
use Rattle.core_model.specs.Roots.{are_bad}
use Rattle.server_core.proofs.Stepping.{bad_roots, too_many, unadmitted_step}
use Rattle.server_core.proofs.page_core.Core.connect.Goals as goal

pub returns-then-are_bad : goal.returns-then-are_bad
returns-then-are_bad c = bad_roots c.args.self.now c.args.names.items (ap are_bad (sym c.deref.ensures.value) ∙ sym c.are_bad.ensures ∙ c.if-are_bad.true)

pub returns-then-is_full : goal.returns-then-is_full
returns-then-is_full c = too_many c.args.self.now c.args.names.items (ap are_bad (sym c.deref.ensures.value) ∙ sym c.are_bad.ensures ∙ c.if-are_bad.false) (sym c.is_full.ensures ∙ c.if-is_full.true)

pub returns-in_err-roots : goal.returns-in_err-roots
returns-in_err-roots c = unadmitted_step c.args.self.now c.args.names.items (ap are_bad (sym c.deref.ensures.value) ∙ sym c.are_bad.ensures ∙ c.if-are_bad.false) (sym c.is_full.ensures ∙ c.if-is_full.false) c.from_residual.result c.from_residual.ensures.0

pub returns : goal.returns
returns c = c.admit.ensures c.args.names.items (ap are_bad (sym c.deref.ensures.value) ∙ sym c.are_bad.ensures ∙ c.if-are_bad.false) c.in_ok-roots.ensures
