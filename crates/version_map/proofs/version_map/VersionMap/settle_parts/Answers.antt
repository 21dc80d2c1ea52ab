use Rattle.std.proofs.Common.{◌+◌, ap, sym, ◌∙◌}
use Rattle.std.proofs.Math.Path.{subst}
use Rattle.core_model.specs.Sources.{result_answer}
use Rattle.version_map.specs.Standing.{StandsFor, settled_as}
use Rattle.version_map.proofs.Counting.{counted_on, settled, told}
use Rattle.version_map.proofs.Standing.{counts_none, counts_served}
use Rattle.version_map.proofs.version_map.VersionMap.settle_parts.Goals as goal

pub invariant_of-self : goal.invariant_of-self
invariant_of-self c = counted_on c.self.inside c.self.invariant c.args.name.now c.args.text.items c.args.outcome c.args.ver (c.self.inside.served_no + 1) c.settle-settled.new.entries
    (counts_served _ c.self.inside.served_no (sym (told c.self.inside c.self.invariant c.args.name.now c.args.text.items c.args.outcome c.args.ver _ c.settle-settled.ensures.answer) ∙ c.in-Served.is)) c.settle-settled.ensures.entries c.requires

pub invariant_of-self-in_default : goal.invariant_of-self-in_default
invariant_of-self-in_default c = counted_on c.self.inside c.self.invariant c.args.name.now c.args.text.items c.args.outcome c.args.ver c.self.inside.served_no c.settle-settled.new.entries
    (counts_none _ c.self.inside.served_no (λ e. c.in_default.not-Served (told c.self.inside c.self.invariant c.args.name.now c.args.text.items c.args.outcome c.args.ver _ c.settle-settled.ensures.answer ∙ e))) c.settle-settled.ensures.entries c.requires

pub returns-in-Served-clause-stands : goal.returns-in-Served-clause-stands
returns-in-Served-clause-stands c = λ past h. settled c.self.inside c.self.invariant c.args.name.now c.args.text.items c.args.outcome c.args.ver (c.self.inside.served_no + 1) c.settle-settled.new.entries
    (counts_served _ c.self.inside.served_no (sym (told c.self.inside c.self.invariant c.args.name.now c.args.text.items c.args.outcome c.args.ver _ c.settle-settled.ensures.answer) ∙ c.in-Served.is)) c.settle-settled.ensures.entries past (subst (StandsFor past) (sym c.self.view_is) h)

pub returns-in-Served-clause-answer : goal.returns-in-Served-clause-answer
returns-in-Served-clause-answer c = told c.self.inside c.self.invariant c.args.name.now c.args.text.items c.args.outcome c.args.ver _ c.settle-settled.ensures.answer ∙ ap (λ s. settled_as (result_answer s c.args.name.now c.args.text.items c.args.outcome c.args.ver)) c.self.view_is

pub returns-in_default : goal.returns-in_default
returns-in_default c = record {
  stands = λ past h. settled c.self.inside c.self.invariant c.args.name.now c.args.text.items c.args.outcome c.args.ver c.self.inside.served_no c.settle-settled.new.entries
      (counts_none _ c.self.inside.served_no (λ e. c.in_default.not-Served (told c.self.inside c.self.invariant c.args.name.now c.args.text.items c.args.outcome c.args.ver _ c.settle-settled.ensures.answer ∙ e))) c.settle-settled.ensures.entries past (subst (StandsFor past) (sym c.self.view_is) h);
  answer = told c.self.inside c.self.invariant c.args.name.now c.args.text.items c.args.outcome c.args.ver _ c.settle-settled.ensures.answer ∙ ap (λ s. settled_as (result_answer s c.args.name.now c.args.text.items c.args.outcome c.args.ver)) c.self.view_is;
}
