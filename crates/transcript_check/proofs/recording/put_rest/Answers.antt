use Rattle.std.proofs.Common.{◌∙◌, sym}
use Rattle.core_model.specs.Core.{core_after}
use Rattle.transcript_check.proofs.Written.{busy_client, pageless_client, resting_ends}
use Rattle.transcript_check.proofs.recording.put_rest.Goals as goal

pub returns-then-not-at_rest : goal.returns-then-not-at_rest
returns-then-not-at_rest c = λ past h.
    busy_client (core_after c.args.core.now.roots past) c.args.client c.in-Some.client c.args.out.now.items c.in-Some.is (sym (c.at_rest.ensures past h) ∙ c.if-not-at_rest.true)

pub returns-in-Some-2 : goal.returns-in-Some-2
returns-in-Some-2 c = λ past h.
    resting_ends c.put_page.result (core_after c.args.core.now.roots past) c.args.client c.in-Some.client c.in-Some-2.table c.args.out.now.items c.put_page.new.out.items c.in-Some.is
    (sym (c.at_rest.ensures past h) ∙ c.if-not-at_rest.false) (sym (c.in_ok-table.ensures.stands past h) ∙ c.in-Some-2.is) c.put_page.ensures

pub returns-in-None : goal.returns-in-None
returns-in-None c = λ past h.
    pageless_client (core_after c.args.core.now.roots past) c.args.client c.in-Some.client c.args.out.now.items c.in-Some.is (sym (c.in_ok-table.ensures.stands past h) ∙ c.in-None.is)
