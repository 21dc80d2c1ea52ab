use Rattle.std.proofs.Common.{ap, ◌∙◌}
use Rattle.std.specs.Global.{Vec}
use Rattle.std.proofs.Math.Path.{subst}
use Rattle.core_model.specs.Names.{Name}
use Rattle.plan_steps.specs.Applying.{IsTurned}
use Rattle.plan_steps.proofs.Finishing.{found_applied, none_found, room_is}
use Rattle.plan_steps.proofs.applying.apply.Goals as goal

pub turned-requires : goal.turned-requires
turned-requires g c = room_is c.args.runtime.now c.requires.room

pub returns-in_ok-lines-in-Some-clause-becomes : goal.returns-in_ok-lines-in-Some-clause-becomes
returns-in_ok-lines-in-Some-clause-becomes g c = λ r k s t.
    let h = c.args.runtime.now in
    found_applied r h c.in-Some.found c.apply_to.new.page c.turned.new.view c.as_slice-forced.result.now c.put-in-Some.new.place c.put.new.place c.in_ok-lines-in-Some.lines.items k s t
    (λ u f. subst (IsTurned u h.page h.view c.turned.new.view c.as_slice-forced.result.now) c.in-Some.is (c.in_ok-found.ensures.turned u f)) c.as_slice-forced.ensures.value
    (λ p found. c.in_ok-lines-in-Some.ensures.applied r p k.page found) (ap (λ (names : Vec Name). names.items) c.put-in-Some.ensures ∙ c.new.ensures.items) c.put.ensures

pub returns-in-None-clause-becomes : goal.returns-in-None-clause-becomes
returns-in-None-clause-becomes g c = λ r k s t.
    let h = c.args.runtime.now in
    none_found r h c.turned.new.view c.as_slice-forced.result.now k s t
    (λ u f. subst (IsTurned u h.page h.view c.turned.new.view c.as_slice-forced.result.now) c.in-None.is (c.in_ok-found.ensures.turned u f)) c.as_slice-forced.ensures.value
