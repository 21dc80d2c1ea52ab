use Rattle.std.proofs.Common.{◌≡◌, rules, refl, sym, subst}
use Rattle.std.specs.Arc.{arc_value}
use Rattle.hmr_hub.specs.Passes.{hub_mark}
use Rattle.live_crew.specs.Crews.{TakenIn}
use Rattle.live_crew.specs.Outs.{OutIsGood}
use Rattle.live_crew.proofs.Crews.{crew_pushed, crew_taken}
use Rattle.live_crew.proofs.Doors.{doors_same, doors_started}
use Rattle.live_crew.proofs.Outs.{out_is_good}
use Rattle.live_crew.proofs.crew.Crew.begin.Goals as goal

pub returns-in-Ok-clause-crew : goal.returns-in-Ok-clause-crew
returns-in-Ok-clause-crew g c =
    crew_pushed g.E.Door.Door _ c.args.self.now.running _ _ c.in-Ok.running c.requires.crew c.requires.place
    (record { job = c.args.job; runs = c.in-Ok.ensures.running; of = c.requires.of }) c.push_reserved.ensures.items c.push_reserved.ensures.len

pub take_in-requires-clause-good : goal.take_in-requires-clause-good
take_in-requires-clause-good g c =
    let hub : c.deref.result.now ≡ arc_value c.args.context.now.hub = search rules in
    subst (λ h. OutIsGood g.E.Door.Door (hub_mark h) c.in-Err.out) (sym hub)
    (out_is_good g.E.Door.Door (hub_mark (arc_value c.args.context.now.hub)) c.args.job c.in-Err.out c.in-Err.ensures.refused c.requires.of)

pub returns-in-Err-clause-crew : goal.returns-in-Err-clause-crew
returns-in-Err-clause-crew g c =
    let hub : c.deref.result.now ≡ arc_value c.args.context.now.hub = search rules in
    crew_taken g.E.Door.Door _ _ c.args.self.now.passes _ c.requires.crew c.requires.place (subst (λ h. TakenIn h c.args.self.now.passes c.take_in.new.passes) hub c.take_in.ensures.taken)

pub returns-in-Ok-clause-keeps : goal.returns-in-Ok-clause-keeps
returns-in-Ok-clause-keeps g c = λ roots fresh.
    doors_started g.E.Door.Door roots _ _ _ _ c.in-Ok.running c.args.job c.in-Ok.ensures.begun c.push_reserved.ensures.items c.in-Ok.ensures.running fresh

pub returns-in-Err-clause-keeps : goal.returns-in-Err-clause-keeps
returns-in-Err-clause-keeps g c = λ roots fresh. doors_same g.E.Door.Door roots _ _ _ _ c.in-Err.ensures.same refl
