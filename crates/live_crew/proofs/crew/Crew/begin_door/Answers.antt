use Rattle.std.proofs.Common.{rules, ◌≡◌, ap, refl, ◌∙◌, subst}
use Rattle.hmr_hub.specs.Passes.{roots_of}
use Rattle.std.specs.Arc.{arc_value}
use Rattle.live_crew.specs.Crews.{TakenIn}
use Rattle.live_crew.proofs.Crews.{crew_taken}
use Rattle.live_crew.proofs.Doors.{doors_same, fresh_pass}
use Rattle.live_crew.proofs.crew.Crew.begin_door.Goals as goal

pub returns-in-Err-clause-crew : goal.returns-in-Err-clause-crew
returns-in-Err-clause-crew g c =
    let same : arc_value c.new-attendant.result.hub ≡ arc_value c.args.context.now.hub = search rules in
    crew_taken g.E.Door.Door _ c.split.new.self.running c.split.new.self.passes _ c.split.ensures.crew c.in_ok-hub.ensures.place
    (subst (λ h. TakenIn h c.split.new.self.passes c.hand_back.new.passes) same c.hand_back.ensures.taken)

pub returns-in-Ok-clause-keeps : goal.returns-in-Ok-clause-keeps
returns-in-Ok-clause-keeps g c = λ start.
    let roots = roots_of c.args.pass.now in
    let there = ap (λ a. a.pass) c.new.ensures.attendant ∙ c.new-attendant.ensures.pass in
    c.begin.ensures.keeps roots (fresh_pass roots c.new.result.attendant.pass c.in_ok-hub.half there c.in_ok-hub.ensures.unused)
    (doors_same g.E.Door.Door roots _ _ _ _ refl c.split.ensures.running start)
