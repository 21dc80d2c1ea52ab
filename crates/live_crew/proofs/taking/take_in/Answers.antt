use Rattle.std.proofs.Common.{subst, sym}
use Rattle.live_crew.specs.Doors.{OutIsHeld, kind_out}
use Rattle.live_crew.specs.Held.{TakenBack}
use Rattle.live_crew.proofs.Doors.{back_door, back_worker}
use Rattle.live_crew.proofs.taking.take_in.Goals as goal

pub returns-in-Worker-clause-back : goal.returns-in-Worker-clause-back
returns-in-Worker-clause-back g c = λ roots held.
    subst (λ out. TakenBack roots (kind_out out) c.args.passes.now.items c.put_pass.new.passes.items) (sym c.in-Worker.is)
    (back_worker roots c.into_pass.result c.args.passes.now.items c.put_pass.new.passes.items c.put_pass.ensures.items)

pub returns-in-Door-clause-back : goal.returns-in-Door-clause-back
returns-in-Door-clause-back g c = λ roots held.
    let sessions = subst (λ out. OutIsHeld roots out) c.in-Door.is held in
    subst (λ out. TakenBack roots (kind_out out) c.args.passes.now.items c.put_pass-in-Door.new.passes.items) (sym c.in-Door.is)
    (back_door roots c.into_pass-in-Door.result c.args.passes.now.items c.put_pass-in-Door.new.passes.items c.put_pass-in-Door.ensures.items
    (sessions c.into_pass-in-Door.result c.into_pass-in-Door.ensures.pass))
