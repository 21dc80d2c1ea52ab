use Rattle.std.proofs.Common.{◌≡◌, ◌≤◌, ap, arith, length, subst, sum, sym}
use Rattle.hmr_hub.specs.Passes.{roots_of}
use Rattle.live_editor.proofs.Editors.{edits_done}
use Rattle.live_crew.specs.Doors.{AreDoors, doors_begun, doors_in}
use Rattle.live_crew.specs.Held.{HasDoors}
use Rattle.live_crew.proofs.Doors.{doors_none}
use Rattle.live_crew.proofs.Held.{fewer_doors}
use Rattle.live_server.proofs.Serving.{served_end}
use Rattle.live_server.proofs.top.run.Goals as goal

pub returns-clause-served : goal.returns-clause-served
returns-clause-served g c =
    let begun = g.P.Spawner.begun c.finish_all-passes.new.supply.spawner in
    let passes = c.finish_all-passes.result.items in
    let first = c.begin-begun.new.pass in
    let last = c.wind_up_all-record.new.pass in
    let roots = roots_of c.args.start.pass in
    let edits =
    edits_done c.new-editor.result c.run_to_end-end.new.editor first c.close-pass.result c.new-editor.ensures.pass c.new-editor.ensures.none
    c.run_to_end-end.ensures.goes c.close-pass.ensures.same c.close-pass.ensures.edited in
    let none : sum (g.P.Spawner.begun c.args.supply.now.spawner) ≡ 0 = ap (λ xs. sum xs) c.requires.none_begun in
    let same : sum begun ≡ sum (g.P.Spawner.begun c.begin-begun.new.supply.spawner) = ap (λ xs. sum xs) c.finish_all-passes.ensures.begun in
    let back : sum begun ≤ length passes = omega (arith, c.begin-begun.ensures.due, c.new-crew.ensures.none, none, same, c.finish_all-passes.ensures.due) in
    let empty : length c.new-crew.result.running.items ≡ 0 = omega (arith, c.new-crew.ensures.none) in
    let start : AreDoors g.E.Door.Door roots (g.P.Spawner.begun c.args.supply.now.spawner) c.new-crew.result.running.items =
    subst (λ b. AreDoors g.E.Door.Door roots b c.new-crew.result.running.items) (sym c.requires.none_begun) (doors_none g.E.Door.Door roots c.new-crew.result.running.items empty) in
    let doors = c.begin-begun.ensures.keeps start in
    let running = c.begin-begun.new.crew.running.items in
    let many : doors_begun begun ≤ doors_in g.E.Door.Door running =
    subst (λ b. doors_begun b ≤ doors_in g.E.Door.Door running) (sym c.finish_all-passes.ensures.begun) doors.many in
    let held : HasDoors roots (doors_begun begun) passes =
    fewer_doors roots (doors_begun begun) (doors_in g.E.Door.Door running) passes many (c.finish_all-passes.ensures.doors roots doors.fresh) in (
      last,
      served_end c.args.plan.now.roots.now begun passes edits.1.0 c.args.start.pass first c.close-pass.result last c.requires.first c.begin-begun.ensures.divided
          edits.0 edits.1.1 c.wind_up_all-record.ensures.joined back held,
      c.wind_up_all-record.ensures.recorded,
    )
