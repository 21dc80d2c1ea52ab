use Rattle.std.proofs.Common.{[], map, refl}
use Rattle.handler_table.specs.Shelf.{marks_of}
use Rattle.world_laws.specs.Runs.{Run}
use Rattle.hmr_world.specs.declared.world.World.{World}
use Rattle.hmr_world.proofs.Begun.{begun, begun_words, running}
use Rattle.hmr_world.proofs.world.World.new.Goals as goal

pub returns-in-Ok-clause-stands : goal.returns-in-Ok-clause-stands
returns-in-Ok-clause-stands g c =
    let made : World g.row.F.Denot =
    record {
      alloc = c.args.alloc;
      core = c.in-Ok.core;
      clients = c.new-in-Ok.result;
      jobs = c.new-in-Ok-2.result;
      shelves = c.args.shelves;
    } in
    begun c.args.roots.items c.args.shelves.items made
    c.in-Ok.ensures.roots c.in-Ok.ensures.stands c.new-in-Ok.ensures.items c.new-in-Ok-2.ensures refl

pub returns-in-Ok-clause-running : goal.returns-in-Ok-clause-running
returns-in-Ok-clause-running g c =
    let shelves = c.args.shelves in
    let run : Run = record { roots = c.args.roots.items; shelves = map marks_of shelves.items; steps = [] } in
    let made : World g.row.F.Denot =
    record {
      alloc = c.args.alloc;
      core = c.in-Ok.core;
      clients = c.new-in-Ok.result;
      jobs = c.new-in-Ok-2.result;
      shelves = shelves;
    } in
    running run made (begun c.args.roots.items shelves.items made
    c.in-Ok.ensures.roots c.in-Ok.ensures.stands c.new-in-Ok.ensures.items c.new-in-Ok-2.ensures refl)

pub returns-in-Ok-clause-words : goal.returns-in-Ok-clause-words
returns-in-Ok-clause-words g c =
    let made : World g.row.F.Denot =
    record {
      alloc = c.args.alloc;
      core = c.in-Ok.core;
      clients = c.new-in-Ok.result;
      jobs = c.new-in-Ok-2.result;
      shelves = c.args.shelves;
    } in
    begun_words (goal.F-post g) made c.new-in-Ok.ensures.items c.requires.hosts
