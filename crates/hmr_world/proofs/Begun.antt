-- A world before its first step.
use Rattle.std.proofs.Common.{◌≡◌, List, [], refl, sym, arith}
use Rattle.std.specs.Prelude.{map}
use Rattle.std.proofs.Math.Path.{subst}
use Rattle.core_model.specs.Names.{Name}
use Rattle.handler_table.specs.Held.{Answers}
use Rattle.handler_table.specs.Shelf.{marks_of}
use Rattle.server_core.specs.Kept as cores
use Rattle.world_laws.specs.Runs.{Run}
use Rattle.hmr_world.specs.Clients.{AreOpen}
use Rattle.hmr_world.specs.Clients as clients
use Rattle.world_parts.specs.Shelves.{AreHosts, AreShelves, Shelves}
use Rattle.hmr_world.specs.Standing.{IsRunning, KeepsWords, StandsFor}
use Rattle.hmr_world.specs.declared.world.World.{World}
use Rattle.world_parts.proofs.Shelving.{all_there}

none_open : (F : Type 0) → AreOpen {F = F} [] []
none_open F i = tt

pub begun : {F : Type 0} (roots : List Name) (shelves : Shelves F) (world : World F)
    → world.core.roots ≡ roots → cores.StandsFor [] world.core → world.clients.items ≡ [] → world.jobs ≡ []
    → world.shelves.items ≡ shelves
    → StandsFor (record { roots = roots; shelves = map marks_of shelves; steps = [] }) world
begun {F} roots shelves world e core none jobs same = record {
  went = tt;
  has = record {
    roots_are = e;
    core = record { past = []; stands = core; is = refl };
    clients = subst (AreOpen []) (sym none) (none_open F);
    jobs = jobs;
    shelves_are = subst (AreShelves 0 (map marks_of shelves)) (sym same) (all_there shelves);
  };
}

pub running : {F : Type 0} (run : Run) (world : World F) → StandsFor run world → IsRunning world
running run world h = record { run = run; stands = h }

pub begun_words : {F : Type 0} (answers : Answers F) (world : World F) → world.clients.items ≡ []
    → AreHosts answers world.shelves.items → KeepsWords answers world
begun_words answers world none hosts =
    record {
      clients = subst (clients.KeepWords answers) (sym none) (λ k d h. absurd (omega (arith, h)));
      shelves = hosts;
    }
