-- The log of a client finds its room.
use Rattle.std.proofs.Common.{◌≡◌, Bool, true, false, List, ◌∷◌, [], refl, ◌∙◌, arith}
use Rattle.std.specs.Prelude.{◌||◌}
use Rattle.std.specs.Global.{Vec}
use Rattle.crew_plans.specs.declared.gathered.Gathered.{Gathered}
use Rattle.crew_plans.specs.Gathers.{HasPlace, HasRoom, TakenIn}
use Rattle.crew_plans.specs.Hubs.{Log, Pass}

or_false : (x : Bool) → (x || false) ≡ x
or_false true = refl
or_false false = refl

pub client_room : {C : Type 0} (cs : Vec C) (passes : List Pass) (log : Log) (memory full fault : Bool) (a b : Gathered) → HasPlace cs a.logs → TakenIn passes (log ∷ []) memory full fault a b → HasRoom cs b.logs
client_room cs passes log memory full fault a b place taken = omega (arith, taken.logs_are.count, taken.logs_are.room, place.rest)

pub full_same : (passes : List Pass) (logs : List Log) (memory fault : Bool) (a b : Gathered) → TakenIn passes logs memory false fault a b → b.full ≡ a.full
full_same passes logs memory fault a b taken = taken.full_is ∙ or_false a.full
