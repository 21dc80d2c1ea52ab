use Rattle.std.proofs.Common.{◌∷◌, [], ap, arith, length, rules}
use Rattle.std.proofs.lemmas.List.{length-append}
use Rattle.crew_plans.specs.Gathers.{HasPlace}
use Rattle.client_jobs.proofs.Logs.{client_room, full_same}
use Rattle.client_jobs.proofs.beginning.begin_client.Goals as goal

pub returns-in-Err-clause-room : goal.returns-in-Err-clause-room
returns-in-Err-clause-room g c =
    let place : HasPlace c.reserve_place.new.running c.reserve_place.new.left = search rules in
    client_room _ _ _ _ _ _ _ _ place c.take_client.ensures.taken

pub returns-in-Err-clause-full : goal.returns-in-Err-clause-full
returns-in-Err-clause-full g c = full_same _ _ _ _ _ _ c.take_client.ensures.taken

pub returns-in-Ok-clause-ends : goal.returns-in-Ok-clause-ends
returns-in-Ok-clause-ends g c =
    λ others h.
    omega (arith, h, ap (λ xs. length xs) c.push_reserved.ensures.items, ap (λ xs. length xs) c.reserve_place.ensures.running, length-append c.reserve_place.new.running.items (c.in-Ok.running ∷ []))

pub returns-in-Err-clause-ends : goal.returns-in-Err-clause-ends
returns-in-Err-clause-ends g c = λ others h. omega (arith, h, c.take_client.ensures.lent, ap (λ xs. length xs) c.reserve_place.ensures.running)
