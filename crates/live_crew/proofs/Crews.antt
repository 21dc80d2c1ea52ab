-- What a crew keeps, job by job.
use Rattle.std.proofs.Common.{◌≡◌, ◌+◌, [], ◌∷◌, ◌++◌, sym, subst, arith}
use Rattle.std.specs.Prelude.{vec_len}
use Rattle.std.specs.List.{All}
use Rattle.std.specs.Global.{Vec}
use Rattle.doors.specs.declared.door.Door as Door
use Rattle.doors.specs.declared.visitor.Visitor as Visitor
use Rattle.transport.specs.declared.link.Link as Link
use Rattle.jobs.specs.declared.running.Running.{Running}
use Rattle.hmr_hub.specs.declared.pass.Hub.{Hub}
use Rattle.hmr_hub.specs.declared.pass.Pass.{Pass}
use Rattle.hmr_hub.specs.Passes.{IsPassOf}
use Rattle.live_crew.specs.declared.job.LiveJob.{LiveJob}
use Rattle.live_crew.specs.declared.job.LiveOut.{LiveOut}
use Rattle.live_crew.specs.Crews.{HasPlace, HasRoom, IsCrew, RunsOn, TakenIn}
use Rattle.live_crew.proofs.Elements.{all_more}

-- a pass was put to the others
pub passes_taken : (hub : Hub) (a b : Vec Pass) → TakenIn hub a b → All (IsPassOf hub) a.items → All (IsPassOf hub) b.items
passes_taken hub a b taken all = all_more (IsPassOf hub) a.items b.items taken.pass taken.items all taken.of

module _ {R D F E : Type 0} {v : Visitor.Ghosts E} {l : Link.Ghosts E} (g : Door.Ghosts D E) where
  -- a job was started
  pub crew_pushed : (hub : Hub) (xs ys : Vec (Running (LiveJob R D F E g v l) (LiveOut R D F))) (a : Vec Pass) (x : Running (LiveJob R D F E g v l) (LiveOut R D F))
      → IsCrew g hub xs a → HasPlace xs a → RunsOn g hub x → ys.items ≡ xs.items ++ x ∷ [] → vec_len ys ≡ vec_len xs + 1 → IsCrew g hub ys a
  crew_pushed hub xs ys a x crew place runs items len = record {
    jobs = all_more (RunsOn g hub) xs.items ys.items x items crew.jobs runs;
    passes_of = crew.passes_of;
    room = omega (arith, len, place.rest);
  }

  -- a pass came back at once
  pub crew_taken : (hub : Hub) (xs : Vec (Running (LiveJob R D F E g v l) (LiveOut R D F))) (a b : Vec Pass) → IsCrew g hub xs a → HasPlace xs a → TakenIn hub a b → IsCrew g hub xs b
  crew_taken hub xs a b crew place taken = record {
    jobs = crew.jobs;
    passes_of = passes_taken hub a b taken crew.passes_of;
    room = omega (arith, taken.count, taken.room, place.rest);
  }

  -- room was made for a job
  pub crew_room : (hub : Hub) (xs ys : Vec (Running (LiveJob R D F E g v l) (LiveOut R D F))) (a b : Vec Pass)
      → IsCrew g hub xs a → ys.items ≡ xs.items → b.items ≡ a.items → HasRoom ys b → IsCrew g hub ys b
  crew_room hub xs ys a b crew items passes room = record {
    jobs = subst (λ zs. All (RunsOn g hub) zs) (sym items) crew.jobs;
    passes_of = subst (λ ps. All (IsPassOf hub) ps) (sym passes) crew.passes_of;
    room = room;
  }
