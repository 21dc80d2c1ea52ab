-- What a crew keeps, job by job.
use Rattle.transport.specs.declared.link.Link as Link
use Rattle.std.proofs.Common.{◌≡◌, ◌⊎◌, inl, inr, ⊎_elim, ◌+◌, ℕ, Bool, true, false, List, [], ◌∷◌, ◌++◌, refl, ap, sym, ◌∙◌, append_assoc, subst, arith}
use Rattle.std.specs.Prelude.{Some, None, vec_len}
use Rattle.std.specs.List.{All}
use Rattle.std.specs.Arc.{arc_value}
use Rattle.std.specs.Global.{Vec}
use Rattle.std.proofs.lemmas.Bool.{or_cases}
use Rattle.std.proofs.lemmas.List.Elements.{All-append, All-cons, All-nil, All-rest}
use Rattle.hmr_base.specs.Causes.{Rose}
use Rattle.jobs.specs.declared.running.Running.{Running}
use Rattle.jobs.specs.Ends.{Finished}
use Rattle.serve_crew.specs.declared.job.ServeJob.{ServeJob}
use Rattle.serve_crew.specs.declared.job.ServeJob.TheVariants.{Worker, Session}
use Rattle.serve_crew.specs.declared.job.ServeOut.{ServeOut}
use Rattle.serve_crew.specs.declared.job.ServeOut.TheVariants.{Worker as WorkerOut, Session as SessionOut}
use Rattle.serve_crew.specs.Outs.{JobOf, OutOf, is_unrun}
use Rattle.serve_crew.proofs.Outs.{nearly_full}
use Rattle.crew_plans.specs.Hubs.{Hub, IsPassOf, Log, Pass, hub_mark, seen_of}
use Rattle.crew_plans.specs.declared.gathered.Gathered.{Gathered}
use Rattle.serve_crew.specs.Crews.{GivenUp, IsCrew, RunsOn, Worked}
use Rattle.serve_crew.specs.Ends.{IsDone, found_full, has_link_fault, is_faulty, pass_in}
use Rattle.crew_plans.specs.Gathers.{HasPlace, HasRoom, IsGathered, SomeFull, TakenIn}

-- the last of a list, and those before it
pub all_front : {X : Type 0} (P : X → Type 0) (xs ys : List X) (x : X) → ys ≡ xs ++ x ∷ [] → All P ys → All P xs
all_front P [] ys x e h = All-nil P
all_front P (z ∷ xs) ys x e h =
    let all : All P (z ∷ xs ++ x ∷ []) = subst (λ zs. All P zs) e h in
    All-cons P z xs (all 0 z (omega arith)) (all_front P xs (xs ++ x ∷ []) x refl (All-rest P z (xs ++ x ∷ []) (z ∷ xs ++ x ∷ []) refl all))

pub all_last : {X : Type 0} (P : X → Type 0) (xs ys : List X) (x : X) → ys ≡ xs ++ x ∷ [] → All P ys → P x
all_last P [] ys x e h = let all : All P (x ∷ []) = subst (λ zs. All P zs) e h in all 0 x (omega arith)
all_last P (z ∷ xs) ys x e h =
    let all : All P (z ∷ xs ++ x ∷ []) = subst (λ zs. All P zs) e h in
    all_last P xs (xs ++ x ∷ []) x refl (All-rest P z (xs ++ x ∷ []) (z ∷ xs ++ x ∷ []) refl all)

full_front : (xs ys : List Pass) → SomeFull xs → SomeFull (xs ++ ys)
full_front xs ys h = record {
  front = h.front;
  pass = h.pass;
  back = h.back ++ ys;
  whole = ap (λ zs. zs ++ ys) h.whole ∙ append_assoc h.front (h.pass ∷ h.back) ys;
  full = h.full;
}

-- what a job leaves shows where the hub was full
full_in : {R L : Type 0} (xs : List Pass) (out : ServeOut R L) → found_full out ≡ true → SomeFull (xs ++ pass_in out ∷ [])
full_in xs (WorkerOut board ended) t = record { front = xs; pass = board.pass; back = []; whole = refl; full = nearly_full (seen_of board.pass) (board.near_full t) }
full_in xs (SessionOut desk link ended) t = record { front = xs; pass = desk.pass; back = []; whole = refl; full = nearly_full (seen_of desk.pass) (desk.near_full t) }

-- why a job is faulty
faulty_out : {R L : Type 0} (out : ServeOut R L) → is_faulty out ≡ true → (has_link_fault out ≡ true) ⊎ (is_unrun out ≡ true)
faulty_out (WorkerOut board None) t = inr refl
faulty_out (WorkerOut board (Some ended)) t = absurd (let x : false ≡ true = t in cc)
faulty_out (SessionOut desk link None) t = inr refl
faulty_out (SessionOut desk link (Some ended)) t = inl t

pub out_cause : {R L : Type 0} (out : ServeOut R L) (n m p q : ℕ) → (has_link_fault out ≡ true → Rose n m) → (is_unrun out ≡ true → Rose p q)
    → is_faulty out ≡ true → Rose n m ⊎ Rose p q
out_cause out n m p q failed given_up t = ⊎_elim (λ f. inl (failed f)) (λ f. inr (given_up f)) (faulty_out out t)

-- a worker or a session was taken in
pub gathered_taken : {R L : Type 0} (hub : Hub) (out : ServeOut R L) (logs : List Log) (memory fault : Bool) (a b : Gathered) → TakenIn (pass_in out ∷ []) logs memory (found_full out) fault a b
    → IsPassOf hub (pass_in out) → IsGathered hub a → IsGathered hub b
gathered_taken hub out logs memory fault a b taken of g =
    let passes = sym taken.passes_are.items in
    record {
      of = subst (λ ps. All (IsPassOf hub) ps) passes (All-append (IsPassOf hub) a.passes.items (pass_in out ∷ []) g.of (All-cons (IsPassOf hub) (pass_in out) [] of (All-nil (IsPassOf hub))));
      full = λ t.
          subst SomeFull passes
          (⊎_elim
          (λ f. full_front a.passes.items (pass_in out ∷ []) (g.full f))
          (λ f. full_in a.passes.items out f)
          (or_cases a.full (found_full out) (sym taken.full_is ∙ t)));
    }

-- nothing of the passes changed
pub gathered_same : (hub : Hub) (a b : Gathered) → b.passes.items ≡ a.passes.items → b.full ≡ a.full → IsGathered hub a → IsGathered hub b
gathered_same hub a b passes full g = record {
  of = subst (λ ps. All (IsPassOf hub) ps) (sym passes) g.of;
  full = λ t. subst SomeFull (sym passes) (g.full (sym full ∙ t));
}

module _ {R L G : Type 0} (g : Link.Ghosts L) where
  -- what is handed back for a job
  pub done_of : (job : ServeJob R L G g) (out : ServeOut R L) → OutOf g job out → IsDone g out
  done_of (Worker j) (WorkerOut board ended) o = tt
  done_of (Worker j) (SessionOut desk link ended) o = absurd o
  done_of (Session j) (WorkerOut board ended) o = absurd o
  done_of (Session j) (SessionOut desk link ended) o = o.1

  -- its pass is of the job's hub
  pub pass_of_hub : (hub : Hub) (job : ServeJob R L G g) (out : ServeOut R L) → JobOf g (hub_mark hub) job → OutOf g job out → IsPassOf hub (pass_in out)
  pass_of_hub hub (Worker j) (WorkerOut board ended) h o = board.of_hub ∙ (ap (λ a. hub_mark (arc_value a)) o.0.hub ∙ (sym j.board.of_hub ∙ h))
  pass_of_hub hub (Worker j) (SessionOut desk link ended) h o = absurd o
  pass_of_hub hub (Session j) (WorkerOut board ended) h o = absurd o
  pass_of_hub hub (Session j) (SessionOut desk link ended) h o = desk.of_hub ∙ (ap (λ a. hub_mark (arc_value a)) o.0.hub ∙ (sym j.desk.of_hub ∙ h))

  -- a job that was waited for
  pub finished_out : (n m : ℕ) (job : ServeJob R L G g) (out : ServeOut R L) → Finished (Worked g) (GivenUp g) job out n m → OutOf g job out
  finished_out n m job out (inl o) = o.0
  finished_out n m job out (inr o) = o.0.0

  pub finished_rose : (n m : ℕ) (job : ServeJob R L G g) (out : ServeOut R L) → Finished (Worked g) (GivenUp g) job out n m → is_unrun out ≡ true → Rose n m
  finished_rose n m job out (inl o) t = absurd (let x : true ≡ false = sym t ∙ o.1 in cc)
  finished_rose n m job out (inr o) t = o.1

  -- a job was started
  pub crew_pushed : {C : Type 0} (hub : Hub) (xs ys : Vec (Running (ServeJob R L G g) (ServeOut R L))) (clients : Vec C) (a : Gathered) (x : Running (ServeJob R L G g) (ServeOut R L))
      → IsCrew g hub xs clients a → HasPlace xs a.passes → RunsOn g hub x → ys.items ≡ xs.items ++ x ∷ [] → vec_len ys ≡ vec_len xs + 1 → IsCrew g hub ys clients a
  crew_pushed hub xs ys clients a x crew place runs items len = record {
    jobs = subst (λ zs. All (RunsOn g hub) zs) (sym items) (All-append (RunsOn g hub) xs.items (x ∷ []) crew.jobs (All-cons (RunsOn g hub) x [] runs (All-nil (RunsOn g hub))));
    passes = crew.passes;
    pass_room = omega (arith, len, place.rest);
    log_room = crew.log_room;
  }

  -- a job was given up at once
  pub crew_taken : {C : Type 0} (hub : Hub) (xs : Vec (Running (ServeJob R L G g) (ServeOut R L))) (clients : Vec C) (out : ServeOut R L) (a b : Gathered) (memory fault : Bool)
      → IsCrew g hub xs clients a → HasPlace xs a.passes → TakenIn (pass_in out ∷ []) [] memory (found_full out) fault a b → b.logs ≡ a.logs → IsPassOf hub (pass_in out)
      → IsCrew g hub xs clients b
  crew_taken hub xs clients out a b memory fault crew place taken logs of = record {
    jobs = crew.jobs;
    passes = gathered_taken hub out [] memory fault a b taken of crew.passes;
    pass_room = omega (arith, taken.passes_are.count, taken.passes_are.room, place.rest);
    log_room = subst (λ v. HasRoom clients v) (sym logs) crew.log_room;
  }

  -- room was made for a job
  pub crew_room : {C : Type 0} (hub : Hub) (xs ys : Vec (Running (ServeJob R L G g) (ServeOut R L))) (clients : Vec C) (a b : Gathered)
      → IsCrew g hub xs clients a → ys.items ≡ xs.items → b.passes.items ≡ a.passes.items → b.full ≡ a.full → HasRoom ys b.passes → b.logs ≡ a.logs → IsCrew g hub ys clients b
  crew_room hub xs ys clients a b crew items passes full room logs = record {
    jobs = subst (λ zs. All (RunsOn g hub) zs) (sym items) crew.jobs;
    passes = gathered_same hub a b passes full crew.passes;
    pass_room = room;
    log_room = subst (λ v. HasRoom clients v) (sym logs) crew.log_room;
  }

  -- clients came, or were given up at once
  pub crew_clients : {C : Type 0} (hub : Hub) (xs : Vec (Running (ServeJob R L G g) (ServeOut R L))) (cs ds : Vec C) (a b : Gathered)
      → IsCrew g hub xs cs a → b.passes ≡ a.passes → b.full ≡ a.full → HasRoom ds b.logs → IsCrew g hub xs ds b
  crew_clients hub xs cs ds a b crew passes full room = record {
    jobs = crew.jobs;
    passes = gathered_same hub a b (ap (λ v. v.items) passes) full crew.passes;
    pass_room = subst (λ v. HasRoom xs v) (sym passes) crew.pass_room;
    log_room = room;
  }
