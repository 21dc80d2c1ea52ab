-- The jobs of doors, as they are begun and as they end.
use Rattle.std.proofs.Common.{◌≡◌, ◌≤◌, ◌+◌, ◌⊎◌, inl, inr, ℕ, zero, suc, true, false, List, [], ◌∷◌, ◌++◌, get_or, length, set, refl, ap, sym, ◌∙◌, subst, arith}
use Rattle.std.specs.Prelude.{Option, Some, None, is_some}
use Rattle.std.proofs.lemmas.Bool.{false≢true}
use Rattle.std.proofs.lemmas.List.Elements.{All-nil}
use Rattle.core_model.specs.Names.{Name}
use Rattle.doors.specs.declared.door.Door as Door
use Rattle.doors.specs.declared.visitor.Visitor as Visitor
use Rattle.transport.specs.declared.link.Link as Link
use Rattle.jobs.specs.declared.running.Running.{Running}
use Rattle.jobs.specs.Begun.{none_begun, one_more}
use Rattle.jobs.specs.Runs.{Runs}
use Rattle.hmr_hub.specs.declared.pass.Pass.{Pass}
use Rattle.hmr_hub.specs.Passes.{roots_of}
use Rattle.live_desk.specs.Sessions.{Session}
use Rattle.live_crew.specs.Attendants.{HasHeldTo, SameAttendant, is_done}
use Rattle.live_crew.specs.Doors.{AreDoors, AreFresh, Finishing, IsFresh, KeepsDoors, OutIsHeld, doors_begun, doors_in, job_of, kind_out}
use Rattle.live_crew.specs.Held.{HasDoors, IsHeld, IsUnused, TakenBack}
use Rattle.live_crew.specs.Outs.{OutOf, kind_of}
use Rattle.live_crew.specs.Splits.{Divided}
use Rattle.live_crew.specs.declared.attendant.HubAttendant.{HubAttendant}
use Rattle.live_crew.specs.declared.job.LiveJob.{LiveJob}
use Rattle.live_crew.specs.declared.job.LiveJob.TheVariants.{Worker, Door as AtDoor}
use Rattle.live_crew.specs.declared.job.LiveOut.{LiveOut}
use Rattle.live_crew.specs.declared.job.LiveOut.TheVariants.{Worker as WorkerOut, Door as DoorOut}
use Rattle.live_crew.proofs.Attendants.{going_has}
use Rattle.live_crew.proofs.Elements.{all_front, all_last, all_more, sum_last}
use Rattle.live_crew.proofs.Held.{doors_more, fewer_doors, held_none, no_doors, unused_held}

-- A start counts for a door where it is of kind 1.

first_few : (ns : List ℕ) (kind : ℕ) → get_or (set ns kind (get_or ns kind 0 + 1)) 0 0 ≤ get_or ns 0 0 + suc kind
first_few [] kind = omega arith
first_few (n ∷ ns) zero = omega arith
first_few (n ∷ ns) (suc kind) = omega arith

doors_few : (begun : List ℕ) (kind : ℕ) → doors_begun (one_more begun kind) ≤ doors_begun begun + kind
doors_few [] kind = omega arith
doors_few (n ∷ ns) zero = omega arith
doors_few (n ∷ ns) (suc kind) = first_few ns kind

-- A pass that is there.

there : (o : Option Pass) → is_some o ≡ true → (p : Pass) × (o ≡ Some p)
there (Some p) h = (p, refl)
there None h = absurd (false≢true h)

same_pass : (o : Option Pass) (p q : Pass) → o ≡ Some p → o ≡ Some q → p ≡ q
same_pass (Some r) p q e f = cc
same_pass None p q e f = absurd (cc)

-- an attendant's pass is unused, where this one is
pub fresh_pass : (roots : List Name) (o : Option Pass) (half : Pass) → o ≡ Some half → IsUnused roots half → (p : Pass) → o ≡ Some p → IsUnused roots p
fresh_pass roots o half e unused p f = subst (IsUnused roots) (same_pass o half p e f) unused

held_with : (roots : List Name) (p q : Pass) → IsUnused roots p → HasHeldTo p (Some q) → (sessions : List Session) × IsHeld roots (record { pass = q; sessions = sessions })
held_with roots p q unused h = (h.0, unused_held roots p q h.0 unused h.1)

module _ {R F : Type 0} where
  attended : (roots : List Name) (x y : HubAttendant R F) → SameAttendant x y → is_done x ≡ false → ((p : Pass) → x.pass ≡ Some p → IsUnused roots p)
      → (q : Pass) → y.pass ≡ Some q → (sessions : List Session) × IsHeld roots (record { pass = q; sessions = sessions })
  attended roots x y same ready fresh q e =
      let began = there x.pass (going_has x ready) in
      let nothing : HasHeldTo began.0 x.pass = subst (λ o. HasHeldTo began.0 o) (sym began.1) ([], held_none began.0) in
      held_with roots began.0 q (fresh began.0 began.1) (subst (λ o. HasHeldTo began.0 o) e (same.held began.0 nothing))

-- what is taken back
pub back_worker : (roots : List Name) (pass : Pass) (old new : List Pass) → new ≡ old ++ pass ∷ [] → TakenBack roots 0 old new
back_worker roots pass old new items = record { pass = pass; items = items; held = λ one. absurd (cc) }

pub back_door : (roots : List Name) (pass : Pass) (old new : List Pass) → new ≡ old ++ pass ∷ []
    → (sessions : List Session) × IsHeld roots (record { pass = pass; sessions = sessions }) → TakenBack roots 1 old new
back_door roots pass old new items held = record { pass = pass; items = items; held = λ one. held }

module _ {R D F E : Type 0} {v : Visitor.Ghosts E} {l : Link.Ghosts E} (g : Door.Ghosts D E) where
  -- What comes of a job.

  pub out_is_held : (roots : List Name) (job : LiveJob R D F E g v l) (out : LiveOut R D F) → OutOf g job out → IsFresh g roots job → OutIsHeld roots out
  out_is_held roots (Worker j) (WorkerOut board ended) o fresh = tt
  out_is_held roots (Worker j) (DoorOut door attendant ended) o fresh = absurd o
  out_is_held roots (AtDoor j) (WorkerOut board ended) o fresh = absurd o
  out_is_held roots (AtDoor j) (DoorOut door attendant ended) o fresh = attended roots j.attendant attendant o.0 j.ready fresh

  pub out_kind : (job : LiveJob R D F E g v l) (out : LiveOut R D F) → OutOf g job out → kind_out out ≡ kind_of job
  out_kind (Worker j) (WorkerOut board ended) o = refl
  out_kind (Worker j) (DoorOut door attendant ended) o = absurd o
  out_kind (AtDoor j) (WorkerOut board ended) o = absurd o
  out_kind (AtDoor j) (DoorOut door attendant ended) o = refl

  kinds_two : (job : LiveJob R D F E g v l) → (kind_of job ≡ 0) ⊎ (kind_of job ≡ 1)
  kinds_two (Worker j) = inl refl
  kinds_two (AtDoor j) = inr refl

  -- Jobs are begun.

  pub doors_none : (roots : List Name) (running : List (Running (LiveJob R D F E g v l) (LiveOut R D F))) → length running ≡ 0 → AreDoors g roots none_begun running
  doors_none roots [] e = record { many = omega arith; fresh = All-nil (λ r. IsFresh g roots (job_of r)) }
  doors_none roots (r ∷ running) e = absurd (cc)

  pub doors_started : (roots : List Name) (begun begun' : List ℕ) (xs ys : List (Running (LiveJob R D F E g v l) (LiveOut R D F))) (r : Running (LiveJob R D F E g v l) (LiveOut R D F)) (job : LiveJob R D F E g v l)
      → begun' ≡ one_more begun (kind_of job) → ys ≡ xs ++ r ∷ [] → Runs r job → IsFresh g roots job → KeepsDoors g roots begun begun' xs ys
  doors_started roots begun begun' xs ys r job more items runs fresh h = record {
    many =
        let few : doors_begun begun' ≤ doors_begun begun + kind_of job = subst (λ b. doors_begun b ≤ doors_begun begun + kind_of job) (sym more) (doors_few begun (kind_of job)) in
        let all : doors_in g ys ≡ doors_in g xs + kind_of job = sum_last (λ x. kind_of (job_of x)) xs ys r items ∙ ap (λ j. doors_in g xs + kind_of j) runs in
        omega (arith, few, all, h.many);
    fresh = all_more (λ x. IsFresh g roots (job_of x)) xs ys r items h.fresh (subst (λ j. IsFresh g roots j) (sym runs) fresh);
  }

  pub doors_same : (roots : List Name) (begun begun' : List ℕ) (xs ys : List (Running (LiveJob R D F E g v l) (LiveOut R D F))) → begun' ≡ begun → ys ≡ xs → KeepsDoors g roots begun begun' xs ys
  doors_same roots begun begun' xs ys same items h =
      subst (λ b. AreDoors g roots b ys) (sym same) (subst (λ js. AreDoors g roots begun js) (sym items) h)

  pub doors_then : (p q : Pass) (a b c : List ℕ) (xs ys zs : List (Running (LiveJob R D F E g v l) (LiveOut R D F))) → Divided p q → KeepsDoors g (roots_of p) a b xs ys → KeepsDoors g (roots_of q) b c ys zs
      → KeepsDoors g (roots_of p) a c xs zs
  doors_then p q a b c xs ys zs divided h k start = subst (λ roots. KeepsDoors g roots b c ys zs) divided.moved.roots k (h start)

  -- Jobs end.

  pub finishing_none : (roots : List Name) (running : List (Running (LiveJob R D F E g v l) (LiveOut R D F))) (passes : List Pass) → AreFresh g roots running → Finishing g roots (doors_in g running) running passes
  finishing_none roots running passes fresh = record { fresh = fresh; count = 0; whole = omega arith; doors = no_doors roots passes }

  pub finishing_one : (roots : List Name) (all : ℕ) (xs ys : List (Running (LiveJob R D F E g v l) (LiveOut R D F))) (r : Running (LiveJob R D F E g v l) (LiveOut R D F)) (old new : List Pass) → ys ≡ xs ++ r ∷ []
      → (IsFresh g roots (job_of r) → TakenBack roots (kind_of (job_of r)) old new) → Finishing g roots all ys old → Finishing g roots all xs new
  finishing_one roots all xs ys r old new items back h =
      let last : doors_in g ys ≡ doors_in g xs + kind_of (job_of r) = sum_last (λ x. kind_of (job_of x)) xs ys r items in
      record {
        fresh = all_front (λ x. IsFresh g roots (job_of x)) xs ys r items h.fresh;
        count = h.count + kind_of (job_of r);
        whole = omega (arith, h.whole, last);
        doors =
            doors_more roots h.count (kind_of (job_of r)) old new (kinds_two (job_of r))
            (back (all_last (λ x. IsFresh g roots (job_of x)) xs ys r items h.fresh)) h.doors;
      }

  pub finishing_all : (roots : List Name) (all : ℕ) (running : List (Running (LiveJob R D F E g v l) (LiveOut R D F))) (passes : List Pass) → running ≡ [] → Finishing g roots all running passes → HasDoors roots all passes
  finishing_all roots all running passes none h =
      let empty : doors_in g running ≡ 0 = ap (λ js. doors_in g js) none in
      fewer_doors roots all h.count passes (omega (arith, h.whole, empty)) h.doors
