-- Jobs are begun one after another.
use Rattle.std.proofs.Common.{◌≡◌, ◌∙◌, ◌+◌, ℕ, ap, length, refl, subst, sum_by, arith}
use Rattle.std.specs.Prelude.{Result, Ok, Err, OnOk}
use Rattle.std.specs.Arc.{arc_value}
use Rattle.transport.specs.declared.link.Link as Link
use Rattle.transport.specs.declared.net.Net as Net
use Rattle.jobs.specs.declared.spawner.Spawner as Spawner
use Rattle.crew_plans.specs.Gathers.{SameGathered}
use Rattle.crew_plans.specs.Hubs.{IsPassOf, Pass}
use Rattle.crew_plans.specs.Splits.{Divided}
use Rattle.crew_plans.proofs.Counts.{begun_none, begun_then}
use Rattle.crew_plans.proofs.Faults.{gathers_same, gathers_then, unfaulted}
use Rattle.crew_plans.proofs.Passes.{divided_none, divided_then}
use Rattle.serve_crew.specs.declared.crew.Crew.{Crew}
use Rattle.serve_crew.specs.Crews.{IsCrew, ends_held}
use Rattle.serve_crew.specs.Begins.{Begins, BegunAll}

-- what follows of two facts on an Ok
pub on_ok_two : {T E A B D : Type 0} (r : Result T E) → (A → B → D) → OnOk r A → OnOk r B → OnOk r D
on_ok_two (Ok x) f a b = f a b
on_ok_two (Err e) f a b = tt

module _ {R N G C E P : Type 0} {l : Link.Ghosts E} {n : Net.Ghosts N E} {s : Spawner.Ghosts P} where
  -- a pass was split off, or none was, and no job was begun
  pub begins_split : {a b : Crew R N G C E l} {p q : Pass} (m : N) (x : P) → b.hub ≡ a.hub
      → IsCrew l (arc_value b.hub) b.running b.clients b.gathered → IsPassOf (arc_value b.hub) q → Divided p q
      → b.running.items ≡ a.running.items → SameGathered a.gathered b.gathered → b.clients ≡ a.clients → Begins n s a b p q m m x x
  begins_split m x hub crew of divided running same clients = record {
    hub = hub;
    crew_is = crew;
    of = of;
    divided = divided;
    gathers = gathers_same _ _ _ _ same;
    asked = refl;
    heard = refl;
    ends = λ others h. omega (arith, h, ap (λ xs. sum_by ends_held xs) running, ap (λ v. length v.items) clients);
    stops = λ e. refl;
  }

  -- nothing was done yet
  pub begins_none : (a : Crew R N G C E l) (p : Pass) (m : N) (x : P) → IsCrew l (arc_value a.hub) a.running a.clients a.gathered
      → IsPassOf (arc_value a.hub) p → Begins n s a a p p m m x x
  begins_none a p m x crew of = begins_split m x refl crew of (divided_none p) refl record { passes = refl; logs = refl; memory = refl; full = refl; fault = refl } refl

  pub all_none : (a : Crew R N G C E l) (m : N) (x : P) → BegunAll n s 0 0 0 a a m m x x
  all_none a m x = record { begun = λ well. begun_none (s.begun x); few = omega arith; kept = omega arith; logs = omega arith; goes = refl }

  -- of as many
  pub all_as : {a b : Crew R N G C E l} {m m' : N} {x y : P} {i j k t u v : ℕ} → i ≡ t → j ≡ u → k ≡ v
      → BegunAll n s i j k a b m m' x y → BegunAll n s t u v a b m m' x y
  all_as {a = a} {b = b} {m = m} {m' = m'} {x = x} {y = y} {i = i} {j = j} {k = k} {t = t} {u = u} {v = v} e f g h =
      subst (λ w. BegunAll n s w u v a b m m' x y) e
      (subst (λ w. BegunAll n s i w v a b m m' x y) f
      (subst (λ w. BegunAll n s i j w a b m m' x y) g h))

  module _ {a b c : Crew R N G C E l} {m m' m'' : N} {x y z : P} {q r : Pass} where
    pub begins_then : {p : Pass} → Begins n s a b p q m m' x y → n.refused m' ≡ n.refused m → Begins n s b c q r m' m'' y z
        → Begins n s a c p r m m'' x z
    begins_then {p = p} h goes more = record {
      hub = more.hub ∙ h.hub;
      crew_is = more.crew_is;
      of = more.of;
      divided = divided_then p q r h.divided more.divided;
      gathers = gathers_then _ _ _ _ _ _ _ _ _ h.gathers more.gathers;
      asked = more.asked ∙ h.asked;
      heard = more.heard ∙ h.heard;
      ends = λ others e. more.ends others (h.ends others e);
      stops = λ e. more.stops (goes ∙ e) ∙ h.stops e;
    }

    pub all_then : {i j k t u v : ℕ} → BegunAll n s i j k a b m m' x y → Begins n s b c q r m' m'' y z → BegunAll n s t u v b c m' m'' y z
        → BegunAll n s (i + t) (j + u) (k + v) a c m m'' x z
    all_then h more all = record {
      begun = λ well. begun_then _ _ _ _ _ _ _ _ _ (h.begun (unfaulted _ _ _ _ _ _ more.gathers well)) (all.begun well);
      few = omega (arith, h.few, all.few);
      kept = omega (arith, h.kept, all.kept);
      logs = omega (arith, h.logs, all.logs);
      goes = all.goes ∙ h.goes;
    }
