-- How the ends of connections that a net has lent add up.
use Rattle.std.proofs.Common.{◌≡◌, ℕ, ◌+◌, ◌-◌, Bool, true, false, List, [], ◌∷◌, ◌++◌, sum_by, refl, ap, ◌∙◌, arith}
use Rattle.std.specs.Prelude.{◌||◌, Result, Ok, Err, OnOk}
use Rattle.std.proofs.lemmas.List.Sums.{sum_by-append, sum_by-cons}
use Rattle.transport.specs.declared.link.Link as Link
use Rattle.transport.specs.Lending.{HasGiven}
use Rattle.serve_crew.specs.declared.job.ServeJob.{ServeJob}
use Rattle.serve_crew.specs.declared.job.ServeJob.TheVariants.{Worker, Session}
use Rattle.serve_crew.specs.declared.job.ServeOut.{ServeOut}
use Rattle.serve_crew.specs.declared.job.ServeOut.TheVariants.{Worker as WorkerOut, Session as SessionOut}
use Rattle.serve_crew.specs.Outs.{OutOf}
use Rattle.serve_crew.specs.Crews.{ends_of}
use Rattle.serve_crew.specs.Ends.{ends_back}
use Rattle.crew_plans.specs.Lendings.{Lends}

-- an end that was in hand is due of one more job
pub lends_on : (a e b l m : ℕ) → b ≡ a + e → m ≡ l → Lends (a + e) b l m
lends_on a e b l m due lent = λ others h. omega (arith, due, lent, h)

-- what a job had in hand was taken back
pub lends_back_of : (a e f l m : ℕ) → f ≡ e → m ≡ l - f → Lends (a + e) a l m
lends_back_of a e f l m same back = λ others h. omega (arith, same, back, h)

or_false : (x y : Bool) → y ≡ false → (x || y) ≡ x
or_false true y h = refl
or_false false y h = h

-- an end isn't late where none was refused
pub given_late : (l m : ℕ) (r s t u : Bool) → HasGiven l m r s t u → r ≡ false → u ≡ t
given_late l m r s t u given h = given.late_is ∙ or_false t r h

-- what holds at all holds of an Ok
pub ok_of : {T E A : Type 0} (r : Result T E) → A → OnOk r A
ok_of (Ok x) a = a
ok_of (Err e) a = tt

-- the last of a list
pub sum_last : {X : Type 0} (f : X → ℕ) (xs ys : List X) (x : X) → ys ≡ xs ++ x ∷ [] → sum_by f ys ≡ sum_by f xs + f x
sum_last f xs ys x e = ap (λ zs. sum_by f zs) e ∙ omega (arith, sum_by-append f xs (x ∷ []), sum_by-cons f x [])

-- a job hands back what it had in hand
pub back_of : {R L G : Type 0} (g : Link.Ghosts L) (job : ServeJob R L G g) (out : ServeOut R L) → OutOf g job out → ends_back out ≡ ends_of job
back_of g (Worker j) (WorkerOut board ended) o = refl
back_of g (Worker j) (SessionOut desk link ended) o = absurd o
back_of g (Session j) (WorkerOut board ended) o = absurd o
back_of g (Session j) (SessionOut desk link ended) o = refl
