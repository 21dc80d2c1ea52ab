-- What a server does between its start and its end, put together.
use Rattle.std.proofs.Common.{◌≡◌, ◌⊎◌, ◌≤◌, ℕ, Bool, true, false, List, [], refl, sym, ◌∙◌, subst, inl, inr, arith}
use Rattle.std.specs.Prelude.{Option, Result, Ok, Err, OnOk, IsOk, IsErrOf, IfErr}
use Rattle.hmr_base.specs.Causes.{Rose}
use Rattle.hmr_hub.specs.declared.pass.Pass.{Pass}
use Rattle.hmr_hub.specs.Passes.{HasTranscript, number_of}
use Rattle.hmr_hub.specs.Moves.{Moved}
use Rattle.hub_editor.specs.Edits.{Edit, Made}
use Rattle.hub_editor.specs.Editing.{Edited, HaveLastResults, SameEdits}
use Rattle.hub_editor.specs.declared.stop.EditStop.TheVariants as edits
use Rattle.crew_plans.specs.declared.cause.Cause.{Cause}
use Rattle.crew_plans.specs.declared.cause.Cause.TheVariants as causes
use Rattle.crew_plans.specs.declared.gathered.Gathered.{Gathered}
use Rattle.crew_plans.specs.Gathers.{Gathers}
use Rattle.crew_plans.specs.Lendings.{Lends}
use Rattle.crew_plans.specs.Splits.{IsSpentBy}
use Rattle.folder_edits.specs.declared.stop.ServeStop.{ServeStop}
use Rattle.folder_edits.specs.declared.stop.Limit.TheVariants as limits
use Rattle.folder_edits.specs.declared.stop.ServeStop.TheVariants.{Unwritten, Tree, Fault, NoMemory}
use Rattle.folder_edits.specs.declared.stop.ServeStop.TheVariants.{Limit as AtLimit}
use Rattle.folder_edits.specs.Causes.{IsSettleCause, IsWorkCause}
use Rattle.folder_edits.specs.Rounds.{Files, MakesEdits}
use Rattle.folder_edits.specs.Running.{Finds, Later}
use Rattle.folder_edits.specs.Serving.{End}
use Rattle.folder_edits.proofs.Causes.{settle_work}
use Rattle.folder_edits.proofs.Makings.{edited_split, makes_room, makes_same}

pub on_ok : {T E : Type 0} {A B : Type 0} (r : Result T E) → (A → B) → OnOk r A → OnOk r B
on_ok (Ok x) f a = f a
on_ok (Err x) f a = a

-- where the work after the edits ended
abbrev pub Settles : Pass → Pass → End → End → Type 0
Settles q r edited ended = IfErr ended (λ stop. ((edited ≡ Err stop) × (r ≡ q)) ⊎ (IsOk edited × IsSettleCause r stop))

abbrev stopped_by : ServeStop → End
stopped_by x = Err x

no_ok : {A : Type 0} (x : ServeStop) → IsOk (stopped_by x) → A
no_ok x o = absurd (let z : false ≡ true = o in cc)

makes_ok : (coming : Option (List Files)) (listing : Files) (script : List Edit) (many : ℕ) (made : List Made) (x y : Unit {0})
    → MakesEdits coming listing script many [] made (Ok x) → MakesEdits coming listing script many [] made (Ok y)
makes_ok coming listing script many made x y h = record {
  rounds = h.rounds;
  are = h.are;
  few = h.few;
  behind = h.behind;
  script_last = h.script_last;
  makes = h.makes;
  end = h.end;
}

-- the stop of settling is one for want of a place or of memory
settled_room : (coming : Option (List Files)) (listing : Files) (script : List Edit) (many : ℕ) (made : List Made) (r : Pass) (stop : ServeStop)
    → MakesEdits coming listing script many [] made (Ok tt) → IsSettleCause r stop → MakesEdits coming listing script many [] made (Err stop)
settled_room coming listing script many made r Unwritten h s = absurd s
settled_room coming listing script many made r Tree h s = absurd s
settled_room coming listing script many made r Fault h s = absurd s
settled_room coming listing script many made r (AtLimit limits.Text) h s = absurd s
settled_room coming listing script many made r (AtLimit limits.Names) h s = absurd s
settled_room coming listing script many made r (AtLimit limits.Sources) h s = absurd s
settled_room coming listing script many made r (AtLimit limits.Transcript) h s = makes_room coming listing script many [] made edits.Full h tt
settled_room coming listing script many made r (AtLimit limits.Passes) h s = absurd s
settled_room coming listing script many made r NoMemory h s = makes_room coming listing script many [] made edits.NoMemory h tt

makes_stopped : (coming : Option (List Files)) (listing : Files) (script : List Edit) (many : ℕ) (made : List Made) (q r : Pass) (edited : End) (stop : ServeStop)
    → MakesEdits coming listing script many [] made edited → ((edited ≡ Err stop) × (r ≡ q)) ⊎ (IsOk edited × IsSettleCause r stop) → MakesEdits coming listing script many [] made (Err stop)
makes_stopped coming listing script many made q r edited stop h (inl (e, same)) = subst (λ x. MakesEdits coming listing script many [] made x) e h
makes_stopped coming listing script many made q r (Ok x) stop h (inr (ok, s)) = settled_room coming listing script many made r stop (makes_ok coming listing script many made x tt h) s
makes_stopped coming listing script many made q r (Err x) stop h (inr (ok, s)) = no_ok x ok

-- and of the whole work
makes_settled : (coming : Option (List Files)) (listing : Files) (script : List Edit) (many : ℕ) (made : List Made) (q r : Pass) (edited ended : End)
    → MakesEdits coming listing script many [] made edited → Settles q r edited ended → OnOk ended (IsOk edited) → MakesEdits coming listing script many [] made ended
makes_settled coming listing script many made q r (Ok x) (Ok y) h s ok = makes_ok coming listing script many made x y h
makes_settled coming listing script many made q r (Err x) (Ok y) h s ok = no_ok x ok
makes_settled coming listing script many made q r edited (Err stop) h s ok = makes_stopped coming listing script many made q r edited stop h s

-- the later edits: from the pass p passes were split off, the edits were made from o to q, and what was left of
-- jobs was worked from q to r
pub later_all : (coming : Option (List Files)) (listing : Files) (script : List Edit) (many : ℕ) (p o q r : Pass) (made all : List Made) (edited ended : End)
    → number_of p ≡ 0 → HasTranscript o → Moved p o [] → ((x : Pass) → Edited x o [] → Edited x q made) → MakesEdits coming listing script many [] made edited
    → ((x : Pass) → Edited x q made → Edited x r all) → SameEdits made all → OnOk ended (IsOk edited) → Settles q r edited ended
    → OnOk ended ((x : Pass) → Edited x q made → HaveLastResults r all)
    → Later coming listing script many p r all ended
later_all coming listing script many p o q r made all edited ended zero t m told makes rest same ok settles results =
    let first = told p (edited_split p o zero t m) in
    record {
      edited = rest p first;
      makes = makes_settled coming listing script many all q r edited ended (makes_same coming listing script many [] made all edited makes same) settles ok;
      results = on_ok ended (λ f. f p first) results;
    }

-- a fault that isn't noted at the end wasn't before
unnoted : (before now : Bool) → (before ≡ true → now ≡ true) → now ≡ false → before ≡ false
unnoted true now stays none = absurd (let z : true ≡ false = sym (stays refl) ∙ none in cc)
unnoted false now stays none = refl

-- all jobs were begun
pub begun_all : (A : Type 0) (mid last : Gathered) (begun : Result (Unit {0}) Cause) (edited ended : End) (n n' p p' : ℕ) → OnOk begun (mid.fault ≡ false → A)
    → OnOk edited (IsOk begun) → OnOk ended (IsOk edited) → Gathers mid last n n' p p' → OnOk ended (last.fault ≡ false → A)
begun_all A mid last (Ok x) (Ok y) (Ok z) n n' p p' h a b g = λ none. h (unnoted mid.fault last.fault g.stays none)
begun_all A mid last (Err x) (Ok y) (Ok z) n n' p p' h a b g = absurd (let t : false ≡ true = a in cc)
begun_all A mid last begun (Err y) (Ok z) n n' p p' h a b g = absurd (let t : false ≡ true = b in cc)
begun_all A mid last begun edited (Err z) n n' p p' h a b g = tt

-- no end was refused
pub goes_all : (A : Type 0) (begun : Result (Unit {0}) Cause) (edited ended : End) → OnOk begun A → OnOk edited (IsOk begun) → OnOk ended (IsOk edited) → OnOk ended A
goes_all A (Ok x) (Ok y) (Ok z) h a b = h
goes_all A (Err x) (Ok y) (Ok z) h a b = absurd (let t : false ≡ true = a in cc)
goes_all A begun (Err y) (Ok z) h a b = absurd (let t : false ≡ true = b in cc)
goes_all A begun edited (Err z) h a b = tt

-- as many ends are out as before: those that the jobs held are given back
pub ends_all : (before mid after none due : ℕ) → none ≡ 0 → Lends none due before mid → Lends due 0 mid after → after ≡ before
ends_all before mid after none due zero begun finished =
    let f = finished before (begun before (omega (arith, zero))) in
    omega (arith, f)

-- the cause of the end of the work
cause_one : (q r : Pass) (edited : End) (stop : ServeStop) → IfErr edited (IsWorkCause q) → ((edited ≡ Err stop) × (r ≡ q)) ⊎ (IsOk edited × IsSettleCause r stop) → IsWorkCause r stop
cause_one q r edited stop h (inl (e, same)) = subst (λ x. IsWorkCause x stop) (sym same) (subst (λ x. IfErr x (IsWorkCause q)) e h)
cause_one q r edited stop h (inr s) = settle_work r stop s.1

pub cause_all : (q r : Pass) (edited ended : End) → IfErr edited (IsWorkCause q) → Settles q r edited ended → IfErr ended (IsWorkCause r)
cause_all q r edited (Ok x) h s = tt
cause_all q r edited (Err stop) h s = cause_one q r edited stop h s

-- a stop that no settling comes to
no_settling : (q r : Pass) (edited : End) (stop : ServeStop) → ¬ IsSettleCause r stop → ((edited ≡ Err stop) × (r ≡ q)) ⊎ (IsOk edited × IsSettleCause r stop) → edited ≡ Err stop
no_settling q r edited stop never (inl h) = h.0
no_settling q r edited stop never (inr h) = absurd (never h.1)

edited_stop : (q r : Pass) (edited ended : End) (stop : ServeStop) → ¬ IsSettleCause r stop → Settles q r edited ended → ended ≡ Err stop → edited ≡ Err stop
edited_stop q r edited ended stop never s e = no_settling q r edited stop never (subst (λ x. Settles q r edited x) e s)

pub edited_tree : (q r : Pass) (edited ended : End) → Settles q r edited ended → ended ≡ Err Tree → edited ≡ Err Tree
edited_tree q r edited ended s e = edited_stop q r edited ended Tree (λ h. h) s e

pub edited_fault : (q r : Pass) (edited ended : End) → Settles q r edited ended → ended ≡ Err Fault → edited ≡ Err Fault
edited_fault q r edited ended s e = edited_stop q r edited ended Fault (λ h. h) s e

-- where a fault was noted, a count rose
rose_first : (start : Gathered) (mid : Gathered) (n n' p p' : ℕ) → start.fault ≡ false → (start.fault ≡ true) ⊎ (Rose n n' ⊎ Rose p p') → Rose n n' ⊎ Rose p p'
rose_first start mid n n' p p' none (inl t) = absurd (let z : false ≡ true = sym none ∙ t in cc)
rose_first start mid n n' p p' none (inr r) = r

wider : (n m k p q r : ℕ) → m ≤ k → q ≤ r → Rose n m ⊎ Rose p q → Rose n k ⊎ Rose p r
wider n m k p q r a b (inl x) = inl (omega (arith, a, x))
wider n m k p q r a b (inr x) = inr (omega (arith, b, x))

narrower : (n m k p q r : ℕ) → n ≤ m → p ≤ q → Rose m k ⊎ Rose q r → Rose n k ⊎ Rose p r
narrower n m k p q r a b (inl x) = inl (omega (arith, a, x))
narrower n m k p q r a b (inr x) = inr (omega (arith, b, x))

rose_all : (start mid last : Gathered) (n m k p q r : ℕ) → start.fault ≡ false → Gathers start mid n m p q → Gathers mid last m k q r → (mid.fault ≡ true) ⊎ (Rose m k ⊎ Rose q r) → Rose n k ⊎ Rose p r
rose_all start mid last n m k p q r none g h (inl t) = wider n m k p q r h.net_later h.spawner_later (rose_first start mid n m p q none (g.fault t))
rose_all start mid last n m k p q r none g h (inr x) = narrower n m k p q r g.net_later g.spawner_later x

pub finds_all : (start mid last : Gathered) (ended : End) (n m k p q r : ℕ) → start.fault ≡ false → Gathers start mid n m p q → Gathers mid last m k q r → (ended ≡ Err Fault → Rose n m)
    → Finds last ended n k p r
finds_all start mid last ended n m k p q r none g h net = record {
  of_jobs = λ t. rose_all start mid last n m k p q r none g h (h.fault t);
  of_net = λ e. let rose = net e in omega (arith, rose, h.net_later);
}

-- the numbers of passes are spent
pub spent_given : (given given' : Bool) (begun : Result (Unit {0}) Cause) → given ≡ false → IsSpentBy given given' begun → begun ≡ Err causes.Spent → given' ≡ true
spent_given given given' begun none spent e = (spent none).0 (subst (λ x. IsErrOf x causes.Spent) (sym e) refl)
