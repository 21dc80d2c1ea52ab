-- What the variables of instances hold, read off what happened.
use Rattle.std.specs.Prelude.{◌≡◌, ◌==◌, [], ◌∷◌, ◌++◌}
use Rattle.std.specs.Prelude.{ℕ, Bool, true, false, List, length, map, filter, fold}
use Rattle.std.specs.Prelude.{slice_get, Contains, Option, Some, None, is_some, if◌then◌else◌}
use Rattle.std.specs.List.{list_any}
use Rattle.hmr_types.specs.declared.value.Slot.{Slot}
use Rattle.hmr_types.specs.declared.value.Slot.TheVariants.{Unset}
use Rattle.output_lines.specs.declared.words.FaultPlace.{FaultPlace}
use Rattle.output_lines.specs.declared.words.InstanceStatus.{InstanceStatus}
use Rattle.output_lines.specs.declared.words.InstanceStatus.TheVariants.{Done, Faulted, Unrun}
use Rattle.core_model.specs.Names.{Name, at}
use Rattle.client_model.specs.Language.{Language, Slots, Bag, Evaluated, Ran, slot_at}
use Rattle.client_model.specs.Instance.{Instance, Handler}
use Rattle.client_model.specs.Journal.{Happening, Journal, made, evaluated}
use Rattle.client_model.specs.Journal.{not_run, registered, no_host, ran}
use Rattle.client_model.specs.Journal.{dropped, ended, gave_up, gave_up_all, told, bag_left}
use Rattle.client_model.specs.Runtime.{Runtime}
use Rattle.client_model.specs.Running.{assigned, run_deed, TakesNothing}
use Rattle.client_model.specs.Making.{status_after}

-- The variables of instance k after one thing more happened: its evaluation makes them, and the runs of
-- its handlers assign.
abbrev pub values_after : ℕ → Slots → Happening → Slots
values_after k slots (made i) = slots
values_after k slots (evaluated j n bag e) = if j == k then e.vars else slots
values_after k slots (not_run j n) = slots
values_after k slots (registered j h) = slots
values_after k slots (no_host j n label) = slots
values_after k slots (ran j s n at bag left) = if j == k then fold assigned slots left.changes else slots
values_after k slots (dropped j s) = slots
values_after k slots (ended j n fate) = slots
values_after k slots (gave_up n) = slots
values_after k slots gave_up_all = slots
values_after k slots (told l) = slots

-- the variables of instance k after all that happened; none before its evaluation
abbrev pub values_left : Journal → ℕ → Slots
values_left journal k = fold (values_after k) [] journal

-- each instance's variables are those of its evaluation, with what its own handlers assigned
abbrev pub ValuesAreLeft : Runtime → Journal → Type 0
ValuesAreLeft r journal = (i : Instance) → Contains r.instances i → i.values ≡ values_left journal i.number

-- what an export of a linked instance holds after all that happened
abbrev pub export_left : Journal → Option ℕ → Name → Slot
export_left journal None x = Unset
export_left journal (Some k) x = slot_at (values_left journal k) x

-- what the imports of an instance hold after all that happened, by their local names
abbrev pub imports_left : Language → Journal → Instance → Slots
imports_left language journal i =
    map (λ b. (b.local, export_left journal (at i.links b.dependency) b.exported))
    (language.bindings i.name i.text)

-- instance k faulted, or wasn't run
abbrev pub is_failure_of : ℕ → Happening → Bool
is_failure_of k (made i) = false
is_failure_of k (evaluated j n bag e) = if j == k then is_some e.fault else false
is_failure_of k (not_run j n) = j == k
is_failure_of k (registered j h) = false
is_failure_of k (no_host j n label) = false
is_failure_of k (ran j s n at bag left) = false
is_failure_of k (dropped j s) = false
is_failure_of k (ended j n fate) = false
is_failure_of k (gave_up n) = false
is_failure_of k gave_up_all = false
is_failure_of k (told l) = false

-- some instance that this one is linked to had failed
abbrev pub link_failed : Journal → Instance → Bool
link_failed journal i = list_any (λ link. list_any (is_failure_of link.1) journal) i.links

-- An evaluation of instance k after all this: its text's, over its bag and over what its links hold; and
-- none of these had failed.
pub record IsEvaluationOf (language : Language) (r : Runtime) (front : Journal) (k : ℕ) (n : Name)
    (e : Evaluated) : Type 0 where
  pub instance : Instance
  pub made : Contains r.instances instance
  pub number : instance.number ≡ k
  pub name : instance.name ≡ n
  pub status : instance.status ≡ status_after e.fault
  pub links : link_failed front instance ≡ false
  pub value : e ≡
      language.evaluated n instance.text (imports_left language front instance) (bag_left front n)

-- each evaluation is one of its instance's text
abbrev pub AreEvaluations : Language → Runtime → Journal → Type 0
AreEvaluations language r journal =
    (front back : Journal) (k : ℕ) (n : Name) (before : Bag) (e : Evaluated) →
    journal ≡ front ++ evaluated k n before e ∷ back → IsEvaluationOf language r front k n e

-- instance k, made of n, isn't run, since one that it is linked to had failed; its variables are unset
pub record IsUnrun (r : Runtime) (front : Journal) (k : ℕ) (n : Name) : Type 0 where
  pub instance : Instance
  pub made : Contains r.instances instance
  pub number : instance.number ≡ k
  pub name : instance.name ≡ n
  pub status : instance.status ≡ Unrun
  pub links : link_failed front instance ≡ true
  pub unset : (x : Name) → slot_at instance.values x ≡ Unset

-- an instance isn't run only so
abbrev pub AreUnrun : Runtime → Journal → Type 0
AreUnrun r journal =
    (front back : Journal) (k : ℕ) (n : Name) → journal ≡ front ++ not_run k n ∷ back →
    IsUnrun r front k n

-- the evaluation of instance k
abbrev pub is_evaluation_of : ℕ → Happening → Bool
is_evaluation_of k (made i) = false
is_evaluation_of k (evaluated j n bag e) = j == k
is_evaluation_of k (not_run j n) = false
is_evaluation_of k (registered j h) = false
is_evaluation_of k (no_host j n label) = false
is_evaluation_of k (ran j s n at bag left) = false
is_evaluation_of k (dropped j s) = false
is_evaluation_of k (ended j n fate) = false
is_evaluation_of k (gave_up n) = false
is_evaluation_of k gave_up_all = false
is_evaluation_of k (told l) = false

-- how often an instance of this status is evaluated
abbrev pub evaluations_by : InstanceStatus → ℕ
evaluations_by Done = 1
evaluations_by Faulted = 1
evaluations_by Unrun = 0

-- each instance was evaluated once, unless it wasn't run
abbrev pub AreEvaluatedOnce : Runtime → Journal → Type 0
AreEvaluatedOnce r journal =
    (i : Instance) → Contains r.instances i →
    length (filter (is_evaluation_of i.number) journal) ≡ evaluations_by i.status

-- A run of the handler at a place of instance k after all this: of its code over the instance's own
-- variables and what its links hold, with the modules that it is told of, and over its name's bag; or of
-- its closure over the bag.
pub record IsRunOf (language : Language) (r : Runtime) (front : Journal) (k spot : ℕ) (n : Name)
    (at : FaultPlace) (left : Ran) : Type 0 where
  pub instance : Instance
  pub made : Contains r.instances instance
  pub number : instance.number ≡ k
  pub name : instance.name ≡ n
  pub handler : Handler
  pub stands : slice_get instance.handlers spot ≡ Some handler
  pub arguments : List (Option Slots)
  pub takes : TakesNothing at arguments
  pub value : left ≡
      run_deed language handler.deed (values_left front k ++ imports_left language front instance) arguments
      (bag_left front n)

-- each run is one of a handler of its instance
abbrev pub AreRuns : Language → Runtime → Journal → Type 0
AreRuns language r journal =
    (front back : Journal) (k spot : ℕ) (n : Name) (at : FaultPlace) (before : Bag) (left : Ran) →
    journal ≡ front ++ ran k spot n at before left ∷ back → IsRunOf language r front k spot n at left
