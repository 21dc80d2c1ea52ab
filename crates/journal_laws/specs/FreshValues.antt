-- What the variables of a page hold that is loaded anew: each module of the fresh load evaluated once, after
-- those that it imports, with an empty bag.
use Rattle.std.specs.Prelude.{◌≡◌, ℕ, suc, Bool, true, false, not, List, [], ◌∷◌, ◌++◌, length, map, fold}
use Rattle.std.specs.Prelude.{Contains, Option, Some, None, is_some, if◌then◌else◌}
use Rattle.std.specs.List.{list_any}
use Prim.{⊥}
use Rattle.hmr_types.specs.declared.value.Slot.{Slot}
use Rattle.hmr_types.specs.declared.value.Slot.TheVariants.{Unset}
use Rattle.output_lines.specs.declared.words.FaultPlace.{FaultPlace}
use Rattle.output_lines.specs.declared.words.InstanceStatus.{InstanceStatus}
use Rattle.output_lines.specs.declared.words.InstanceStatus.TheVariants.{Unrun}
use Rattle.core_model.specs.Names.{Name, has, at}
use Rattle.core_model.specs.Paths.{Reaches}
use Rattle.core_model.specs.Sources.{Serving}
use Rattle.core_model.specs.FreshLoad.{Served, imports, imports_in, imported_by_served, reached_by}
use Rattle.client_model.specs.Language.{Language, Slots, Bag, Evaluated, Ran, slot_at}
use Rattle.client_model.specs.Instance.{Instance, is_done_status, is_live, numbered, live_at}
use Rattle.client_model.specs.Journal.{Journal, ran}
use Rattle.client_model.specs.Runtime.{Runtime}
use Rattle.client_model.specs.Making.{status_after}
use Rattle.client_model.specs.Order.{walk}

-- what an evaluation leaves of a module
pub record Valued : Type 0 where
  pub status : InstanceStatus
  pub values : Slots

-- what an export of a module holds; nothing where the module wasn't come to
abbrev pub export_of : Option Valued → Name → Slot
export_of None x = Unset
export_of (Some v) x = slot_at v.values x

-- the module faulted, or wasn't run
abbrev pub is_failed : Option Valued → Bool
is_failed None = false
is_failed (Some v) = not (is_done_status v.status)

-- what the imports of a module's text hold, by their local names
abbrev pub fresh_imports : Language → List (Name × Valued) → Name → Serving → Slots
fresh_imports language done n s =
    map (λ b. (b.local, export_of (at done b.dependency) b.exported)) (language.bindings n s.text)

-- what an evaluation left
abbrev pub valued : Evaluated → Valued
valued e = record { status = status_after e.fault; values = e.vars }

-- a module that imports one that failed isn't run; any other is evaluated, with an empty bag
abbrev pub fresh_valued : Language → List (Name × Valued) → Name → Serving → Valued
fresh_valued language done n s =
    if list_any (λ m. is_failed (at done m)) s.analysis.imports
    then record { status = Unrun; values = [] }
    else valued (language.evaluated n s.text (fresh_imports language done n s) [])

-- one module more
abbrev pub next_valued : Language → List (Name × Valued) → Name → Option Serving → List (Name × Valued)
next_valued language done n None = done
next_valued language done n (Some s) = done ++ (n, fresh_valued language done n s) ∷ []

-- what is served in the order of its evaluation: depth first from the roots, each after what is first met
-- through it
abbrev pub post_order : Served → List Name → List Name
post_order served roots =
    (walk (suc (length (roots ++ imported_by_served served))) (λ n. imports_in (at served n)) roots
    (record { met = []; left = [] })).left

-- the modules of a page that is loaded anew
abbrev pub fresh_values : Language → Served → List Name → List (Name × Valued)
fresh_values language served roots =
    fold (λ done n. next_valued language done n (at served n)) [] (post_order served roots)

-- no name that the fresh load reaches leads back to itself
abbrev pub IsAcyclic : Served → List Name → Type 0
IsAcyclic served roots =
    (n m : Name) → has (reached_by served roots) n ≡ true → imports served n m ≡ true →
    Reaches (imports served) (m ∷ []) n → ⊥

-- what the evaluation of a served text makes and whether it faults doesn't hang on its bag
pub record IsWithoutBag (language : Language) (n : Name) (s : Serving) : Type 0 where
  pub vars : (slots : Slots) (bag : Bag) →
      (language.evaluated n s.text slots bag).vars ≡ (language.evaluated n s.text slots []).vars
  pub fault : (slots : Slots) (bag : Bag) →
      (language.evaluated n s.text slots bag).fault ≡ (language.evaluated n s.text slots []).fault

abbrev pub AreWithoutBag : Language → Served → Type 0
AreWithoutBag language served = (n : Name) (s : Serving) → at served n ≡ Some s → IsWithoutBag language n s

-- the same of the modules that are live in a client
abbrev pub AreLiveWithoutBag : Language → Served → Runtime → Type 0
AreLiveWithoutBag language served r =
    (n : Name) (s : Serving) →
    is_some (live_at r.instances n) ≡ true → at served n ≡ Some s → IsWithoutBag language n s

-- no run of a handler assigned
abbrev pub NothingAssigned : Journal → Type 0
NothingAssigned journal =
    (k spot : ℕ) (n : Name) (place : FaultPlace) (before : Bag) (left : Ran) →
    Contains journal (ran k spot n place before left) → left.changes ≡ []

-- an instance that is there is live
abbrev pub is_live_in : Option Instance → Bool
is_live_in None = false
is_live_in (Some i) = is_live i

-- no run of a handler assigned, of the instances whose number passes the test
abbrev pub NothingAssignedOf : (ℕ → Bool) → Journal → Type 0
NothingAssignedOf watched journal =
    (k spot : ℕ) (n : Name) (place : FaultPlace) (before : Bag) (left : Ran) →
    watched k ≡ true → Contains journal (ran k spot n place before left) → left.changes ≡ []

-- no run of a handler of a live instance assigned
abbrev pub NothingAssignedLive : Runtime → Journal → Type 0
NothingAssignedLive r journal = NothingAssignedOf (λ k. is_live_in (numbered r.instances k)) journal

-- the live instances have the values, and the status, of a page that is loaded anew
abbrev pub AreFreshValues : Language → Served → List Name → Runtime → Type 0
AreFreshValues language served roots r =
    (n : Name) (i : Instance) → live_at r.instances n ≡ Some i →
    at (fresh_values language served roots) n ≡ Some (record { status = i.status; values = i.values })
