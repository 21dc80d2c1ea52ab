-- A deed for each of several instances of a page, by their places.
use Rattle.std.specs.Prelude.{◌≡◌, ◌&&◌, ℕ, zero, suc, Bool, true, false, List, [], ◌∷◌, length, slice_get}
use Rattle.std.specs.Prelude.{Option, Some, None, is_some, IfSome, if◌then◌else◌, ⊤}
use Prim.{⊥}
use Rattle.output_lines.specs.declared.out_line.OutLine.{OutLine}
use Rattle.core_model.specs.Names.{Name, has}
use Rattle.client_model.specs.Instance as model
use Rattle.client_model.specs.Instance.{is_live_fate}
use Rattle.client_model.specs.Runtime.{Runtime, Did, for_each}
use Rattle.page_plan.specs.Numbers.{NewNumbers, new_number}
use Rattle.page_instances.specs.declared.instance.Instance.{Instance}
use Rattle.page_state.specs.declared.page.Page.{Page}
use Rattle.page_ends.specs.declared.places.Whose.{Whose}
use Rattle.page_ends.specs.declared.places.Whose.TheVariants as whose
use Rattle.page_state.specs.Standing.{StandsFor, Follows, name_at}

-- whether a name is meant
abbrev pub is_of : Whose → Name → Bool
is_of whose.All n = true
is_of (whose.Among names) n = has names n

-- whether an instance is there, is live, and has a name that passes the test
abbrev pub is_live_of : {F : Type 0} → (Name → Bool) → Option (Instance F) → Bool
is_live_of test None = false
is_live_of test (Some c) = is_live_fate c.fate && test c.name

-- the places, below k, of the live instances whose names pass the test, falling
abbrev pub falling : {F : Type 0} → (Name → Bool) → List (Instance F) → ℕ → List ℕ
falling test cs zero = []
falling test cs (suc k) = if is_live_of test (slice_get cs k) then k ∷ falling test cs k
    else falling test cs k

-- those of a page
abbrev pub live_places : {F : Type 0} → (Name → Bool) → Page F → List ℕ
live_places test p = falling test p.instances.items (length p.instances.items)

-- the model's instance has the number and the name of a place
pub record IsAt {F : Type 0} (p : Page F) (place : ℕ) (i : model.Instance) : Type 0 where
  pub number : i.number ≡ suc place
  pub name : name_at p place ≡ Some i.name

-- the model's instances are those of the places, one by one
abbrev pub StandAt : {F : Type 0} → Page F → List ℕ → List model.Instance → Type 0
StandAt p [] [] = ⊤
StandAt p [] (i ∷ is) = ⊥
StandAt p (k ∷ ks) [] = ⊥
StandAt p (k ∷ ks) (i ∷ is) = IsAt p k i × StandAt p ks is

-- the deed is done for each of the instances at these places, one after another
pub record FollowsEach {F : Type 0} (act : model.Instance → Runtime → Did) (places : List ℕ)
    (before after : Page F) (told tells : List OutLine) : Type 0 where
  pub client : after.client ≡ before.client
  pub names : (place : ℕ) (n : Name) → name_at before place ≡ Some n → name_at after place ≡ Some n
  pub each : (is : List model.Instance) → StandAt before places is
      → Follows (for_each act is) before after told tells

-- a name, where there is one, gets a new instance
abbrev pub HasNew : NewNumbers → Option Name → Type 0
HasNew numbers name = IfSome name (λ n. is_some (new_number numbers n) ≡ true)

-- for each runtime that the page stands for, the names that pass the test are those that are replaced, and
-- each has there the number that it gets
abbrev pub IsReplacing : {F : Type 0} → List Name → NewNumbers → Page F → (Runtime → Name → Option ℕ)
    → (Runtime → Name → Bool) → Type 0
IsReplacing replaced numbers p number test = (r : Runtime) → StandsFor r p → (n : Name)
    → (test r n ≡ has replaced n) × (has replaced n ≡ true → number r n ≡ new_number numbers n)

-- the deed was done for the first of the places, and is left to be done for the rest
abbrev pub EachBegins : {F : Type 0} → (model.Instance → Runtime → Did) → (whole rest : List ℕ)
    → (before after : Page F) → (told tells : List OutLine) → Type 0
EachBegins act whole rest before after told tells = (z : Page _) (more : List OutLine)
    → FollowsEach act rest after z tells more → FollowsEach act whole before z told more
