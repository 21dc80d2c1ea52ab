-- What a runtime stands for: the definitions' runtime after the messages and events that it took.
use Rattle.std.specs.Prelude.{◌≡◌, ◌+◌, ℕ, Bool, true, false, ⊤, length, nat_lt, Option, Some, None}
use Rattle.std.specs.List.{All}
use Prim.{⊥}
use Rattle.update_msgs.specs.Writable.{IsFormat, IsVersion}
use Rattle.hmr_types.specs.declared.limits.TheConstants.{INSTANCES}
use Rattle.core_model.specs.Names.{Name, at, names_of, rising}
use Rattle.core_model.specs.Page.{Plan}
use Rattle.client_model.specs.Past.{Past, runtime_after}
use Rattle.client_model.specs.Runtime.{Runtime, Opening}
use Rattle.module_language.specs.ModuleLanguage.{module_language}
use Rattle.handler_table.specs.Held.{Answers}
use Rattle.page_state.specs.Live.{number_of}
use Rattle.page_state.specs.Standing as deeds
use Rattle.page_state.specs.Standing.{KeepWords}
use Rattle.client_plan.specs.Planned.{AreCounted, IsPlanned, count_in}
use Rattle.client_plan.specs.UnderWay.{IsUnderWay}
use Rattle.client_plan.specs.Whole.{IsWhole}
use Rattle.client_plan.specs.declared.under_way.UnderWay.{UnderWay}
use Rattle.runtime_state.specs.declared.runtime.HotRuntime.{HotRuntime}

-- both have a plan, and it is the same; or neither has one
abbrev pub IsPlan : Runtime → Option Plan → Option UnderWay → Type 0
IsPlan r None None = ⊤
IsPlan r None (Some u) = ⊥
IsPlan r (Some p) None = ⊥
IsPlan r (Some p) (Some u) = IsUnderWay r p u

-- what the code keeps is the runtime of the definitions
pub record Keeps {F : Type 0} (r : Runtime) (h : HotRuntime F) : Type 0 where
  pub format : r.format ≡ h.format
  pub named : r.named ≡ h.named
  pub roots : r.roots ≡ h.roots
  pub loaded : r.page.loaded ≡ h.loaded
  pub view : r.page.view ≡ h.view
  pub forced : r.page.forced ≡ h.forced.items
  pub plan : IsPlan r r.page.plan h.plan
  pub page : deeds.StandsFor r h.page
  pub stopped : r.stopped ≡ h.stopped

-- what holds of the plan under way; where there is none, nothing
abbrev pub IsPlannedWell : Bool → Option UnderWay → Type 0
IsPlannedWell loaded None = ⊤
IsPlannedWell loaded (Some u) = IsPlanned loaded u

-- what holds of all that is kept, whatever came: each instance, each invalidation and each module of the
-- page has the version of a counted edit; what is live is on the page; before the page is loaded nothing is
-- live, and it isn't loaded before the client has its number; its modules rise by name, and where it is told
-- so they are exactly those that the roots reach
pub record IsSound {F : Type 0} (h : HotRuntime F) : Type 0 where
  pub format : IsFormat h.format
  pub versions : All (λ c. IsVersion c.version) h.page.instances.items
  pub unsent : All (λ i. IsVersion i.version) h.page.unsent.items
  pub view : AreCounted h.view
  pub plan : IsPlannedWell h.loaded h.plan
  pub on_page : (n : Name) → at h.view n ≡ None → number_of h.page.live n ≡ None
  pub unloaded : h.loaded ≡ false → (n : Name) → number_of h.page.live n ≡ None
  pub unnumbered : h.page.client ≡ 0 → h.loaded ≡ false
  pub rises : rising (names_of h.view) ≡ true
  pub whole : h.whole ≡ true → IsWhole h.roots h.view

-- how many instances the plan under way makes, once all is fetched; where there is no plan, none
abbrev pub count_of : Option UnderWay → ℕ
count_of None = 0
count_of (Some u) = count_in u.next

-- there is room for the instances of the plan under way
abbrev pub HasRoom : {F : Type 0} → HotRuntime F → Type 0
HasRoom h = nat_lt INSTANCES (length h.page.instances.items + count_of h.plan) ≡ false

-- the runtime stands for the messages and events that it took so far, the newest first
pub record StandsFor {F : Type 0} (opening : Opening) (past : Past) (h : HotRuntime F) : Type 0 where
  pub sound : IsSound h
  pub keeps : Keeps (runtime_after module_language opening past) h

-- unless it is stopped, each handler that is held and each closure of the shelf answers what is stated for
-- it
abbrev pub KeepsWords : {F : Type 0} → Answers F → HotRuntime F → Type 0
KeepsWords answers h = h.stopped ≡ false → KeepWords answers h.page
