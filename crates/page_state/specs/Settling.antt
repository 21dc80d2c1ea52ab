-- What the run of a handler left is settled.
use Rattle.std.specs.Prelude.{◌≡◌, ◌++◌}
use Rattle.std.specs.Prelude.{ℕ, List, fold, length, map, slice_get, slice_set, Option, Some, None}
use Rattle.output_lines.specs.declared.words.FaultPlace.{FaultPlace}
use Rattle.output_lines.specs.declared.out_line.OutLine.{OutLine}
use Rattle.core_model.specs.Names.{Name}
use Rattle.core_model.specs.Sources.{Text}
use Rattle.client_model.specs.Instance as model
use Rattle.client_model.specs.Journal.{log_lines, fault_lines}
use Rattle.client_model.specs.Language.{Ran, Slots}
use Rattle.client_model.specs.Running.{assigned}
use Rattle.retained_data.specs.Runs.{ran_seen}
use Rattle.retained_data.specs.declared.ran.Ran as body
use Rattle.module_language.specs.ModuleLanguage.{ran_as}
use Rattle.retained_data.specs.Bags.{HasBag}
use Rattle.page_instances.specs.declared.instance.Instance.{Instance}
use Rattle.page_instances.specs.Scopes.{kept_at, exports_in}
use Rattle.page_instances.specs.Seeing.{Sees}
use Rattle.page_state.specs.Live.{number_of}
use Rattle.page_state.specs.declared.page.Invalidation.{Invalidation}
use Rattle.page_state.specs.declared.page.Page.{Page}

-- the instance of this number, none where there is no number
abbrev pub kept_by : {F : Type 0} → List (Instance F) → Option ℕ → Option (Instance F)
kept_by instances None = None
kept_by instances (Some k) = kept_at instances k

-- the live instance of a name
abbrev pub live_in : {F : Type 0} → Page F → Name → Option (Instance F)
live_in p n = kept_by p.instances.items (number_of p.live n)

-- the version of an instance, 0 for none
abbrev pub version_in : {F : Type 0} → Option (Instance F) → ℕ
version_in None = 0
version_in (Some c) = c.version

-- these messages, as invalidations of a name at a version
abbrev pub invalidated : Name → ℕ → List Text → List Invalidation
invalidated n version messages = map (λ m. record { name = n; version = version; message = m }) messages

-- what the run of a handler left, as the model has it
abbrev pub left_by : body.Ran → Ran
left_by ran = ran_as (ran_seen ran)

-- What a run left is settled: its variables are assigned, its bag is kept, its lines and its invalidations
-- stand behind the others.
pub record Settles {F : Type 0} (at : FaultPlace) (left : Ran) (place : ℕ) (before after : Page F)
    (told tells : List OutLine) : Type 0 where
  pub client : after.client ≡ before.client
  pub live : after.live ≡ before.live
  pub shelf : after.shelf ≡ before.shelf
  pub instance : Instance F
  pub changed : Instance F
  pub there : slice_get before.instances.items place ≡ Some instance
  pub instances : after.instances.items ≡ slice_set before.instances.items place changed
  pub values : (i : model.Instance) → Sees i instance
      → Sees (record i { values = fold assigned i.values left.changes }) changed
  pub rest : changed ≡ record instance { values = changed.values }
  pub bags : HasBag instance.name left.bag before.bags after.bags
  pub unsent : after.unsent.items
      ≡ before.unsent.items
      ++ invalidated instance.name (version_in (live_in before instance.name)) left.invalidations
  pub lines : tells
      ≡ told ++
      (log_lines before.client instance.name left.lines
      ++ fault_lines before.client instance.name at left.fault)

-- an instance as the argument of a callback, `undefined` where there is none
abbrev pub exports_of : {F : Type 0} → Option (Instance F) → Option Slots
exports_of None = None
exports_of (Some c) = exports_in c

-- how many callbacks on itself an instance holds
abbrev pub own_count : {F : Type 0} → Option (Instance F) → ℕ
own_count None = 0
own_count (Some c) = length c.held.own

-- how many the instance at a place holds
abbrev pub own_left : {F : Type 0} → Page F → ℕ → ℕ
own_left p place = own_count (slice_get p.instances.items place)
