-- Instances of modules, and their handlers.
use Rattle.std.specs.Prelude.{ℕ, zero, suc, ◌==◌, Bool, true, false, ◌&&◌, List, [], ◌∷◌, map, Option, Some}
use Rattle.std.specs.Prelude.{None, find, if◌then◌else◌}
use Rattle.module_tree.specs.Syntax.{HandlerTree}
use Rattle.hmr_types.specs.declared.words.HandlerKind.{HandlerKind}
use Rattle.hmr_types.specs.declared.words.HandlerKind.TheVariants as kind
use Rattle.output_lines.specs.declared.words.HandlerEnd.{HandlerEnd}
use Rattle.output_lines.specs.declared.words.HandlerEnd.TheVariants.{Held, Spent, Dropped}
use Rattle.output_lines.specs.declared.words.InstanceStatus.{InstanceStatus}
use Rattle.output_lines.specs.declared.words.InstanceStatus.TheVariants.{Done, Faulted, Unrun}
use Rattle.output_lines.specs.declared.words.InstanceFate.{InstanceFate}
use Rattle.output_lines.specs.declared.words.InstanceFate.TheVariants.{Live, Replaced, Pruned, Reloaded}
use Rattle.core_model.specs.Names.{Name, has, same_name}
use Rattle.core_model.specs.Sources.{Text}
use Rattle.client_model.specs.Language.{Slots}

-- what a handler does: code of its module, or the closure of this label and number
pub data Deed : Type 0 where
  code : HandlerTree → Deed
  host : Text → ℕ → Deed

-- a handler of an instance; deps are the modules that a dependency callback lists
pub record Handler : Type 0 where
  pub kind : HandlerKind
  pub deps : List Name
  pub deed : Deed
  pub end : HandlerEnd

-- an instance of a module
pub record Instance : Type 0 where
  pub number : ℕ
  pub name : Name
  pub version : ℕ
  pub text : Text
  pub exports : List Name
  pub links : List (Name × ℕ)  -- each import, with the number of the instance that it is linked to
  pub status : InstanceStatus
  pub fate : InstanceFate
  pub values : Slots
  pub handlers : List Handler  -- in the order of registration

-- whether the fate is to be live
abbrev pub is_live_fate : InstanceFate → Bool
is_live_fate Live = true
is_live_fate (Replaced k) = false
is_live_fate Pruned = false
is_live_fate Reloaded = false

-- nothing has ended it yet
abbrev pub is_live : Instance → Bool
is_live i = is_live_fate i.fate

-- whether the status is that of an evaluation that came to its end
abbrev pub is_done_status : InstanceStatus → Bool
is_done_status Done = true
is_done_status Faulted = false
is_done_status Unrun = false

-- it was evaluated to its end
abbrev pub is_done : Instance → Bool
is_done i = is_done_status i.status

-- the instance of this number
abbrev pub numbered : List Instance → ℕ → Option Instance
numbered instances k = find (λ i. i.number == k) instances

-- the live instance of this name
abbrev pub live_at : List Instance → Name → Option Instance
live_at instances n = find (λ i. is_live i && same_name i.name n) instances

-- the instances, with this change of the one of this number
abbrev pub with_change : ℕ → (Instance → Instance) → List Instance → List Instance
with_change k f instances = map (λ i. if i.number == k then f i else i) instances

-- whether the handler is still held
abbrev pub is_held_end : HandlerEnd → Bool
is_held_end Held = true
is_held_end Spent = false
is_held_end Dropped = false

-- neither run nor dropped yet
abbrev pub is_held : Handler → Bool
is_held h = is_held_end h.end

-- a disposer
abbrev pub is_dispose : HandlerKind → Bool
is_dispose kind.Dispose = true
is_dispose kind.Prune = false
is_dispose kind.Own = false
is_dispose kind.Dep = false

-- a prune handler
abbrev pub is_prune : HandlerKind → Bool
is_prune kind.Dispose = false
is_prune kind.Prune = true
is_prune kind.Own = false
is_prune kind.Dep = false

-- a callback of a module on itself
abbrev pub is_own : HandlerKind → Bool
is_own kind.Dispose = false
is_own kind.Prune = false
is_own kind.Own = true
is_own kind.Dep = false

-- a callback on dependencies
abbrev pub is_dep : HandlerKind → Bool
is_dep kind.Dispose = false
is_dep kind.Prune = false
is_dep kind.Own = false
is_dep kind.Dep = true

-- held handlers of a kind
abbrev pub disposes : Handler → Bool
disposes h = is_held h && is_dispose h.kind

-- a held prune handler
abbrev pub prunes : Handler → Bool
prunes h = is_held h && is_prune h.kind

-- a held callback of a module on itself
abbrev pub accepts_own : Handler → Bool
accepts_own h = is_held h && is_own h.kind

-- a held dependency callback that lists n
abbrev pub accepts_dep : Name → Handler → Bool
accepts_dep n h = is_held h && is_dep h.kind && has h.deps n

-- the places of the handlers that pass the test, from place k on
abbrev pub places_from : ℕ → (Handler → Bool) → List Handler → List ℕ
places_from k test [] = []
places_from k test (h ∷ hs) = if test h then k ∷ places_from (suc k) test hs else places_from (suc k) test hs

-- the places of the handlers of an instance that pass the test
abbrev pub places_of : (Handler → Bool) → Option Instance → List ℕ
places_of test None = []
places_of test (Some i) = places_from 0 test i.handlers

-- the handler with this end
abbrev pub ended_as : HandlerEnd → Handler → Handler
ended_as end h = record h { end = end }

-- the handlers, with this end of the one at a place
abbrev pub with_end : ℕ → HandlerEnd → List Handler → List Handler
with_end place end [] = []
with_end zero end (h ∷ hs) = ended_as end h ∷ hs
with_end (suc place) end (h ∷ hs) = h ∷ with_end place end hs

-- the handlers, those that pass the test dropped
abbrev pub with_dropped : (Handler → Bool) → List Handler → List Handler
with_dropped test handlers = map (λ h. if test h then ended_as Dropped h else h) handlers
