-- What a birth of the code is in the model, and what the steps of its making leave.
use Rattle.std.specs.Prelude.{◌≡◌, ℕ, suc, false, not, Bool, List, [], ◌∷◌, ◌++◌, fold}
use Rattle.std.specs.Prelude.{length, map, slice_get, slice_set, Option, Some, None}
use Rattle.std.specs.List.{list_any}
use Rattle.hmr_types.specs.declared.words.HandlerKind.{HandlerKind}
use Rattle.module_tree.specs.Syntax as syntax
use Rattle.module_tree.specs.Syntax.{OnceTree}
use Rattle.module_tree.specs.Tree.{module_of}
use Rattle.module_semantics.specs.Bodies.{Registration, registration_of}
use Rattle.module_semantics.specs.ModuleText.{parsing}
use Rattle.module_semantics.specs.declared.evaluation.Registered as code
use Rattle.output_lines.specs.declared.out_line.OutLine.{OutLine}
use Rattle.output_lines.specs.declared.words.InstanceStatus.{InstanceStatus}
use Rattle.core_model.specs.Names.{Name}
use Rattle.client_model.specs.Instance as client
use Rattle.client_model.specs.Instance.{is_dep, is_done_status}
use Rattle.client_model.specs.Journal.{lines_of_all}
use Rattle.client_model.specs.Language.{Slots, Registered, Evaluated}
use Rattle.client_model.specs.Making as model
use Rattle.client_model.specs.Making.{Registry, born, register_once}
use Rattle.const_eval.specs.Answers.{evaluated_seen}
use Rattle.const_eval.specs.declared.module.Evaluated as answer
use Rattle.module_language.specs.ModuleLanguage.{module_in, registered_as, evaluated_as}
use Rattle.handler_table.specs.Shelf.{marks_of}
use Rattle.page_instances.specs.declared.instance.Instance.{Instance}
use Rattle.page_instances.specs.Scopes.{kept_at}
use Rattle.page_instances.specs.Seeing.{Sees}
use Rattle.page_state.specs.Live.{HasNumber}
use Rattle.page_births.specs.declared.birth.Birth.{Birth}
use Rattle.page_state.specs.declared.page.Page.{Page}

-- the model's birth is of the page's next number, and has all that the code's has
pub record IsBirth {F : Type 0} (b : model.Birth) (birth : Birth) (p : Page F) : Type 0 where
  pub number : b.number ≡ suc (length p.instances.items)
  pub name : b.name ≡ birth.name
  pub version : b.entry.version ≡ birth.version
  pub exports : b.entry.analysis.exports ≡ birth.exports
  pub links : b.links ≡ birth.links
  pub tree : module_in (parsing b.text) ≡ module_of birth.tree

-- an instance that was made, and faulted or wasn't run
abbrev pub is_failed : {F : Type 0} → Option (Instance F) → Bool
is_failed None = false
is_failed (Some c) = not (is_done_status c.status)

-- some link is to such an instance
abbrev pub has_failed_link : {F : Type 0} → List (Instance F) → List (Name × ℕ) → Bool
has_failed_link instances links = list_any (λ link. is_failed (kept_at instances link.1)) links

-- A new instance stands behind the others, without handlers, and is the live one of its name.
pub record Adds {F : Type 0} (birth : Birth) (status : InstanceStatus) (values : Slots)
    (before after : Page F) : Type 0 where
  pub rest : after ≡ record before { instances = after.instances; live = after.live }
  pub new : Instance F
  pub instances : after.instances.items ≡ before.instances.items ++ new ∷ []
  pub sees : (b : model.Birth) → IsBirth b birth before → Sees (born b status values []) new
  pub live : HasNumber birth.name (Some (suc (length before.instances.items))) before.live after.live

-- what an evaluation left, as the model has it
abbrev pub evaluated_by : Name → answer.Evaluated → Evaluated
evaluated_by n e = evaluated_as n (evaluated_seen e)

-- a handler that an evaluation registered, as the model has it
abbrev pub entry_of : Name → code.Registered → Registered
entry_of n r = registered_as n (registration_of r)

-- a callback on dependencies is code
abbrev pub IsCodeForDeps : HandlerKind → OnceTree → Type 0
IsCodeForDeps k (syntax.code tree) = Unit {0}
IsCodeForDeps k (syntax.host label) = is_dep k ≡ false

-- these are registered behind what was registered
abbrev pub registered_all : ℕ → Name → List Registered → Registry → Registry
registered_all k n entries g = fold (λ g entry. register_once entry.what k n entry g) g entries

-- The instance at a place has the handlers of the registry, the page its closures, and its lines were told.
pub record HasRegistry {F : Type 0} (i : client.Instance) (g : Registry) (place : ℕ) (p : Page F)
    (began told : List OutLine) : Type 0 where
  pub instance : Instance F
  pub there : slice_get p.instances.items place ≡ Some instance
  pub sees : Sees (record i { handlers = g.handlers }) instance
  pub shelf : g.shelf ≡ marks_of p.shelf
  pub lines : told ≡ began ++ lines_of_all p.client g.journal

-- These are registered with the instance at a place: what had a registry of the model has the next.
pub record Registers {F : Type 0} (n : Name) (entries : List Registered) (place : ℕ) (before after : Page F)
    (told tells : List OutLine) : Type 0 where
  pub rest : after ≡ record before { instances = after.instances; shelf = after.shelf }
  pub changed : Instance F
  pub instances : after.instances.items ≡ slice_set before.instances.items place changed
  pub gains : (k : ℕ) (i : client.Instance) (g : Registry) (began : List OutLine)
      → HasRegistry i g place before began told
      → HasRegistry i (registered_all k n entries g) place after began tells
