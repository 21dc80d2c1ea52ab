-- How an instance that the code keeps is seen as one of the model.
use Rattle.std.specs.Prelude.{◌≡◌, Bool, ◌&&◌, List, [], ◌∷◌, map, filter, Option, Some, None}
use Rattle.module_tree.specs.Tree.{handler_of}
use Rattle.core_model.specs.Names.{Name}
use Rattle.client_model.specs.Language.{Binding}
use Rattle.client_model.specs.Instance as model
use Rattle.client_model.specs.Instance.{Deed, code, host, is_held, is_dep, disposes, prunes, accepts_own}
use Rattle.module_language.specs.ModuleLanguage.{module_language}
use Rattle.handler_table.specs.Handlers.{Holdings}
use Rattle.handler_table.specs.declared.dep.Dep.{Dep}
use Rattle.handler_table.specs.declared.handler.Handler.{Handler}
use Rattle.handler_table.specs.declared.handler.Handler.TheVariants.{Code, Host}
use Rattle.page_instances.specs.Marks.{mark_of}
use Rattle.page_instances.specs.declared.instance.Bound.{Bound}
use Rattle.page_instances.specs.declared.instance.Instance.{Instance}

-- the deed of a handler that is held
abbrev pub deed_in : {F : Type 0} → Handler F → Deed
deed_in (Code c) = code (handler_of c)
deed_in (Host h) = host h.label h.number

-- a callback on dependencies, by what it lists and does
abbrev pub dep_in : Dep → List Name × Deed
dep_in d = (d.deps, code (handler_of d.code))

-- none, or the one
abbrev pub listed : {X : Type 0} → Option X → List X
listed None = []
listed (Some x) = x ∷ []

-- the deeds of the handlers that pass the test, in the order of registration
abbrev pub deeds_of : (model.Handler → Bool) → List model.Handler → List Deed
deeds_of test hs = map (λ h. h.deed) (filter test hs)

-- a held callback on dependencies
abbrev pub accepts_some : model.Handler → Bool
accepts_some h = is_held h && is_dep h.kind

-- what the held callbacks on dependencies list and do
abbrev pub deps_of : List model.Handler → List (List Name × Deed)
deps_of hs = map (λ h. (h.deps, h.deed)) (filter accepts_some hs)

-- the table holds exactly those of the handlers that are held, each kind in its order
pub record Holds {F : Type 0} (hs : List model.Handler) (held : Holdings F) : Type 0 where
  pub dispose : deeds_of disposes hs ≡ map deed_in (listed held.dispose)
  pub prune : deeds_of prunes hs ≡ map deed_in (listed held.prune)
  pub own : deeds_of accepts_own hs ≡ map deed_in held.own
  pub deps : deps_of hs ≡ map dep_in held.deps

-- what a name of an import is bound to
abbrev pub binding_of : Bound → Binding
binding_of b = record { dependency = b.dependency; exported = b.exported; local = b.local }

-- the model's instance has all that the code keeps of it, and what the code keeps is all that is asked of it
pub record Sees {F : Type 0} (i : model.Instance) (c : Instance F) : Type 0 where
  pub name : i.name ≡ c.name
  pub version : i.version ≡ c.version
  pub exports : i.exports ≡ c.exports
  pub links : i.links ≡ c.links
  pub bindings : module_language.bindings i.name i.text ≡ map binding_of c.bindings
  pub status : i.status ≡ c.status
  pub fate : i.fate ≡ c.fate
  pub values : i.values ≡ c.values.items
  pub marks : map mark_of i.handlers ≡ c.marks.items
  pub held : Holds i.handlers c.held
