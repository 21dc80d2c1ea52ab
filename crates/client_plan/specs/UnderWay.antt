-- What is kept of a plan under way, against the plan of the definitions.
use Rattle.std.specs.Prelude.{◌≡◌, ℕ, Bool, true, false, List, [], Some, None, ⊤}
use Rattle.std.specs.Option.{option_map}
use Rattle.module_tree.specs.Tree.{module_of}
use Rattle.module_tree.specs.declared.tree.Module.{Module}
use Rattle.update_msgs.specs.declared.message.ClientMsg.{ClientMsg}
use Rattle.update_msgs.specs.declared.message.ClientMsg.TheVariants as told
use Rattle.module_semantics.specs.ModuleText.{parsing}
use Rattle.core_model.specs.Names.{Name, at, with_row}
use Rattle.core_model.specs.Sources.{Text}
use Rattle.core_model.specs.Page.{Plan, new_view, staged}
use Rattle.core_model.specs.View.{Entry}
use Rattle.client_model.specs.Linking.{new_names, next_needed, link_cause}
use Rattle.client_model.specs.Runtime as model
use Rattle.hmr_types.specs.declared.analysis.Analysis.{Analysis}
use Rattle.hmr_types.specs.declared.analysis.Outcome.{Outcome}
use Rattle.hmr_types.specs.declared.analysis.Outcome.TheVariants.{Good, Bad}
use Rattle.client_model.specs.Runtime.{Runtime}
use Rattle.module_language.specs.ModuleLanguage.{module_in, module_language}
use Rattle.page_plan.specs.Plans.{IsSamePlan}
use Rattle.page_plan.specs.Walking.{IsAt}
use Rattle.client_plan.specs.declared.cause.Cause.{Cause}
use Rattle.client_plan.specs.declared.cause.Cause.TheVariants.{Missing, Broken, Unlinked}
use Rattle.client_plan.specs.Renewing.{IsRenewing}
use Rattle.client_plan.specs.Whole.{IsLone, IsWhole}
use Rattle.client_plan.specs.declared.under_way.Modules.{Modules}
use Rattle.client_plan.specs.declared.under_way.Modules.TheVariants.{Anew, Renewed}
use Rattle.client_plan.specs.declared.under_way.Next.{Next}
use Rattle.client_plan.specs.declared.under_way.Next.TheVariants.{Fetch, Finish}
use Rattle.client_plan.specs.declared.under_way.Ready.{Ready}
use Rattle.client_plan.specs.declared.under_way.UnderWay.{UnderWay}
use Rattle.client_plan.specs.declared.under_way.Walk.{Walk}
use Rattle.client_plan.specs.declared.under_way.Walk.TheVariants.{Begun, Spared}

-- a cause as the definitions have it
abbrev pub cause_of : Cause → model.Cause
cause_of (Missing n) = model.missing n
cause_of (Broken n) = model.broken n
cause_of (Unlinked n m x) = model.unlinked n m x

-- what becomes of the page's modules: they are these, or they stay and some have new entries
abbrev pub AreModules : Runtime → Plan → Modules → Type 0
AreModules r p (Anew view) = view ≡ new_view r.roots p r.page.view
AreModules r p Renewed = IsRenewing r p

-- all is fetched: what becomes of the page's modules, what gets a new instance, and the first import that
-- isn't exported; where it is told so, the page's modules are then exactly those that the roots reach
pub record IsReady (r : Runtime) (p : Plan) (ready : Ready) : Type 0 where
  pub none_needed : next_needed p r ≡ None
  pub modules : AreModules r p ready.modules
  pub names : ready.names.items ≡ new_names p r
  pub link : link_cause module_language p r ≡ option_map cause_of ready.link
  pub whole : ready.whole ≡ true → IsWhole r.roots (new_view r.roots p r.page.view)

-- the trees are what the texts read as that were fetched
abbrev pub HasTrees : Runtime → List (Name × Module) → Type 0
HasTrees r trees = (n : Name)
    → option_map (λ t. module_in (parsing t)) (at r.texts n) ≡ option_map module_of (at trees n)

-- the module that is needed next; where none is, all that ends the plan
abbrev pub IsNext : Runtime → Plan → Next → Type 0
IsNext r p (Fetch n) = next_needed p r ≡ Some n
IsNext r p (Finish ready) = IsReady r p ready

-- where the walk of a plan stands that needs a module; a plan that replaces one module needs none
abbrev pub IsWalk : Runtime → Plan → Next → Walk → Type 0
IsWalk r p (Fetch n) (Begun walker) = IsAt r.roots p r.page.view walker
IsWalk r p (Fetch n) Spared = IsLone r.roots p r.page.view n
IsWalk r p (Finish ready) walk = ⊤

-- a plan under way: what carries it on, where its walk stands, and what was fetched, by look-up; texts
-- are kept as what they read as
pub record IsUnderWay (r : Runtime) (p : Plan) (u : UnderWay) : Type 0 where
  pub plan : IsSamePlan p u.plan
  pub walk : IsWalk r p u.next u.walk
  pub next : IsNext r p u.next
  pub texts : HasTrees r u.trees.entries
  pub pairs : r.pairs ≡ u.pairs.items
  pub cause : r.cause ≡ option_map cause_of u.cause

-- that a plan was given up
abbrev pub is_aborted : ClientMsg → Bool
is_aborted (told.Hello format roots) = false
is_aborted told.Ask = false
is_aborted (told.Fetch n) = false
is_aborted (told.Applied table) = false
is_aborted (told.Aborted cause n from x) = true
is_aborted (told.Invalidate n v message) = false
is_aborted told.Bye = false

-- that a plan was applied
abbrev pub is_applied_told : ClientMsg → Bool
is_applied_told (told.Hello format roots) = false
is_applied_told told.Ask = false
is_applied_told (told.Fetch n) = false
is_applied_told (told.Applied table) = true
is_applied_told (told.Aborted cause n from x) = false
is_applied_told (told.Invalidate n v message) = false
is_applied_told told.Bye = false

-- what was told, but for the modules of a plan that was applied
abbrev pub untold : ClientMsg → ClientMsg
untold (told.Hello format roots) = told.Hello format roots
untold told.Ask = told.Ask
untold (told.Fetch n) = told.Fetch n
untold (told.Applied table) = told.Applied []
untold (told.Aborted cause n from x) = told.Aborted cause n from x
untold (told.Invalidate n v message) = told.Invalidate n v message
untold told.Bye = told.Bye

-- the plan with what was fetched
abbrev pub plan_with : Plan → Name → Entry → Plan
plan_with p n e = record p { staged = with_row n e p.staged }

-- the runtime with what was fetched for its plan
abbrev pub runtime_with : Plan → Name → ℕ → Text → Analysis → Runtime → Runtime
runtime_with p n v t a r =
    record r
    { page = staged p n (record { version = v; analysis = a }) r.page; texts = with_row n t r.texts }

-- the runtime with a cause that a fetch found
abbrev pub with_cause_of : model.Cause → Runtime → Runtime
with_cause_of cause r = record r { cause = Some cause }

-- a text that came: it is staged, or the plan can't be carried out
abbrev pub IsFetched : Outcome → Runtime → Plan → Name → ℕ → Text → UnderWay → Type 0
IsFetched (Good a) r p n v t u =
    IsUnderWay (runtime_with p n v t a r) (plan_with p n (record { version = v; analysis = a })) u
IsFetched (Bad fault) r p n v t u = IsUnderWay (with_cause_of (model.broken n) r) p u
