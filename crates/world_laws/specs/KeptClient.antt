-- What holds of a client's instances, of its page and of what it fetched, and is kept by each thing that
-- comes to it.
use Rattle.std.specs.Prelude.{◌≡◌, ℕ, ◌≤◌, Bool, true, false, List, [], length, Option, Some, None, is_some}
use Rattle.std.specs.Prelude.{IfSome, ⊤}
use Prim.{⊥}
use Rattle.hmr_types.specs.declared.analysis.Outcome.TheVariants.{Good}
use Rattle.hmr_types.specs.declared.words.PlanKind.{PlanKind}
use Rattle.hmr_types.specs.declared.words.PlanKind.TheVariants.{Load, Reload, Update}
use Rattle.core_model.specs.Names.{Name, same_name, at}
use Rattle.core_model.specs.Sources.{Text}
use Rattle.core_model.specs.View.{Entry, is_in}
use Rattle.core_model.specs.Page.{Plan}
use Rattle.core_model.specs.Core.{client_at}
use Rattle.client_model.specs.Language.{Language}
use Rattle.client_model.specs.Instance.{Instance, live_at}
use Rattle.client_model.specs.Runtime.{Runtime}
use Rattle.client_model.specs.Applying.{live_of}
use Rattle.world_model.specs.World.{World}
use Rattle.world_laws.specs.Instances.{AreNumbered, AreLinked, AreLinkedWhole, AreExported}

-- a load is of a page that isn't loaded
abbrev pub KindFits : PlanKind → Bool → Type 0
KindFits Load loaded = loaded ≡ false
KindFits Reload loaded = ⊤
KindFits Update loaded = ⊤

-- a module that was fetched has its text, and transforming it gives the module's analysis
abbrev pub IsFetchedAs : Language → Name → Option Entry → Option Text → Type 0
IsFetchedAs language n None t = ⊤
IsFetchedAs language n (Some e) None = ⊥
IsFetchedAs language n (Some e) (Some t) = language.transformed n t ≡ Good e.analysis

-- the plan under way, if there is one, fits the page, and so does what was fetched for it
abbrev pub IsPlanned : Language → Option Plan → Bool → List (Name × Text) → Type 0
IsPlanned language None loaded texts = ⊤
IsPlanned language (Some p) loaded texts =
    KindFits p.kind loaded × ((n : Name) → IsFetchedAs language n (at p.staged n) (at texts n))

-- the instance has the module's version and exports, and transforming its text gives the module's analysis
pub record IsInstanceOf (language : Language) (n : Name) (e : Entry) (i : Instance) : Type 0 where
  pub version : i.version ≡ e.version
  pub exports : i.exports ≡ e.analysis.exports
  pub analysis : language.transformed n i.text ≡ Good e.analysis

-- the page's module of a name and the name's live instance, where both are there
abbrev pub IsLiveOf : Language → Name → Option Entry → Option Instance → Type 0
IsLiveOf language n None i = ⊤
IsLiveOf language n (Some e) None = ⊤
IsLiveOf language n (Some e) (Some i) = IsInstanceOf language n e i

-- the facts of a client: its instances by number, by name and by their links, live and ended; its page by
-- its live instances; its plan by what was fetched; and that a page that isn't loaded is empty, and one
-- that is loaded is that of a client with a number
pub record ClientFacts (language : Language) (r : Runtime) : Type 0 where
  pub numbered : AreNumbered r.instances
  pub linked : AreLinked r.instances
  pub whole : AreLinkedWhole language r.instances
  pub exported : AreExported language r.instances
  pub one : (n : Name) → length (live_of (λ m. same_name m n) r) ≤ 1
  pub live : (n : Name) → is_some (live_at r.instances n) ≡ is_in r.page.view n
  pub modules : (n : Name) → IsLiveOf language n (at r.page.view n) (live_at r.instances n)
  pub planned : IsPlanned language r.page.plan r.page.loaded r.texts
  pub empty : r.page.loaded ≡ false → r.page.view ≡ []
  pub counted : r.page.loaded ≡ true → 1 ≤ r.client

-- each open client has its facts
abbrev pub HaveFacts : Language → World → Type 0
HaveFacts language w = (i : ℕ) → IfSome (client_at w.clients i) (ClientFacts language)
