-- What an open client's live instances are made of.
use Rattle.std.specs.Prelude.{◌≡◌, ℕ, true, Contains, Option, Some, None, ⊤}
use Prim.{⊥}
use Rattle.hmr_types.specs.declared.analysis.Outcome.TheVariants.{Good}
use Rattle.core_model.specs.Names.{Name, at}
use Rattle.core_model.specs.Sources.{Text, Serving}
use Rattle.core_model.specs.FreshLoad.{Served}
use Rattle.core_model.specs.View.{Entry}
use Rattle.core_model.specs.Page.{Plan}
use Rattle.client_model.specs.Language.{Language}
use Rattle.client_model.specs.Instance.{Instance, is_live}
use Rattle.client_model.specs.Runtime.{Runtime}

-- the instance has the module's version and exports; its text is that of the edit that was counted as
-- its version, and transforming it gives the module's analysis
pub record IsOfModule (language : Language) (by : Name → ℕ → Option Text) (e : Entry)
    (i : Instance) : Type 0 where
  pub version : i.version ≡ e.version
  pub exports : i.exports ≡ e.analysis.exports
  pub text : by i.name i.version ≡ Some i.text
  pub analysis : language.transformed i.name i.text ≡ Good e.analysis

-- the page has a module of the instance's name, and the instance is of it
abbrev pub IsOfPage : Language → (Name → ℕ → Option Text) → Option Entry → Instance → Type 0
IsOfPage language by None i = ⊥
IsOfPage language by (Some e) i = IsOfModule language by e i

-- of an open client, each live instance is
abbrev pub AreOfPage : Language → (Name → ℕ → Option Text) → Option Runtime → Type 0
AreOfPage language by None = ⊤
AreOfPage language by (Some r) = (i : Instance) → Contains r.instances i → is_live i ≡ true →
    IsOfPage language by (at r.page.view i.name) i

-- what is served at the instance's version has the instance's text and the module's analysis
abbrev pub IsServedSame : Option Serving → Option Entry → Instance → Type 0
IsServedSame None e i = ⊤
IsServedSame (Some s) None i = ⊥
IsServedSame (Some s) (Some e) i = s.version ≡ i.version → (s.text ≡ i.text) × (s.analysis ≡ e.analysis)

-- of an open client, each live instance's name is served so
abbrev pub AreServedSame : Served → Option Runtime → Type 0
AreServedSame served None = ⊤
AreServedSame served (Some r) = (i : Instance) → Contains r.instances i → is_live i ≡ true →
    IsServedSame (at served i.name) (at r.page.view i.name) i

-- a text that was fetched is that of the edit that was counted as the version, and transforming it gives
-- the analysis
abbrev pub IsFetched : Language → (Name → ℕ → Option Text) → Name → Entry → Option Text → Type 0
IsFetched language by n e None = ⊥
IsFetched language by n e (Some t) = (by n e.version ≡ Some t) × (language.transformed n t ≡ Good e.analysis)

-- of an open client, each module that was fetched for the plan under way has such a text
abbrev pub AreFetched : Language → (Name → ℕ → Option Text) → Option Runtime → Type 0
AreFetched language by None = ⊤
AreFetched language by (Some r) = (p : Plan) → r.page.plan ≡ Some p → (n : Name) (e : Entry) →
    at p.staged n ≡ Some e → IsFetched language by n e (at r.texts n)
