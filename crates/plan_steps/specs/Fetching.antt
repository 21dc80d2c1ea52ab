-- What a text makes of a plan under way.
use Rattle.std.specs.Prelude.{◌≡◌, ℕ, Bool, List, None, Option, Some}
use Prim.{⊥}
use Rattle.update_msgs.specs.Writable.{IsVersion}
use Rattle.core_model.specs.Names.{Name}
use Rattle.core_model.specs.Page.{Plan}
use Rattle.core_model.specs.Sources.{Text}
use Rattle.core_model.specs.View.{View}
use Rattle.client_model.specs.Linking.{next_needed}
use Rattle.client_model.specs.Runtime.{Runtime}
use Rattle.module_language.specs.ModuleLanguage.{module_language}
use Rattle.client_plan.specs.Planned.{IsPlanned}
use Rattle.client_plan.specs.UnderWay.{IsFetched, IsUnderWay}
use Rattle.client_plan.specs.declared.under_way.UnderWay.{UnderWay}

-- the plan with the text that came: it is the plan of the definitions with that text, and is planned as
-- well as before
pub record IsStaged (u : UnderWay) (roots : List Name) (view : View) (n : Name) (version : ℕ) (text : Text)
    (v : UnderWay) : Type 0 where
  pub fetched : (r : Runtime) (p : Plan) → r.roots ≡ roots → r.page.view ≡ view → IsUnderWay r p u
      → next_needed p r ≡ Some n → IsFetched (module_language.transformed n text) r p n version text v
  pub planned : (loaded : Bool) → IsPlanned loaded u → IsVersion version → IsPlanned loaded v

-- there is a plan under way, and it is that
abbrev pub IsStagedIn : UnderWay → List Name → View → Name → ℕ → Text → Option UnderWay → Type 0
IsStagedIn u roots view n version text None = ⊥
IsStagedIn u roots view n version text (Some v) = IsStaged u roots view n version text v
