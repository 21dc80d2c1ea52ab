-- What holds of a plan under way, whatever came.
use Rattle.std.specs.Prelude.{◌≡◌, ℕ, Bool, false, length, Some, is_some}
use Rattle.update_msgs.specs.Writable.{IsVersion}
use Rattle.hmr_types.specs.declared.words.PlanKind.TheVariants.{Load}
use Rattle.core_model.specs.Names.{Name, at}
use Rattle.core_model.specs.View.{Entry, View}
use Rattle.client_plan.specs.declared.under_way.Next.{Next}
use Rattle.client_plan.specs.declared.under_way.Next.TheVariants.{Fetch, Finish}
use Rattle.client_plan.specs.declared.under_way.UnderWay.{UnderWay}

-- each entry has the version of a counted edit
abbrev pub AreCounted : View → Type 0
AreCounted view = (n : Name) (e : Entry) → at view n ≡ Some e → IsVersion e.version

-- what was fetched has counted versions and is kept as trees, and a load is of a page that isn't loaded
pub record IsPlanned (loaded : Bool) (u : UnderWay) : Type 0 where
  pub staged : AreCounted u.plan.staged
  pub trees : (n : Name) → is_some (at u.trees.entries n) ≡ is_some (at u.plan.staged n)
  pub loads : u.plan.kind ≡ Load → loaded ≡ false

-- how many instances a plan makes, once all is fetched
abbrev pub count_in : Next → ℕ
count_in (Fetch n) = 0
count_in (Finish ready) = length ready.names.items
