-- An update whose page gets its new entries in place.
use Rattle.std.specs.Prelude.{◌≡◌, ℕ, true, List, [], Some}
use Rattle.core_model.specs.Names.{Name}
use Rattle.core_model.specs.Page.{Plan}
use Rattle.core_model.specs.View.{Entry, View}
use Rattle.page_plan.specs.Applied.{IsDone}
use Rattle.page_plan.specs.Renewals.{AreAlike, AreThere, IsGrowth, fetched_of, with_first}
use Rattle.client_records.specs.Record.{Kept}

-- the page is loaded, and the plan under way replaces these modules by these, which can be put in place
pub record IsInPlace (k : Kept) (names : List Name) (rows : List (Name × Entry)) : Type 0 where
  pub loaded : k.loaded ≡ true
  pub whole : k.dropped ≡ []
  pub plan : Plan
  pub under_way : k.plan ≡ Some plan
  pub growth : IsGrowth k.roots plan k.view
  pub there : AreThere k.view rows
  pub alike : AreAlike (with_first rows k.view) rows
  pub replaced : names ≡ plan.replaced
  pub fetched : rows ≡ fetched_of plan plan.replaced

-- the plan under way fits the table told, and this is its view
pub record IsFitting (k : Kept) (told : List (Name × ℕ)) (made : View) : Type 0 where
  pub plan : Plan
  pub under_way : k.plan ≡ Some plan
  pub done : IsDone k.roots plan k.view told made
