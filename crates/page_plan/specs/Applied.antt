-- What applying a plan answers, against the definition's row.
use Rattle.std.specs.Prelude.{◌≡◌, ℕ, List}
use Prim.{⊥}
use Rattle.core_model.specs.Names.{Name}
use Rattle.core_model.specs.View.{View, table_of}
use Rattle.core_model.specs.Page.{Plan, new_view}
use Rattle.core_model.specs.Requests.{applied_row, differing, row_differing, unfetched, mismatch, done}
use Rattle.page_plan.specs.declared.apply.Applied.{Applied}
use Rattle.page_plan.specs.declared.apply.Applied.TheVariants as answer

-- the plan fits the table told, and this is its view
pub record IsDone (roots : List Name) (p : Plan) (view : View) (told : List (Name × ℕ))
    (made : View) : Type 0 where
  pub row : applied_row roots p view told ≡ done
  pub whole : made ≡ new_view roots p view

-- the answer is the row that an Applied meets, and where all fits it has the plan's view
abbrev pub IsApplied : List Name → Plan → View → List (Name × ℕ) → Applied → Type 0
IsApplied roots p view told (answer.Unfetched n) = applied_row roots p view told ≡ unfetched n
IsApplied roots p view told (answer.Mismatch n v k) = applied_row roots p view told ≡ mismatch n v k
IsApplied roots p view told (answer.Done made) = IsDone roots p view told made

-- the answer is what the table told and the view differ in, and where they don't it has the view
abbrev pub IsCompared : List (Name × ℕ) → View → Applied → Type 0
IsCompared told made (answer.Unfetched n) = ⊥
IsCompared told made (answer.Mismatch n v k) =
    row_differing (differing told (table_of made)) told (table_of made) ≡ mismatch n v k
IsCompared told made (answer.Done view) =
    (row_differing (differing told (table_of made)) told (table_of made) ≡ done) × (view ≡ made)
