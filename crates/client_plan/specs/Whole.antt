-- When a page has exactly the modules that its roots reach, and a plan that replaces one module of such a
-- page.
use Rattle.std.specs.Prelude.{◌≡◌, Bool, true, false, List, [], ◌∷◌, None, is_some}
use Rattle.hmr_types.specs.declared.words.PlanKind.TheVariants.{Update}
use Rattle.core_model.specs.Names.{Name, at, has, same_name}
use Rattle.core_model.specs.Page.{Plan}
use Rattle.core_model.specs.Paths.{Reaches}
use Rattle.core_model.specs.View.{View, imports, imports_of}
use Rattle.page_plan.specs.Walking.{IsAt}
use Rattle.client_plan.specs.declared.under_way.Walk.{Walk}
use Rattle.client_plan.specs.declared.under_way.Walk.TheVariants.{Begun, Spared}

-- the page has the modules that the roots reach, and no others
pub record IsWhole (roots : List Name) (view : View) : Type 0 where
  pub there : (n : Name) → Reaches (imports view) roots n → is_some (at view n) ≡ true
  pub reached : (n : Name) → is_some (at view n) ≡ true → Reaches (imports view) roots n

-- an update that replaces this one module of such a page, and for which nothing is fetched yet
pub record IsLone (roots : List Name) (p : Plan) (view : View) (n : Name) : Type 0 where
  pub kind : p.kind ≡ Update
  pub replaced : (m : Name) → has p.replaced m ≡ same_name n m
  pub staged : (m : Name) → at p.staged m ≡ None
  pub there : is_some (at view n) ≡ true
  pub whole : IsWhole roots view

-- the same update, once the module is fetched; it may keep its imports
pub record IsLoneFetched (roots : List Name) (p : Plan) (view : View) (n : Name) (keeps : Bool) : Type 0 where
  pub kind : p.kind ≡ Update
  pub replaced : (m : Name) → has p.replaced m ≡ same_name n m
  pub fetched : is_some (at p.staged n) ≡ true
  pub alone : (m : Name) → same_name n m ≡ false → at p.staged m ≡ None
  pub there : is_some (at view n) ≡ true
  pub whole : IsWhole roots view
  pub imports : keeps ≡ true → imports_of (at p.staged n) ≡ imports_of (at view n)

-- the replaced names are this one, it is that of a module of the view, and it is known that the view's modules
-- are exactly those that the roots reach
pub record IsAlone (view : View) (known : Bool) (names : List Name) (n : Name) : Type 0 where
  pub whole : known ≡ true
  pub replaced : names ≡ n ∷ []
  pub there : is_some (at view n) ≡ true

-- where the walk of a plan stood for which a text was fetched
abbrev pub IsWalkFetched : List Name → Plan → View → Name → Bool → Walk → Type 0
IsWalkFetched roots p view n keeps (Begun walker) = IsAt roots p view walker
IsWalkFetched roots p view n keeps Spared = IsLoneFetched roots p view n keeps
