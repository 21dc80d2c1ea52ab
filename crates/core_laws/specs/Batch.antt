-- Changes that are applied one by one.
use Rattle.std.specs.Prelude.{List, [], ◌∷◌, map, ⊤}
use Prim.{⊥}
use Rattle.hmr_types.specs.declared.words.PlanKind.TheVariants.{Update}
use Rattle.core_model.specs.Names.{Name, without_all}
use Rattle.core_model.specs.View.{View, dropped_of}
use Rattle.core_model.specs.Spread.{IsReloadWanted, replaced_of}
use Rattle.core_model.specs.Page.{Plan, new_view}

-- one change: the module that changes, and what the update fetches
pub record Turn : Type 0 where
  pub name : Name
  pub staged : View

-- the update of that change
abbrev pub update_of : View → Turn → Plan
update_of view t = record { kind = Update; replaced = replaced_of view (t.name ∷ []) []; staged = t.staged }

-- the view that the update makes
abbrev pub updated : List Name → View → Turn → View
updated roots view t = new_view roots (update_of view t) view

-- the same without what is dropped
abbrev pub view_after : List Name → View → Turn → View
view_after roots view t = without_all (dropped_of (updated roots view t) roots) (updated roots view t)

-- the change wants no reload
abbrev pub IsCalm : List Name → View → Turn → Type 0
IsCalm roots view t = IsReloadWanted view roots (t.name ∷ []) [] → ⊥

-- none of the changes wants a reload of the view that the ones before it leave
abbrev pub AreCalm : List Name → View → List Turn → Type 0
AreCalm roots view [] = ⊤
AreCalm roots view (t ∷ turns) = IsCalm roots view t × AreCalm roots (view_after roots view t) turns

-- the names of the changed modules
abbrev pub names_changed : List Turn → List Name
names_changed turns = map (λ t. t.name) turns
