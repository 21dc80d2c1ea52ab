-- When two plans are the same, but for the order of their lists.
use Rattle.std.specs.Prelude.{◌≡◌, Bool, false, not}
use Rattle.hmr_types.specs.declared.words.PlanKind.{PlanKind}
use Rattle.hmr_types.specs.declared.words.PlanKind.TheVariants.{Load, Reload, Update}
use Rattle.core_model.specs.Names.{Name, has, at}
use Rattle.core_model.specs.Page.{Plan}

-- the plans are one but for the order of what is replaced and of what was fetched
pub record IsSamePlan (p kept : Plan) : Type 0 where
  pub kind : kept.kind ≡ p.kind
  pub replaced : (n : Name) → has kept.replaced n ≡ has p.replaced n
  pub staged : (n : Name) → at kept.staged n ≡ at p.staged n

-- a plan of this kind keeps modules of the page, but for those that it replaces
abbrev pub keeps_kind : PlanKind → Bool → Bool
keeps_kind Load is_replaced = false
keeps_kind Reload is_replaced = false
keeps_kind Update is_replaced = not is_replaced

-- the plan keeps a module of the page that has this name
abbrev pub keeps : Plan → Name → Bool
keeps p n = keeps_kind p.kind (has p.replaced n)
