-- What there is to do for a client that asks: the first row of the table that applies.
use Rattle.std.specs.Prelude.{ℕ, Bool, true, false, List, [], ◌∷◌, Option, Some, None}
use Rattle.hmr_types.specs.declared.analysis.TextFault.{TextFault}
use Rattle.hmr_types.specs.declared.words.PlanKind.{PlanKind}
use Rattle.hmr_types.specs.declared.words.PlanKind.TheVariants.{Load, Reload, Update}
use Rattle.update_msgs.specs.declared.message.JsUpdate.{JsUpdate}
use Rattle.core_model.specs.Names.{Name, at}
use Rattle.core_model.specs.FreshLoad.{version_in}
use Rattle.core_model.specs.Sources.{Sources}
use Rattle.core_model.specs.Page.{Plan, begun, pruned}
use Rattle.core_model.specs.Client.{Client, is_held, dropped, reason, replaced, pairs, first_notice}
use Rattle.core_model.specs.Client.{without_notice, next_batch}

-- the rows of the table
pub data AskRow : Type 0 where
  out_of_turn : AskRow
  tell : Name → TextFault → AskRow
  load : AskRow
  idle : AskRow
  prune : List Name → AskRow
  reload : List Name → AskRow
  update : List Name → List (Name × Name) → AskRow

-- replaced or pairs
abbrev pub row_replaced : List Name → List (Name × Name) → AskRow
row_replaced [] [] = idle
row_replaced [] (p ∷ ps) = update [] (p ∷ ps)
row_replaced (n ∷ ns) ps = update (n ∷ ns) ps

-- the reason of a reload; else replaced or pairs
abbrev pub row_reason : Option (List Name) → AskRow → AskRow
row_reason None row = row
row_reason (Some path) row = reload path

-- held; else what follows
abbrev pub row_held : Bool → AskRow → AskRow
row_held true row = idle
row_held false row = row

-- dropped; else what follows
abbrev pub row_dropped : List Name → AskRow → AskRow
row_dropped [] row = row
row_dropped (n ∷ ns) row = prune (n ∷ ns)

-- not loaded and held or not; else what follows
abbrev pub row_loaded : Bool → Bool → AskRow → AskRow
row_loaded true held row = row
row_loaded false true row = idle
row_loaded false false row = load

-- a waiting notice; else what follows
abbrev pub row_notice : Option (Name × TextFault) → AskRow → AskRow
row_notice None row = row
row_notice (Some notice) row = tell notice.0 notice.1

-- a plan under way; else what follows
abbrev pub row_plan : Option Plan → AskRow → AskRow
row_plan None row = row
row_plan (Some p) row = out_of_turn

-- the row that an Ask meets
abbrev pub ask_row : Sources → Client → AskRow
ask_row s c =
    row_plan c.page.plan
    (row_notice (first_notice c)
    (row_loaded c.page.loaded (is_held s c)
    (row_dropped (dropped c)
    (row_held (is_held s c)
    (row_reason (reason s c)
    (row_replaced (replaced s c) (pairs s c)))))))

-- a plan of this kind begins
abbrev pub begins : PlanKind → List Name → Sources → Client → Client
begins kind replaced s c = record c { page = begun kind replaced c.page; plan_at = s.served_no }

-- a reload or an update is counted
abbrev pub counted : Client → Client
counted c = record c { batches = next_batch c.batches }

-- what the row leaves of the client
abbrev pub asked : AskRow → Sources → Client → Client
asked out_of_turn s c = c
asked (tell n fault) s c = without_notice n c
asked load s c = begins Load [] s c
asked idle s c = c
asked (prune ns) s c = record c { page = pruned ns c.page }
asked (reload path) s c = begins Reload [] s (counted c)
asked (update ns ps) s c = begins Update ns s (counted c)

-- 0 where there is no number
abbrev pub number_or_zero : Option ℕ → ℕ
number_or_zero None = 0
number_or_zero (Some v) = v

-- a boundary is told of a module, with the version that is served of it
abbrev pub js_update : Sources → Name × Name → JsUpdate
js_update s pair = record {
  path = pair.0;
  accepted_path = pair.1;
  timestamp = number_or_zero (version_in (at s.served pair.1));
}
