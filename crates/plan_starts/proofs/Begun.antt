-- What a plan's beginning makes of a runtime, and its lines.
use Rattle.std.proofs.Common.{◌≡◌, ℕ, Bool, true, false, List, [], ◌∷◌, ◌++◌, refl, ap, ◌∙◌}
use Rattle.std.specs.Prelude.{◌==◌, if◌then◌else◌, Option, Some, None}
use Rattle.std.proofs.lemmas.List.{append-nil}
use Rattle.hmr_types.specs.declared.words.PlanKind.TheVariants.{Update}
use Rattle.output_lines.specs.declared.out_line.OutLine.TheVariants as line
use Rattle.core_model.specs.Names.{Name, in_order}
use Rattle.client_model.specs.Answering.{accept_line, begin, start_update, write_batch}
use Rattle.client_model.specs.Journal.{lines_of_all}
use Rattle.client_model.specs.Runtime.{Runtime, Did, and_then, for_each, nothing, write}
use Rattle.hmr_types.specs.declared.words.PlanKind.{PlanKind}
use Rattle.core_model.specs.Page.{new_plan}
use Rattle.page_state.proofs.Following.{lines_then}
use Rattle.client_plan.specs.declared.under_way.UnderWay.{UnderWay}
use Rattle.client_plan.specs.Telling.{accept_lines, batch_lines}
use Rattle.runtime_state.specs.Standing.{IsPlan, Keeps}
use Rattle.runtime_state.specs.declared.runtime.HotRuntime.{HotRuntime}
use Rattle.runtime_state.proofs.Keeping.{plan_kept, with_under_way}

batch_step : (b : Bool) (batch : ℕ) (triggered : List Name) (r : Runtime) → (if b then nothing r else write (line.Batch r.client batch (in_order triggered)) r).0 ≡ r
batch_step true batch triggered r = refl
batch_step false batch triggered r = refl

batch_told : (b : Bool) (client batch : ℕ) (triggered : List Name) (r : Runtime) → lines_of_all client (if b then nothing r else write (line.Batch r.client batch (in_order triggered)) r).1 ≡ (if b then [] else line.Batch r.client batch (in_order triggered) ∷ [])
batch_told true client batch triggered r = refl
batch_told false client batch triggered r = refl

abbrev accept_act : Name × Name → Runtime → Did
accept_act pair r = write (accept_line r.client pair) r

accepts_same : (pairs : List (Name × Name)) (r : Runtime) → (for_each accept_act pairs r).0 ≡ r
accepts_same [] r = refl
accepts_same (pair ∷ pairs) r = accepts_same pairs r

accepts_told : (client : ℕ) (pairs : List (Name × Name)) (r : Runtime) → lines_of_all client (for_each accept_act pairs r).1 ≡ accept_lines r.client pairs
accepts_told client [] r = refl
accepts_told client (pair ∷ pairs) r = ap (λ ls. accept_line r.client pair ∷ ls) (accepts_told client pairs r)

-- after a batch, whatever keeps the runtime
pub batch_then : (batch : ℕ) (triggered : List Name) (next : Runtime → Did) (r : Runtime) → (and_then (write_batch batch triggered r) next).0 ≡ (next r).0
batch_then batch triggered next r = ap (λ s. (next s).0) (batch_step (batch == 0) batch triggered r)

pub batch_lines_then : (batch : ℕ) (triggered : List Name) (next : Runtime → Did) (r : Runtime) (client : ℕ) → lines_of_all client (and_then (write_batch batch triggered r) next).1 ≡ batch_lines r.client batch triggered ++ lines_of_all client (next r).1
batch_lines_then batch triggered next r client =
    lines_then client (write_batch batch triggered r).1 (next (write_batch batch triggered r).0).1
    ∙ ap (λ ls. ls ++ lines_of_all client (next (write_batch batch triggered r).0).1) (batch_told (batch == 0) client batch triggered r)
    ∙ ap (λ s. batch_lines r.client batch triggered ++ lines_of_all client (next s).1) (batch_step (batch == 0) batch triggered r)

-- an update begins
pub update_begins : (replaced : List Name) (pairs : List (Name × Name)) (r : Runtime) → (start_update replaced pairs r).0 ≡ begin Update replaced pairs r
update_begins replaced pairs r = ap (λ s. begin Update replaced pairs s) (accepts_same pairs r)

pub update_told : (replaced : List Name) (pairs : List (Name × Name)) (r : Runtime) (client : ℕ) → lines_of_all client (start_update replaced pairs r).1 ≡ line.Update r.client (in_order replaced) ∷ accept_lines r.client pairs
update_told replaced pairs r client =
    ap (λ ls. line.Update r.client (in_order replaced) ∷ ls)
    (lines_then client (for_each accept_act pairs r).1 [] ∙ append-nil (lines_of_all client (for_each accept_act pairs r).1) ∙ accepts_told client pairs r)

-- a plan that has just begun is kept as such
pub begun : {F : Type 0} (r : Runtime) (h : HotRuntime F) (kind : PlanKind) (replaced : List Name) (pairs : List (Name × Name)) (left : Option UnderWay) → Keeps r h → IsPlan (begin kind replaced pairs r) (Some (new_plan kind replaced)) left
    → Keeps (begin kind replaced pairs r) (with_under_way h left)
begun r h kind replaced pairs left k is = plan_kept r h (Some (new_plan kind replaced)) [] pairs None left k is
