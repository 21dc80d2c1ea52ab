-- The steps of the core's definitions, on what is kept.
use Rattle.std.specs.Prelude.{◌≡◌, ◌≤◌, ◌++◌, ⊤}
use Rattle.std.specs.Prelude.{List, length, Option, Some, None, Bool, true, false}
use Rattle.propagate.specs.Passing.{cause_in, path_of}
use Rattle.core_model.specs.Names.{Name, with_row, sorted}
use Rattle.core_model.specs.Sources.{Sources}
use Rattle.core_model.specs.Page.{Plan}
use Rattle.core_model.specs.View.{View, changed_of}
use Rattle.core_model.specs.Spread.{cause_of, reason_of, replaced_of, pairs_of}
use Rattle.core_model.specs.Client.{same_number}
use Rattle.core_model.specs.Asking.{AskRow, load, idle, prune, reload, update, row_loaded}
use Rattle.core_model.specs.Asking.{row_dropped, row_held, row_reason, row_replaced}
use Rattle.core_model.specs.Requests.{FetchRow, text, not_yet, broken, missing}
use Rattle.client_records.specs.Record.{Kept}
use Rattle.client_records.specs.declared.row.Row.{Row}
use Rattle.client_records.specs.declared.row.Row.TheVariants as rows

-- the plan after a Fetch: a served text is staged
abbrev pub fetched_plan : FetchRow → Name → Plan → Plan
fetched_plan (text s) n p =
    record p { staged = with_row n (record { version = s.version; analysis = s.analysis }) p.staged }
fetched_plan not_yet n p = p
fetched_plan (broken fault) n p = p
fetched_plan missing n p = p

-- nothing was served or removed since the plan began that was given up last
abbrev pub is_held_at : Sources → Kept → Bool
is_held_at s k = same_number k.queue.held s.served_no

-- what changed, and what is forced, asks for this
abbrev pub due_row : Sources → Kept → AskRow
due_row s k =
    row_reason (reason_of k.view k.roots (changed_of s.served k.view) k.queue.forced)
    (row_replaced (replaced_of k.view (changed_of s.served k.view) k.queue.forced)
    (pairs_of k.view (replaced_of k.view (changed_of s.served k.view) k.queue.forced) k.queue.forced))

-- what there is to do where no plan is under way and no notice waits
abbrev pub next_row : Sources → Kept → AskRow
next_row s k =
    row_loaded k.loaded (is_held_at s k) (row_dropped k.dropped (row_held (is_held_at s k) (due_row s k)))

-- the names that a reload or an update is for
abbrev pub triggered_by : Sources → Kept → List Name
triggered_by s k = sorted (changed_of s.served k.view ++ k.queue.forced)

-- what is to be done, as a row of the table
abbrev pub row_of : List Name → Row → AskRow
row_of dropped rows.Idle = idle
row_of dropped rows.Load = load
row_of dropped rows.Prune = prune dropped
row_of dropped (rows.Reload reason triggered) = reload (path_of reason)
row_of dropped (rows.Update replaced pairs triggered) = update replaced pairs

-- a reload or an update is for these names
abbrev pub IsFor : Row → List Name → Type 0
IsFor rows.Idle names = ⊤
IsFor rows.Load names = ⊤
IsFor rows.Prune names = ⊤
IsFor (rows.Reload reason triggered) names = triggered ≡ names
IsFor (rows.Update replaced pairs triggered) names = triggered ≡ names

-- a reload is told with where its path ends, and the path isn't empty
abbrev pub IsTellable : View → Row → Type 0
IsTellable view rows.Idle = ⊤
IsTellable view rows.Load = ⊤
IsTellable view rows.Prune = ⊤
IsTellable view (rows.Reload reason triggered) =
    (cause_in reason ≡ cause_of view (path_of reason)) × (1 ≤ length (path_of reason))
IsTellable view (rows.Update replaced pairs triggered) = ⊤

-- what there is to do before anything that changed is looked at, if there is
abbrev pub before_of : Bool → Bool → Bool → Option Row
before_of false true undropped = Some rows.Idle
before_of false false undropped = Some rows.Load
before_of true held false = Some rows.Prune
before_of true true true = Some rows.Idle
before_of true false true = None
