-- Why the command stops.
use Rattle.std.proofs.Common.{◌≡◌, ◌<◌, ℕ, List, refl, ap, sym, ◌∙◌, subst, inl, inr, arith, length}
use Rattle.std.specs.Prelude.{Option, Some, None, Result, Err, IfErr, IfSome}
use Rattle.std.specs.Global.{Vec}
use Rattle.std.proofs.lemmas.List.{length-map}
use Rattle.std.proofs.lemmas.Map.Made.{keys_of-map_values}
use Rattle.std.specs.Cmp.Lexicographic.{slice_cmp}
use Rattle.std.specs.Ordering.{nat_cmp}
use Rattle.std.specs.List.Sorted.{IsStrictlySortedBy}
use Rattle.std.specs.Option.{option_map}
use Prim.{⊥}
use Rattle.hmr_base.specs.Causes.{Rose}
use Rattle.hmr_types.specs.declared.limits.TheConstants.{SOURCE_NAMES}
use Rattle.folders.specs.Files.{next_files}
use Rattle.folder_watch.specs.declared.scan_stop.ScanStop.{ScanStop}
use Rattle.folder_watch.specs.declared.scan_stop.ScanStop.TheVariants as scans
use Rattle.folder_watch.specs.Edits.{rows_of}
use Rattle.folder_watch.specs.Listings.{Rises}
use Rattle.folder_watch.specs.Scans.{StopsFor}
use Rattle.command_ends.specs.declared.limit.Limit.TheVariants as limits
use Rattle.page_command.specs.declared.stop.PageStop.{PageStop}
use Rattle.page_command.specs.declared.stop.PageStop.TheVariants.{NoMemory, Tree, Unread, Unwritten}
use Rattle.page_command.specs.declared.stop.PageStop.TheVariants.{Limit as AtLimit}
use Rattle.page_command.specs.Folder.{AreFirst, Files, StopsEarly}
use Rattle.page_command.specs.Opening.{Edit}
use Rattle.page_command.specs.Stops.{StopsEdits, stop_of_scan}

-- a stop that a `?` passes on
abbrev Passes : {T : Type 0} → Result T PageStop → PageStop → Type 0
Passes r stop = (y : PageStop) × (r ≡ Err y) × (y ≡ stop)

passed : {T : Type 0} (P : PageStop → Type 0) (r : Result T PageStop) (stop : PageStop) → Passes r stop → P stop → IfErr r P
passed P r stop told h = subst (λ x. IfErr x P) (sym (told.1 ∙ ap Err told.2)) h

pub err_is : {T : Type 0} (r : Result T PageStop) (stop other : PageStop) → r ≡ Err stop → r ≡ Err other → stop ≡ other
err_is r stop other e f = cc

passed_as : {T : Type 0} (r : Result T PageStop) (stop other : PageStop) → Passes r stop → r ≡ Err other → stop ≡ other
passed_as r stop other told e = sym told.2 ∙ err_is r told.0 other told.1 e

-- the scan stopped
pub at_scan : {T : Type 0} (coming : Option (List Files)) (r : Result T PageStop) (scan : ScanStop) → Passes r (stop_of_scan scan)
    → IfSome coming (λ files. StopsFor (next_files files) scan) → IfErr r (StopsEarly coming)
at_scan coming r scan told stops =
    passed (StopsEarly coming) r (stop_of_scan scan) told (inl (record { scan = scan; stops = stops; stop_is = refl }))

-- memory ran out
any_memory : (coming : Option (List Files)) → IfSome coming (λ files. StopsFor (next_files files) scans.NoMemory)
any_memory None = tt
any_memory (Some files) = tt

pub at_memory : {T : Type 0} (coming : Option (List Files)) (r : Result T PageStop) → Passes r NoMemory → IfErr r (StopsEarly coming)
at_memory coming r told =
    passed (StopsEarly coming) r NoMemory told (inl (record { scan = scans.NoMemory; stops = any_memory coming; stop_is = refl }))

-- an edit stopped it
pub at_edits : {T : Type 0} (coming : Option (List Files)) (r : Result T PageStop) (edits : List Edit) (stop : PageStop) → AreFirst coming edits
    → Passes r stop → StopsEdits edits stop → IfErr r (StopsEarly coming)
at_edits coming r edits stop first told stops =
    passed (StopsEarly coming) r stop told (inr (record { edits = edits; first = first; stops = stops }))

-- a fault of the tree comes from the scan
scan_tree : (scan : ScanStop) → stop_of_scan scan ≡ Tree → scan ≡ scans.TreeFault
scan_tree scans.TreeFault e = refl
scan_tree scans.TooManyNames e = absurd (cc)
scan_tree (scans.TextTooLong path) e = absurd (cc)
scan_tree scans.NoMemory e = absurd (cc)

pub tree_of_scan : {T : Type 0} (r : Result T PageStop) (scan : ScanStop) (n m : ℕ) → Passes r (stop_of_scan scan)
    → (scan ≡ scans.TreeFault → Rose n m) → r ≡ Err Tree → Rose n m
tree_of_scan r scan n m told h e = h (scan_tree scan (passed_as r (stop_of_scan scan) Tree told e))

pub tree_of_memory : {T : Type 0} {A : Type 0} (r : Result T PageStop) → Passes r NoMemory → r ≡ Err Tree → A
tree_of_memory r told e = let never : NoMemory ≡ Tree = passed_as r NoMemory Tree told e in absurd (cc)

edits_tree : (edits : List Edit) (stop : PageStop) → StopsEdits edits stop → stop ≡ Tree → ⊥
edits_tree edits Unread h e = h
edits_tree edits Unwritten h e = h
edits_tree edits Tree h e = h
edits_tree edits (AtLimit limit) h e = cc
edits_tree edits NoMemory h e = cc

pub tree_of_edits : {T : Type 0} {A : Type 0} (r : Result T PageStop) (edits : List Edit) (stop : PageStop) → Passes r stop → StopsEdits edits stop
    → r ≡ Err Tree → A
tree_of_edits r edits stop told h e = absurd (edits_tree edits stop h (passed_as r stop Tree told e))

-- before the first request neither the input nor the output fails
scan_silent : (scan : ScanStop) (stop : PageStop) → stop ≡ stop_of_scan scan → (stop ≡ Unread → ⊥) × (stop ≡ Unwritten → ⊥)
scan_silent scans.TreeFault stop is = (λ e. cc, λ e. cc)
scan_silent scans.TooManyNames stop is = (λ e. cc, λ e. cc)
scan_silent (scans.TextTooLong path) stop is = (λ e. cc, λ e. cc)
scan_silent scans.NoMemory stop is = (λ e. cc, λ e. cc)

edits_silent : (edits : List Edit) (stop : PageStop) → StopsEdits edits stop → (stop ≡ Unread → ⊥) × (stop ≡ Unwritten → ⊥)
edits_silent edits Unread h = (λ e. h, λ e. h)
edits_silent edits Unwritten h = (λ e. h, λ e. h)
edits_silent edits Tree h = (λ e. cc, λ e. cc)
edits_silent edits (AtLimit limit) h = (λ e. cc, λ e. cc)
edits_silent edits NoMemory h = (λ e. cc, λ e. cc)

pub early_silent : (coming : Option (List Files)) (stop : PageStop) → StopsEarly coming stop → (stop ≡ Unread → ⊥) × (stop ≡ Unwritten → ⊥)
early_silent coming stop (inl s) = scan_silent s.scan stop s.stop_is
early_silent coming stop (inr s) = edits_silent s.edits stop s.stops

-- the edits rise as the rows that were handed over
abbrev Row : Type 0
Row = List ℕ × Option (Vec ℕ)

pub rising_rows : (edits : List Row) → Rises edits → Rises (rows_of edits)
rising_rows edits h =
    subst (λ ks. IsStrictlySortedBy (slice_cmp nat_cmp) ks) (sym (keys_of-map_values (option_map (λ (t : Vec ℕ). t.items)) edits)) h

-- there are more of them than names may be
pub many_stop : (edits : List Row) → SOURCE_NAMES < length edits → StopsEdits (rows_of edits) (AtLimit limits.Names)
many_stop edits many =
    let long : length (rows_of edits) ≡ length edits = length-map edits (λ (e : Row). (e.0, option_map (λ (t : Vec ℕ). t.items) e.1)) in
    inr (omega (arith, long, many))
