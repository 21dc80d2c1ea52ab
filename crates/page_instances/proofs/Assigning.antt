-- Assignments in turn leave each variable the last value that they give its name.
use Rattle.std.proofs.Common.{◌≡◌, ◌<◌, ◌+◌, ℕ, Bool, true, false, if◌then◌else◌, cond, List, [], ◌∷◌, ◌++◌, length, take, drop, set, get_or, subst, append_assoc, ◌≤◌, arith, Option, Some, None, refl, sym, ap, ◌∙◌, Bor}
use Rattle.std.specs.Prelude.{bytes_eq, fold, map}
use Rattle.std.specs.BTreeMap.{BTreeMap, get_by, UpdatesBy}
use Rattle.std.specs.Cmp.Lexicographic.{slice_cmp, nat_list_eq_equiv}
use Rattle.std.specs.Option.{option_copied}
use Rattle.std.specs.Ordering.{nat_cmp}
use Rattle.std.proofs.lemmas.List.{map-id, append-nil, drop-set-lt, drop_all, drop_more, take_all, take_more_set}
use Rattle.std.proofs.Math.Seq.{take-append_seam}
use Rattle.std.proofs.lemmas.List.Sums.{fold_more}
use Rattle.std.proofs.lemmas.Map.Text.{is_eq-slice_cmp}
use Rattle.hmr_types.specs.declared.value.Slot.{Slot}
use Rattle.hmr_types.specs.declared.value.Slot.TheVariants.{Val}
use Rattle.hmr_types.specs.declared.value.Value.{Value}
use Rattle.core_model.specs.Names.{Name, same_name}
use Rattle.client_model.specs.Language.{Slots}
use Rattle.client_model.specs.Running.{assigned}
use Rattle.page_instances.specs.Assigning.{TellsLast, last_value, value_in, with_value}

-- each variable with what is known of its name
abbrev pub with_values : (Name → Option Value) → Slots → Slots
with_values value rows = map (λ row. with_value (value row.0) row) rows

-- what is known of a name after one more change
abbrev after_change : (Name → Option Value) → Name × Value → Name → Option Value
after_change value change n = if same_name change.0 n then Some change.1 else value n

chosen : (row : Name × Slot) (known : Option Value) (v : Value) (b : Bool)
    → (if b then (row.0, Val v) else with_value known row) ≡ with_value (if b then Some v else known) row
chosen row known v true = refl
chosen row known v false = refl

row_assigned : (row : Name × Slot) (known : Option Value) (change : Name × Value)
    → (if same_name (with_value known row).0 change.0 then ((with_value known row).0, Val change.1) else with_value known row)
    ≡ with_value (if same_name change.0 row.0 then Some change.1 else known) row
row_assigned row None change =
    ap (λ (b : Bool). if b then (row.0, Val change.1) else row) (nat_list_eq_equiv.symm row.0 change.0)
    ∙ chosen row None change.1 (same_name change.0 row.0)
row_assigned row (Some known) change =
    ap (λ (b : Bool). if b then (row.0, Val change.1) else (row.0, Val known)) (nat_list_eq_equiv.symm row.0 change.0)
    ∙ chosen row (Some known) change.1 (same_name change.0 row.0)

once_assigned : (value : Name → Option Value) (change : Name × Value) (rows : Slots)
    → assigned (with_values value rows) change ≡ with_values (after_change value change) rows
once_assigned value change [] = refl
once_assigned value change (row ∷ rows) =
    ap (λ (r : Name × Slot). r ∷ assigned (with_values value rows) change) (row_assigned row (value row.0) change)
    ∙ ap (λ (rs : Slots). with_value (after_change value change row.0) row ∷ rs) (once_assigned value change rows)

all_assigned : (value : Name → Option Value) (changes : List (Name × Value)) (rows : Slots)
    → fold assigned (with_values value rows) changes
    ≡ with_values (λ n. fold (λ known change. if same_name change.0 n then Some change.1 else known) (value n) changes) rows
all_assigned value [] rows = refl
all_assigned value (change ∷ changes) rows =
    ap (λ (rs : Slots). fold assigned rs changes) (once_assigned value change rows)
    ∙ all_assigned (after_change value change) changes rows

-- the changes in turn leave each variable the last value of its name
pub last_assigned : (changes : List (Name × Value)) (rows : Slots) → fold assigned rows changes ≡ with_values (last_value changes) rows
last_assigned changes rows =
    ap (λ (rs : Slots). fold assigned rs changes) (sym (map-id rows)) ∙ all_assigned (λ n. None) changes rows

told_step : (known : Option (Bor Value)) (last : Option Value) (value : Bor Value) (v : Value) (b : Bool) → option_copied known ≡ last → value.now ≡ v
    → option_copied (cond b (Some value) known) ≡ (if b then Some v else last)
told_step known last value v true is same = ap Some same
told_step known last value v false is same = is

told_more : (changes : List (Name × Value)) (place : ℕ) (change : Name × Value) (value : Bor Value) (before after : BTreeMap Name (Bor Value))
    → place < length changes → change ≡ get_or changes place change → value.now ≡ change.1 → TellsLast before (take place changes)
    → UpdatesBy (slice_cmp nat_cmp) (slice_cmp nat_cmp change.0) before after (Some value)
    → (n : Name) → value_in after n ≡ last_value (take (place + 1) changes) n
told_more changes place change value before after lt is same tells updates n =
    let more : Option Value → Name × Value → Option Value = λ known c. if same_name c.0 n then Some c.1 else known in
    let was = get_by (slice_cmp nat_cmp n) before in
    let last = last_value (take place changes) n in
    ap option_copied (updates.0 n)
    ∙ (ap (λ (b : Bool). option_copied (cond b (Some value) was)) (is_eq-slice_cmp change.0 n)
    ∙ (told_step was last value change.1 (bytes_eq change.0 n) (tells.each n) same
    ∙ (ap (more last) is
    ∙ sym (fold_more more None changes place change lt))))

-- with one more change
pub tells_more : (changes : List (Name × Value)) (place : ℕ) (change : Name × Value) (key : Name) (value : Bor Value) (before after : BTreeMap Name (Bor Value))
    → place < length changes → change ≡ get_or changes place change → key ≡ change.0 → value.now ≡ change.1 → TellsLast before (take place changes)
    → UpdatesBy (slice_cmp nat_cmp) (slice_cmp nat_cmp key) before after (Some value)
    → TellsLast after (take (place + 1) changes)
tells_more changes place change key value before after lt is named same tells updates =
    let by_name = subst (λ (k : Name). UpdatesBy (slice_cmp nat_cmp) (slice_cmp nat_cmp k) before after (Some value)) named updates in
    record { each = told_more changes place change value before after lt is same tells by_name }

-- one more variable gets the last value of its name, which an index tells
pub next_given : (index : BTreeMap Name (Bor Value)) (changes : List (Name × Value)) (rows : Slots) (i : ℕ) (row after : Name × Slot)
    → TellsLast index changes → i < length rows → after ≡ with_value (value_in index (get_or rows i row).0) (get_or rows i row)
    → take (i + 1) (set rows i after) ++ with_values (last_value changes) (drop (i + 1) (set rows i after))
    ≡ take i rows ++ with_values (last_value changes) (drop i rows)
next_given index changes rows i row after tells lt gets =
    let was = get_or rows i row in
    let rest = with_values (last_value changes) (drop (i + 1) rows) in
    let here : after ≡ with_value (last_value changes was.0) was = gets ∙ ap (λ (v : Option Value). with_value v was) (tells.each was.0) in
    let beyond : drop (i + 1) (set rows i after) ≡ drop (i + 1) rows = drop-set-lt (i + 1) rows i after (omega arith) in
    rw (take_more_set rows i after lt, beyond, drop_more rows i row lt, append_assoc) (ap (λ (r : Name × Slot). take i rows ++ r ∷ rest) here)

-- all variables got theirs
pub all_given : (changes : List (Name × Value)) (before rows : Slots) (n i : ℕ) → n ≡ length rows → length rows ≤ i
    → take i rows ++ with_values (last_value changes) (drop i rows) ≡ with_values (last_value changes) before
    → take n (rows ++ drop (length rows) before) ≡ fold assigned before changes
all_given changes before rows n i long end given =
    let whole : rows ≡ take i rows ++ with_values (last_value changes) (drop i rows) = rw (take_all i rows end, drop_all i rows end, append-nil rows) in
    rw (long, take-append_seam) (whole ∙ given ∙ sym (last_assigned changes before))
