-- The plan that a JSON value is: its members in this order, and then how many modules it names, each once.
use Rattle.std.specs.Prelude.{◌≡◌, ℕ, ◌+◌, List, [], ◌∷◌, length, codes, Bool, ◌&&◌, nat_le, if◌then◌else◌, IsUtf8}
use Rattle.std.specs.Prelude.{Option, Some, None, is_some, option_and_then, option_map, Result, Ok, Err}
use Rattle.std.specs.BTreeMap.{BTreeMap, insert_entry}
use Rattle.std.specs.Cmp.Lexicographic.{slice_cmp}
use Rattle.std.specs.List.{list_any}
use Rattle.std.specs.Ordering.{nat_cmp}
use Rattle.serde_json.specs.Data.{Data, Items, no_items, item, Members, no_members, member}
use Rattle.serde_json.specs.Find.{get, as_array, as_bool, as_number, as_object, as_str, as_u64}
use Rattle.serde_json.specs.Read.{read}
use Rattle.hmr_types.specs.ModName.{is_name}
use Rattle.hmr_types.specs.declared.limits.TheConstants.{LARGEST_NUMBER, SOURCE_NAMES}
use Rattle.instance_urls.specs.Plans.{plan_of}
use Rattle.instance_urls.specs.declared.plan_id.PlanId.{PlanId}
use Rattle.told_plans.specs.Plans.{Told, at}
use Rattle.told_plans.specs.declared.fault.PlanFault.{PlanFault}
use Rattle.told_plans.specs.declared.fault.PlanFault.TheVariants as faults
use Rattle.told_plans.specs.declared.told_plan.Kept.{Kept}

-- what the bytes stand for
pub record HasReading (bytes : List ℕ) (d : Data) : Type 0 where
  pub utf8 : IsUtf8 bytes
  pub value : read bytes ≡ Some d

-- what a function returned is what reading gives, unless memory ran out
abbrev pub Gives : {Y : Type 0} → Result Y PlanFault → Result Y PlanFault → Type 0
Gives (Ok y) r = r ≡ Ok y
Gives (Err faults.NoMemory) r = Unit {0}
Gives (Err e) r = r ≡ Err e

-- the same of rows that stand in a map
abbrev pub GivesRows : {X : Type 0} → Result (BTreeMap (List ℕ) X) PlanFault → Result (List (List ℕ × X)) PlanFault → Type 0
GivesRows (Ok m) r = r ≡ Ok m.entries
GivesRows (Err faults.NoMemory) r = Unit {0}
GivesRows (Err e) r = r ≡ Err e

infixl 10 ◌>>=◌
abbrev pub ◌>>=◌ : {A B : Type 0} → Result A PlanFault → (A → Result B PlanFault) → Result B PlanFault
(Ok x) >>= f = f x
(Err e) >>= f = Err e

-- from 1 to the largest number
abbrev pub as_version : ℕ → Option ℕ
as_version n = if nat_le 1 n && nat_le n LARGEST_NUMBER then Some n else None

abbrev pub version_in : Data → Option ℕ
version_in d = option_and_then as_version (option_and_then as_u64 (as_number d))

abbrev pub id_in : Data → Option PlanId
id_in d = option_and_then plan_of (as_str d)

-- the text of a plan, or none for the plain URL
abbrev pub place_of : List ℕ → Option (Option PlanId)
place_of [] = Some None
place_of (b ∷ bs) = option_map Some (plan_of (b ∷ bs))

abbrev pub place_in : Data → Option (Option PlanId)
place_in d = option_and_then place_of (as_str d)

abbrev pub two_items : Items → Option (Data × Data)
two_items no_items = None
two_items (item a no_items) = None
two_items (item a (item b no_items)) = Some (a, b)
two_items (item a (item b (item c ds))) = None

abbrev pub kept_of : Option (Option PlanId) → Option ℕ → Option Kept
kept_of None version = None
kept_of (Some plan) None = None
kept_of (Some plan) (Some version) = Some (record { plan = plan; version = version })

abbrev pub kept_by : Option (Data × Data) → Option Kept
kept_by None = None
kept_by (Some p) = kept_of (place_in p.0) (version_in p.1)

-- a list of a plan and a version
abbrev pub kept_in : Data → Option Kept
kept_in d = kept_by (option_and_then two_items (as_array d))

-- a name with what stands beside it
abbrev pub named : {X : Type 0} → (Data → Option X) → List ℕ → Data → Option X
named f k d = if is_name k then f d else None

-- the members behind these rows
abbrev pub put_members : {X : Type 0} → (Data → Option X) → List (List ℕ × X) → Members → Option (List (List ℕ × X))
put_members f rows no_members = Some rows
put_members f rows (member k d ms) = option_and_then (λ x. put_members f (insert_entry (slice_cmp nat_cmp) rows k x) ms) (named f k d)

abbrev pub rows_in : {X : Type 0} → (Data → Option X) → Data → Option (List (List ℕ × X))
rows_in f d = option_and_then (put_members f []) (as_object d)

-- the value at a key, as f reads it
abbrev pub needed : {X : Type 0} → PlanFault → Option X → Result X PlanFault
needed fault None = Err fault
needed fault (Some x) = Ok x

abbrev pub field : {X : Type 0} → PlanFault → (Data → Option X) → List ℕ → Data → Result X PlanFault
field fault f k d = needed fault (option_and_then f (get k d))

-- a module is both made and kept
abbrev pub is_twice : Told → Bool
is_twice t = list_any (λ r. is_some (at t.made r.0)) t.kept

abbrev pub checked : Told → Result Told PlanFault
checked t =
    if nat_le (length t.made + length t.kept) SOURCE_NAMES then (if is_twice t then Err faults.Twice else Ok t)
    else Err faults.TooMany

-- the plan that a value is
abbrev pub told_of : Data → Result Told PlanFault
told_of d = do
  id ← field faults.WrongPlan id_in (codes "plan") d
  plain ← field faults.WrongPlain as_bool (codes "plain") d
  made ← field faults.WrongMade (rows_in version_in) (codes "made") d
  kept ← field faults.WrongKept (rows_in kept_in) (codes "kept") d
  checked (record { id = id; plain = plain; made = made; kept = kept })

-- the plan that the bytes stand for
abbrev pub IsToldBy : List ℕ → Told → Type 0
IsToldBy bytes t = (d : Data) × HasReading bytes d × (told_of d ≡ Ok t)

-- why bytes were refused that stand for a value: the value has this fault
abbrev pub HasCause : List ℕ → PlanFault → Type 0
HasCause bytes faults.NotJson = Unit {0}
HasCause bytes faults.NoMemory = Unit {0}
HasCause bytes fault = (d : Data) × HasReading bytes d × (told_of d ≡ Err fault)
