-- How the members of a message are read from the JSON value that bytes stand for, and in which order faults
-- come: the fields in the order of the message's table, and then further keys.
use Rattle.std.specs.Prelude.{is_some, ◌≡◌, ℕ, List, [], ◌∷◌, codes, Bool, true, false}
use Rattle.std.specs.Prelude.{◌&&◌, nat_le, if◌then◌else◌, Option, Some, None, option_and_then}
use Rattle.std.specs.Prelude.{option_map, Result, Ok, Err, ⊤}
use Rattle.serde_json.specs.Data.{Data, Items, no_items, item}
use Rattle.serde_json.specs.Find.{get, as_str, as_null, as_number, as_u64, as_array, as_object}
use Rattle.json_readings.specs.Object.{one_of, further_member}
use Rattle.std.specs.Global.{Vec}
use Rattle.hmr_types.specs.ModName.{is_name}
use Rattle.hmr_types.specs.Table.{is_table}
use Rattle.hmr_types.specs.declared.limits.TheConstants.{LARGEST_NUMBER}
use Rattle.message_text.specs.Values.{HasReading}
use Rattle.update_msgs.specs.Names.{rise}
use Rattle.message_json.specs.declared.fault.MsgFault.{MsgFault}
use Rattle.message_json.specs.declared.fault.MsgFault.TheVariants as errors

-- Faults.

pub data Fault : Type 0 where
  no_type : Fault
  bad_field : List ℕ → Fault
  extra_field : List ℕ → Fault

infixl 10 ◌>>=◌
abbrev pub ◌>>=◌ : {A B : Type 0} → Result A Fault → (A → Result B Fault) → Result B Fault
(Ok x) >>= f = f x
(Err e) >>= f = Err e

abbrev pub Fails : {Y : Type 0} → MsgFault → Result Y Fault → Type 0
Fails errors.NotJson r = ⊥
Fails errors.NoType r = r ≡ Err no_type
Fails (errors.BadField k) r = r ≡ Err (bad_field k)
Fails (errors.ExtraField k) r = r ≡ Err (extra_field k)
Fails errors.NoMemory r = ⊤

-- what a function returned is what reading gives, unless memory ran out
abbrev pub Gives : {Y : Type 0} → Result Y MsgFault → Result Y Fault → Type 0
Gives (Ok y) r = r ≡ Ok y
Gives (Err e) r = Fails e r

-- bytes stand for a value in which f finds this fault first
abbrev pub ReadsWith : {Y : Type 0} → List ℕ → (Data → Result Y Fault) → Fault → Type 0
ReadsWith bytes f fault = (d : Data) × HasReading bytes d × (f d ≡ Err fault)

-- why bytes were refused, which f reads: they stand for no value, or for one with this fault; of want of
-- memory nothing is said
abbrev pub HasCause : {Y : Type 0} → List ℕ → (Data → Result Y Fault) → MsgFault → Type 0
HasCause bytes f errors.NotJson = (d : Data) → ¬ (HasReading bytes d)
HasCause bytes f errors.NoType = ReadsWith bytes f no_type
HasCause bytes f (errors.BadField k) = ReadsWith bytes f (bad_field k)
HasCause bytes f (errors.ExtraField k) = ReadsWith bytes f (extra_field k)
HasCause bytes f errors.NoMemory = ⊤

-- the same of a list that stands in a vector
abbrev pub GivesList : {Y : Type 0} → Result (Vec Y) MsgFault → Result (List Y) Fault → Type 0
GivesList (Ok ys) r = r ≡ Ok ys.items
GivesList (Err e) r = Fails e r

-- Members.

abbrev pub found : {X : Type 0} → List ℕ → Option X → Result X Fault
found k None = Err (bad_field k)
found k (Some x) = Ok x

-- the value at k, as f reads it
unfoldable pub field : {X : Type 0} → (Data → Option X) → List ℕ → Data → Result X Fault
field f k d = found k (option_and_then f (get k d))

abbrev pub found_or : {X : Type 0} → X → (Data → Option X) → List ℕ → Option Data → Result X Fault
found_or none f k None = Ok none
found_or none f k (Some d) = found k (f d)

-- the same of a key that may be absent
unfoldable pub field_or : {X : Type 0} → X → (Data → Option X) → List ℕ → Data → Result X Fault
field_or none f k d = found_or none f k (get k d)

abbrev pub if_none : Option (List ℕ) → Result ⊤ Fault
if_none None = Ok tt
if_none (Some k) = Err (extra_field k)

-- no keys but these
unfoldable pub only : List (List ℕ) → Data → Result ⊤ Fault
only known d = if_none (option_and_then (further_member (one_of known)) (as_object d))

abbrev pub kind_of : Data → Option (List ℕ)
kind_of d = option_and_then as_str (get (codes "type") d)

-- Values, as they are read.

abbrev pub if_holds : {X : Type 0} → (X → Bool) → X → Option X
if_holds p x = if p x then Some x else None

-- a name that is there is one
abbrev pub HasName : Option (List ℕ) → Type 0
HasName None = ⊤
HasName (Some n) = is_name n ≡ true

unfoldable pub name_in : Data → Option (List ℕ)
name_in d = option_and_then (if_holds is_name) (as_str d)

-- from low to high
unfoldable pub number_in : ℕ → ℕ → Data → Option ℕ
number_in low high d =
    option_and_then (if_holds (λ n. nat_le low n && nat_le n high)) (option_and_then as_u64 (as_number d))

-- null, unless a value is wanted
unfoldable pub wanted_in : {X : Type 0} → Bool → (Data → Option X) → Data → Option (Option X)
wanted_in true f d = option_map Some (f d)
wanted_in false f d = if is_some (as_null d) then Some None else None

unfoldable pub items_in : {X : Type 0} → (Data → Option X) → Items → Option (List X)
items_in f no_items = Some []
items_in f (item d ds) = option_and_then (λ x. option_map (λ xs. x ∷ xs) (items_in f ds)) (f d)

unfoldable pub list_in : {X : Type 0} → (Data → Option X) → Data → Option (List X)
list_in f d = option_and_then (items_in f) (as_array d)

abbrev pub is_some_list : {X : Type 0} → List X → Bool
is_some_list [] = false
is_some_list (x ∷ xs) = true

-- one name or more
unfoldable pub some_names_in : Data → Option (List (List ℕ))
some_names_in d = option_and_then (if_holds is_some_list) (list_in name_in d)

abbrev pub two_items : Items → Option (Data × Data)
two_items no_items = None
two_items (item a no_items) = None
two_items (item a (item b no_items)) = Some (a, b)
two_items (item a (item b (item c ds))) = None

abbrev pub both : {X Y : Type 0} → Option X → Option Y → Option (X × Y)
both x y = option_and_then (λ a. option_map (λ b. (a, b)) y) x

-- a list of a name and a version
unfoldable pub row_in : Data → Option (List ℕ × ℕ)
row_in d =
    option_and_then (λ p. both (name_in p.0) (number_in 1 LARGEST_NUMBER p.1))
    (option_and_then two_items (as_array d))

-- rows that are a table
unfoldable pub table_in : Data → Option (List (List ℕ × ℕ))
table_in d = option_and_then (if_holds is_table) (list_in row_in d)

-- names that rise
unfoldable pub rising_in : Data → Option (List (List ℕ))
rising_in d = option_and_then (if_holds rise) (list_in name_in d)

-- Messages of few fields.

-- a message that has no fields
abbrev pub plain_of : {M : Type 0} → M → Data → Result M Fault
plain_of m d = do
  none ← only (codes "type" ∷ []) d
  Ok m

-- the path of a message that has no other field
abbrev pub only_path_of : Data → Result (List ℕ) Fault
only_path_of d = do
  path ← field name_in (codes "path") d
  none ← only (codes "path" ∷ codes "type" ∷ []) d
  Ok path

-- a message with a path alone
abbrev pub path_of : {M : Type 0} → (List ℕ → M) → Data → Result M Fault
path_of made d = do
  path ← only_path_of d
  Ok (made path)
