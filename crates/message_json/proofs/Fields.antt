-- What a field holds is what is written for it.
use Rattle.std.proofs.Common.{◌≡◌, ℕ, List, [], ◌∷◌, map, Bool, true, false, cond, ◌&&◌, nat_le, Option, Some, None, option_map, option_and_then, Result, Ok, Err, codes, refl, sym, ap, ◌∙◌, subst, bytes_eq}
use Rattle.std.proofs.lemmas.Slice.Eq.{bytes_eq-Decides}
use Rattle.std.specs.Prelude.{⊤, is_some}
use Rattle.serde_json.specs.Data.{Data, Num, null, boolean, number, unsigned, negative, float, string, array, object, Items, no_items, item}
use Rattle.serde_json.specs.View.{items_of}
use Rattle.serde_json.specs.Find.{get, as_str, as_null, as_number, as_u64, as_array}
use Rattle.json_readings.specs.Ordered.{IsOrdered, AreItemsOrdered}
use Rattle.json_readings.specs.Object.{KeyValue, entries, keys, rises, HasMembers}
use Rattle.json_readings.proofs.Objects.{same_object, ordered_get}
use Rattle.hmr_types.specs.ModName.{is_name}
use Rattle.hmr_types.specs.Table.{is_table}
use Rattle.message_text.specs.Values.{alone, only_path, whole, or_null, list, row, number_or_null}
use Rattle.message_json.specs.Reading.{Fault, ◌>>=◌, found, field, if_none, only, kind_of, if_holds, name_in, number_in, wanted_in, items_in, list_in, is_some_list, some_names_in, two_items, both, row_in, table_in, rising_in, plain_of, only_path_of, path_of}
use Rattle.message_json.specs.ServerReading.{text_in, is_short}
use Rattle.message_json.specs.Words.{spelled, word_in}
use Rattle.update_msgs.specs.Names.{rise}

-- ---- what gave a result

pub bind_ok : {A B : Type 0} (r : Result A Fault) (f : A → Result B Fault) (y : B) → (r >>= f) ≡ Ok y → (x : A) × (r ≡ Ok x) × (f x ≡ Ok y)
bind_ok (Ok x) f y h = (x, refl, h)
bind_ok (Err e) f y h = cc

abbrev pub ok : {A : Type 0} → A → Result A Fault
ok x = Ok x

pub ok_is : {A : Type 0} (x y : A) → ok x ≡ ok y → x ≡ y
ok_is x y h = cc

pub some_is : {A : Type 0} (x y : A) → Some x ≡ Some y → x ≡ y
some_is x y h = cc

pub found_some : {A : Type 0} (k : List ℕ) (o : Option A) (x : A) → found k o ≡ Ok x → o ≡ Some x
found_some k None x h = cc
found_some k (Some y) x h = cc

pub and_then_some : {A B : Type 0} (f : A → Option B) (o : Option A) (y : B) → option_and_then f o ≡ Some y → (x : A) × (o ≡ Some x) × (f x ≡ Some y)
and_then_some f None y h = cc
and_then_some f (Some x) y h = (x, refl, h)

pub map_some : {A B : Type 0} (f : A → B) (o : Option A) (y : B) → option_map f o ≡ Some y → (x : A) × (o ≡ Some x) × (f x ≡ y)
map_some f None y h = cc
map_some f (Some x) y h = (x, refl, some_is _ _ h)

holds_at : {A : Type 0} (p : A → Bool) (x y : A) (b : Bool) → p x ≡ b → cond b (Some x) None ≡ Some y → (x ≡ y) × (p y ≡ true)
holds_at p x y true is h = let same = some_is _ _ h in (same, ap p (sym same) ∙ is)
holds_at p x y false is h = cc

pub if_holds_some : {A : Type 0} (p : A → Bool) (x y : A) → if_holds p x ≡ Some y → (x ≡ y) × (p y ≡ true)
if_holds_some p x y h = holds_at p x y (p x) refl h

pub which : {A E : Type 0} {s : A} {P : Type 0} (b : Bool) (x y : Result A E) → (b ≡ true → x ≡ Ok s → P) → (b ≡ false → y ≡ Ok s → P) → cond b x y ≡ Ok s → P
which true x y p q h = p refl h
which false x y p q h = q refl h

pub which_some : {A : Type 0} {s : A} {P : Type 0} (b : Bool) (x y : Option A) → (b ≡ true → x ≡ Some s → P) → (b ≡ false → y ≡ Some s → P) → cond b x y ≡ Some s → P
which_some true x y p q h = p refl h
which_some false x y p q h = q refl h

pub text_is : (t k : List ℕ) → bytes_eq t k ≡ true → t ≡ k
text_is t k h = (bytes_eq-Decides t k).0 h

-- ---- readers and what is written

abbrev pub Exactly : {X : Type 0} → (Data → Option X) → (X → Data) → Type 0
Exactly {X} f w = (d : Data) (x : X) → IsOrdered d → f d ≡ Some x → d ≡ w x

pub str_exact : Exactly as_str string
str_exact null x a h = cc
str_exact (boolean b) x a h = cc
str_exact (number n) x a h = cc
str_exact (string s) x a h = ap string (some_is _ _ h)
str_exact (array ds) x a h = cc
str_exact (object ms) x a h = cc

-- null or what is written
abbrev pub or_nothing : {X : Type 0} → (X → Data) → Option X → Data
or_nothing w None = null
or_nothing w (Some x) = w x

pub null_exact : {X : Type 0} (d : Data) (x : Option X) → cond (is_some (as_null d)) (Some None) None ≡ Some x → (d ≡ null) × (x ≡ None)
null_exact null x h = (refl, sym (some_is _ _ h))
null_exact (boolean b) x h = cc
null_exact (number n) x h = cc
null_exact (string s) x h = cc
null_exact (array ds) x h = cc
null_exact (object ms) x h = cc

num_exact : (d : Data) (n : Num) → as_number d ≡ Some n → d ≡ number n
num_exact null n h = cc
num_exact (boolean b) n h = cc
num_exact (number m) n h = ap number (some_is _ _ h)
num_exact (string s) n h = cc
num_exact (array ds) n h = cc
num_exact (object ms) n h = cc

array_exact : (d : Data) (ds : Items) → as_array d ≡ Some ds → d ≡ array ds
array_exact null ds h = cc
array_exact (boolean b) ds h = cc
array_exact (number n) ds h = cc
array_exact (string s) ds h = cc
array_exact (array es) ds h = ap array (some_is _ _ h)
array_exact (object ms) ds h = cc

u64_exact : (n : Num) (m : ℕ) → as_u64 n ≡ Some m → n ≡ unsigned m
u64_exact (unsigned k) m h = ap unsigned (some_is _ _ h)
u64_exact (negative z) m h = cc
u64_exact (float x) m h = cc

pub name_exact : Exactly name_in string
unfolding name_in
name_exact d x a h =
    let s = and_then_some (if_holds is_name) (as_str d) x h in
    str_exact d s.0 a s.1 ∙ ap string (if_holds_some is_name s.0 x s.2).0

pub number_exact : (low high : ℕ) → Exactly (number_in low high) whole
unfolding number_in
number_exact low high d x a h =
    let m = and_then_some _ (option_and_then as_u64 (as_number d)) x h in
    let n = and_then_some as_u64 (as_number d) m.0 m.1 in
    num_exact d n.0 n.1 ∙ ap number (u64_exact n.0 m.0 n.2) ∙ ap whole (if_holds_some (λ n. nat_le low n && nat_le n high) m.0 x m.2).0

wanted_by : {X : Type 0} (b : Bool) (f : Data → Option X) (w : X → Data) → Exactly f w → Exactly (wanted_in b f) (or_nothing w)
unfolding wanted_in
wanted_by true f w e d x a h = let y = map_some Some (f d) x h in e d y.0 a y.1 ∙ ap (or_nothing w) y.2
wanted_by false f w e d x a h = let y = null_exact d x h in y.0 ∙ ap (or_nothing w) (sym y.1)

text_or_null : (x : Option (List ℕ)) → or_nothing string x ≡ or_null x
text_or_null None = refl
text_or_null (Some s) = refl

whole_or_null : (x : Option ℕ) → or_nothing whole x ≡ number_or_null x
whole_or_null None = refl
whole_or_null (Some n) = refl

pub wanted_exact : (b : Bool) (f : Data → Option (List ℕ)) → Exactly f string → Exactly (wanted_in b f) or_null
wanted_exact b f e d x a h = wanted_by b f string e d x a h ∙ text_or_null x

pub wanted_number_exact : (b : Bool) (low high : ℕ) → Exactly (wanted_in b (number_in low high)) number_or_null
wanted_number_exact b low high d x a h = wanted_by b (number_in low high) whole (number_exact low high) d x a h ∙ whole_or_null x

items_exact : {X : Type 0} (f : Data → Option X) (w : X → Data) → Exactly f w → (ds : Items) (xs : List X) → AreItemsOrdered ds → items_in f ds ≡ Some xs → ds ≡ items_of (map w xs)
unfolding items_in
items_exact f w e no_items xs a h = ap (λ ys. items_of (map w ys)) (some_is _ _ h)
items_exact f w e (item d ds) xs a h =
    let x = and_then_some (λ x. option_map (λ xs. x ∷ xs) (items_in f ds)) (f d) xs h in
    let ys = map_some (λ ys. x.0 ∷ ys) (items_in f ds) xs x.2 in
    ap (λ c. item c ds) (e d x.0 a.0 x.1) ∙ ap (item (w x.0)) (items_exact f w e ds ys.0 a.1 ys.1) ∙ ap (λ ys. items_of (map w ys)) ys.2

pub list_exact : {X : Type 0} (f : Data → Option X) (w : X → Data) → Exactly f w → Exactly (list_in f) (list w)
unfolding list_in
list_exact f w e d xs a h =
    let ds = and_then_some (items_in f) (as_array d) xs h in
    let is = array_exact d ds.0 ds.1 in
    is ∙ ap array (items_exact f w e ds.0 xs (subst IsOrdered is a) ds.2)

pub some_names_exact : (d : Data) (xs : List (List ℕ)) → IsOrdered d → some_names_in d ≡ Some xs → (d ≡ list string xs) × (is_some_list xs ≡ true)
unfolding some_names_in
some_names_exact d xs a h =
    let ys = and_then_some (if_holds is_some_list) (list_in name_in d) xs h in
    let same = if_holds_some is_some_list ys.0 xs ys.2 in
    (list_exact name_in string name_exact d ys.0 a ys.1 ∙ ap (list string) same.0, same.1)

two_exact : (ds : Items) (p : Data × Data) → two_items ds ≡ Some p → ds ≡ item p.0 (item p.1 no_items)
two_exact no_items p h = cc
two_exact (item a no_items) p h = cc
two_exact (item a (item b no_items)) p h = ap (λ q. item q.0 (item q.1 no_items)) (some_is _ _ h)
two_exact (item a (item b (item c ds))) p h = cc

pub row_exact : Exactly row_in row
unfolding row_in
row_exact d x a h =
    let p = and_then_some (λ p. both (name_in p.0) (number_in 1 _ p.1)) (option_and_then two_items (as_array d)) x h in
    let ds = and_then_some two_items (as_array d) p.0 p.1 in
    let is = array_exact d ds.0 ds.1 ∙ ap array (two_exact ds.0 p.0 ds.2) in
    let in_order = subst IsOrdered is a in
    let n = and_then_some (λ m. option_map (λ v. (m, v)) (number_in 1 _ p.0.1)) (name_in p.0.0) x p.2 in
    let v = map_some (λ v. (n.0, v)) (number_in 1 _ p.0.1) x n.2 in
    is ∙ ap (λ c. array (item c (item p.0.1 no_items))) (name_exact p.0.0 n.0 in_order.0 n.1)
    ∙ ap (λ c. array (item (string n.0) (item c no_items))) (number_exact 1 _ p.0.1 v.0 in_order.1.0 v.1) ∙ ap row v.2

pub table_exact : Exactly table_in (list row)
unfolding table_in
table_exact d xs a h =
    let ys = and_then_some (if_holds is_table) (list_in row_in d) xs h in
    list_exact row_in row row_exact d ys.0 a ys.1 ∙ ap (list row) (if_holds_some is_table ys.0 xs ys.2).0

-- a word is that of the one that it is read as
spelled_exact : {X : Type 0} (word : X → List ℕ) (xs : List X) (s : List ℕ) (x : X) → spelled word xs s ≡ Some x → s ≡ word x
unfolding spelled
spelled_exact word [] s x h = cc
spelled_exact word (y ∷ xs) s x h = which_some (bytes_eq s (word y)) _ _ (λ e f. text_is s (word y) e ∙ ap word (some_is _ _ f)) (λ e f. spelled_exact word xs s x f) h

pub word_exact : {X : Type 0} (word : X → List ℕ) (xs : List X) → Exactly (word_in word xs) (λ x. string (word x))
unfolding word_in
word_exact word xs d x a h =
    let s = and_then_some (spelled word xs) (as_str d) x h in
    str_exact d s.0 a s.1 ∙ ap string (spelled_exact word xs s.0 x s.2)

pub text_exact : Exactly text_in string
unfolding text_in
text_exact d x a h =
    let s = and_then_some (if_holds is_short) (as_str d) x h in
    str_exact d s.0 a s.1 ∙ ap string (if_holds_some is_short s.0 x s.2).0

pub rising_exact : Exactly rising_in (list string)
unfolding rising_in
rising_exact d xs a h =
    let ys = and_then_some (if_holds rise) (list_in name_in d) xs h in
    list_exact name_in string name_exact d ys.0 a ys.1 ∙ ap (list string) (if_holds_some rise ys.0 xs ys.2).0

pub some_list_exact : Exactly some_names_in (list string)
some_list_exact d xs a h = (some_names_exact d xs a h).0

-- ---- members

pub field_exact : {X : Type 0} (f : Data → Option X) (w : X → Data) → Exactly f w → (k : List ℕ) (d : Data) (x : X) → IsOrdered d → field f k d ≡ Ok x → get k d ≡ Some (w x)
unfolding field
field_exact f w e k d x a h =
    let v = and_then_some f (get k d) x (found_some k _ x h) in
    v.1 ∙ ap Some (e v.0 x (ordered_get k d v.0 a v.1) v.2)

none_only : (o : Option (List ℕ)) (u : ⊤) → if_none o ≡ Ok u → o ≡ None
none_only None u h = refl
none_only (Some k) u h = cc

-- A value with some member, whose keys are among these, and which has at each this value or nothing, is this object.
pub same_value : (es : List KeyValue) (k : List ℕ) (x d : Data) (u : ⊤) → rises (keys es) ≡ true → IsOrdered d → get k d ≡ Some x → HasMembers es d → only (keys es) d ≡ Ok u → d ≡ entries es
unfolding only
same_value es k x null u r a g m h = let bad : None ≡ Some x = g in cc
same_value es k x (boolean b) u r a g m h = let bad : None ≡ Some x = g in cc
same_value es k x (number n) u r a g m h = let bad : None ≡ Some x = g in cc
same_value es k x (string s) u r a g m h = let bad : None ≡ Some x = g in cc
same_value es k x (array ds) u r a g m h = let bad : None ≡ Some x = g in cc
same_value es k x (object ms) u r a g m h = ap object (same_object es ms r a.0 m (none_only _ u h))

pub kind_exact : (t : List ℕ) (d : Data) → IsOrdered d → kind_of d ≡ Some t → get (codes "type") d ≡ Some (string t)
kind_exact t d a h =
    let v = and_then_some as_str (get (codes "type") d) t h in
    v.1 ∙ ap Some (str_exact v.0 t (ordered_get (codes "type") d v.0 a v.1) v.2)

-- ---- messages of few fields, of either side

pub plain_exact : {M : Type 0} (written : M → Data) (t : List ℕ) (made m : M) (d : Data) → IsOrdered d → kind_of d ≡ Some t
    → written made ≡ alone t → plain_of made d ≡ Ok m → d ≡ written m
plain_exact written t made m d a kind is h =
    let type = kind_exact t d a kind in
    let none = bind_ok (only (codes "type" ∷ []) d) _ m h in
    same_value ((codes "type", Some (string t)) ∷ []) (codes "type") _ d none.0 refl a type (type, tt) none.1
    ∙ sym is ∙ ap written (ok_is _ _ none.2)

pub path_exact : {M : Type 0} (written : M → Data) (t : List ℕ) (made : List ℕ → M) (m : M) (d : Data) → IsOrdered d → kind_of d ≡ Some t
    → ((path : List ℕ) → written (made path) ≡ only_path t path) → path_of made d ≡ Ok m → d ≡ written m
path_exact written t made m d a kind is h =
    let type = kind_exact t d a kind in
    let given = bind_ok (only_path_of d) _ m h in
    let path = bind_ok (field name_in (codes "path") d) _ given.0 given.1 in
    let none = bind_ok (only (codes "path" ∷ codes "type" ∷ []) d) _ given.0 path.2 in
    same_value ((codes "path", Some (string path.0)) ∷ (codes "type", Some (string t)) ∷ []) (codes "type") _ d none.0 refl a type
    (field_exact _ string name_exact (codes "path") d path.0 a path.1, (type, tt)) none.1
    ∙ sym (is path.0) ∙ ap (λ p. written (made p)) (ok_is _ _ none.2) ∙ ap written (ok_is _ _ given.2)
