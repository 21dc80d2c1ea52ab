-- A list that is read an item at a time.
use Rattle.std.specs.Borrow.{Bor}
use Rattle.std.specs.List.{list_any}
use Rattle.std.specs.Prelude.{is_some, if◌then◌else◌}
use Rattle.json_readings.specs.Object.{one_of}
use Rattle.update_msgs.specs.Names.{rise}
use Rattle.std.specs.Ordering.{is_lt}
use Rattle.std.specs.Cmp.Lexicographic.{slice_cmp}
use Rattle.serde_json.specs.Find.{at, as_array}
use Rattle.std.proofs.lemmas.List.{drop_more, drop_all, length-drop}
use Rattle.serde_json.specs.View.{view, items_view}
use Rattle.serde_json.specs.declared.value.Value.{Value}
use Rattle.std.proofs.Common.{append-nil, nat_cmp, ◌&&◌, arith, ◌-◌, ◌<◌, ◌≤◌, ◌+◌, drop, length, get_or, map, bytes_eq, ◌||◌, true, ◌≡◌, ℕ, List, [], ◌∷◌, ◌++◌, Option, Some, None, option_map, option_and_then, refl, sym, ap, ◌∙◌, append_assoc}
use Rattle.serde_json.specs.Data.{Data, null, boolean, number, string, array, object, Items, no_items, item}
use Rattle.message_json.specs.Reading.{items_in, two_items}

abbrev pub after : {X : Type 0} → List X → Option (List X) → Option (List X)
after xs o = option_map (λ ys. xs ++ ys) o

step : {X : Type 0} (xs : List X) (x : X) (o : Option (List X)) → after xs (option_map (λ ys. x ∷ ys) o) ≡ after (xs ++ x ∷ []) o
step xs x None = refl
step xs x (Some ys) = ap Some (sym (append_assoc xs (x ∷ []) ys))

pub one_more : {X : Type 0} (f : Data → Option X) (xs : List X) (x : X) (d : Data) (ds : Items) → f d ≡ Some x → after xs (items_in f (item d ds)) ≡ after (xs ++ x ∷ []) (items_in f ds)
unfolding items_in
one_more f xs x d ds h = ap (λ o. after xs (option_and_then (λ x. option_map (λ xs. x ∷ xs) (items_in f ds)) o)) h ∙ step xs x (items_in f ds)

pub one_bad : {X : Type 0} (f : Data → Option X) (xs : List X) (d : Data) (ds : Items) → f d ≡ None → after xs (items_in f (item d ds)) ≡ None
unfolding items_in
one_bad f xs d ds h = ap (λ o. after xs (option_and_then (λ x. option_map (λ xs. x ∷ xs) (items_in f ds)) o)) h

pub all_read : {X : Type 0} (f : Data → Option X) (xs : List X) → after xs (items_in f no_items) ≡ Some xs
unfolding items_in
all_read f xs = ap Some (append-nil xs)

pub any_map : (known : List (Bor (List ℕ))) (k : List ℕ) → list_any (λ n. bytes_eq n.now k) known ≡ one_of (map (λ n. n.now) known) k
any_map [] k = refl
any_map (b ∷ bs) k = ap (λ r. bytes_eq b.now k || r) (any_map bs k)

abbrev pub two_of : Option Data → Option Data → Option Data → Option (Data × Data)
two_of a b c = option_and_then (λ x. option_and_then (λ y. if is_some c then None else Some (x, y)) b) a

two_at_items : (ds : Items) → option_and_then two_items (as_array (array ds)) ≡ two_of (at 0 (array ds)) (at 1 (array ds)) (at 2 (array ds))
two_at_items no_items = refl
two_at_items (item a no_items) = refl
two_at_items (item a (item b no_items)) = refl
two_at_items (item a (item b (item c ds))) = refl

-- a list of two, by its places
pub two_at : (d : Data) → option_and_then two_items (as_array d) ≡ two_of (at 0 d) (at 1 d) (at 2 d)
two_at null = refl
two_at (boolean b) = refl
two_at (number n) = refl
two_at (string s) = refl
two_at (array ds) = two_at_items ds
two_at (object ms) = refl

-- ---- over a slice of values

pub one_read : {X : Type 0} (f : Data → Option X) (xs : List X) (vs : List Value) (i : ℕ) (v : Value) (x : X) → i < length vs → v ≡ get_or vs i v → f (view v) ≡ Some x
    → after xs (items_in f (items_view (drop i vs))) ≡ after (xs ++ x ∷ []) (items_in f (items_view (drop (i + 1) vs)))
one_read f xs vs i v x lt is h =
    ap (λ us. after xs (items_in f (items_view us))) (drop_more vs i v lt ∙ ap (λ u. u ∷ drop (i + 1) vs) (sym is)) ∙ one_more f xs x (view v) (items_view (drop (i + 1) vs)) h

pub one_refused : {X : Type 0} (f : Data → Option X) (xs : List X) (vs : List Value) (i : ℕ) (v : Value) → i < length vs → v ≡ get_or vs i v → f (view v) ≡ None → after xs (items_in f (items_view (drop i vs))) ≡ None
one_refused f xs vs i v lt is h =
    ap (λ us. after xs (items_in f (items_view us))) (drop_more vs i v lt ∙ ap (λ u. u ∷ drop (i + 1) vs) (sym is)) ∙ one_bad f xs (view v) (items_view (drop (i + 1) vs)) h

pub all_done : {X : Type 0} (f : Data → Option X) (xs : List X) (vs : List Value) (i : ℕ) → length vs ≤ i → after xs (items_in f (items_view (drop i vs))) ≡ Some xs
all_done f xs vs i le = ap (λ us. after xs (items_in f (items_view us))) (drop_all i vs le) ∙ all_read f xs

-- ---- a list that rises

short_names : (ks : List (List ℕ)) → length ks ≤ 1 → rise ks ≡ true
short_names [] h = refl
short_names (k ∷ []) h = refl
short_names (k ∷ l ∷ ks) h = let never : ⊥ = omega arith in absurd never

pub last_name_rises : (ks : List (List ℕ)) (i : ℕ) → length ks ≤ i → rise (drop (i - 1) ks) ≡ true
last_name_rises ks i h = short_names (drop (i - 1) ks) (omega (arith, h, length-drop (i - 1) ks))

below_then : (a b : List ℕ) (ks : List (List ℕ)) → is_lt (slice_cmp nat_cmp a b) ≡ true → rise (b ∷ ks) ≡ rise (a ∷ b ∷ ks)
below_then a b ks h = ap (λ t. t && rise (b ∷ ks)) (sym h)

pub rises_step : (ks : List (List ℕ)) (i : ℕ) (a b : List ℕ) → 1 ≤ i → i < length ks → a ≡ get_or ks (i - 1) a → b ≡ get_or ks i b → is_lt (slice_cmp nat_cmp a b) ≡ true
    → rise (drop (i + 1 - 1) ks) ≡ rise (drop (i - 1) ks)
rises_step ks i a b one lt at_a at_b h =
    let here : i + 1 - 1 ≡ i = omega arith in
    let next : i - 1 + 1 ≡ i = omega arith in
    let second : drop i ks ≡ b ∷ drop (i + 1) ks = drop_more ks i b lt ∙ ap (λ k. k ∷ drop (i + 1) ks) (sym at_b) in
    let first : drop (i - 1) ks ≡ a ∷ drop i ks = drop_more ks (i - 1) a (omega (arith, lt, one)) ∙ ap (λ k. k ∷ drop (i - 1 + 1) ks) (sym at_a) ∙ ap (λ n. a ∷ drop n ks) next in
    ap (λ n. rise (drop n ks)) here ∙ ap rise second ∙ below_then a b (drop (i + 1) ks) h ∙ ap (λ l. rise (a ∷ l)) (sym second) ∙ ap rise (sym first)
