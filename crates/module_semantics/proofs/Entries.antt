-- What a new value at a name leaves of the entries.
use Rattle.std.proofs.Common.{◌≡◌, ◌≤◌, ℕ, Bool, true, false, if◌then◌else◌, List, [], ◌∷◌, ◌++◌, length, refl, ap, sym, ◌∙◌, arith, append_assoc, Some}
use Rattle.std.specs.Prelude.{bytes_eq, is_some, ◌||◌, nat_lt}
use Rattle.std.specs.Cmp.Lexicographic.{same_text}
use Rattle.std.specs.Prelude.{not, nat_le}
use Rattle.std.proofs.lemmas.Bool.{true≢false, not-true, and_parts, and_from, le-leb}
use Rattle.std.proofs.lemmas.Cmp.{nat_list_eq_equiv}
use Rattle.std.proofs.lemmas.List.{append-nil, length-map, length-append, map-append}
use Rattle.std.proofs.lemmas.Bool.Decides.{nat_tests}
use Rattle.module_semantics.specs.Entries.{entry_at, with_entry, names_of, has_name, are_different, is_bag, has_room}
use Rattle.module_semantics.specs.Progress.{Continues}

-- a list goes on from itself
pub continues_itself : {A : Type 0} (xs : List A) → Continues xs xs
continues_itself xs = ([], sym (append-nil xs))

-- a list with more at its end goes on from where it did
pub continues_more : {A : Type 0} (xs ys more : List A) → Continues xs ys → Continues xs (ys ++ more)
continues_more xs ys more c = (c.0 ++ more, ap (λ l. l ++ more) c.1 ∙ append_assoc xs c.0 more)

-- one after the other
pub continues_both : {A : Type 0} (xs ys zs : List A) → Continues xs ys → Continues ys zs → Continues xs zs
continues_both xs ys zs c d = (c.0 ++ d.0, d.1 ∙ ap (λ l. l ++ d.0) c.1 ∙ append_assoc xs c.0 d.0)

names_step : {V : Type 0} (name : List ℕ) (v : V) (e : List ℕ × V) (es : List (List ℕ × V)) (b : Bool) → bytes_eq e.0 name ≡ b
    → Continues (names_of es) (names_of (with_entry name v es))
    → Continues (names_of (e ∷ es)) (names_of (if b then (name, v) ∷ es else e ∷ with_entry name v es))
names_step name v e es true is more = ([], ap (λ n. n ∷ names_of es) (sym (same_text e.0 name (sym is))) ∙ sym (append-nil (names_of (e ∷ es))))
names_step name v e es false is more = (more.0, ap (λ l. e.0 ∷ l) more.1)

-- each name keeps its place
pub names_continue : {V : Type 0} (name : List ℕ) (v : V) (es : List (List ℕ × V)) → Continues (names_of es) (names_of (with_entry name v es))
unfolding with_entry
names_continue name v [] = (name ∷ [], refl)
names_continue name v (e ∷ es) = names_step name v e es (bytes_eq e.0 name) refl (names_continue name v es)

stay_step : {V : Type 0} (name : List ℕ) (v : V) (e : List ℕ × V) (es : List (List ℕ × V)) (b : Bool) → bytes_eq e.0 name ≡ b
    → (has_name name (names_of es) ≡ true → names_of (with_entry name v es) ≡ names_of es)
    → (b || has_name name (names_of es)) ≡ true → names_of (if b then (name, v) ∷ es else e ∷ with_entry name v es) ≡ names_of (e ∷ es)
stay_step name v e es true is more h = ap (λ n. n ∷ names_of es) (sym (same_text e.0 name (sym is)))
stay_step name v e es false is more h = ap (λ l. e.0 ∷ l) (more h)

-- a name that is there adds none
pub names_stay : {V : Type 0} (name : List ℕ) (v : V) (es : List (List ℕ × V)) → has_name name (names_of es) ≡ true → names_of (with_entry name v es) ≡ names_of es
unfolding with_entry
names_stay name v [] h = cc
names_stay name v (e ∷ es) h = stay_step name v e es (bytes_eq e.0 name) refl (names_stay name v es) h

found_step : {V : Type 0} (name : List ℕ) (e : List ℕ × V) (es : List (List ℕ × V)) (b : Bool)
    → is_some (entry_at name es) ≡ has_name name (names_of es)
    → is_some (if b then Some e.1 else entry_at name es) ≡ (b || has_name name (names_of es))
found_step name e es true more = refl
found_step name e es false more = more

-- something is found exactly where the name is there
pub found_is : {V : Type 0} (name : List ℕ) (es : List (List ℕ × V)) → is_some (entry_at name es) ≡ has_name name (names_of es)
unfolding entry_at
found_is name [] = refl
found_is name (e ∷ es) = found_step name e es (bytes_eq e.0 name) (found_is name es)

append_step : {V : Type 0} (name : List ℕ) (v : V) (e : List ℕ × V) (es : List (List ℕ × V)) (b : Bool)
    → (has_name name (names_of es) ≡ false → with_entry name v es ≡ es ++ (name, v) ∷ [])
    → (b || has_name name (names_of es)) ≡ false → (if b then (name, v) ∷ es else e ∷ with_entry name v es) ≡ e ∷ (es ++ (name, v) ∷ [])
append_step name v e es true more h = cc
append_step name v e es false more h = ap (λ l. e ∷ l) (more h)

-- a new name stands last
pub new_stands_last : {V : Type 0} (name : List ℕ) (v : V) (es : List (List ℕ × V)) → has_name name (names_of es) ≡ false → with_entry name v es ≡ es ++ (name, v) ∷ []
unfolding with_entry
new_stands_last name v [] h = refl
new_stands_last name v (e ∷ es) h = append_step name v e es (bytes_eq e.0 name) (new_stands_last name v es) h

or_parts : (a b : Bool) → (a || b) ≡ false → (a ≡ false) × (b ≡ false)
or_parts true b h = absurd (true≢false h)
or_parts false b h = (refl, h)

or_from : (a b : Bool) → a ≡ false → b ≡ false → (a || b) ≡ false
or_from true b h i = h
or_from false b h i = i

-- a name that differs from each stays apart from them and one more
apart_push : (m n : List ℕ) (ns : List (List ℕ)) → has_name m ns ≡ false → bytes_eq n m ≡ false → has_name m (ns ++ n ∷ []) ≡ false
apart_push m n [] h other = or_from (bytes_eq n m) false other refl
apart_push m n (k ∷ ns) h other =
    let parts = or_parts (bytes_eq k m) (has_name m ns) h in
    or_from (bytes_eq k m) (has_name m (ns ++ n ∷ [])) parts.0 (apart_push m n ns parts.1 other)

-- different names and one more
pub different_push : (ns : List (List ℕ)) (n : List ℕ) → are_different ns ≡ true → has_name n ns ≡ false → are_different (ns ++ n ∷ []) ≡ true
different_push [] n all new = refl
different_push (m ∷ ns) n all new =
    let both = and_parts (not (has_name m ns)) (are_different ns) all in
    let parts = or_parts (bytes_eq m n) (has_name n ns) new in
    let other : bytes_eq n m ≡ false = nat_list_eq_equiv.symm n m ∙ parts.0 in
    and_from (not (has_name m (ns ++ n ∷ []))) (are_different (ns ++ n ∷ []))
    (ap not (apart_push m n ns (not-true (has_name m ns) both.0) other)) (different_push ns n both.1 parts.1)

old_bag : {V : Type 0} (key : List ℕ) (v : V) (es : List (List ℕ × V)) → has_name key (names_of es) ≡ true → is_bag es ≡ true → is_bag (with_entry key v es) ≡ true
old_bag key v es there bag =
    let names : names_of (with_entry key v es) ≡ names_of es = names_stay key v es there in
    let same : length (with_entry key v es) ≡ length es = sym (length-map (with_entry key v es) (λ e. e.0)) ∙ ap length names ∙ length-map es (λ e. e.0) in
    let both = and_parts (nat_le (length es) 64) (are_different (names_of es)) bag in
    and_from (nat_le (length (with_entry key v es)) 64) (are_different (names_of (with_entry key v es))) (ap (λ n. nat_le n 64) same ∙ both.0) (ap are_different names ∙ both.1)

new_bag : {V : Type 0} (key : List ℕ) (v : V) (es : List (List ℕ × V)) → has_name key (names_of es) ≡ false → nat_lt (length es) 64 ≡ true → is_bag es ≡ true → is_bag (with_entry key v es) ≡ true
new_bag key v es new room bag =
    let last : with_entry key v es ≡ es ++ (key, v) ∷ [] = new_stands_last key v es new in
    let both = and_parts (nat_le (length es) 64) (are_different (names_of es)) bag in
    let long : length (with_entry key v es) ≤ 64 = grind (arith, nat_tests, ap length last, length-append es ((key, v) ∷ [])) in
    let names : names_of (with_entry key v es) ≡ names_of es ++ key ∷ [] = ap names_of last ∙ map-append (λ e. e.0) es ((key, v) ∷ []) in
    and_from (nat_le (length (with_entry key v es)) 64) (are_different (names_of (with_entry key v es))) (le-leb (length (with_entry key v es)) 64 long)
    (ap are_different names ∙ different_push (names_of es) key both.1 new)

bag_step : {V : Type 0} (key : List ℕ) (v : V) (es : List (List ℕ × V)) (b : Bool) → has_name key (names_of es) ≡ b
    → (b || nat_lt (length es) 64) ≡ true → is_bag es ≡ true → is_bag (with_entry key v es) ≡ true
bag_step key v es true is room bag = old_bag key v es is bag
bag_step key v es false is room bag = new_bag key v es is room bag

-- a bag with room stays one
pub bag_stays : {V : Type 0} (key : List ℕ) (v : V) (es : List (List ℕ × V)) → has_room key es ≡ true → is_bag es ≡ true → is_bag (with_entry key v es) ≡ true
bag_stays key v es room bag = bag_step key v es (has_name key (names_of es)) refl (ap (λ b. b || nat_lt (length es) 64) (sym (found_is key es)) ∙ room) bag
