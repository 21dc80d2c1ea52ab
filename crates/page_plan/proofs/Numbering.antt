-- Numbers of names in a map, each by its first place in a list.
use Rattle.std.proofs.Common.{◌≡◌, ℕ, zero, suc, ◌+◌, ◌<◌, Bool, true, false, List, [], ◌∷◌, ◌++◌, length, take, get_or, refl, ap, sym, ◌∙◌, arith}
use Rattle.std.specs.Prelude.{cond, ◌||◌, Option, Some, None, is_some, if◌then◌else◌}
use Rattle.std.specs.Option.{option_or}
use Rattle.std.specs.BTreeMap.{BTreeMap, is_at, UpdatesBy}
use Rattle.std.specs.Cmp.Lexicographic.{slice_cmp, nat_list_eq_equiv}
use Rattle.std.specs.Map.{lookup}
use Rattle.std.specs.Ordering.{nat_cmp}
use Rattle.std.proofs.lemmas.Bool.{false≢true}
use Rattle.std.proofs.lemmas.List.{take_more, length-take}
use Rattle.core_model.specs.Names.{Name, same_name, has, at}
use Rattle.core_model.proofs.Naming.{same_true}
use Rattle.client_model.specs.Linking.{place_of}
use Rattle.module_graph.proofs.Sets.{compared_same}

-- the map finds the first entry of a name
pub found : {X : Type 0} (n : Name) (rows : List (Name × X)) → lookup (is_at (slice_cmp nat_cmp n)) rows ≡ at rows n
found n [] = refl
found n (row ∷ rows) = ap (λ b. cond b (Some row.1) (lookup (is_at (slice_cmp nat_cmp n)) rows)) (compared_same n row.0) ∙ ap (λ o. cond (same_name row.0 n) (Some row.1) o) (found n rows)

kept_step : {X : Type 0} (o : Option X) (b : Bool) (k : X) → (b ≡ true → is_some o ≡ true) → o ≡ option_or o (if b then Some k else None)
kept_step (Some x) b k f = refl
kept_step None true k f = absurd (false≢true (f refl))
kept_step None false k f = refl

-- a name that has a number keeps it
pub number_kept : {X : Type 0} (rows : List (Name × X)) (name : Name) (k : X) → is_some (at rows name) ≡ true → (n : Name) → at rows n ≡ option_or (at rows n) (if same_name name n then Some k else None)
number_kept rows name k h n = kept_step (at rows n) (same_name name n) k (λ s. ap (λ m. is_some (at rows m)) (sym (same_true name n s)) ∙ h)

or_none : {X : Type 0} (o : Option X) → o ≡ option_or o None
or_none None = refl
or_none (Some x) = refl

new_step : {X : Type 0} (b c : Bool) (k : X) (o : Option X) → b ≡ c → (c ≡ true → is_some o ≡ false) → cond b (Some k) o ≡ option_or o (if c then Some k else None)
new_step true true k None e f = refl
new_step true true k (Some x) e f = absurd (false≢true (sym (f refl)))
new_step true false k o e f = absurd (false≢true (sym e))
new_step false true k o e f = absurd (false≢true e)
new_step false false k o e f = or_none o

same_way : (name n : Name) → is_at (slice_cmp nat_cmp name) n ≡ same_name name n
same_way name n = compared_same name n ∙ nat_list_eq_equiv.symm n name

-- a name that has none gets this one
pub number_put : {X : Type 0} (name key : Name) (k : X) (m n : BTreeMap Name X) → key ≡ name → is_some (at m.entries name) ≡ false → UpdatesBy (slice_cmp nat_cmp) (slice_cmp nat_cmp key) m n (Some k) → (q : Name) → at n.entries q ≡ option_or (at m.entries q) (if same_name name q then Some k else None)
number_put name key k m n e h updates q =
    let all : lookup (is_at (slice_cmp nat_cmp q)) n.entries ≡ cond (is_at (slice_cmp nat_cmp key) q) (Some k) (lookup (is_at (slice_cmp nat_cmp q)) m.entries) = updates.0 q in
    sym (found q n.entries) ∙ all ∙ ap (λ o. cond (is_at (slice_cmp nat_cmp key) q) (Some k) o) (found q m.entries)
    ∙ new_step (is_at (slice_cmp nat_cmp key) q) (same_name name q) k (at m.entries q) (same_way key q ∙ ap (λ j. same_name j q) e) (λ s. ap (λ j. is_some (at m.entries j)) (sym (same_true name q s)) ∙ h)

-- the number of a name by its first place
abbrev pub by_place : (ℕ → ℕ) → List Name → Name → Option ℕ
by_place f xs n = if has xs n then Some (f (place_of xs n)) else None

last_step : (f : ℕ → ℕ) (b : Bool) → option_or None (if b then Some (f zero) else None) ≡ (if b || false then Some (f (if b then zero else suc zero)) else None)
last_step f true = refl
last_step f false = refl

place_step : (f : ℕ → ℕ) (b : Bool) (has_old has_new : Bool) (old new : ℕ) (o : Option ℕ) → option_or (if has_old then Some (f (suc old)) else None) o ≡ (if has_new then Some (f (suc new)) else None) → option_or (if b || has_old then Some (f (if b then zero else suc old)) else None) o ≡ (if b || has_new then Some (f (if b then zero else suc new)) else None)
place_step f true has_old has_new old new o h = refl
place_step f false has_old has_new old new o h = h

-- one name more at the end
pub place_more : (f : ℕ → ℕ) (xs : List Name) (x n : Name) → option_or (by_place f xs n) (if same_name x n then Some (f (length xs)) else None) ≡ by_place f (xs ++ x ∷ []) n
place_more f [] x n = last_step f (same_name x n)
place_more f (k ∷ xs) x n = place_step f (same_name k n) (has xs n) (has (xs ++ x ∷ []) n) (place_of xs n) (place_of (xs ++ x ∷ []) n) (if same_name x n then Some (f (suc (length xs))) else None) (place_more (λ j. f (suc j)) xs x n)

short : (xs : List Name) (i : ℕ) → i < length xs → length (take i xs) ≡ i
short xs i h = omega (arith, h, length-take i xs)

-- one turn over the names
pub numbered_more : (made : ℕ) (names : List Name) (i : ℕ) (x : Name) (number : ℕ) (old new : List (Name × ℕ)) (n : Name) → i < length names → x ≡ get_or names i x → number ≡ suc made + i → at old n ≡ by_place (λ k. suc made + k) (take i names) n → at new n ≡ option_or (at old n) (if same_name x n then Some number else None) → at new n ≡ by_place (λ k. suc made + k) (take (i + 1) names) n
numbered_more made names i x number old new n h is num before after =
    after ∙ ap (λ o. option_or o (if same_name x n then Some number else None)) before
    ∙ ap (λ j. option_or (by_place (λ k. suc made + k) (take i names) n) (if same_name x n then Some j else None)) (num ∙ ap (λ j. suc made + j) (sym (short names i h)))
    ∙ place_more (λ k. suc made + k) (take i names) x n
    ∙ ap (λ l. by_place (λ k. suc made + k) l n) (ap (λ j. take i names ++ j ∷ []) is ∙ sym (take_more names i x h))

-- the first row of a name, with one row more at the end

row_step : {X : Type 0} (b : Bool) (x : X) (more old o : Option X) → more ≡ option_or old o → (if b then Some x else more) ≡ option_or (if b then Some x else old) o
row_step true x more old o h = refl
row_step false x more old o h = h

at_last : {X : Type 0} (rows : List (Name × X)) (row : Name × X) (n : Name) → at (rows ++ row ∷ []) n ≡ option_or (at rows n) (if same_name row.0 n then Some row.1 else None)
at_last [] row n = refl
at_last (x ∷ rows) row n = row_step (same_name x.0 n) x.1 (at (rows ++ row ∷ []) n) (at rows n) (if same_name row.0 n then Some row.1 else None) (at_last rows row n)

-- one turn over the rows
pub rows_more : {X : Type 0} (rows old new : List (Name × X)) (i : ℕ) (row : Name × X) (n : Name) → i < length rows → row ≡ get_or rows i row → at old n ≡ at (take i rows) n → at new n ≡ option_or (at old n) (if same_name row.0 n then Some row.1 else None) → at new n ≡ at (take (i + 1) rows) n
rows_more rows old new i row n h is before after =
    after ∙ ap (λ o. option_or o (if same_name row.0 n then Some row.1 else None)) before
    ∙ sym (at_last (take i rows) row n)
    ∙ ap (λ l. at l n) (ap (λ j. take i rows ++ j ∷ []) is ∙ sym (take_more rows i row h))
