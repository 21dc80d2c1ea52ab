-- Sets of names that are kept in order: looking up, and one name more.
use Rattle.std.proofs.Common.{◌≡◌, ℕ, ◌+◌, ◌<◌, Bool, true, false, List, [], ◌∷◌, length, take, get_or, refl, ap, sym, ◌∙◌}
use Rattle.std.specs.Prelude.{◌||◌}
use Rattle.std.specs.BTreeMap.{is_at}
use Rattle.std.specs.BTreeSet.{insert_key}
use Rattle.std.specs.List.{list_any}
use Rattle.std.specs.declared.cmp.Ordering.{Ordering}
use Rattle.std.specs.declared.cmp.Ordering.TheVariants.{Less, Equal, Greater}
use Rattle.std.specs.Ordering.{nat_cmp, match_ordering}
use Rattle.std.specs.Cmp.Lexicographic.{slice_cmp, nat_list_eq_equiv}
use Rattle.std.proofs.lemmas.List.{take_more}
use Rattle.std.proofs.lemmas.Map.Text.{is_eq-slice_cmp}
use Rattle.std.proofs.lemmas.Map.Lookups.{exact_bytes}
use Rattle.core_model.specs.Names.{Name, same_name, has}
use Rattle.core_model.proofs.Naming.{has_append}

-- names that compare alike are the same
pub compared_same : (n m : Name) → is_at (slice_cmp nat_cmp n) m ≡ same_name m n
compared_same n m = is_eq-slice_cmp n m ∙ nat_list_eq_equiv.symm n m

pub set_has : (keys : List Name) (n : Name) → list_any (is_at (slice_cmp nat_cmp n)) keys ≡ has keys n
set_has [] n = refl
set_has (k ∷ keys) n = ap (λ b. b || list_any (is_at (slice_cmp nat_cmp n)) keys) (compared_same n k) ∙ ap (λ b. same_name k n || b) (set_has keys n)

or_swap : (a b c : Bool) → (a || (b || c)) ≡ (b || (a || c))
or_swap true true c = refl
or_swap true false c = refl
or_swap false b c = refl

or_twice : (a b : Bool) → (a || b) ≡ (a || (a || b))
or_twice true b = refl
or_twice false b = refl

insert_step : (n x : Name) (xs : List Name) (m : Name) (o : Ordering) → slice_cmp nat_cmp n x ≡ o → has (insert_key (slice_cmp nat_cmp) xs n) m ≡ (same_name n m || has xs m) → has (match_ordering o (n ∷ x ∷ xs) (x ∷ xs) (x ∷ insert_key (slice_cmp nat_cmp) xs n)) m ≡ (same_name n m || (same_name x m || has xs m))
insert_step n x xs m Less e h = refl
insert_step n x xs m Equal e h = or_twice (same_name x m) (has xs m) ∙ ap (λ k. same_name k m || (same_name x m || has xs m)) (sym (exact_bytes n x e))
insert_step n x xs m Greater e h = ap (λ b. same_name x m || b) h ∙ or_swap (same_name x m) (same_name n m) (has xs m)

pub insert_has : (keys : List Name) (n m : Name) → has (insert_key (slice_cmp nat_cmp) keys n) m ≡ (same_name n m || has keys m)
insert_has [] n m = refl
insert_has (x ∷ xs) n m = insert_step n x xs m (slice_cmp nat_cmp n x) refl (insert_has xs n m)

pub or_last : (a b : Bool) → (a || (b || false)) ≡ (b || a)
or_last true true = refl
or_last true false = refl
or_last false true = refl
or_last false false = refl

-- one name more of a list
pub has_take_more : (xs : List Name) (i : ℕ) (d : Name) (n : Name) → i < length xs → has (take (i + 1) xs) n ≡ (same_name (get_or xs i d) n || has (take i xs) n)
has_take_more xs i d n h = ap (λ l. has l n) (take_more xs i d h) ∙ has_append (take i xs) (get_or xs i d ∷ []) n ∙ or_last (has (take i xs) n) (same_name (get_or xs i d) n)
