-- The map of the bags, and what its steps leave for each name.
use Rattle.std.proofs.Common.{◌≡◌, ◌∙◌, refl, ℕ, Bool, true, false, cond, if◌then◌else◌, List, [], ◌∷◌, Option, Some}
use Rattle.std.proofs.lemmas.Map.Text.{is_eq-slice_cmp}
use Rattle.std.specs.Prelude.{bytes_eq}
use Rattle.std.specs.BTreeMap.{BTreeMap, is_at, UpdatesBy}
use Rattle.std.specs.Cmp.Lexicographic.{slice_cmp, nat_list_eq_equiv}
use Rattle.std.specs.Map.{lookup}
use Rattle.std.specs.Ordering.{nat_cmp}
use Rattle.module_semantics.specs.Entries.{Kept, entry_at}
use Rattle.retained_data.specs.Bags.{HasBag, bag_or_empty}

-- names that compare alike have the same bytes
compared : (name n : List ℕ) → is_at (slice_cmp nat_cmp name) n ≡ bytes_eq n name
compared name n = is_eq-slice_cmp name n ∙ nat_list_eq_equiv.symm name n

found_step : {V : Type 0} (v : V) (b c : Bool) (x y : Option V) → b ≡ c → x ≡ y → cond b (Some v) x ≡ (if c then Some v else y)
found_step v b true x y same more = rw same refl
found_step v b false x y same more = rw same more

-- the map finds the first entry of a name
pub found : {V : Type 0} (name : List ℕ) (es : List (List ℕ × V)) → lookup (is_at (slice_cmp nat_cmp name)) es ≡ entry_at name es
unfolding entry_at
found name [] = refl
found name (e ∷ es) = found_step e.1 _ _ _ _ (compared name e.0) (found name es)

bag_step : (b c : Bool) (w x y : Option Kept) → b ≡ c → x ≡ cond b w y → bag_or_empty x ≡ (if c then bag_or_empty w else bag_or_empty y)
bag_step b true w x y same is = rw (is, same) refl
bag_step b false w x y same is = rw (is, same) refl

-- a step at one name of the map changes its bag alone
pub changed : (name : List ℕ) (w : Option Kept) (m n : BTreeMap (List ℕ) Kept) → UpdatesBy (slice_cmp nat_cmp) (slice_cmp nat_cmp name) m n w → HasBag name (bag_or_empty w) m.entries n.entries
changed name w m n updates q =
    let all : lookup (is_at (slice_cmp nat_cmp q)) n.entries ≡ cond (is_at (slice_cmp nat_cmp name) q) w (lookup (is_at (slice_cmp nat_cmp q)) m.entries) = updates.0 q in
    bag_step (is_at (slice_cmp nat_cmp name) q) (bytes_eq q name) w (entry_at q n.entries) (entry_at q m.entries) (compared name q) (rw (found q n.entries, found q m.entries) at all)
