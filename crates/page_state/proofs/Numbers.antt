-- The map of the numbers, and what its steps leave for each name.
use Rattle.std.proofs.Common.{◌≡◌, ◌∙◌, refl, ℕ, Bool, true, false, cond, if◌then◌else◌, List, Option}
use Rattle.std.proofs.lemmas.Map.Text.{is_eq-slice_cmp}
use Rattle.std.specs.Prelude.{bytes_eq}
use Rattle.std.specs.BTreeMap.{BTreeMap, is_at, UpdatesBy}
use Rattle.std.specs.Cmp.Lexicographic.{slice_cmp, nat_list_eq_equiv}
use Rattle.std.specs.Map.{lookup}
use Rattle.std.specs.Ordering.{nat_cmp}
use Rattle.module_semantics.specs.Entries.{entry_at}
use Rattle.retained_data.proofs.ByName.{found}
use Rattle.page_state.specs.Live.{HasNumber}

-- names that compare alike have the same bytes
compared : (name n : List ℕ) → is_at (slice_cmp nat_cmp name) n ≡ bytes_eq n name
compared name n = is_eq-slice_cmp name n ∙ nat_list_eq_equiv.symm name n

step : (b c : Bool) (w x y : Option ℕ) → b ≡ c → x ≡ cond b w y → x ≡ (if c then w else y)
step b true w x y same is = rw (is, same) refl
step b false w x y same is = rw (is, same) refl

-- a step at one name of the map changes its number alone
pub changed : (name : List ℕ) (w : Option ℕ) (m n : BTreeMap (List ℕ) ℕ) → UpdatesBy (slice_cmp nat_cmp) (slice_cmp nat_cmp name) m n w → HasNumber name w m.entries n.entries
changed name w m n updates q =
    let all : lookup (is_at (slice_cmp nat_cmp q)) n.entries ≡ cond (is_at (slice_cmp nat_cmp name) q) w (lookup (is_at (slice_cmp nat_cmp q)) m.entries) = updates.0 q in
    step (is_at (slice_cmp nat_cmp name) q) (bytes_eq q name) w (entry_at q n.entries) (entry_at q m.entries) (compared name q) (rw (found q n.entries, found q m.entries) at all)
