-- A map with names as its keys, looked up by name, and what a change of one entry leaves.
use Rattle.std.proofs.Common.{◌≡◌, Bool, true, false, List, [], ◌∷◌, refl, ap, sym, ◌∙◌}
use Rattle.std.specs.Prelude.{cond, IsSome, Option, Some, if◌then◌else◌}
use Rattle.std.specs.BTreeMap.{BTreeMap, is_at, WritesThrough}
use Rattle.std.specs.Cmp.Lexicographic.{slice_cmp, texts_ties}
use Rattle.std.specs.Map.{lookup}
use Rattle.std.specs.Ordering.{nat_cmp}
use Rattle.std.proofs.Math.Path.{subst}
use Rattle.std.proofs.lemmas.Cmp.{nat_list_eq_equiv}
use Rattle.core_model.specs.Names.{Name, same_name, at}

-- the tests of a map's keys are the tests of names
pub key_is : (q k : Name) → is_at (slice_cmp nat_cmp q) k ≡ same_name k q
key_is q k = sym (texts_ties q k) ∙ nat_list_eq_equiv.symm q k

key_same : (n m : Name) → is_at (slice_cmp nat_cmp n) m ≡ same_name n m
key_same n m = sym (texts_ties n m)

module _ {X : Type 0} where
  found_step : (b c : Bool) (v : X) (x y : Option X) → c ≡ b → x ≡ y → (if b then Some v else x) ≡ cond c (Some v) y
  found_step true c v x y e f = rw e refl
  found_step false c v x y e f = rw e f

  -- the map finds the first entry of a name
  pub found : (rows : List (Name × X)) (q : Name) → at rows q ≡ lookup (is_at (slice_cmp nat_cmp q)) rows
  found [] q = refl
  found (row ∷ rows) q = found_step (same_name row.0 q) (is_at (slice_cmp nat_cmp q) row.0) row.1 (at rows q) (lookup (is_at (slice_cmp nat_cmp q)) rows) (key_is q row.0) (found rows q)

  changed_step : (b c : Bool) (w x y z : Option X) → c ≡ b → x ≡ cond c w y → z ≡ y → x ≡ (if b then w else z)
  changed_step true c w x y z e f g = f ∙ ap (λ t. cond t w y) e
  changed_step false c w x y z e f g = f ∙ ap (λ t. cond t w y) e ∙ sym g

  -- a change of one entry of the map
  pub changed : (n : Name) (w : Option X) (old new : List (Name × X)) → ((m : Name) → lookup (is_at (slice_cmp nat_cmp m)) new ≡ cond (is_at (slice_cmp nat_cmp n) m) w (lookup (is_at (slice_cmp nat_cmp m)) old)) → (m : Name) → at new m ≡ (if same_name n m then w else at old m)
  changed n w old new u m = changed_step (same_name n m) (is_at (slice_cmp nat_cmp n) m) w (at new m) (lookup (is_at (slice_cmp nat_cmp m)) old) (at old m) (key_same n m) (found new m ∙ u m) (found old m)

  -- a value written in place
  pub written : (n : Name) (v w : X) (old new : BTreeMap Name X) → Some v ≡ lookup (is_at (slice_cmp nat_cmp n)) old.entries → WritesThrough (slice_cmp nat_cmp) (slice_cmp nat_cmp n) old w new → (m : Name) → at new.entries m ≡ (if same_name n m then Some w else at old.entries m)
  written n v w old new is t = changed n (Some w) old.entries new.entries (t.3 (subst IsSome is refl)).0
