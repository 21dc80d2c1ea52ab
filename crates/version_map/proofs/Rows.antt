-- The sources and the servings of entries in the order of their names, looked up.
use Rattle.std.proofs.Common.{◌≡◌, Bool, true, false, List, [], ◌∷◌, refl, ap, sym, ◌∙◌}
use Rattle.std.proofs.Math.Path.{subst}
use Rattle.std.specs.Prelude.{cond, IsSome, Option, Some, None, is_some, if◌then◌else◌}
use Rattle.std.specs.BTreeMap.{BTreeMap, is_at, WritesThrough}
use Rattle.std.specs.Cmp.Lexicographic.{slice_cmp, texts_ties, nat_list_cmp_total}
use Rattle.std.specs.Cmp.{eq_by_cmp_equiv}
use Rattle.std.specs.List.Sorted.{IsStrictlySortedBy}
use Rattle.std.specs.Map.{keys_of}
use Rattle.std.specs.Ordering.{nat_cmp, eq_by_cmp}
use Rattle.std.proofs.lemmas.Cmp.{nat_list_eq_equiv}
use Rattle.std.proofs.lemmas.Map.{lookup-none}
use Rattle.std.proofs.lemmas.Map.Entries.{none_past_head}
use Rattle.std.proofs.lemmas.Map.Keys.{sorted_tail, IsDistinct-from_sorted}
use Rattle.core_model.specs.Names.{Name, same_name, at, with_entry}
use Rattle.core_model.specs.Sources.{Source, Serving}
use Rattle.core_model.proofs.Naming.{true_same}
use Rattle.version_map.specs.declared.entry.Entry.{Entry}
use Rattle.version_map.specs.Changes.{ChangesAt}
use Rattle.version_map.specs.Entries.{source_of, served_of, source_in, served_in, entry_at, current_rows, served_rows}
use Rattle.version_map.proofs.Onces.{IsOnce}

abbrev pub IsRising : List (Name × Entry) → Type 0
IsRising es = IsStrictlySortedBy (slice_cmp nat_cmp) (keys_of es)

-- the tests of a map's keys are the tests of names
pub key_is : (q k : Name) → is_at (slice_cmp nat_cmp q) k ≡ same_name k q
key_is q k = sym (texts_ties q k) ∙ nat_list_eq_equiv.symm q k

current_step : (b : Bool) (e : Entry) (o : Option Entry) (rest : Option Source) → rest ≡ source_in o → (if b then Some (source_of e) else rest) ≡ source_in (cond b (Some e) o)
current_step true e o rest h = refl
current_step false e o rest h = h

pub at_current : (es : List (Name × Entry)) (q : Name) → at (current_rows es) q ≡ source_in (entry_at es q)
at_current [] q = refl
at_current (e ∷ es) q = ap (λ b. if b then Some (source_of e.1) else at (current_rows es) q) (sym (key_is q e.0)) ∙ current_step (is_at (slice_cmp nat_cmp q) e.0) e.1 (entry_at es q) (at (current_rows es) q) (at_current es q)

-- no later entry has the first one's key
pub no_more : (e : Name × Entry) (es : List (Name × Entry)) (q : Name) → IsRising (e ∷ es) → same_name e.0 q ≡ true → entry_at es q ≡ None
no_more e es q s h = lookup-none (is_at (slice_cmp nat_cmp q)) es (none_past_head {eq = eq_by_cmp (slice_cmp nat_cmp)} (eq_by_cmp_equiv nat_list_cmp_total) q e es (IsDistinct-from_sorted (slice_cmp nat_cmp) (keys_of (e ∷ es)) s) (key_is q e.0 ∙ h))

pub once_current : (es : List (Name × Entry)) → IsRising es → IsOnce (current_rows es)
once_current [] s = record {}
once_current (e ∷ es) s = (at_current es e.0 ∙ ap source_in (no_more e es e.0 s (true_same e.0 e.0 refl)), once_current es (sorted_tail (slice_cmp nat_cmp) e.0 (keys_of es) s))

entry_step : (n m : Name) (o : Option Serving) (rows : List (Name × Serving)) → at (with_entry n o rows) m ≡ (if same_name n m then (if is_some o then o else at rows m) else at rows m)
entry_step n m None rows = either (same_name n m) (at rows m)
  where
    either : (b : Bool) (x : Option Serving) → x ≡ (if b then x else x)
    either true x = refl
    either false x = refl
entry_step n m (Some x) rows = refl

served_first : (e : Option Serving) (rest : Option Serving) → rest ≡ None → (if is_some e then e else rest) ≡ e
served_first None rest h = h
served_first (Some x) rest h = refl

served_step : (b : Bool) (e : Entry) (o : Option Entry) (rest : Option Serving) → (b ≡ true → o ≡ None) → rest ≡ served_in o → (if b then (if is_some (served_of e) then served_of e else rest) else rest) ≡ served_in (cond b (Some e) o)
served_step true e o rest f h = served_first (served_of e) rest (h ∙ ap served_in (f refl))
served_step false e o rest f h = h

pub at_served : (es : List (Name × Entry)) (q : Name) → IsRising es → at (served_rows es) q ≡ served_in (entry_at es q)
at_served [] q s = refl
at_served (e ∷ es) q s =
    let rest = at (served_rows es) q in
    entry_step e.0 q (served_of e.1) (served_rows es)
    ∙ ap (λ b. if b then (if is_some (served_of e.1) then served_of e.1 else rest) else rest) (sym (key_is q e.0))
    ∙ served_step (is_at (slice_cmp nat_cmp q) e.0) e.1 (entry_at es q) rest (λ h. no_more e es q s (sym (key_is q e.0) ∙ h)) (at_served es q (sorted_tail (slice_cmp nat_cmp) e.0 (keys_of es) s))

-- a change of one entry, looked up among the sources and among the servings
pub current_changed : (n : Name) (x : Option Source) (o : Option Serving) (old new : List (Name × Entry)) → ChangesAt n x o old new → (m : Name) → at (current_rows new) m ≡ (if same_name n m then x else at (current_rows old) m)
current_changed n x o old new c m = at_current new m ∙ c.sources m ∙ ap (λ r. if same_name n m then x else r) (sym (at_current old m))

pub served_changed : (n : Name) (x : Option Source) (o : Option Serving) (old new : List (Name × Entry)) → IsRising old → ChangesAt n x o old new → (m : Name) → at (served_rows new) m ≡ (if same_name n m then o else at (served_rows old) m)
served_changed n x o old new r c m = at_served new m c.ordered ∙ c.servings m ∙ ap (λ r. if same_name n m then o else r) (sym (at_served old m r))

-- the tests of a map's keys are the tests of names, the other way round
key_same : (n m : Name) → is_at (slice_cmp nat_cmp n) m ≡ same_name n m
key_same n m = sym (texts_ties n m)

source_step : (b : Bool) (w o : Option Entry) → source_in (cond b w o) ≡ (if b then source_in w else source_in o)
source_step true w o = refl
source_step false w o = refl

serving_step : (b : Bool) (w o : Option Entry) → served_in (cond b w o) ≡ (if b then served_in w else served_in o)
serving_step true w o = refl
serving_step false w o = refl

-- what a call of the map says of its look-ups, as a change at a name
pub changes_at : (n : Name) (x : Option Source) (o : Option Serving) (old new : List (Name × Entry)) (w : Option Entry) → source_in w ≡ x → served_in w ≡ o → ((m : Name) → entry_at new m ≡ cond (is_at (slice_cmp nat_cmp n) m) w (entry_at old m)) → IsRising new → ChangesAt n x o old new
changes_at n x o old new w e f u s = record {
  sources = λ m. ap source_in (u m) ∙ source_step (is_at (slice_cmp nat_cmp n) m) w (entry_at old m) ∙ ap (λ b. if b then source_in w else source_in (entry_at old m)) (key_same n m) ∙ ap (λ y. if same_name n m then y else source_in (entry_at old m)) e;
  servings = λ m. ap served_in (u m) ∙ serving_step (is_at (slice_cmp nat_cmp n) m) w (entry_at old m) ∙ ap (λ b. if b then served_in w else served_in (entry_at old m)) (key_same n m) ∙ ap (λ y. if same_name n m then y else served_in (entry_at old m)) f;
  ordered = s;
}

-- a change of an entry that is there, written through a loan
pub written : (n : Name) (x : Option Source) (o : Option Serving) (old new : BTreeMap Name Entry) (e w : Entry) → Some e ≡ entry_at old.entries n → Some (source_of w) ≡ x → served_of w ≡ o → WritesThrough (slice_cmp nat_cmp) (slice_cmp nat_cmp n) old w new → ChangesAt n x o old.entries new.entries
written n x o old new e w is f g t = changes_at n x o old.entries new.entries (Some w) f g (t.3 (subst IsSome is refl)).0 t.4
