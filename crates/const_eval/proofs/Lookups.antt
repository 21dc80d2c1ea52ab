-- A name among entries, found by its place, and in two lists of entries.
use Rattle.std.proofs.Common.{◌≡◌, ◌<◌, ◌≤◌, ◌+◌, ℕ, zero, suc, Bool, true, false, if◌then◌else◌, cond, List, [], ◌∷◌, ◌++◌, length, drop, get_or, subst, sym, Option, Some, None, refl, ap, ◌∙◌, arith}
use Rattle.std.specs.Prelude.{bytes_eq, slice_get, IfSome}
use Rattle.std.specs.Option.{option_map}
use Rattle.std.specs.BTreeMap.{BTreeMap, is_at, get_by, UpdatesBy}
use Rattle.std.specs.Cmp.Lexicographic.{slice_cmp}
use Rattle.std.specs.Ordering.{nat_cmp}
use Rattle.std.proofs.lemmas.List.{drop_more}
use Rattle.std.proofs.lemmas.Option.{slice_get-get_or}
use Rattle.std.proofs.Math.Seq.{drop-length}
use Rattle.std.proofs.lemmas.Map.Text.{is_eq-slice_cmp}
use Rattle.hmr_types.specs.declared.value.Slot.{Slot}
use Rattle.module_semantics.specs.Entries.{entry_at}
use Rattle.const_eval.specs.Places.{TellsPlaces, held_in, place_among}

-- what the first list has goes before what the second has
abbrev pub first_of : Option Slot → Option Slot → Option Slot
first_of (Some v) later = Some v
first_of None later = later

both_step : (name : List ℕ) (e : List ℕ × Slot) (es fs : List (List ℕ × Slot)) (b : Bool)
    → entry_at name (es ++ fs) ≡ first_of (entry_at name es) (entry_at name fs)
    → (if b then Some e.1 else entry_at name (es ++ fs)) ≡ first_of (if b then Some e.1 else entry_at name es) (entry_at name fs)
both_step name e es fs true more = refl
both_step name e es fs false more = more

pub entry_at_both : (name : List ℕ) (es fs : List (List ℕ × Slot)) → entry_at name (es ++ fs) ≡ first_of (entry_at name es) (entry_at name fs)
unfolding entry_at
entry_at_both name [] fs = refl
entry_at_both name (e ∷ es) fs = both_step name e es fs (bytes_eq e.0 name) (entry_at_both name es fs)

found_step : (e : List ℕ × Slot) (es : List (List ℕ × Slot)) (b : Bool) (place : Option ℕ) (found : Option Slot)
    → found ≡ held_in es place → (if b then Some e.1 else found) ≡ held_in (e ∷ es) (if b then Some 0 else option_map suc place)
unfolding held_in
found_step e es true place found is = refl
found_step e es false None found is = is
found_step e es false (Some p) found is = is

-- a name holds what is held at its place
pub found_at : (n : List ℕ) (es : List (List ℕ × Slot)) → entry_at n es ≡ held_in es (place_among n es)
unfolding entry_at place_among held_in
found_at n [] = refl
found_at n (e ∷ es) = found_step e es (bytes_eq e.0 n) (place_among n es) (entry_at n es) (found_at n es)

-- what is found of a name that has a place, and of one that has none
pub found_some : (n : List ℕ) (es : List (List ℕ × Slot)) (p : ℕ) (s : Slot) → Some p ≡ place_among n es → held_in es (Some p) ≡ Some s → Some s ≡ entry_at n es
found_some n es p s there is = sym (found_at n es ∙ (ap (held_in es) (sym there) ∙ is))

pub found_none : (n : List ℕ) (es : List (List ℕ × Slot)) → None ≡ place_among n es → None ≡ entry_at n es
unfolding held_in
found_none n es there = sym (found_at n es ∙ ap (held_in es) (sym there))

-- an entry that stands at a place is held there
pub got_held : (es : List (List ℕ × Slot)) (p : ℕ) (x : List ℕ × Slot) → slice_get es p ≡ Some x → held_in es (Some p) ≡ Some x.1
unfolding held_in
got_held es p x got = ap (option_map (λ (e : List ℕ × Slot). e.1)) got

-- a place of the first list, and one of the second, among both
pub in_first : (es fs : List (List ℕ × Slot)) (p : ℕ) (x : List ℕ × Slot) → p < length es → x ≡ get_or es p x → slice_get (es ++ fs) p ≡ Some x
in_first [] fs p x lt is = absurd (omega arith)
in_first (e ∷ es) fs zero x lt is = ap Some (sym is)
in_first (e ∷ es) fs (suc p) x lt is = in_first es fs p x (omega arith) is

in_rest : (es fs : List (List ℕ × Slot)) (q : ℕ) (x : List ℕ × Slot) → slice_get fs q ≡ Some x → slice_get (es ++ fs) (length es + q) ≡ Some x
in_rest [] fs q x got = subst (λ (k : ℕ). slice_get fs k ≡ Some x) (omega arith) got
in_rest (e ∷ es) fs q x got =
    let next : suc (length es + q) ≡ length (e ∷ es) + q = omega arith in
    subst (λ (k : ℕ). slice_get (e ∷ (es ++ fs)) k ≡ Some x) next (in_rest es fs q x got)

pub in_second : (es fs : List (List ℕ × Slot)) (p q : ℕ) (x : List ℕ × Slot) → q + length es ≡ p → q < length fs → x ≡ get_or fs q x → slice_get (es ++ fs) p ≡ Some x
in_second es fs p q x sum lt is =
    let got : slice_get fs q ≡ Some x = slice_get-get_or fs q x lt ∙ ap Some (sym is) in
    let same : length es + q ≡ p = omega (arith, sum) in
    subst (λ (k : ℕ). slice_get (es ++ fs) k ≡ Some x) same (in_rest es fs q x got)

below_step : (es : List (List ℕ × Slot)) (b : Bool) (place : Option ℕ)
    → IfSome place (λ p. p < length es) → IfSome (if b then Some 0 else option_map suc place) (λ p. p < suc (length es))
below_step es true place is = omega arith
below_step es false None is = is
below_step es false (Some p) is = omega arith

-- a place is one of the entries'
pub place_below : (n : List ℕ) (es : List (List ℕ × Slot)) → IfSome (place_among n es) (λ p. p < length es)
unfolding place_among
place_below n [] = tt
place_below n (e ∷ es) = below_step es (bytes_eq e.0 n) (place_among n es) (place_below n es)

pub place_there : (n : List ℕ) (es : List (List ℕ × Slot)) (o : Option ℕ) → o ≡ place_among n es → IfSome o (λ p. p < length es)
place_there n es o is = rw is (place_below n es)

-- the index tells the place
pub index_tells : (n : List ℕ) (es : List (List ℕ × Slot)) (places : BTreeMap (List ℕ) ℕ) (o : Option ℕ) → TellsPlaces places es
    → o ≡ get_by (slice_cmp nat_cmp n) places → o ≡ place_among n es
index_tells n es places o tells is = is ∙ tells.each n

-- names that compare alike have the same bytes
compared : (name n : List ℕ) → is_at (slice_cmp nat_cmp name) n ≡ bytes_eq name n
compared name n = is_eq-slice_cmp name n

-- counted from a place on
abbrev pub from : ℕ → Option ℕ → Option ℕ
from i None = None
from i (Some p) = Some (i + p)

from_suc : (i : ℕ) (o : Option ℕ) → from (suc i) o ≡ from i (option_map suc o)
from_suc i None = refl
from_suc i (Some p) = ap Some (omega arith)

pub from_next : (i : ℕ) (o : Option ℕ) → from (i + 1) o ≡ from i (option_map suc o)
from_next i None = refl
from_next i (Some p) = ap Some (omega arith)

from_zero : (o : Option ℕ) → from 0 o ≡ o
from_zero None = refl
from_zero (Some p) = ap Some (omega arith)

-- the place in the first list, or else that in the second, behind the first
abbrev pub either : ℕ → Option ℕ → Option ℕ → Option ℕ
either i (Some p) o = Some p
either i None o = from i o

suc_from : (i : ℕ) (o : Option ℕ) → option_map suc (from i o) ≡ from (suc i) o
suc_from i None = refl
suc_from i (Some p) = ap Some (omega arith)

either_step : (i : ℕ) (b : Bool) (o here both : Option ℕ) → both ≡ either i here o
    → (if b then Some 0 else option_map suc both) ≡ either (suc i) (if b then Some 0 else option_map suc here) o
either_step i true o here both is = refl
either_step i false o (Some p) both is = ap (option_map suc) is
either_step i false o None both is = ap (option_map suc) is ∙ suc_from i o

place_both : (n : List ℕ) (es fs : List (List ℕ × Slot)) → place_among n (es ++ fs) ≡ either (length es) (place_among n es) (place_among n fs)
unfolding place_among
place_both n [] fs = sym (from_zero (place_among n fs))
place_both n (e ∷ es) fs = either_step (length es) (bytes_eq e.0 n) (place_among n fs) (place_among n es) (place_among n (es ++ fs)) (place_both n es fs)

pub place_in_first : (n : List ℕ) (es fs : List (List ℕ × Slot)) (p : ℕ) → Some p ≡ place_among n es → Some p ≡ place_among n (es ++ fs)
place_in_first n es fs p is = sym (place_both n es fs ∙ ap (λ o. either (length es) o (place_among n fs)) (sym is))

pub place_in_second : (n : List ℕ) (es fs : List (List ℕ × Slot)) (p : ℕ) → None ≡ place_among n es → Some p ≡ place_among n fs → Some (length es + p) ≡ place_among n (es ++ fs)
place_in_second n es fs p none is =
    sym (place_both n es fs ∙ (ap (λ o. either (length es) o (place_among n fs)) (sym none) ∙ ap (from (length es)) (sym is)))

pub place_in_none : (n : List ℕ) (es fs : List (List ℕ × Slot)) → None ≡ place_among n es → None ≡ place_among n fs → None ≡ place_among n (es ++ fs)
place_in_none n es fs none is =
    sym (place_both n es fs ∙ (ap (λ o. either (length es) o (place_among n fs)) (sym none) ∙ ap (from (length es)) (sym is)))

-- for each name of the entries from a place on the index tells its first place
pub record TellsFrom (i : ℕ) (places : BTreeMap (List ℕ) ℕ) (es : List (List ℕ × Slot)) : Type 0 where
  pub each : (n : List ℕ) → get_by (slice_cmp nat_cmp n) places ≡ from i (place_among n es)

next_step : (i : ℕ) (b : Bool) (o kept : Option ℕ) → kept ≡ from (suc i) o → cond b (Some i) kept ≡ from i (if b then Some 0 else option_map suc o)
next_step i true o kept is = ap Some (omega arith)
next_step i false o kept is = is ∙ from_suc i o

next_told : (i : ℕ) (e : List ℕ × Slot) (es : List (List ℕ × Slot)) (before after : BTreeMap (List ℕ) ℕ) → TellsFrom (suc i) before es
    → UpdatesBy (slice_cmp nat_cmp) (slice_cmp nat_cmp e.0) before after (Some i) → (n : List ℕ) → get_by (slice_cmp nat_cmp n) after ≡ from i (place_among n (e ∷ es))
unfolding place_among
next_told i e es before after tells updates n =
    updates.0 n
    ∙ (ap (λ b. cond b (Some i) (get_by (slice_cmp nat_cmp n) before)) (compared e.0 n)
    ∙ next_step i (bytes_eq e.0 n) (place_among n es) (get_by (slice_cmp nat_cmp n) before) (tells.each n))

-- all entries
pub tells_all : (i : ℕ) (places : BTreeMap (List ℕ) ℕ) (es : List (List ℕ × Slot)) → i ≤ 0 → TellsFrom i places (drop i es) → TellsPlaces places es
tells_all i places es end tells =
    let zeroth : i ≡ 0 = omega (arith, end) in
    let all : TellsFrom 0 places es = subst (λ (k : ℕ). TellsFrom k places (drop k es)) zeroth tells in
    record { each = λ n. all.each n ∙ from_zero (place_among n es) }

none_told : (es : List (List ℕ × Slot)) (places : BTreeMap (List ℕ) ℕ) (n : List ℕ) → places.entries ≡ [] → get_by (slice_cmp nat_cmp n) places ≡ from (length es) (place_among {V = Slot} n [])
unfolding place_among
none_told es places n empty = rw empty refl

-- no entries
pub tells_none : (es : List (List ℕ × Slot)) (places : BTreeMap (List ℕ) ℕ) (i : ℕ) → i ≡ length es → places.entries ≡ [] → TellsFrom i places (drop i es)
tells_none es places i end empty = rw (end, drop-length es) (record { each = λ n. none_told es places n empty })

-- the entry before those from a place on
pub tells_before : (es : List (List ℕ × Slot)) (i j : ℕ) (x : List ℕ × Slot) (before after : BTreeMap (List ℕ) ℕ) → j ≡ suc i → i < length es → slice_get es i ≡ Some x
    → TellsFrom j before (drop j es) → UpdatesBy (slice_cmp nat_cmp) (slice_cmp nat_cmp x.0) before after (Some i) → TellsFrom i after (drop i es)
tells_before es i j x before after next lt got tells updates =
    let there_some : Some (get_or es i x) ≡ Some x = sym (slice_get-get_or es i x lt) ∙ got in
    let is : x ≡ get_or es i x = cc in
    let one : i + 1 ≡ j = omega (arith, next) in
    let there : drop i es ≡ x ∷ drop j es = drop_more es i x lt ∙ (ap (λ y. y ∷ drop (i + 1) es) (sym is) ∙ ap (λ k. x ∷ drop k es) one) in
    let from_next_on : TellsFrom (suc i) before (drop j es) = subst (λ (k : ℕ). TellsFrom k before (drop j es)) next tells in
    let all : TellsFrom i after (x ∷ drop j es) = record { each = next_told i x (drop j es) before after from_next_on updates } in
    subst (λ (l : List (List ℕ × Slot)). TellsFrom i after l) (sym there) all
