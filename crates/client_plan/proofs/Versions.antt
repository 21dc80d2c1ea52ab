-- The row of a name gets a version.
use Rattle.std.proofs.Common.{◌≡◌, ℕ, zero, suc, ◌<◌, arith, get_or, length, Bool, true, false, cond, List, [], ◌∷◌, refl, ap, sym, ◌∙◌}
use Rattle.std.specs.Prelude.{nat_lt, position, slice_get, slice_set, Option, Some, None, if◌then◌else◌}
use Rattle.std.specs.Cmp.Lexicographic.{nat_list_eq_equiv}
use Rattle.std.specs.List.{position_or_len}
use Rattle.std.proofs.lemmas.Bool.{ltb-false}
use Rattle.std.proofs.lemmas.List.Quantifiers.{position-Some}
use Rattle.std.proofs.lemmas.List.Sums.{fails_before_first}
use Rattle.std.proofs.lemmas.Option.{none-some, same_Some, slice_get-get_or}
use Rattle.core_model.specs.Names.{Name, names_of, same_name}
use Rattle.core_model.specs.View.{Entry}
use Rattle.client_plan.specs.Renewing.{put_version}

named_step : (b : Bool) (v : ℕ) (row : Name × ℕ) (rows more : List (Name × ℕ)) → names_of more ≡ names_of rows → names_of (if b then (row.0, v) ∷ rows else row ∷ more) ≡ names_of (row ∷ rows)
named_step true v row rows more e = refl
named_step false v row rows more e = ap (λ l. row.0 ∷ l) e

-- the names stay
pub version_named : (n : Name) (o : Option Entry) (rows : List (Name × ℕ)) → names_of (put_version n o rows) ≡ names_of rows
version_named n None rows = refl
version_named n (Some e) [] = refl
version_named n (Some e) (row ∷ rows) = named_step (same_name row.0 n) e.version row rows (put_version n (Some e) rows) (version_named n (Some e) rows)

row_step : (n : Name) (e : Entry) (row : Name × ℕ) (rows : List (Name × ℕ)) (b : Bool) → same_name n row.0 ≡ b → put_version n (Some e) (row ∷ rows) ≡ (if b then (row.0, e.version) ∷ rows else row ∷ put_version n (Some e) rows)
row_step n e row rows b s = ap (λ c. if c then (row.0, e.version) ∷ rows else row ∷ put_version n (Some e) rows) (nat_list_eq_equiv.symm row.0 n ∙ s)

placed : (n : Name) (e : Entry) (x : Name × ℕ) (rows : List (Name × ℕ)) (p : ℕ) → slice_get rows p ≡ Some x → same_name n (get_or (names_of rows) p []) ≡ true
    → ((k : ℕ) → k < p → same_name n (get_or (names_of rows) k []) ≡ false) → slice_set rows p (x.0, e.version) ≡ put_version n (Some e) rows
placed n e x [] zero there is before = absurd (none-some x there)
placed n e x [] (suc p) there is before = absurd (none-some x there)
placed n e x (row ∷ rows) zero there is before =
    ap (λ (y : Name × ℕ). (y.0, e.version) ∷ rows) (sym (same_Some row x there)) ∙ sym (row_step n e row rows true is)
placed n e x (row ∷ rows) (suc p) there is before =
    ap (λ l. row ∷ l) (placed n e x rows p there is (λ k lt. before (suc k) (omega (arith, lt))))
    ∙ sym (row_step n e row rows false (before 0 (omega arith)))

unplaced : (n : Name) (e : Entry) (rows : List (Name × ℕ)) → ((k : ℕ) → k < length rows → same_name n (get_or (names_of rows) k []) ≡ false) → put_version n (Some e) rows ≡ rows
unplaced n e [] none = refl
unplaced n e (row ∷ rows) none = row_step n e row rows false (none 0 (omega arith)) ∙ ap (λ l. row ∷ l) (unplaced n e rows (λ k lt. none (suc k) (omega (arith, lt))))

names_long : (rows : List (Name × ℕ)) → length (names_of rows) ≡ length rows
names_long [] = refl
names_long (row ∷ rows) = ap suc (names_long rows)

-- a name's place is within the rows
pub place_within : (n : Name) (rows : List (Name × ℕ)) (names : List Name) (p : ℕ) → names_of rows ≡ names → Some p ≡ position (same_name n) names → p < length rows
place_within n rows names p named found =
    let at = position-Some (same_name n) (names_of rows) p [] (ap (position (same_name n)) named ∙ sym found) in
    omega (arith, at.0, names_long rows)

-- the row at the name's place
pub version_placed : (n : Name) (e : Entry) (x : Name × ℕ) (rows : List (Name × ℕ)) (names : List Name) (p : ℕ) → names_of rows ≡ names → Some p ≡ position (same_name n) names → x ≡ get_or rows p x
    → slice_set rows p (x.0, e.version) ≡ put_version n (Some e) rows
version_placed n e x rows names p named found is =
    let at = position-Some (same_name n) (names_of rows) p [] (ap (position (same_name n)) named ∙ sym found) in
    placed n e x rows p (slice_get-get_or rows p x (place_within n rows names p named found) ∙ ap Some (sym is)) at.1 at.2

past_all : (b : Bool) (p : ℕ) → None ≡ cond b (Some p) None → b ≡ false
past_all true p e = absurd (none-some p e)
past_all false p e = refl

-- a name without a row
pub version_unplaced : (n : Name) (e : Entry) (rows : List (Name × ℕ)) (names : List Name) → names_of rows ≡ names → None ≡ position (same_name n) names → put_version n (Some e) rows ≡ rows
version_unplaced n e rows names named found =
    let past = ltb-false _ _ (past_all (nat_lt (position_or_len (same_name n) (names_of rows)) (length (names_of rows))) (position_or_len (same_name n) (names_of rows)) (found ∙ ap (position (same_name n)) (sym named))) in
    unplaced n e rows (λ k lt. fails_before_first (same_name n) (names_of rows) k [] (omega (arith, lt, past, names_long rows)))
