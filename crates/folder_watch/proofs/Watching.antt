-- Paths of modules, part by part.
use Rattle.std.proofs.Common.{ℕ, ◌+◌, ◌<◌, ◌≤◌, List, [], ◌∷◌, ◌++◌, length, Bool, true, false, cond, ◌≡◌, refl, sym, ap, ◌∙◌, arith}
use Rattle.std.specs.Prelude.{◌==◌, ◌&&◌, ◌||◌, not, nat_le}
use Rattle.std.specs.List.{list_all, list_any, onto_first}
use Rattle.std.proofs.lemmas.Bool.{and_parts, and_from, le-leb, leb-true}
use Rattle.std.proofs.lemmas.List.{length-append}
use Rattle.std.proofs.lemmas.List.Folds.{list_all-append, list_any-append}
use Rattle.std.proofs.lemmas.List.Splits.{length-slice_split}
use Rattle.hmr_types.specs.ModName.{is_name, is_segment, parts, slash}
use Rattle.folders.specs.Entries.{has_slash}
use Rattle.folders.specs.Files.{below}
use Rattle.folder_watch.specs.Watched.{are_looked_into, ends_in_js, is_open, is_passed, is_watched}

some_parts : (text : List ℕ) → 0 < length (parts text)
some_parts text = let e = length-slice_split (λ b. b == slash) text in omega (arith, e)

parts_turn : (c : ℕ) (t : Bool) (ps all ns : List (List ℕ)) → all ≡ ps ++ ns → 0 < length ps → cond t ([] ∷ all) (onto_first c all) ≡ cond t ([] ∷ ps) (onto_first c ps) ++ ns
parts_turn c true ps all ns e l = ap (λ x. [] ∷ x) e
parts_turn c false [] all ns e l = absurd (omega arith)
parts_turn c false (p ∷ ps) all ns e l = ap (onto_first c) e

-- the parts before a slash, and those after it
pub parts_below : (folder name : List ℕ) → parts (below folder name) ≡ parts folder ++ parts name
parts_below [] name = refl
parts_below (c ∷ folder) name = parts_turn c (c == slash) (parts folder) (parts (below folder name)) (parts name) (parts_below folder name) (some_parts folder)

plain_turn : (b : ℕ) (name : List ℕ) (t : Bool) → (t || has_slash name) ≡ false → (has_slash name ≡ false → parts name ≡ name ∷ [])
    → cond t ([] ∷ parts name) (onto_first b (parts name)) ≡ (b ∷ name) ∷ []
plain_turn b name true h f = absurd (cc)
plain_turn b name false h f = ap (onto_first b) (f h)

-- a name with no slash is one part
pub parts_plain : (name : List ℕ) → has_slash name ≡ false → parts name ≡ name ∷ []
parts_plain [] h = refl
parts_plain (b ∷ name) h = plain_turn b name (b == slash) h (parts_plain name)

parts_of : (folder name : List ℕ) → has_slash name ≡ false → parts (below folder name) ≡ parts folder ++ name ∷ []
parts_of folder name h = parts_below folder name ∙ ap (λ ns. parts folder ++ ns) (parts_plain name h)

pub not_true : (t : Bool) → not t ≡ true → t ≡ false
not_true true h = absurd (cc)
not_true false h = refl

or_false : (s t : Bool) → (s || t) ≡ false → (s ≡ false) × (t ≡ false)
or_false true t h = absurd (cc)
or_false false t h = (refl, h)

looked_turn : (t : Bool) (rest : Bool) → t ≡ false → rest ≡ true → (not t && rest) ≡ true
looked_turn true rest h k = absurd (cc)
looked_turn false rest h k = k

looked : (xs : List (List ℕ)) (name : List ℕ) → list_any is_passed xs ≡ false → are_looked_into (xs ++ name ∷ []) ≡ true
looked [] name h = refl
looked (x ∷ []) name h = looked_turn (is_passed x) true (or_false (is_passed x) false h).0 refl
looked (x ∷ y ∷ xs) name h =
    let p = or_false (is_passed x) (list_any is_passed (y ∷ xs)) h in
    looked_turn (is_passed x) (are_looked_into (y ∷ (xs ++ name ∷ []))) p.0 (looked (y ∷ xs) name p.1)

-- a name in a folder that is looked into
pub looked_below : (folder name : List ℕ) → is_open folder ≡ true → has_slash name ≡ false → are_looked_into (parts (below folder name)) ≡ true
looked_below folder name o h = ap are_looked_into (parts_of folder name h) ∙ looked (parts folder) name (not_true (list_any is_passed (parts folder)) o)

open_turn : (s t : Bool) → s ≡ false → t ≡ false → not (s || (t || false)) ≡ true
open_turn false false a b = refl
open_turn true t a b = absurd (cc)
open_turn false true a b = absurd (cc)

-- and a folder in it
pub open_below : (folder name : List ℕ) → is_open folder ≡ true → has_slash name ≡ false → is_passed name ≡ false → is_open (below folder name) ≡ true
open_below folder name o h p =
    ap (λ ps. not (list_any is_passed ps)) (parts_of folder name h)
    ∙ ap not (list_any-append is_passed (parts folder) (name ∷ []))
    ∙ open_turn (list_any is_passed (parts folder)) (is_passed name) (not_true (list_any is_passed (parts folder)) o) p

passed_turn : (t rest : Bool) → (not t && rest) ≡ true → (t ≡ false) × (rest ≡ true)
passed_turn true rest h = absurd (cc)
passed_turn false rest h = (refl, h)

none_passed : (xs : List (List ℕ)) (y : List ℕ) (ys : List (List ℕ)) → are_looked_into (xs ++ y ∷ ys) ≡ true → list_any is_passed xs ≡ false
none_passed [] y ys h = refl
none_passed (x ∷ []) y ys h = ap (λ t. t || false) (passed_turn (is_passed x) (are_looked_into (y ∷ ys)) h).0
none_passed (x ∷ z ∷ xs) y ys h =
    let p = passed_turn (is_passed x) (are_looked_into (z ∷ (xs ++ y ∷ ys))) h in
    ap (λ t. t || list_any is_passed (z ∷ xs)) p.0 ∙ none_passed (z ∷ xs) y ys p.1

none_before : (xs ns : List (List ℕ)) → 0 < length ns → are_looked_into (xs ++ ns) ≡ true → list_any is_passed xs ≡ false
none_before xs [] l h = absurd (omega arith)
none_before xs (n ∷ ns) l h = none_passed xs n ns h

-- what a module's path says of it
pub watched_parts : (path : List ℕ) → is_watched path ≡ true → (is_name path ≡ true) × (ends_in_js path ≡ true) × (are_looked_into (parts path) ≡ true)
watched_parts path h =
    let a = and_parts (is_name path && ends_in_js path) (are_looked_into (parts path)) h in
    let b = and_parts (is_name path) (ends_in_js path) a.0 in
    (b.0, b.1, a.1)

pub watched_from : (path : List ℕ) → is_name path ≡ true → ends_in_js path ≡ true → are_looked_into (parts path) ≡ true → is_watched path ≡ true
watched_from path a b c = and_from _ _ (and_from _ _ a b) c

-- the front of a name before a slash is a name
pub name_front : (path rest : List ℕ) → 0 < length path → is_name (below path rest) ≡ true → is_name path ≡ true
name_front [] rest l h = absurd (omega arith)
name_front (b ∷ bs) rest l h =
    let t = and_parts ((b == slash) && nat_le (length (b ∷ below bs rest)) 255) (list_all is_segment (parts (below bs rest))) h in
    let u = and_parts (b == slash) (nat_le (length (b ∷ below bs rest)) 255) t.0 in
    let long : length (below bs rest) ≡ length bs + length (slash ∷ rest) = length-append bs (slash ∷ rest) in
    let few : length (b ∷ below bs rest) ≤ 255 = leb-true (length (b ∷ below bs rest)) 255 u.1 in
    let both : (list_all is_segment (parts bs) && list_all is_segment (parts rest)) ≡ true = sym (list_all-append is_segment (parts bs) (parts rest)) ∙ ap (list_all is_segment) (sym (parts_below bs rest)) ∙ t.1 in
    and_from _ _ (and_from _ _ u.0 (le-leb (length (b ∷ bs)) 255 (omega (arith, long, few)))) (and_parts (list_all is_segment (parts bs)) (list_all is_segment (parts rest)) both).0

-- a name has at most 255 bytes
pub name_short : (path : List ℕ) → is_name path ≡ true → length path ≤ 255
name_short [] h = absurd (cc)
name_short (b ∷ bs) h =
    let t = and_parts ((b == slash) && nat_le (length (b ∷ bs)) 255) (list_all is_segment (parts bs)) h in
    leb-true (length (b ∷ bs)) 255 (and_parts (b == slash) (nat_le (length (b ∷ bs)) 255) t.0).1

-- and begins with a slash
pub slash_first : (b : ℕ) (bs : List ℕ) → is_name (b ∷ bs) ≡ true → (b == slash) ≡ true
slash_first b bs h =
    let t = and_parts ((b == slash) && nat_le (length (b ∷ bs)) 255) (list_all is_segment (parts bs)) h in
    (and_parts (b == slash) (nat_le (length (b ∷ bs)) 255) t.0).0

some_below : (folder name : List ℕ) → 0 < length (below folder name)
some_below folder name = let e = length-append folder (slash ∷ name) in omega (arith, e)

last_false : (s t : Bool) → (s || (t || false)) ≡ false → t ≡ false
last_false true t h = absurd (cc)
last_false false true h = absurd (cc)
last_false false false h = refl

-- a folder that a module's path leads through is one that is looked into
pub through_watched : (folder name rest : List ℕ) → is_watched (below (below folder name) rest) ≡ true → has_slash name ≡ false
    → (is_name (below folder name) ≡ true) × (is_passed name ≡ false)
through_watched folder name rest w h =
    let p = watched_parts (below (below folder name) rest) w in
    let none : list_any is_passed (parts (below folder name)) ≡ false = none_before (parts (below folder name)) (parts rest) (some_parts rest) (ap are_looked_into (sym (parts_below (below folder name) rest)) ∙ p.2) in
    let split : (list_any is_passed (parts folder) || (is_passed name || false)) ≡ false = sym (list_any-append is_passed (parts folder) (name ∷ [])) ∙ ap (list_any is_passed) (sym (parts_of folder name h)) ∙ none in
    (name_front (below folder name) rest (some_below folder name) p.0, last_false (list_any is_passed (parts folder)) (is_passed name) split)

-- a folder that is kept is one that is looked into
pub kept_open : (folder name path : List ℕ) → path ≡ below folder name → is_open folder ≡ true → has_slash name ≡ false
    → (not (is_passed name) && is_name path) ≡ true → is_open path ≡ true
kept_open folder name path e o h k =
    ap is_open e ∙ open_below folder name o h (not_true (is_passed name) (and_parts (not (is_passed name)) (is_name path) k).0)

pub kept_short : (name path : List ℕ) → (not (is_passed name) && is_name path) ≡ true → length path ≤ 255
kept_short name path k = name_short path (and_parts (not (is_passed name)) (is_name path) k).1
