-- The places at which names stand first: what a map keeps of them tells which names they are, and how one more name changes it.
use Rattle.std.proofs.Common.{◌≡◌, ℕ, zero, suc, ◌+◌, ◌≤◌, ◌<◌, List, [], ◌∷◌, ◌++◌, length, map, take, get_or, Bool, true, false, cond, ◌||◌, if◌then◌else◌, Option, Some, None, refl, ap, sym, ◌∙◌, arith}
use Rattle.std.specs.Prelude.{is_some, nat_lt}
use Rattle.std.specs.Option.{option_map, option_or, unwrap_or}
use Rattle.std.specs.Str.{bytes_eq}
use Rattle.std.specs.BTreeMap.{BTreeMap, is_at, UpdatesBy}
use Rattle.std.specs.Cmp.Lexicographic.{slice_cmp, nat_list_eq_equiv}
use Rattle.std.specs.Ordering.{nat_cmp}
use Rattle.std.proofs.lemmas.Bool.{false≢true}
use Rattle.std.proofs.lemmas.Bool.Decides.{nat_tests}
use Rattle.std.proofs.lemmas.List.{length-map, length-take-le, map-append, map_more, take-map}
use Rattle.std.proofs.lemmas.Map.Text.{is_eq-slice_cmp}
use Rattle.std.proofs.lemmas.Slice.Eq.{bytes_eq-Decides}
use Rattle.raw_trees.specs.declared.name_at.NameAt.{NameAt}
use Rattle.raw_trees.specs.Raw.{name_at_of}
use Rattle.module_semantics.specs.Kinds as plain
use Rattle.module_semantics.specs.NameRules.{has_name, names_of}
use Rattle.module_semantics.specs.Resolving.{place_of}
use Rattle.name_rules.specs.Places.{KeepsFirst, TellsPlaces, place_among, place_kept}

has_step : (b h : Bool) (o : Option ℕ) → is_some o ≡ h → is_some (if b then Some 0 else option_map suc o) ≡ (b || h)
has_step true h o same = refl
has_step false h None same = same
has_step false h (Some p) same = same

-- a name has a place where it is one of them
has_place : (n : List ℕ) (ns : List (List ℕ)) → is_some (place_among n ns) ≡ has_name n ns
unfolding has_name
has_place n [] = refl
has_place n (m ∷ ms) = has_step (bytes_eq n m) (has_name n ms) (place_among n ms) (has_place n ms)

-- so has it in what is kept
pub has_kept : (n : List ℕ) (places : List (List ℕ × ℕ)) (ns : List (List ℕ)) → TellsPlaces places ns → is_some (place_kept n places) ≡ has_name n ns
has_kept n places ns tells = ap is_some (tells n) ∙ has_place n ns

place_step : (b : Bool) (p l : ℕ) (o : Option ℕ) → p ≡ unwrap_or o l → (if b then 0 else suc p) ≡ unwrap_or (if b then Some 0 else option_map suc o) (suc l)
place_step true p l o same = refl
place_step false p l None same = ap suc same
place_step false p l (Some q) same = ap suc same

place_is : (n : List ℕ) (ns : List (List ℕ)) → place_of n ns ≡ unwrap_or (place_among n ns) (length ns)
unfolding place_of
place_is n [] = refl
place_is n (m ∷ ms) = place_step (bytes_eq n m) (place_of n ms) (length ms) (place_among n ms) (place_is n ms)

-- the place is the one that is kept, or behind them all
kept_is : (n : List ℕ) (places : List (List ℕ × ℕ)) (ns : List (List ℕ)) (o : Option ℕ) → TellsPlaces places ns → o ≡ place_kept n places → unwrap_or o (length ns) ≡ place_of n ns
kept_is n places ns o tells is = ap (λ p. unwrap_or p (length ns)) (is ∙ tells n) ∙ sym (place_is n ns)

before_step : (b h : Bool) (p i : ℕ) → h ≡ nat_lt p i → (b || h) ≡ nat_lt (if b then 0 else suc p) (suc i)
before_step true h p i same = grind (arith, nat_tests)
before_step false h p i same = grind (arith, nat_tests)

before_place : (n : List ℕ) (ns : List (List ℕ)) (i : ℕ) → i ≤ length ns → has_name n (take i ns) ≡ nat_lt (place_of n ns) i
unfolding has_name place_of
before_place n [] zero few = refl
before_place n [] (suc i) few = absurd (omega arith)
before_place n (m ∷ ms) zero few = grind (arith, nat_tests)
before_place n (m ∷ ms) (suc i) few = before_step (bytes_eq n m) (has_name n (take i ms)) (place_of n ms) i (before_place n ms i (omega arith))

-- a name is one of the first so many where its place is
pub has_before : (n : List ℕ) (ns : List plain.NameAt) (i p : ℕ) → p ≡ place_of n (names_of ns) → i ≤ length ns → nat_lt p i ≡ has_name n (names_of (take i ns))
has_before n ns i p is few =
    ap (λ q. nat_lt q i) is ∙ (sym (before_place n (names_of ns) i (rw (length-map ns (λ m. m.name)) few)) ∙ ap (has_name n) (take-map (λ m. m.name) i ns))

-- names that compare alike have the same bytes
compared : (name n : List ℕ) → is_at (slice_cmp nat_cmp name) n ≡ bytes_eq n name
compared name n = is_eq-slice_cmp name n ∙ nat_list_eq_equiv.symm name n

same_bytes : (xs ys : List ℕ) → bytes_eq xs ys ≡ true → xs ≡ ys
same_bytes xs ys e = (bytes_eq-Decides xs ys).0 e

at_same : (n name : List ℕ) (places : List (List ℕ × ℕ)) (b : Bool) → is_some (place_kept name places) ≡ b → bytes_eq n name ≡ true → is_some (place_kept n places) ≡ b
at_same n name places b kept same = ap (λ m. is_some (place_kept m places)) (same_bytes n name same) ∙ kept

stays_step : (b : Bool) (place : ℕ) (o : Option ℕ) → (b ≡ true → is_some o ≡ true) → o ≡ option_or o (if b then Some place else None)
stays_step true place None some = absurd (false≢true (some refl))
stays_step false place None some = refl
stays_step b place (Some p) some = refl

-- where a place is kept for the name, nothing changes
pub stays_kept : (name : List ℕ) (place : ℕ) (places : List (List ℕ × ℕ)) → is_some (place_kept name places) ≡ true → KeepsFirst name place places places
stays_kept name place places kept n = stays_step (bytes_eq n name) place (place_kept n places) (at_same n name places true kept)

put_step : (b : Bool) (place : ℕ) (o new : Option ℕ) → new ≡ cond b (Some place) o → (b ≡ true → is_some o ≡ false) → new ≡ option_or o (if b then Some place else None)
put_step true place None new is none = is
put_step true place (Some p) new is none = absurd (false≢true (sym (none refl)))
put_step false place None new is none = is
put_step false place (Some p) new is none = is

-- where none is kept for the name, its place is put
pub put_kept : (name : List ℕ) (place : ℕ) (m n : BTreeMap (List ℕ) ℕ) → is_some (place_kept name m.entries) ≡ false → UpdatesBy (slice_cmp nat_cmp) (slice_cmp nat_cmp name) m n (Some place)
    → KeepsFirst name place m.entries n.entries
put_kept name place m n none updates q =
    put_step (bytes_eq q name) place (place_kept q m.entries) (place_kept q n.entries) (updates.0 q ∙ ap (λ b. cond b (Some place) (place_kept q m.entries)) (compared name q)) (at_same q name m.entries false none)

more_step : (b c : Bool) (l : ℕ) (o more : Option ℕ) → more ≡ option_or o (if c then Some l else None)
    → (if b then Some 0 else option_map suc more) ≡ option_or (if b then Some 0 else option_map suc o) (if c then Some (suc l) else None)
more_step true c l o more is = refl
more_step false true l None more is = ap (option_map suc) is
more_step false false l None more is = ap (option_map suc) is
more_step false c l (Some p) more is = ap (option_map suc) is

place_more : (n m : List ℕ) (ns : List (List ℕ)) → place_among n (ns ++ m ∷ []) ≡ option_or (place_among n ns) (if bytes_eq n m then Some (length ns) else None)
place_more n m [] = refl
place_more n m (x ∷ xs) = more_step (bytes_eq n x) (bytes_eq n m) (length xs) (place_among n xs) (place_among n (xs ++ m ∷ [])) (place_more n m xs)

-- one more name, which stands behind them all
tells_more : (m : List ℕ) (place : ℕ) (ns more : List (List ℕ)) (before after : List (List ℕ × ℕ)) → place ≡ length ns → more ≡ ns ++ m ∷ [] → TellsPlaces before ns → KeepsFirst m place before after
    → TellsPlaces after more
tells_more m place ns more before after at is tells keeps n =
    keeps n ∙ (ap (λ o. option_or o (if bytes_eq n m then Some place else None)) (tells n)
    ∙ (ap (λ p. option_or (place_among n ns) (if bytes_eq n m then Some p else None)) at ∙ (sym (place_more n m ns) ∙ ap (place_among n) (sym is))))

-- the characters of names where they stand
abbrev pub names : List NameAt → List (List ℕ)
names ns = names_of (map name_at_of ns)

length_names : (ns : List NameAt) → length (names ns) ≡ length ns
length_names ns = length-map (map name_at_of ns) (λ n. n.name) ∙ length-map ns name_at_of

-- one more of the names
pub names_more : (ns : List NameAt) (i : ℕ) (x : NameAt) → i < length ns → x ≡ get_or ns i x → names (take (i + 1) ns) ≡ names (take i ns) ++ x.name ∷ []
names_more ns i x lt is =
    ap names_of (map_more name_at_of ns i x lt) ∙ (map-append (λ n. n.name) (map name_at_of (take i ns)) (name_at_of (get_or ns i x) ∷ []) ∙ ap (λ y. names (take i ns) ++ y.name ∷ []) (sym is))

-- the place of the next of the names is kept
pub next_kept : (ns : List NameAt) (i place : ℕ) (x : NameAt) (before after : List (List ℕ × ℕ)) → i < length ns → x ≡ get_or ns i x → place ≡ i → TellsPlaces before (names (take i ns))
    → KeepsFirst x.name place before after → TellsPlaces after (names (take (i + 1) ns))
next_kept ns i place x before after lt is at tells keeps =
    tells_more x.name place (names (take i ns)) (names (take (i + 1) ns)) before after (at ∙ sym (length_names (take i ns) ∙ length-take-le i ns (omega arith))) (names_more ns i x lt is) tells keeps

-- a place that is kept is the name's
pub found_place : (n : List ℕ) (places : List (List ℕ × ℕ)) (ns : List NameAt) (p : ℕ) → TellsPlaces places (names ns) → Some p ≡ place_kept n places → p ≡ place_of n (names ns)
found_place n places ns p tells is = kept_is n places (names ns) (Some p) tells is

-- where none is kept the name's place is behind them all
pub no_place : (n : List ℕ) (places : List (List ℕ × ℕ)) (ns : List NameAt) → TellsPlaces places (names ns) → None ≡ place_kept n places → length ns ≡ place_of n (names ns)
no_place n places ns tells is = sym (length_names ns) ∙ kept_is n places (names ns) None tells is
