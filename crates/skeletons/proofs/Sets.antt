-- What is shown of a scan can be said, and is what is told, or too much of it.
use Rattle.std.proofs.Common.{◌≡◌, ◌≤◌, ◌<◌, ℕ, zero, suc, Bool, true, false, cond, List, [], ◌∷◌, ◌++◌, length, take, drop, codes, refl, sym, ap, ◌∙◌, arith, Option, Some, None, Ok, Err}
use Rattle.std.specs.Prelude.{bytes_eq, not, ◌&&◌, ◌||◌, filter, nat_lt, if◌then◌else◌}
use Rattle.std.specs.List.{list_all}
use Rattle.std.specs.Option.{option_to_list}
use Rattle.std.proofs.lemmas.Bool.{and_parts, and_from, lt-ltb, not-true, true≢false}
use Rattle.std.proofs.lemmas.Map.Views.{any-filter_same}
use Rattle.std.proofs.lemmas.List.{length-take, take_all}
use Rattle.std.proofs.lemmas.List.Folds.{list_all-append}
use Rattle.std.proofs.lemmas.Slice.Eq.{bytes_eq-Decides}
use Rattle.hmr_types.specs.ModName as names
use Rattle.hmr_types.specs.declared.analysis.Analysis.{Analysis}
use Rattle.module_semantics.specs.declared.scanning.ScanFault.TheVariants as scan
use Rattle.module_semantics.specs.Analysis.{firsts, if_few}
use Rattle.module_semantics.specs.Entries.{are_different, has_name}
use Rattle.es_scan.specs.declared.outline.ModuleSpecifier.{ModuleSpecifier}
use Rattle.es_scan.specs.declared.outline.Outline.{Outline}
use Rattle.percent_encoding.specs.Percent.{percent_decode}
use Rattle.hmr_types.specs.ModName.{parts}
use Rattle.hmr_types.specs.Specifier.{segments, spelled, without_last}
use Rattle.file_names.specs.FileNames.{encoded}
use Rattle.file_names.specs.Specifiers.{begins, is_folder, is_path, module_at, module_by, named, resolved, walk}
use Rattle.skeletons.specs.Following.{imported, inside, shown, stands_in, target, targets, told, told_of}
use Rattle.skeletons.specs.Lists.{list_shown, list_told}
use Rattle.skeletons.specs.declared.following.Relation.{Relation}
use Rattle.skeletons.specs.declared.following.Relation.TheVariants as relations
use Rattle.skeletons.proofs.Sayable.{CanBeSaid}

abbrev are_names : List (List ℕ) → Bool
are_names = list_all names.is_name

-- where there is a name, it is one
abbrev IsName : Option (List ℕ) → Type 0
IsName o = are_names (option_to_list o) ≡ true

named_by : (text : List ℕ) (t : Bool) → names.is_name text ≡ t → IsName (if t then Some text else None)
named_by text true is = and_from (names.is_name text) true is refl
named_by text false is = refl

named_is : (text : List ℕ) → IsName (named text)
named_is text = named_by text (names.is_name text) refl

either : (t : Bool) (x y : Option (List ℕ)) → IsName x → IsName y → IsName (if t then x else y)
either true x y h g = h
either false x y h g = g

at_is : (base text : List ℕ) → IsName (module_at base text)
at_is base text =
    let top = spelled (walk [] (parts (drop 1 text))) in
    let near = spelled (walk (without_last (segments base)) (parts text)) in
    either (begins (codes "/") text) (named top) (named near) (named_is top) (named_is near)

by_is : (base path : List ℕ) → IsName (module_by base path)
by_is base path = either (is_folder path) None (module_at base (encoded path)) refl (at_is base (encoded path))

resolved_is : (base specifier : List ℕ) → IsName (resolved base specifier)
unfolding resolved
resolved_is base specifier = either (is_path specifier) (module_by base (percent_decode specifier)) None (by_is base (percent_decode specifier)) refl

target_is : (r : Relation) (name text : List ℕ) (s : ModuleSpecifier) → IsName (target r name text s)
target_is r name text s = either (stands_in r s.purpose) (resolved name (inside text s.literal)) None (resolved_is name (inside text s.literal)) refl

both_are : (ns ms : List (List ℕ)) → are_names ns ≡ true → are_names ms ≡ true → are_names (ns ++ ms) ≡ true
both_are ns ms h g = list_all-append names.is_name ns ms ∙ and_from (are_names ns) (are_names ms) h g

targets_are : (r : Relation) (name text : List ℕ) (ss : List ModuleSpecifier) → are_names (targets r name text ss) ≡ true
targets_are r name text [] = refl
targets_are r name text (s ∷ ss) = both_are (option_to_list (target r name text s)) (targets r name text ss) (target_is r name text s) (targets_are r name text ss)

-- what holds of all holds of some of them
filter_step : (q : List ℕ → Bool) (n : List ℕ) (kept : List (List ℕ)) (b : Bool) → q n ≡ true → list_all q kept ≡ true → list_all q (cond b (n ∷ kept) kept) ≡ true
filter_step q n kept true h more = and_from (q n) (list_all q kept) h more
filter_step q n kept false h more = more

all_filter : (q p : List ℕ → Bool) (ns : List (List ℕ)) → list_all q ns ≡ true → list_all q (filter p ns) ≡ true
all_filter q p [] h = refl
all_filter q p (n ∷ ns) h =
    let both = and_parts (q n) (list_all q ns) h in
    filter_step q n (filter p ns) (p n) both.0 (all_filter q p ns both.1)

all_firsts : (q : List ℕ → Bool) (ns : List (List ℕ)) → list_all q ns ≡ true → list_all q (firsts ns) ≡ true
all_firsts q [] h = refl
all_firsts q (n ∷ ns) h =
    let both = and_parts (q n) (list_all q ns) h in
    and_from (q n) _ both.0 (all_filter q (λ m. not (bytes_eq m n)) (firsts ns) (all_firsts q ns both.1))

all_take : (q : List ℕ → Bool) (k : ℕ) (ns : List (List ℕ)) → list_all q ns ≡ true → list_all q (take k ns) ≡ true
all_take q zero ns h = refl
all_take q (suc k) [] h = refl
all_take q (suc k) (n ∷ ns) h =
    let both = and_parts (q n) (list_all q ns) h in
    and_from (q n) (list_all q (take k ns)) both.0 (all_take q k ns both.1)

-- names of which one isn't there, after a filter
absent_step : (m n : List ℕ) (ns kept : List (List ℕ)) (b : Bool) → (bytes_eq n m || has_name m ns) ≡ false → (has_name m ns ≡ false → has_name m kept ≡ false)
    → has_name m (cond b (n ∷ kept) kept) ≡ false
absent_step m n ns kept b h more = by (bytes_eq n m) refl b h where
  by : (a : Bool) → bytes_eq n m ≡ a → (b : Bool) → (a || has_name m ns) ≡ false → has_name m (cond b (n ∷ kept) kept) ≡ false
  by true is b h = absurd (true≢false h)
  by false is true h = ap (λ a. a || has_name m kept) is ∙ more h
  by false is false h = more h

absent_after : (m : List ℕ) (p : List ℕ → Bool) (ns : List (List ℕ)) → has_name m ns ≡ false → has_name m (filter p ns) ≡ false
absent_after m p [] h = h
absent_after m p (n ∷ ns) h = absent_step m n ns (filter p ns) (p n) h (absent_after m p ns)

different_step : (n : List ℕ) (p : List ℕ → Bool) (ns : List (List ℕ)) (b : Bool) → (not (has_name n ns) && are_different ns) ≡ true
    → (are_different ns ≡ true → are_different (filter p ns) ≡ true) → are_different (cond b (n ∷ filter p ns) (filter p ns)) ≡ true
different_step n p ns true h more =
    let both = and_parts (not (has_name n ns)) (are_different ns) h in
    and_from (not (has_name n (filter p ns))) (are_different (filter p ns)) (ap not (absent_after n p ns (not-true (has_name n ns) both.0))) (more both.1)
different_step n p ns false h more = more (and_parts (not (has_name n ns)) (are_different ns) h).1

-- different names stay different after a filter
different_after : (p : List ℕ → Bool) (ns : List (List ℕ)) → are_different ns ≡ true → are_different (filter p ns) ≡ true
different_after p [] h = h
different_after p (n ∷ ns) h = different_step n p ns (p n) h (different_after p ns)

-- names that come once each are different
firsts_different : (ns : List (List ℕ)) → are_different (firsts ns) ≡ true
firsts_different [] = refl
firsts_different (n ∷ ns) =
    let gone : has_name n (filter (λ m. not (bytes_eq m n)) (firsts ns)) ≡ false = any-filter_same (λ m. bytes_eq m n) (λ m. not (bytes_eq m n)) false (λ k is. ap not is) (firsts ns) in
    and_from (not (has_name n (filter (λ m. not (bytes_eq m n)) (firsts ns)))) (are_different (filter (λ m. not (bytes_eq m n)) (firsts ns)))
    (ap not gone) (different_after (λ m. not (bytes_eq m n)) (firsts ns) (firsts_different ns))

-- the first of different names are different
take_step : (m n : List ℕ) (ns kept : List (List ℕ)) (a : Bool) → bytes_eq n m ≡ a → (a || has_name m ns) ≡ false → (has_name m ns ≡ false → has_name m kept ≡ false) → has_name m (n ∷ kept) ≡ false
take_step m n ns kept true is h more = absurd (true≢false h)
take_step m n ns kept false is h more = ap (λ a. a || has_name m kept) is ∙ more h

absent_take : (m : List ℕ) (k : ℕ) (ns : List (List ℕ)) → has_name m ns ≡ false → has_name m (take k ns) ≡ false
absent_take m zero ns h = refl
absent_take m (suc k) [] h = refl
absent_take m (suc k) (n ∷ ns) h = take_step m n ns (take k ns) (bytes_eq n m) refl h (absent_take m k ns)

different_take : (k : ℕ) (ns : List (List ℕ)) → are_different ns ≡ true → are_different (take k ns) ≡ true
different_take zero ns h = refl
different_take (suc k) [] h = refl
different_take (suc k) (n ∷ ns) h =
    let both = and_parts (not (has_name n ns)) (are_different ns) h in
    and_from (not (has_name n (take k ns))) (are_different (take k ns)) (ap not (absent_take n k ns (not-true (has_name n ns) both.0))) (different_take k ns both.1)

-- each of the names is among them
later : (m n : List ℕ) (ns : List (List ℕ)) → has_name m ns ≡ true → has_name m (n ∷ ns) ≡ true
later m n ns h = by (bytes_eq n m) where
  by : (a : Bool) → (a || has_name m ns) ≡ true
  by true = refl
  by false = h

found_in : (ns ms : List (List ℕ)) → ((n : List ℕ) → has_name n ns ≡ true → has_name n ms ≡ true) → list_all (λ n. has_name n ms) ns ≡ true
found_in [] ms h = refl
found_in (n ∷ ns) ms h =
    let here : has_name n (n ∷ ns) ≡ true = ap (λ b. b || has_name n ns) ((bytes_eq-Decides n n).1 refl) in
    and_from (has_name n ms) (list_all (λ m. has_name m ms) ns) (h n here) (found_in ns ms (λ m g. h m (later m n ns g)))

few_step : (n : List ℕ) (kept ns : List (List ℕ)) (b : Bool) → length kept ≤ length ns → length (cond b (n ∷ kept) kept) ≤ length (n ∷ ns)
few_step n kept ns true h = omega (arith, h)
few_step n kept ns false h = omega (arith, h)

few_kept : (p : List ℕ → Bool) (ns : List (List ℕ)) → length (filter p ns) ≤ length ns
few_kept p [] = omega arith
few_kept p (n ∷ ns) = few_step n (filter p ns) ns (p n) (few_kept p ns)

can_be : (ns accepts : List (List ℕ)) (own declined : Bool) → are_different ns ≡ true → are_names ns ≡ true → length ns ≤ 257 → CanBeSaid (told_of ns accepts own declined)
can_be ns accepts own declined apart are few =
    let p = λ (n : List ℕ). has_name n accepts in
    record {
      imports = apart;
      names = are;
      few = few;
      exports = refl;
      accepted = different_after p ns apart;
      accepted_names = all_filter names.is_name p ns are;
      among = all_filter (λ n. has_name n ns) p ns (found_in ns ns (λ n h. h));
      heard = omega (arith, few_kept p ns, few);
    }

imported_are : (name text : List ℕ) (ss : List ModuleSpecifier) → are_names (imported name text ss) ≡ true
imported_are name text ss =
    both_are (targets relations.Imported name text ss) (targets relations.Called name text ss) (targets_are relations.Imported name text ss) (targets_are relations.Called name text ss)

-- the first of names, each once
first_can : (met accepts : List (List ℕ)) (own declined : Bool) → are_names met ≡ true → CanBeSaid (told_of (take 257 (firsts met)) accepts own declined)
first_can met accepts own declined are =
    let ns = firsts met in
    can_be (take 257 ns) accepts own declined (different_take 257 ns (firsts_different met))
    (all_take names.is_name 257 ns (all_firsts names.is_name met are)) (omega (arith, length-take 257 ns))

pub shown_can : (name text : List ℕ) (o : Outline) → CanBeSaid (shown name text o)
shown_can name text o = first_can (imported name text o.specifiers.items) _ _ _ (imported_are name text o.specifiers.items)

pub list_can : (imports accepts : List (List ℕ)) → are_names imports ≡ true → CanBeSaid (list_shown imports accepts)
list_can imports accepts are = first_can imports accepts false false are

many_step : (a : Analysis) → 256 < length a.imports → if_few a ≡ Err scan.TooManyImports
many_step a many = ap (λ b. if b then Err scan.TooManyImports else Ok a) (lt-ltb 256 (length a.imports) many)

by_count : (ns accepts : List (List ℕ)) (own declined t : Bool) → nat_lt 257 (length ns) ≡ t → if_few (told_of (take 257 ns) accepts own declined) ≡ if_few (told_of ns accepts own declined)
by_count ns accepts own declined true is =
    let many : 257 < length ns = search (arith, is) in
    many_step (told_of (take 257 ns) accepts own declined) (omega (arith, length-take 257 ns, many)) ∙ sym (many_step (told_of ns accepts own declined) (omega (arith, many)))
by_count ns accepts own declined false is =
    let few : length ns ≤ 257 = search (arith, is) in
    ap (λ l. if_few (told_of l accepts own declined)) (take_all 257 ns few)

-- what is shown is told, or both are too much
pub shown_tells : (name text : List ℕ) (o : Outline) → if_few (shown name text o) ≡ if_few (told name text o)
shown_tells name text o =
    let ns = firsts (imported name text o.specifiers.items) in
    by_count ns _ _ _ (nat_lt 257 (length ns)) refl

pub list_tells : (imports accepts : List (List ℕ)) → if_few (list_shown imports accepts) ≡ if_few (list_told imports accepts)
list_tells imports accepts =
    let ns = firsts imports in
    by_count ns accepts false false (nat_lt 257 (length ns)) refl
