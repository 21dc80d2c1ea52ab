-- A skeleton fits, and its canonical text is short enough.
use Rattle.std.proofs.Common.{◌≡◌, ◌+◌, ◌*◌, ◌≤◌, ℕ, max, List, [], ◌∷◌, ◌++◌, Bool, true, false, length, refl, sym, ap, ◌∙◌, arith, map, append_assoc, codes, length-append}
use Rattle.std.specs.List.{list_all}
use Rattle.std.specs.Str.{is_utf8}
use Rattle.std.proofs.lemmas.Bool.{and_parts, and_from, le-leb}
use Rattle.std.proofs.lemmas.List.{map-append}
use Rattle.std.proofs.lemmas.List.Folds.{list_all-append}
use Rattle.std.proofs.lemmas.Str.{is_utf8-from_IsUtf8}
use Rattle.hmr_types.specs.ModName as names
use Rattle.hmr_types.proofs.Names.{is_name-IsUtf8}
use Rattle.hmr_types.specs.declared.analysis.Analysis.{Analysis}
use Rattle.hmr_types.specs.declared.limits.TheConstants.{DEPTH, LARGEST_NUMBER, TOKENS}
use Rattle.module_tree.specs.Syntax.{ModuleTree}
use Rattle.module_semantics.specs.Bytes.{is_name_start, is_name_byte, is_digit}
use Rattle.module_semantics.specs.Pieces.{all}
use Rattle.module_semantics.specs.Reading.{flat}
use Rattle.module_semantics.specs.Token as token
use Rattle.module_semantics.specs.Token.{Token}
use Rattle.module_semantics.specs.NameRules.{has_name}
use Rattle.module_semantics.specs.Kinds.{found_word, within, word_kind}
use Rattle.module_semantics.specs.CanonTokens.{fits_expr}
use Rattle.module_semantics.specs.CanonItems.{after_commas, canon_tokens, item_tokens, module_deep, text_tokens}
use Rattle.module_semantics.specs.Fitting.{bound_names, distinct, fits, fits_item, module_lets, writable}
use Rattle.skeletons.specs.Skeletons.{accept_items, decline_items, import_item, own_items, said, skeleton}
use Rattle.skeletons.proofs.Sayable.{CanBeSaid}

-- each item may stand there
imports_fit : (lets ns : List (List ℕ)) → list_all (fits_item lets) (map import_item ns) ≡ true
imports_fit lets [] = refl
imports_fit lets (n ∷ ns) = imports_fit lets ns

own_fits : (lets : List (List ℕ)) (b : Bool) → list_all (fits_item lets) (own_items b) ≡ true
own_fits lets true = refl
own_fits lets false = refl

accepts_fit : (lets ns : List (List ℕ)) → list_all (fits_item lets) (accept_items ns) ≡ true
accepts_fit lets [] = refl
accepts_fit lets (n ∷ ns) = refl

decline_fits : (lets : List (List ℕ)) (b : Bool) → list_all (fits_item lets) (decline_items b) ≡ true
decline_fits lets true = refl
decline_fits lets false = refl

all_of_both : {X : Type 0} (p : X → Bool) (xs ys : List X) → list_all p xs ≡ true → list_all p ys ≡ true → list_all p (xs ++ ys) ≡ true
all_of_both p xs ys h g = list_all-append p xs ys ∙ and_from (list_all p xs) (list_all p ys) h g

items_fit : (lets : List (List ℕ)) (a : Analysis) → list_all (fits_item lets) (said a) ≡ true
unfolding said
items_fit lets a =
    let p = fits_item lets in
    all_of_both p (map import_item a.imports) _ (imports_fit lets a.imports)
    (all_of_both p (own_items a.self_accepts) _ (own_fits lets a.self_accepts)
    (all_of_both p (accept_items a.accepted) (decline_items a.declined) (accepts_fit lets a.accepted) (decline_fits lets a.declined)))

-- no name is bound beside the stamp's
flat_both : {A : Type 0} (xs ys : List (List A)) → flat (xs ++ ys) ≡ flat xs ++ flat ys
flat_both [] ys = refl
flat_both (x ∷ xs) ys = ap (λ l. x ++ l) (flat_both xs ys) ∙ sym (append_assoc x (flat xs) (flat ys))

bound_both : (xs ys : ModuleTree) → flat (map bound_names (xs ++ ys)) ≡ flat (map bound_names xs) ++ flat (map bound_names ys)
bound_both xs ys = ap flat (map-append bound_names xs ys) ∙ flat_both (map bound_names xs) (map bound_names ys)

imports_bind : (ns : List (List ℕ)) → flat (map bound_names (map import_item ns)) ≡ []
imports_bind [] = refl
imports_bind (n ∷ ns) = imports_bind ns

own_binds : (b : Bool) → flat (map bound_names (own_items b)) ≡ []
own_binds true = refl
own_binds false = refl

accepts_bind : (ns : List (List ℕ)) → flat (map bound_names (accept_items ns)) ≡ []
accepts_bind [] = refl
accepts_bind (n ∷ ns) = refl

decline_binds : (b : Bool) → flat (map bound_names (decline_items b)) ≡ []
decline_binds true = refl
decline_binds false = refl

binds : (a : Analysis) → flat (map bound_names (said a)) ≡ []
unfolding said
binds a =
    let i = map import_item a.imports in
    let o = own_items a.self_accepts in
    let c = accept_items a.accepted in
    let d = decline_items a.declined in
    bound_both i (o ++ (c ++ d))
    ∙ rw (
      imports_bind a.imports,
      bound_both o (c ++ d),
      own_binds a.self_accepts,
      bound_both c d,
      accepts_bind a.accepted,
      decline_binds a.declined,
    ) refl

-- nothing is deep
deep_both : (xs ys : ModuleTree) (n : ℕ) → module_deep xs ≤ n → module_deep ys ≤ n → module_deep (xs ++ ys) ≤ n
deep_both [] ys n h g = g
deep_both (x ∷ xs) ys n h g = let more = deep_both xs ys n (omega (arith, h)) g in omega (arith, h, more)

imports_deep : (ns : List (List ℕ)) → module_deep (map import_item ns) ≤ 1
imports_deep [] = omega arith
imports_deep (n ∷ ns) = let more = imports_deep ns in omega (arith, more)

own_deep : (b : Bool) → module_deep (own_items b) ≤ 1
own_deep true = omega arith
own_deep false = omega arith

accepts_deep : (ns : List (List ℕ)) → module_deep (accept_items ns) ≤ 1
accepts_deep [] = omega arith
accepts_deep (n ∷ ns) = omega arith

decline_deep : (b : Bool) → module_deep (decline_items b) ≤ 1
decline_deep true = omega arith
decline_deep false = omega arith

shallow : (a : Analysis) → module_deep (said a) ≤ 1
unfolding said
shallow a =
    deep_both (map import_item a.imports) _ 1 (imports_deep a.imports)
    (deep_both (own_items a.self_accepts) _ 1 (own_deep a.self_accepts)
    (deep_both (accept_items a.accepted) (decline_items a.declined) 1 (accepts_deep a.accepted) (decline_deep a.declined)))

-- the tokens
tokens_both : (xs ys : ModuleTree) → canon_tokens (xs ++ ys) ≡ canon_tokens xs ++ canon_tokens ys
tokens_both [] ys = refl
tokens_both (x ∷ xs) ys = ap (λ l. item_tokens x ++ l) (tokens_both xs ys) ∙ sym (append_assoc (item_tokens x) (canon_tokens xs) (canon_tokens ys))

abbrev AreWritable : ModuleTree → Type 0
AreWritable m = list_all writable (canon_tokens m) ≡ true

writable_both : (xs ys : ModuleTree) → AreWritable xs → AreWritable ys → AreWritable (xs ++ ys)
writable_both xs ys h g = ap (list_all writable) (tokens_both xs ys) ∙ all_of_both writable (canon_tokens xs) (canon_tokens ys) h g

text_writable : (n : List ℕ) → names.is_name n ≡ true → is_utf8 n ≡ true
text_writable n h = is_utf8-from_IsUtf8 n (is_name-IsUtf8 n h)

imports_writable : (ns : List (List ℕ)) → list_all names.is_name ns ≡ true → AreWritable (map import_item ns)
unfolding is_name_start is_name_byte is_digit all
imports_writable [] h = refl
imports_writable (n ∷ ns) h =
    let both = and_parts (names.is_name n) (list_all names.is_name ns) h in
    and_from (is_utf8 n) (list_all writable (canon_tokens (map import_item ns))) (text_writable n both.0) (imports_writable ns both.1)

own_writable : (b : Bool) → AreWritable (own_items b)
unfolding is_name_start is_name_byte is_digit all
own_writable true = refl
own_writable false = refl

decline_writable : (b : Bool) → AreWritable (decline_items b)
unfolding is_name_start is_name_byte is_digit all
decline_writable true = refl
decline_writable false = refl

commas_writable : (ns : List (List ℕ)) → list_all names.is_name ns ≡ true → list_all writable (after_commas text_tokens ns) ≡ true
commas_writable [] h = refl
commas_writable (n ∷ ns) h =
    let both = and_parts (names.is_name n) (list_all names.is_name ns) h in
    and_from (is_utf8 n) (list_all writable (after_commas text_tokens ns)) (text_writable n both.0) (commas_writable ns both.1)

accepts_writable : (ns : List (List ℕ)) → list_all names.is_name ns ≡ true → AreWritable (accept_items ns)
unfolding is_name_start is_name_byte is_digit all
accepts_writable [] h = refl
accepts_writable (n ∷ ns) h =
    let both = and_parts (names.is_name n) (list_all names.is_name ns) h in
    let more = commas_writable ns both.1 in
    let b = after_commas text_tokens ns ++ token.punct 5 ∷ [] in
    let c = b ++ [] in
    let d = c ++ token.punct 3 ∷ token.punct 7 ∷ [] in
    and_from (is_utf8 n) (list_all writable (d ++ [])) (text_writable n both.0) (all_of_both writable d [] (all_of_both writable c (token.punct 3 ∷ token.punct 7 ∷ [])
    (all_of_both writable b [] (all_of_both writable (after_commas text_tokens ns) (token.punct 5 ∷ []) more refl) refl) refl) refl)

all_writable : (a : Analysis) → CanBeSaid a → AreWritable (said a)
unfolding said
all_writable a s =
    writable_both (map import_item a.imports) _ (imports_writable a.imports s.names)
    (writable_both (own_items a.self_accepts) _ (own_writable a.self_accepts)
    (writable_both (accept_items a.accepted) (decline_items a.declined) (accepts_writable a.accepted s.accepted_names) (decline_writable a.declined)))

-- how many there are
count_both : (xs ys : ModuleTree) → length (canon_tokens (xs ++ ys)) ≡ length (canon_tokens xs) + length (canon_tokens ys)
count_both xs ys = ap length (tokens_both xs ys) ∙ length-append (canon_tokens xs) (canon_tokens ys)

imports_count : (ns : List (List ℕ)) → length (canon_tokens (map import_item ns)) ≤ 3 * length ns
imports_count [] = omega arith
imports_count (n ∷ ns) = let more = imports_count ns in omega (arith, more)

own_count : (b : Bool) → length (canon_tokens (own_items b)) ≤ 10
own_count true = omega arith
own_count false = omega arith

decline_count : (b : Bool) → length (canon_tokens (decline_items b)) ≤ 10
decline_count true = omega arith
decline_count false = omega arith

commas_count : (ns : List (List ℕ)) → length (after_commas text_tokens ns) ≤ 2 * length ns
commas_count [] = omega arith
commas_count (n ∷ ns) = let more = commas_count ns in omega (arith, more)

accepts_count : (ns : List (List ℕ)) → length (canon_tokens (accept_items ns)) ≤ 2 * length ns + 20
accepts_count [] = omega arith
accepts_count (n ∷ ns) =
    let a = after_commas text_tokens ns in
    let b = a ++ token.punct 5 ∷ [] in
    let c = b ++ [] in
    let d = c ++ token.punct 3 ∷ token.punct 7 ∷ [] in
    omega (arith, commas_count ns, length-append a (token.punct 5 ∷ []), length-append b [], length-append c (token.punct 3 ∷ token.punct 7 ∷ []), length-append d [])

pub fits_well : (stamp : ℕ) (a : Analysis) → stamp ≤ LARGEST_NUMBER → CanBeSaid a → fits (skeleton stamp a) ≡ true
unfolding fits is_name_start is_name_byte is_digit all fits_expr within word_kind found_word has_name
fits_well stamp a small s =
    let deep = le-leb (max 1 (module_deep (said a))) DEPTH (let h = shallow a in omega (arith, h)) in
    and_from _ _ (and_from _ _ (and_from _ _ (items_fit (module_lets (skeleton stamp a)) a) (ap (distinct (codes "$$stamp" ∷ [])) (binds a))) deep)
    (and_from _ _ (le-leb stamp LARGEST_NUMBER small) (all_writable a s))

pub few_tokens : (stamp : ℕ) (a : Analysis) → CanBeSaid a → length (canon_tokens (skeleton stamp a)) ≤ TOKENS
unfolding said
few_tokens stamp a s =
    let i = map import_item a.imports in
    let o = own_items a.self_accepts in
    let c = accept_items a.accepted in
    let d = decline_items a.declined in
    omega (
      arith,
      count_both i (o ++ (c ++ d)),
      count_both o (c ++ d),
      count_both c d,
      imports_count a.imports,
      own_count a.self_accepts,
      accepts_count a.accepted,
      decline_count a.declined,
      s.few,
      s.heard,
    )
