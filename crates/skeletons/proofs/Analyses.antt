-- The analysis of a skeleton.
use Rattle.std.proofs.Common.{◌≡◌, ℕ, List, [], ◌∷◌, ◌++◌, Bool, true, false, cond, refl, sym, ap, ◌∙◌, map, None}
use Rattle.std.specs.Prelude.{not, ◌||◌, filter, flat_map, bytes_eq}
use Rattle.std.specs.List.{list_all, list_any}
use Rattle.std.proofs.lemmas.Bool.{and_parts, and_from, not-true}
use Rattle.std.proofs.lemmas.Grind.{flat_map-append}
use Rattle.std.proofs.lemmas.List.{append-nil}
use Rattle.std.proofs.lemmas.List.Folds.{list_any-append}
use Rattle.hmr_types.specs.ModName as names
use Rattle.hmr_types.specs.declared.analysis.Analysis.{Analysis}
use Rattle.module_tree.specs.Syntax.{ItemTree}
use Rattle.module_semantics.specs.Entries.{has_name, are_different}
use Rattle.module_semantics.specs.Analysis.{accepted_by, accepted_of, analysed, analysis_of, exported_by, first_refusal, firsts, if_all_mean, if_few, imported_by, imports_of, is_decline, is_own, meant, name_and, refusal_or, specifiers_of}
use Rattle.skeletons.specs.Skeletons.{accept_items, decline_items, import_item, own_items, said, skeleton}
use Rattle.skeletons.proofs.Names.{resolve_name}
use Rattle.skeletons.proofs.Sayable.{CanBeSaid}

-- what the names of modules mean
none_refused : (base : List ℕ) (ns : List (List ℕ)) → list_all names.is_name ns ≡ true → first_refusal base ns ≡ None
none_refused base [] h = refl
none_refused base (n ∷ ns) h =
    let both = and_parts (names.is_name n) (list_all names.is_name ns) h in
    ap (λ r. refusal_or r (first_refusal base ns)) (resolve_name base n both.0) ∙ none_refused base ns both.1

all_meant : (base : List ℕ) (ns : List (List ℕ)) → list_all names.is_name ns ≡ true → meant base ns ≡ ns
all_meant base [] h = refl
all_meant base (n ∷ ns) h =
    let both = and_parts (names.is_name n) (list_all names.is_name ns) h in
    ap (λ r. name_and r (meant base ns)) (resolve_name base n both.0) ∙ ap (λ l. n ∷ l) (all_meant base ns both.1)

-- a filter that drops nothing
kept_step : (n : List ℕ) (m : List ℕ) (ns : List (List ℕ)) (t : Bool) → bytes_eq m n ≡ t → (t || has_name n ns) ≡ false
    → (has_name n ns ≡ false → filter (λ k. not (bytes_eq k n)) ns ≡ ns) → cond (not t) (m ∷ filter (λ k. not (bytes_eq k n)) ns) (filter (λ k. not (bytes_eq k n)) ns) ≡ m ∷ ns
kept_step n m ns true is h more = absurd (cc)
kept_step n m ns false is h more = ap (λ l. m ∷ l) (more h)

kept : (n : List ℕ) (ns : List (List ℕ)) → has_name n ns ≡ false → filter (λ k. not (bytes_eq k n)) ns ≡ ns
kept n [] h = refl
kept n (m ∷ ns) h = kept_step n m ns (bytes_eq m n) refl h (kept n ns)

firsts_same : (ns : List (List ℕ)) → are_different ns ≡ true → firsts ns ≡ ns
firsts_same [] h = refl
firsts_same (n ∷ ns) h =
    let both = and_parts (not (has_name n ns)) (are_different ns) h in
    ap (λ l. n ∷ filter (λ m. not (bytes_eq m n)) l) (firsts_same ns both.1) ∙ ap (λ l. n ∷ l) (kept n ns (not-true (has_name n ns) both.0))

all_kept : (p : List ℕ → Bool) (ns : List (List ℕ)) → list_all p ns ≡ true → filter p ns ≡ ns
all_kept p [] h = refl
all_kept p (n ∷ ns) h =
    let both = and_parts (p n) (list_all p ns) h in
    rw both.0 (ap (λ l. n ∷ l) (all_kept p ns both.1))

-- the parts of a skeleton, one after another
in_parts : {B : Type 0} (f : ItemTree → List B) (a : Analysis) → flat_map f (said a)
    ≡ flat_map f (map import_item a.imports)
    ++ (flat_map f (own_items a.self_accepts) ++ (flat_map f (accept_items a.accepted) ++ flat_map f (decline_items a.declined)))
unfolding said
in_parts f a =
    let i = map import_item a.imports in
    let o = own_items a.self_accepts in
    let c = accept_items a.accepted in
    let d = decline_items a.declined in
    flat_map-append f i (o ++ (c ++ d))
    ∙ ap (λ l. flat_map f i ++ l) (flat_map-append f o (c ++ d) ∙ ap (λ l. flat_map f o ++ l) (flat_map-append f c d))

any_parts : (p : ItemTree → Bool) (a : Analysis) → list_any p (said a)
    ≡ (list_any p (map import_item a.imports)
    || (list_any p (own_items a.self_accepts) || (list_any p (accept_items a.accepted) || list_any p (decline_items a.declined))))
unfolding said
any_parts p a =
    let i = map import_item a.imports in
    let o = own_items a.self_accepts in
    let c = accept_items a.accepted in
    let d = decline_items a.declined in
    list_any-append p i (o ++ (c ++ d))
    ∙ ap (λ l. list_any p i || l) (list_any-append p o (c ++ d) ∙ ap (λ l. list_any p o || l) (list_any-append p c d))

-- what each part says, for each question
ones : {A B : Type 0} (f : A → List B) (g : A → B) (xs : List A) → ((x : A) → f x ≡ g x ∷ []) → flat_map f xs ≡ map g xs
ones f g [] h = refl
ones f g (x ∷ xs) h = rw (h x, ones f g xs h) refl

names_said : (f : ItemTree → List (List ℕ)) (item : List ℕ → ItemTree) (ns : List (List ℕ)) → ((n : List ℕ) → f (item n) ≡ n ∷ []) → flat_map f (map item ns) ≡ ns
names_said f item [] h = refl
names_said f item (n ∷ ns) h = rw (h n, names_said f item ns h) refl

nothing_said : (f : ItemTree → List (List ℕ)) (item : List ℕ → ItemTree) (ns : List (List ℕ)) → ((n : List ℕ) → f (item n) ≡ []) → flat_map f (map item ns) ≡ []
nothing_said f item [] h = refl
nothing_said f item (n ∷ ns) h = rw (h n, nothing_said f item ns h) refl

none_such : (p : ItemTree → Bool) (item : List ℕ → ItemTree) (ns : List (List ℕ)) → ((n : List ℕ) → p (item n) ≡ false) → list_any p (map item ns) ≡ false
none_such p item [] h = refl
none_such p item (n ∷ ns) h = rw (h n, none_such p item ns h) refl

own_silent : (b : Bool) → (flat_map imported_by (own_items b) ≡ []) × (flat_map accepted_by (own_items b) ≡ []) × (flat_map exported_by (own_items b) ≡ []) × (list_any is_own (own_items b) ≡ b) × (list_any is_decline (own_items b) ≡ false)
own_silent true = (refl, refl, refl, refl, refl)
own_silent false = (refl, refl, refl, refl, refl)

decline_silent : (b : Bool) → (flat_map imported_by (decline_items b) ≡ []) × (flat_map accepted_by (decline_items b) ≡ []) × (flat_map exported_by (decline_items b) ≡ []) × (list_any is_own (decline_items b) ≡ false) × (list_any is_decline (decline_items b) ≡ b)
decline_silent true = (refl, refl, refl, refl, refl)
decline_silent false = (refl, refl, refl, refl, refl)

accepts_said : (ns : List (List ℕ)) → (flat_map imported_by (accept_items ns) ≡ []) × (flat_map accepted_by (accept_items ns) ≡ ns) × (flat_map exported_by (accept_items ns) ≡ []) × (list_any is_own (accept_items ns) ≡ false) × (list_any is_decline (accept_items ns) ≡ false)
accepts_said [] = (refl, refl, refl, refl, refl)
accepts_said (n ∷ ns) = (refl, append-nil (n ∷ ns), refl, refl, refl)

pub said_imports : (a : Analysis) → flat_map imported_by (said a) ≡ a.imports
said_imports a =
    in_parts imported_by a ∙ rw (
      names_said imported_by import_item a.imports (λ n. refl),
      (own_silent a.self_accepts).0,
      (accepts_said a.accepted).0,
      (decline_silent a.declined).0,
    ) (append-nil a.imports)

pub said_accepted : (a : Analysis) → flat_map accepted_by (said a) ≡ a.accepted
said_accepted a =
    in_parts accepted_by a ∙ rw (
      nothing_said accepted_by import_item a.imports (λ n. refl),
      (own_silent a.self_accepts).1,
      (accepts_said a.accepted).1,
      (decline_silent a.declined).1,
    ) (append-nil a.accepted)

pub said_exports : (a : Analysis) → flat_map exported_by (said a) ≡ []
said_exports a =
    in_parts exported_by a ∙ rw (
      nothing_said exported_by import_item a.imports (λ n. refl),
      (own_silent a.self_accepts).2,
      (accepts_said a.accepted).2,
      (decline_silent a.declined).2,
    ) refl

or_false : (b : Bool) → (b || false) ≡ b
or_false true = refl
or_false false = refl

pub said_own : (a : Analysis) → list_any is_own (said a) ≡ a.self_accepts
said_own a =
    any_parts is_own a ∙ rw (
      none_such is_own import_item a.imports (λ n. refl),
      (own_silent a.self_accepts).3,
      (accepts_said a.accepted).3,
      (decline_silent a.declined).3,
    ) (or_false a.self_accepts)

pub said_decline : (a : Analysis) → list_any is_decline (said a) ≡ a.declined
said_decline a =
    any_parts is_decline a ∙ rw (
      none_such is_decline import_item a.imports (λ n. refl),
      (own_silent a.self_accepts).4,
      (accepts_said a.accepted).4,
      (decline_silent a.declined).4,
    ) refl

-- the specifiers of a skeleton are the imports and then the accepted
specifiers_silent : (b : Bool) → (flat_map specifiers_of (own_items b) ≡ []) × (flat_map specifiers_of (decline_items b) ≡ [])
specifiers_silent true = (refl, refl)
specifiers_silent false = (refl, refl)

accepts_specified : (ns : List (List ℕ)) → flat_map specifiers_of (accept_items ns) ≡ ns
accepts_specified [] = refl
accepts_specified (n ∷ ns) = append-nil (n ∷ ns)

said_specifiers : (a : Analysis) → flat_map specifiers_of (said a) ≡ a.imports ++ a.accepted
said_specifiers a =
    in_parts specifiers_of a ∙ rw (
      names_said specifiers_of import_item a.imports (λ n. refl),
      (specifiers_silent a.self_accepts).0,
      accepts_specified a.accepted,
      (specifiers_silent a.declined).1,
    ) (ap (λ l. a.imports ++ l) (append-nil a.accepted))

all_both : (ns ms : List (List ℕ)) → list_all names.is_name ns ≡ true → list_all names.is_name ms ≡ true → list_all names.is_name (ns ++ ms) ≡ true
all_both [] ms h g = g
all_both (n ∷ ns) ms h g =
    let both = and_parts (names.is_name n) (list_all names.is_name ns) h in
    and_from (names.is_name n) (list_all names.is_name (ns ++ ms)) both.0 (all_both ns ms both.1 g)

abbrev make : List (List ℕ) → List (List ℕ) → List (List ℕ) → Bool → Bool → Analysis
make i e c o d = record { imports = i; exports = e; self_accepts = o; accepted = c; declined = d }

made : (i j e f c g : List (List ℕ)) (o p d q : Bool) → i ≡ j → e ≡ f → c ≡ g → o ≡ p → d ≡ q → make i e c o d ≡ make j f g p q
made i j e f c g o p d q hi he hc ho hd =
    ap (λ x. make x e c o d) hi ∙ ap (λ x. make j x c o d) he ∙ ap (λ x. make j f x o d) hc ∙ ap (λ x. make j f g x d) ho ∙ ap (λ x. make j f g p x) hd

analysis_is : (base : List ℕ) (stamp : ℕ) (a : Analysis) → CanBeSaid a → analysis_of base (skeleton stamp a) ≡ a
analysis_is base stamp a s =
    let imports : imports_of base (said a) ≡ a.imports =
    ap (λ l. firsts (meant base l)) (said_imports a) ∙ ap firsts (all_meant base a.imports s.names) ∙ firsts_same a.imports s.imports in
    let accepted : accepted_of base (said a) ≡ a.accepted =
    ap (λ l. filter (λ n. has_name n l) (firsts (meant base (flat_map accepted_by (said a))))) imports
    ∙ ap (λ l. filter (λ n. has_name n a.imports) (firsts (meant base l))) (said_accepted a)
    ∙ ap (λ l. filter (λ n. has_name n a.imports) (firsts l)) (all_meant base a.accepted s.accepted_names)
    ∙ ap (λ l. filter (λ n. has_name n a.imports) l) (firsts_same a.accepted s.accepted)
    ∙ all_kept (λ n. has_name n a.imports) a.accepted s.among in
    made (imports_of base (skeleton stamp a)) a.imports (flat_map exported_by (skeleton stamp a)) a.exports
    (accepted_of base (skeleton stamp a)) a.accepted (list_any is_own (skeleton stamp a)) a.self_accepts
    (list_any is_decline (skeleton stamp a)) a.declined imports (said_exports a ∙ sym s.exports) accepted (said_own a) (said_decline a)

-- the analysis of a skeleton is what it says, unless that is too much
pub analysed_is : (base : List ℕ) (stamp : ℕ) (a : Analysis) → CanBeSaid a → analysed base (skeleton stamp a) ≡ if_few a
analysed_is base stamp a s =
    ap (λ l. if_all_mean (first_refusal base l) (if_few (analysis_of base (skeleton stamp a)))) (said_specifiers a)
    ∙ ap (λ r. if_all_mean r (if_few (analysis_of base (skeleton stamp a)))) (none_refused base (a.imports ++ a.accepted) (all_both a.imports a.accepted s.names s.accepted_names))
    ∙ ap if_few (analysis_is base stamp a s)
