-- A plain text of which no module has an instance of a plan is sent as it is.
use Rattle.std.proofs.Common.{◌≡◌, ℕ, Bool, true, false, List, [], ◌∷◌, ◌++◌, length, refl, ap, ◌∙◌, arith}
use Rattle.std.specs.Prelude.{not, ◌||◌, ◌==◌, Option, Some, None, is_some}
use Rattle.std.specs.List.{list_any}
use Rattle.std.proofs.lemmas.Bool.{and_parts, cond-false, eqb-true}
use Rattle.es_scan.specs.declared.outline.ModuleSpecifier.{ModuleSpecifier}
use Rattle.es_scan.specs.declared.outline.Outline.{Outline}
use Rattle.es_scan.specs.declared.outline.Purpose.{Purpose}
use Rattle.es_scan.specs.declared.outline.Purpose.TheVariants.{Import, Export, ExportAll, ImportCall, Accept}
use Rattle.es_scan.specs.declared.outline.Span.{Span}
use Rattle.file_names.specs.Specifiers.{resolved}
use Rattle.instance_urls.specs.declared.plan_id.PlanId.{PlanId}
use Rattle.text_splices.specs.Splices.{splice_of}
use Rattle.browser_texts.specs.Scripts.{hashbang_splices, hook_splices, import_splices, inside, is_call, is_hooked, is_plain, linked, linked_to, script_of, specifier_splices, splices_of}

abbrev pub AtPlainUrls : (List ℕ → Option PlanId) → Type 0
AtPlainUrls instance = (n : List ℕ) → instance n ≡ None

not_linked : (instance : List ℕ → Option PlanId) → AtPlainUrls instance → (text : List ℕ) (s : Span) (to : Option (List ℕ)) → linked_to instance text s to ≡ []
not_linked instance at_plain text s None = refl
not_linked instance at_plain text s (Some name) = ap (linked text s name) (at_plain name)

stays : (instance : List ℕ → Option PlanId) → AtPlainUrls instance → (name text : List ℕ) (s : ModuleSpecifier) (p : Purpose) → is_call p ≡ false
    → specifier_splices instance name text s p ≡ []
stays instance at_plain name text s Import h = not_linked instance at_plain text s.literal (resolved name (inside text s.literal))
stays instance at_plain name text s Export h = not_linked instance at_plain text s.literal (resolved name (inside text s.literal))
stays instance at_plain name text s ExportAll h = not_linked instance at_plain text s.literal (resolved name (inside text s.literal))
stays instance at_plain name text s ImportCall h = cc
stays instance at_plain name text s Accept h = refl

or_false : (x y : Bool) → (x || y) ≡ false → (x ≡ false) × (y ≡ false)
or_false true y h = cc
or_false false y h = (refl, h)

all_stay : (instance : List ℕ → Option PlanId) → AtPlainUrls instance → (name text : List ℕ) (ss : List ModuleSpecifier)
    → list_any (λ s. is_call s.purpose) ss ≡ false → import_splices instance name text [] ss ≡ []
all_stay instance at_plain name text [] h = refl
all_stay instance at_plain name text (s ∷ ss) h =
    let here = or_false (is_call s.purpose) (list_any (λ x. is_call x.purpose) ss) h in
    ap (λ l. l ++ import_splices instance name text [] ss) (stays instance at_plain name text s s.purpose here.0) ∙ all_stay instance at_plain name text ss here.1

no_hashbang : (text : List ℕ) (h : Option Span) → not (is_some h) ≡ true → hashbang_splices text h ≡ []
no_hashbang text None e = refl
no_hashbang text (Some s) e = cc

is_false : (x : Bool) → not x ≡ true → x ≡ false
is_false true h = cc
is_false false h = refl

is_true : (x : Bool) → not x ≡ false → x ≡ true
is_true true h = refl
is_true false h = cc

nothing : (xs : List ℕ) → not (length xs == 0) ≡ false → xs ≡ []
nothing [] h = refl
nothing (x ∷ xs) h = absurd (omega (arith, eqb-true (length (x ∷ xs)) 0 (is_true (length (x ∷ xs) == 0) h)))

pub plain_stays : (instance : List ℕ → Option PlanId) (name text : List ℕ) (o : Outline) → is_plain o ≡ true → AtPlainUrls instance → script_of instance name text o ≡ text
plain_stays instance name text o plain at_plain =
    let parts = and_parts (not (is_hooked o)) (not (is_some o.hashbang)) plain in
    let hooked = is_false (is_hooked o) parts.0 in
    let outer = or_false (is_some o.first_meta || not (length o.computed.items == 0)) (list_any (λ s. is_call s.purpose) o.specifiers.items) hooked in
    let calls = nothing o.computed.items (or_false (is_some o.first_meta) (not (length o.computed.items == 0)) outer.0).1 in
    let imports = ap (λ c. import_splices instance name text c o.specifiers.items) calls ∙ all_stay instance at_plain name text o.specifiers.items outer.1 in
    let none : splices_of instance name text o ≡ [] =
    ap (λ l. l ++ (hook_splices o ++ import_splices instance name text o.computed.items o.specifiers.items)) (no_hashbang text o.hashbang parts.1)
    ∙ ap (λ l. l ++ import_splices instance name text o.computed.items o.specifiers.items) (cond-false (is_hooked o) _ [] hooked) ∙ imports in
    ap (splice_of text) none
