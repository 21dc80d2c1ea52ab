-- The edits between two listings are short.
use Rattle.std.proofs.Common.{◌≡◌, ◌≤◌, ℕ, Bool, true, false, List, [], ◌∷◌, length, refl, ap, sym, ◌∙◌, subst, arith, cond, take}
use Rattle.std.specs.Prelude.{All, Option, Some, None, IfSome}
use Rattle.std.specs.Global.{Vec}
use Rattle.std.specs.Map.{keys_of, lookup, values_of}
use Rattle.std.specs.Cmp.Lexicographic.{slice_cmp}
use Rattle.std.specs.Ordering.{eq_by_cmp, nat_cmp}
use Rattle.std.specs.List.Sorted.{IsStrictlySortedBy}
use Rattle.std.proofs.lemmas.Cmp.{eq_by_cmp_equiv, nat_list_cmp_total}
use Rattle.std.proofs.lemmas.List.Elements.{All-nil, All-cons, All-head, All-map, All-tail}
use Rattle.std.proofs.lemmas.List.{take_all}
use Rattle.std.proofs.lemmas.Map.Keys.{IsDistinct-from_sorted}
use Rattle.std.proofs.lemmas.Map.Made.{keys_of-map_values}
use Rattle.std.proofs.lemmas.Map.Views.{All-values_from_lookup, IfSome-lookup_from_All}
use Rattle.hmr_types.specs.ModName.{is_name, is_text}
use Rattle.hmr_types.specs.declared.limits.TheConstants.{MESSAGE_BYTES}
use Rattle.folders.specs.Files.{text_at}
use Rattle.folder_watch.specs.Edits.{AreEdits, change, rows_of}
use Rattle.folder_watch.specs.Listings.{AreShort, Rises, text_bytes}
use Rattle.folder_watch.proofs.Looking.{key_is}
use Rattle.folder_watch.proofs.Watching.{name_short}
use Rattle.hub_editor.specs.Edits.{Edit, edits_in, length_of, text_in}
use Rattle.folder_edits.specs.Rounds.{Files}

-- what holds of all that was taken, where all was
pub all_taken : {X : Type 0} (P : X → Type 0) (xs : List X) (n : ℕ) → length xs ≤ n → All P (take n xs) → All P xs
all_taken P xs n all h = subst (All P) (take_all n xs all) h

-- the edits in a list rise as the list does
pub rising_in : (edits : List (List ℕ × Option (Vec ℕ))) → Rises edits → Rises (edits_in edits)
rising_in edits h = subst (λ ks. IsStrictlySortedBy (slice_cmp nat_cmp) ks) (sym (keys_of-map_values text_in edits)) h

-- tests that answer the same find the same
lookup_same : {X : Type 0} (test other : List ℕ → Bool) → ((k : List ℕ) → test k ≡ other k) → (rows : List (List ℕ × X)) → lookup test rows ≡ lookup other rows
lookup_same test other same [] = refl
lookup_same test other same (row ∷ rows) = ap (λ t. cond t (Some row.1) (lookup test rows)) (same row.0) ∙ ap (λ x. cond (other row.0) (Some row.1) x) (lookup_same test other same rows)

abbrev IsShortText : Option (List ℕ) → Type 0
IsShortText text = IfSome text (λ t. length t ≤ text_bytes)

kept_short : (same : Bool) (new : List ℕ) → length new ≤ text_bytes → IfSome (cond same None (Some (Some new))) IsShortText
kept_short true new h = tt
kept_short false new h = h

-- the same of a list as it is handed over
pub short_rows : (edits : List (List ℕ × Option (Vec ℕ))) → All (λ e. length_of e ≤ MESSAGE_BYTES) (edits_in edits) → All (λ e. length_of (e.0, text_in e.1) ≤ MESSAGE_BYTES) edits
short_rows [] h = All-nil (λ (e : List ℕ × Option (Vec ℕ)). length_of (e.0, text_in e.1) ≤ MESSAGE_BYTES)
short_rows (e ∷ edits) h =
    All-cons (λ (x : List ℕ × Option (Vec ℕ)). length_of (x.0, text_in x.1) ≤ MESSAGE_BYTES) e edits
    (All-head (λ (x : Edit). length_of x ≤ MESSAGE_BYTES) (e.0, text_in e.1) (edits_in edits) h)
    (short_rows edits (All-tail (λ (x : Edit). length_of x ≤ MESSAGE_BYTES) (e.0, text_in e.1) (edits_in edits) h))

-- what an edit brings is the text that there is
short_change : (old new : Option (List ℕ)) → IfSome new (λ t. length t ≤ text_bytes) → IfSome (change old new) IsShortText
short_change None None h = tt
short_change None (Some new) h = h
short_change (Some old) None h = tt
short_change (Some old) (Some new) h = kept_short (is_text old new) new h

short_one : (name : List ℕ) (text : Option (List ℕ)) → is_name name ≡ true → IsShortText text → length_of (name, text) ≤ MESSAGE_BYTES
short_one name None n h = let few = name_short name n in omega (arith, few)
short_one name (Some text) n h = let few = name_short name n in omega (arith, few, h)

short_all : (edits : List Edit) → All (λ e. is_name e.0 ≡ true) edits → All IsShortText (values_of edits) → All (λ e. length_of e ≤ MESSAGE_BYTES) edits
short_all [] names texts = All-nil (λ (e : Edit). length_of e ≤ MESSAGE_BYTES)
short_all (e ∷ edits) names texts =
    All-cons (λ (e : Edit). length_of e ≤ MESSAGE_BYTES) e edits
    (short_one e.0 e.1 (All-head (λ (x : Edit). is_name x.0 ≡ true) e edits names) (All-head IsShortText e.1 (values_of edits) texts))
    (short_all edits (All-tail (λ (x : Edit). is_name x.0 ≡ true) e edits names) (All-tail IsShortText e.1 (values_of edits) texts))

texts_short : (old new : Files) (edits : List Edit) → AreShort new → Rises edits → AreEdits old new edits → All IsShortText (values_of edits)
texts_short old new edits short rising are =
    All-values_from_lookup (eq_by_cmp_equiv nat_list_cmp_total) IsShortText edits (IsDistinct-from_sorted (slice_cmp nat_cmp) (keys_of edits) rising)
    (λ q. subst (λ x. IfSome x IsShortText)
    (sym (lookup_same (eq_by_cmp (slice_cmp nat_cmp) q) (is_text q) (key_is q) edits ∙ are q))
    (short_change (text_at old q) (text_at new q) (IfSome-lookup_from_All (λ t. length t ≤ text_bytes) (is_text q) new short)))

pub short_edits : (old new : Files) (edits : List (List ℕ × Option (Vec ℕ))) → AreShort new → Rises edits → AreEdits old new (rows_of edits)
    → All (λ e. is_name e.0 ≡ true) edits → All (λ e. length_of e ≤ MESSAGE_BYTES) (edits_in edits)
short_edits old new edits short rising are names =
    short_all (edits_in edits) (All-map (λ (e : Edit). is_name e.0 ≡ true) (λ (e : List ℕ × Option (Vec ℕ)). (e.0, text_in e.1)) edits names)
    (texts_short old new (edits_in edits) short (rising_in edits rising) are)
