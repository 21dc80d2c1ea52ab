-- Lists are gone over from the front: what is put, and what is left.
use Rattle.std.proofs.Common.{◌≡◌, ℕ, ◌+◌, ◌<◌, ◌≤◌, Bool, true, false, List, [], ◌∷◌, ◌++◌, length, get_or, drop, append-nil, append_assoc, refl, sym, ap, ◌∙◌}
use Rattle.std.specs.Prelude.{Option, filter, nat_lt, if◌then◌else◌}
use Rattle.std.proofs.lemmas.Bool.{cond-true, cond-false}
use Rattle.std.proofs.lemmas.List.{at_drop_all, at_drop_more}
use Rattle.es_scan.specs.declared.outline.ModuleSpecifier.{ModuleSpecifier}
use Rattle.instance_urls.specs.declared.plan_id.PlanId.{PlanId}
use Rattle.text_splices.specs.Places.{ends_line}
use Rattle.text_splices.specs.declared.splice.Splice.{Splice}
use Rattle.browser_texts.specs.Words.{first_visible, is_blank}
use Rattle.browser_texts.specs.Scripts.{calls_before, calls_left, import_splices, other_call, specifier_splices}

-- blanks are passed over
pub passed : (text : List ℕ) (i : ℕ) → i < length text → is_blank (get_or text i 0) ≡ true → first_visible (drop (i + 1) text) ≡ first_visible (drop i text)
passed text i inside blank =
    sym (at_drop_more first_visible text i 0 inside ∙ cond-true (is_blank (get_or text i 0)) (first_visible (drop (i + 1) text)) (get_or text i 0) blank)

pub seen : (text : List ℕ) (i : ℕ) → i < length text → is_blank (get_or text i 0) ≡ false → get_or text i 0 ≡ first_visible (drop i text)
seen text i inside visible =
    sym (at_drop_more first_visible text i 0 inside ∙ cond-false (is_blank (get_or text i 0)) (first_visible (drop (i + 1) text)) (get_or text i 0) visible)

-- line feeds are kept
kept_first : (b : ℕ) (bs : List ℕ) (t : Bool) → ends_line b ≡ t → (if ends_line b then b ∷ [] else []) ++ filter ends_line bs ≡ filter ends_line (b ∷ bs)
kept_first b bs true h =
    ap (λ l. l ++ filter ends_line bs) (cond-true (ends_line b) (b ∷ []) [] h) ∙ sym (cond-true (ends_line b) (b ∷ filter ends_line bs) (filter ends_line bs) h)
kept_first b bs false h =
    ap (λ l. l ++ filter ends_line bs) (cond-false (ends_line b) (b ∷ []) [] h) ∙ sym (cond-false (ends_line b) (b ∷ filter ends_line bs) (filter ends_line bs) h)

pub kept_on : (done next bs : List ℕ) (i : ℕ) → i < length bs → next ≡ done ++ (if ends_line (get_or bs i 0) then get_or bs i 0 ∷ [] else [])
    → next ++ filter ends_line (drop (i + 1) bs) ≡ done ++ filter ends_line (drop i bs)
kept_on done next bs i inside grown =
    let b = get_or bs i 0 in
    let rest = drop (i + 1) bs in
    ap (λ l. l ++ filter ends_line rest) grown ∙ append_assoc done (if ends_line b then b ∷ [] else []) (filter ends_line rest)
    ∙ ap (λ l. done ++ l) (kept_first b rest (ends_line b) refl ∙ sym (at_drop_more (filter ends_line) bs i 0 inside))

pub kept_ends : (done bs : List ℕ) (i : ℕ) → length bs ≤ i → done ++ filter ends_line (drop i bs) ≡ done
kept_ends done bs i all = ap (λ l. done ++ l) (at_drop_all (filter ends_line) bs i all) ∙ append-nil done

-- a call before the limit is put
pub call_put : (text : List ℕ) (limit : ℕ) (calls : List ℕ) (done next : List Splice) (i : ℕ) → i < length calls → nat_lt (get_or calls i 0) limit ≡ true
    → next ≡ done ++ other_call text (get_or calls i 0)
    → next ++ calls_before text limit (drop (i + 1) calls) ≡ done ++ calls_before text limit (drop i calls)
call_put text limit calls done next i inside before grown =
    let c = get_or calls i 0 in
    let rest = calls_before text limit (drop (i + 1) calls) in
    ap (λ l. l ++ rest) grown ∙ append_assoc done (other_call text c) rest
    ∙ ap (λ l. done ++ l) (sym (at_drop_more (calls_before text limit) calls i 0 inside ∙ cond-true (nat_lt c limit) (other_call text c ++ rest) [] before))

pub call_passed : (limit : ℕ) (calls : List ℕ) (i : ℕ) → i < length calls → nat_lt (get_or calls i 0) limit ≡ true
    → calls_left limit (drop (i + 1) calls) ≡ calls_left limit (drop i calls)
call_passed limit calls i inside before =
    let c = get_or calls i 0 in
    sym (at_drop_more (calls_left limit) calls i 0 inside ∙ cond-true (nat_lt c limit) (calls_left limit (drop (i + 1) calls)) (c ∷ drop (i + 1) calls) before)

-- at the first call that isn't before the limit, or behind the last
pub calls_stop : (text : List ℕ) (limit : ℕ) (calls : List ℕ) (done : List Splice) (i : ℕ) → i < length calls → nat_lt (get_or calls i 0) limit ≡ false
    → done ++ calls_before text limit (drop i calls) ≡ done
calls_stop text limit calls done i inside behind =
    let c = get_or calls i 0 in
    ap (λ l. done ++ l) (at_drop_more (calls_before text limit) calls i 0 inside
    ∙ cond-false (nat_lt c limit) (other_call text c ++ calls_before text limit (drop (i + 1) calls)) [] behind) ∙ append-nil done

pub left_stop : (limit : ℕ) (calls : List ℕ) (i : ℕ) → i < length calls → nat_lt (get_or calls i 0) limit ≡ false → drop i calls ≡ calls_left limit (drop i calls)
left_stop limit calls i inside behind =
    let c = get_or calls i 0 in
    let same : List ℕ → List ℕ = λ l. l in
    at_drop_more same calls i 0 inside
    ∙ sym (at_drop_more (calls_left limit) calls i 0 inside ∙ cond-false (nat_lt c limit) (calls_left limit (drop (i + 1) calls)) (c ∷ drop (i + 1) calls) behind)

pub calls_end : (text : List ℕ) (limit : ℕ) (calls : List ℕ) (done : List Splice) (i : ℕ) → length calls ≤ i → done ++ calls_before text limit (drop i calls) ≡ done
calls_end text limit calls done i all = ap (λ l. done ++ l) (at_drop_all (calls_before text limit) calls i all) ∙ append-nil done

pub left_end : (limit : ℕ) (calls : List ℕ) (i : ℕ) → length calls ≤ i → calls_left limit (drop i calls) ≡ []
left_end limit calls i all = at_drop_all (calls_left limit) calls i all

-- the next specifier, behind the calls before it
pub import_put : (instance : List ℕ → Option PlanId) (name text calls left : List ℕ) (ss : List ModuleSpecifier) (done middle next : List Splice) (i : ℕ) (s : ModuleSpecifier)
    → i < length ss → s ≡ get_or ss i s → middle ≡ done ++ calls_before text s.literal.start calls → left ≡ calls_left s.literal.start calls
    → next ≡ middle ++ specifier_splices instance name text s s.purpose
    → next ++ import_splices instance name text left (drop (i + 1) ss) ≡ done ++ import_splices instance name text calls (drop i ss)
import_put instance name text calls left ss done middle next i s inside is calls_put left_is put =
    let rest = drop (i + 1) ss in
    let before = calls_before text s.literal.start calls in
    let own = specifier_splices instance name text s s.purpose in
    let after = import_splices instance name text (calls_left s.literal.start calls) rest in
    ap (λ l. l ++ import_splices instance name text left rest) put ∙ ap (λ c. (middle ++ own) ++ import_splices instance name text c rest) left_is
    ∙ append_assoc middle own after ∙ ap (λ l. l ++ (own ++ after)) calls_put ∙ append_assoc done before (own ++ after)
    ∙ ap (λ x. done ++ import_splices instance name text calls (x ∷ rest)) is
    ∙ ap (λ l. done ++ l) (sym (at_drop_more (import_splices instance name text calls) ss i s inside))

pub imports_end : (instance : List ℕ → Option PlanId) (name text calls : List ℕ) (ss : List ModuleSpecifier) (done next : List Splice) (i : ℕ) → length ss ≤ i
    → next ≡ done ++ calls_before text (length text) calls → next ≡ done ++ import_splices instance name text calls (drop i ss)
imports_end instance name text calls ss done next i all put =
    put ∙ sym (ap (λ l. done ++ l) (at_drop_all (import_splices instance name text calls) ss i all))
