-- The rules of a stylesheet are gone over from the front; where no module has an instance of a plan, nothing is put.
use Rattle.std.proofs.Common.{◌≡◌, ℕ, ◌+◌, ◌<◌, ◌≤◌, Bool, true, false, List, [], ◌∷◌, ◌++◌, length, get_or, drop, append-nil, append_assoc, refl, sym, ap, ◌∙◌}
use Rattle.std.specs.Prelude.{Option, Some, None, if◌then◌else◌}
use Rattle.std.proofs.lemmas.List.{at_drop_all, at_drop_more}
use Rattle.css_scan.specs.declared.outline.StyleImport.{StyleImport}
use Rattle.instance_urls.specs.declared.plan_id.PlanId.{PlanId}
use Rattle.page_addresses.specs.Addresses.{addressed}
use Rattle.text_splices.specs.Splices.{splice_of}
use Rattle.text_splices.specs.declared.splice.Splice.{Splice}
use Rattle.browser_texts.specs.Styles.{address_bytes, rule_splices, rules_splices, style_of, styled, styled_to}
use Rattle.browser_texts.proofs.Plain.{AtPlainUrls}

-- the next rule goes first of what is left
pub rule_put : (instance : List ℕ → Option PlanId) (name text : List ℕ) (is' : List StyleImport) (done next : List Splice) (k : ℕ) (i : StyleImport)
    → k < length is' → i ≡ get_or is' k i → next ≡ done ++ rule_splices instance name text i
    → next ++ rules_splices instance name text (drop (k + 1) is') ≡ done ++ rules_splices instance name text (drop k is')
rule_put instance name text is' done next k i inside is grown =
    let rest = drop (k + 1) is' in
    ap (λ l. l ++ rules_splices instance name text rest) grown
    ∙ append_assoc done (rule_splices instance name text i) (rules_splices instance name text rest)
    ∙ ap (λ x. done ++ rules_splices instance name text (x ∷ rest)) is
    ∙ ap (λ l. done ++ l) (sym (at_drop_more (rules_splices instance name text) is' k i inside))

pub rules_end : (instance : List ℕ → Option PlanId) (name text : List ℕ) (is' : List StyleImport) (done : List Splice) (k : ℕ) → length is' ≤ k
    → done ++ rules_splices instance name text (drop k is') ≡ done
rules_end instance name text is' done k all =
    ap (λ l. done ++ l) (at_drop_all (rules_splices instance name text) is' k all) ∙ append-nil done

not_styled : (instance : List ℕ → Option PlanId) → AtPlainUrls instance → (text : List ℕ) (i : StyleImport) (to : Option (List ℕ)) → styled_to instance text i to ≡ []
not_styled instance at_plain text i None = refl
not_styled instance at_plain text i (Some name) = ap (styled text i name) (at_plain name)

same_either_way : (escaped : Bool) (ss : List Splice) → ss ≡ [] → (if escaped then [] else ss) ≡ []
same_either_way true ss h = refl
same_either_way false ss h = h

all_stay : (instance : List ℕ → Option PlanId) → AtPlainUrls instance → (name text : List ℕ) (is' : List StyleImport) → rules_splices instance name text is' ≡ []
all_stay instance at_plain name text [] = refl
all_stay instance at_plain name text (i ∷ is') =
    let to = addressed name (address_bytes text i.address) in
    ap (λ l. l ++ rules_splices instance name text is') (same_either_way i.has_escapes (styled_to instance text i to) (not_styled instance at_plain text i to))
    ∙ all_stay instance at_plain name text is'

pub style_stays : (instance : List ℕ → Option PlanId) (name text : List ℕ) (is' : List StyleImport) → AtPlainUrls instance → style_of instance name text is' ≡ text
style_stays instance name text is' at_plain = ap (splice_of text) (all_stay instance at_plain name text is')
