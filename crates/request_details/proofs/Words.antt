-- A search for a word in a text.
use Rattle.std.proofs.Common.{◌≡◌, ◌<◌, ◌+◌, ℕ, List, length, take, drop}
use Rattle.std.proofs.Common.{refl, sym, ap, ◌∙◌, subst}
use Rattle.std.specs.Prelude.{◌||◌, true, false}
use Rattle.std.proofs.lemmas.List.{drop_more}
use Rattle.http_heads.specs.Head.{same_letters}
use Rattle.request_details.specs.Details.{holds}

-- a look at one place of a text
word_step : (word text : List ℕ) (at : ℕ) → at < length text
    → holds word (drop at text)
    ≡ (same_letters (take (length word) (drop at text)) word || holds word (drop (at + 1) text))
word_step word text at within =
    subst
    (λ here. holds word here
    ≡ (same_letters (take (length word) here) word || holds word (drop (at + 1) text)))
    (sym (drop_more text at 0 within))
    refl

-- it doesn't stand there, so the search goes on
pub word_on : (word text here : List ℕ) (at : ℕ) → at < length text → here ≡ drop at text
    → same_letters (take (length word) here) word ≡ false
    → holds word text ≡ holds word (drop at text) → holds word text ≡ holds word (drop (at + 1) text)
word_on word text here at within is absent same =
    let none = subst (λ x. same_letters (take (length word) x) word ≡ false) is absent in
    same ∙ (word_step word text at within ∙ ap (λ b. b || holds word (drop (at + 1) text)) none)

-- it stands there
pub word_there : (word text here : List ℕ) (at : ℕ) → at < length text → here ≡ drop at text
    → same_letters (take (length word) here) word ≡ true
    → holds word text ≡ holds word (drop at text) → holds word text ≡ true
word_there word text here at within is found same =
    let one = subst (λ x. same_letters (take (length word) x) word ≡ true) is found in
    same ∙ (word_step word text at within ∙ ap (λ b. b || holds word (drop (at + 1) text)) one)
