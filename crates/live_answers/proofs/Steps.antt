-- Steps of a search through a target.
use Rattle.std.proofs.Common.{◌≡◌, ◌<◌, ◌+◌, ℕ, List, length, take, drop}
use Rattle.std.proofs.Common.{refl, sym, ap, ◌∙◌, subst}
use Rattle.std.specs.Prelude.{◌||◌, codes, true, false}
use Rattle.std.proofs.lemmas.List.{drop_more}
use Rattle.http_heads.specs.Head.{same_letters}
use Rattle.live_answers.specs.Paths.{hides_slash}

-- a look at one place of a target
slash_step : (target : List ℕ) (at : ℕ) → at < length target
    → hides_slash (drop at target)
    ≡ (same_letters (take 3 (drop at target)) (codes "%2f") || hides_slash (drop (at + 1) target))
slash_step target at within =
    subst
    (λ here. hides_slash here
    ≡ (same_letters (take 3 here) (codes "%2f") || hides_slash (drop (at + 1) target)))
    (sym (drop_more target at 0 within))
    refl

pub slash_on : (target here : List ℕ) (at : ℕ) → at < length target → here ≡ drop at target
    → same_letters (take 3 here) (codes "%2f") ≡ false
    → hides_slash target ≡ hides_slash (drop at target)
    → hides_slash target ≡ hides_slash (drop (at + 1) target)
slash_on target here at within is absent same =
    let none = subst (λ x. same_letters (take 3 x) (codes "%2f") ≡ false) is absent in
    same ∙ (slash_step target at within ∙ ap (λ b. b || hides_slash (drop (at + 1) target)) none)

pub slash_there : (target here : List ℕ) (at : ℕ) → at < length target → here ≡ drop at target
    → same_letters (take 3 here) (codes "%2f") ≡ true
    → hides_slash target ≡ hides_slash (drop at target) → hides_slash target ≡ true
slash_there target here at within is found same =
    let one = subst (λ x. same_letters (take 3 x) (codes "%2f") ≡ true) is found in
    same ∙ (slash_step target at within ∙ ap (λ b. b || hides_slash (drop (at + 1) target)) one)
