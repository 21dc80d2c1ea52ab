-- The further key that is reported is the least one.
use Rattle.std.proofs.Common.{◌≡◌, ℕ, List, Bool, true, false, cond, Some, None, Ordering, Less, Equal, Greater, nat_cmp, refl, sym, ap, ◌∙◌, subst, true≢false, ◌⊎◌, inl, inr}
use Rattle.std.proofs.lemmas.Cmp.{nat_list_cmp_total}
use Rattle.std.proofs.lemmas.Map.Lookups.{exact_bytes}
use Rattle.std.specs.Cmp.Lexicographic.{slice_cmp}
use Rattle.std.specs.Ordering.{ordering_reverse}
use Rattle.serde_json.specs.Data.{Data, Members, no_members, member}
use Rattle.serde_json.specs.Find.{get_member}
use Rattle.json_readings.specs.Ordered.{IsAbove, IsInOrder}
use Rattle.json_readings.specs.Object.{further_member}
use Rattle.json_readings.proofs.Ordered.{lifted}
use Rattle.json_readings.proofs.Objects.{below, later}

-- q stands nowhere before k
abbrev pub IsAtOrAbove : List ℕ → List ℕ → Type 0
IsAtOrAbove k q = (q ≡ k) ⊎ (slice_cmp nat_cmp k q ≡ Less)

-- a key that is found is the first or above it
at_or_above : (l q : List ℕ) (e d : Data) (ms : Members) → IsAbove l ms → get_member q (member l e ms) ≡ Some d → (o : Ordering) → slice_cmp nat_cmp q l ≡ o → IsAtOrAbove l q
at_or_above l q e d ms a g Less is = let bad : None ≡ Some d = sym (below q (member l e ms) (is, lifted q l ms is a)) ∙ g in cc
at_or_above l q e d ms a g Equal is = inl (exact_bytes q l is)
at_or_above l q e d ms a g Greater is = inr (nat_list_cmp_total.antisymm l q ∙ ap ordering_reverse is)

turn : (known : List ℕ → Bool) (l k q : List ℕ) (e d : Data) (ms : Members) (b : Bool) → known l ≡ b → IsAbove l ms → (further_member known ms ≡ Some k → get_member q ms ≡ Some d → IsAtOrAbove k q)
    → cond b (further_member known ms) (Some l) ≡ Some k → known q ≡ false → get_member q (member l e ms) ≡ Some d → IsAtOrAbove k q
turn known l k q e d ms true is a rest h u g =
    let apart = λ (same : q ≡ l). let bad : true ≡ false = sym is ∙ ap known (sym same) ∙ u in absurd (true≢false bad) in
    rest h (sym (later q l e ms apart) ∙ g)
turn known l k q e d ms false is a rest h u g =
    let same : l ≡ k = cc in
    subst (λ x. IsAtOrAbove x q) same (at_or_above l q e d ms a g _ refl)

pub further_is_least : (known : List ℕ → Bool) (ms : Members) (k q : List ℕ) (d : Data) → IsInOrder ms → further_member known ms ≡ Some k → known q ≡ false → get_member q ms ≡ Some d → IsAtOrAbove k q
unfolding further_member
further_is_least known no_members k q d a h u g = let bad : None ≡ Some d = g in cc
further_is_least known (member l e ms) k q d a h u g = turn known l k q e d ms _ refl a.0 (λ f m. further_is_least known ms k q d a.1 f u m) h u g
