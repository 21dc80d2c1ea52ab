-- Two halves of a list, each mapped.
use Rattle.std.proofs.Common.{◌≡◌, ℕ, List, ◌++◌, drop, map, take, sym, ap, ◌∙◌}
use Rattle.std.proofs.lemmas.List.{map-append, take-append-drop}

pub mapped : {A B : Type 0} (f : A → B) (all low high : List A) (k : ℕ) (done more whole : List B)
    → low ≡ take k all → high ≡ drop k all → whole ≡ done ++ more → done ≡ map f low → more ≡ map f high
    → whole ≡ map f all
mapped f all low high k done more whole a b c d e =
    c ∙ (ap (λ l. l ++ more) d ∙ (ap (λ l. map f low ++ l) e ∙ (sym (map-append f low high)
    ∙ ap (map f) (ap (λ l. l ++ high) a ∙ (ap (λ l. take k all ++ l) b ∙ take-append-drop k all)))))
