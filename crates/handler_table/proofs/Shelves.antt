-- A shelf that gets one closure more: those of before stand in front, and the numbers go on.
use Rattle.std.proofs.Common.{◌≡◌, ℕ, ◌+◌, ◌-◌, ◌<◌, List, [], ◌∷◌, ◌++◌, ap, ◌∙◌, arith}
use Rattle.std.proofs.lemmas.List.{append_assoc, map-append}
use Rattle.handler_table.specs.Held.{Closure}
use Rattle.handler_table.specs.Shelf.{Extends, marks_of, numbered}

pub extends_more : {F : Type 0} (old new newer : List (Closure F)) (h : Closure F) → Extends old new → newer ≡ new ++ h ∷ [] → Extends old newer
extends_more old new newer h e is = record { added = e.added ++ h ∷ []; is = is ∙ ap (λ hs. hs ++ h ∷ []) e.is ∙ append_assoc old e.added (h ∷ []) }

one_more : (label : List ℕ) (number count : ℕ) → (label, number) ∷ numbered label (number + 1) count ≡ numbered label number (count + 1)
one_more label number count = search arith

pub numbers_more : {F : Type 0} (label : List ℕ) (number end : ℕ) (new newer : List (Closure F)) (h : Closure F) (whole : List (List ℕ × ℕ)) → number < end → newer ≡ new ++ h ∷ [] → h.label ≡ label → h.number ≡ number
    → marks_of new ++ numbered label number (end - number) ≡ whole → marks_of newer ++ numbered label (number + 1) (end - (number + 1)) ≡ whole
numbers_more label number end new newer h whole lt is l k inv =
    ap (λ hs. marks_of hs ++ numbered label (number + 1) (end - (number + 1))) is
    ∙ ap (λ ms. ms ++ numbered label (number + 1) (end - (number + 1))) (map-append (λ h. (h.label, h.number)) new (h ∷ []))
    ∙ append_assoc (marks_of new) (marks_of (h ∷ [])) (numbered label (number + 1) (end - (number + 1)))
    ∙ ap (λ m. marks_of new ++ m ∷ numbered label (number + 1) (end - (number + 1))) (ap (λ t. (t, h.number)) l ∙ ap (λ j. (label, j)) k)
    ∙ ap (λ ms. marks_of new ++ ms) (one_more label number (end - (number + 1)) ∙ ap (numbered label number) (omega (arith, lt)))
    ∙ inv
