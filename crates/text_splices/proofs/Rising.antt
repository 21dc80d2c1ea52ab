-- Splices that rise, and those that are left out.
use Rattle.std.proofs.Common.{◌≡◌, ℕ, ◌≤◌, Bool, true, false, List, [], ◌∷◌, ◌++◌, length, append_assoc, refl, sym, ap, subst, ◌∙◌, arith}
use Rattle.std.specs.List.{slice_range}
use Rattle.std.proofs.lemmas.Bool.{cond-true, cond-false}
use Rattle.std.proofs.lemmas.Bool.Decides.{nat_tests}
use Rattle.text_splices.specs.declared.splice.Splice.{Splice}
use Rattle.text_splices.specs.Splices.{AreRising, behind, fits, fitting, spliced_from}

-- what the test says of a splice
pub record Fits (text : List ℕ) (at : ℕ) (s : Splice) : Type 0 where
  pub from : at ≤ s.start
  pub rise : s.start ≤ s.end
  pub within : s.end ≤ length text

pub Fits_from_test : (text : List ℕ) (at : ℕ) (s : Splice) → fits text at s ≡ true → Fits text at s
Fits_from_test text at s h = record { from = grind (arith, nat_tests); rise = grind (arith, nat_tests); within = grind (arith, nat_tests) }

-- a splice that fits
pub spliced_fit : (text : List ℕ) (at : ℕ) (s : Splice) (ss : List Splice) → fits text at s ≡ true
    → spliced_from text at (s ∷ ss) ≡ slice_range text at s.start ++ (s.by ++ spliced_from text s.end ss)
spliced_fit text at s ss h =
    let piece = slice_range text at s.start ++ s.by in
    ap (λ l. l ++ spliced_from text (behind text at s) ss) (cond-true (fits text at s) piece [] h) ∙ ap (λ n. piece ++ spliced_from text n ss) (cond-true (fits text at s) s.end at h)
    ∙ append_assoc (slice_range text at s.start) s.by (spliced_from text s.end ss)

-- one that doesn't is left out
spliced_unfit : (text : List ℕ) (at : ℕ) (s : Splice) (ss : List Splice) → fits text at s ≡ false → spliced_from text at (s ∷ ss) ≡ spliced_from text at ss
spliced_unfit text at s ss h =
    ap (λ l. l ++ spliced_from text (behind text at s) ss) (cond-false (fits text at s) (slice_range text at s.start ++ s.by) [] h)
    ∙ ap (λ n. spliced_from text n ss) (cond-false (fits text at s) s.end at h)

left_out_at : (text : List ℕ) (at : ℕ) (s : Splice) (ss : List Splice) (t : Bool) → fits text at s ≡ t
    → spliced_from text s.end ss ≡ spliced_from text s.end (fitting text s.end ss) → spliced_from text at ss ≡ spliced_from text at (fitting text at ss)
    → spliced_from text at (s ∷ ss) ≡ spliced_from text at (fitting text at (s ∷ ss))
left_out_at text at s ss true h one other =
    spliced_fit text at s ss h ∙ ap (λ l. slice_range text at s.start ++ (s.by ++ l)) one ∙ sym (spliced_fit text at s (fitting text s.end ss) h)
    ∙ sym (ap (spliced_from text at) (cond-true (fits text at s) (s ∷ fitting text s.end ss) (fitting text at ss) h))
left_out_at text at s ss false h one other =
    spliced_unfit text at s ss h ∙ other ∙ sym (ap (spliced_from text at) (cond-false (fits text at s) (s ∷ fitting text s.end ss) (fitting text at ss) h))

pub left_out : (text : List ℕ) (at : ℕ) (ss : List Splice) → spliced_from text at ss ≡ spliced_from text at (fitting text at ss)
left_out text at [] = refl
left_out text at (s ∷ ss) = left_out_at text at s ss (fits text at s) refl (left_out text s.end ss) (left_out text at ss)

others_at : (text : List ℕ) (at : ℕ) (s : Splice) (ss : List Splice) (t : Bool) → fits text at s ≡ t
    → AreRising text s.end (fitting text s.end ss) → AreRising text at (fitting text at ss) → AreRising text at (fitting text at (s ∷ ss))
others_at text at s ss true h one other =
    let P : List Splice → Type 0 = λ l. AreRising text at l in
    subst P (sym (cond-true (fits text at s) (s ∷ fitting text s.end ss) (fitting text at ss) h)) (h, one)
others_at text at s ss false h one other =
    let P : List Splice → Type 0 = λ l. AreRising text at l in
    subst P (sym (cond-false (fits text at s) (s ∷ fitting text s.end ss) (fitting text at ss) h)) other

pub others : (text : List ℕ) (at : ℕ) (ss : List Splice) → AreRising text at (fitting text at ss)
others text at [] = tt
others text at (s ∷ ss) = others_at text at s ss (fits text at s) refl (others text s.end ss) (others text at ss)
