-- The turns of the loop over a string literal.
use Rattle.std.proofs.Common.{◌≡◌, ℕ, suc, ◌+◌, ◌<◌, List, drop, length, get_or, Some, refl, sym, ap, ◌∙◌, arith}
use Rattle.std.proofs.Math.Seq.{drop-cons}
use Rattle.es_scan.specs.StringLiteral.{end_from, moved, literal_at, turn}
use Rattle.es_scan.specs.declared.string_literal.Inside.{Inside}
use Rattle.es_scan.specs.declared.string_literal.Inside.TheVariants.{Plain}
use Rattle.es_scan.specs.declared.string_literal.Move.TheVariants.{Ends, Goes}

-- one byte on
turned : (i q : ℕ) (s : Inside) (text : List ℕ) → i < length text
    → end_from i q s (drop i text) ≡ moved i (turn q s (get_or text i 0)) (λ next. end_from (suc i) q next (drop (suc i) text))
unfolding end_from
turned i q s text h = rw (drop-cons text i 0 h) refl

pub turned_on : (i j q : ℕ) (s next : Inside) (text : List ℕ) → i < length text → j ≡ i + 1
    → Goes next ≡ turn q s (get_or text i 0) → end_from j q next (drop j text) ≡ end_from i q s (drop i text)
turned_on i j q s next text h is goes =
    let one : suc i ≡ j = omega arith in
    sym (turned i q s text h ∙ ap (λ m. moved i m (λ next. end_from (suc i) q next (drop (suc i) text))) (sym goes)
    ∙ ap (λ k. end_from k q next (drop k text)) one)

pub ended : (i j q : ℕ) (s : Inside) (text : List ℕ) → i < length text → j ≡ i + 1
    → Ends ≡ turn q s (get_or text i 0) → end_from i q s (drop i text) ≡ Some j
ended i j q s text h is ends =
    let one : suc i ≡ j = omega arith in
    turned i q s text h ∙ ap (λ m. moved i m (λ next. end_from (suc i) q next (drop (suc i) text))) (sym ends) ∙ ap Some one

-- what is read behind the quote
pub begun : (at j q : ℕ) (text : List ℕ) → at < length text → j ≡ at + 1 → q ≡ get_or text at 0
    → end_from j q Plain (drop j text) ≡ literal_at text at
unfolding literal_at
begun at j q text h is quote =
    let one : suc at ≡ j = omega arith in
    ap (λ b. end_from j b Plain (drop j text)) quote
    ∙ sym (rw (drop-cons text at 0 h) (ap (λ k. end_from k (get_or text at 0) Plain (drop k text)) one))
