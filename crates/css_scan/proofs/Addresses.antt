-- The turns of the loop over an address.
use Rattle.std.proofs.Common.{◌≡◌, ℕ, suc, ◌+◌, ◌≤◌, ◌<◌, List, drop, length, get_or, Some, refl, sym, ap, ◌∙◌, arith}
use Rattle.std.proofs.Math.Seq.{drop-cons}
use Rattle.std.proofs.lemmas.List.{drop_all}
use Rattle.css_scan.specs.Addresses.{address_end, end_from, moved, turn}
use Rattle.css_scan.specs.declared.outline.Quoting.{Quoting}
use Rattle.css_scan.specs.declared.address.Inside.{Inside}
use Rattle.css_scan.specs.declared.address.Inside.TheVariants.{Plain}
use Rattle.css_scan.specs.declared.address.Move.TheVariants.{Ends, Goes}

-- one byte on
turned : (i : ℕ) (q : Quoting) (s : Inside) (text : List ℕ) → i < length text
    → end_from i q s (drop i text) ≡ moved i (turn q s (get_or text i 0)) (λ next. end_from (suc i) q next (drop (suc i) text))
unfolding end_from
turned i q s text h = rw (drop-cons text i 0 h) refl

pub turned_on : (i j : ℕ) (q : Quoting) (s next : Inside) (text : List ℕ) → i < length text → j ≡ i + 1
    → Goes next ≡ turn q s (get_or text i 0) → end_from j q next (drop j text) ≡ end_from i q s (drop i text)
turned_on i j q s next text h is goes =
    let one : suc i ≡ j = omega arith in
    sym (turned i q s text h ∙ ap (λ m. moved i m (λ next. end_from (suc i) q next (drop (suc i) text))) (sym goes)
    ∙ ap (λ k. end_from k q next (drop k text)) one)

pub ended : (i : ℕ) (q : Quoting) (s : Inside) (text : List ℕ) → i < length text
    → Ends ≡ turn q s (get_or text i 0) → end_from i q s (drop i text) ≡ Some i
ended i q s text h ends =
    turned i q s text h ∙ ap (λ m. moved i m (λ next. end_from (suc i) q next (drop (suc i) text))) (sym ends)

-- the end of the text ends it
pub run_out : (i : ℕ) (q : Quoting) (s : Inside) (text : List ℕ) → i ≡ length text → end_from i q s (drop i text) ≡ Some i
unfolding end_from
run_out i q s text is = let end : length text ≤ i = omega arith in rw (drop_all i text end) refl

pub begun : (at : ℕ) (q : Quoting) (text : List ℕ) → end_from at q Plain (drop at text) ≡ address_end text at q
unfolding address_end
begun at q text = refl
