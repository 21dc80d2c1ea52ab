-- The turns of the loop over a comment.
use Rattle.std.proofs.Common.{◌≡◌, ℕ, suc, ◌+◌, ◌≤◌, ◌<◌, List, drop, length, get_or, Bool, true, false, refl, sym, ap, ◌∙◌, arith}
use Rattle.std.proofs.Math.Seq.{drop-cons}
use Rattle.std.proofs.lemmas.List.{drop_all}
use Rattle.std.specs.Prelude.{if◌then◌else◌}
use Rattle.html_scan.specs.CommentEnds.{behind, comment_end, end_from, ends}
use Rattle.html_scan.specs.declared.comments.Reading.{Reading}
use Rattle.html_scan.specs.declared.comments.Reading.TheVariants.{Start}

-- one byte on
turned : (i : ℕ) (r : Reading) (text : List ℕ) → i < length text → end_from i r (drop i text)
    ≡ (if ends r (get_or text i 0) then suc i else end_from (suc i) (behind r (get_or text i 0)) (drop (suc i) text))
unfolding end_from
turned i r text h = rw (drop-cons text i 0 h) refl

pub turned_on : (i j : ℕ) (r next : Reading) (text : List ℕ) → i < length text → j ≡ i + 1
    → false ≡ ends r (get_or text i 0) → next ≡ behind r (get_or text i 0) → end_from j next (drop j text) ≡ end_from i r (drop i text)
turned_on i j r next text h is goes same =
    let one : suc i ≡ j = omega arith in
    sym (turned i r text h ∙ ap (λ (m : Bool). if m then suc i else end_from (suc i) (behind r (get_or text i 0)) (drop (suc i) text)) (sym goes)
    ∙ ap (λ s. end_from (suc i) s (drop (suc i) text)) (sym same) ∙ ap (λ k. end_from k next (drop k text)) one)

pub ended : (i j : ℕ) (r : Reading) (text : List ℕ) → i < length text → j ≡ i + 1
    → true ≡ ends r (get_or text i 0) → end_from i r (drop i text) ≡ j
ended i j r text h is ends_it =
    let one : suc i ≡ j = omega arith in
    turned i r text h ∙ ap (λ (m : Bool). if m then suc i else end_from (suc i) (behind r (get_or text i 0)) (drop (suc i) text)) (sym ends_it) ∙ one

-- the end of the text ends it
pub run_out : (i : ℕ) (r : Reading) (text : List ℕ) → i ≡ length text → end_from i r (drop i text) ≡ i
unfolding end_from
run_out i r text is = let end : length text ≤ i = omega arith in rw (drop_all i text end) refl

pub begun : (at : ℕ) (text : List ℕ) → end_from at Start (drop at text) ≡ comment_end text at
unfolding comment_end
begun at text = refl
