-- The lines of a report, one list after another.
use Rattle.std.proofs.Common.{◌≡◌, ◌+◌, ◌<◌, ℕ, List, [], ◌∷◌, ◌++◌, length, get_or, ap, sym, ◌∙◌, append_assoc, arith}
use Rattle.std.specs.Prelude.{map, flat_map}
use Rattle.std.specs.List.{range_with_len}
use Rattle.std.proofs.lemmas.Grind.{flat_map-append}
use Rattle.std.proofs.lemmas.List.{append-nil, get_or_default}
use Rattle.std.proofs.lemmas.List.Folds.{flat_map-map}
use Rattle.std.proofs.lemmas.List.FromFn.{map-range_with_len_more}
use Rattle.core_model.specs.Names.{Name}
use Rattle.core_model.specs.Core.{Event}
use Rattle.hmr_hub.specs.declared.report_line.ReportLine.{ReportLine}
use Rattle.hmr_hub.specs.Pages.{last_page}
use Rattle.hmr_hub.specs.Reports.{client_lines, pages_lines}

-- the lines of one more client
pages_more : (roots : List Name) (past : List Event) (many : ℕ) → pages_lines roots past (many + 1) ≡ pages_lines roots past many ++ client_lines (many + 1) (last_page roots past (many + 1))
pages_more roots past many =
    let lines : ℕ → List ReportLine = λ i. client_lines i (last_page roots past i) in
    let same : ℕ → ℕ = λ i. i in
    sym (flat_map-map lines same (range_with_len 1 (many + 1)))
    ∙ (ap (λ is. flat_map lines is) (map-range_with_len_more same 1 many (many + 1) (omega arith))
    ∙ (flat_map-append lines (map same (range_with_len 1 many)) ((many + 1) ∷ [])
    ∙ (ap (λ xs. xs ++ flat_map lines ((many + 1) ∷ [])) (flat_map-map lines same (range_with_len 1 many))
    ∙ ap (λ xs. pages_lines roots past many ++ xs) (append-nil (lines (many + 1))))))

pub one_more_client : (roots : List Name) (past : List Event) (many : ℕ) (old so_far new : List ReportLine) → so_far ≡ old ++ pages_lines roots past many
    → new ≡ so_far ++ client_lines (many + 1) (last_page roots past (many + 1)) → new ≡ old ++ pages_lines roots past (many + 1)
one_more_client roots past many old so_far new a b =
    let one : List ReportLine = client_lines (many + 1) (last_page roots past (many + 1)) in
    b ∙ (ap (λ xs. xs ++ one) a ∙ (append_assoc old (pages_lines roots past many) one ∙ ap (λ xs. old ++ xs) (sym (pages_more roots past many))))

-- an element is the same whatever stands for none
pub here : {X : Type 0} (xs : List X) (i : ℕ) (x d : X) → i < length xs → x ≡ get_or xs i x → get_or xs i d ≡ x
here xs i x d below is = get_or_default xs i d x below ∙ sym is
