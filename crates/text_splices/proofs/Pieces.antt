-- A text is spliced piece by piece.
use Rattle.std.proofs.Common.{◌≡◌, ℕ, ◌+◌, ◌<◌, ◌≤◌, List, ◌∷◌, ◌++◌, length, get_or, drop, append_assoc, sym, ap, ◌∙◌}
use Rattle.std.proofs.lemmas.List.{at_drop_all, at_drop_more}
use Rattle.text_splices.specs.declared.splice.Splice.{Splice}
use Rattle.text_splices.specs.Splices.{behind, piece_of, splice_of, spliced_from}

-- the next piece goes first of what is left
pub spliced_on : (text : List ℕ) (ss : List Splice) (done next : List ℕ) (at to i : ℕ) (s : Splice) → i < length ss → s ≡ get_or ss i s
    → next ≡ done ++ piece_of text at s → to ≡ behind text at s
    → next ++ spliced_from text to (drop (i + 1) ss) ≡ done ++ spliced_from text at (drop i ss)
spliced_on text ss done next at to i s inside is grown moved =
    let rest = drop (i + 1) ss in
    ap (λ l. l ++ spliced_from text to rest) grown ∙ ap (λ n. (done ++ piece_of text at s) ++ spliced_from text n rest) moved
    ∙ append_assoc done (piece_of text at s) (spliced_from text (behind text at s) rest) ∙ ap (λ x. done ++ spliced_from text at (x ∷ rest)) is
    ∙ ap (λ l. done ++ l) (sym (at_drop_more (spliced_from text at) ss i s inside))

-- no splice is left
pub spliced_ends : (text : List ℕ) (ss : List Splice) (done made : List ℕ) (at i : ℕ) → length ss ≤ i
    → done ++ spliced_from text at (drop i ss) ≡ splice_of text ss → made ≡ done ++ drop at text → made ≡ splice_of text ss
spliced_ends text ss done made at i all before is = is ∙ sym (ap (λ l. done ++ l) (at_drop_all (spliced_from text at) ss i all)) ∙ before
