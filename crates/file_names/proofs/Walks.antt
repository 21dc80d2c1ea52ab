-- The parts of a path are taken one after another.
use Rattle.std.proofs.Common.{◌≡◌, ℕ, ◌+◌, ◌<◌, List, ◌∷◌, length, drop, get_or, sym, ap, ◌∙◌, arith}
use Rattle.std.proofs.lemmas.List.{at_drop_more, at_drop_all}
use Rattle.file_names.specs.Specifiers.{step, walk}

walk_turn : (from ps : List (List ℕ)) (n : ℕ) (part : List ℕ) → (n < length ps) × (part ≡ get_or ps n part)
    → walk from (drop n ps) ≡ walk (step from part) (drop (n + 1) ps)
walk_turn from ps n part turn = at_drop_more (walk from) ps n part turn.0 ∙ ap (λ p. walk from (p ∷ drop (n + 1) ps)) (sym turn.1)

-- after the next part, what is left leads where it led
pub walk_on : (from next ps : List (List ℕ)) (n : ℕ) (part : List ℕ) → (n < length ps) × (part ≡ get_or ps n part) → next ≡ step from part
    → walk next (drop (n + 1) ps) ≡ walk from (drop n ps)
walk_on from next ps n part turn e = ap (λ s. walk s (drop (n + 1) ps)) e ∙ sym (walk_turn from ps n part turn)

-- with no part left, the whole leads to the segments that stand
pub walk_ends : (start from ps : List (List ℕ)) (n : ℕ) → walk from (drop n ps) ≡ walk start ps → n ≡ length ps → walk start ps ≡ from
walk_ends start from ps n leads all = sym leads ∙ at_drop_all (walk from) ps n (omega arith)
