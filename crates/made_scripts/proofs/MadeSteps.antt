-- One more step of what is made: the state after one draw more, the edit of one module more, one more round.
use Rattle.std.proofs.Common.{ℕ, suc, ◌+◌, ◌*◌, ◌++◌, [], ◌∷◌, ◌≡◌, refl, ap, add-one, append_assoc, arith}
use Rattle.std.proofs.lemmas.List.{append-nil}
use Rattle.made_scripts.specs.Making.{drawn, edit_of, made, next, round, rounds, state_after}

pub state_after_none : (s : ℕ) → state_after s 0 ≡ s
unfolding state_after
state_after_none s = refl

pub state_after_more : (s i : ℕ) → state_after s (i + 1) ≡ next (state_after s i)
unfolding state_after
state_after_more s i = ap (state_after s) (add-one i)

pub state_after_two : (s r : ℕ) → state_after s (2 * (r + 1)) ≡ next (next (state_after s (2 * r)))
unfolding state_after
state_after_two s r =
    let e : 2 * (r + 1) ≡ suc (suc (2 * r)) = omega arith in
    ap (state_after s) e

pub made_none : (n s : ℕ) → made n s 0 ≡ []
unfolding made
made_none n s = refl

pub made_more : (n s i : ℕ)
    → made n s (i + 1) ≡ made n s i ++ edit_of n i 0 (drawn (next (state_after s i)) 3) ∷ []
unfolding made state_after
made_more n s i = ap (made n s) (add-one i)

pub rounds_none : (n s : ℕ) → rounds n s 0 ≡ []
unfolding rounds
rounds_none n s = refl

pub rounds_more : (n s r : ℕ) → rounds n s (r + 1) ≡ rounds n s r ++ round n (state_after s (2 * r)) (r + 1)
unfolding rounds
rounds_more n s r = ap (rounds n s) (add-one r)

-- one edit more
pub ruleset edit_steps = (made_none, made_more, state_after_none, state_after_more, append_assoc, append-nil)

-- one round more
pub ruleset round_steps = (rounds_none, rounds_more, state_after_none, state_after_two, append_assoc, append-nil)
