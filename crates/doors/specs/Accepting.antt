-- What a door answers to one who waits at it.
use Rattle.std.specs.Prelude.{◌≡◌, ℕ, ◌+◌, ◌-◌, ◌^◌, min, List, [], ◌∷◌, Bool, true, false}
use Rattle.std.specs.Prelude.{Option, Some, None, Result, Ok, Err}
use Prim.{⊥}
use Rattle.hmr_base.specs.declared.out_fault.OutFault.{OutFault}

-- one more, up to the largest u64
abbrev pub one_more : ℕ → ℕ
one_more count = min (count + 1) (2 ^ 64 - 1)

-- it gave an end
abbrev pub is_given : {E : Type 0} → Result (Option E) OutFault → Bool
is_given (Ok (Some end)) = true
is_given (Ok None) = false
is_given (Err fault) = false

-- it answered that no more come
abbrev pub is_last : {E : Type 0} → Result (Option E) OutFault → Bool
is_last (Ok (Some end)) = false
is_last (Ok None) = true
is_last (Err fault) = false

-- how many ends were given then
abbrev pub visits_after : {E : Type 0} → ℕ → Result (Option E) OutFault → ℕ
visits_after visits (Ok (Some end)) = one_more visits
visits_after visits (Ok None) = visits
visits_after visits (Err fault) = visits

-- the first of those to come is this one, and the others are left
abbrev pub Enters : Option (List (List ℕ)) → Option (List (List ℕ)) → Option (List ℕ) → Type 0
Enters None coming' unread = coming' ≡ None
Enters (Some []) coming' unread = ⊥
Enters (Some (bytes ∷ later)) coming' unread = (coming' ≡ Some later) × (unread ≡ Some bytes)
