-- What is let go where files take more memory than they may.
use Rattle.std.specs.Prelude.{◌≡◌, ℕ, ◌-◌, List, [], ◌∷◌, filter, Bool, true, false, ◌||◌, ◌==◌, nat_lt, if◌then◌else◌}
use Rattle.std.specs.Prelude.{Option, Some, None}
use Rattle.std.specs.List.{list_any}
use Rattle.instance_urls.specs.declared.plan_id.PlanId.{PlanId}
use Rattle.told_plans.specs.Plans.{Told, at}
use Rattle.file_store.specs.declared.store.Stored.{Stored}

-- the sizes of the files are more than this together
abbrev pub is_over : {T : Type 0} → ℕ → List (ℕ × Stored T) → Bool
is_over most [] = false
is_over most (e ∷ es) = if nat_lt most e.1.size then true else is_over (most - e.1.size) es

abbrev pub is_at : Option ℕ → ℕ → Bool
is_at None version = false
is_at (Some other) version = other == version

-- a plan makes the module at the version
abbrev pub is_named : List Told → List ℕ → ℕ → Bool
is_named plans name version = list_any (λ p. is_at (at p.made name) version) plans

-- the version is served, or a plan names it
abbrev pub is_needed : List (List ℕ × ℕ) → List Told → List ℕ → ℕ → Bool
is_needed served plans name version = is_at (at served name) version || is_named plans name version

-- the files that stay
abbrev pub needed_files : {T : Type 0} → List (List ℕ × ℕ) → List Told → List (ℕ × Stored T) → List (ℕ × Stored T)
needed_files served plans files = filter (λ e. is_needed served plans e.1.name e.0) files

-- the first of the plans goes, or there is none
abbrev pub IsOldest : Option PlanId → List Told → List Told → Type 0
IsOldest None old new = (old ≡ []) × (new ≡ [])
IsOldest (Some id) old new = (p : Told) × (p.id ≡ id) × (old ≡ p ∷ new)
