-- What a store of files is: files by version, which versions are served, and the plans that pages told.
use Rattle.std.specs.Prelude.{ℕ, List, Bool, ◌&&◌, ◌==◌, bytes_eq, Option, Some, None, if◌then◌else◌}
use Rattle.std.specs.BTreeMap.{insert_entry}
use Rattle.std.specs.Cmp.Lexicographic.{slice_cmp}
use Rattle.std.specs.List.{find}
use Rattle.std.specs.Map.{lookup, remove_entry}
use Rattle.std.specs.Ordering.{is_eq, nat_cmp}
use Rattle.instance_urls.specs.declared.plan_id.PlanId.{PlanId}
use Rattle.told_plans.specs.Plans.{Told, at}
use Rattle.file_store.specs.declared.store.Stored.{Stored}

pub record Store (T : Type 0) : Type 0 where
  pub files : List (ℕ × Stored T)
  pub served : List (List ℕ × ℕ)
  pub plans : List Told

-- one more file, and which version is served
abbrev pub with_file : {T : Type 0} → List (ℕ × Stored T) → ℕ → Stored T → List (ℕ × Stored T)
with_file files version stored = insert_entry nat_cmp files version stored

abbrev pub with_served : List (List ℕ × ℕ) → List ℕ → ℕ → List (List ℕ × ℕ)
with_served served name version = insert_entry (slice_cmp nat_cmp) served name version

-- without a name
abbrev pub without : List (List ℕ × ℕ) → List ℕ → List (List ℕ × ℕ)
without served name = remove_entry (λ n. is_eq (slice_cmp nat_cmp name n)) served

-- the version that is served
abbrev pub served_at : List (List ℕ × ℕ) → List ℕ → Option ℕ
served_at served name = at served name

-- the file, where it is of this name
abbrev pub of_name : {T : Type 0} → List ℕ → Option (Stored T) → Option T
of_name name None = None
of_name name (Some s) = if bytes_eq s.name name then Some s.file else None

abbrev pub file_at : {T : Type 0} → List (ℕ × Stored T) → List ℕ → ℕ → Option T
file_at files name version = of_name name (lookup (λ v. is_eq (nat_cmp version v)) files)

-- the plans are the same
abbrev pub same_plan : PlanId → PlanId → Bool
same_plan a b = (a.page == b.page) && (a.plan == b.plan)

abbrev pub plan_at : List Told → PlanId → Option Told
plan_at plans id = find (λ p. same_plan p.id id) plans
