-- A job is issued for a text that got a version.
use Rattle.std.proofs.Common.{◌≡◌, ◌<◌, ℕ, List, ◌∷◌, refl, sym, ap}
use Rattle.std.specs.Prelude.{Result, OnOk, Some, None, is_some, unwrap_or}
use Rattle.std.specs.List.{AllByRecursion}
use Rattle.std.specs.declared.alloc.AllocError.{AllocError}
use Rattle.std.proofs.Math.Path.{subst}
use Rattle.std.proofs.lemmas.Bool.{false≢true}
use Rattle.core_model.specs.Names.{Name}
use Rattle.core_model.specs.Sources.{Text, EditAnswer, job, same, removed, edit_refused}
use Rattle.world_model.specs.World.{Job}
use Rattle.world_model.specs.Editing.{with_job}
use Rattle.world_parts.specs.Jobs.{AreBelow}
use Rattle.world_parts.specs.Replies.{job_in}

made_one : (v : ℕ) (n copy : Name) (t : Text) (old new : List Job) (result : Result (Prim.Unit {0}) AllocError) → copy ≡ n → OnOk result (new ≡ record { name = copy; version = v; text = t } ∷ old) → OnOk result (new ≡ record { name = n; version = v; text = t } ∷ old)
made_one v n copy t old new result e h = subst (λ m. OnOk result (new ≡ record { name = m; version = v; text = t } ∷ old)) e h

pub issued_one : (answer : EditAnswer) (v : ℕ) (n copy : Name) (t : Text) (old new : List Job) (result : Result (Prim.Unit {0}) AllocError) → job_in answer ≡ Some v → copy ≡ n → (AllByRecursion (λ (j : Job). j.version < v) old → OnOk result (new ≡ record { name = copy; version = v; text = t } ∷ old)) → AreBelow answer old → OnOk result (new ≡ with_job n (Some t) answer old)
issued_one (job w) v n copy t old new result e same_name f below =
    let at : w ≡ v = ap (λ o. unwrap_or o 0) e in
    subst (λ k. OnOk result (new ≡ record { name = n; version = k; text = t } ∷ old)) (sym at) (made_one v n copy t old new result same_name (f (subst (λ k. AllByRecursion (λ (j : Job). j.version < k) old) at below)))
issued_one same v n copy t old new result e same_name f below = absurd (false≢true (ap is_some e))
issued_one (removed w) v n copy t old new result e same_name f below = absurd (false≢true (ap is_some e))
issued_one (edit_refused word) v n copy t old new result e same_name f below = absurd (false≢true (ap is_some e))

pub issued_none : (answer : EditAnswer) (n : Name) (t : Text) (old : List Job) → job_in answer ≡ None → old ≡ with_job n (Some t) answer old
issued_none (job w) n t old e = absurd (false≢true (ap is_some (sym e)))
issued_none same n t old e = refl
issued_none (removed w) n t old e = refl
issued_none (edit_refused word) n t old e = refl
