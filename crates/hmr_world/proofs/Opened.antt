-- Open clients by number.
use Rattle.std.proofs.Common.{◌≡◌, ℕ, Bool, true, false, List, [], ◌∷◌, ◌++◌, refl, sym, ap}
use Rattle.std.specs.Prelude.{◌==◌, Option, Some, None, is_some, if◌then◌else◌}
use Rattle.std.proofs.Math.Path.{subst}
use Rattle.std.proofs.lemmas.Bool.{false≢true}
use Rattle.core_model.specs.Core.{client_at, with_client, without_client}
use Rattle.core_model.proofs.Clients.{at_with, at_without}
use Rattle.client_model.specs.Runtime.{Runtime}
use Rattle.runtime_state.specs.declared.runtime.HotRuntime.{HotRuntime}
use Rattle.hmr_world.specs.Clients.{IsRuntime, IsOpen, AreOpen, Clients}

-- the definitions' client of this number is the runtime
pub record Opened {F : Type 0} (rows : List (ℕ × Runtime)) (i : ℕ) (h : HotRuntime F) : Type 0 where
  pub r : Runtime
  pub there : client_at rows i ≡ Some r
  pub is : IsRuntime r h

opened_by : {F : Type 0} (rows : List (ℕ × Runtime)) (i : ℕ) (h : HotRuntime F) (r : Option Runtime)
    → client_at rows i ≡ r → IsOpen r (Some h) → Opened rows i h
opened_by rows i h None e k = absurd k
opened_by rows i h (Some r) e k = record { r = r; there = e; is = k }

pub opened_at : {F : Type 0} (rows : List (ℕ × Runtime)) (clients : Clients F) (i : ℕ) (h : HotRuntime F)
    → AreOpen rows clients → client_at clients i ≡ Some h → Opened rows i h
opened_at rows clients i h opens e =
    opened_by rows i h (client_at rows i) refl (subst (IsOpen (client_at rows i)) e (opens i))

closed_by : (F : Type 0) (r : Option Runtime) → IsOpen {F = F} r None → r ≡ None
closed_by F None k = refl
closed_by F (Some r) k = absurd k

pub closed_at : {F : Type 0} (rows : List (ℕ × Runtime)) (clients : Clients F) (i : ℕ)
    → AreOpen rows clients → client_at clients i ≡ None → client_at rows i ≡ None
closed_at {F} rows clients i opens e =
    closed_by F (client_at rows i) (subst (IsOpen (client_at rows i)) e (opens i))

both_ways : {F : Type 0} (b : Bool) (r : Runtime) (h : HotRuntime F) (o : Option Runtime)
    (p : Option (HotRuntime F))
    → IsRuntime r h → IsOpen o p → IsOpen (if b then Some r else o) (if b then Some h else p)
both_ways true r h o p k l = k
both_ways false r h o p k l = l

-- a client in the place of its number
pub with_open : {F : Type 0} (rows : List (ℕ × Runtime)) (clients : Clients F) (i : ℕ) (r : Runtime)
    (h : HotRuntime F)
    → AreOpen rows clients → IsRuntime r h → AreOpen (with_client i r rows) (with_client i h clients)
with_open rows clients i r h opens k j =
    let both = both_ways (i == j) r h (client_at rows j) (client_at clients j) k (opens j) in
    subst (λ o. IsOpen o (client_at (with_client i h clients) j)) (sym (at_with i r rows j))
    (subst (IsOpen (if i == j then Some r else client_at rows j)) (sym (at_with i h clients j)) both)

none_ways : {F : Type 0} (b : Bool) (o : Option Runtime) (p : Option (HotRuntime F)) → IsOpen o p
    → IsOpen (if b then None else o) (if b then None else p)
none_ways true o p l = tt
none_ways false o p l = l

-- a client that is gone
pub without_open : {F : Type 0} (rows : List (ℕ × Runtime)) (clients : Clients F) (i : ℕ)
    → AreOpen rows clients → AreOpen (without_client i rows) (without_client i clients)
without_open rows clients i opens j =
    let none = none_ways (i == j) (client_at rows j) (client_at clients j) (opens j) in
    subst (λ o. IsOpen o (client_at (without_client i clients) j)) (sym (at_without i rows j))
    (subst (IsOpen (if i == j then None else client_at rows j)) (sym (at_without i clients j)) none)

-- a client of a new number comes last
end_step : {X : Type 0} (b : Bool) (row : ℕ × X) (rows more : List (ℕ × X)) (o : Option X) (i : ℕ) (x : X)
    → (row.0 == i) ≡ b → (if b then Some row.1 else o) ≡ None → (o ≡ None → more ≡ rows ++ (i, x) ∷ [])
    → (if b then (i, x) ∷ rows else row ∷ more) ≡ row ∷ (rows ++ (i, x) ∷ [])
end_step true row rows more o i x e h f = absurd (false≢true (ap is_some (sym h)))
end_step false row rows more o i x e h f = ap (λ l. row ∷ l) (f h)

pub at_end : {X : Type 0} (rows : List (ℕ × X)) (i : ℕ) (x : X) → client_at rows i ≡ None
    → with_client i x rows ≡ rows ++ (i, x) ∷ []
at_end [] i x h = refl
at_end (row ∷ rows) i x h =
    end_step (row.0 == i) row rows (with_client i x rows) (client_at rows i) i x refl h (at_end rows i x)
