-- The open clients, against those of the definitions.
use Rattle.std.specs.Prelude.{◌≡◌, ℕ, ⊤, List, Option, Some, None}
use Rattle.std.specs.List.{All}
use Prim.{⊥}
use Rattle.core_model.specs.Core.{client_at}
use Rattle.client_model.specs.Past.{Past, runtime_after}
use Rattle.client_model.specs.Runtime.{Runtime, Opening}
use Rattle.module_language.specs.ModuleLanguage.{module_language}
use Rattle.handler_table.specs.Held.{Answers}
use Rattle.runtime_state.specs.Standing.{StandsFor, KeepsWords}
use Rattle.runtime_state.specs.declared.runtime.HotRuntime.{HotRuntime}

-- the runtime is that of the definitions: both are of the same opening, and of all that came since
pub record IsRuntime {F : Type 0} (r : Runtime) (h : HotRuntime F) : Type 0 where
  pub opening : Opening
  pub past : Past
  pub stands : StandsFor opening past h
  pub is : runtime_after module_language opening past ≡ r

-- both are open, with the same runtime; or neither is
abbrev pub IsOpen : {F : Type 0} → Option Runtime → Option (HotRuntime F) → Type 0
IsOpen None None = ⊤
IsOpen None (Some h) = ⊥
IsOpen (Some r) None = ⊥
IsOpen (Some r) (Some h) = IsRuntime r h

-- the open clients by number
abbrev pub Clients : Type 0 → Type 0
Clients F = List (ℕ × HotRuntime F)

-- the same clients are open
abbrev pub AreOpen : {F : Type 0} → List (ℕ × Runtime) → Clients F → Type 0
AreOpen rows clients = (i : ℕ) → IsOpen (client_at rows i) (client_at clients i)

-- each handler and each closure of an open client answers what is stated for it
abbrev pub KeepWords : {F : Type 0} → Answers F → Clients F → Type 0
KeepWords answers clients = All (λ row. KeepsWords answers row.1) clients
