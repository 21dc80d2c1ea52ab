-- Each open client answers what is stated for it, also where one of them is changed, comes or goes.
use Rattle.std.proofs.Common.{ℕ, ◌∷◌, [], ◌++◌, sym}
use Rattle.std.specs.Prelude.{slice_set}
use Rattle.std.proofs.Math.Path.{subst}
use Rattle.std.proofs.lemmas.List.Elements.{All-filter, All-push, All-set}
use Rattle.std.specs.Prelude.{◌==◌, not}
use Rattle.core_model.specs.Core.{without_client}
use Rattle.handler_table.specs.Held.{Answers}
use Rattle.runtime_state.specs.Standing as runtimes
use Rattle.runtime_state.specs.declared.runtime.HotRuntime.{HotRuntime}
use Rattle.hmr_world.specs.Clients.{Clients, KeepWords}
use Rattle.hmr_world.proofs.Found.{StandsAt}

module _ {F : Type 0} (answers : Answers F) (clients : Clients F) (keep : KeepWords answers clients) where
  -- what is stated of one of them
  abbrev Keeps : ℕ × HotRuntime F → Type 0
  Keeps row = runtimes.KeepsWords answers row.1

  -- one of them
  pub words_at : (n place : ℕ) (row : ℕ × HotRuntime F) → StandsAt clients n place row
      → runtimes.KeepsWords answers row.1
  words_at n place row spot = subst Keeps (sym spot.read) (keep place row spot.within)

  -- one is changed
  pub words_set : (place : ℕ) (row : ℕ × HotRuntime F) → runtimes.KeepsWords answers row.1
      → KeepWords answers (slice_set clients place row)
  words_set place row h = All-set Keeps clients place row h keep

  -- one goes
  pub words_without : (i : ℕ) → KeepWords answers (without_client i clients)
  words_without i = All-filter (λ row. not (row.0 == i)) Keeps clients keep

  -- one comes
  pub words_push : (row : ℕ × HotRuntime F) → runtimes.KeepsWords answers row.1
      → KeepWords answers (clients ++ row ∷ [])
  words_push row h = All-push Keeps clients row keep h
