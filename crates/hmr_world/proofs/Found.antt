-- Where the client of a number stands among the open clients.
use Rattle.std.proofs.Common.{◌≡◌, ◌<◌, ℕ, ap, get_or, length, sym, ◌∙◌}
use Rattle.std.specs.Prelude.{Some, slice_set}
use Rattle.std.proofs.Math.Path.{subst}
use Rattle.core_model.specs.Core.{client_at, with_client}
use Rattle.runtime_state.specs.declared.runtime.HotRuntime.{HotRuntime}
use Rattle.hmr_world.specs.Clients.{Clients}

-- it is this row, at this place
pub record StandsAt {F : Type 0} (clients : Clients F) (n place : ℕ) (row : ℕ × HotRuntime F)
    : Type 0 where
  pub within : place < length clients
  pub read : row ≡ get_or clients place row
  pub there : client_at clients n ≡ Some row.1
  pub puts : (h : HotRuntime F) → slice_set clients place (row.0, h) ≡ with_client n h clients

-- the clients that were looked through are these
pub stands_at : {F : Type 0} (seen clients : Clients F) (n place : ℕ) (row : ℕ × HotRuntime F)
    → seen ≡ clients → row ≡ get_or clients place row → place < length seen
    → ((d : ℕ × HotRuntime F) → client_at seen n ≡ Some (get_or seen place d).1)
    → ((d : ℕ × HotRuntime F) → (get_or seen place d).0 ≡ n)
    → ((h : HotRuntime F) → with_client n h seen ≡ slice_set seen place (n, h))
    → StandsAt clients n place row
stands_at seen clients n place row same read within there number puts =
    let read_there = read ∙ ap (λ l. get_or l place row) (sym same) in
    subst (λ l. StandsAt l n place row) same
    (record {
      within = within;
      read = read_there;
      there = there row ∙ ap (λ x. Some x.1) (sym read_there);
      puts = λ h. ap (λ k. slice_set seen place (k, h)) (ap (λ x. x.0) read_there ∙ number row) ∙ sym (puts h);
    })
