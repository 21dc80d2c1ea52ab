-- A page that has just been made is that of a client that took no message yet.
use Rattle.std.proofs.Common.{◌≡◌, arith, length, ℕ, zero, suc, [], refl, ap, sym, ◌∙◌}
use Rattle.std.specs.Prelude.{map, None}
use Rattle.std.specs.List.{All}
use Rattle.std.proofs.Math.Path.{subst}
use Rattle.core_model.specs.Names.{Name}
use Rattle.module_semantics.specs.Entries as entries
use Rattle.client_model.specs.Runtime.{Opening, new_runtime}
use Rattle.handler_table.specs.Held.{Answers, IsHost}
use Rattle.handler_table.specs.Shelf.{marks_of}
use Rattle.retained_data.specs.Bags as kept
use Rattle.handler_table.specs.Handlers.{KeepTheirWord}
use Rattle.page_state.specs.Live.{number_of}
use Rattle.page_state.specs.Standing.{StandsFor, BothOrNone, KeepWords, invalidation_as}
use Rattle.page_state.specs.declared.page.Page.{Page}
use Rattle.page_instances.specs.Scopes.{kept_at}

none_kept : (F : Type 0) (k : ℕ) → BothOrNone None (kept_at {F = F} [] k)
none_kept F zero = tt
none_kept F (suc k) = tt

no_number : (n : Name) → None ≡ number_of [] n
unfolding entries.entry_at
no_number n = refl

no_bag : (n : Name) → [] ≡ kept.bag_of [] n
unfolding entries.entry_at
no_bag n = refl

-- nothing was made, and no invalidation waits
pub page_fresh : {F : Type 0} (opening : Opening) (p : Page F) → p.client ≡ 0 → p.instances.items ≡ [] → p.live ≡ [] → p.bags ≡ [] → p.unsent.items ≡ [] → opening.shelf ≡ marks_of p.shelf → StandsFor (new_runtime opening) p
page_fresh {F} opening p client instances live bags unsent shelf = record {
  client = sym client;
  instances = record {
    count = ap length (sym instances);
    orderly = record { numbers = tt; single = λ n k h. tt };
    by_number = λ k. subst (λ cs. BothOrNone None (kept_at cs k)) (sym instances) (none_kept F k);
    by_name = λ n. no_number n ∙ ap (λ numbers. number_of numbers n) (sym live);
  };
  bags = λ n. no_bag n ∙ ap (λ rows. kept.bag_of rows n) (sym bags);
  unsent = ap (map invalidation_as) (sym unsent);
  shelf = shelf;
}

pub words_fresh : {F : Type 0} (answers : Answers F) (p : Page F) → p.instances.items ≡ [] → All (IsHost answers) p.shelf → KeepWords answers p
words_fresh answers p instances shelf = record { instances = subst (All (λ c. KeepTheirWord answers c.held)) (sym instances) (λ k d h. absurd (omega (arith, h))); shelf = shelf }

-- nothing is live
pub none_live : {F : Type 0} (p : Page F) → p.live ≡ [] → (n : Name) → number_of p.live n ≡ None
none_live p live n = ap (λ numbers. number_of numbers n) live ∙ sym (no_number n)
