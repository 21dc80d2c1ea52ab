-- What is read of a connected client is what the definitions have of it.
use Rattle.std.proofs.Common.{◌≡◌, ℕ, Bool, false, List, refl, ap, sym, ◌∙◌}
use Rattle.std.specs.Prelude.{Option, Some, None}
use Rattle.std.specs.Option.{option_map}
use Rattle.std.proofs.Math.Path.{subst}
use Rattle.core_model.specs.Names.{Name, at}
use Rattle.core_model.specs.Sources.{Sources}
use Rattle.core_model.specs.Client.{Client}
use Rattle.core_model.specs.Core.{Event, core_after, client_at}
use Rattle.core_model.proofs.Replaying.{sources_are}
use Rattle.client_records.specs.Record as client
use Rattle.client_records.specs.Record.{IsRecord, is_at_rest}
use Rattle.server_core.specs.Kept.{Kept, StandsFor}
use Rattle.server_core.specs.Reading.{is_resting, rests}
use Rattle.server_core.proofs.Alike.{record_same}
use Rattle.server_core.proofs.Numbers.{IsOne, at_one}

one_same : (s t : Sources) → ((n : Name) → at t.served n ≡ at s.served n) → (o : Option Client) (p : Option client.Kept) → IsOne s o p → IsOne t o p
one_same s t e None None h = h
one_same s t e None (Some k) h = h
one_same s t e (Some c) None h = h
one_same s t e (Some c) (Some k) h = record_same s t e c k h

module _ (past : List Event) (core : Kept) (h : StandsFor past core) where
  -- the same is served of each name
  pub served_alike : (n : Name) → at (core_after core.roots past).sources.served n ≡ at core.sources.served n
  served_alike n = ap (λ s. at s.served n) (sources_are core.roots past) ∙ sym (h.sources.served n)

  -- the client of a number, and what is kept of it
  pub one_of : (i : ℕ) → IsOne (core_after core.roots past).sources (client_at (core_after core.roots past).clients i) (client_at core.clients i)
  one_of i = one_same core.sources (core_after core.roots past).sources served_alike (client_at (core_after core.roots past).clients i) (client_at core.clients i)
      (at_one core.sources i (core_after core.roots past).clients core.clients h.clients)

mapped : {X : Type 0} (f : Client → X) (g : client.Kept → X) → ((s : Sources) (c : Client) (k : client.Kept) → IsRecord s c k → g k ≡ f c) → (s : Sources) (o : Option Client) (p : Option client.Kept) → IsOne s o p → option_map g p ≡ option_map f o
mapped f g e s None None h = refl
mapped f g e s None (Some k) h = absurd h
mapped f g e s (Some c) None h = absurd h
mapped f g e s (Some c) (Some k) h = ap Some (e s c k h)

rest_known : (s : Sources) (o : Option Client) (k : client.Kept) (b : Bool) → ((s : Sources) (c : Client) → IsRecord s c k → b ≡ is_at_rest s c) → IsOne s o (Some k) → b ≡ rests s o
rest_known s None k b f h = absurd h
rest_known s (Some c) k b f h = f s c h

rest_unknown : (s : Sources) (o : Option Client) → IsOne s o None → false ≡ rests s o
rest_unknown s None h = refl
rest_unknown s (Some c) h = absurd h

module _ (past : List Event) (core : Kept) (h : StandsFor past core) (i : ℕ) where
  -- what is read of a client's record is that of the client
  pub read_is : {X : Type 0} (f : Client → X) (g : client.Kept → X) → ((s : Sources) (c : Client) (k : client.Kept) → IsRecord s c k → g k ≡ f c) → (o : Option client.Kept) → o ≡ client_at core.clients i → option_map g o ≡ option_map f (client_at (core_after core.roots past).clients i)
  read_is f g e o is = ap (option_map g) is ∙ mapped f g e (core_after core.roots past).sources (client_at (core_after core.roots past).clients i) (client_at core.clients i) (one_of past core h i)

  -- whether a client is at rest
  pub rests_is : (k : client.Kept) (b : Bool) → ((s : Sources) (c : Client) → IsRecord s c k → b ≡ is_at_rest s c) → Some k ≡ client_at core.clients i → b ≡ is_resting (core_after core.roots past) i
  rests_is k b f is = rest_known (core_after core.roots past).sources (client_at (core_after core.roots past).clients i) k b f (subst (IsOne (core_after core.roots past).sources (client_at (core_after core.roots past).clients i)) (sym is) (one_of past core h i))

  pub rests_not : None ≡ client_at core.clients i → false ≡ is_resting (core_after core.roots past) i
  rests_not is = rest_unknown (core_after core.roots past).sources (client_at (core_after core.roots past).clients i) (subst (IsOne (core_after core.roots past).sources (client_at (core_after core.roots past).clients i)) (sym is) (one_of past core h i))
