-- Clients that are one by one what is kept of them: looked up by number, put in place, taken out, added and
-- changed.
use Rattle.std.proofs.Common.{◌≡◌, ℕ, suc, ◌+◌, ◌<◌, Bool, true, false, List, [], ◌∷◌, ◌++◌, length, take, drop, get_or, refl, ap, sym, ◌∙◌, arith}
use Rattle.std.proofs.lemmas.List.{drop_more}
use Rattle.module_graph.proofs.Rows.{set_parts}
use Rattle.std.specs.Prelude.{◌==◌, slice_set, ⊤, cond, map, not, Option, Some, None, is_some, if◌then◌else◌}
use Prim.{⊥}
use Prim.Native.Nat.{zero}
use Rattle.std.specs.List.{AllZip}
use Rattle.std.proofs.Math.Path.{subst}
use Rattle.std.proofs.lemmas.Bool.{false≢true, eqb-true}
use Rattle.core_model.specs.Sources.{Sources}
use Rattle.hmr_types.specs.declared.analysis.TextFault.{TextFault}
use Rattle.core_model.specs.Names.{Name}
use Rattle.core_model.specs.Client.{Client, with_notice, without_notice}
use Rattle.core_model.specs.Core.{client_at, with_client, without_client, each_client}
use Rattle.client_records.specs.Record as client
use Rattle.client_records.specs.Record.{IsRecord, SameBut}
use Rattle.server_core.specs.Clients.{Clients, AreClients, IsKept, numbers_of}

-- both are there, and what is kept is the client; or neither is there
abbrev pub IsOne : Sources → Option Client → Option client.Kept → Type 0
IsOne s None None = ⊤
IsOne s None (Some k) = ⊥
IsOne s (Some c) None = ⊥
IsOne s (Some c) (Some k) = IsRecord s c k

module _ (s : Sources) where
  at_step : (b d : Bool) (c : Client) (k : client.Kept) (o : Option Client) (p : Option client.Kept) → d ≡ b → IsRecord s c k → IsOne s o p → IsOne s (if b then Some c else o) (if d then Some k else p)
  at_step true true c k o p e r h = r
  at_step true false c k o p e r h = absurd (false≢true e)
  at_step false true c k o p e r h = absurd (false≢true (sym e))
  at_step false false c k o p e r h = h

  pub at_one : (i : ℕ) (rows : List (ℕ × Client)) (clients : Clients) → AreClients s rows clients → IsOne s (client_at rows i) (client_at clients i)
  at_one i [] [] h = tt
  at_one i [] (k ∷ clients) h = absurd h
  at_one i (row ∷ rows) [] h = absurd h
  at_one i (row ∷ rows) (k ∷ clients) h = at_step (row.0 == i) (k.0 == i) row.1 k.1 (client_at rows i) (client_at clients i) (ap (λ n. n == i) h.0.0) h.0.1 (at_one i rows clients h.1)

  with_step : (i : ℕ) (b d : Bool) (row : ℕ × Client) (k : ℕ × client.Kept) (c : Client) (new : client.Kept) (rows more : List (ℕ × Client)) (clients others : Clients) → d ≡ b → IsKept s row k → IsRecord s c new → AreClients s rows clients → AreClients s more others
      → AreClients s (if b then (i, c) ∷ rows else row ∷ more) (if d then (i, new) ∷ clients else k ∷ others)
  with_step i true true row k c new rows more clients others e r q h g = ((refl, q), h)
  with_step i true false row k c new rows more clients others e r q h g = absurd (false≢true e)
  with_step i false true row k c new rows more clients others e r q h g = absurd (false≢true (sym e))
  with_step i false false row k c new rows more clients others e r q h g = (r, g)

  pub with_one : (i : ℕ) (c : Client) (new : client.Kept) (rows : List (ℕ × Client)) (clients : Clients) → AreClients s rows clients → IsRecord s c new → AreClients s (with_client i c rows) (with_client i new clients)
  with_one i c new [] [] h q = ((refl, q), tt)
  with_one i c new [] (k ∷ clients) h q = absurd h
  with_one i c new (row ∷ rows) [] h q = absurd h
  with_one i c new (row ∷ rows) (k ∷ clients) h q = with_step i (row.0 == i) (k.0 == i) row k c new rows (with_client i c rows) clients (with_client i new clients) (ap (λ n. n == i) h.0.0) h.0 q h.1 (with_one i c new rows clients h.1 q)

  replaced_step : (i : ℕ) (b : Bool) (row : ℕ × Client) (kept : ℕ × client.Kept) (k new : client.Kept) (rows : List (ℕ × Client)) (clients more : Clients) (o : Option client.Kept) → (kept.0 == i) ≡ b → IsKept s row kept → AreClients s rows clients → (o ≡ Some k → AreClients s rows more) → ((c : Client) → IsRecord s c k → IsRecord s c new) → (if b then Some kept.1 else o) ≡ Some k
      → AreClients s (row ∷ rows) (if b then (i, new) ∷ clients else kept ∷ more)
  replaced_step i true row kept k new rows clients more o e r h g f is = ((sym (eqb-true kept.0 i e) ∙ r.0, f row.1 (subst (IsRecord s row.1) (the_one kept.1 is) r.1)), h)
    where
      one_or : client.Kept → Option client.Kept → client.Kept
      one_or d None = d
      one_or d (Some x) = x

      the_one : (x : client.Kept) → Some x ≡ Some k → x ≡ k
      the_one x e = ap (one_or k) e
  replaced_step i false row kept k new rows clients more o e r h g f is = (r, g is)

  -- a record put in the place of one for the same client
  pub replaced_one : (i : ℕ) (k new : client.Kept) (rows : List (ℕ × Client)) (clients : Clients) → AreClients s rows clients → client_at clients i ≡ Some k → ((c : Client) → IsRecord s c k → IsRecord s c new) → AreClients s rows (with_client i new clients)
  replaced_one i k new rows [] h is f = absurd (false≢true (ap is_some is))
  replaced_one i k new [] (kept ∷ clients) h is f = absurd h
  replaced_one i k new (row ∷ rows) (kept ∷ clients) h is f = replaced_step i (kept.0 == i) row kept k new rows clients (with_client i new clients) (client_at clients i) refl h.0 h.1 (λ e. replaced_one i k new rows clients h.1 e f) f is

  without_step : (b d : Bool) (row : ℕ × Client) (k : ℕ × client.Kept) (rows : List (ℕ × Client)) (clients : Clients) → d ≡ b → IsKept s row k → AreClients s rows clients → AreClients s (cond (not b) (row ∷ rows) rows) (cond (not d) (k ∷ clients) clients)
  without_step true true row k rows clients e r h = h
  without_step true false row k rows clients e r h = absurd (false≢true e)
  without_step false true row k rows clients e r h = absurd (false≢true (sym e))
  without_step false false row k rows clients e r h = (r, h)

  pub without_one : (i : ℕ) (rows : List (ℕ × Client)) (clients : Clients) → AreClients s rows clients → AreClients s (without_client i rows) (without_client i clients)
  without_one i [] [] h = tt
  without_one i [] (k ∷ clients) h = absurd h
  without_one i (row ∷ rows) [] h = absurd h
  without_one i (row ∷ rows) (k ∷ clients) h = without_step (row.0 == i) (k.0 == i) row k (without_client i rows) (without_client i clients) (ap (λ n. n == i) h.0.0) h.0 (without_one i rows clients h.1)

  pub one_more : (row : ℕ × Client) (k : ℕ × client.Kept) (rows : List (ℕ × Client)) (clients : Clients) → AreClients s rows clients → IsKept s row k → AreClients s (rows ++ row ∷ []) (clients ++ k ∷ [])
  one_more row k [] [] h q = (q, tt)
  one_more row k [] (j ∷ clients) h q = absurd h
  one_more row k (r ∷ rows) [] h q = absurd h
  one_more row k (r ∷ rows) (j ∷ clients) h q = (h.0, one_more row k rows clients h.1 q)

  pub as_many : (rows : List (ℕ × Client)) (clients : Clients) → AreClients s rows clients → length (numbers_of clients) ≡ length rows
  as_many [] [] h = refl
  as_many [] (k ∷ clients) h = absurd h
  as_many (row ∷ rows) [] h = absurd h
  as_many (row ∷ rows) (k ∷ clients) h = ap suc (as_many rows clients h.1)

-- the record of a client has become another, under the same number
abbrev pub Becomes : (client.Kept → client.Kept → Type 0) → ℕ × client.Kept → ℕ × client.Kept → Type 0
Becomes R k new = (new.0 ≡ k.0) × R k.1 new.1

-- what is kept of a client of s is afterwards, of t, what f makes of the client
abbrev pub Tells : Sources → Sources → (Client → Client) → client.Kept → client.Kept → Type 0
Tells s t f k new = (c : Client) → IsRecord s c k → IsRecord t (f c) new

pub each_one : (s t : Sources) (f : Client → Client) (rows : List (ℕ × Client)) (old new : Clients) → AllZip (Becomes (Tells s t f)) old new → AreClients s rows old → AreClients t (each_client f rows) new
each_one s t f [] [] [] h g = tt
each_one s t f [] [] (n ∷ new) h g = absurd h
each_one s t f [] (k ∷ old) new h g = absurd g
each_one s t f (row ∷ rows) [] new h g = absurd g
each_one s t f (row ∷ rows) (k ∷ old) [] h g = absurd h
each_one s t f (row ∷ rows) (k ∷ old) (n ∷ new) h g = ((h.0.0 ∙ g.0.0, h.0.1 row.1 g.0.1), each_one s t f rows old new h.1 g.1)

pub same_numbers : (R : client.Kept → client.Kept → Type 0) (old new : Clients) → AllZip (Becomes R) old new → numbers_of new ≡ numbers_of old
same_numbers R [] [] h = refl
same_numbers R [] (n ∷ new) h = absurd h
same_numbers R (k ∷ old) [] h = absurd h
same_numbers R (k ∷ old) (n ∷ new) h = ap (λ m. m ∷ numbers_of new) h.0.0 ∙ ap (λ l. k.0 ∷ l) (same_numbers R old new h.1)

-- clients that are what each was before, in the sources of another moment
pub all_stay : (s t : Sources) (rows : List (ℕ × Client)) (clients : Clients) → ((c : Client) (k : client.Kept) → IsRecord s c k → IsRecord t c k) → AreClients s rows clients → AreClients t rows clients
all_stay s t [] [] f h = tt
all_stay s t [] (k ∷ clients) f h = absurd h
all_stay s t (row ∷ rows) [] f h = absurd h
all_stay s t (row ∷ rows) (k ∷ clients) f h = ((h.0.0, f row.1 k.1 h.0.1), all_stay s t rows clients f h.1)

-- a client that is told that this name changed
abbrev pub TellsChanged : Name → Sources → client.Kept → client.Kept → Type 0
TellsChanged name t k new = (s : Sources) (c : Client) → IsRecord s c k → SameBut name s t → IsRecord t (without_notice name c) new

-- a client that is to be told of a fault
abbrev pub TellsNotice : Name → TextFault → client.Kept → client.Kept → Type 0
TellsNotice name fault k new = (s : Sources) (c : Client) → IsRecord s c k → IsRecord s (with_notice name fault c) new

-- a client's record that is what it was
abbrev pub Stays : client.Kept → client.Kept → Type 0
Stays k new = (s : Sources) (c : Client) → IsRecord s c k → IsRecord s c new

weaker : (R Q : client.Kept → client.Kept → Type 0) → ((k new : client.Kept) → R k new → Q k new) → (old new : Clients) → AllZip (Becomes R) old new → AllZip (Becomes Q) old new
weaker R Q f [] [] h = tt
weaker R Q f [] (n ∷ new) h = absurd h
weaker R Q f (k ∷ old) [] h = absurd h
weaker R Q f (k ∷ old) (n ∷ new) h = ((h.0.0, f k.1 n.1 h.0.1), weaker R Q f old new h.1)

pub all_changed : (name : Name) (s t : Sources) (rows : List (ℕ × Client)) (old new : Clients) → AllZip (Becomes (TellsChanged name t)) old new → AreClients s rows old → SameBut name s t → AreClients t (each_client (without_notice name) rows) new
all_changed name s t rows old new h g e = each_one s t (without_notice name) rows old new (weaker (TellsChanged name t) (Tells s t (without_notice name)) (λ k n f c r. f s c r e) old new h) g

pub all_noticed : (name : Name) (fault : TextFault) (s : Sources) (rows : List (ℕ × Client)) (old new : Clients) → AllZip (Becomes (TellsNotice name fault)) old new → AreClients s rows old → AreClients s (each_client (with_notice name fault) rows) new
all_noticed name fault s rows old new h g = each_one s s (with_notice name fault) rows old new (weaker (TellsNotice name fault) (Tells s s (with_notice name fault)) (λ k n f c r. f s c r) old new h) g

pub all_kept : (s : Sources) (rows : List (ℕ × Client)) (old new : Clients) → AllZip (Becomes Stays) old new → AreClients s rows old → AreClients s rows new
all_kept s [] [] [] h g = tt
all_kept s [] [] (n ∷ new) h g = absurd h
all_kept s [] (k ∷ old) new h g = absurd g
all_kept s (row ∷ rows) [] new h g = absurd g
all_kept s (row ∷ rows) (k ∷ old) [] h g = absurd h
all_kept s (row ∷ rows) (k ∷ old) (n ∷ new) h g = ((h.0.0 ∙ g.0.0, h.0.1 s row.1 g.0.1), all_kept s rows old new h.1 g.1)

pub all_themselves : (clients : Clients) → AllZip (Becomes Stays) clients clients
all_themselves [] = tt
all_themselves (k ∷ clients) = ((refl, λ s c r. r), all_themselves clients)

-- a record put where its client's stands first
pub with_there : (n : ℕ) (k : client.Kept) (clients : Clients) (p : ℕ) (d : ℕ × client.Kept) → p < length clients → with_client n k clients ≡ take p clients ++ with_client n k (drop p clients) → ((get_or clients p d).0 == n) ≡ true → with_client n k clients ≡ slice_set clients p (n, k)
with_there n k clients p d h so_far s = so_far
    ∙ ap (λ l. take p clients ++ with_client n k l) (drop_more clients p d h)
    ∙ ap (λ b. take p clients ++ (if b then (n, k) ∷ drop (p + 1) clients else get_or clients p d ∷ with_client n k (drop (p + 1) clients))) s
    ∙ sym (set_parts clients p (n, k) h)

set_step : (k n new : ℕ × client.Kept) → Becomes Stays k n → Becomes Stays n new → Becomes Stays k new
set_step k n new h g = (g.0 ∙ h.0, λ s c r. g.1 s c (h.1 s c r))

-- one more record that is what it was
pub set_more : (i : ℕ) (old now : Clients) (new d : ℕ × client.Kept) → AllZip (Becomes Stays) old now → i < length now → Becomes Stays (get_or now i d) new → AllZip (Becomes Stays) old (slice_set now i new)
set_more i [] [] new d h l r = absurd (omega arith)
set_more i [] (n ∷ now) new d h l r = absurd h
set_more i (k ∷ old) [] new d h l r = absurd h
set_more zero (k ∷ old) (n ∷ now) new d h l r = (set_step k n new h.0 r, h.1)
set_more (suc i) (k ∷ old) (n ∷ now) new d h l r = (h.0, set_more i old now new d h.1 (omega arith) r)
