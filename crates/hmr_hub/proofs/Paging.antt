-- The pages of clients after an event.
use Rattle.std.proofs.Common.{◌≡◌, ◌≢◌, ◌+◌, ◌<◌, ◌≤◌, ◌⊎◌, inl, inr, ⊎_elim, ℕ, Bool, true, false, ◌||◌, List, [], ◌∷◌, ◌++◌, length, get_or, refl, ap, sym, ◌∙◌, subst, arith, length-append}
use Rattle.std.specs.Prelude.{◌==◌, cond, Option, Some, None, is_some, option_map, if◌then◌else◌, nat_le}
use Rattle.std.specs.Option.{option_or}
use Rattle.std.proofs.Math.ListN.{set}
use lib.Dec.{ltb}
use Rattle.std.proofs.lemmas.Bool.{cases_Bool, eqb-true, eq-eqb, ne_eqb, false≢true, leb-false, ltb-true, ltb-false}
use Rattle.std.proofs.lemmas.List.{get_or_append_left, get_or_push, get_or-set_same, get_or-set_other, length-set}
use Rattle.hmr_types.specs.declared.limits.TheConstants.{CLIENTS, LARGEST_CLIENT}
use Rattle.core_model.specs.Names.{Name}
use Rattle.core_model.specs.Client.{Client, new_client}
use Rattle.core_model.specs.declared.refusal.Refusal.TheVariants.{TooManyClients, BadRoots}
use Rattle.core_model.specs.Requests.{Reply, Request, heard, refused}
use Rattle.core_model.specs.Roots.{are_bad, roots_or}
use Rattle.core_model.specs.View.{table_of}
use Rattle.core_model.specs.Core.{Core, Event, change, connect, request, disconnect, client_at, without_client, core_after, step, told_of, requested, disconnected, connected, if_room, admitted, is_full}
use Rattle.core_model.proofs.Clients.{at_each, at_with, at_without}
use Rattle.server_core.specs.Reading.{page_of}
use Rattle.events_and_replies.specs.Said.{said}
use Rattle.hmr_hub.specs.Pages.{ArePages, IsPage, Page, last_page}
use Rattle.hmr_hub.specs.Passages.{IsComing, IsStaying, is_to}

same_or_other : (j k : ℕ) → (j ≡ k) ⊎ (j ≢ k)
same_or_other j k = ⊎_elim (λ (t : (j == k) ≡ true). inl (eqb-true j k t)) (λ (f : (j == k) ≡ false). inr (λ e. false≢true (sym f ∙ eq-eqb j k e))) (cases_Bool (j == k))

below_or_last : (k n : ℕ) → k < n + 1 → (k < n) ⊎ (k ≡ n)
below_or_last k n h = ⊎_elim (λ (t : ltb k n ≡ true). inl (ltb-true k n t)) (λ (f : ltb k n ≡ false). let le = ltb-false k n f in inr (omega arith)) (cases_Bool (ltb k n))

none_where : {X : Type 0} (o : Option X) → is_some o ≡ false → o ≡ None
none_where None e = refl
none_where (Some x) e = cc

-- nobody came, and nobody went
pub record IsSame (core next : Core) : Type 0 where
  pub given : next.given ≡ core.given
  pub known : (i : ℕ) → is_some (client_at next.clients i) ≡ is_some (client_at core.clients i)

-- a client came, with the next number
pub record HasCome (core next : Core) : Type 0 where
  pub given : next.given ≡ core.given + 1
  pub known : (i : ℕ) → is_some (client_at next.clients i) ≡ ((core.given + 1 == i) || is_some (client_at core.clients i))
  pub room : core.given < LARGEST_CLIENT

each_known : {X : Type 0} (f : X → X) (o : Option X) → is_some (option_map f o) ≡ is_some o
each_known f None = refl
each_known f (Some x) = refl

with_known : {X : Type 0} (b : Bool) (x : X) (o : Option X) → (b ≡ true → is_some o ≡ true) → is_some (if b then Some x else o) ≡ is_some o
with_known true x o h = sym (h refl)
with_known false x o h = refl

with_new : {X : Type 0} (b : Bool) (x : X) (o : Option X) → is_some (if b then Some x else o) ≡ (b || is_some o)
with_new true x o = refl
with_new false x o = refl

same_core : (core next : Core) → next ≡ core → IsSame core next
same_core core next e = record { given = ap (λ (c : Core). c.given) e; known = λ i. ap (λ (c : Core). is_some (client_at c.clients i)) e }

requested_same : (o : Option Client) (i : ℕ) (core : Core) (r : Request) → client_at core.clients i ≡ o → IsSame core (requested o i core r).0
requested_same None i core r e = same_core core core refl
requested_same (Some c) i core r e =
    let told : Client = (heard i core.sources c r).0 in
    record {
      given = refl;
      known = λ j. ap is_some (at_with i told core.clients j)
          ∙ with_known (i == j) told (client_at core.clients j) (λ h. ap is_some (ap (λ k. client_at core.clients k) (sym (eqb-true i j h)) ∙ e));
    }

no_page : (o : Option Client) → option_map (λ (c : Client). table_of c.page.view) o ≡ None → o ≡ None
no_page None e = refl
no_page (Some c) e = cc

-- an event by which nobody comes or goes
staying : (roots : List Name) (core : Core) (event : Event) → IsStaying core event → IsSame core (step roots core event).0
staying roots core (change ch) s = record {
  given = refl;
  known = λ i. ap is_some (at_each (told_of core.sources ch) core.clients i) ∙ each_known (told_of core.sources ch) (client_at core.clients i);
}
staying roots core (connect names) s = absurd s
staying roots core (request i r) s = requested_same (client_at core.clients i) i core r refl
staying roots core (disconnect i) s = same_core core (disconnected (client_at core.clients i) i core).0 (ap (λ o. (disconnected o i core).0) (no_page (client_at core.clients i) s))

has_room : (full : Bool) (given : ℕ) → (full || nat_le LARGEST_CLIENT given) ≡ false → given < LARGEST_CLIENT
has_room true given e = cc
has_room false given e = leb-false LARGEST_CLIENT given e

-- a client is taken
admitting : (roots : List Name) (core : Core) → is_full core ≡ false → HasCome core (admitted roots core).0
admitting roots core e = record {
  given = refl;
  known = λ i. ap is_some (at_with (core.given + 1) (new_client roots core.sources.served_no) core.clients i) ∙ with_new (core.given + 1 == i) (new_client roots core.sources.served_no) (client_at core.clients i);
  room = has_room (nat_le CLIENTS (length core.clients)) core.given e;
}

module _ (roots : List Name) (past : List Event) (event : Event) where
  gone_still : (i : ℕ) (page : Page) → client_at (core_after roots (event ∷ past)).clients i ≡ None → last_page roots past i ≡ Some page → last_page roots (event ∷ past) i ≡ Some page
  gone_still i page gone last = ap (λ o. option_or (option_map (λ (c : Client). table_of c.page.view) o) (last_page roots past i)) gone ∙ last

  still : (i : ℕ) (kept : Option Page) → IsPage roots past i kept
      → is_some (client_at (core_after roots (event ∷ past)).clients i) ≡ is_some (client_at (core_after roots past).clients i) → IsPage roots (event ∷ past) i kept
  still i None p same = same ∙ p
  still i (Some page) p same =
      let gone = none_where (client_at (core_after roots (event ∷ past)).clients i) (same ∙ ap is_some p.0) in
      (gone, gone_still i page gone p.1)

  pub stays : (pages : List (Option Page)) → ArePages roots past pages → IsSame (core_after roots past) (core_after roots (event ∷ past)) → ArePages roots (event ∷ past) pages
  stays pages a s = record {
    counted = a.counted ∙ sym s.given;
    most = subst (λ n. n ≤ LARGEST_CLIENT) (sym s.given) a.most;
    given = λ i h. a.given i (sym (s.known i) ∙ h);
    each = λ k h. still (k + 1) (get_or pages k None) (a.each k h) (s.known (k + 1));
  }

  known_before : (b known : Bool) → (b || known) ≡ true → (b ≡ true) ⊎ (known ≡ true)
  known_before true known h = inl refl
  known_before false known h = inr h

  -- a client came, of which no page is kept
  pub comes : (pages : List (Option Page)) → ArePages roots past pages → HasCome (core_after roots past) (core_after roots (event ∷ past)) → ArePages roots (event ∷ past) (pages ++ None ∷ [])
  comes pages a s =
      let core = core_after roots past in
      let next = core_after roots (event ∷ past) in
      let many : length (pages ++ None ∷ []) ≡ length pages + 1 = length-append pages (None ∷ []) in
      let counted = a.counted in
      let room = s.room in
      let given = s.given in
      record {
        counted = omega arith;
        most = omega arith;
        given = λ i h. ⊎_elim
            (λ new. let e = eqb-true (core.given + 1) i new in (omega arith, omega arith))
            (λ old. let was = a.given i old in (was.0, omega (arith, was.1)))
            (known_before (core.given + 1 == i) (is_some (client_at core.clients i)) (sym (s.known i) ∙ h));
        each = λ k h. ⊎_elim
            (λ (below : k < length pages).
            let other : (core.given + 1 == k + 1) ≡ false = ne_eqb (core.given + 1) (k + 1) (λ e. absurd (omega arith)) in
            let same = s.known (k + 1) ∙ ap (λ b. b || is_some (client_at core.clients (k + 1))) other in
            subst (λ kept. IsPage roots (event ∷ past) (k + 1) kept) (sym (get_or_append_left pages (None ∷ []) None k below)) (still (k + 1) (get_or pages k None) (a.each k below) same))
            (λ (last : k ≡ length pages).
            let new : (core.given + 1 == k + 1) ≡ true = eq-eqb (core.given + 1) (k + 1) (omega arith) in
            let known = s.known (k + 1) ∙ ap (λ b. b || is_some (client_at core.clients (k + 1))) new in
            subst (λ kept. IsPage roots (event ∷ past) (k + 1) kept) (sym (get_or_push pages None None k (sym last))) known)
            (below_or_last k (length pages) (omega arith));
      }

page_known : (o : Option Client) (page : Page) → option_map (λ (c : Client). table_of c.page.view) o ≡ Some page → is_some o ≡ true
page_known None page e = cc
page_known (Some c) page e = refl

-- the last page of a client that is connected
pub last_is_page : (roots : List Name) (past : List Event) (i : ℕ) (page : Page) → page_of (core_after roots past) i ≡ Some page → last_page roots past i ≡ Some page
last_is_page roots [] i page e = cc
last_is_page roots (event ∷ past) i page e = ap (λ o. option_or o (last_page roots past i)) e

left_core : (o : Option Client) (i : ℕ) (core : Core) → is_some o ≡ true → (disconnected o i core).0 ≡ record core { clients = without_client i core.clients }
left_core None i core e = cc
left_core (Some c) i core e = refl

without_known : {X : Type 0} (b : Bool) (o : Option X) → is_some (if b then None else o) ≡ true → is_some o ≡ true
without_known true o h = cc
without_known false o h = h

-- a client went, with this page
pub goes : (roots : List Name) (past : List Event) (i k : ℕ) (page : Page) (pages : List (Option Page)) → ArePages roots past pages → page_of (core_after roots past) i ≡ Some page
    → k + 1 ≡ i → ArePages roots (disconnect i ∷ past) (set pages k (Some page))
goes roots past i k page pages a e at =
    let core = core_after roots past in
    let known = page_known (client_at core.clients i) page e in
    let next : core_after roots (disconnect i ∷ past) ≡ record core { clients = without_client i core.clients } = left_core (client_at core.clients i) i core known in
    let many : length (set pages k (Some page)) ≡ length pages = length-set pages k (Some page) in
    let clients : (j : ℕ) → client_at (core_after roots (disconnect i ∷ past)).clients j ≡ (if i == j then None else client_at core.clients j) =
    λ j. ap (λ (c : Core). client_at c.clients j) next ∙ at_without i core.clients j in
    let given : (core_after roots (disconnect i ∷ past)).given ≡ core.given = ap (λ (c : Core). c.given) next in
    let counted = a.counted in
    let most = a.most in
    record {
      counted = many ∙ (counted ∙ sym given);
      most = omega arith;
      given = λ j h.
          let was = a.given j (without_known (i == j) (client_at core.clients j) (sym (ap is_some (clients j)) ∙ h)) in
          (was.0, omega (arith, was.1));
      each = λ j h. ⊎_elim
          (λ (here : j ≡ k).
          let mine : (i == j + 1) ≡ true = eq-eqb i (j + 1) (omega arith) in
          let gone : client_at (core_after roots (disconnect i ∷ past)).clients (j + 1) ≡ None = clients (j + 1) ∙ ap (λ b. if b then None else client_at core.clients (j + 1)) mine in
          let last : last_page roots past (j + 1) ≡ Some page = last_is_page roots past (j + 1) page (ap (λ n. page_of core n) (let f : j + 1 ≡ i = omega arith in f) ∙ e) in
          let kept : get_or (set pages k (Some page)) j None ≡ Some page = ap (λ n. get_or (set pages k (Some page)) n None) here ∙ get_or-set_same pages k (Some page) None (omega arith) in
          subst (λ o. IsPage roots (disconnect i ∷ past) (j + 1) o) (sym kept) (gone, gone_still roots past (disconnect i) (j + 1) page gone last))
          (λ (other : j ≢ k).
          let mine : (i == j + 1) ≡ false = ne_eqb i (j + 1) (λ f. other (let g : j ≡ k = omega arith in g)) in
          let same : is_some (client_at (core_after roots (disconnect i ∷ past)).clients (j + 1)) ≡ is_some (client_at core.clients (j + 1)) =
          ap is_some (clients (j + 1) ∙ ap (λ b. if b then None else client_at core.clients (j + 1)) mine) in
          subst (λ o. IsPage roots (disconnect i ∷ past) (j + 1) o) (sym (get_or-set_other pages k j (Some page) None other))
          (still roots past (disconnect i) (j + 1) (get_or pages j None) (a.each j (omega arith)) same))
          (same_or_other j k);
    }

module _ (roots : List Name) (past : List Event) (pages : List (Option Page)) (a : ArePages roots past pages) where
  -- a client that named roots was taken, or refused
  connecting : (names : List Name) (bad full : Bool) → are_bad names ≡ bad → is_full (core_after roots past) ≡ full → (b : Bool)
      → is_to (said (step roots (core_after roots past) (connect names)).1) ≡ b → ArePages roots (connect names ∷ past) (cond b (pages ++ None ∷ []) pages)
  connecting names true full bad room b told =
      let core = core_after roots past in
      let e : step roots core (connect names) ≡ (core, refused BadRoots) = ap (λ d. connected d (roots_or names roots) core) bad in
      let b_is : b ≡ false = sym told ∙ ap (λ z. is_to (said z.1)) e in
      subst (λ c. ArePages roots (connect names ∷ past) (cond c (pages ++ None ∷ []) pages)) (sym b_is)
      (stays roots past (connect names) pages a (same_core core (step roots core (connect names)).0 (ap (λ z. z.0) e)))
  connecting names false true bad room b told =
      let core = core_after roots past in
      let e : step roots core (connect names) ≡ (core, refused TooManyClients) =
      ap (λ d. connected d (roots_or names roots) core) bad ∙ ap (λ f. if_room f (roots_or names roots) core) room in
      let b_is : b ≡ false = sym told ∙ ap (λ z. is_to (said z.1)) e in
      subst (λ c. ArePages roots (connect names ∷ past) (cond c (pages ++ None ∷ []) pages)) (sym b_is)
      (stays roots past (connect names) pages a (same_core core (step roots core (connect names)).0 (ap (λ z. z.0) e)))
  connecting names false false bad room b told =
      let core = core_after roots past in
      let e : step roots core (connect names) ≡ admitted (roots_or names roots) core =
      ap (λ d. connected d (roots_or names roots) core) bad ∙ ap (λ f. if_room f (roots_or names roots) core) room in
      let b_is : b ≡ true = sym told ∙ ap (λ z. is_to (said z.1)) e in
      subst (λ c. ArePages roots (connect names ∷ past) (cond c (pages ++ None ∷ []) pages)) (sym b_is)
      (comes roots past (connect names) pages a (subst (λ (z : Core × Reply). HasCome core z.0) (sym e) (admitting (roots_or names roots) core room)))

  -- after an event by which a client comes
  pub come : (event : Event) → IsComing event → (b : Bool) → is_to (said (step roots (core_after roots past) event).1) ≡ b → ArePages roots (event ∷ past) (cond b (pages ++ None ∷ []) pages)
  come (change ch) i b told = absurd i
  come (connect names) i b told = connecting names (are_bad names) (is_full (core_after roots past)) refl refl b told
  come (request k r) i b told = absurd i
  come (disconnect k) i b told = absurd i

  -- after an event by which nobody comes or goes
  pub stay : (event : Event) → IsStaying (core_after roots past) event → ArePages roots (event ∷ past) pages
  stay event s = stays roots past event pages a (staying roots (core_after roots past) event s)
