-- What holds always of the core, kept by its calls.
use Rattle.std.proofs.Common.{◌≡◌, ℕ, suc, ◌+◌, ◌≤◌, ◌<◌, arith, Bool, true, false, List, [], ◌∷◌, ◌++◌, length, refl, ap, sym, ◌∙◌}
use Rattle.std.specs.Prelude.{◌==◌, ◌||◌, nat_le, cond, map, not, All, Some, Result, IsOk, Vec}
use Rattle.std.proofs.Math.Path.{subst}
use Rattle.std.proofs.lemmas.Bool.{false≢true, leb-false}
use Rattle.core_model.specs.Roots.{AreRoots}
use Rattle.std.proofs.lemmas.List.Elements.{All-cons, All-head, All-tail, All-push, All-weaker}
use Rattle.hmr_types.specs.declared.limits.TheConstants.{CLIENTS, LARGEST_CLIENT}
use Rattle.core_model.specs.Core.{without_client}
use Rattle.client_records.specs.Record as client
use Rattle.server_core.specs.Clients.{Clients, IsGiven, numbers_of}
use Rattle.std.specs.Vec.{with_items}
use Rattle.std.proofs.lemmas.List.{with_items_is}
use Rattle.std.specs.declared.alloc.AllocError.{AllocError}
use Rattle.core_model.specs.Client.{Client}
use Rattle.core_model.specs.Core.{request}
use Rattle.core_model.specs.Requests.{Request}
use Rattle.events_and_replies.specs.declared.event.Reply.{Reply}
use Rattle.server_core.specs.Heard.{IsHeard}
use Rattle.server_core.specs.Inside.{IsSoundInside, kept_of}
use Rattle.server_core.specs.Kept.{Kept, IsStep, is_free_request}
use Rattle.server_core.proofs.Stepping.{request_step}
use Rattle.server_core.specs.declared.page_core.Core.TheInside.{Inside}

numbers_step : (P : ℕ → Type 0) (keep : Bool) (row : ℕ × client.Kept) (rows : Clients) → P row.0 → All P (numbers_of rows) → All P (numbers_of (cond keep (row ∷ rows) rows))
numbers_step P true row rows p all = All-cons P row.0 (numbers_of rows) p all
numbers_step P false row rows p all = all

numbers_left : (P : ℕ → Type 0) (i : ℕ) (rows : Clients) → All P (numbers_of rows) → All P (numbers_of (without_client i rows))
numbers_left P i [] all = all
numbers_left P i (row ∷ rows) all = numbers_step P (not (row.0 == i)) row (without_client i rows) (All-head P row.0 (numbers_of rows) all) (numbers_left P i rows (All-tail P row.0 (numbers_of rows) all))

fewer_step : (keep : Bool) (row : ℕ × client.Kept) (rows : Clients) (k : ℕ) → length (numbers_of rows) ≤ k → length (numbers_of (cond keep (row ∷ rows) rows)) ≤ k + 1
fewer_step true row rows k h = omega (arith, h)
fewer_step false row rows k h = omega (arith, h)

fewer : (i : ℕ) (rows : Clients) → length (numbers_of (without_client i rows)) ≤ length (numbers_of rows)
fewer i [] = omega arith
fewer i (row ∷ rows) = let h = fewer_step (not (row.0 == i)) row (without_client i rows) (length (numbers_of rows)) (fewer i rows) in omega (arith, h)

-- a client was taken out
pub taken_sound : (a b : Inside) (i : ℕ) → b.roots ≡ a.roots → b.given ≡ a.given → b.clients.items ≡ without_client i a.clients.items → IsSoundInside a → IsSoundInside b
taken_sound a b i r g e s = record {
  roots = subst AreRoots (sym r) s.roots;
  numbers = subst (λ k. All (IsGiven k) (numbers_of b.clients.items)) (sym g) (subst (λ l. All (IsGiven a.given) (numbers_of l)) (sym e) (numbers_left (IsGiven a.given) i a.clients.items s.numbers));
  given = subst (λ k. k ≤ LARGEST_CLIENT) (sym g) s.given;
  few = subst (λ l. length (numbers_of l) ≤ CLIENTS) (sym e) (let h = fewer i a.clients.items in let f = s.few in omega (arith, h, f));
}

numbers_more : (row : ℕ × client.Kept) (rows : Clients) → numbers_of (rows ++ row ∷ []) ≡ numbers_of rows ++ row.0 ∷ []
numbers_more row [] = refl
numbers_more row (r ∷ rows) = ap (λ l. r.0 ∷ l) (numbers_more row rows)

pub one_longer : {X : Type 0} (n : X) (l : List X) → length (l ++ n ∷ []) ≡ length l + 1
one_longer n [] = refl
one_longer n (m ∷ l) = let h = one_longer n l in omega (arith, h)

neither : (a b : Bool) → (a || b) ≡ false → (a ≡ false) × (b ≡ false)
neither true b h = absurd (false≢true (sym h))
neither false b h = (refl, h)

pub no_more_given : (a : Inside) → (nat_le CLIENTS (length (numbers_of a.clients.items)) || nat_le LARGEST_CLIENT a.given) ≡ false → a.given + 1 ≤ LARGEST_CLIENT
no_more_given a h =
    let l : a.given < LARGEST_CLIENT = leb-false LARGEST_CLIENT a.given (neither _ _ h).1 in
    omega (arith, l)

-- a client was added
pub added_sound : (a b : Inside) (k : client.Kept) → b.roots ≡ a.roots → b.given ≡ a.given + 1 → b.clients.items ≡ a.clients.items ++ (a.given + 1, k) ∷ [] → (nat_le CLIENTS (length (numbers_of a.clients.items)) || nat_le LARGEST_CLIENT a.given) ≡ false → IsSoundInside a → IsSoundInside b
added_sound a b k r g e h s =
    let names : numbers_of b.clients.items ≡ numbers_of a.clients.items ++ (a.given + 1) ∷ [] = ap numbers_of e ∙ numbers_more (a.given + 1, k) a.clients.items in
    let least : 1 ≤ a.given + 1 = omega arith in
    let most : a.given + 1 ≤ a.given + 1 = omega arith in
    record {
      roots = subst AreRoots (sym r) s.roots;
      numbers = subst (λ n. All (IsGiven n) (numbers_of b.clients.items)) (sym g) (subst (All (IsGiven (a.given + 1))) (sym names)
          (All-push (IsGiven (a.given + 1)) (numbers_of a.clients.items) (a.given + 1)
          (All-weaker (IsGiven a.given) (IsGiven (a.given + 1)) (λ n q. let m = q.most in record { least = q.least; most = omega (arith, m) }) (numbers_of a.clients.items) s.numbers)
          (record { least = least; most = most })));
      given = let m = no_more_given a h in omega (arith, m, g);
      few = let l : length (numbers_of a.clients.items) < CLIENTS = leb-false CLIENTS (length (numbers_of a.clients.items)) (neither _ _ h).0 in let o = ap length names ∙ one_longer (a.given + 1) (numbers_of a.clients.items) in omega (arith, l, o);
    }

-- the clients are others under the same numbers
pub same_sound : (a b : Inside) → b.roots ≡ a.roots → b.given ≡ a.given → numbers_of b.clients.items ≡ numbers_of a.clients.items → IsSoundInside a → IsSoundInside b
same_sound a b r g e s = record {
  roots = subst AreRoots (sym r) s.roots;
  numbers = subst (λ k. All (IsGiven k) (numbers_of b.clients.items)) (sym g) (subst (All (IsGiven a.given)) (sym e) s.numbers);
  given = subst (λ k. k ≤ LARGEST_CLIENT) (sym g) s.given;
  few = subst (λ l. length l ≤ CLIENTS) (sym e) s.few;
}

-- the numbers are those of clients
pub are_numbers : (a : Inside) → IsSoundInside a → All (IsGiven LARGEST_CLIENT) (numbers_of a.clients.items)
are_numbers a s = All-weaker (IsGiven a.given) (IsGiven LARGEST_CLIENT) (λ n q. let m = q.most in let g = s.given in record { least = q.least; most = omega (arith, m, g) }) (numbers_of a.clients.items) s.numbers

same_length : (old new : Clients) → numbers_of new ≡ numbers_of old → length new ≡ length old
same_length old new e = sym (all_of new) ∙ ap length e ∙ all_of old
  where
    all_of : (rows : Clients) → length (numbers_of rows) ≡ length rows
    all_of [] = refl
    all_of (row ∷ rows) = ap suc (all_of rows)

-- a vector whose elements were written over has what was written
pub refilled : {Z : Type 0} (v : Vec (ℕ × client.Kept) Z) (rows : Clients) → numbers_of rows ≡ numbers_of v.items → (with_items v rows).items ≡ rows
refilled v rows e = with_items_is v rows (same_length v.items rows e ∙ sym v.ok.0)

-- a request was heard on the clients of the core
pub heard_step : (a : Inside) (now : Kept) → kept_of a ≡ now → (slice new : Clients) → slice ≡ a.clients.items → (i : ℕ) (r : Request) (result : Result Reply AllocError) → IsHeard a.versions i r slice new result → ((c : Client) → is_free_request (Some c) r ≡ true → IsOk result) → IsStep (request i r) now (kept_of (record a { clients = with_items a.clients new })) result
heard_step a now view slice new e i r result h f = subst (λ k. IsStep (request i r) k (kept_of (record a { clients = with_items a.clients new })) result) view
    (subst (λ l. IsStep (request i r) (kept_of a) (record (kept_of a) { clients = l }) result) (sym (refilled a.clients new (h.numbers ∙ ap numbers_of e)))
    (request_step (kept_of a) new i r result (subst (λ l. IsHeard a.versions i r l new result) e h) f))
