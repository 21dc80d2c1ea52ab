-- What stands after an event, of what each part has become.
use Rattle.std.proofs.Common.{◌≡◌, ℕ, ◌+◌, ◌≤◌, arith, Bool, true, false, List, [], ◌∷◌, ◌++◌, length, refl, ap, sym, ◌∙◌}
use Rattle.std.specs.Prelude.{◌==◌, ◌||◌, ⊤, nat_le, not, All, Option, Some, None, is_some, Result, Ok, Err, IfOk, IsOk, IsErr, OnOk, OnErr, if◌then◌else◌}
use Prim.{⊥}
use Rattle.std.specs.declared.alloc.AllocError.{AllocError}
use Rattle.std.proofs.Math.Path.{subst}
use Rattle.std.proofs.lemmas.Bool.{false≢true, eqb-true}
use Rattle.std.proofs.lemmas.List.Elements.{All-head, All-tail}
use Rattle.hmr_types.specs.declared.limits.TheConstants.{CLIENTS, LARGEST_CLIENT}
use Rattle.update_msgs.specs.declared.message.ServerMsg.TheVariants as msg
use Rattle.update_msgs.specs.Writable.{IsFormat}
use Rattle.core_model.specs.declared.refusal.Refusal.TheVariants.{UnknownClient, TooManyClients, BadRoots}
use Rattle.core_model.specs.Names.{Name}
use Rattle.core_model.specs.Roots.{are_bad, roots_or}
use Rattle.core_model.specs.Sources.{Sources, Change, sources_after}
use Rattle.core_model.specs.Client.{Client, new_client}
use Rattle.core_model.specs.Requests as model
use Rattle.core_model.specs.Requests.{Request, heard, to_client, refused, gone}
use Rattle.core_model.specs.Core.{Core, Event, change, connect, request, disconnect, client_at, with_client, without_client, each_client, is_full, if_room, admitted, connected, requested, disconnected, step, core_after, changes_of, told_of, answer_change, after_change}
use Rattle.core_model.proofs.Replaying.{sources_are}
use Rattle.core_model.proofs.Clients.{at_with, at_without}
use Rattle.version_map.specs.Standing as sources
use Rattle.version_map.specs.Standing.{Matches}
use Rattle.client_records.specs.Record as client
use Rattle.client_records.specs.Record.{IsRecord}
use Rattle.events_and_replies.specs.declared.event.Reply.{Reply}
use Rattle.events_and_replies.specs.declared.event.Reply.TheVariants as replies
use Rattle.server_core.specs.Clients.{Clients, AreClients, IsGiven, numbers_of}
use Rattle.server_core.specs.Heard.{IsHeard, heard_of, heard_by}
use Rattle.server_core.specs.Kept.{Kept, StandsFor, IsStep, is_free_request, leaves}
use Rattle.events_and_replies.specs.Said.{said, IsWritten}
use Rattle.server_core.proofs.Alike.{heard_same}
use Rattle.server_core.proofs.Numbers.{IsOne, at_one, as_many, with_one, without_one}

-- results

pub on_ok : {T E : Type 0} (r : Result T E) (P Q : Type 0) → (P → Q) → OnOk r P → OnOk r Q
on_ok (Ok x) P Q f h = f h
on_ok (Err e) P Q f h = tt

pub on_err : {T E : Type 0} (r : Result T E) (P Q : Type 0) → (P → Q) → OnErr r P → OnErr r Q
on_err (Ok x) P Q f h = tt
on_err (Err e) P Q f h = f h

pub if_ok : {T E : Type 0} (r : Result T E) (P Q : T → Type 0) → ((x : T) → P x → Q x) → IfOk r P → IfOk r Q
if_ok (Ok x) P Q f h = f x h
if_ok (Err e) P Q f h = tt

-- a number that is another
apart : (b : Bool) → not b ≡ true → b ≡ false
apart true h = absurd (false≢true h)
apart false h = refl

-- requests

module _ (roots : List Name) (past : List Event) (s : Sources) (matches : Matches (sources_after (changes_of past)) s) where
  same_sources : Matches (core_after roots past).sources s
  same_sources = subst (λ t. Matches t s) (sym (sources_are roots past)) matches

  requested_is : (o : Option Client) (i : ℕ) (r : Request) → (requested o i (core_after roots past) r).0.clients ≡ (heard_of o s i r (core_after roots past).clients).0
  requested_is None i r = refl
  requested_is (Some c) i r = ap (λ h. with_client i h.0 (core_after roots past).clients) (sym (heard_same (core_after roots past).sources s same_sources i c r))

  replied_is : (o : Option Client) (i : ℕ) (r : Request) → (requested o i (core_after roots past) r).1 ≡ (heard_of o s i r (core_after roots past).clients).1
  replied_is None i r = refl
  replied_is (Some c) i r = ap (λ h. h.1) (sym (heard_same (core_after roots past).sources s same_sources i c r))

requested_given : (o : Option Client) (i : ℕ) (core : Core) (r : Request) → (requested o i core r).0.given ≡ core.given
requested_given None i core r = refl
requested_given (Some c) i core r = refl

there : (s : Sources) (o : Option Client) (p : Option client.Kept) → IsOne s o p → is_some o ≡ is_some p
there s None None h = refl
there s None (Some k) h = absurd h
there s (Some c) None h = absurd h
there s (Some c) (Some k) h = refl

not_there : {X : Type 0} (o : Option X) → is_some o ≡ false → o ≡ None
not_there None h = refl
not_there (Some x) h = absurd (false≢true (sym h))

-- a request takes no memory where its client isn't connected, or where it never does
free_request : (o : Option Client) (clients : Clients) (i : ℕ) (r : Request) (result : Result Reply AllocError) → is_some o ≡ is_some (client_at clients i) → ((c : Client) → is_free_request (Some c) r ≡ true → IsOk result) → (client_at clients i ≡ None → IsOk result) → is_free_request o r ≡ true → IsOk result
free_request None clients i r result e f g l = g (not_there (client_at clients i) (sym e))
free_request (Some c) clients i r result e f g l = f c l

-- a request was heard
pub request_step : (old : Kept) (new : Clients) (i : ℕ) (r : Request) (result : Result Reply AllocError) → IsHeard old.sources i r old.clients new result → ((c : Client) → is_free_request (Some c) r ≡ true → IsOk result) → IsStep (request i r) old (record old { clients = new }) result
request_step old new i r result h f = record {
  roots = refl;
  stands = λ past g. on_ok result _ _ (λ a. record {
    sources = g.sources;
    given = g.given ∙ sym (requested_given (client_at (core_after old.roots past).clients i) i (core_after old.roots past) r);
    clients = subst (λ rows. AreClients old.sources rows new) (sym (requested_is old.roots past old.sources g.sources (client_at (core_after old.roots past).clients i) i r)) a;
  }) (h.stands (core_after old.roots past).clients g.clients);
  reply = λ past g. if_ok result _ _ (λ reply e. ap said (replied_is old.roots past old.sources g.sources (client_at (core_after old.roots past).clients i) i r) ∙ e) (h.reply (core_after old.roots past).clients g.clients);
  written = λ past g. h.written (core_after old.roots past).clients g.clients;
  kept = λ past g. on_err result _ _ (λ a. record { sources = g.sources; given = g.given; clients = a }) (h.kept (core_after old.roots past).clients g.clients);
  free = λ past g l. free_request (client_at (core_after old.roots past).clients i) old.clients i r result (there old.sources _ _ (at_one old.sources i (core_after old.roots past).clients old.clients g.clients)) f h.unknown l;
  others = λ j k l e. h.others j (apart (i == j) l) ∙ e;
}

-- an event that changes nothing

pub stays : (event : Event) (old : Kept) (answer : model.Reply) (reply : Reply) → ((past : List Event) → changes_of (event ∷ past) ≡ changes_of past) → ((past : List Event) → StandsFor past old → step old.roots (core_after old.roots past) event ≡ (core_after old.roots past, answer)) → said answer ≡ reply → IsWritten reply → IsStep event old old (Ok reply)
stays event old answer reply c f e w = record {
  roots = refl;
  stands = λ past g. record {
    sources = subst (λ p. sources.StandsFor p old.sources) (sym (c past)) g.sources;
    given = g.given ∙ ap (λ p. p.0.given) (sym (f past g));
    clients = subst (λ p. AreClients old.sources p.0.clients old.clients) (sym (f past g)) g.clients;
  };
  reply = λ past g. ap (λ p. said p.1) (f past g) ∙ e;
  written = λ past g. w;
  kept = λ past g. tt;
  free = λ past g l. refl;
  others = λ j k l h. h;
}

-- clients that come

full_is : (old : Kept) (past : List Event) → StandsFor past old → is_full (core_after old.roots past) ≡ (nat_le CLIENTS (length (numbers_of old.clients)) || nat_le LARGEST_CLIENT old.given)
full_is old past g = ap (λ k. nat_le CLIENTS k || nat_le LARGEST_CLIENT (core_after old.roots past).given) (sym (as_many old.sources (core_after old.roots past).clients old.clients g.clients)) ∙ ap (λ k. nat_le CLIENTS (length (numbers_of old.clients)) || nat_le LARGEST_CLIENT k) (sym g.given)

pub bad_roots : (old : Kept) (names : List Name) → are_bad names ≡ true → IsStep (connect names) old old (Ok (replies.Refused BadRoots))
bad_roots old names b = stays (connect names) old (refused BadRoots) (replies.Refused BadRoots) (λ past. refl) (λ past g. ap (λ bad. connected bad (roots_or names old.roots) (core_after old.roots past)) b) refl tt

pub too_many : (old : Kept) (names : List Name) → are_bad names ≡ false → (nat_le CLIENTS (length (numbers_of old.clients)) || nat_le LARGEST_CLIENT old.given) ≡ true → IsStep (connect names) old old (Ok (replies.Refused TooManyClients))
too_many old names b f = stays (connect names) old (refused TooManyClients) (replies.Refused TooManyClients) (λ past. refl)
    (λ past g. ap (λ bad. connected bad (roots_or names old.roots) (core_after old.roots past)) b ∙ ap (λ full. if_room full (roots_or names old.roots) (core_after old.roots past)) (full_is old past g ∙ f)) refl tt

absent_step : (i : ℕ) (n : ℕ) (b : Bool) (o : Option client.Kept) (k : client.Kept) → (n == i) ≡ b → (n ≡ i → ⊥) → o ≡ None → (if b then Some k else o) ≡ None
absent_step i n true o k e f h = absurd (f (eqb-true n i e))
absent_step i n false o k e f h = h

-- the next number isn't anyone's
absent : (given i : ℕ) (clients : Clients) → given + 1 ≤ i → All (IsGiven given) (numbers_of clients) → client_at clients i ≡ None
absent given i [] l all = refl
absent given i (row ∷ clients) l all =
    let first : IsGiven given row.0 = All-head (IsGiven given) row.0 (numbers_of clients) all in
    absent_step i row.0 (row.0 == i) (client_at clients i) row.1 refl (λ e. omega (arith, first.most, e, l)) (absent given i clients l (All-tail (IsGiven given) row.0 (numbers_of clients) all))

new_step : {X : Type 0} (b : Bool) (i : ℕ) (x : X) (row : ℕ × X) (rows more : List (ℕ × X)) (o : Option X) → (o ≡ None → more ≡ rows ++ (i, x) ∷ []) → (if b then Some row.1 else o) ≡ None → (if b then (i, x) ∷ rows else row ∷ more) ≡ row ∷ (rows ++ (i, x) ∷ [])
new_step true i x row rows more o f h = absurd (false≢true (sym (ap is_some h)))
new_step false i x row rows more o f h = ap (λ l. row ∷ l) (f h)

-- a new number comes last
with_new : {X : Type 0} (i : ℕ) (x : X) (rows : List (ℕ × X)) → client_at rows i ≡ None → with_client i x rows ≡ rows ++ (i, x) ∷ []
with_new i x [] h = refl
with_new i x (row ∷ rows) h = new_step (row.0 == i) i x row rows (with_client i x rows) (client_at rows i) (with_new i x rows) h

more_step : {X : Type 0} (b : Bool) (x k : X) (o p : Option X) → (o ≡ Some k → p ≡ Some k) → (if b then Some x else o) ≡ Some k → (if b then Some x else p) ≡ Some k
more_step true x k o p f h = h
more_step false x k o p f h = f h

at_more : {X : Type 0} (j : ℕ) (k : X) (rows more : List (ℕ × X)) → client_at rows j ≡ Some k → client_at (rows ++ more) j ≡ Some k
at_more j k [] more h = absurd (false≢true (ap is_some h))
at_more j k (row ∷ rows) more h = more_step (row.0 == j) row.1 k (client_at rows j) (client_at (rows ++ more) j) (at_more j k rows more) h

pub admitted_step : (old : Kept) (names roots : List Name) (k : client.Kept) → All (IsGiven old.given) (numbers_of old.clients) → (nat_le CLIENTS (length (numbers_of old.clients)) || nat_le LARGEST_CLIENT old.given) ≡ false → old.given + 1 ≤ LARGEST_CLIENT
    → ((s : Sources) → IsRecord s (new_client roots old.sources.served_no) k) → are_bad names ≡ false → roots ≡ roots_or names old.roots
    → IsStep (connect names) old (record old { clients = old.clients ++ (old.given + 1, k) ∷ []; given = old.given + 1 }) (Ok (replies.To (msg.Connected (old.given + 1) roots)))
admitted_step old names roots k numbers room few r b e =
    let is : (past : List Event) → StandsFor past old → step old.roots (core_after old.roots past) (connect names) ≡ admitted roots (core_after old.roots past) = λ past g.
    ap (λ bad. connected bad (roots_or names old.roots) (core_after old.roots past)) b
    ∙ ap (λ full. if_room full (roots_or names old.roots) (core_after old.roots past)) (full_is old past g ∙ room)
    ∙ ap (λ l. admitted l (core_after old.roots past)) (sym e) in
    record {
      roots = refl;
      stands = λ past g. record {
        sources = g.sources;
        given = ap (λ n. n + 1) g.given ∙ ap (λ p. p.0.given) (sym (is past g));
        clients =
            let model_given = (core_after old.roots past).given in
            let served : old.sources.served_no ≡ (core_after old.roots past).sources.served_no = g.sources.served_no ∙ ap (λ t. t.served_no) (sym (sources_are old.roots past)) in
            subst (λ p. AreClients old.sources p.0.clients (old.clients ++ (old.given + 1, k) ∷ [])) (sym (is past g))
            (subst (λ v. AreClients old.sources (with_client (v + 1) (new_client roots (core_after old.roots past).sources.served_no) (core_after old.roots past).clients) (old.clients ++ (old.given + 1, k) ∷ [])) g.given
            (subst (λ l. AreClients old.sources (with_client (old.given + 1) (new_client roots (core_after old.roots past).sources.served_no) (core_after old.roots past).clients) l) (with_new (old.given + 1) k old.clients (absent old.given (old.given + 1) old.clients (omega arith) numbers))
            (with_one old.sources (old.given + 1) (new_client roots (core_after old.roots past).sources.served_no) k (core_after old.roots past).clients old.clients g.clients (subst (λ v. IsRecord old.sources (new_client roots v) k) served (r old.sources)))));
      };
      reply = λ past g. ap (λ p. said p.1) (is past g) ∙ ap (λ v. replies.To (msg.Connected (v + 1) roots)) (sym g.given);
      written = λ past g format f. record { least = omega arith; most = few };
      kept = λ past g. tt;
      free = λ past g l. refl;
      others = λ j c l h. at_more j c old.clients ((old.given + 1, k) ∷ []) h;
    }

-- there was no memory for a client
pub unadmitted_step : (old : Kept) (names : List Name) → are_bad names ≡ false → (nat_le CLIENTS (length (numbers_of old.clients)) || nat_le LARGEST_CLIENT old.given) ≡ false → (result : Result Reply AllocError) → IsErr result → IsStep (connect names) old old result
unadmitted_step old names b f (Ok reply) h = absurd (cc)
unadmitted_step old names b f (Err e) h = record {
  roots = refl;
  stands = λ past g. tt;
  reply = λ past g. tt;
  written = λ past g. tt;
  kept = λ past g. g;
  free = λ past g l. absurd (false≢true (sym (ap (λ bad. bad || is_full (core_after old.roots past)) b ∙ full_is old past g ∙ f) ∙ l));
  others = λ j k l h. h;
}

-- clients that go

gone_is : (i : ℕ) (core : Core) (o : Option Client) → is_some o ≡ true → disconnected o i core ≡ (record core { clients = without_client i core.clients }, gone)
gone_is i core None h = absurd (false≢true h)
gone_is i core (Some c) h = refl

other_stays : (i j : ℕ) (clients : Clients) (k : client.Kept) (b : Bool) → (i == j) ≡ b → b ≡ false → client_at clients j ≡ Some k → client_at (without_client i clients) j ≡ Some k
other_stays i j clients k true e n h = absurd (false≢true (sym n))
other_stays i j clients k false e n h = at_without i clients j ∙ ap (λ b. if b then None else client_at clients j) e ∙ h

pub gone_step : (old : Kept) (i : ℕ) → is_some (client_at old.clients i) ≡ true → IsStep (disconnect i) old (record old { clients = without_client i old.clients }) (Ok replies.Gone)
gone_step old i h =
    let is : (past : List Event) → StandsFor past old → step old.roots (core_after old.roots past) (disconnect i) ≡ (record (core_after old.roots past) { clients = without_client i (core_after old.roots past).clients }, gone) = λ past g.
    gone_is i (core_after old.roots past) (client_at (core_after old.roots past).clients i) (there old.sources _ _ (at_one old.sources i (core_after old.roots past).clients old.clients g.clients) ∙ h) in
    record {
      roots = refl;
      stands = λ past g. record {
        sources = g.sources;
        given = g.given ∙ ap (λ p. p.0.given) (sym (is past g));
        clients = subst (λ p. AreClients old.sources p.0.clients (without_client i old.clients)) (sym (is past g)) (without_one old.sources i (core_after old.roots past).clients old.clients g.clients);
      };
      reply = λ past g. ap (λ p. said p.1) (is past g);
      written = λ past g. tt;
      kept = λ past g. tt;
      free = λ past g l. refl;
      others = λ j k l e. other_stays i j old.clients k (i == j) refl (apart (i == j) l) e;
    }

pub unknown_step : (old : Kept) (i : ℕ) → is_some (client_at old.clients i) ≡ false → IsStep (disconnect i) old old (Ok (replies.Refused UnknownClient))
unknown_step old i h = stays (disconnect i) old (refused UnknownClient) (replies.Refused UnknownClient) (λ past. refl)
    (λ past g. ap (λ o. disconnected o i (core_after old.roots past)) (not_there (client_at (core_after old.roots past).clients i) (there old.sources _ _ (at_one old.sources i (core_after old.roots past).clients old.clients g.clients) ∙ h))) refl tt
