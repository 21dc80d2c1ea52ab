-- A request that was heard on the record of one client.
use Rattle.std.proofs.Common.{◌≡◌, ℕ, Bool, true, false, List, [], ◌∷◌, refl, ap, sym, ◌∙◌}
use Rattle.std.proofs.lemmas.List.Elements.{All-head, All-tail}
use Rattle.std.specs.Prelude.{◌==◌, ⊤, All, map, Option, Some, None, is_some, Result, Ok, Err, IsOk, IsErr, if◌then◌else◌}
use Prim.{⊥}
use Rattle.std.specs.declared.alloc.AllocError.{AllocError}
use Rattle.std.proofs.Math.Path.{subst}
use Rattle.std.proofs.lemmas.Bool.{false≢true, eqb-true}
use Rattle.core_model.specs.declared.refusal.Refusal.TheVariants.{UnknownClient}
use Rattle.core_model.specs.Sources.{Sources}
use Rattle.core_model.specs.Client.{Client}
use Rattle.core_model.specs.Requests.{Request, heard}
use Rattle.core_model.specs.Core.{client_at, with_client}
use Rattle.core_model.proofs.Clients.{at_with}
use Rattle.client_records.specs.Record as client
use Rattle.client_records.specs.Record.{IsRecord}
use Rattle.client_records.specs.Answers as answers
use Rattle.client_records.specs.Answers.{reply_of}
use Rattle.client_records.specs.declared.answer.Answer.{Answer}
use Rattle.client_records.specs.declared.answer.Answer.TheVariants.{To, Refused}
use Rattle.events_and_replies.specs.declared.event.Reply.{Reply}
use Rattle.events_and_replies.specs.declared.event.Reply.TheVariants as replies
use Rattle.server_core.specs.Clients.{Clients, AreClients, IsGiven, numbers_of}
use Rattle.server_core.specs.Heard.{IsHeard, heard_of, heard_by}
use Rattle.events_and_replies.specs.Said.{said, IsWritten}
use Rattle.server_core.proofs.Numbers.{IsOne, at_one, replaced_one, with_one}

no_client : (s : Sources) (o : Option Client) → IsOne s o None → o ≡ None
no_client s None h = refl
no_client s (Some c) h = absurd h

-- no client of this number is connected
pub unknown_heard : (s : Sources) (i : ℕ) (r : Request) (clients : Clients) → client_at clients i ≡ None → IsHeard s i r clients clients (Ok (replies.Refused UnknownClient))
unknown_heard s i r clients e =
    let none : (rows : List (ℕ × Client)) → AreClients s rows clients → client_at rows i ≡ None = λ rows h. no_client s (client_at rows i) (subst (λ o. IsOne s (client_at rows i) o) e (at_one s i rows clients h)) in
    record {
      stands = λ rows h. subst (λ o. AreClients s (heard_of o s i r rows).0 clients) (sym (none rows h)) h;
      reply = λ rows h. ap (λ o. said (heard_of o s i r rows).1) (none rows h);
      written = λ rows h. tt;
      kept = λ rows h. tt;
      numbers = refl;
      others = λ j l. refl;
      unknown = λ h. refl;
    }

numbers_step : (b : Bool) (i : ℕ) (k new : client.Kept) (row : ℕ × client.Kept) (clients more : Clients) (o : Option client.Kept) → (row.0 == i) ≡ b → (o ≡ Some k → numbers_of more ≡ numbers_of clients) → (if b then Some row.1 else o) ≡ Some k → numbers_of (if b then (i, new) ∷ clients else row ∷ more) ≡ row.0 ∷ numbers_of clients
numbers_step true i k new row clients more o e f h = ap (λ n. n ∷ numbers_of clients) (sym (eqb-true row.0 i e))
numbers_step false i k new row clients more o e f h = ap (λ l. row.0 ∷ l) (f h)

-- a record in another's place has its number
numbers_stay : (i : ℕ) (k new : client.Kept) (clients : Clients) → client_at clients i ≡ Some k → numbers_of (with_client i new clients) ≡ numbers_of clients
numbers_stay i k new [] h = absurd (false≢true (ap is_some h))
numbers_stay i k new (row ∷ clients) h = numbers_step (row.0 == i) i k new row clients (with_client i new clients) (client_at clients i) refl (numbers_stay i k new clients) h

other_step : (b : Bool) (x o : Option client.Kept) → b ≡ false → (if b then x else o) ≡ o
other_step true x o h = absurd (false≢true (sym h))
other_step false x o h = refl

written_as : (answer : Answer) → answers.IsWritten answer → IsWritten (said (reply_of answer))
written_as (To message) h = h
written_as (Refused refusal) h = tt

module _ (s : Sources) (i : ℕ) (r : Request) (clients : Clients) (k : client.Kept) (is : client_at clients i ≡ Some k) where
  -- the client of the definitions
  client_is : (rows : List (ℕ × Client)) → AreClients s rows clients → IsOne s (client_at rows i) (Some k)
  client_is rows h = subst (λ o. IsOne s (client_at rows i) o) is (at_one s i rows clients h)

  stands_for : (new : client.Kept) → ((c : Client) → IsRecord s c k → IsRecord s (heard i s c r).0 new) → (rows : List (ℕ × Client)) (o : Option Client) → IsOne s o (Some k) → AreClients s rows clients → AreClients s (heard_of o s i r rows).0 (with_client i new clients)
  stands_for new f rows None h g = absurd h
  stands_for new f rows (Some c) h g = with_one s i (heard i s c r).0 new rows clients g (f c h)

  said_for : (answer : Answer) → ((c : Client) → IsRecord s c k → reply_of answer ≡ (heard i s c r).1) → (rows : List (ℕ × Client)) (o : Option Client) → IsOne s o (Some k) → said (heard_of o s i r rows).1 ≡ said (reply_of answer)
  said_for answer f rows None h = absurd h
  said_for answer f rows (Some c) h = ap said (sym (f c h))

  written_for : (answer : Answer) → ((c : Client) → IsRecord s c k → answers.IsWritten answer) → (o : Option Client) → IsOne s o (Some k) → answers.IsWritten answer
  written_for answer f None h = absurd h
  written_for answer f (Some c) h = f c h

  -- the client was answered
  pub heard_one : (new : client.Kept) (after : Clients) (answer : Answer) → after ≡ with_client i new clients → ((c : Client) → IsRecord s c k → IsRecord s (heard i s c r).0 new) → ((c : Client) → IsRecord s c k → reply_of answer ≡ (heard i s c r).1) → ((c : Client) → IsRecord s c k → answers.IsWritten answer) → IsHeard s i r clients after (Ok (said (reply_of answer)))
  heard_one new after answer e stands reply written = subst (λ l. IsHeard s i r clients l (Ok (said (reply_of answer)))) (sym e) (record {
    stands = λ rows h. stands_for new stands rows (client_at rows i) (client_is rows h) h;
    reply = λ rows h. said_for answer reply rows (client_at rows i) (client_is rows h);
    written = λ rows h. written_as answer (written_for answer written (client_at rows i) (client_is rows h));
    kept = λ rows h. tt;
    numbers = numbers_stay i k new clients is;
    others = λ j l. at_with i new clients j ∙ other_step (i == j) (Some new) (client_at clients j) l;
    unknown = λ h. refl;
  })

  -- there was no memory to answer the client
  pub heard_none : (new : client.Kept) (after : Clients) (result : Result Reply AllocError) → IsErr result → after ≡ with_client i new clients → ((c : Client) → IsRecord s c k → IsRecord s c new) → IsHeard s i r clients after result
  heard_none new after (Ok reply) h same f = absurd (cc)
  heard_none new after (Err e) h same f = subst (λ l. IsHeard s i r clients l (Err e)) (sym same) (record {
    stands = λ rows h. tt;
    reply = λ rows h. tt;
    written = λ rows h. tt;
    kept = λ rows h. replaced_one s i k new rows clients h is f;
    numbers = numbers_stay i k new clients is;
    others = λ j l. at_with i new clients j ∙ other_step (i == j) (Some new) (client_at clients j) l;
    unknown = λ h. absurd (false≢true (sym (ap is_some h) ∙ ap is_some is));
  })

-- the number of a connected client is a given one
given_step : (given i : ℕ) (b : Bool) (row : ℕ × client.Kept) (o : Option client.Kept) (k : client.Kept) → (row.0 == i) ≡ b → IsGiven given row.0 → (o ≡ Some k → IsGiven given i) → (if b then Some row.1 else o) ≡ Some k → IsGiven given i
given_step given i true row o k e g f h = subst (IsGiven given) (eqb-true row.0 i e) g
given_step given i false row o k e g f h = f h

pub given_number : (given i : ℕ) (k : client.Kept) (clients : Clients) → All (IsGiven given) (numbers_of clients) → client_at clients i ≡ Some k → IsGiven given i
given_number given i k [] all h = absurd (false≢true (ap is_some h))
given_number given i k (row ∷ clients) all h = given_step given i (row.0 == i) row (client_at clients i) k refl (All-head (IsGiven given) row.0 (numbers_of clients) all) (given_number given i k clients (All-tail (IsGiven given) row.0 (numbers_of clients) all)) h
