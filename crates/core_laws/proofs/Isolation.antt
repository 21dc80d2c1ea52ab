-- Other clients' requests change nothing for a client.
use Rattle.std.proofs.Common.{◌≡◌, ℕ, suc, ◌+◌, Bool, true, false, List, [], ◌∷◌, ◌++◌, length, refl, ap, sym, ◌∙◌, arith}
use Rattle.std.specs.Prelude.{filter, reverse, cond, ◌==◌, ◌||◌, nat_le, Option, Some, None, is_some, option_map, if◌then◌else◌}
use Rattle.std.proofs.Math.Path.{subst}
use Rattle.std.proofs.lemmas.Bool.{false≢true, eqb-true}
use Rattle.std.proofs.lemmas.List.{length-map, append-nil, reverse-append}
use Rattle.std.proofs.lemmas.List.Elements.{filter-append}
use Rattle.hmr_types.specs.declared.limits.TheConstants.{CLIENTS, LARGEST_CLIENT}
use Rattle.core_model.specs.Names.{Name}
use Rattle.core_model.specs.Sources.{Change, edit, result, changed_by, edit_answer, result_answer}
use Rattle.core_model.specs.Client.{Client, new_client}
use Rattle.core_model.specs.Requests.{Request, Reply, edited, settled, to_client, heard}
use Rattle.core_model.specs.Roots.{are_bad, roots_or}
use Rattle.update_msgs.specs.declared.message.ServerMsg.TheVariants as msg
use Rattle.core_model.specs.Core.{Core, Event, change, connect, request, disconnect, client_at, told_of, after_change, answer_change, is_full, if_room, connected, requested, disconnected, step, core_after, replay, replies}
use Rattle.core_model.proofs.Clients.{at_without, at_with, at_each}
use Rattle.core_laws.specs.Isolated.{concerns, without_others, replies_without_others, AreNumbered}
use Rattle.core_laws.proofs.Numbers.{length_with, length_new, length_without, map_there, step_numbered, numbered, next_absent}

-- One event leaves the records of other clients.

else_same : {X : Type 0} (b : Bool) (x o : Option X) → b ≡ false → (if b then x else o) ≡ o
else_same true x o e = absurd (false≢true (sym e))
else_same false x o e = refl

request_elsewhere : (o : Option Client) (i j : ℕ) (core : Core) (r : Request) → (i == j) ≡ false → client_at (requested o i core r).0.clients j ≡ client_at core.clients j
request_elsewhere None i j core r e = refl
request_elsewhere (Some c) i j core r e = at_with i (heard i core.sources c r).0 core.clients j ∙ else_same (i == j) (Some (heard i core.sources c r).0) (client_at core.clients j) e

disconnect_elsewhere : (o : Option Client) (i j : ℕ) (core : Core) → (i == j) ≡ false → client_at (disconnected o i core).0.clients j ≡ client_at core.clients j
disconnect_elsewhere None i j core e = refl
disconnect_elsewhere (Some c) i j core e = at_without i core.clients j ∙ else_same (i == j) None (client_at core.clients j) e

-- a request leaves the records of other clients
pub other_request : (roots : List Name) (core : Core) (i j : ℕ) (r : Request) → (i == j) ≡ false → client_at (step roots core (request i r)).0.clients j ≡ client_at core.clients j
other_request roots core i j r e = request_elsewhere (client_at core.clients i) i j core r e

-- and so does a client that goes
pub other_leaves : (roots : List Name) (core : Core) (i j : ℕ) → (i == j) ≡ false → client_at (step roots core (disconnect i)).0.clients j ≡ client_at core.clients j
other_leaves roots core i j e = disconnect_elsewhere (client_at core.clients i) i j core e

not_next : (core : Core) → AreNumbered core → (j : ℕ) → is_some (client_at core.clients j) ≡ true → (b : Bool) → (core.given + 1 == j) ≡ b → b ≡ false
not_next core n j h false e = refl
not_next core n j h true e = absurd (false≢true (sym (next_absent core n) ∙ ap (λ k. is_some (client_at core.clients k)) (eqb-true (core.given + 1) j e) ∙ h))

room_elsewhere : (full : Bool) (names : List Name) (core : Core) → AreNumbered core → (j : ℕ) → is_some (client_at core.clients j) ≡ true → client_at (if_room full names core).0.clients j ≡ client_at core.clients j
room_elsewhere true names core n j h = refl
room_elsewhere false names core n j h = at_with (core.given + 1) (new_client names core.sources.served_no) core.clients j ∙ else_same (core.given + 1 == j) (Some (new_client names core.sources.served_no)) (client_at core.clients j) (not_next core n j h (core.given + 1 == j) refl)

connect_elsewhere : (bad : Bool) (names : List Name) (core : Core) → AreNumbered core → (j : ℕ) → is_some (client_at core.clients j) ≡ true → client_at (connected bad names core).0.clients j ≡ client_at core.clients j
connect_elsewhere true names core n j h = refl
connect_elsewhere false names core n j h = room_elsewhere (is_full core) names core n j h

-- and so does one that comes
pub other_comes : (roots : List Name) (past : List Event) (names : List Name) (j : ℕ) → is_some (client_at (core_after roots past).clients j) ≡ true → client_at (core_after roots (connect names ∷ past)).clients j ≡ client_at (core_after roots past).clients j
other_comes roots past names j h = connect_elsewhere (are_bad names) (roots_or names roots) (core_after roots past) (numbered roots past) j h

-- Two cores that agree but for other clients' records.

record Agree (d : ℕ) (g h : Core) : Type 0 where
  sources : g.sources ≡ h.sources
  given : g.given ≡ h.given
  own : client_at g.clients d ≡ client_at h.clients d
  there : (i : ℕ) → is_some (client_at g.clients i) ≡ is_some (client_at h.clients i)
  many : length g.clients ≡ length h.clients

there_if : (b : Bool) (x y : Client) (o q : Option Client) → is_some o ≡ is_some q → is_some (if b then Some x else o) ≡ is_some (if b then Some y else q)
there_if true x y o q e = refl
there_if false x y o q e = e

none_if : (b : Bool) (o q : Option Client) → is_some o ≡ is_some q → is_some (if b then None else o) ≡ is_some (if b then None else q)
none_if true o q e = refl
none_if false o q e = e

full_same : (d : ℕ) (g h : Core) → Agree d g h → is_full g ≡ is_full h
full_same d g h a = ap (λ k. nat_le CLIENTS k || nat_le LARGEST_CLIENT g.given) a.many ∙ ap (λ k. nat_le CLIENTS (length h.clients) || nat_le LARGEST_CLIENT k) a.given

module _ (roots : List Name) (d : ℕ) (g h : Core) (a : Agree d g h) where
  change_answered : (ch : Change) → answer_change g ch ≡ answer_change h ch
  change_answered (edit n t) = ap (λ s. edited (edit_answer s n t)) a.sources
  change_answered (result n t o v) = ap (λ s. settled (result_answer s n t o v)) a.sources

  room_answered : (full : Bool) (names : List Name) → (if_room full names g).1 ≡ (if_room full names h).1
  room_answered true names = refl
  room_answered false names = ap (λ k. to_client (msg.Connected (k + 1) names)) a.given

  connect_answered : (bad : Bool) (names : List Name) → (connected bad names g).1 ≡ (connected bad names h).1
  connect_answered true names = refl
  connect_answered false names = room_answered (is_full g) names ∙ ap (λ b. (if_room b names h).1) (full_same d g h a)

  request_answered : (o : Option Client) (r : Request) → (requested o d g r).1 ≡ (requested o d h r).1
  request_answered None r = refl
  request_answered (Some c) r = ap (λ s. (heard d s c r).1) a.sources

  disconnect_answered : (o q : Option Client) (i : ℕ) → is_some o ≡ is_some q → (disconnected o i g).1 ≡ (disconnected q i h).1
  disconnect_answered None None i e = refl
  disconnect_answered None (Some c) i e = absurd (false≢true e)
  disconnect_answered (Some c) None i e = absurd (false≢true (sym e))
  disconnect_answered (Some c) (Some k) i e = refl

  own_answered : (i : ℕ) (r : Request) → i ≡ d → (step roots g (request i r)).1 ≡ (step roots h (request i r)).1
  own_answered i r e = ap (λ k. (step roots g (request k r)).1) e ∙ request_answered (client_at g.clients d) r ∙ ap (λ o. (requested o d h r).1) a.own ∙ ap (λ k. (step roots h (request k r)).1) (sym e)

  same_reply : (event : Event) → concerns d event ≡ true → (step roots g event).1 ≡ (step roots h event).1
  same_reply (change ch) t = change_answered ch
  same_reply (connect names) t = connect_answered (are_bad names) (roots_or names roots)
  same_reply (request i r) t = own_answered i r (eqb-true i d t)
  same_reply (disconnect i) t = disconnect_answered (client_at g.clients i) (client_at h.clients i) i (a.there i)

  both_change : (ch : Change) → Agree d (after_change g ch) (after_change h ch)
  both_change ch = record {
    sources = ap (λ s. changed_by s ch) a.sources;
    given = a.given;
    own = at_each (told_of g.sources ch) g.clients d ∙ ap (λ s. option_map (told_of s ch) (client_at g.clients d)) a.sources ∙ ap (option_map (told_of h.sources ch)) a.own ∙ sym (at_each (told_of h.sources ch) h.clients d);
    there = λ i. ap is_some (at_each (told_of g.sources ch) g.clients i) ∙ map_there (told_of g.sources ch) (client_at g.clients i) ∙ a.there i ∙ sym (ap is_some (at_each (told_of h.sources ch) h.clients i) ∙ map_there (told_of h.sources ch) (client_at h.clients i));
    many = length-map g.clients (λ row. (row.0, told_of g.sources ch row.1)) ∙ a.many ∙ sym (length-map h.clients (λ row. (row.0, told_of h.sources ch row.1)));
  }

  module _ (ng : AreNumbered g) where
    other_step : (i : ℕ) (r : Request) → (i == d) ≡ false → (o : Option Client) → client_at g.clients i ≡ o → Agree d (requested o i g r).0 h
    other_step i r e None f = a
    other_step i r e (Some c) f = record {
      sources = a.sources;
      given = a.given;
      own = request_elsewhere (Some c) i d g r e ∙ a.own;
      there = λ j. ap is_some (at_with i new g.clients j) ∙ there_still j (i == j) (eqb-true i j) ∙ a.there j;
      many = length_with i new g.clients (ap is_some f) ∙ a.many;
    }
      where
        new : Client
        new = (heard i g.sources c r).0

        there_still : (j : ℕ) (b : Bool) → (b ≡ true → i ≡ j) → is_some (if b then Some new else client_at g.clients j) ≡ is_some (client_at g.clients j)
        there_still j true q = sym (ap (λ k. is_some (client_at g.clients k)) (sym (q refl)) ∙ ap is_some f)
        there_still j false q = refl

    module _ (nh : AreNumbered h) where
      both_admitted : (full : Bool) (names : List Name) → Agree d (if_room full names g).0 (if_room full names h).0
      both_admitted true names = a
      both_admitted false names = record {
        sources = a.sources;
        given = ap (λ k. k + 1) a.given;
        own = at_with (g.given + 1) (new_client names g.sources.served_no) g.clients d
            ∙ ap (λ k. if k + 1 == d then Some (new_client names g.sources.served_no) else client_at g.clients d) a.given
            ∙ ap (λ s. if h.given + 1 == d then Some (new_client names s.served_no) else client_at g.clients d) a.sources
            ∙ ap (λ o. if h.given + 1 == d then Some (new_client names h.sources.served_no) else o) a.own
            ∙ sym (at_with (h.given + 1) (new_client names h.sources.served_no) h.clients d);
        there = λ i. ap is_some (at_with (g.given + 1) (new_client names g.sources.served_no) g.clients i)
            ∙ ap (λ k. is_some (if k + 1 == i then Some (new_client names g.sources.served_no) else client_at g.clients i)) a.given
            ∙ there_if (h.given + 1 == i) (new_client names g.sources.served_no) (new_client names h.sources.served_no) (client_at g.clients i) (client_at h.clients i) (a.there i)
            ∙ sym (ap is_some (at_with (h.given + 1) (new_client names h.sources.served_no) h.clients i));
        many = length_new (g.given + 1) (new_client names g.sources.served_no) g.clients (next_absent g ng) ∙ ap suc a.many ∙ sym (length_new (h.given + 1) (new_client names h.sources.served_no) h.clients (next_absent h nh));
      }

      both_connect : (bad : Bool) (names : List Name) → Agree d (connected bad names g).0 (connected bad names h).0
      both_connect true names = a
      both_connect false names = subst (λ b. Agree d (if_room (is_full g) names g).0 (if_room b names h).0) (full_same d g h a) (both_admitted (is_full g) names)

      both_request : (r : Request) (o : Option Client) → client_at g.clients d ≡ o → client_at h.clients d ≡ o → Agree d (requested o d g r).0 (requested o d h r).0
      both_request r None e f = a
      both_request r (Some c) e f = record {
        sources = a.sources;
        given = a.given;
        own = at_with d (heard d g.sources c r).0 g.clients d
            ∙ ap (λ s. if d == d then Some (heard d s c r).0 else client_at g.clients d) a.sources
            ∙ ap (λ o. if d == d then Some (heard d h.sources c r).0 else o) a.own
            ∙ sym (at_with d (heard d h.sources c r).0 h.clients d);
        there = λ i. ap is_some (at_with d (heard d g.sources c r).0 g.clients i)
            ∙ there_if (d == i) (heard d g.sources c r).0 (heard d h.sources c r).0 (client_at g.clients i) (client_at h.clients i) (a.there i)
            ∙ sym (ap is_some (at_with d (heard d h.sources c r).0 h.clients i));
        many = length_with d (heard d g.sources c r).0 g.clients (ap is_some e) ∙ a.many ∙ sym (length_with d (heard d h.sources c r).0 h.clients (ap is_some f));
      }

      own_request : (r : Request) → Agree d (step roots g (request d r)).0 (step roots h (request d r)).0
      own_request r = subst (λ o. Agree d (requested (client_at g.clients d) d g r).0 (requested o d h r).0) a.own (both_request r (client_at g.clients d) refl (sym a.own))

      both_leave : (i : ℕ) (o q : Option Client) → client_at g.clients i ≡ o → client_at h.clients i ≡ q → is_some o ≡ is_some q → Agree d (disconnected o i g).0 (disconnected q i h).0
      both_leave i None None e f t = a
      both_leave i None (Some c) e f t = absurd (false≢true t)
      both_leave i (Some c) None e f t = absurd (false≢true (sym t))
      both_leave i (Some c) (Some k) e f t = record {
        sources = a.sources;
        given = a.given;
        own = at_without i g.clients d ∙ ap (λ o. if i == d then None else o) a.own ∙ sym (at_without i h.clients d);
        there = λ j. ap is_some (at_without i g.clients j) ∙ none_if (i == j) (client_at g.clients j) (client_at h.clients j) (a.there j) ∙ sym (ap is_some (at_without i h.clients j));
        many = omega (arith, length_without i g.clients (ng.once i) (ap is_some e), length_without i h.clients (nh.once i) (ap is_some f), a.many);
      }

      both_step : (event : Event) → concerns d event ≡ true → Agree d (step roots g event).0 (step roots h event).0
      both_step (change ch) t = both_change ch
      both_step (connect names) t = both_connect (are_bad names) (roots_or names roots)
      both_step (request i r) t = subst (λ k. Agree d (step roots g (request k r)).0 (step roots h (request k r)).0) (sym (eqb-true i d t)) (own_request r)
      both_step (disconnect i) t = both_leave i (client_at g.clients i) (client_at h.clients i) refl refl (a.there i)

    one_step : (event : Event) → concerns d event ≡ false → Agree d (step roots g event).0 h
    one_step (change ch) t = absurd (false≢true (sym t))
    one_step (connect names) t = absurd (false≢true (sym t))
    one_step (request i r) t = other_step i r t (client_at g.clients i) refl
    one_step (disconnect i) t = absurd (false≢true (sym t))

agree_on : (roots : List Name) (d : ℕ) (event : Event) (past left : List Event) → Agree d (core_after roots past) (core_after roots left) → (b : Bool) → concerns d event ≡ b → Agree d (core_after roots (event ∷ past)) (core_after roots (cond b (event ∷ left) left))
agree_on roots d event past left a true t = both_step roots d (core_after roots past) (core_after roots left) a (numbered roots past) (numbered roots left) event t
agree_on roots d event past left a false t = one_step roots d (core_after roots past) (core_after roots left) a (numbered roots past) event t

agree : (roots : List Name) (d : ℕ) (past : List Event) → Agree d (core_after roots past) (core_after roots (without_others d past))
agree roots d [] = record { sources = refl; given = refl; own = refl; there = λ i. refl; many = refl }
agree roots d (event ∷ past) = agree_on roots d event past (without_others d past) (agree roots d past) (concerns d event) refl

-- without other clients' requests the record is the same
pub same_record : (roots : List Name) (d : ℕ) (past : List Event) → client_at (core_after roots (without_others d past)).clients d ≡ client_at (core_after roots past).clients d
same_record roots d past = sym (agree roots d past).own

pub same_sources : (roots : List Name) (d : ℕ) (past : List Event) → (core_after roots (without_others d past)).sources ≡ (core_after roots past).sources
same_sources roots d past = sym (agree roots d past).sources

pub same_after : (roots : List Name) (d : ℕ) (past : List Event) (event : Event) → concerns d event ≡ true → (step roots (core_after roots (without_others d past)) event).1 ≡ (step roots (core_after roots past) event).1
same_after roots d past event t = sym (same_reply roots d (core_after roots past) (core_after roots (without_others d past)) (agree roots d past) event t)

replies_on : (roots : List Name) (d : ℕ) (g h : Core) (event : Event) (left : List Event) (more : List Reply) → (b : Bool) → concerns d event ≡ b → Agree d g h → AreNumbered g → AreNumbered h → ((k : Core) → Agree d (step roots g event).0 k → AreNumbered k → more ≡ replies roots k left) → (if b then (step roots g event).1 ∷ more else more) ≡ replies roots h (cond b (event ∷ left) left)
replies_on roots d g h event left more true t a ng nh f = ap (λ reply. reply ∷ more) (same_reply roots d g h a event t) ∙ ap (λ rest. (step roots h event).1 ∷ rest) (f (step roots h event).0 (both_step roots d g h a ng nh event t) (step_numbered roots h event nh))
replies_on roots d g h event left more false t a ng nh f = f h (one_step roots d g h a ng event t) nh

replies_agree : (roots : List Name) (d : ℕ) (g h : Core) (events : List Event) → Agree d g h → AreNumbered g → AreNumbered h → replies_without_others d roots g events ≡ replies roots h (without_others d events)
replies_agree roots d g h [] a ng nh = refl
replies_agree roots d g h (event ∷ events) a ng nh = replies_on roots d g h event (without_others d events) (replies_without_others d roots (step roots g event).0 events) (concerns d event) refl a ng nh (λ k b nk. replies_agree roots d (step roots g event).0 k events b (step_numbered roots g event ng) nk)

-- and so are the replies
pub same_replies : (roots : List Name) (d : ℕ) (core : Core) (events : List Event) → AreNumbered core → replies roots core (without_others d events) ≡ replies_without_others d roots core events
same_replies roots d core events n = sym (replies_agree roots d core core events (record { sources = refl; given = refl; own = refl; there = λ i. refl; many = refl }) n n)

-- In the order of the events.

filter_step : {X : Type 0} (x : X) (b : Bool) (rest : List X) → reverse rest ++ cond b (x ∷ []) [] ≡ reverse (cond b (x ∷ rest) rest)
filter_step x true rest = sym (reverse-append (x ∷ []) rest)
filter_step x false rest = append-nil (reverse rest)

filter_reversed : {X : Type 0} (p : X → Bool) (xs : List X) → filter p (reverse xs) ≡ reverse (filter p xs)
filter_reversed p [] = refl
filter_reversed p (x ∷ xs) = ap (filter p) (reverse-append (x ∷ []) xs) ∙ filter-append p (reverse xs) (x ∷ []) ∙ ap (λ l. l ++ cond (p x) (x ∷ []) []) (filter_reversed p xs) ∙ filter_step x (p x) (filter p xs)

pub same_replay : (roots : List Name) (d : ℕ) (events : List Event) → client_at (replay roots (without_others d events)).clients d ≡ client_at (replay roots events).clients d
same_replay roots d events = ap (λ past. client_at (core_after roots past).clients d) (sym (filter_reversed (concerns d) events)) ∙ same_record roots d (reverse events)
