-- Leaving out the turns, the looks and the events of all clients but one changes nothing for that one: the
-- cores of the two runs are those of events with and without the others' requests, and the jobs, the client
-- itself and what came to it are the same.
use Rattle.std.proofs.Common.{◌≡◌, ℕ, Bool, true, false, List, [], ◌∷◌, refl, ap, sym, ◌∙◌}
use Rattle.std.specs.Prelude.{◌==◌, not, cond, filter, find, Option, Some, None, is_some, if◌then◌else◌}
use Rattle.std.proofs.Math.Path.{subst}
use Rattle.std.proofs.lemmas.Bool.{false≢true, eqb-true, eq-eqb}
use Rattle.hmr_types.specs.declared.value.Value.{Value}
use Rattle.output_lines.specs.declared.out_line.OutLine.{OutLine}
use Rattle.update_msgs.specs.declared.message.ClientMsg.{ClientMsg}
use Rattle.update_msgs.specs.declared.message.ClientMsg.TheVariants as told
use Rattle.update_msgs.specs.declared.message.ServerMsg.{ServerMsg}
use Rattle.core_model.specs.Names.{Name}
use Rattle.core_model.specs.Sources.{Text, edit, result}
use Rattle.core_model.specs.Client.{Client}
use Rattle.core_model.specs.Requests.{Reply}
use Rattle.core_model.specs.Core.{Core, Event, change, connect, disconnect, client_at, with_client, step, core_after}
use Rattle.core_model.specs.Exchange.{event_of, message_for}
use Rattle.core_model.proofs.Clients.{at_with, at_without}
use Rattle.core_laws.specs.Isolated as isolated
use Rattle.core_laws.proofs.Isolation.{same_record, same_sources, same_after}
use Rattle.client_model.specs.Requesting as requesting
use Rattle.client_model.specs.Firing.{fire}
use Rattle.client_model.specs.Runtime.{Runtime, Opening, new_runtime}
use Rattle.client_model.specs.Past.{event}
use Rattle.module_language.specs.ModuleLanguage.{module_language}
use Rattle.world_model.specs.World.{Job, World, Step, Stepped, edits, settles, opens, turn, closes, show, values, fates, fresh, fresh_of, fires}
use Rattle.world_model.specs.Editing.{is_job, settle_job, jobs_after}
use Rattle.world_model.specs.Steps.{world_step, world_after}
use Rattle.world_model.specs.Ties.{WentOn, AreTied, TiedAt}
use Rattle.world_model.specs.Turning.{turn_of, close_of, shown, fire_of, opened_by, opening_of, connected_as, take_some, lines_taken}
use Rattle.world_model.proofs.Tying.{run_sound}
use Rattle.world_laws.specs.Runs.{Run, world_of, HasClient}
use Rattle.world_laws.specs.Taken.{Life, life_of, lived_in, in_turn, in_open, in_fire, message_too}
use Rattle.world_laws.proofs.TurnsTaken.{IsRequest}
use Rattle.journal_laws.specs.LeftOut.{concerns, alone, IsSameAlone}
use Rattle.journal_laws.proofs.Isolation.{else_same, asks}

kept_first : {X : Type 0} (b : Bool) (x : X) (xs : List X) → b ≡ true → cond b (x ∷ xs) xs ≡ x ∷ xs
kept_first true x xs e = refl
kept_first false x xs e = absurd (false≢true e)

left_first : {X : Type 0} (b : Bool) (x : X) (xs : List X) → b ≡ false → cond b (x ∷ xs) xs ≡ xs
left_first true x xs e = absurd (false≢true (sym e))
left_first false x xs e = refl

module _ (roots : List Name) (shelves : List (List (Text × ℕ))) (d : ℕ) where
  -- a core of some events, and one of these without the others' requests
  record Cores (core left : Core) : Type 0 where
    events : List Event
    made : core ≡ core_after roots events
    without : left ≡ core_after roots (isolated.without_others d events)

  both : (g h : Core) → Cores g h → (e : Event) → isolated.concerns d e ≡ true
      → Cores (step roots g e).0 (step roots h e).0
  both g h k e t = record {
    events = e ∷ k.events;
    made = ap (λ c. (step roots c e).0) k.made;
    without = ap (λ c. (step roots c e).0) k.without ∙ sym (ap (core_after roots) (kept_first
        (isolated.concerns d e) e (isolated.without_others d k.events) t));
  }

  one : (g h : Core) → Cores g h → (e : Event) → isolated.concerns d e ≡ false → Cores (step roots g e).0 h
  one g h k e t = record {
    events = e ∷ k.events;
    made = ap (λ c. (step roots c e).0) k.made;
    without = k.without ∙ sym (ap (core_after roots) (left_first (isolated.concerns d e) e
        (isolated.without_others d k.events) t));
  }

  replied : (g h : Core) → Cores g h → (e : Event) → isolated.concerns d e ≡ true
      → (step roots h e).1 ≡ (step roots g e).1
  replied g h k e t = ap (λ c. (step roots c e).1) k.without ∙ same_after roots d k.events e t
      ∙ ap (λ c. (step roots c e).1) (sym k.made)

  -- the two worlds are the same to client d, and so is what came to it
  record Alike (w v : World) (p q : Life) : Type 0 where
    cores : Cores w.core v.core
    issued : v.issued ≡ w.issued
    own : client_at v.clients d ≡ client_at w.clients d
    there : (i : ℕ) → is_some (client_at v.clients i) ≡ is_some (client_at w.clients i)
    life : q ≡ p

  -- a request, by what is asked
  asked_of : (i : ℕ) (b : Bool) → (i == d) ≡ b → (asked : ClientMsg) → IsRequest asked
      → isolated.concerns d (event_of i asked) ≡ b
  asked_of i b e (told.Hello format names) is = absurd is
  asked_of i b e told.Ask is = e
  asked_of i b e (told.Fetch n) is = e
  asked_of i b e (told.Applied table) is = e
  asked_of i b e (told.Aborted cause n from x) is = e
  asked_of i b e (told.Invalidate n v message) is = e
  asked_of i b e told.Bye is = absurd is

  some_if : (b : Bool) (x y : Runtime) (o u : Option Runtime) → is_some o ≡ is_some u
      → is_some (if b then Some x else o) ≡ is_some (if b then Some y else u)
  some_if true x y o u e = refl
  some_if false x y o u e = e

  none_if : (b : Bool) (o u : Option Runtime) → is_some o ≡ is_some u
      → is_some (if b then None else o) ≡ is_some (if b then None else u)
  none_if true o u e = refl
  none_if false o u e = e

  module _ (w v : World) (p q : Life) (a : Alike w v p q) where
    with_own : (k : ℕ) (x y : Runtime) → y ≡ x → client_at (with_client k y v.clients) d ≡ client_at
        (with_client k x w.clients) d
    with_own k x y e = at_with k y v.clients d ∙ ap (λ z. if k == d then Some z else client_at v.clients d) e
        ∙ ap (λ o. if k == d then Some x else o) a.own ∙ sym (at_with k x w.clients d)

    with_there : (k : ℕ) (x y : Runtime) (i : ℕ) → is_some (client_at (with_client k y v.clients) i) ≡ is_some
        (client_at (with_client k x w.clients) i)
    with_there k x y i = ap is_some (at_with k y v.clients i)
        ∙ some_if (k == i) y x (client_at v.clients i) (client_at w.clients i) (a.there i)
        ∙ sym (ap is_some (at_with k x w.clients i))

    -- Steps that stay.

    edited : (n : Name) (t : Option Text) → Alike (world_step module_language roots shelves w
        (edits n t)).world (world_step module_language roots shelves v (edits n t)).world p q
    edited n t =
        let e : Event = change (edit n t) in
        record {
          cores = both w.core v.core a.cores e refl;
          issued = ap (λ x. jobs_after n t x v.issued) (replied w.core v.core a.cores e refl)
              ∙ ap (jobs_after n t (step roots w.core e).1) a.issued;
          own = a.own;
          there = a.there;
          life = a.life;
        }

    settled_by : (n : Name) (k : ℕ) (o : Option Job) → Alike (settle_job module_language roots n k w o).world
        (settle_job module_language roots n k v o).world p q
    settled_by n k None = a
    settled_by n k (Some j) = record {
      cores = both w.core v.core a.cores (change (result n j.text (module_language.transformed n j.text) k)) refl;
      issued = ap (filter (λ x. not (is_job n k x))) a.issued;
      own = a.own;
      there = a.there;
      life = a.life;
    }

    settled : (n : Name) (k : ℕ) → Alike (world_step module_language roots shelves w (settles n k)).world
        (world_step module_language roots shelves v (settles n k)).world p q
    settled n k = subst (λ jobs. Alike (settle_job module_language roots n k w (find
        (is_job n k) w.issued)).world (settle_job module_language roots n k v (find
        (is_job n k) jobs)).world p q) (sym a.issued) (settled_by n k (find (is_job n k) w.issued))

    opened_as : (format : ℕ) (names : List Name) (g h : Core × Reply) → Cores g.0 h.0 → h.1 ≡ g.1 → (o : Option ℕ)
        → Alike (opened_by module_language shelves format names w g o).world
        (opened_by module_language shelves format names v h o).world (in_open shelves format names
        (message_for format g.1) o d p) (in_open shelves format names (message_for format h.1) o d q)
    opened_as format names g h k e None = record { cores = k; issued = a.issued; own = a.own; there = a.there; life = a.life }
    opened_as format names g h k e (Some i) =
        let opening : Opening = opening_of shelves format names i in
        let m : Option ServerMsg = message_for format g.1 in
        let same : message_for format h.1 ≡ m = ap (message_for format) e in
        let new : Option ServerMsg → Runtime = λ x. (take_some module_language (new_runtime opening) x).after in
        record {
          cores = k;
          issued = a.issued;
          own = with_own i (new m) (new (message_for format h.1)) (ap new same);
          there = with_there i (new m) (new (message_for format h.1));
          life = ap (λ x. if i == d then record { opening = opening; past = message_too x [] } else q) same
              ∙ ap (λ l. if i == d then record { opening = opening; past = message_too m [] } else l) a.life;
        }

    opened : (format : ℕ) (names : List Name) → Alike (world_step module_language roots shelves w
        (opens format names)).world (world_step module_language roots shelves v (opens format names)).world
        (lived_in module_language roots shelves w (opens format names) d p)
        (lived_in module_language roots shelves v (opens format names) d q)
    opened format names =
        let e : Event = connect names in
        let same : (step roots v.core e).1 ≡ (step roots w.core e).1 = replied w.core v.core a.cores e refl in
        let number : Reply → Option ℕ = λ x. connected_as (message_for format x) in
        subst (λ o. Alike (opened_by module_language shelves format names w (step roots w.core e) (number
        (step roots w.core e).1)).world (opened_by module_language shelves format names v
        (step roots v.core e) o).world (in_open shelves format names (message_for format
        (step roots w.core e).1) (number (step roots w.core e).1) d p) (in_open shelves format names
        (message_for format (step roots v.core e).1) o d q))
        (sym (ap number same))
        (opened_as format names (step roots w.core e) (step roots v.core e)
        (both w.core v.core a.cores e refl) same (number (step roots w.core e).1))

    closed : (i : ℕ) (o u : Option Runtime) → is_some u ≡ is_some o
        → Alike (close_of roots i w o).world (close_of roots i v u).world p q
    closed i None None e = a
    closed i None (Some s) e = absurd (false≢true (sym e))
    closed i (Some r) None e = absurd (false≢true e)
    closed i (Some r) (Some s) e = record {
      cores = both w.core v.core a.cores (disconnect i) refl;
      issued = a.issued;
      own = at_without i v.clients d ∙ ap (λ o. if i == d then None else o) a.own ∙ sym (at_without i w.clients d);
      there = λ j. ap is_some (at_without i v.clients j)
          ∙ none_if (i == j) (client_at v.clients j) (client_at w.clients j) (a.there j)
          ∙ sym (ap is_some (at_without i w.clients j));
      life = a.life;
    }

    looked : (i : ℕ) (f g : Runtime → List OutLine) (o u : Option Runtime)
        → Alike (shown i w f o).world (shown i v g u).world p q
    looked i f g None None = a
    looked i f g None (Some s) = a
    looked i f g (Some r) None = a
    looked i f g (Some r) (Some s) = a

    glanced : (i : ℕ) (f : Runtime → List OutLine) (o : Option Runtime) → Alike (shown i w f o).world v p q
    glanced i f None = a
    glanced i f (Some r) = a

    -- a turn of client d itself, with its lines
    record Turns (sw sv : Stepped) (pw pv : Life) : Type 0 where
      alike : Alike sw.world sv.world pw pv
      lines : is_some sw.lines ≡ true → is_some sv.lines ≡ true

    own_turn : (o : Option Runtime) → TiedAt d (client_at w.core.clients d) o
        → Turns (turn_of module_language roots d w o) (turn_of module_language roots d v o)
        (in_turn module_language roots w d o d p) (in_turn module_language roots v d o d q)
    own_turn None t = record { alike = a; lines = λ e. refl }
    own_turn (Some r) t =
        let asked : ClientMsg = requesting.request module_language r in
        let e : Event = event_of d asked in
        let mine : isolated.concerns d e ≡ true = asked_of d true (eq-eqb d d refl) asked (asks d
        (client_at w.core.clients d) r t) in
        let m : Option ServerMsg = message_for r.format (step roots w.core e).1 in
        let k : Option ServerMsg = message_for r.format (step roots v.core e).1 in
        let same : k ≡ m = ap (message_for r.format) (replied w.core v.core a.cores e mine) in
        let new : Option ServerMsg → Runtime = λ x. (take_some module_language r x).after in
        record {
          alike = record {
            cores = both w.core v.core a.cores e mine;
            issued = a.issued;
            own = with_own d (new m) (new k) (ap new same);
            there = with_there d (new m) (new k);
            life = ap (λ x. if d == d then record q { past = message_too x q.past } else q) same
                ∙ ap (λ (l : Life). if d == d then record l { past = message_too m l.past } else l) a.life;
          };
          lines = λ h. ap (λ x. is_some (lines_taken (take_some module_language r x).answer)) same ∙ h;
        }

    own_event : (n : Name) (value : Value) (o : Option Runtime)
        → Alike (fire_of module_language d n value w o).world (fire_of module_language d n value v o).world
        (in_fire d n value o d p) (in_fire d n value o d q)
    own_event n value None = a
    own_event n value (Some r) =
        let new : Runtime = (fire module_language n value r).after in
        record {
          cores = a.cores;
          issued = a.issued;
          own = with_own d new new refl;
          there = with_there d new new;
          life = ap (λ (l : Life). if d == d then record l { past = event n value ∷ l.past } else l) a.life;
        }

    -- Steps that are left out.

    still_there : (i j : ℕ) (x : Runtime) → is_some (client_at w.clients i) ≡ true → (b : Bool) → (b ≡ true
        → i ≡ j) → is_some (client_at w.clients j) ≡ is_some (if b then Some x else client_at w.clients j)
    still_there i j x h true e = ap (λ k. is_some (client_at w.clients k)) (sym (e refl)) ∙ h
    still_there i j x h false e = refl

    put_there : (i : ℕ) (x : Runtime) → is_some (client_at w.clients i) ≡ true → (j : ℕ)
        → is_some (client_at v.clients j) ≡ is_some (client_at (with_client i x w.clients) j)
    put_there i x h j = a.there j ∙ still_there i j x h (i == j) (eqb-true i j)
        ∙ sym (ap is_some (at_with i x w.clients j))

    put_aside : (i : ℕ) (x : Runtime) → (i == d) ≡ false
        → client_at v.clients d ≡ client_at (with_client i x w.clients) d
    put_aside i x other = a.own ∙ sym (at_with i x w.clients d
        ∙ else_same (i == d) (Some x) (client_at w.clients d) other)

    other_turn : (i : ℕ) → (i == d) ≡ false → (o : Option Runtime) → client_at w.clients i ≡ o
        → TiedAt i (client_at w.core.clients i) o → Alike (turn_of module_language roots i w o).world v
        (in_turn module_language roots w i o d p) q
    other_turn i other None e t = a
    other_turn i other (Some r) e t =
        let asked : ClientMsg = requesting.request module_language r in
        let new : Runtime = (take_some module_language r (message_for r.format (step roots w.core
        (event_of i asked)).1)).after in
        record {
          cores = one w.core v.core a.cores (event_of i asked) (asked_of i false other asked (asks i
              (client_at w.core.clients i) r t));
          issued = a.issued;
          own = put_aside i new other;
          there = put_there i new (ap is_some e);
          life = a.life ∙ sym (else_same (i == d) _ p other);
        }

    other_event : (i : ℕ) (n : Name) (value : Value) → (i == d) ≡ false → (o : Option Runtime)
        → client_at w.clients i ≡ o → Alike (fire_of module_language i n value w o).world v
        (in_fire i n value o d p) q
    other_event i n value other None e = a
    other_event i n value other (Some r) e =
        let new : Runtime = (fire module_language n value r).after in
        record {
          cores = a.cores;
          issued = a.issued;
          own = put_aside i new other;
          there = put_there i new (ap is_some e);
          life = a.life ∙ sym (else_same (i == d) _ p other);
        }

  -- Steps.

  abbrev stepped_in : World → Step → Stepped
  stepped_in w s = world_step module_language roots shelves w s

  abbrev lived : World → Step → Life → Life
  lived w s p = lived_in module_language roots shelves w s d p

  settle_lines : (n : Name) (k : ℕ) (v : World) (o : Option Job)
      → is_some (settle_job module_language roots n k v o).lines ≡ true
  settle_lines n k v None = refl
  settle_lines n k v (Some j) = refl

  open_lines : (format : ℕ) (names : List Name) (v : World) (after : Core × Reply) (o : Option ℕ)
      → is_some (opened_by module_language shelves format names v after o).lines ≡ true
  open_lines format names v after None = refl
  open_lines format names v after (Some i) = refl

  close_lines : (i : ℕ) (v : World) (o : Option Runtime) → is_some (close_of roots i v o).lines ≡ true
  close_lines i v None = refl
  close_lines i v (Some r) = refl

  show_lines : (i : ℕ) (v : World) (f : Runtime → List OutLine) (o : Option Runtime)
      → is_some (shown i v f o).lines ≡ true
  show_lines i v f None = refl
  show_lines i v f (Some r) = refl

  fire_lines : (i : ℕ) (n : Name) (value : Value) (v : World) (o : Option Runtime)
      → is_some (fire_of module_language i n value v o).lines ≡ true
  fire_lines i n value v None = refl
  fire_lines i n value v (Some r) = refl

  module _ (w v : World) (p q : Life) (a : Alike w v p q) (tied : AreTied w) where
    turned : (i : ℕ) → i ≡ d → Turns w v p q a (stepped_in w (turn i)) (stepped_in v (turn i)) (lived w
        (turn i) p) (lived v (turn i) q)
    turned i e =
        subst (λ k. Turns w v p q a (stepped_in w (turn k)) (stepped_in v (turn k)) (lived w (turn k) p)
        (lived v (turn k) q)) (sym e)
        (subst (λ o. Turns w v p q a (turn_of module_language roots d w (client_at w.clients d))
        (turn_of module_language roots d v o) (in_turn module_language roots w d
        (client_at w.clients d) d p) (in_turn module_language roots v d o d q)) (sym a.own)
        (own_turn w v p q a (client_at w.clients d) (tied d)))

    heard : (i : ℕ) (n : Name) (value : Value) → i ≡ d
        → Alike (stepped_in w (fires i n value)).world (stepped_in v (fires i n value)).world (lived w
        (fires i n value) p) (lived v (fires i n value) q)
    heard i n value e =
        subst (λ k. Alike (stepped_in w (fires k n value)).world (stepped_in v (fires k n value)).world
        (lived w (fires k n value) p) (lived v (fires k n value) q)) (sym e)
        (subst (λ o. Alike (fire_of module_language d n value w (client_at w.clients d)).world
        (fire_of module_language d n value v o).world (in_fire d n value (client_at w.clients d) d p)
        (in_fire d n value o d q)) (sym a.own)
        (own_event w v p q a n value (client_at w.clients d)))

    stays : (s : Step) → concerns d s ≡ true → Turns w v p q a (stepped_in w s) (stepped_in v s) (lived w s p)
        (lived v s q)
    stays (edits n t) c = record { alike = edited w v p q a n t; lines = λ e. refl }
    stays (settles n k) c = record {
      alike = settled w v p q a n k;
      lines = λ e. settle_lines n k v (find
          (is_job n k) v.issued);
    }
    stays (opens format names) c = record {
      alike = opened w v p q a format names;
      lines = λ e. open_lines format names v
          (step roots v.core (connect names)) (connected_as (message_for format (step roots v.core
          (connect names)).1));
    }
    stays (turn i) c = turned i (eqb-true i d c)
    stays (closes i) c = record {
      alike = closed w v p q a i (client_at w.clients i) (client_at v.clients i)
          (a.there i);
      lines = λ e. close_lines i v (client_at v.clients i);
    }
    stays (show i) c = record {
      alike = looked w v p q a i _ _ (client_at w.clients i)
          (client_at v.clients i);
      lines = λ e. show_lines i v _ (client_at v.clients i);
    }
    stays (values i) c = record {
      alike = looked w v p q a i _ _ (client_at w.clients i)
          (client_at v.clients i);
      lines = λ e. show_lines i v _ (client_at v.clients i);
    }
    stays (fates i) c = record {
      alike = looked w v p q a i _ _ (client_at w.clients i)
          (client_at v.clients i);
      lines = λ e. show_lines i v _ (client_at v.clients i);
    }
    stays fresh c = record { alike = a; lines = λ e. refl }
    stays (fresh_of i) c = record {
      alike = looked w v p q a i _ _ (client_at w.clients i)
          (client_at v.clients i);
      lines = λ e. show_lines i v _ (client_at v.clients i);
    }
    stays (fires i n value) c = record {
      alike = heard i n value
          (eqb-true i d c);
      lines = λ e. fire_lines i n value v (client_at v.clients i);
    }

    goes : (s : Step) → concerns d s ≡ false → Alike (stepped_in w s).world v (lived w s p) q
    goes (edits n t) c = absurd (false≢true (sym c))
    goes (settles n k) c = absurd (false≢true (sym c))
    goes (opens format names) c = absurd (false≢true (sym c))
    goes (turn i) c = other_turn w v p q a i c (client_at w.clients i) refl (tied i)
    goes (closes i) c = absurd (false≢true (sym c))
    goes (show i) c = glanced w v p q a i _ (client_at w.clients i)
    goes (values i) c = glanced w v p q a i _ (client_at w.clients i)
    goes (fates i) c = glanced w v p q a i _ (client_at w.clients i)
    goes fresh c = absurd (false≢true (sym c))
    goes (fresh_of i) c = glanced w v p q a i _ (client_at w.clients i)
    goes (fires i n value) c = other_event w v p q a i n value c (client_at w.clients i) refl

  -- Runs.

  abbrev world : List Step → World
  world past = world_after module_language roots shelves past

  abbrev life_by : List Step → Life
  life_by past = life_of module_language roots shelves past d

  record Follow (past left : List Step) : Type 0 where
    alike : Alike (world past) (world left) (life_by past) (life_by left)
    went : WentOn module_language roots shelves left

  follow : (past : List Step) → WentOn module_language roots shelves past → Follow past (filter (concerns d) past)
  follow [] went = record { alike = record { cores = record { events = []; made = refl; without = refl }; issued = refl; own = refl; there = λ i. refl; life = refl }; went = tt }
  follow (s ∷ past) went = by (concerns d s) refl (follow past went.1)
    where
      tied : AreTied (world past)
      tied = (run_sound module_language roots shelves past went.1).tied

      by : (b : Bool) → concerns d s ≡ b → Follow past (filter (concerns d) past)
          → Follow (s ∷ past) (cond b (s ∷ filter (concerns d) past) (filter (concerns d) past))
      by true e f =
          let left : List Step = filter (concerns d) past in
          let both_step = stays (world past) (world left) (life_by past) (life_by left) f.alike tied s e in
          record { alike = both_step.alike; went = (both_step.lines went.0, f.went) }
      by false e f = record {
        alike = goes (world past) (world (filter (concerns d) past)) (life_by past)
            (life_by (filter (concerns d) past)) f.alike tied s e;
        went = f.went;
      }

pub same_alone : (run : Run) (d : ℕ) (c : Client) (r : Runtime) → HasClient run d c r → IsSameAlone run d c r
same_alone run d c r h =
    let f : Follow run.roots run.shelves d run.steps
    (alone d run).steps = follow run.roots run.shelves d run.steps h.went in
    let k : Cores run.roots run.shelves d (world_of run).core (world_of (alone d run)).core = f.alike.cores in
    let e : Event = event_of d (requesting.request module_language r) in
    let tie : TiedAt d (client_at (world_of run).core.clients d) (Some r) = subst (TiedAt d (client_at
    (world_of run).core.clients d)) h.is_open.open_is
    ((run_sound module_language run.roots run.shelves run.steps h.went).tied d) in
    let record_is : client_at (world_of (alone d run)).core.clients d ≡ client_at
    (world_of run).core.clients d = ap (λ (x : Core). client_at x.clients d) k.without
    ∙ same_record run.roots d k.events ∙ ap (λ (x : Core). client_at x.clients d) (sym k.made) in
    record {
      client = record {
        went = f.went;
        is_open = record {
          connected = record_is
              ∙ h.is_open.connected;
          open_is = f.alike.own ∙ h.is_open.open_is;
        };
      };
      life = f.alike.life;
      sources = ap (λ (x : Core). x.sources) k.without ∙ same_sources run.roots d k.events
          ∙ ap (λ (x : Core). x.sources) (sym k.made);
      reply = replied run.roots run.shelves d (world_of run).core (world_of (alone d run)).core k e
          (asked_of run.roots run.shelves d d true (eq-eqb d d refl) (requesting.request module_language r)
          (asks d (client_at (world_of run).core.clients d) r tie));
    }
