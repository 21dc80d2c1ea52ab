-- The life of an instance, as its handlers see it: how it is made, called, set aside and ended. Each act of
-- a client is one step of such a life, or leaves the instance.
use Rattle.std.proofs.Common.{◌≡◌, ℕ, true, false, List, [], ◌∷◌, ◌++◌, refl, ap, sym, ◌∙◌}
use Rattle.std.specs.Prelude.{map, fold, cond, ◌==◌, Option, Some, None, option_map, if◌then◌else◌}
use Rattle.std.proofs.Math.Path.{subst}
use Rattle.std.proofs.lemmas.List.{append_assoc, append-nil}
use Rattle.module_tree.specs.Syntax as syntax
use Rattle.module_tree.specs.Syntax.{OnceTree}
use Rattle.output_lines.specs.declared.words.FaultPlace.TheVariants as place
use Rattle.output_lines.specs.declared.words.HandlerEnd.TheVariants.{Held}
use Rattle.output_lines.specs.declared.words.InstanceStatus.TheVariants.{Unrun}
use Rattle.output_lines.specs.declared.words.InstanceFate.TheVariants.{Live, Replaced, Pruned, Reloaded}
use Rattle.core_model.specs.Names.{Name, at}
use Rattle.core_model.specs.Sources.{Text}
use Rattle.client_model.specs.Language.{Language, Registered, Evaluated}
use Rattle.client_model.specs.Instance.{Instance, Handler, Deed, code, host, is_live_fate, is_held, disposes, prunes, accepts_own, accepts_dep, numbered, places_from, with_dropped}
use Rattle.client_model.specs.Journal.{Journal, dropped, registered, no_host}
use Rattle.client_model.specs.Runtime.{Runtime, Did, and_then}
use Rattle.client_model.specs.Running.{no_arguments, run_each, drop_each, end_instance, give_up_bag}
use Rattle.client_model.specs.Making.{Registry, Birth, is_displaced_by, new_handler, without_first, born, status_after, with_handler, with_host, register_once, make_unrun, make_run, evaluate, register_in, make}
use Rattle.client_model.specs.Applying.{is_left_behind, fate_by, reload_instance, replace_instance, prune_instance}
use Rattle.client_model.proofs.Acts.{by_make}
use Rattle.journal_laws.proofs.HandlerShapes.{Shape, shape, Word, gained, lost, fell, seen, words, words_then, itself, Quiet, quiet_then, Becomes, becomes_then, does_becomes, quiet_becomes, At, Known, Takes, becomes_takes}
use Rattle.journal_laws.proofs.HandlerActs.{run_shape, run_words, drop_shape, drop_words, end_shape, runs_are, runs_elsewhere, drop_does, drop_quiet, end_becomes, end_quiet, give_up_quiet, drops_told, drops_untold}

-- Young holds of handlers as they are registered, Whole of an instance between messages, Aside of a replaced
-- one whose callbacks on the module itself may still be called
pub record IsLife (Young : List Handler → List Word → Type 0) (Whole Aside : Shape → List Word → Type 0) : Type 0 where
  pub unregistered : Young [] []
  pub registered : (hs : List Handler) (ws : List Word) (h : Handler) → h.end ≡ Held → Young hs ws → Young (with_dropped (is_displaced_by h.kind) hs ++ h ∷ []) (ws ++ (map lost (places_from 0 (is_displaced_by h.kind) hs) ++ gained h ∷ []))
  pub made : (n : Name) (hs : List Handler) (ws : List Word) → Young hs ws → Whole (record { name = n; fate = Live; handlers = hs }) ws
  pub reloaded : (x : Shape) (ws : List Word) → is_live_fate x.fate ≡ true → Whole x ws → Whole (end_shape Reloaded (drop_shape is_held x)) ((ws ++ drop_words is_held x) ++ fell Reloaded ∷ [])
  pub replaced : (m : ℕ) (x : Shape) (ws : List Word) → is_live_fate x.fate ≡ true → Whole x ws
      → Aside (end_shape (Replaced m) (drop_shape is_left_behind (run_shape disposes x))) (((ws ++ run_words place.Dispose disposes x) ++ drop_words is_left_behind (run_shape disposes x)) ++ fell (Replaced m) ∷ [])
  pub own : (x : Shape) (ws : List Word) → Aside x ws → Aside (run_shape accepts_own x) (ws ++ run_words place.Own accepts_own x)
  pub dep_aside : (n : Name) (x : Shape) (ws : List Word) → Aside x ws → Aside (run_shape (accepts_dep n) x) (ws ++ run_words place.Dep (accepts_dep n) x)
  pub dep : (n : Name) (x : Shape) (ws : List Word) → Whole x ws → Whole (run_shape (accepts_dep n) x) (ws ++ run_words place.Dep (accepts_dep n) x)
  pub laid : (x : Shape) (ws : List Word) → Aside x ws → Whole (drop_shape is_held x) (ws ++ drop_words is_held x)
  pub pruned : (x : Shape) (ws : List Word) → is_live_fate x.fate ≡ true → Whole x ws
      → Whole (end_shape Pruned (drop_shape is_held (run_shape prunes (run_shape disposes x)))) ((((ws ++ run_words place.Dispose disposes x) ++ run_words place.Prune prunes (run_shape disposes x)) ++ drop_words is_held (run_shape prunes (run_shape disposes x))) ++ fell Pruned ∷ [])

-- Ends of instances.

module _ (k : ℕ) where
  pub reload_quiet : (i : Instance) (r : Runtime) → (i.number == k) ≡ false → Quiet k r (reload_instance i r)
  reload_quiet i r other = quiet_then k r (drop_each is_held i.number r) (end_instance Reloaded i.number i.name) (drop_quiet k is_held i.number other r) (end_quiet k Reloaded i.number i.name other)

  pub replace_quiet : (language : Language) (number : Name → Option ℕ) (i : Instance) (r : Runtime) → (i.number == k) ≡ false → Quiet k r (replace_instance language number i r)
  replace_quiet language number i r other =
      let disposed : Did = run_each language place.Dispose no_arguments disposes i.number r in
      quiet_then k r (and_then disposed (drop_each is_left_behind i.number)) (end_instance (fate_by (number i.name)) i.number i.name)
      (quiet_then k r disposed (drop_each is_left_behind i.number) (runs_elsewhere language place.Dispose no_arguments k disposes i.number other r) (drop_quiet k is_left_behind i.number other))
      (end_quiet k (fate_by (number i.name)) i.number i.name other)

  pub prune_quiet : (language : Language) (i : Instance) (r : Runtime) → (i.number == k) ≡ false → Quiet k r (prune_instance language i r)
  prune_quiet language i r other =
      let disposed : Did = run_each language place.Dispose no_arguments disposes i.number r in
      let pruning : Runtime → Did = run_each language place.Prune no_arguments prunes i.number in
      quiet_then k r (and_then (and_then (and_then disposed pruning) (drop_each is_held i.number)) (give_up_bag i.name)) (end_instance Pruned i.number i.name)
      (quiet_then k r (and_then (and_then disposed pruning) (drop_each is_held i.number)) (give_up_bag i.name)
      (quiet_then k r (and_then disposed pruning) (drop_each is_held i.number)
      (quiet_then k r disposed pruning (runs_elsewhere language place.Dispose no_arguments k disposes i.number other r) (runs_elsewhere language place.Prune no_arguments k prunes i.number other))
      (drop_quiet k is_held i.number other))
      (give_up_quiet k i.name))
      (end_quiet k Pruned i.number i.name other)

  reload_becomes : (x : Shape) (n : Name) (r : Runtime) → Becomes k x (end_shape Reloaded (drop_shape is_held x)) (drop_words is_held x ++ fell Reloaded ∷ []) r (and_then (drop_each is_held k r) (end_instance Reloaded k n))
  reload_becomes x n r = becomes_then k x (drop_shape is_held x) (end_shape Reloaded (drop_shape is_held x)) (drop_words is_held x) (fell Reloaded ∷ []) r (drop_each is_held k r) (end_instance Reloaded k n)
      (does_becomes k x (drop_shape is_held) (drop_words is_held) r (drop_each is_held k r) (drop_does k is_held r))
      (end_becomes k (drop_shape is_held x) Reloaded n)

  module _ (Young : List Handler → List Word → Type 0) (Whole Aside : Shape → List Word → Type 0) (life : IsLife Young Whole Aside) where
    reload_number : (x : Shape) (n : Name) (r : Runtime) → is_live_fate x.fate ≡ true → Takes k (Known (Some x) (At Whole)) (At Whole) r (and_then (drop_each is_held k r) (end_instance Reloaded k n))
    reload_number x n r l = becomes_takes k Whole Whole x (end_shape Reloaded (drop_shape is_held x)) (drop_words is_held x ++ fell Reloaded ∷ []) r (and_then (drop_each is_held k r) (end_instance Reloaded k n)) (reload_becomes x n r)
        (λ ws a. subst (Whole (end_shape Reloaded (drop_shape is_held x))) (append_assoc ws (drop_words is_held x) (fell Reloaded ∷ [])) (life.reloaded x ws l a))

    pub reload_takes : (i : Instance) (x : Shape) (r : Runtime) → i.number ≡ k → is_live_fate x.fate ≡ true → Takes k (Known (Some x) (At Whole)) (At Whole) r (reload_instance i r)
    reload_takes i x r same l = subst (λ m. Takes k (Known (Some x) (At Whole)) (At Whole) r (and_then (drop_each is_held m r) (end_instance Reloaded m i.name))) (sym same) (reload_number x i.name r l)

    ended_number : (language : Language) (m : ℕ) (x : Shape) (n : Name) (r : Runtime) → is_live_fate x.fate ≡ true
        → Takes k (Known (Some x) (At Whole)) (At Aside) r (and_then (and_then (run_each language place.Dispose no_arguments disposes k r) (drop_each is_left_behind k)) (end_instance (Replaced m) k n))
    ended_number language m x n r l =
        let disposed : Did = run_each language place.Dispose no_arguments disposes k r in
        let y : Shape = run_shape disposes x in
        let z : Shape = drop_shape is_left_behind y in
        let run : List Word = run_words place.Dispose disposes x in
        let left : List Word = drop_words is_left_behind y in
        becomes_takes k Whole Aside x (end_shape (Replaced m) z) ((run ++ left) ++ fell (Replaced m) ∷ []) r (and_then (and_then disposed (drop_each is_left_behind k)) (end_instance (Replaced m) k n))
        (becomes_then k x z (end_shape (Replaced m) z) (run ++ left) (fell (Replaced m) ∷ []) r (and_then disposed (drop_each is_left_behind k)) (end_instance (Replaced m) k n)
        (becomes_then k x y z run left r disposed (drop_each is_left_behind k)
        (does_becomes k x (run_shape disposes) (run_words place.Dispose disposes) r disposed (runs_are language place.Dispose no_arguments k disposes r))
        (λ s. does_becomes k y (drop_shape is_left_behind) (drop_words is_left_behind) s (drop_each is_left_behind k s) (drop_does k is_left_behind s)))
        (end_becomes k z (Replaced m) n))
        (λ ws a. subst (Aside (end_shape (Replaced m) z)) (ap (λ us. us ++ fell (Replaced m) ∷ []) (append_assoc ws run left) ∙ append_assoc ws (run ++ left) (fell (Replaced m) ∷ [])) (life.replaced m x ws l a))

    pub replace_takes : (language : Language) (number : Name → Option ℕ) (m : ℕ) (i : Instance) (x : Shape) (r : Runtime) → i.number ≡ k → number i.name ≡ Some m → is_live_fate x.fate ≡ true → Takes k (Known (Some x) (At Whole)) (At Aside) r (replace_instance language number i r)
    replace_takes language number m i x r same e l =
        subst (λ f. Takes k (Known (Some x) (At Whole)) (At Aside) r (and_then (and_then (run_each language place.Dispose no_arguments disposes i.number r) (drop_each is_left_behind i.number)) (end_instance (fate_by f) i.number i.name))) (sym e)
        (subst (λ j. Takes k (Known (Some x) (At Whole)) (At Aside) r (and_then (and_then (run_each language place.Dispose no_arguments disposes j r) (drop_each is_left_behind j)) (end_instance (Replaced m) j i.name))) (sym same) (ended_number language m x i.name r l))

    prune_number : (language : Language) (x : Shape) (n : Name) (r : Runtime) → is_live_fate x.fate ≡ true
        → Takes k (Known (Some x) (At Whole)) (At Whole) r (and_then (and_then (and_then (and_then (run_each language place.Dispose no_arguments disposes k r) (run_each language place.Prune no_arguments prunes k)) (drop_each is_held k)) (give_up_bag n)) (end_instance Pruned k n))
    prune_number language x n r l =
        let disposed : Did = run_each language place.Dispose no_arguments disposes k r in
        let pruning : Runtime → Did = run_each language place.Prune no_arguments prunes k in
        let dropping : Runtime → Did = drop_each is_held k in
        let y : Shape = run_shape disposes x in
        let z : Shape = run_shape prunes y in
        let u : Shape = drop_shape is_held z in
        let first : List Word = run_words place.Dispose disposes x in
        let second : List Word = run_words place.Prune prunes y in
        let left : List Word = drop_words is_held z in
        becomes_takes k Whole Whole x (end_shape Pruned u) ((((first ++ second) ++ left) ++ []) ++ fell Pruned ∷ []) r (and_then (and_then (and_then (and_then disposed pruning) dropping) (give_up_bag n)) (end_instance Pruned k n))
        (becomes_then k x u (end_shape Pruned u) (((first ++ second) ++ left) ++ []) (fell Pruned ∷ []) r (and_then (and_then (and_then disposed pruning) dropping) (give_up_bag n)) (end_instance Pruned k n)
        (becomes_then k x u u ((first ++ second) ++ left) [] r (and_then (and_then disposed pruning) dropping) (give_up_bag n)
        (becomes_then k x z u (first ++ second) left r (and_then disposed pruning) dropping
        (becomes_then k x y z first second r disposed pruning
        (does_becomes k x (run_shape disposes) (run_words place.Dispose disposes) r disposed (runs_are language place.Dispose no_arguments k disposes r))
        (λ s. does_becomes k y (run_shape prunes) (run_words place.Prune prunes) s (pruning s) (runs_are language place.Prune no_arguments k prunes s)))
        (λ s. does_becomes k z (drop_shape is_held) (drop_words is_held) s (dropping s) (drop_does k is_held s)))
        (λ s. quiet_becomes k u s (give_up_bag n s) (give_up_quiet k n s)))
        (end_becomes k u Pruned n))
        (λ ws a. subst (Whole (end_shape Pruned u)) (regroup ws first second left (fell Pruned ∷ [])) (life.pruned x ws l a))
      where
        regroup : (ws first second left last : List Word) → (((ws ++ first) ++ second) ++ left) ++ last ≡ ws ++ ((((first ++ second) ++ left) ++ []) ++ last)
        regroup ws first second left last =
            ap (λ us. (us ++ left) ++ last) (append_assoc ws first second)
            ∙ ap (λ us. us ++ last) (append_assoc ws (first ++ second) left)
            ∙ append_assoc ws ((first ++ second) ++ left) last
            ∙ ap (λ us. ws ++ (us ++ last)) (sym (append-nil ((first ++ second) ++ left)))

    pub prune_takes : (language : Language) (i : Instance) (x : Shape) (r : Runtime) → i.number ≡ k → is_live_fate x.fate ≡ true → Takes k (Known (Some x) (At Whole)) (At Whole) r (prune_instance language i r)
    prune_takes language i x r same l = subst (λ j. Takes k (Known (Some x) (At Whole)) (At Whole) r (and_then (and_then (and_then (and_then (run_each language place.Dispose no_arguments disposes j r) (run_each language place.Prune no_arguments prunes j)) (drop_each is_held j)) (give_up_bag i.name)) (end_instance Pruned j i.name))) (sym same) (prune_number language x i.name r l)

    -- A birth.

    young_handler : (entry : Registered) (deed : Deed) (g : Registry) → Young g.handlers (words k g.journal) → Young (with_handler k entry deed g).handlers (words k (with_handler k entry deed g).journal)
    young_handler entry deed g y =
        let places : List ℕ = places_from 0 (is_displaced_by entry.kind) g.handlers in
        subst (Young (with_handler k entry deed g).handlers) (sym (words_then k g.journal (map (dropped k) places ++ registered k (new_handler entry deed) ∷ [])
        ∙ ap (λ us. words k g.journal ++ us) (words_then k (map (dropped k) places) (registered k (new_handler entry deed) ∷ []) ∙ ap (λ us. us ++ words k (registered k (new_handler entry deed) ∷ [])) (drops_told k places) ∙ ap (λ b. map lost places ++ ((if b then gained (new_handler entry deed) ∷ [] else []) ++ [])) (itself k))))
        (life.registered g.handlers (words k g.journal) (new_handler entry deed) refl y)

    young_host : (number : Option ℕ) (n : Name) (entry : Registered) (label : Text) (g : Registry) → Young g.handlers (words k g.journal) → Young (with_host number k n entry label g).handlers (words k (with_host number k n entry label g).journal)
    young_host None n entry label g y = subst (Young g.handlers) (sym (words_then k g.journal (no_host k n label ∷ []) ∙ append-nil (words k g.journal))) y
    young_host (Some number) n entry label g y = young_handler entry (host label number) (record g { shelf = without_first label g.shelf }) y

    young_once : (what : OnceTree) (n : Name) (entry : Registered) (g : Registry) → Young g.handlers (words k g.journal) → Young (register_once what k n entry g).handlers (words k (register_once what k n entry g).journal)
    young_once (syntax.code tree) n entry g y = young_handler entry (code tree) g y
    young_once (syntax.host label) n entry g y = young_host (at g.shelf label) n entry label g y

    young_all : (n : Name) (entries : List Registered) (g : Registry) → Young g.handlers (words k g.journal)
        → Young (fold (λ g entry. register_once entry.what k n entry g) g entries).handlers (words k (fold (λ g entry. register_once entry.what k n entry g) g entries).journal)
    young_all n [] g y = y
    young_all n (entry ∷ entries) g y = young_all n entries (register_once entry.what k n entry g) (young_once entry.what n entry g y)

    born_takes : (y : Shape) (r s : Runtime) (journal : Journal) → seen s.instances k ≡ Some y → Whole y (words k journal) → Takes k (Known None (At Whole)) (At Whole) r (s, journal)
    born_takes y r s journal e w ws a = subst (λ o. At Whole o (ws ++ words k journal)) (sym e) (subst (λ us. Whole y (us ++ words k journal)) (sym (subst (λ o. At Whole o ws) a.0 a.1)) w)

module _ (Young : List Handler → List Word → Type 0) (Whole Aside : Shape → List Word → Type 0) (life : IsLife Young Whole Aside) (language : Language) (b : Birth) where
  make_own : (r : Runtime) → Takes b.number (Known None (At Whole)) (At Whole) r (make language b r)
  make_own r =
      let e : Evaluated = evaluate language b r in
      let g : Registry = register_in b e r in
      by_make (Takes b.number (Known None (At Whole)) (At Whole) r) language b r
      (born_takes b.number Young Whole Aside life (shape (born b Unrun [] [])) r (make_unrun b r).0 (make_unrun b r).1
      (ap (λ c. option_map shape (cond c (Some (born b Unrun [] [])) (numbered r.instances b.number))) (itself b.number)) (life.made b.name [] [] life.unregistered))
      (born_takes b.number Young Whole Aside life (shape (born b (status_after e.fault) e.vars g.handlers)) r (make_run language b r).0 (make_run language b r).1
      (ap (λ c. option_map shape (cond c (Some (born b (status_after e.fault) e.vars g.handlers)) (numbered r.instances b.number))) (itself b.number))
      (life.made b.name g.handlers (words b.number g.journal) (young_all b.number Young Whole Aside life b.name e.registered (record { handlers = []; shelf = r.shelf; journal = [] }) life.unregistered)))

  pub make_takes : (k : ℕ) → b.number ≡ k → (r : Runtime) → Takes k (Known None (At Whole)) (At Whole) r (make language b r)
  make_takes k same r = subst (λ j. Takes j (Known None (At Whole)) (At Whole) r (make language b r)) same (make_own r)

-- A birth of another number.

module _ (k m : ℕ) (other : (m == k) ≡ false) where
  untold_handler : (entry : Registered) (deed : Deed) (g : Registry) → words k g.journal ≡ [] → words k (with_handler m entry deed g).journal ≡ []
  untold_handler entry deed g e =
      let places : List ℕ = places_from 0 (is_displaced_by entry.kind) g.handlers in
      words_then k g.journal (map (dropped m) places ++ registered m (new_handler entry deed) ∷ [])
      ∙ ap (λ us. us ++ words k (map (dropped m) places ++ registered m (new_handler entry deed) ∷ [])) e
      ∙ words_then k (map (dropped m) places) (registered m (new_handler entry deed) ∷ [])
      ∙ ap (λ us. us ++ words k (registered m (new_handler entry deed) ∷ [])) (drops_untold k m other places)
      ∙ ap (λ b. (if b then gained (new_handler entry deed) ∷ [] else []) ++ []) other

  untold_host : (number : Option ℕ) (n : Name) (entry : Registered) (label : Text) (g : Registry) → words k g.journal ≡ [] → words k (with_host number m n entry label g).journal ≡ []
  untold_host None n entry label g e = words_then k g.journal (no_host m n label ∷ []) ∙ append-nil (words k g.journal) ∙ e
  untold_host (Some number) n entry label g e = untold_handler entry (host label number) (record g { shelf = without_first label g.shelf }) e

  untold_once : (what : OnceTree) (n : Name) (entry : Registered) (g : Registry) → words k g.journal ≡ [] → words k (register_once what m n entry g).journal ≡ []
  untold_once (syntax.code tree) n entry g e = untold_handler entry (code tree) g e
  untold_once (syntax.host label) n entry g e = untold_host (at g.shelf label) n entry label g e

  pub untold_all : (n : Name) (entries : List Registered) (g : Registry) → words k g.journal ≡ [] → words k (fold (λ g entry. register_once entry.what m n entry g) g entries).journal ≡ []
  untold_all n [] g e = e
  untold_all n (entry ∷ entries) g e = untold_all n entries (register_once entry.what m n entry g) (untold_once entry.what n entry g e)

pub make_quiet : (k : ℕ) (language : Language) (b : Birth) (r : Runtime) → (b.number == k) ≡ false → Quiet k r (make language b r)
make_quiet k language b r other =
    let e : Evaluated = evaluate language b r in
    let g : Registry = register_in b e r in
    by_make (Quiet k r) language b r
    (record { shapes = ap (λ c. option_map shape (cond c (Some (born b Unrun [] [])) (numbered r.instances k))) other; words = refl })
    (record {
      shapes = ap (λ c. option_map shape (cond c (Some (born b (status_after e.fault) e.vars g.handlers)) (numbered r.instances k))) other;
      words = untold_all k b.number other b.name e.registered (record { handlers = []; shelf = r.shelf; journal = [] }) refl;
    })
