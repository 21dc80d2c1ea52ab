-- What is told of evaluations and of replacements: which acts of a client tell of none.
use Rattle.std.proofs.Common.{ℕ, true, List, [], ◌∷◌, subst}
use Rattle.std.specs.Prelude.{reverse, Option, ⊤}
use Rattle.hmr_types.specs.declared.words.PlanKind.{PlanKind}
use Rattle.output_lines.specs.declared.words.FaultPlace.{FaultPlace}
use Rattle.output_lines.specs.declared.words.FaultPlace.TheVariants as place
use Rattle.output_lines.specs.declared.words.InstanceFate.{InstanceFate}
use Rattle.output_lines.specs.declared.words.InstanceFate.TheVariants.{Live, Replaced, Pruned, Reloaded}
use Rattle.core_model.specs.Names.{Name}
use Rattle.core_model.specs.Page.{Plan}
use Rattle.client_model.specs.Language.{Language, Bag, Ran, Evaluated}
use Rattle.client_model.specs.Instance.{Instance, numbered, places_of, disposes}
use Rattle.client_model.specs.Journal.{Happening, Journal, made, evaluated, not_run, registered, no_host, ran, dropped, ended, gave_up, gave_up_all, told, bag_after}
use Rattle.client_model.specs.Runtime.{Runtime, Did, and_then, for_each, bag_of}
use Rattle.client_model.specs.Running.{no_arguments, run_each, drop_each}
use Rattle.client_model.specs.Making.{Birth, make, evaluate}
use Rattle.client_model.specs.Applying.{is_left_behind, fate_by, replace_instance, tell_all, drop_set_aside, live_of, prune_instance, reload_all}
use Rattle.client_model.specs.Firing.{hear_all}
use Rattle.hmr_types.specs.declared.value.Value.{Value}
use Rattle.client_model.proofs.Acts.{by_make, IsHandled, handled_each, handled_reload_all, handled_prunes, handled_tell_all, handled_hear, handled_set_aside, handled_disposed, handled_replace}
use Rattle.journal_laws.proofs.DataEach.{Each, IsFree, Respects, Free, free_append, each_drop, each_register}

-- What is told of.

-- an evaluation of this number and name starts with such a bag
abbrev pub EvaluatedAs : (ℕ → Name → Bag → Type 0) → Happening → (Name → Bag) → Type 0
EvaluatedAs Is (made i) bags = ⊤
EvaluatedAs Is (evaluated k n before e) bags = Is k n before
EvaluatedAs Is (not_run k n) bags = ⊤
EvaluatedAs Is (registered k h) bags = ⊤
EvaluatedAs Is (no_host k n label) bags = ⊤
EvaluatedAs Is (ran k spot n at before left) bags = ⊤
EvaluatedAs Is (dropped k spot) bags = ⊤
EvaluatedAs Is (ended k n fate) bags = ⊤
EvaluatedAs Is (gave_up n) bags = ⊤
EvaluatedAs Is gave_up_all bags = ⊤
EvaluatedAs Is (told l) bags = ⊤

abbrev pub FateAs : (ℕ → Name → Bag → Type 0) → Name → InstanceFate → Bag → Type 0
FateAs Is n Live bag = ⊤
FateAs Is n (Replaced k) bag = Is k n bag
FateAs Is n Pruned bag = ⊤
FateAs Is n Reloaded bag = ⊤

-- an instance of this name that is replaced by this number leaves such a bag
abbrev pub EndedAs : (ℕ → Name → Bag → Type 0) → Happening → (Name → Bag) → Type 0
EndedAs Is (made i) bags = ⊤
EndedAs Is (evaluated k n before e) bags = ⊤
EndedAs Is (not_run k n) bags = ⊤
EndedAs Is (registered k h) bags = ⊤
EndedAs Is (no_host k n label) bags = ⊤
EndedAs Is (ran k spot n at before left) bags = ⊤
EndedAs Is (dropped k spot) bags = ⊤
EndedAs Is (ended k n fate) bags = FateAs Is n fate (bags n)
EndedAs Is (gave_up n) bags = ⊤
EndedAs Is gave_up_all bags = ⊤
EndedAs Is (told l) bags = ⊤

-- what holds of each, and so something else
pub each_more : {Q R : Happening → (Name → Bag) → Type 0} → ((h : Happening) (bags : Name → Bag) → Q h bags → R h bags) → (bags : Name → Bag) (journal : Journal) → Each Q bags journal → Each R bags journal
each_more f bags [] s = tt
each_more f bags (h ∷ journal) s = (f h bags s.0, each_more f (λ n. bag_after n (bags n) h) journal s.1)

module _ (Is More : ℕ → Name → Bag → Type 0) (more : (k : ℕ) (n : Name) (bag : Bag) → Is k n bag → More k n bag) where
  pub evaluated_more : (h : Happening) (bags : Name → Bag) → EvaluatedAs Is h bags → EvaluatedAs More h bags
  evaluated_more (made i) bags s = tt
  evaluated_more (evaluated k n before e) bags s = more k n before s
  evaluated_more (not_run k n) bags s = tt
  evaluated_more (registered k h) bags s = tt
  evaluated_more (no_host k n label) bags s = tt
  evaluated_more (ran k spot n at before left) bags s = tt
  evaluated_more (dropped k spot) bags s = tt
  evaluated_more (ended k n fate) bags s = tt
  evaluated_more (gave_up n) bags s = tt
  evaluated_more gave_up_all bags s = tt
  evaluated_more (told l) bags s = tt

  fate_more : (n : Name) (fate : InstanceFate) (bag : Bag) → FateAs Is n fate bag → FateAs More n fate bag
  fate_more n Live bag s = tt
  fate_more n (Replaced k) bag s = more k n bag s
  fate_more n Pruned bag s = tt
  fate_more n Reloaded bag s = tt

  pub ended_more : (h : Happening) (bags : Name → Bag) → EndedAs Is h bags → EndedAs More h bags
  ended_more (made i) bags s = tt
  ended_more (evaluated k n before e) bags s = tt
  ended_more (not_run k n) bags s = tt
  ended_more (registered k h) bags s = tt
  ended_more (no_host k n label) bags s = tt
  ended_more (ran k spot n at before left) bags s = tt
  ended_more (dropped k spot) bags s = tt
  ended_more (ended k n fate) bags s = fate_more n fate (bags n) s
  ended_more (gave_up n) bags s = tt
  ended_more gave_up_all bags s = tt
  ended_more (told l) bags s = tt

-- Acts that tell of neither.

-- nothing else is against it
pub record IsCalm (Q : Happening → (Name → Bag) → Type 0) : Type 0 where
  pub free : IsFree Q
  pub ran : (k spot : ℕ) (n : Name) (at : FaultPlace) (before : Bag) (left : Ran) (bags : Name → Bag) → Q (ran k spot n at before left) bags
  pub reloaded : (k : ℕ) (n : Name) (bags : Name → Bag) → Q (ended k n Reloaded) bags
  pub pruned : (k : ℕ) (n : Name) (bags : Name → Bag) → Q (ended k n Pruned) bags
  pub gave_up : (n : Name) (bags : Name → Bag) → Q (gave_up n) bags
  pub gave_up_all : (bags : Name → Bag) → Q gave_up_all bags

module _ (Q : Happening → (Name → Bag) → Type 0) (calm : IsCalm Q) where
  abbrev Freely : Runtime → Did → Type 0
  Freely r did = Free Q calm.free did.1

  module _ (language : Language) where
    free_handled : IsHandled language Freely
    free_handled = record {
      nothing = λ r bags. tt;
      after = λ r did next s t. free_append Q calm.free did.1 (next did.0).1 s t;
      run = λ at k i spot h arguments r e g none bags. (calm.ran i.number spot i.name at (bag_of r i.name) _ bags, tt);
      drop = λ test k r. each_drop Q calm.free k (places_of test (numbered r.instances k));
      wrote = λ l r bags. (calm.free.line l bags, tt);
    }

    pub free_reload_all : (r : Runtime) → Freely r (reload_all r)
    free_reload_all r = handled_reload_all language Freely free_handled (λ k n s bags. (calm.reloaded k n bags, tt)) (λ s bags. (calm.gave_up_all bags, tt)) r

    pub free_prunes : (is : List Instance) (r : Runtime) → Freely r (for_each (prune_instance language) is r)
    free_prunes is r = handled_prunes language Freely free_handled (λ k n s bags. (calm.pruned k n bags, tt)) (λ n s bags. (calm.gave_up n bags, tt)) is r

    pub free_hear : (event : Name) (value : Value) (r : Runtime) → Freely r (hear_all language event value r)
    free_hear event value r = handled_hear language Freely free_handled event value (reverse (live_of (λ n. true) r)) r

    pub free_tell_all : (kind : PlanKind) (p : Plan) (before r : Runtime) → Freely r (tell_all kind language p before r)
    free_tell_all kind p before r = handled_tell_all language Freely free_handled kind p before r

    pub free_set_aside : (p : Plan) (before r : Runtime) → Freely r (drop_set_aside p before r)
    free_set_aside p before r = handled_set_aside language Freely free_handled p before r

    -- a replaced instance, up to its end
    pub free_disposed : (i : Instance) (r : Runtime) → Freely r (and_then (run_each language place.Dispose no_arguments disposes i.number r) (drop_each is_left_behind i.number))
    free_disposed i r = handled_disposed language Freely free_handled i r

    -- replaced instances, where ends aren't against it
    pub free_replaces : ((k : ℕ) (n : Name) (fate : InstanceFate) (bags : Name → Bag) → Q (ended k n fate) bags) → (number : Name → Option ℕ) (is : List Instance) (r : Runtime) → Freely r (for_each (replace_instance language number) is r)
    free_replaces ends number is r = handled_each language Freely free_handled (replace_instance language number) (λ i s. handled_replace language Freely free_handled number i (λ t bags. (ends i.number i.name (fate_by (number i.name)) bags, tt)) s) is r

    pub free_each : {X : Type 0} (act : X → Runtime → Did) → ((x : X) (s : Runtime) → Freely s (act x s)) → (xs : List X) (r : Runtime) → Freely r (for_each act xs r)
    free_each act f xs r = handled_each language Freely free_handled act f xs r

    -- a new instance, where what it tells of isn't against it
    pub free_make : (b : Birth) (r : Runtime) → ((i : Instance) (bags : Name → Bag) → Q (made i) bags) → ((bags : Name → Bag) → Q (not_run b.number b.name) bags) → ((e : Evaluated) (bags : Name → Bag) → Q (evaluated b.number b.name (bag_of r b.name) e) bags) → Free Q calm.free (make language b r).1
    free_make b r makes unrun evaluates =
        let e : Evaluated = evaluate language b r in
        by_make (λ did. Free Q calm.free did.1) language b r
        (λ bags. (makes _ bags, (unrun bags, tt)))
        (λ bags. (makes _ bags, (evaluates e bags, each_register Q calm.free b.number b.name e.registered r.shelf _)))

-- What is told of an evaluation or a replacement is calm.

module _ (Is : ℕ → Name → Bag → Type 0) where
  pub evaluated_calm : IsCalm (EvaluatedAs Is)
  evaluated_calm = record {
    free = record { registered = λ k h bags. tt; no_host = λ k n label bags. tt; dropped = λ k spot bags. tt; line = λ l bags. tt };
    ran = λ k spot n at before left bags. tt;
    reloaded = λ k n bags. tt;
    pruned = λ k n bags. tt;
    gave_up = λ n bags. tt;
    gave_up_all = λ bags. tt;
  }

  pub ended_calm : IsCalm (EndedAs Is)
  ended_calm = record {
    free = record { registered = λ k h bags. tt; no_host = λ k n label bags. tt; dropped = λ k spot bags. tt; line = λ l bags. tt };
    ran = λ k spot n at before left bags. tt;
    reloaded = λ k n bags. tt;
    pruned = λ k n bags. tt;
    gave_up = λ n bags. tt;
    gave_up_all = λ bags. tt;
  }

  pub ended_respects : Respects (EndedAs Is)
  ended_respects (made i) f g e s = tt
  ended_respects (evaluated k n before left) f g e s = tt
  ended_respects (not_run k n) f g e s = tt
  ended_respects (registered k h) f g e s = tt
  ended_respects (no_host k n label) f g e s = tt
  ended_respects (ran k spot n at before left) f g e s = tt
  ended_respects (dropped k spot) f g e s = tt
  ended_respects (ended k n fate) f g e s = subst (FateAs Is n fate) (e n) s
  ended_respects (gave_up n) f g e s = tt
  ended_respects gave_up_all f g e s = tt
  ended_respects (told l) f g e s = tt
