-- Each evaluation and each run of a handler starts with the bag that what happened before left.
use Rattle.std.proofs.Common.{◌≡◌, List, [], ◌∷◌, refl, ◌∙◌}
use Rattle.std.specs.Prelude.{⊤}
use Rattle.std.proofs.Math.Path.{subst}
use Rattle.core_model.specs.Names.{Name, has}
use Rattle.core_model.specs.Page.{Plan}
use Rattle.client_model.specs.Language.{Language, Bag, Evaluated}
use Rattle.client_model.specs.Instance.{numbered, places_of}
use Rattle.client_model.specs.Journal.{Happening, made, evaluated, not_run, registered, no_host, ran, dropped, ended, gave_up, gave_up_all, told, bag_after, bag_left}
use Rattle.client_model.specs.Runtime.{Runtime, Opening, Did, and_then, for_each, bag_of}
use Rattle.client_model.specs.Making.{Birth, evaluate, make}
use Rattle.client_model.specs.Applying.{live_of, finish, apply, prune_instance, leave_page, prune}
use Rattle.client_model.specs.Past.{Past, met, runtime_after, journal_of}
use Rattle.client_model.proofs.Acts.{IsKept, before_finish, kept_applying, kept_pruning, kept_hear, by_make}
use Rattle.client_model.proofs.Bagging.{Keeps, keeps_then, bags_kept, keeps_quiet, bags_are}
use Rattle.client_model.proofs.Takes.{Quiet, IsTaken, met_does}
use Rattle.journal_laws.specs.Runs.{OfEachRun}
use Rattle.journal_laws.specs.Data.{EvaluationsStartRight, RunsStartRight}
use Rattle.journal_laws.proofs.DataEach.{Each, Respects, IsFree, each_append, each_same, each_at, each_then, each_line, each_drop, each_register}

-- an evaluation or a run starts with the bag of its name
abbrev Starts : Happening → (Name → Bag) → Type 0
Starts (made i) bags = ⊤
Starts (evaluated k n before e) bags = before ≡ bags n
Starts (not_run k n) bags = ⊤
Starts (registered k h) bags = ⊤
Starts (no_host k n label) bags = ⊤
Starts (ran k spot n at before left) bags = before ≡ bags n
Starts (dropped k spot) bags = ⊤
Starts (ended k n fate) bags = ⊤
Starts (gave_up n) bags = ⊤
Starts gave_up_all bags = ⊤
Starts (told l) bags = ⊤

starts_same : Respects Starts
starts_same (made i) f g e s = tt
starts_same (evaluated k n before left) f g e s = s ∙ e n
starts_same (not_run k n) f g e s = tt
starts_same (registered k h) f g e s = tt
starts_same (no_host k n label) f g e s = tt
starts_same (ran k spot n at before left) f g e s = s ∙ e n
starts_same (dropped k spot) f g e s = tt
starts_same (ended k n fate) f g e s = tt
starts_same (gave_up n) f g e s = tt
starts_same gave_up_all f g e s = tt
starts_same (told l) f g e s = tt

starts_free : IsFree Starts
starts_free = record { registered = λ k h bags. tt; no_host = λ k n label bags. tt; dropped = λ k spot bags. tt; line = λ l bags. tt }

-- the bags are kept, and what starts with one starts right
abbrev StartsRight : Runtime → Did → Type 0
StartsRight r did = Keeps r did × Each Starts (bag_of r) did.1

right_then : (r : Runtime) (did : Did) (next : Runtime → Did) → StartsRight r did → StartsRight did.0 (next did.0) → StartsRight r (and_then did next)
right_then r did next h k = (keeps_then r did next h.0 k.0, each_then Starts starts_same r did next h.0 h.1 k.1)

right_make : (language : Language) (b : Birth) (r : Runtime) → Each Starts (bag_of r) (make language b r).1
right_make language b r =
    let e : Evaluated = evaluate language b r in
    by_make (λ did. Each Starts (bag_of r) did.1) language b r (tt, (tt, tt))
    (tt, (refl, each_register Starts starts_free b.number b.name e.registered r.shelf (λ n. bag_after n (bag_of r n) (evaluated b.number b.name (bag_of r b.name) e))))

right_kept : IsKept StartsRight
right_kept = record {
  nothing = λ r. (bags_kept.nothing r, tt);
  after = right_then;
  run = λ place i spot h left r. (bags_kept.run place i spot h left r, (refl, tt));
  drop = λ test k r. (bags_kept.drop test k r, each_drop Starts starts_free k (places_of test (numbered r.instances k)) (bag_of r));
  end = λ fate k m r. (bags_kept.end fate k m r, (tt, tt));
  give_up = λ m r. (bags_kept.give_up m r, (tt, tt));
  give_up_all = λ r. (bags_kept.give_up_all r, (tt, tt));
  made = λ language b r. (bags_kept.made language b r, right_make language b r);
  wrote = λ l r. (bags_kept.wrote l r, (tt, tt));
}

module _ (language : Language) where
  right_quiet : (r : Runtime) (did : Did) → Quiet r did → StartsRight r did
  right_quiet r did q = (keeps_quiet r did q, each_line Starts starts_free (bag_of r) did.1 q.lines)

  right_prune : (names : List Name) (r : Runtime) → StartsRight r (prune language names r)
  right_prune names r = right_then r (for_each (prune_instance language) (live_of (has names) r) r) (leave_page names) (kept_pruning StartsRight right_kept language names r) (λ n. refl, tt)

  right_apply : (p : Plan) (r : Runtime) → StartsRight r (apply language p r)
  right_apply p r = right_then r (before_finish language p r) (finish p) (kept_applying StartsRight right_kept language p r) (λ n. refl, (tt, tt))

  right_taken : IsTaken language StartsRight
  right_taken = record { quiet = right_quiet; prunes = λ names r none loaded. right_prune names r; applies = λ p r e due counted. right_apply p r; hears = λ n value r loaded idle. kept_hear StartsRight right_kept language n value r }

  pub starts_run : (opening : Opening) (past : Past) → Each Starts (λ n. []) (journal_of language opening past)
  starts_run opening [] = tt
  starts_run opening (came ∷ past) =
      let r : Runtime = runtime_after language opening past in
      each_append Starts (λ n. []) (journal_of language opening past) (met language came r).1 (starts_run opening past)
      (each_same Starts starts_same (bag_of r) (bag_left (journal_of language opening past)) (bags_are language opening past) (met language came r).1 (met_does language StartsRight right_taken r came).1)

  pub evaluations_start : OfEachRun language EvaluationsStartRight
  evaluations_start opening past front back k n before e split = each_at Starts (λ m. []) front (evaluated k n before e) back (subst (Each Starts (λ m. [])) split (starts_run opening past))

  pub runs_start : OfEachRun language RunsStartRight
  runs_start opening past front back k spot n at before left split = each_at Starts (λ m. []) front (ran k spot n at before left) back (subst (Each Starts (λ m. [])) split (starts_run opening past))
