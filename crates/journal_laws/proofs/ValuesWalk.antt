-- What holds of each thing that a client does, where it does it, holds of what it does with a plan: a run
-- is of a handler that stands at its place of an instance that was made, and a new instance has a number
-- that none has yet.
use Rattle.std.proofs.Common.{◌≡◌, ℕ, suc, ◌<◌, Bool, true, List, [], ◌∷◌, length, refl, ap, sym, ◌∙◌, arith}
use Rattle.std.specs.Prelude.{cond, reverse, slice_get, ◌==◌, Option, Some, None}
use Rattle.std.proofs.Math.Path.{subst}
use Rattle.std.proofs.lemmas.List.{length-map}
use Rattle.output_lines.specs.declared.words.FaultPlace.{FaultPlace}
use Rattle.output_lines.specs.declared.words.InstanceFate.{InstanceFate}
use Rattle.output_lines.specs.declared.out_line.OutLine.{OutLine}
use Rattle.core_model.specs.Names.{Name, has}
use Rattle.core_model.specs.Page.{Plan}
use Rattle.client_model.specs.Language.{Language, Slots}
use Rattle.client_model.specs.Instance.{Instance, Handler, numbered}
use Rattle.client_model.specs.Runtime.{Runtime, Did, and_then, for_each, write, bag_of}
use Rattle.client_model.specs.Running.{scope_of, run_deed, did_run, drop_each, end_instance, give_up_bag, TakesNothing}
use Rattle.client_model.specs.Making.{Birth, make}
use Rattle.client_model.specs.Applying.{give_up_all_bags, live_of, end_old, births, prune_instance}
use Rattle.client_model.specs.Linking.{new_names}
use Rattle.client_model.proofs.Acts.{IsWalked, before_finish, walked_applying, walked_pruning, handled_hear, by_make}
use Rattle.client_model.specs.Firing.{hear_all}
use Rattle.hmr_types.specs.declared.value.Value.{Value}
use Rattle.world_laws.proofs.Frames.{Frame, frame, frames, Numbered, cut, cut_length, cut_numbered, ended_by, apart}
use Rattle.world_laws.proofs.Ending.{ended_names, ends_old}
use Rattle.journal_laws.proofs.Numbers.{none_beyond, Rising, births_rise}

-- P holds of what changes neither instances nor bags, of one thing after another, and of each single thing
pub record IsStepped (language : Language) (P : Runtime → Did → Type 0) : Type 0 where
  pub quiet : (r s : Runtime) → s.instances ≡ r.instances → s.bags ≡ r.bags → P r (s, [])
  pub after : (r : Runtime) (did : Did) (next : Runtime → Did) → P r did → P did.0 (next did.0) → P r (and_then did next)
  pub run : (spent_at : FaultPlace) (k : ℕ) (i : Instance) (spot : ℕ) (h : Handler) (arguments : List (Option Slots)) (r : Runtime) → numbered r.instances k ≡ Some i → slice_get i.handlers spot ≡ Some h → TakesNothing spent_at arguments
      → P r (did_run spent_at i spot h (run_deed language h.deed (scope_of language r i) arguments (bag_of r i.name)) r)
  pub drop : (test : Handler → Bool) (k : ℕ) (r : Runtime) → P r (drop_each test k r)
  pub end : (fate : InstanceFate) (k : ℕ) (m : Name) (r : Runtime) → P r (end_instance fate k m r)
  pub give_up : (m : Name) (r : Runtime) → P r (give_up_bag m r)
  pub give_up_all : (r : Runtime) → P r (give_up_all_bags r)
  pub made : (b : Birth) (r : Runtime) → numbered r.instances b.number ≡ None → P r (make language b r)
  pub wrote : (l : OutLine) (r : Runtime) → P r (write l r)

-- Numbers of new instances.

-- each number above m is new
abbrev pub Below : ℕ → List Instance → Type 0
Below m instances = (k : ℕ) → m < k → numbered instances k ≡ None

made_below : (language : Language) (b : Birth) (r : Runtime) (m : ℕ) → Below m r.instances → m < b.number → Below b.number (make language b r).0.instances
made_below language b r m h l k g = by_make (λ did. numbered did.0.instances k ≡ None) language b r (new _) (new _)
  where
    new : (o : Option Instance) → cond (b.number == k) o (numbered r.instances k) ≡ None
    new o = ap (λ c. cond c o (numbered r.instances k)) (apart b.number k (λ e. omega (arith, e, g))) ∙ h k (omega (arith, l, g))

-- the numbers above those of the instances are new once the old ones ended
old_below : (language : Language) (p : Plan) (r : Runtime) → Numbered (frames r.instances) → Below (length r.instances) (end_old p.kind language p r).0.instances
old_below language p r d k l =
    let after : List Instance = (end_old p.kind language p r).0.instances in
    let ends : ℕ → Bool = ended_by (ended_names p.kind p r) (frames r.instances) in
    let cut_is : frames after ≡ cut ends (frames r.instances) = ends_old p.kind language p r in
    none_beyond after k (subst Numbered (sym cut_is) (cut_numbered ends (frames r.instances) d))
    (omega (arith, l, length-map after frame, ap (λ (fs : List Frame). length fs) cut_is, cut_length ends (frames r.instances), length-map r.instances frame))

module _ (language : Language) (P : Runtime → Did → Type 0) (k : IsStepped language P) where
  walk : IsWalked language P
  walk = record {
    handled = record {
      nothing = λ r. k.quiet r r refl refl;
      after = k.after;
      run = λ spent_at number i spot h arguments r e g none. k.run spent_at number i spot h arguments r e g none;
      drop = k.drop;
      wrote = k.wrote;
    };
    end = k.end;
    give_up = k.give_up;
    give_up_all = k.give_up_all;
  }

  steps_make : (bs : List Birth) (m : ℕ) (r : Runtime) → Below m r.instances → Rising (suc m) bs → P r (for_each (make language) bs r)
  steps_make [] m r h c = k.quiet r r refl refl
  steps_make (b ∷ bs) m r h c = k.after r (make language b r) (for_each (make language) bs) (k.made b r (h b.number (omega (arith, c.0)))) (steps_make bs b.number (make language b r).0 (made_below language b r m h (omega (arith, c.0))) c.1)

  pub steps_applying : (p : Plan) (r : Runtime) → Numbered (frames r.instances) → P r (before_finish language p r)
  steps_applying p r d = walked_applying language P walk p r (steps_make (births (new_names p r) p r) (length r.instances) (end_old p.kind language p r).0 (old_below language p r d) (births_rise p r))

  pub steps_pruning : (names : List Name) (r : Runtime) → P r (for_each (prune_instance language) (live_of (has names) r) r)
  steps_pruning names r = walked_pruning language P walk names r

  pub steps_hearing : (event : Name) (value : Value) (r : Runtime) → P r (hear_all language event value r)
  steps_hearing event value r = handled_hear language P walk.handled event value (reverse (live_of (λ n. true) r)) r
