-- What a client does with handlers leaves its frames; what ends instances cuts them.
use Rattle.std.proofs.Common.{◌≡◌, ℕ, suc, ◌+◌, length, Bool, true, false, List, [], ◌∷◌, refl, ap, sym, ◌∙◌}
use Rattle.std.specs.Prelude.{filter, reverse, cond, ◌&&◌, ◌||◌, ◌==◌, Option, Some, None, if◌then◌else◌}
use Rattle.std.specs.List.{list_any}
use Rattle.core_model.proofs.Naming.{both_true}
use Rattle.hmr_types.specs.declared.words.PlanKind.{PlanKind}
use Rattle.hmr_types.specs.declared.words.PlanKind.TheVariants.{Load, Reload, Update}
use Rattle.output_lines.specs.declared.words.FaultPlace.{FaultPlace}
use Rattle.output_lines.specs.declared.words.FaultPlace.TheVariants as place
use Rattle.output_lines.specs.declared.words.InstanceFate.TheVariants.{Reloaded, Pruned}
use Rattle.output_lines.specs.declared.words.InstanceFate.{InstanceFate}
use Rattle.output_lines.specs.declared.out_line.OutLine.{OutLine}
use Rattle.core_model.specs.Names.{Name, has}
use Rattle.core_model.specs.Page.{Plan}
use Rattle.core_model.proofs.Clients.{either_way}
use Rattle.client_model.specs.Language.{Language, Slots, Ran}
use Rattle.client_model.specs.Instance.{Instance, Handler, numbered, with_change, places_of, live_at, is_live, is_live_fate, is_held, disposes, prunes}
use Rattle.client_model.specs.Runtime.{Runtime, Did, for_each, write, bag_of}
use Rattle.hmr_types.specs.declared.value.Value.{Value}
use Rattle.client_model.specs.Firing.{hear_all}
use Rattle.client_model.specs.Running.{scope_of, run_deed, no_arguments, did_run, run_handler, run_of, run_each, drop_each, end_instance, give_up_bag, after_run}
use Rattle.client_model.specs.Applying.{is_left_behind, fate_by, reload_instance, live_of, replace_instance, end_old, tell_boundary, tell_all, drop_set_aside, prune_instance}
use Rattle.client_model.specs.Linking.{new_names, number_after, number_in, place_of}
use Rattle.client_model.proofs.Acts.{IsHandled, handled_tell, handled_tell_all, handled_set_aside, handled_hear, handled_lines}
use Rattle.world_laws.proofs.Frames.{Frame, frame, frames, dead, cut, cut_twice, cut_none, ended_by}

pub framed : (f : Instance → Instance) → ((i : Instance) → frame (f i) ≡ frame i) → (k : ℕ) (is : List Instance) → frames (with_change k f is) ≡ frames is
framed f same k [] = refl
framed f same k (i ∷ is) = ap (λ g. g ∷ frames (with_change k f is)) (by (i.number == k)) ∙ ap (λ fs. frame i ∷ fs) (framed f same k is)
  where
    by : (b : Bool) → frame (if b then f i else i) ≡ frame i
    by true = same i
    by false = refl

-- What leaves them.

abbrev pub Same : Runtime → Did → Type 0
Same r did = frames did.0.instances ≡ frames r.instances

same_each : {X : Type 0} (act : X → Runtime → Did) → ((x : X) (s : Runtime) → Same s (act x s)) → (xs : List X) (r : Runtime) → Same r (for_each act xs r)
same_each act f [] r = refl
same_each act f (x ∷ xs) r = same_each act f xs (act x r).0 ∙ f x r

same_run : (at : FaultPlace) (i : Instance) (spot : ℕ) (h : Handler) (left : Ran) (r : Runtime) → Same r (did_run at i spot h left r)
same_run at i spot h left r = framed (after_run spot h.kind left) (λ j. refl) i.number r.instances

pub same_drop : (test : Handler → Bool) (k : ℕ) (r : Runtime) → Same r (drop_each test k r)
same_drop test k r = framed _ (λ j. refl) k r.instances

module _ (language : Language) (at : FaultPlace) (arguments : Runtime → Handler → List (Option Slots)) where
  same_handler : (i : Instance) (spot : ℕ) (h : Option Handler) (r : Runtime) → Same r (run_handler language at arguments i spot h r)
  same_handler i spot None r = refl
  same_handler i spot (Some h) r = same_run at i spot h (run_deed language h.deed (scope_of language r i) (arguments r h) (bag_of r i.name)) r

  pub same_of : (i : Option Instance) (spot : ℕ) (r : Runtime) → Same r (run_of language at arguments i spot r)
  same_of None spot r = refl
  same_of (Some i) spot r = same_handler i spot _ r

  pub same_run_each : (test : Handler → Bool) (k : ℕ) (r : Runtime) → Same r (run_each language at arguments test k r)
  same_run_each test k r = same_each (λ spot s. run_of language at arguments (numbered s.instances k) spot s) (λ spot s. same_of (numbered s.instances k) spot s) (places_of test (numbered r.instances k)) r

same_handled : (language : Language) → IsHandled language Same
same_handled language = record {
  nothing = λ r. refl;
  after = λ r did next h k. k ∙ h;
  run = λ at k i spot h arguments r e g none. same_run at i spot h (run_deed language h.deed (scope_of language r i) arguments (bag_of r i.name)) r;
  drop = same_drop;
  wrote = λ l r. refl;
}

pub same_tell : (language : Language) (p : Plan) (before : Runtime) (pair : Name × Name) (r : Runtime) → Same r (tell_boundary language p before pair r)
same_tell language p before pair r = handled_tell language Same (same_handled language) p before pair r

pub same_tell_all : (kind : PlanKind) (language : Language) (p : Plan) (before r : Runtime) → Same r (tell_all kind language p before r)
same_tell_all kind language p before r = handled_tell_all language Same (same_handled language) kind p before r

pub same_set_aside : (language : Language) (p : Plan) (before r : Runtime) → Same r (drop_set_aside p before r)
same_set_aside language p before r = handled_set_aside language Same (same_handled language) p before r

pub same_lines : {X : Type 0} (language : Language) (l : X → Runtime → OutLine) (xs : List X) (r : Runtime) → Same r (for_each (λ x s. write (l x s) s) xs r)
same_lines language l xs r = handled_lines language Same (same_handled language) l xs r

pub same_hear : (language : Language) (event : Name) (value : Value) (r : Runtime) → Same r (hear_all language event value r)
same_hear language event value r = handled_hear language Same (same_handled language) event value (reverse (live_of (λ n. true) r)) r

-- What ends an instance.

abbrev pub Cuts : ℕ → Runtime → Did → Type 0
Cuts k r did = frames did.0.instances ≡ cut (λ j. j == k) (frames r.instances)

ended_frames : (fate : InstanceFate) → is_live_fate fate ≡ false → (k : ℕ) (is : List Instance) → frames (with_change k (λ i. record i { fate = fate }) is) ≡ cut (λ j. j == k) (frames is)
ended_frames fate e k [] = refl
ended_frames fate e k (i ∷ is) = ap (λ g. g ∷ frames (with_change k (λ j. record j { fate = fate }) is)) (by (i.number == k)) ∙ ap (λ fs. (if i.number == k then dead (frame i) else frame i) ∷ fs) (ended_frames fate e k is)
  where
    by : (b : Bool) → frame (if b then record i { fate = fate } else i) ≡ (if b then dead (frame i) else frame i)
    by true = ap (λ l. record (frame i) { live = l }) e
    by false = refl

cuts_end : (fate : InstanceFate) → is_live_fate fate ≡ false → (k : ℕ) (n : Name) (r s : Runtime) → frames s.instances ≡ frames r.instances → Cuts k r (end_instance fate k n s)
cuts_end fate e k n r s h = ended_frames fate e k s.instances ∙ ap (cut (λ j. j == k)) h

cuts_reload : (i : Instance) (r : Runtime) → Cuts i.number r (reload_instance i r)
cuts_reload i r = cuts_end Reloaded refl i.number i.name r (drop_each is_held i.number r).0 (same_drop is_held i.number r)

pub cuts_replace : (language : Language) (number : Name → Option ℕ) (i : Instance) (r : Runtime) → is_live_fate (fate_by (number i.name)) ≡ false → Cuts i.number r (replace_instance language number i r)
cuts_replace language number i r e =
    let disposed : Did = run_each language place.Dispose no_arguments disposes i.number r in
    cuts_end (fate_by (number i.name)) e i.number i.name r (drop_each is_left_behind i.number disposed.0).0
    (same_drop is_left_behind i.number disposed.0 ∙ same_run_each language place.Dispose no_arguments disposes i.number r)

pub cuts_prune : (language : Language) (i : Instance) (r : Runtime) → Cuts i.number r (prune_instance language i r)
cuts_prune language i r =
    let disposed : Did = run_each language place.Dispose no_arguments disposes i.number r in
    let pruning : Did = run_each language place.Prune no_arguments prunes i.number disposed.0 in
    cuts_end Pruned refl i.number i.name r (give_up_bag i.name (drop_each is_held i.number pruning.0).0).0
    (same_drop is_held i.number pruning.0 ∙ same_run_each language place.Prune no_arguments prunes i.number disposed.0 ∙ same_run_each language place.Dispose no_arguments disposes i.number r)

-- What ends a list of them.

abbrev pub numbers_have : List Instance → ℕ → Bool
numbers_have is k = list_any (λ i. k == i.number) is

module _ (good : Instance → Bool) (act : Instance → Runtime → Did) (cuts : (i : Instance) (s : Runtime) → good i ≡ true → Cuts i.number s (act i s)) where
  cuts_each : (q : Instance → Bool) → ((i : Instance) → q i ≡ true → good i ≡ true) → (is : List Instance) (r : Runtime) → frames (for_each act (filter q is) r).0.instances ≡ cut (numbers_have (filter q is)) (frames r.instances)
  cuts_each q g [] r = sym (cut_none (frames r.instances))
  cuts_each q g (i ∷ is) r = by (q i) refl (cuts_each q g is (act i r).0) (cuts_each q g is r)
    where
      by : (b : Bool) → q i ≡ b → frames (for_each act (filter q is) (act i r).0).0.instances ≡ cut (numbers_have (filter q is)) (frames (act i r).0.instances)
          → frames (for_each act (filter q is) r).0.instances ≡ cut (numbers_have (filter q is)) (frames r.instances)
          → frames (for_each act (cond b (i ∷ filter q is) (filter q is)) r).0.instances ≡ cut (numbers_have (cond b (i ∷ filter q is) (filter q is))) (frames r.instances)
      by true e h k = h ∙ ap (cut (numbers_have (filter q is))) (cuts i r (g i e)) ∙ cut_twice (λ j. j == i.number) (numbers_have (filter q is)) (frames r.instances)
      by false e h k = k

-- the same test over frames
numbers_ended : (test : Name → Bool) (is : List Instance) (k : ℕ) → numbers_have (filter (λ i. is_live i && test i.name) is) k ≡ ended_by test (frames is) k
numbers_ended test [] k = refl
numbers_ended test (i ∷ is) k = by (is_live i && test i.name) ∙ ap (λ b. ((is_live i && test i.name) && (i.number == k)) || b) (numbers_ended test is k)
  where
    by : (b : Bool) → numbers_have (cond b (i ∷ filter (λ j. is_live j && test j.name) is) (filter (λ j. is_live j && test j.name) is)) k ≡ ((b && (i.number == k)) || numbers_have (filter (λ j. is_live j && test j.name) is) k)
    by true = ap (λ b. b || numbers_have (filter (λ j. is_live j && test j.name) is) k) (either_way k i.number)
    by false = refl

cut_same : (f g : ℕ → Bool) → ((k : ℕ) → f k ≡ g k) → (fs : List Frame) → cut f fs ≡ cut g fs
cut_same f g e [] = refl
cut_same f g e (x ∷ xs) = ap (λ b. (if b then dead x else x) ∷ cut f xs) (e x.number) ∙ ap (λ ys. (if g x.number then dead x else x) ∷ ys) (cut_same f g e xs)

-- the live instances of names that pass the test are ended
abbrev pub Ends : (Name → Bool) → Runtime → Did → Type 0
Ends test r did = frames did.0.instances ≡ cut (ended_by test (frames r.instances)) (frames r.instances)

ends_live : (good : Instance → Bool) (act : Instance → Runtime → Did) → ((i : Instance) (s : Runtime) → good i ≡ true → Cuts i.number s (act i s)) → (test : Name → Bool) → ((i : Instance) → test i.name ≡ true → good i ≡ true) → (r : Runtime) → Ends test r (for_each act (live_of test r) r)
ends_live good act cuts test g r = cuts_each good act cuts (λ i. is_live i && test i.name) (λ i h. g i (both_true (is_live i) _ h).1) r.instances r ∙ cut_same _ _ (numbers_ended test r.instances) (frames r.instances)

-- what a prune ends
pub ends_prune : (language : Language) (names : List Name) (r : Runtime) → Ends (has names) r (for_each (prune_instance language) (live_of (has names) r) r)
ends_prune language names r = ends_live (λ i. true) (prune_instance language) (λ i s h. cuts_prune language i s) (has names) (λ i h. refl) r

-- what a plan ends, before its new instances are made
abbrev pub ended_names : PlanKind → Plan → Runtime → Name → Bool
ended_names Load p r n = false
ended_names Reload p r n = true
ended_names Update p r n = has p.replaced n && has (new_names p r) n

none_ended : (fs : List Frame) (k : ℕ) → ended_by (λ n. false) fs k ≡ false
none_ended [] k = refl
none_ended (f ∷ fs) k = by f.live ∙ none_ended fs k
  where
    by : (b : Bool) → (((b && false) && (f.number == k)) || ended_by (λ n. false) fs k) ≡ ended_by (λ n. false) fs k
    by true = refl
    by false = refl

number_new : (p : Plan) (r : Runtime) (n : Name) → has (new_names p r) n ≡ true → is_live_fate (fate_by (number_after p r n)) ≡ false
number_new p r n h = ap (λ b. is_live_fate (fate_by (if b then Some (suc (length r.instances) + place_of (new_names p r) n) else number_in (live_at r.instances n)))) h

pub ends_old : (kind : PlanKind) (language : Language) (p : Plan) (r : Runtime) → Ends (ended_names kind p r) r (end_old kind language p r)
ends_old Load language p r = sym (cut_same _ _ (none_ended (frames r.instances)) (frames r.instances) ∙ cut_none (frames r.instances))
ends_old Reload language p r = ends_live (λ i. true) reload_instance (λ i s h. cuts_reload i s) (λ n. true) (λ i h. refl) r
ends_old Update language p r = ends_live (λ i. has (new_names p r) i.name) (replace_instance language (number_after p r)) (λ i s h. cuts_replace language (number_after p r) i s (number_new p r i.name h)) (λ n. has p.replaced n && has (new_names p r) n) (λ i h. (both_true (has p.replaced i.name) _ h).1) r
