-- What a message passes on of bags: an instance that replaces another starts with what that one left, and any
-- other with the empty bag; and the numbers that are told of are those of the instances that it makes.
use Rattle.std.proofs.Common.{◌≡◌, ◌⊎◌, inl, inr, ℕ, suc, ◌+◌, ◌≤◌, ◌<◌, Bool, true, false, List, [], ◌∷◌, ◌++◌, length, refl, ap, sym, ◌∙◌, arith, Contains, subst}
use Rattle.std.specs.Prelude.{fold, map, not, Option, Some, None, is_some}
use Rattle.std.specs.List.{list_any}
use Rattle.std.proofs.lemmas.Bool.{false≢true}
use Rattle.std.proofs.lemmas.List.{length-map}
use Rattle.std.proofs.lemmas.Option.{same_Some}
use Prim.{⊥}
use Rattle.hmr_types.specs.declared.words.PlanKind.{PlanKind}
use Rattle.hmr_types.specs.declared.words.PlanKind.TheVariants.{Load, Reload, Update}
use Rattle.output_lines.specs.declared.words.InstanceFate.{InstanceFate}
use Rattle.output_lines.specs.declared.words.InstanceFate.TheVariants.{Replaced}
use Rattle.output_lines.specs.declared.out_line.OutLine.TheVariants as line
use Rattle.core_model.specs.Names.{Name, has, at}
use Rattle.core_model.specs.View.{Entry}
use Rattle.core_model.specs.Page.{Plan}
use Rattle.core_model.proofs.Naming.{and_both, filtered_from, has_is}
use Rattle.client_model.specs.Language.{Language, Bag, Evaluated}
use Rattle.client_model.specs.Instance.{Instance}
use Rattle.client_model.specs.Journal.{Happening, Journal, evaluated, ended, bag_after}
use Rattle.client_model.specs.Linking.{is_kept_kind, is_kept, next_needed, new_names, number_after, place_of}
use Rattle.client_model.specs.Order.{evaluation_order}
use Rattle.client_model.specs.Runtime.{Runtime, Did, for_each, bag_of}
use Rattle.client_model.specs.Making.{make}
use Rattle.client_model.specs.Applying.{live_of, births, end_old, replace_instance, replaced_instances, tell_all, drop_set_aside, finish, apply, prune_instance, prune}
use Rattle.client_model.proofs.Takes.{Quiet}
use Rattle.world_laws.proofs.Members.{MadeOf, map_from}
use Rattle.world_laws.proofs.Frames.{Frame, frame, frames, none_counted, made_length, live_one, Distinct, number_low, names_in, cut_length, ended_by}
use Rattle.world_laws.proofs.Ending.{ended_names, ends_prune, same_hear}
use Rattle.client_model.specs.Firing.{hear_all}
use Rattle.hmr_types.specs.declared.value.Value.{Value}
use Rattle.world_laws.proofs.Births.{birth_frame, new_frame, news, olds, frames_after, births_are, news_once, applied_frames, numbered_after, number_new}
use Rattle.world_laws.proofs.Holding.{HoldsOf, LeadsTo, new_leads, is_ready, loads_none}
use Rattle.journal_laws.specs.Data.{is_succeeded_by}
use Rattle.journal_laws.proofs.DataSplits.{inner_append, InFirst, InSecond, split_append, any_left}
use Rattle.journal_laws.proofs.DataEach.{Each, Free, free_append, each_append, each_at, each_line}
use Rattle.journal_laws.proofs.DataSparing.{some_of, spares_all, replacing}
use Rattle.journal_laws.proofs.DataResting.{NoneLeft, live_listed, live_named}
use Rattle.journal_laws.proofs.DataTelling.{IsCalm, EvaluatedAs, EndedAs, each_more, evaluated_more, ended_more, evaluated_calm, ended_calm, free_each, free_make, free_replaces, free_reload_all, free_prunes, free_hear, free_tell_all, free_set_aside}
use Rattle.journal_laws.proofs.DataHanding.{some_counted, one_each, LeftFor, replaces_left, replace_told, births_start}

-- what it does passes on the bags so, and the numbers are those that it makes or that were there
pub record Passing (r : Runtime) (did : Did) : Type 0 where
  pub grown : length r.instances ≤ length did.0.instances
  pub ends : Each (EndedAs (λ k n bag. k ≤ length did.0.instances)) (bag_of r) did.1
  pub starts : Each (EvaluatedAs (λ k n before. length r.instances < k)) (bag_of r) did.1
  pub succeeds : (front middle back : Journal) (j k : ℕ) (n : Name) (before : Bag) (e : Evaluated) → did.1 ≡ front ++ ended j n (Replaced k) ∷ (middle ++ evaluated k n before e ∷ back) → before ≡ fold (bag_after n) (bag_of r n) front
  pub others : (front back : Journal) (k : ℕ) (n : Name) (before : Bag) (e : Evaluated) → did.1 ≡ front ++ evaluated k n before e ∷ back → list_any (is_succeeded_by k n) front ≡ false → before ≡ []

-- where nothing is evaluated or replaced
none_passes : (r : Runtime) (did : Did) → length r.instances ≤ length did.0.instances → Each (EvaluatedAs (λ k n before. ⊥)) (bag_of r) did.1 → Each (EndedAs (λ k n bag. ⊥)) (bag_of r) did.1 → Passing r did
none_passes r did grown starts ends = record {
  grown = grown;
  ends = each_more (ended_more (λ k n bag. ⊥) (λ k n bag. k ≤ length did.0.instances) (λ k n bag x. absurd x)) (bag_of r) did.1 ends;
  starts = each_more (evaluated_more (λ k n before. ⊥) (λ k n before. length r.instances < k) (λ k n bag x. absurd x)) (bag_of r) did.1 starts;
  succeeds = λ front middle back j k n before e split. absurd (each_at (EndedAs (λ k n bag. ⊥)) (bag_of r) front (ended j n (Replaced k)) (middle ++ evaluated k n before e ∷ back) (subst (Each (EndedAs (λ k n bag. ⊥)) (bag_of r)) split ends));
  others = λ front back k n before e split. absurd (each_at (EvaluatedAs (λ k n before. ⊥)) (bag_of r) front (evaluated k n before e) back (subst (Each (EvaluatedAs (λ k n before. ⊥)) (bag_of r)) split starts));
}

pub quiet_passes : (r : Runtime) (did : Did) → Quiet r did → Passing r did
quiet_passes r did q = none_passes r did (subst (λ is. length r.instances ≤ length is) (sym q.instances) (omega arith))
    (each_line (EvaluatedAs (λ k n before. ⊥)) (evaluated_calm (λ k n before. ⊥)).free (bag_of r) did.1 q.lines)
    (each_line (EndedAs (λ k n bag. ⊥)) (ended_calm (λ k n bag. ⊥)).free (bag_of r) did.1 q.lines)

pub prune_passes : (language : Language) (names : List Name) (r : Runtime) → Passing r (prune language names r)
prune_passes language names r =
    let is : List Instance = live_of (has names) r in
    let pruned : Did = for_each (prune_instance language) is r in
    none_passes r (prune language names r)
    (omega (arith, length-map r.instances frame, length-map pruned.0.instances frame, cut_length (ended_by (has names) (frames r.instances)) (frames r.instances), ap (λ (fs : List Frame). length fs) (ends_prune language names r)))
    (each_append (EvaluatedAs (λ k n before. ⊥)) (bag_of r) pruned.1 [] (free_prunes (EvaluatedAs (λ k n before. ⊥)) (evaluated_calm (λ k n before. ⊥)) language is r (bag_of r)) tt)
    (each_append (EndedAs (λ k n bag. ⊥)) (bag_of r) pruned.1 [] (free_prunes (EndedAs (λ k n bag. ⊥)) (ended_calm (λ k n bag. ⊥)) language is r (bag_of r)) tt)

pub hear_passes : (language : Language) (event : Name) (value : Value) (r : Runtime) → Passing r (hear_all language event value r)
hear_passes language event value r =
    let heard : Did = hear_all language event value r in
    none_passes r heard
    (omega (arith, length-map r.instances frame, length-map heard.0.instances frame, ap (λ (fs : List Frame). length fs) (same_hear language event value r)))
    (free_hear (EvaluatedAs (λ k n before. ⊥)) (evaluated_calm (λ k n before. ⊥)) language event value r (bag_of r))
    (free_hear (EndedAs (λ k n bag. ⊥)) (ended_calm (λ k n bag. ⊥)) language event value r (bag_of r))

-- A plan.

-- the number of a new instance of this name
abbrev IsNew : Plan → Runtime → ℕ → Name → Type 0
IsNew p r k n = (number_after p r n ≡ Some k) × (has (new_names p r) n ≡ true)

replaced_kind : (b : Bool) (o : Option Entry) → not (is_kept_kind Update b o) ≡ true → is_some o ≡ true → b ≡ true
replaced_kind true o e h = refl
replaced_kind false None e h = absurd (false≢true h)
replaced_kind false (Some x) e h = absurd (false≢true e)

-- a new instance of a live name replaces one in an update
replaced_new : (p : Plan) (r : Runtime) → p.kind ≡ Update → (n : Name) → has (new_names p r) n ≡ true → is_some (at r.page.view n) ≡ true → has p.replaced n ≡ true
replaced_new p r kind n new there = replaced_kind (has p.replaced n) (at r.page.view n) (subst (λ kind. not (is_kept_kind kind (has p.replaced n) (at r.page.view n)) ≡ true) kind (filtered_from (λ m. not (is_kept p r.page.view m)) (evaluation_order r.roots p r.page.view) n new).0) there

-- the first of five parts
five : (a b c d e : Journal) → ((((a ++ b) ++ c) ++ d) ++ e) ≡ a ++ (((b ++ c) ++ d) ++ e)
five [] b c d e = refl
five (x ∷ a) b c d e = ap (λ xs. x ∷ xs) (five a b c d e)

module _ (language : Language) (p : Plan) (r : Runtime) (plan_is : r.page.plan ≡ Some p) (needed : next_needed p r ≡ None) (h : HoldsOf r) (empty : NoneLeft r) where
  abbrev pub old_ended : Did
  old_ended = end_old p.kind language p r

  abbrev pub new_born : Did
  new_born = for_each (make language) (births (new_names p r) p r) old_ended.0

  abbrev pub all_told : Did
  all_told = tell_all p.kind language p r new_born.0

  abbrev pub all_dropped : Did
  all_dropped = drop_set_aside p r all_told.0

  abbrev pub after_old : Journal
  after_old = ((new_born.1 ++ all_told.1) ++ all_dropped.1) ++ (finish p all_dropped.0).1

  pub whole : (apply language p r).1 ≡ old_ended.1 ++ after_old
  whole = five old_ended.1 new_born.1 all_told.1 all_dropped.1 (finish p all_dropped.0).1

  -- what each replaced instance leaves, and each new one starts with
  abbrev Handed : ℕ → Name → Bag → Type 0
  Handed k n bag = IsNew p r k n × (bag ≡ bag_of old_ended.0 n)

  old_free : (Q : Happening → (Name → Bag) → Type 0) (calm : IsCalm Q) → ((k : ℕ) (n : Name) (fate : InstanceFate) (bags : Name → Bag) → Q (ended k n fate) bags) → (kind : PlanKind) → Free Q calm.free (end_old kind language p r).1
  old_free Q calm ends Load = λ bags. tt
  old_free Q calm ends Reload = free_reload_all Q calm language r
  old_free Q calm ends Update = free_replaces Q calm language ends (number_after p r) (replaced_instances p r) r

  pub rest_free : (Q : Happening → (Name → Bag) → Type 0) (calm : IsCalm Q) → Free Q calm.free new_born.1 → Free Q calm.free after_old
  rest_free Q calm births =
      free_append Q calm.free ((new_born.1 ++ all_told.1) ++ all_dropped.1) (finish p all_dropped.0).1
      (free_append Q calm.free (new_born.1 ++ all_told.1) all_dropped.1
      (free_append Q calm.free new_born.1 all_told.1 births (free_tell_all Q calm language p.kind p r new_born.0))
      (free_set_aside Q calm language p r all_told.0))
      (λ bags. (calm.free.line (line.Applied all_dropped.0.client p.kind) bags, tt))

  old_left : (kind : PlanKind) → Each (EndedAs (LeftFor (number_after p r) (end_old kind language p r).0)) (bag_of r) (end_old kind language p r).1
  old_left Load = tt
  old_left Reload = free_reload_all (EndedAs (LeftFor (number_after p r) (end_old Reload language p r).0)) (ended_calm (LeftFor (number_after p r) (end_old Reload language p r).0)) language r (bag_of r)
  old_left Update = replaces_left language (number_after p r) (replaced_instances p r) r (live_named (ended_names Update p r) r h.numbered) (one_each (ended_names Update p r) r.instances h.one)

  abbrev Left : ℕ → Name → Bag → Type 0
  Left = LeftFor (number_after p r) old_ended.0

  all_left : Each (EndedAs Left) (bag_of r) (apply language p r).1
  all_left = subst (Each (EndedAs Left) (bag_of r)) (sym whole) (each_append (EndedAs Left) (bag_of r) old_ended.1 after_old (old_left p.kind)
      (rest_free (EndedAs Left) (ended_calm Left) (free_each (EndedAs Left) (ended_calm Left) language (make language) (λ b s. free_make (EndedAs Left) (ended_calm Left) language b s (λ i bags. tt) (λ bags. tt) (λ e bags. tt)) (births (new_names p r) p r) old_ended.0)
      (λ n. fold (bag_after n) (bag_of r n) old_ended.1)))

  births_frames : map birth_frame (births (new_names p r) p r) ≡ news p r
  births_frames = births_are p r (is_ready p r plan_is needed h) (new_names p r) (λ n t. t)

  is_new : (f : Frame) → MadeOf (new_frame p r) (new_names p r) f → IsNew p r f.number f.name
  is_new f m =
      let new : has (new_names p r) m.of ≡ true = (has_is (new_names p r) m.of).0 m.there in
      subst (λ (g : Frame). IsNew p r g.number g.name) m.makes (number_new p r m.of new, new)

  births_handed : (bags : Name → Bag) → Each (EvaluatedAs Handed) bags new_born.1
  births_handed = births_start language Handed (births (new_names p r) p r) old_ended.0 (subst (λ fs. Distinct (names_in fs)) (sym births_frames) (news_once p r))
      (λ f before c e. (is_new f (map_from (new_frame p r) (new_names p r) f (subst (λ fs. Contains fs f) births_frames c)), e))

  all_handed : Each (EvaluatedAs Handed) (bag_of r) (apply language p r).1
  all_handed = subst (Each (EvaluatedAs Handed) (bag_of r)) (sym whole) (each_append (EvaluatedAs Handed) (bag_of r) old_ended.1 after_old
      (old_free (EvaluatedAs Handed) (evaluated_calm Handed) (λ k n fate bags. tt) p.kind (bag_of r))
      (rest_free (EvaluatedAs Handed) (evaluated_calm Handed) births_handed (λ n. fold (bag_after n) (bag_of r n) old_ended.1)))

  -- Numbers.

  frames_applied : frames (apply language p r).0.instances ≡ frames_after p r
  frames_applied = applied_frames language p r (is_ready p r plan_is needed h)

  count_applied : length (apply language p r).0.instances ≡ length (frames_after p r)
  count_applied = sym (length-map (apply language p r).0.instances frame) ∙ ap (λ (fs : List Frame). length fs) frames_applied

  number_counted : (n : Name) (k : ℕ) → number_after p r n ≡ Some k → k ≤ length (apply language p r).0.instances
  number_counted n k e =
      let l : LeadsTo (frames_after p r) n k = new_leads p r n k e in
      omega (arith, number_low (frames_after p r) (numbered_after p r h.numbered) l.to l.there, l.number, count_applied)

  number_above : (k : ℕ) (n : Name) → IsNew p r k n → length r.instances < k
  number_above k n new = omega (arith, same_Some (suc (length r.instances) + place_of (new_names p r) n) k (sym (number_new p r n new.1) ∙ new.0))

  -- What an instance that replaces none starts with.

  none_is : {X : Type 0} (o : Option X) → is_some o ≡ false → o ≡ None
  none_is None e = refl
  none_is (Some x) e = absurd (false≢true (sym e))

  old_empty : (kind : PlanKind) → p.kind ≡ kind → (k : ℕ) (n : Name) → IsNew p r k n → list_any (is_succeeded_by k n) (end_old kind language p r).1 ≡ false → bag_of (end_old kind language p r).0 n ≡ []
  old_empty Load e k n new t = empty n (none_is (live_one (frames r.instances) n) (h.live n ∙ loads_none p r plan_is needed h n e))
  old_empty Reload e k n new t = refl
  old_empty Update e k n new t = by (live_one (frames r.instances) n) refl
    where
      unlisted : (b : Bool) → some_of n (replaced_instances p r) ≡ b → live_one (frames r.instances) n ≡ None → b ≡ false
      unlisted true s f = absurd (omega (arith, some_counted (ended_names Update p r) n r.instances s, none_counted (frames r.instances) n f))
      unlisted false s f = refl

      by : (o : Option Frame) → live_one (frames r.instances) n ≡ o → bag_of (end_old Update language p r).0 n ≡ []
      by None f = spares_all (replace_instance language (number_after p r)) (replacing language (number_after p r)) n (replaced_instances p r) r (live_named (ended_names Update p r) r h.numbered) (unlisted (some_of n (replaced_instances p r)) refl f) ∙ empty n f
      by (Some g) f = absurd (false≢true (sym t ∙ replace_told language (number_after p r) n k new.0 (replaced_instances p r) r
          (live_listed (ended_names Update p r) n (and_both (has p.replaced n) (has (new_names p r) n) (replaced_new p r e n new.1 (sym (h.live n) ∙ ap is_some f)) new.1) r.instances (ap is_some f))))

  others_empty : (front back : Journal) (k : ℕ) (n : Name) (before : Bag) (e : Evaluated) → (apply language p r).1 ≡ front ++ evaluated k n before e ∷ back → list_any (is_succeeded_by k n) front ≡ false → before ≡ []
  others_empty front back k n before e split t = handed.1 ∙ by (split_append old_ended.1 after_old front (evaluated k n before e) back (sym whole ∙ split))
    where
      handed : Handed k n before
      handed = each_at (EvaluatedAs Handed) (bag_of r) front (evaluated k n before e) back (subst (Each (EvaluatedAs Handed) (bag_of r)) split all_handed)

      not_told : (rest : Journal) → front ≡ old_ended.1 ++ rest → (b : Bool) → list_any (is_succeeded_by k n) old_ended.1 ≡ b → b ≡ false
      not_told rest f true s = absurd (false≢true (sym t ∙ ap (list_any (is_succeeded_by k n)) f ∙ any_left (is_succeeded_by k n) old_ended.1 rest s))
      not_told rest f false s = refl

      by : InFirst old_ended.1 front (evaluated k n before e) ⊎ InSecond old_ended.1 after_old front (evaluated k n before e) back → bag_of old_ended.0 n ≡ []
      by (inl s) = absurd (each_at (EvaluatedAs (λ j m bag. ⊥)) (bag_of r) front (evaluated k n before e) s.rest (subst (Each (EvaluatedAs (λ j m bag. ⊥)) (bag_of r)) s.first_is (old_free (EvaluatedAs (λ j m bag. ⊥)) (evaluated_calm (λ j m bag. ⊥)) (λ j m fate bags. tt) p.kind (bag_of r))))
      by (inr s) = old_empty p.kind refl k n handed.0 (not_told s.rest s.front_is (list_any (is_succeeded_by k n) old_ended.1) refl)

  pub apply_passes : Passing r (apply language p r)
  apply_passes = record {
    grown = omega (arith, count_applied, made_length (news p r) (olds p r), cut_length (ended_by (ended_names p.kind p r) (frames r.instances)) (frames r.instances), length-map r.instances frame);
    ends = each_more (ended_more Left (λ k n bag. k ≤ length (apply language p r).0.instances) (λ k n bag s. number_counted n k s.0)) (bag_of r) (apply language p r).1 all_left;
    starts = each_more (evaluated_more Handed (λ k n before. length r.instances < k) (λ k n before s. number_above k n s.0)) (bag_of r) (apply language p r).1 all_handed;
    succeeds = λ front middle back j k n before e split.
        (each_at (EvaluatedAs Handed) (bag_of r) (front ++ ended j n (Replaced k) ∷ middle) (evaluated k n before e) back (subst (Each (EvaluatedAs Handed) (bag_of r)) (split ∙ inner_append front middle back (ended j n (Replaced k)) (evaluated k n before e)) all_handed)).1
        ∙ sym (each_at (EndedAs Left) (bag_of r) front (ended j n (Replaced k)) (middle ++ evaluated k n before e ∷ back) (subst (Each (EndedAs Left) (bag_of r)) split all_left)).1;
    others = others_empty;
  }
