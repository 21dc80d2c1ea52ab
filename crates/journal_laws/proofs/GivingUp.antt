-- A bag is given up right before the end of a pruned instance, and all bags where a reload is applied, in
-- every run of a client.
use Rattle.std.proofs.Common.{◌≡◌, ℕ, Bool, true, false, List, [], ◌∷◌, ◌++◌, refl, ap, sym, ◌∙◌}
use Rattle.std.specs.Prelude.{Some, map, reverse, ◌&&◌, ⊤}
use Rattle.std.specs.List.{list_all}
use Rattle.std.proofs.Math.Path.{subst}
use Rattle.std.proofs.lemmas.List.{append_assoc, append-nil}
use Rattle.hmr_types.specs.declared.words.PlanKind.{PlanKind}
use Rattle.hmr_types.specs.declared.words.PlanKind.TheVariants.{Load, Reload, Update}
use Rattle.output_lines.specs.declared.words.FaultPlace.TheVariants as place
use Rattle.output_lines.specs.declared.words.InstanceFate.{InstanceFate}
use Rattle.output_lines.specs.declared.words.InstanceFate.TheVariants.{Live, Replaced, Reloaded, Pruned}
use Rattle.std.proofs.lemmas.Bool.{false≢true}
use Prim.{⊥}
use Rattle.journal_laws.specs.Data.{disposed_left, DisposersHandOn}
use Rattle.output_lines.specs.declared.out_line.OutLine.TheVariants as line
use Rattle.hmr_types.specs.declared.value.Value.{Value}
use Rattle.core_model.specs.Names.{Name, has}
use Rattle.core_model.specs.Page.{Plan}
use Rattle.client_model.specs.Language.{Language, Bag, Evaluated}
use Rattle.client_model.specs.Instance.{Instance, numbered, places_of, is_held, disposes, prunes}
use Rattle.client_model.specs.Journal.{Happening, Journal, made, evaluated, not_run, registered, no_host, ran, dropped, ended, gave_up, gave_up_all, told}
use Rattle.client_model.specs.Runtime.{Runtime, Opening, Did, and_then, for_each}
use Rattle.client_model.specs.Running.{no_arguments, run_each, drop_each, end_instance}
use Rattle.client_model.specs.Linking.{new_names, number_after}
use Rattle.client_model.specs.Making.{Birth, evaluate, register_in, make}
use Rattle.client_model.specs.Applying.{live_of, reload_instance, replace_instance, replaced_instances, end_old, births, tell_all, set_aside, prune_instance, prune}
use Rattle.client_model.specs.Past.{Past, met, runtime_after, journal_of}
use Rattle.client_model.proofs.Acts.{IsHandled, by_make, handled_each, handled_replace, handled_run_each, handled_tell_all, handled_hear}
use Rattle.client_model.proofs.Takes.{IsTaken, lines_by, met_does}
use Rattle.journal_laws.specs.Runs.{OfEachRun}
use Rattle.journal_laws.specs.GivingUp.{IsAtPrune, IsAtReload, is_making, BagsGoAtPrunes, AllBagsGoAtReloads}
use Rattle.journal_laws.proofs.ValuesRegistry.{registry_joins}

-- What comes behind.

abbrev Next : Happening → Journal → Type 0
Next (made i) rest = ⊤
Next (evaluated k n before e) rest = ⊤
Next (not_run k n) rest = ⊤
Next (registered k h) rest = ⊤
Next (no_host k n label) rest = ⊤
Next (ran k spot n at before left) rest = ⊤
Next (dropped k spot) rest = ⊤
Next (ended k n fate) rest = ⊤
Next (gave_up n) rest = IsAtPrune n rest
Next gave_up_all rest = IsAtReload rest
Next (told l) rest = ⊤

-- behind each thing comes what belongs there
abbrev Follows : Journal → Type 0
Follows [] = ⊤
Follows (h ∷ journal) = Next h journal × Follows journal

-- more behind it changes nothing
next_more : (h : Happening) (rest more : Journal) → Next h rest → Next h (rest ++ more)
next_more (made i) rest more s = tt
next_more (evaluated k n before e) rest more s = tt
next_more (not_run k n) rest more s = tt
next_more (registered k h) rest more s = tt
next_more (no_host k n label) rest more s = tt
next_more (ran k spot n at before left) rest more s = tt
next_more (dropped k spot) rest more s = tt
next_more (ended k n fate) rest more s = tt
next_more (gave_up n) rest more s = record { number = s.number; rest = s.rest ++ more; ends = ap (λ xs. xs ++ more) s.ends }
next_more gave_up_all rest more s = record {
  making = s.making;
  client = s.client;
  rest = s.rest ++ more;
  makes = s.makes;
  applied = ap (λ xs. xs ++ more) s.applied ∙ append_assoc s.making (told (line.Applied s.client Reload) ∷ s.rest) more;
}
next_more (told l) rest more s = tt

follows_append : (a b : Journal) → Follows a → Follows b → Follows (a ++ b)
follows_append [] b s t = t
follows_append (h ∷ a) b s t = (next_more h a b s.0, follows_append a b s.1 t)

follows_at : (front : Journal) (h : Happening) (back : Journal) → Follows (front ++ h ∷ back) → Next h back
follows_at [] h back s = s.0
follows_at (f ∷ front) h back s = follows_at front h back s.1

follows_drops : (k : ℕ) (places : List ℕ) → Follows (map (dropped k) places)
follows_drops k [] = tt
follows_drops k (p ∷ places) = (tt, follows_drops k places)

-- Makings.

both : (a b : Bool) → a ≡ true → b ≡ true → (a && b) ≡ true
both true b e f = f
both false b e f = e

makings_append : (a b : Journal) → list_all is_making a ≡ true → list_all is_making b ≡ true → list_all is_making (a ++ b) ≡ true
makings_append [] b s t = t
makings_append (h ∷ a) b s t = by (is_making h) s (λ rest. makings_append a b rest t)
  where
    by : (c : Bool) → (c && list_all is_making a) ≡ true → (list_all is_making a ≡ true → list_all is_making (a ++ b) ≡ true) → (c && list_all is_making (a ++ b)) ≡ true
    by true s rest = rest s
    by false s rest = s

abbrev Makes : Journal → Type 0
Makes journal = (list_all is_making journal ≡ true) × Follows journal

makes_append : (a b : Journal) → Makes a → Makes b → Makes (a ++ b)
makes_append a b s t = (makings_append a b s.0 t.0, follows_append a b s.1 t.1)

module _ (language : Language) where
  make_makes : (b : Birth) (r : Runtime) → Makes (make language b r).1
  make_makes b r =
      let e : Evaluated = evaluate language b r in
      let more : Makes (register_in b e r).journal = registry_joins Makes (record {
        none = (refl, tt);
        join = makes_append;
        drop = λ k spot. (refl, (tt, tt));
        register = λ k h. (refl, (tt, tt));
        unhosted = λ k m label. (refl, (tt, tt));
      }) b e r in
      by_make (λ did. Makes did.1) language b r (refl, (tt, (tt, tt))) (more.0, (tt, (tt, more.1)))

  births_make : (bs : List Birth) (r : Runtime) → Makes (for_each (make language) bs r).1
  births_make [] r = (refl, tt)
  births_make (b ∷ bs) r = makes_append (make language b r).1 (for_each (make language) bs (make language b r).0).1 (make_makes b r) (births_make bs (make language b r).0)

  -- Handlers, and ends.

  abbrev Rightly : Runtime → Did → Type 0
  Rightly r did = Follows did.1

  handled : IsHandled language Rightly
  handled = record {
    nothing = λ r. tt;
    after = λ r did next s t. follows_append did.1 (next did.0).1 s t;
    run = λ at k i spot h arguments r e g takes. (tt, tt);
    drop = λ test k r. follows_drops k (places_of test (numbered r.instances k));
    wrote = λ l r. (tt, tt);
  }

  prune_one : (i : Instance) (r : Runtime) → Rightly r (prune_instance language i r)
  prune_one i r =
      let disposed : Did = run_each language place.Dispose no_arguments disposes i.number r in
      let pruned : Did = and_then disposed (run_each language place.Prune no_arguments prunes i.number) in
      let dropped : Did = and_then pruned (drop_each is_held i.number) in
      let before : Follows dropped.1 = handled.after r pruned (drop_each is_held i.number)
      (handled.after r disposed (run_each language place.Prune no_arguments prunes i.number)
      (handled_run_each language Rightly handled place.Dispose no_arguments (λ s h. refl) disposes i.number r)
      (handled_run_each language Rightly handled place.Prune no_arguments (λ s h. refl) prunes i.number disposed.0))
      (handled.drop is_held i.number pruned.0) in
      subst Follows (sym (append_assoc dropped.1 (gave_up i.name ∷ []) (ended i.number i.name Pruned ∷ [])))
      (follows_append dropped.1 (gave_up i.name ∷ ended i.number i.name Pruned ∷ []) before (record { number = i.number; rest = []; ends = refl }, (tt, tt)))

  prune_rightly : (names : List Name) (r : Runtime) → Rightly r (prune language names r)
  prune_rightly names r = follows_append (for_each (prune_instance language) (live_of (has names) r) r).1 [] (handled_each language Rightly handled (prune_instance language) prune_one (live_of (has names) r) r) tt

  reload_one : (i : Instance) (r : Runtime) → Rightly r (reload_instance i r)
  reload_one i r = handled.after r (drop_each is_held i.number r) (end_instance Reloaded i.number i.name) (handled.drop is_held i.number r) (tt, tt)

  -- A plan.

  -- as it is applied, of each kind
  abbrev applying : PlanKind → Plan → Runtime → Journal
  applying kind p r =
      let ended : Did = end_old kind language p r in
      let born : Did = for_each (make language) (births (new_names p r) p r) ended.0 in
      let tells : Did = tell_all kind language p r born.0 in
      let drops : Did = for_each (λ i s. drop_each is_held i.number s) (set_aside kind p r) tells.0 in
      (((ended.1 ++ born.1) ++ tells.1) ++ drops.1) ++ told (line.Applied drops.0.client kind) ∷ []

  parts : (a b c d : Journal) (h : Happening) → Follows a → Follows b → Follows c → Follows d → Next h [] → Follows ((((a ++ b) ++ c) ++ d) ++ h ∷ [])
  parts a b c d h s t u v w = follows_append (((a ++ b) ++ c) ++ d) (h ∷ []) (follows_append ((a ++ b) ++ c) d (follows_append (a ++ b) c (follows_append a b s t) u) v) (w, tt)

  regroup : (a b : Journal) (g t : Happening) → ((((a ++ g ∷ []) ++ b) ++ []) ++ []) ++ t ∷ [] ≡ a ++ (g ∷ (b ++ t ∷ []))
  regroup a b g t = ap (λ xs. xs ++ t ∷ []) (append-nil (((a ++ g ∷ []) ++ b) ++ []) ∙ append-nil ((a ++ g ∷ []) ++ b)) ∙ append_assoc (a ++ g ∷ []) b (t ∷ []) ∙ append_assoc a (g ∷ []) (b ++ t ∷ [])

  plan_rightly : (kind : PlanKind) (p : Plan) (r : Runtime) → Follows (applying kind p r)
  plan_rightly Load p r = parts [] (for_each (make language) (births (new_names p r) p r) r).1 [] [] (told (line.Applied (for_each (make language) (births (new_names p r) p r) r).0.client Load)) tt (births_make (births (new_names p r) p r) r).1 tt tt tt
  plan_rightly Reload p r =
      let ends : Did = for_each reload_instance (live_of (λ n. true) r) r in
      let old : Runtime = (end_old Reload language p r).0 in
      let born : Did = for_each (make language) (births (new_names p r) p r) old in
      let last : Happening = told (line.Applied born.0.client Reload) in
      let makes : Makes born.1 = births_make (births (new_names p r) p r) old in
      subst Follows (sym (regroup ends.1 born.1 gave_up_all last))
      (follows_append ends.1 (gave_up_all ∷ (born.1 ++ last ∷ [])) (handled_each language Rightly handled reload_instance reload_one (live_of (λ n. true) r) r)
      (record { making = born.1; client = born.0.client; rest = []; makes = makes.0; applied = refl }, follows_append born.1 (last ∷ []) makes.1 (tt, tt)))
  plan_rightly Update p r =
      let ends : Did = end_old Update language p r in
      let born : Did = for_each (make language) (births (new_names p r) p r) ends.0 in
      let tells : Did = tell_all Update language p r born.0 in
      let drops : Did = for_each (λ i s. drop_each is_held i.number s) (set_aside Update p r) tells.0 in
      parts ends.1 born.1 tells.1 drops.1 (told (line.Applied drops.0.client Update))
      (handled_each language Rightly handled (replace_instance language (number_after p r)) (λ i s. handled_replace language Rightly handled (number_after p r) i (λ t. (tt, tt)) s) (replaced_instances p r) r)
      (births_make (births (new_names p r) p r) ends.0).1
      (handled_tell_all language Rightly handled Update p r born.0)
      (handled_each language Rightly handled (λ i s. drop_each is_held i.number s) (λ i s. handled.drop is_held i.number s) (set_aside Update p r) tells.0)
      tt

  -- All that comes.

  taken : IsTaken language Rightly
  taken = record {
    quiet = λ r did q. lines_by Follows tt (λ l journal rest. (tt, rest)) did.1 q.lines;
    prunes = λ names r none loaded. prune_rightly names r;
    applies = λ p r e due counted. plan_rightly p.kind p r;
    hears = λ event value r loaded idle. handled_hear language Rightly handled event value (reverse (live_of (λ n. true) r)) r;
  }

  follows_run : (opening : Opening) (past : Past) → Follows (journal_of language opening past)
  follows_run opening [] = tt
  follows_run opening (came ∷ past) = follows_append (journal_of language opening past) (met language came (runtime_after language opening past)).1 (follows_run opening past) (met_does language Rightly taken (runtime_after language opening past) came)

  pub bags_go_at_prunes : OfEachRun language BagsGoAtPrunes
  bags_go_at_prunes opening past front back n split = follows_at front (gave_up n) back (subst Follows split (follows_run opening past))

  pub all_bags_go_at_reloads : OfEachRun language AllBagsGoAtReloads
  all_bags_go_at_reloads opening past front back split = follows_at front gave_up_all back (subst Follows split (follows_run opening past))

-- A client that gives a bag up at a replacement.

abbrev is_prune_fate : InstanceFate → Bool
is_prune_fate Live = false
is_prune_fate (Replaced k) = false
is_prune_fate Pruned = true
is_prune_fate Reloaded = false

abbrev fate_first : Journal → Bool
fate_first [] = false
fate_first (made i ∷ journal) = false
fate_first (evaluated k n before e ∷ journal) = false
fate_first (not_run k n ∷ journal) = false
fate_first (registered k h ∷ journal) = false
fate_first (no_host k n label ∷ journal) = false
fate_first (ran k spot n at before left ∷ journal) = false
fate_first (dropped k spot ∷ journal) = false
fate_first (ended k n fate ∷ journal) = is_prune_fate fate
fate_first (gave_up n ∷ journal) = false
fate_first (gave_up_all ∷ journal) = false
fate_first (told l ∷ journal) = false

pub told_is_refused : (r : Runtime) (front back : Journal) (n m : Name) (j k : ℕ) → BagsGoAtPrunes r (front ++ gave_up n ∷ ended j m (Replaced k) ∷ back) → ⊥
told_is_refused r front back n m j k law = let at_prune = law front (ended j m (Replaced k) ∷ back) n refl in false≢true (ap fate_first at_prune.ends)

abbrev is_empty_bag : Bag → Bool
is_empty_bag [] = true
is_empty_bag (row ∷ bag) = false

pub silence_is_refused : (r : Runtime) (front middle back : Journal) (n : Name) (j k : ℕ) (e : Evaluated) (key : Name) (value : Value) (bag : Bag) → disposed_left front j ≡ Some ((key, value) ∷ bag) → DisposersHandOn r (front ++ ended j n (Replaced k) ∷ (middle ++ evaluated k n [] e ∷ back)) → ⊥
silence_is_refused r front middle back n j k e key value bag left law = false≢true (sym (ap is_empty_bag (law front middle back j k n ((key, value) ∷ bag) [] e refl left)))
