-- What a plan does leaves versions counted: what ends, what is made, who is told and what is dropped.
use Rattle.std.proofs.Common.{◌≡◌, ℕ, Bool, true, false, List, [], ◌∷◌, ◌++◌, map, refl, ap, sym, ◌∙◌}
use Rattle.std.specs.Prelude.{◌==◌, ◌||◌, cond, Option, Some, None, IfSome, is_some, option_map, if◌then◌else◌, ⊤}
use Rattle.std.proofs.Math.Path.{subst}
use Rattle.std.proofs.lemmas.Bool.{false≢true}
use Rattle.std.proofs.lemmas.Option.{none-some, same_Some}
use Rattle.output_lines.specs.declared.words.FaultPlace.{FaultPlace}
use Rattle.output_lines.specs.declared.words.FaultPlace.TheVariants as place
use Rattle.output_lines.specs.declared.words.InstanceFate.{InstanceFate}
use Rattle.output_lines.specs.declared.words.InstanceFate.TheVariants.{Reloaded}
use Rattle.update_msgs.specs.Writable.{IsVersion}
use Rattle.core_model.specs.Names.{Name, at, has, same_name}
use Rattle.core_model.specs.Page.{Plan, entry_at}
use Rattle.core_model.specs.Sources.{Text}
use Rattle.core_model.specs.View.{Entry}
use Rattle.core_model.proofs.Naming.{same_true}
use Rattle.client_model.specs.Applying.{birth_of, births, fate_by, is_left_behind, itself_in, listed_in, reload_all, reload_instance, replace_instance, run_dep, run_own, tell_boundary, live_of}
use Rattle.client_model.specs.Instance.{Instance, Handler, accepts_dep, accepts_own, disposes, is_held, is_live_fate, live_at, numbered, with_dropped}
use Rattle.client_model.specs.Language.{Language, Ran}
use Rattle.client_model.specs.Linking.{links_after, new_names, number_after, number_in}
use Rattle.client_model.specs.Making.{Birth, make}
use Rattle.client_model.specs.Runtime.{Runtime, Did, for_each}
use Rattle.client_model.specs.Running.{after_run, did_run, drop_each, end_instance, no_arguments, run_deed, run_each, scope_of}
use Rattle.client_model.proofs.Acts.{IsHandled, by_make}
use Rattle.live_instances.specs.Counted.{AreCountedIn}
use Rattle.live_instances.specs.Orderly.{Orderly, without_number}
use Rattle.live_instances.proofs.Order.{ended_number, ended_order, live_named, live_numbered, quiet_number, quiet_order}
use Rattle.live_instances.proofs.Counting.{IsCounted, IsQuiet, Runs, names_kept, run_counts, runs_then, some_kept}
use Rattle.live_instances.proofs.Living.{AllThere, Apart, IsThere, NotIn}

-- Handlers are dropped, and an instance ends.

pub drop_counted : (test : Handler → Bool) (k : ℕ) (r : Runtime) → IsCounted r → IsCounted (drop_each test k r).0
drop_counted test k r c = record {
  versions = some_kept (λ i. IsVersion i.version) (λ i. record i { handlers = with_dropped test i.handlers }) (λ i. refl) (λ i v. v) k r.instances c.versions;
  unsent = c.unsent;
}

end_counted : (fate : InstanceFate) (k : ℕ) (n : Name) (r : Runtime) → IsCounted r → IsCounted (end_instance fate k n r).0
end_counted fate k n r c = record {
  versions = some_kept (λ i. IsVersion i.version) (λ i. record i { fate = fate }) (λ i. refl) (λ i v. v) k r.instances c.versions;
  unsent = c.unsent;
}

pub drops_counted : (test : Handler → Bool) (is : List Instance) (r : Runtime) → IsCounted r → IsCounted (for_each (λ i s. drop_each test i.number s) is r).0
drops_counted test [] r c = c
drops_counted test (i ∷ is) r c = drops_counted test is (drop_each test i.number r).0 (drop_counted test i.number r c)

-- The page is loaded anew.

each_reload_counted : (is : List Instance) (r : Runtime) → IsCounted r → IsCounted (for_each reload_instance is r).0
each_reload_counted [] r c = c
each_reload_counted (i ∷ is) r c = each_reload_counted is (reload_instance i r).0 (end_counted Reloaded i.number i.name (drop_each is_held i.number r).0 (drop_counted is_held i.number r c))

pub reload_counted : (r : Runtime) → IsCounted r → IsCounted (reload_all r).0
reload_counted r c =
    let ended : IsCounted (for_each reload_instance (live_of (λ n. true) r) r).0 = each_reload_counted (live_of (λ n. true) r) r c in
    record { versions = ended.versions; unsent = ended.unsent }

-- Instances are replaced.

-- what is live stands under its number
named_there : (r : Runtime) → Orderly r.instances → (n : Name) (k : ℕ) → number_in (live_at r.instances n) ≡ Some k → IfSome (numbered r.instances k) (λ j. j.name ≡ n)
named_there r o n k h = by (live_at r.instances n) refl h
  where
    by : (found : Option Instance) → live_at r.instances n ≡ found → number_in found ≡ Some k → IfSome (numbered r.instances k) (λ j. j.name ≡ n)
    by None e t = absurd (none-some k t)
    by (Some j) e t =
        subst (λ m. IfSome (numbered r.instances m) (λ x. x.name ≡ n)) (same_Some j.number k t)
        (subst (λ found. IfSome found (λ x. x.name ≡ n)) (sym (live_numbered n r.instances o.numbers j e))
        (same_true j.name n (live_named n r.instances j e)))

there_on : (r s : Runtime) → IsQuiet r s → (is : List Instance) → AllThere r is → AllThere s is
there_on r s q [] h = tt
there_on r s q (i ∷ is) h = (q.live i.name ∙ h.0, there_on r s q is h.1)

there_after : (k : ℕ) (r s : Runtime) → ((n : Name) → number_in (live_at s.instances n) ≡ without_number k (number_in (live_at r.instances n))) → (is : List Instance) → NotIn k is → AllThere r is → AllThere s is
there_after k r s ends [] apart h = tt
there_after k r s ends (i ∷ is) apart h =
    (ends i.name ∙ ap (without_number k) h.0 ∙ ap (λ b. if b then None else Some i.number) apart.0, there_after k r s ends is apart.1 h.1)

drop_runs : (test : Handler → Bool) (k : ℕ) (n : Name) (r : Runtime) → Runs r (drop_each test k r).0 n
drop_runs test k n r = record {
  quiet = record {
    orderly = quiet_order k (λ i. record i { handlers = with_dropped test i.handlers }) (record { number = λ i. refl; name = λ i. refl; fate = λ i. refl }) r.instances;
    live = λ m. quiet_number k (λ i. record i { handlers = with_dropped test i.handlers }) (record { number = λ i. refl; name = λ i. refl; fate = λ i. refl }) m r.instances;
    names = names_kept (λ i. record i { handlers = with_dropped test i.handlers }) (λ i. refl) (λ i. refl) k r.instances;
  };
  counted = λ c o live. drop_counted test k r c;
}

dead_by : (o : Option ℕ) → is_some o ≡ true → is_live_fate (fate_by o) ≡ false
dead_by None t = absurd (false≢true t)
dead_by (Some k) t = refl

module _ (language : Language) (number : Name → Option ℕ) where
  -- each of these has a number
  abbrev pub HaveNumbers : List Instance → Type 0
  HaveNumbers [] = ⊤
  HaveNumbers (i ∷ is) = (is_some (number i.name) ≡ true) × HaveNumbers is

  -- before it ends
  abbrev dying : Instance → Runtime → Runtime
  dying i r = (drop_each is_left_behind i.number (run_each language place.Dispose no_arguments disposes i.number r).0).0

  dying_runs : (i : Instance) (r : Runtime) → Orderly r.instances → IsThere r i → Runs r (dying i r) i.name
  dying_runs i r o h =
      let a : Runtime = (run_each language place.Dispose no_arguments disposes i.number r).0 in
      runs_then r a (dying i r) i.name (run_counts language place.Dispose no_arguments i.number i.name disposes r (named_there r o i.name i.number h)) (drop_runs is_left_behind i.number i.name a)

  pub replaced_counted : (is : List Instance) (r : Runtime) → HaveNumbers is → Apart is → AllThere r is → Orderly r.instances → IsCounted r → IsCounted (for_each (replace_instance language number) is r).0
  replaced_counted [] r numbers apart h o c = c
  replaced_counted (i ∷ is) r numbers apart h o c =
      let s : Runtime = dying i r in
      let runs : Runs r s i.name = dying_runs i r o h.0 in
      let orderly : Orderly s.instances = runs.quiet.orderly o in
      let fate : InstanceFate = fate_by (number i.name) in
      let dead : is_live_fate fate ≡ false = dead_by (number i.name) numbers.0 in
      let t : Runtime = (end_instance fate i.number i.name s).0 in
      replaced_counted is t numbers.1 apart.1
      (there_after i.number s t (λ n. ended_number i.number (λ j. record j { fate = fate }) (record { number = λ j. refl; name = λ j. refl; dead = λ j. dead }) n s.instances (λ m. orderly.single n m)) is apart.0 (there_on r s runs.quiet is h.1))
      (ended_order i.number (λ j. record j { fate = fate }) (record { number = λ j. refl; name = λ j. refl; dead = λ j. dead }) s.instances orderly)
      (end_counted fate i.number i.name s (runs.counted c o (ap is_some h.0)))

-- New instances are made.

one_more : (P : Instance → Type 0) (i : Instance) (is : List Instance) → P i → ((k : ℕ) → IfSome (numbered is k) P) → (k : ℕ) → IfSome (numbered (i ∷ is) k) P
one_more P i is p h k = by (i.number == k)
  where
    by : (b : Bool) → IfSome (cond b (Some i) (numbered is k)) P
    by true = p
    by false = h k

-- each has a counted version
abbrev pub HaveVersions : List Birth → Type 0
HaveVersions [] = ⊤
HaveVersions (b ∷ bs) = IsVersion b.entry.version × HaveVersions bs

pub made_counted : (language : Language) (bs : List Birth) (r : Runtime) → HaveVersions bs → IsCounted r → IsCounted (for_each (make language) bs r).0
made_counted language [] r v c = c
made_counted language (b ∷ bs) r v c = made_counted language bs (make language b r).0 v.1
    (by_make (λ did. IsCounted did.0) language b r
    (record { versions = one_more (λ i. IsVersion i.version) _ r.instances v.0 c.versions; unsent = c.unsent })
    (record { versions = one_more (λ i. IsVersion i.version) _ r.instances v.0 c.versions; unsent = c.unsent }))

pub births_counted : (p : Plan) (r : Runtime) → AreCountedIn p r.page.view → (names : List Name) → HaveVersions (births names p r)
births_counted p r counted [] = tt
births_counted p r counted (n ∷ names) = by (entry_at p r.page.view n) refl (at r.texts n) (number_after p r n) (births_counted p r counted names)
  where
    by : (e : Option Entry) → entry_at p r.page.view n ≡ e → (t : Option Text) (k : Option ℕ) → HaveVersions (births names p r) → HaveVersions (birth_of e t k (links_after p r) n ++ births names p r)
    by None e t k rest = rest
    by (Some x) e None k rest = rest
    by (Some x) e (Some t) None rest = rest
    by (Some x) e (Some t) (Some k) rest = (counted n x e, rest)

-- what is live once one is made
born_live : (b : Bool) (k : ℕ) (i : Instance) (rest : Option Instance) → i.number ≡ k → number_in (cond b (Some i) rest) ≡ (if b then Some k else number_in rest)
born_live true k i rest e = ap Some e
born_live false k i rest e = refl

made_live : (language : Language) (b : Birth) (r : Runtime) (n : Name) → number_in (live_at (make language b r).0.instances n) ≡ (if same_name b.name n then Some b.number else number_in (live_at r.instances n))
made_live language b r n = by_make (λ did. number_in (live_at did.0.instances n) ≡ (if same_name b.name n then Some b.number else number_in (live_at r.instances n))) language b r
    (born_live (same_name b.name n) b.number _ (live_at r.instances n) refl) (born_live (same_name b.name n) b.number _ (live_at r.instances n) refl)

-- no other name is live but those that were
other_step : (b c : Bool) (k : ℕ) (o : Option ℕ) → (b || c) ≡ false → (if b then Some k else o) ≡ o
other_step true c k o e = absurd (false≢true (sym e))
other_step false c k o e = refl

rest_step : (b c : Bool) → (b || c) ≡ false → c ≡ false
rest_step true c e = absurd (false≢true (sym e))
rest_step false c e = e

pub others_live : (language : Language) (bs : List Birth) (r : Runtime) (n : Name) → has (map (λ b. b.name) bs) n ≡ false → number_in (live_at (for_each (make language) bs r).0.instances n) ≡ number_in (live_at r.instances n)
others_live language [] r n h = refl
others_live language (b ∷ bs) r n h =
    others_live language bs (make language b r).0 n (rest_step (same_name b.name n) (has (map (λ b. b.name) bs) n) h)
    ∙ made_live language b r n ∙ other_step (same_name b.name n) (has (map (λ b. b.name) bs) n) b.number (number_in (live_at r.instances n)) h

-- and theirs are
stays_step : (b : Bool) (k : ℕ) (o : Option ℕ) → is_some o ≡ true → is_some (if b then Some k else o) ≡ true
stays_step true k o h = refl
stays_step false k o h = h

stays_live : (language : Language) (bs : List Birth) (r : Runtime) (n : Name) → is_some (number_in (live_at r.instances n)) ≡ true → is_some (number_in (live_at (for_each (make language) bs r).0.instances n)) ≡ true
stays_live language [] r n h = h
stays_live language (b ∷ bs) r n h =
    stays_live language bs (make language b r).0 n (ap is_some (made_live language b r n) ∙ stays_step (same_name b.name n) b.number (number_in (live_at r.instances n)) h)

pub news_live : (language : Language) (bs : List Birth) (r : Runtime) (n : Name) → has (map (λ b. b.name) bs) n ≡ true → is_some (number_in (live_at (for_each (make language) bs r).0.instances n)) ≡ true
news_live language [] r n h = absurd (false≢true h)
news_live language (b ∷ bs) r n h = by (same_name b.name n) refl h (news_live language bs (make language b r).0 n)
  where
    by : (c : Bool) → same_name b.name n ≡ c → (c || has (map (λ b. b.name) bs) n) ≡ true → (has (map (λ b. b.name) bs) n ≡ true → is_some (number_in (live_at (for_each (make language) (b ∷ bs) r).0.instances n)) ≡ true)
        → is_some (number_in (live_at (for_each (make language) (b ∷ bs) r).0.instances n)) ≡ true
    by true e t rest = stays_live language bs (make language b r).0 n (ap is_some (made_live language b r n ∙ ap (λ c. if c then Some b.number else number_in (live_at r.instances n)) e))
    by false e t rest = rest t

-- Callbacks are called.

named_on : (n : Name) (a b : Option Instance) → option_map (λ i. i.name) b ≡ option_map (λ i. i.name) a → IfSome a (λ i. i.name ≡ n) → IfSome b (λ i. i.name ≡ n)
named_on n a None e h = tt
named_on n None (Some j) e h = absurd (none-some j.name (sym e))
named_on n (Some i) (Some j) e h = same_Some _ _ e ∙ h

module _ (language : Language) (p : Plan) (before : Runtime) where
  -- what holds while boundaries are told: new modules are live, and old instances have their names
  pub record IsTelling (s : Runtime) : Type 0 where
    pub orderly : Orderly s.instances
    pub counted : IsCounted s
    pub fresh : (n : Name) → has (new_names p before) n ≡ true → is_some (number_in (live_at s.instances n)) ≡ true
    pub old : (n : Name) (k : ℕ) → number_in (live_at before.instances n) ≡ Some k → IfSome (numbered s.instances k) (λ i. i.name ≡ n)

  goes_on : (s t : Runtime) (n : Name) → Runs s t n → is_some (number_in (live_at s.instances n)) ≡ true → IsTelling s → IsTelling t
  goes_on s t n runs live h = record {
    orderly = runs.quiet.orderly h.orderly;
    counted = runs.counted h.counted h.orderly live;
    fresh = λ m new. ap is_some (runs.quiet.live m) ∙ h.fresh m new;
    old = λ m k e. named_on m (numbered s.instances k) (numbered t.instances k) (runs.quiet.names k) (h.old m k e);
  }

  own_told : (n : Name) (s : Runtime) → has (new_names p before) n ≡ true → (o : Option ℕ) → number_in (live_at before.instances n) ≡ o → IsTelling s → IsTelling (run_own language o n s).0
  own_told n s new None e h = h
  own_told n s new (Some k) e h =
      goes_on s (run_own language (Some k) n s).0 n (run_counts language place.Own (itself_in n) k n accepts_own s (h.old n k e)) (h.fresh n new) h

  dep_told : (m n : Name) (s : Runtime) (o : Option ℕ) → number_in (live_at s.instances m) ≡ o → IsTelling s → IsTelling (run_dep language o n s).0
  dep_told m n s None e h = h
  dep_told m n s (Some k) e h =
      goes_on s (run_dep language (Some k) n s).0 m (run_counts language place.Dep (listed_in n) k m (accepts_dep n) s (named_there s h.orderly m k e)) (ap is_some e) h

  told_one : (pair : Name × Name) (s : Runtime) → IsTelling s → IsTelling (tell_boundary language p before pair s).0
  told_one pair s h = by (has (new_names p before) pair.1) refl (same_name pair.0 pair.1) (has before.page.forced pair.1)
    where
      dep : IsTelling (run_dep language (number_in (live_at s.instances pair.0)) pair.1 s).0
      dep = dep_told pair.0 pair.1 s (number_in (live_at s.instances pair.0)) refl h

      by : (b : Bool) → has (new_names p before) pair.1 ≡ b → (c d : Bool)
          → IsTelling (if b then (if c then run_own language (number_in (live_at before.instances pair.1)) pair.1 s else run_dep language (number_in (live_at s.instances pair.0)) pair.1 s)
          else (if d then run_dep language (number_in (live_at s.instances pair.0)) pair.1 s else (s, []))).0
      by true e true d = own_told pair.1 s e (number_in (live_at before.instances pair.1)) refl h
      by true e false d = dep
      by false e c true = dep
      by false e c false = h

  pub told_all : (pairs : List (Name × Name)) (s : Runtime) → IsTelling s → IsTelling (for_each (tell_boundary language p before) pairs s).0
  told_all [] s h = h
  told_all (pair ∷ pairs) s h = told_all pairs (tell_boundary language p before pair s).0 (told_one pair s h)

-- What is live stays so, whatever is run or dropped.

abbrev pub SameLive : Runtime → Did → Type 0
SameLive r did = (n : Name) → number_in (live_at did.0.instances n) ≡ number_in (live_at r.instances n)

run_same : (at : FaultPlace) (i : Instance) (spot : ℕ) (h : Handler) (left : Ran) (r : Runtime) → SameLive r (did_run at i spot h left r)
run_same at i spot h left r n = quiet_number i.number (after_run spot h.kind left) (record { number = λ j. refl; name = λ j. refl; fate = λ j. refl }) n r.instances

pub same_live : (language : Language) → IsHandled language SameLive
same_live language = record {
  nothing = λ r n. refl;
  after = λ r did next one two n. two n ∙ one n;
  run = λ at k i spot h arguments r there is takes. run_same at i spot h (run_deed language h.deed (scope_of language r i) arguments _) r;
  drop = λ test k r n. quiet_number k (λ i. record i { handlers = with_dropped test i.handlers }) (record { number = λ i. refl; name = λ i. refl; fate = λ i. refl }) n r.instances;
  wrote = λ l r n. refl;
}
