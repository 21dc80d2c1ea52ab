-- Which bags a client's handlers, replacements, prunes and new instances leave as they are: all but that of
-- the name of the instance.
use Rattle.std.proofs.Common.{◌≡◌, ◌⊎◌, inl, inr, ℕ, Bool, true, false, List, [], ◌∷◌, refl, ap, sym, ◌∙◌, arith, Contains, subst}
use Rattle.std.specs.Prelude.{map, cond, filter, ◌==◌, ◌||◌, Option, Some, None, is_some, if◌then◌else◌}
use Rattle.std.specs.List.{list_any}
use Rattle.std.proofs.lemmas.Bool.{false≢true, eqb-true, eq-eqb}
use Rattle.std.proofs.lemmas.Option.{same_Some}
use Rattle.output_lines.specs.declared.words.FaultPlace.{FaultPlace}
use Rattle.output_lines.specs.declared.words.FaultPlace.TheVariants as place
use Rattle.output_lines.specs.declared.words.InstanceFate.{InstanceFate}
use Rattle.output_lines.specs.declared.words.InstanceFate.TheVariants.{Pruned}
use Rattle.core_model.specs.Names.{Name, same_name, has}
use Rattle.core_model.proofs.Naming.{same_true, neither}
use Rattle.client_model.specs.Language.{Language, Slots, Ran, Evaluated}
use Rattle.client_model.specs.Instance.{Instance, Handler, numbered, with_change, places_of, is_held, disposes, prunes}
use Rattle.client_model.specs.Runtime.{Runtime, Did, for_each, bag_of}
use Rattle.client_model.specs.Running.{scope_of, run_deed, no_arguments, run_handler, run_of, run_each, drop_each, end_instance, give_up_bag}
use Rattle.client_model.specs.Making.{Birth, make, evaluate}
use Rattle.client_model.specs.Applying.{is_left_behind, fate_by, replace_instance, prune_instance}
use Rattle.client_model.proofs.Bagging.{bags_kept, bag_put, pruned_bag_is_empty}
use Rattle.client_model.proofs.Acts.{by_make}
use Rattle.world_laws.proofs.Members.{head_in, tail_in, in_cases, none_in}
use Rattle.world_laws.proofs.Frames.{Frame, frames, Numbered, number_low, names_in}
use Rattle.world_laws.proofs.Ending.{same_of, same_run_each, same_drop}
use Rattle.world_laws.proofs.Births.{birth_frame}

-- Names by numbers.

-- the name of the first of this number
abbrev pub name_at : List Frame → ℕ → Option Name
name_at [] k = None
name_at (f ∷ fs) k = if f.number == k then Some f.name else name_at fs k

pub numbered_name : (is : List Instance) (k : ℕ) (i : Instance) → numbered is k ≡ Some i → name_at (frames is) k ≡ Some i.name
numbered_name [] k i e = absurd (false≢true (ap is_some e))
numbered_name (j ∷ is) k i e = by (j.number == k) (numbered_name is k i) e
  where
    by : (b : Bool) → (numbered is k ≡ Some i → name_at (frames is) k ≡ Some i.name) → cond b (Some j) (numbered is k) ≡ Some i → (if b then Some j.name else name_at (frames is) k) ≡ Some i.name
    by true rest e = ap (λ (x : Instance). Some x.name) (same_Some j i e)
    by false rest e = rest e

row_same : (k x y : ℕ) (c d : Name) (o q : Option Name) → x ≡ y → c ≡ d → o ≡ q → (if x == k then Some c else o) ≡ (if y == k then Some d else q)
row_same k x y c d o q e g h = ap (λ z. if z == k then Some c else o) e ∙ ap (λ z. if y == k then Some z else o) g ∙ ap (λ z. if y == k then Some d else z) h

name_changed : (f : Instance → Instance) → ((i : Instance) → (f i).number ≡ i.number) → ((i : Instance) → (f i).name ≡ i.name) → (j : ℕ) (is : List Instance) (k : ℕ) → name_at (frames (with_change j f is)) k ≡ name_at (frames is) k
name_changed f numbers names j [] k = refl
name_changed f numbers names j (i ∷ is) k = by (i.number == j) (name_changed f numbers names j is k)
  where
    by : (b : Bool) → name_at (frames (with_change j f is)) k ≡ name_at (frames is) k → (if (if b then f i else i).number == k then Some (if b then f i else i).name else name_at (frames (with_change j f is)) k) ≡ (if i.number == k then Some i.name else name_at (frames is) k)
    by true h = row_same k (f i).number i.number (f i).name i.name _ _ (numbers i) (names i) h
    by false h = row_same k i.number i.number i.name i.name _ _ refl refl h

-- where each has its own number, it has its name by it
pub named_in : (fs : List Frame) → Numbered fs → (f : Frame) → Contains fs f → name_at fs f.number ≡ Some f.name
named_in [] d f c = absurd (none_in f c)
named_in (g ∷ fs) d f c = by (named_in fs d.1 f) (in_cases g fs f c)
  where
    here : (b : Bool) → (g.number == f.number) ≡ b → g ≡ f → (if b then Some g.name else name_at fs f.number) ≡ Some f.name
    here true e same = ap (λ (x : Frame). Some x.name) same
    here false e same = absurd (false≢true (sym e ∙ eq-eqb g.number f.number (ap (λ (x : Frame). x.number) same)))

    later : (b : Bool) → (g.number == f.number) ≡ b → Contains fs f → name_at fs f.number ≡ Some f.name → (if b then Some g.name else name_at fs f.number) ≡ Some f.name
    later true e there h = absurd (omega (arith, d.0, number_low fs d.1 f there, eqb-true g.number f.number e))
    later false e there h = h

    by : (Contains fs f → name_at fs f.number ≡ Some f.name) → (g ≡ f) ⊎ Contains fs f → name_at (g ∷ fs) f.number ≡ Some f.name
    by rest (inl same) = here (g.number == f.number) refl same
    by rest (inr there) = later (g.number == f.number) refl there (rest there)

-- each name by a number stays
abbrev pub NamesStay : Runtime → Did → Type 0
NamesStay r did = (k : ℕ) → name_at (frames did.0.instances) k ≡ name_at (frames r.instances) k

pub names_end : (fate : InstanceFate) (j : ℕ) (m : Name) (r : Runtime) → NamesStay r (end_instance fate j m r)
names_end fate j m r k = name_changed (λ i. record i { fate = fate }) (λ i. refl) (λ i. refl) j r.instances k

-- Runs of handlers.

module _ (language : Language) (spent_at : FaultPlace) (arguments : Runtime → Handler → List (Option Slots)) (n : Name) where
  spares_handler : (i : Instance) (spot : ℕ) (h : Option Handler) (r : Runtime) → same_name i.name n ≡ false → bag_of (run_handler language spent_at arguments i spot h r).0 n ≡ bag_of r n
  spares_handler i spot None r e = refl
  spares_handler i spot (Some h) r e =
      let left : Ran = run_deed language h.deed (scope_of language r i) (arguments r h) (bag_of r i.name) in
      bag_put i.name left.bag r.bags n ∙ ap (λ b. if b then left.bag else bag_of r n) e

  spares_of : (o : Option Instance) (spot : ℕ) (r : Runtime) → ((i : Instance) → o ≡ Some i → same_name i.name n ≡ false) → bag_of (run_of language spent_at arguments o spot r).0 n ≡ bag_of r n
  spares_of None spot r e = refl
  spares_of (Some i) spot r e = spares_handler i spot _ r (e i refl)

  spares_places : (k : ℕ) (m : Name) → same_name m n ≡ false → (places : List ℕ) (r : Runtime) → name_at (frames r.instances) k ≡ Some m → bag_of (for_each (λ spot s. run_of language spent_at arguments (numbered s.instances k) spot s) places r).0 n ≡ bag_of r n
  spares_places k m apart [] r e = refl
  spares_places k m apart (spot ∷ places) r e =
      spares_places k m apart places (run_of language spent_at arguments (numbered r.instances k) spot r).0 (ap (λ fs. name_at fs k) (same_of language spent_at arguments (numbered r.instances k) spot r) ∙ e)
      ∙ spares_of (numbered r.instances k) spot r (λ i f. ap (λ x. same_name x n) (same_Some i.name m (sym (numbered_name r.instances k i f) ∙ e)) ∙ apart)

  -- the handlers of an instance of another name leave the bag of n
  pub spares_run_each : (test : Handler → Bool) (k : ℕ) (m : Name) (r : Runtime) → name_at (frames r.instances) k ≡ Some m → same_name m n ≡ false → bag_of (run_each language spent_at arguments test k r).0 n ≡ bag_of r n
  spares_run_each test k m r e apart = spares_places k m apart (places_of test (numbered r.instances k)) r e

pub names_run_each : (language : Language) (spent_at : FaultPlace) (arguments : Runtime → Handler → List (Option Slots)) (test : Handler → Bool) (j : ℕ) (r : Runtime) → NamesStay r (run_each language spent_at arguments test j r)
names_run_each language spent_at arguments test j r k = ap (λ fs. name_at fs k) (same_run_each language spent_at arguments test j r)

names_drop : (test : Handler → Bool) (j : ℕ) (r : Runtime) → NamesStay r (drop_each test j r)
names_drop test j r k = ap (λ fs. name_at fs k) (same_drop test j r)

-- The ends of instances.

-- what is done to instances leaves names by their numbers, and the bags of other names
pub record IsOfItsName (act : Instance → Runtime → Did) : Type 0 where
  pub names : (i : Instance) (r : Runtime) → NamesStay r (act i r)
  pub spares : (n : Name) (i : Instance) (r : Runtime) → name_at (frames r.instances) i.number ≡ Some i.name → same_name i.name n ≡ false → bag_of (act i r).0 n ≡ bag_of r n

module _ (language : Language) where
  names_replace : (number : Name → Option ℕ) (i : Instance) (r : Runtime) → NamesStay r (replace_instance language number i r)
  names_replace number i r k =
      let disposed : Did = run_each language place.Dispose no_arguments disposes i.number r in
      let kept : Did = drop_each is_left_behind i.number disposed.0 in
      names_end (fate_by (number i.name)) i.number i.name kept.0 k ∙ names_drop is_left_behind i.number disposed.0 k ∙ names_run_each language place.Dispose no_arguments disposes i.number r k

  pub replacing : (number : Name → Option ℕ) → IsOfItsName (replace_instance language number)
  replacing number = record { names = names_replace number; spares = λ n i r e apart. spares_run_each language place.Dispose no_arguments n disposes i.number i.name r e apart }

  names_prune : (i : Instance) (r : Runtime) → NamesStay r (prune_instance language i r)
  names_prune i r k =
      let disposed : Did = run_each language place.Dispose no_arguments disposes i.number r in
      let pruning : Did = run_each language place.Prune no_arguments prunes i.number disposed.0 in
      let kept : Did = drop_each is_held i.number pruning.0 in
      names_end Pruned i.number i.name (give_up_bag i.name kept.0).0 k ∙ names_drop is_held i.number pruning.0 k
      ∙ names_run_each language place.Prune no_arguments prunes i.number disposed.0 k ∙ names_run_each language place.Dispose no_arguments disposes i.number r k

  spares_prune : (n : Name) (i : Instance) (r : Runtime) → name_at (frames r.instances) i.number ≡ Some i.name → same_name i.name n ≡ false → bag_of (prune_instance language i r).0 n ≡ bag_of r n
  spares_prune n i r e apart =
      let disposed : Did = run_each language place.Dispose no_arguments disposes i.number r in
      let pruning : Did = run_each language place.Prune no_arguments prunes i.number disposed.0 in
      let kept : Did = drop_each is_held i.number pruning.0 in
      bags_kept.give_up i.name kept.0 n ∙ ap (λ b. if b then [] else bag_of kept.0 n) apart
      ∙ spares_run_each language place.Prune no_arguments n prunes i.number i.name disposed.0 (names_run_each language place.Dispose no_arguments disposes i.number r i.number ∙ e) apart
      ∙ spares_run_each language place.Dispose no_arguments n disposes i.number i.name r e apart

  pub pruning_own : IsOfItsName (prune_instance language)
  pruning_own = record { names = names_prune; spares = spares_prune }

-- each of these has its name by its number
abbrev pub AreNamed : List Frame → List Instance → Type 0
AreNamed fs is = (i : Instance) → Contains is i → name_at fs i.number ≡ Some i.name

-- some of these is of this name
abbrev pub some_of : Name → List Instance → Bool
some_of n is = list_any (λ i. same_name i.name n) is

module _ (act : Instance → Runtime → Did) (own : IsOfItsName act) where
  pub rest_named : (i : Instance) (is : List Instance) (r : Runtime) → AreNamed (frames r.instances) (i ∷ is) → AreNamed (frames (act i r).0.instances) is
  rest_named i is r named j c = own.names i r j.number ∙ named j (tail_in i is j c)

  pub spares_all : (n : Name) (is : List Instance) (r : Runtime) → AreNamed (frames r.instances) is → some_of n is ≡ false → bag_of (for_each act is r).0 n ≡ bag_of r n
  spares_all n [] r named e = refl
  spares_all n (i ∷ is) r named e =
      let apart : (same_name i.name n ≡ false) × (some_of n is ≡ false) = neither (same_name i.name n) (some_of n is) e in
      spares_all n is (act i r).0 (rest_named i is r named) apart.1 ∙ own.spares n i r (named i (head_in i is)) apart.0

-- a name is of none of these, or one that is empty stays so and one that is among them is emptied
module _ (language : Language) (n : Name) where
  empties_one : (i : Instance) (r : Runtime) → name_at (frames r.instances) i.number ≡ Some i.name → (b : Bool) → same_name i.name n ≡ b → (bag_of r n ≡ []) ⊎ (b ≡ true) → bag_of (prune_instance language i r).0 n ≡ []
  empties_one i r e true same h = ap (λ m. bag_of (prune_instance language i r).0 m) (sym (same_true i.name n same)) ∙ pruned_bag_is_empty language i r
  empties_one i r e false apart (inl h) = spares_prune language n i r e apart ∙ h
  empties_one i r e false apart (inr h) = absurd (false≢true h)

  pub prunes_empty : (is : List Instance) (r : Runtime) → AreNamed (frames r.instances) is → (bag_of r n ≡ []) ⊎ (some_of n is ≡ true) → bag_of (for_each (prune_instance language) is r).0 n ≡ []
  prunes_empty [] r named (inl h) = h
  prunes_empty [] r named (inr h) = absurd (false≢true h)
  prunes_empty (i ∷ is) r named h = by (same_name i.name n) refl (prunes_empty is (prune_instance language i r).0 (rest_named (prune_instance language) (pruning_own language) i is r named)) h
    where
      next : Runtime
      next = (prune_instance language i r).0

      by : (b : Bool) → same_name i.name n ≡ b → ((bag_of next n ≡ []) ⊎ (some_of n is ≡ true) → bag_of (for_each (prune_instance language) is next).0 n ≡ []) → (bag_of r n ≡ []) ⊎ ((b || some_of n is) ≡ true) → bag_of (for_each (prune_instance language) is next).0 n ≡ []
      by true e rest h = rest (inl (empties_one i r (named i (head_in i is)) true e (inr refl)))
      by false e rest (inl h) = rest (inl (empties_one i r (named i (head_in i is)) false e (inl h)))
      by false e rest (inr h) = rest (inr h)

-- What a filter lets through.

pub filter_in : (q : Instance → Bool) (is : List Instance) (i : Instance) → Contains (filter q is) i → Contains is i × (q i ≡ true)
filter_in q [] i c = absurd (none_in i c)
filter_in q (j ∷ is) i c = by (q j) refl (filter_in q is i) c
  where
    here : q j ≡ true → (Contains (filter q is) i → Contains is i × (q i ≡ true)) → (j ≡ i) ⊎ Contains (filter q is) i → Contains (j ∷ is) i × (q i ≡ true)
    here e rest (inl same) = (subst (Contains (j ∷ is)) same (head_in j is), ap q (sym same) ∙ e)
    here e rest (inr there) = let k : Contains is i × (q i ≡ true) = rest there in (tail_in j is i k.0, k.1)

    by : (b : Bool) → q j ≡ b → (Contains (filter q is) i → Contains is i × (q i ≡ true)) → Contains (cond b (j ∷ filter q is) (filter q is)) i → Contains (j ∷ is) i × (q i ≡ true)
    by true e rest c = here e rest (in_cases j (filter q is) i c)
    by false e rest c = let k : Contains is i × (q i ≡ true) = rest c in (tail_in j is i k.0, k.1)

-- New instances.

module _ (language : Language) (n : Name) where
  pub spares_make : (b : Birth) (r : Runtime) → same_name b.name n ≡ false → bag_of (make language b r).0 n ≡ bag_of r n
  spares_make b r apart =
      let e : Evaluated = evaluate language b r in
      by_make (λ did. bag_of did.0 n ≡ bag_of r n) language b r refl (bag_put b.name e.bag r.bags n ∙ ap (λ c. if c then e.bag else bag_of r n) apart)

  pub spares_births : (bs : List Birth) (r : Runtime) → has (names_in (map birth_frame bs)) n ≡ false → bag_of (for_each (make language) bs r).0 n ≡ bag_of r n
  spares_births [] r e = refl
  spares_births (b ∷ bs) r e =
      let apart : (same_name b.name n ≡ false) × (has (names_in (map birth_frame bs)) n ≡ false) = neither (same_name b.name n) (has (names_in (map birth_frame bs)) n) e in
      spares_births bs (make language b r).0 apart.1 ∙ spares_make b r apart.0
