-- A deed for each of several instances: one after another, and for those that the model means.
use Rattle.std.proofs.Common.{◌≡◌, ◌≤◌, ◌<◌, ◌+◌, ℕ, zero, suc, Bool, true, false, List, [], ◌∷◌, ◌++◌, length, drop, get_or, refl, ap, sym, ◌∙◌, arith}
use Rattle.std.specs.Prelude.{◌==◌, ◌&&◌, cond, filter, reverse, Option, Some, None, option_map, if◌then◌else◌, is_some, slice_get}
use Rattle.std.specs.List.{All}
use Rattle.std.proofs.Math.Path.{subst}
use Rattle.std.proofs.Math.Seq.{drop-cons}
use Rattle.std.proofs.lemmas.Bool.{eqb-true, false≢true}
use Rattle.std.proofs.lemmas.Grind.{reverse_onto}
use Rattle.std.proofs.lemmas.List.{append-nil, drop_all}
use Rattle.std.proofs.lemmas.List.Elements.{All-nil, All-cons, All-get_or}
use Rattle.std.proofs.lemmas.Option.{slice_get_within, get_or_from_slice_get}
use Rattle.output_lines.specs.declared.out_line.OutLine.{OutLine}
use Rattle.output_lines.specs.declared.words.InstanceStatus.TheVariants.{Done}
use Rattle.output_lines.specs.declared.words.InstanceFate.TheVariants.{Live}
use Rattle.core_model.specs.Names.{Name}
use Rattle.client_model.specs.Applying.{live_of}
use Rattle.client_model.specs.Instance as model
use Rattle.client_model.specs.Instance.{numbered, is_live, is_live_fate}
use Rattle.client_model.specs.Runtime.{Runtime, Did, for_each}
use Rattle.page_plan.specs.Numbers.{NewNumbers, new_number}
use Rattle.page_instances.specs.declared.instance.Instance.{Instance}
use Rattle.page_instances.specs.Scopes.{kept_at}
use Rattle.page_state.specs.declared.page.Page.{Page}
use Rattle.page_ends.specs.Each.{HasNew, is_live_of, falling, live_places, StandAt, FollowsEach, EachBegins}
use Rattle.live_instances.specs.Orderly.{NumbersFall}
use Rattle.page_state.specs.Standing.{BothOrNone, StandsFor, Follows, name_at}
use Rattle.page_state.proofs.Following.{follows_nothing, follows_more}
use Rattle.live_instances.proofs.Order.{itself}

-- some instance of a number and a name
abbrev some_instance : ℕ → Name → model.Instance
some_instance k n = record { number = k; name = n; version = 0; text = []; exports = []; links = []; status = Done; fate = Live; values = []; handlers = [] }

module _ {F : Type 0} where
  -- where names are kept the instances stand at the same places
  pub stand_kept : (p q : Page F) → ((place : ℕ) (n : Name) → name_at p place ≡ Some n → name_at q place ≡ Some n) → (ks : List ℕ) (is : List model.Instance) → StandAt p ks is → StandAt q ks is
  stand_kept p q names [] [] s = s
  stand_kept p q names [] (i ∷ is) s = absurd s
  stand_kept p q names (k ∷ ks) [] s = absurd s
  stand_kept p q names (k ∷ ks) (i ∷ is) s = (record { number = s.0.number; name = names k i.name s.0.name }, stand_kept p q names ks is s.1)

  -- one after another

  pub each_nothing : (act : model.Instance → Runtime → Did) (p : Page F) (told : List OutLine) → FollowsEach act [] p p told told
  each_nothing act p told = record { client = refl; names = λ place n e. e; each = by }
    where
      by : (is : List model.Instance) → StandAt p [] is → Follows (for_each act is) p p told told
      by [] s = follows_nothing p told
      by (i ∷ is) s = absurd s

  named_at : (cs : List (Instance F)) (place : ℕ) → place < length cs → (n : Name) × (option_map (λ x. x.name) (slice_get cs place) ≡ Some n)
  named_at [] place h = absurd (omega (arith, h))
  named_at (c ∷ cs) zero h = (c.name, refl)
  named_at (c ∷ cs) (suc place) h = named_at cs place (omega (arith, h))

  module _ (act : model.Instance → Runtime → Did) (place : ℕ) (a b : Page F) (told tells : List OutLine) (within : place < length a.instances.items)
      (one : (i : model.Instance) → i.number ≡ suc place → name_at a place ≡ Some i.name → Follows (act i) a b told tells) where
    first : Follows (act (some_instance (suc place) (named_at a.instances.items place within).0)) a b told tells
    first = one (some_instance (suc place) (named_at a.instances.items place within).0) refl (named_at a.instances.items place within).1

    pub names_by : (k : ℕ) (n : Name) → name_at a k ≡ Some n → name_at b k ≡ Some n
    names_by k n e = first.names k n e

    pub each_more : (places : List ℕ) (c : Page F) (more : List OutLine) → FollowsEach act places b c tells more → FollowsEach act (place ∷ places) a c told more
    each_more places c more later = record {
      client = later.client ∙ first.client;
      names = λ k m e. later.names k m (first.names k m e);
      each = by;
    }
      where
        by : (is : List model.Instance) → StandAt a (place ∷ places) is → Follows (for_each act is) a c told more
        by [] s = absurd s
        by (i ∷ is) s = follows_more act i is a b c told tells more (one i s.0.number s.0.name) (later.each is (stand_kept a b first.names places is s.1))

    -- the deed for one more of a list
    pub next_begins : (whole places : List ℕ) (index : ℕ) (before : Page F) (first_told : List OutLine) → slice_get places index ≡ Some place
        → EachBegins act whole (drop index places) before a first_told told → EachBegins act whole (drop (index + 1) places) before b first_told tells
    next_begins whole places index before first_told is so_far = subst (λ k. EachBegins act whole (drop k places) before b first_told tells) next (λ z more later. so_far z more
        (subst (λ ks. FollowsEach act ks a z told more) (sym (drop-cons places index place (slice_get_within places index place is) ∙ ap (λ k. k ∷ drop (suc index) places) (get_or_from_slice_get places index place place is)))
        (each_more (drop (suc index) places) z more later)))
      where
        next : suc index ≡ index + 1
        next = omega arith

  -- nothing is left
  pub all_begun : (act : model.Instance → Runtime → Did) (whole places : List ℕ) (index : ℕ) (a b : Page F) (told tells : List OutLine) → length places ≤ index → EachBegins act whole (drop index places) a b told tells → FollowsEach act whole a b told tells
  all_begun act whole places index a b told tells last begun = begun b tells (subst (λ ks. FollowsEach act ks b b tells tells) (sym (drop_all index places last)) (each_nothing act b tells))

  -- a place of the list is one of the page
  pub within_page : (p now : Page F) (places : List ℕ) (index : ℕ) → All (λ k. k < length p.instances.items) places → index < length places → length now.instances.items ≡ length p.instances.items → get_or places index 0 < length now.instances.items
  within_page p now places index all in_list long = subst (λ n. get_or places index 0 < n) (sym long) (All-get_or (λ k. k < length p.instances.items) places index 0 in_list all)

  -- all of those that the model means
  pub follows_each : (act : model.Instance → Runtime → Did) (places : List ℕ) (list : Runtime → List model.Instance) (a b : Page F) (told tells : List OutLine)
      → FollowsEach act places a b told tells → ((r : Runtime) → StandsFor r a → StandAt a places (list r)) → Follows (λ r. for_each act (list r) r) a b told tells
  follows_each act places list a b told tells e stand = record {
    client = e.client;
    names = e.names;
    stands = λ r s. (e.each (list r) (stand r s)).stands r s;
    elsewhere = λ r s. (e.each (list r) (stand r s)).elsewhere r s;
    lines = λ r s. (e.each (list r) (stand r s)).lines r s;
  }

  -- the live ones

  pub falling_within : (test : Name → Bool) (cs : List (Instance F)) (k : ℕ) → k ≤ length cs → All (λ j. j < length cs) (falling test cs k)
  falling_within test cs zero h = All-nil (λ j. j < length cs)
  falling_within test cs (suc k) h = by (is_live_of test (slice_get cs k)) (falling_within test cs k (omega (arith, h)))
    where
      by : (b : Bool) → All (λ j. j < length cs) (falling test cs k) → All (λ j. j < length cs) (if b then k ∷ falling test cs k else falling test cs k)
      by true rest = All-cons (λ j. j < length cs) k (falling test cs k) (omega (arith, h)) rest
      by false rest = rest

  fall_stand : (test : Name → Bool) (p : Page F) (is : List model.Instance) → NumbersFall is → length is ≤ length p.instances.items
      → ((k : ℕ) → k ≤ length is → BothOrNone (numbered is k) (kept_at p.instances.items k))
      → StandAt p (falling test p.instances.items (length is)) (filter (λ i. is_live i && test i.name) is)
  fall_stand test p [] falls within both = tt
  fall_stand test p (i ∷ is) falls within both = by (slice_get p.instances.items (length is)) refl (subst (λ o. BothOrNone o (kept_at p.instances.items (suc (length is)))) here (both (suc (length is)) (omega arith)))
      (fall_stand test p is falls.1 (omega (arith, within)) lower)
    where
      here : numbered (i ∷ is) (suc (length is)) ≡ Some i
      here = ap (λ k. cond (i.number == k) (Some i) (numbered is k)) (sym falls.0) ∙ ap (λ b. cond b (Some i) (numbered is i.number)) (itself i.number)

      lower : (k : ℕ) → k ≤ length is → BothOrNone (numbered is k) (kept_at p.instances.items k)
      lower k h = subst (λ b. BothOrNone (cond b (Some i) (numbered is k)) (kept_at p.instances.items k)) (other (i.number == k) refl) (both k (omega (arith, h)))
        where
          other : (b : Bool) → (i.number == k) ≡ b → (i.number == k) ≡ false
          other false e = e
          other true e = let same : i.number ≡ k = eqb-true i.number k e in let top : i.number ≡ suc (length is) = falls.0 in absurd (omega (arith, same, top, h))

      by : (o : Option (Instance F)) → slice_get p.instances.items (length is) ≡ o → BothOrNone (Some i) o
          → StandAt p (falling test p.instances.items (length is)) (filter (λ i. is_live i && test i.name) is)
          → StandAt p (if is_live_of test (slice_get p.instances.items (length is)) then length is ∷ falling test p.instances.items (length is) else falling test p.instances.items (length is))
          (cond (is_live i && test i.name) (i ∷ filter (λ i. is_live i && test i.name) is) (filter (λ i. is_live i && test i.name) is))
      by None e b rest = absurd b
      by (Some c) e b rest =
          subst (λ l. StandAt p (if l then length is ∷ falling test p.instances.items (length is) else falling test p.instances.items (length is))
          (cond (is_live i && test i.name) (i ∷ filter (λ i. is_live i && test i.name) is) (filter (λ i. is_live i && test i.name) is)))
          (ap (λ f. is_live_fate f && test i.name) b.fate ∙ ap (λ n. is_live_fate c.fate && test n) b.name ∙ sym (ap (is_live_of test) e))
          (both_ways (is_live i && test i.name))
        where
          both_ways : (l : Bool) → StandAt p (if l then length is ∷ falling test p.instances.items (length is) else falling test p.instances.items (length is)) (cond l (i ∷ filter (λ i. is_live i && test i.name) is) (filter (λ i. is_live i && test i.name) is))
          both_ways true = (record { number = falls.0; name = ap (option_map (λ x. x.name)) e ∙ ap Some (sym b.name) }, rest)
          both_ways false = rest

  pub live_stand : (test : Name → Bool) (p : Page F) (r : Runtime) → StandsFor r p → StandAt p (live_places test p) (live_of test r)
  live_stand test p r s = subst (λ n. StandAt p (falling test p.instances.items n) (live_of test r)) s.instances.count
      (fall_stand test p r.instances s.instances.orderly.numbers (subst (λ n. length r.instances ≤ n) s.instances.count (omega arith)) (λ k h. s.instances.by_number k))

  -- the other way round
  stand_append : (p : Page F) (ks : List ℕ) (is : List model.Instance) (js : List ℕ) (more : List model.Instance) → StandAt p ks is → StandAt p js more → StandAt p (ks ++ js) (is ++ more)
  stand_append p [] [] js more s t = t
  stand_append p [] (i ∷ is) js more s t = absurd s
  stand_append p (k ∷ ks) [] js more s t = absurd s
  stand_append p (k ∷ ks) (i ∷ is) js more s t = (s.0, stand_append p ks is js more s.1 t)

  pub stand_reverse : (p : Page F) (ks : List ℕ) (is : List model.Instance) → StandAt p ks is → StandAt p (reverse ks) (reverse is)
  stand_reverse p [] [] s = s
  stand_reverse p [] (i ∷ is) s = absurd s
  stand_reverse p (k ∷ ks) [] s = absurd s
  stand_reverse p (k ∷ ks) (i ∷ is) s =
      subst (λ js. StandAt p js (reverse (i ∷ is))) (sym (reverse_onto ks k []))
      (subst (λ js. StandAt p (reverse ks ++ k ∷ []) js) (sym (reverse_onto is i []))
      (stand_append p (reverse ks) (reverse is) (k ∷ []) (i ∷ []) (stand_reverse p ks is s.1) (s.0, tt)))

  -- one place more
  pub rising_more : (test : Name → Bool) (cs : List (Instance F)) (k : ℕ) → reverse (falling test cs (k + 1)) ≡ reverse (falling test cs k) ++ (if is_live_of test (slice_get cs k) then k ∷ [] else [])
  rising_more test cs k = ap (λ j. reverse (falling test cs j)) next ∙ by (is_live_of test (slice_get cs k))
    where
      next : k + 1 ≡ suc k
      next = omega arith

      by : (b : Bool) → reverse (if b then k ∷ falling test cs k else falling test cs k) ≡ reverse (falling test cs k) ++ (if b then k ∷ [] else [])
      by true = reverse_onto (falling test cs k) k []
      by false = sym (append-nil (reverse (falling test cs k)))

  -- a name that gets a new instance is kept at its place
  pub new_kept : (numbers : NewNumbers) (p q : Page F) (place : ℕ) → place < length p.instances.items → ((k : ℕ) (n : Name) → name_at p k ≡ Some n → name_at q k ≡ Some n) → HasNew numbers (name_at p place) → HasNew numbers (name_at q place)
  new_kept numbers p q place within names has_new =
      let named : (n : Name) × (name_at p place ≡ Some n) = named_at p.instances.items place within in
      subst (HasNew numbers) (sym (names place named.0 named.1)) (subst (HasNew numbers) named.1 has_new)

  -- each of the live instances that are meant has a name that is meant
  pub all_new : (numbers : NewNumbers) (test : Name → Bool) (p : Page F) → ((n : Name) → test n ≡ true → is_some (new_number numbers n) ≡ true) → (k : ℕ) → All (λ j. HasNew numbers (name_at p j)) (falling test p.instances.items k)
  all_new numbers test p given zero = All-nil (λ j. HasNew numbers (name_at p j))
  all_new numbers test p given (suc k) = by (is_live_of test (slice_get p.instances.items k)) refl (all_new numbers test p given k)
    where
      its : (a b : Bool) → (a && b) ≡ true → b ≡ true
      its true b t = t
      its false b t = absurd (false≢true t)

      here : (o : Option (Instance F)) → is_live_of test o ≡ true → HasNew numbers (option_map (λ c. c.name) o)
      here None t = absurd (false≢true t)
      here (Some c) t = given c.name (its (is_live_fate c.fate) (test c.name) t)

      by : (b : Bool) → is_live_of test (slice_get p.instances.items k) ≡ b → All (λ j. HasNew numbers (name_at p j)) (falling test p.instances.items k)
          → All (λ j. HasNew numbers (name_at p j)) (if b then k ∷ falling test p.instances.items k else falling test p.instances.items k)
      by true t rest = All-cons (λ j. HasNew numbers (name_at p j)) k (falling test p.instances.items k) (here (slice_get p.instances.items k) t) rest
      by false t rest = rest
