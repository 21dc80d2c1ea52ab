-- Each step of the lock keeps its rule.
use Rattle.std.proofs.Common.{All, ◌≡◌, ◌≢◌, ℕ, zero, suc, eq-eqb, ◌<◌, ◌≤◌, ◌+◌, eqb, List, [], ◌∷◌, ◌++◌, get_or, set, length, Bool, true, false, sym, refl, ap, ◌∙◌, subst, arith, Option, Some, None, unwrap_or, inl, inr, ⊎_elim}
use Rattle.std.proofs.lemmas.List.{take_at, set-get_or}
use Rattle.std.proofs.lemmas.List.Elements.{All-nil, All-push, All-take}
use Rattle.std.proofs.lemmas.Bool.{false≢true, or_cases, or_from, or_left, or_right, false_from_ne_true, eqb-true, ne_eqb}
use Rattle.std.proofs.Math.Nat.{max-le}
use mathlib.Core.Logic.{dite}
use mathlib.Core.Option.{none, some, some-injective, some-ne-none}
use native.Mathlib.Decide.{ℕ_discrete}
use lib.ListN.{get_elem?}
use prog.Atomic.{either}
use Rattle.atomic_table.specs.Table.{State, Me, step, keeps, takes, gives, Allows, opening, Splits, Joins}
use Rattle.atomic_table.proofs.Lists.{set_here, set_else, set_again, at_longer}
use Rattle.turn_lock.specs.Histories.{has, calls, Past}
use Rattle.turn_lock.specs.Rule.{IsCurrent, Stands, Apart, IsFree, IsLock}
use Rattle.turn_lock.specs.Steps.{IsGiven, IsIdle, Seizes, Grew, Counts, Releases, Numbers, Meets}
use Rattle.turn_lock.specs.Views.{first_view, spent_view, seized, counted, released, old_half, new_half, numbered, filled, joined, most_numbers}
use Rattle.turn_lock.specs.declared.view.View.{View}
use Rattle.turn_lock.proofs.Histories.{has_append, quiet_rest, quiet_both, both_past, quiet_append, quiet_one, quiet_front, quiet_less, quiet_later, has_later, has_one, has_it, has_else, not_it, past_self, past_nothing, past_more}
use Rattle.turn_lock.proofs.Views.{each_set, each_snoc, pairs_set, pairs_snoc}

abbrev pub value_at : {T : Type 0} → List (ℕ × Option T) → T → T
value_at [] d = d
value_at (x ∷ xs) d = unwrap_or x.1 d

both_ways : (P : Type 0) (b : Bool) → b ≡ false → b ≡ true → P
both_ways P b f t = absurd (false≢true (sym f ∙ t))

all_front : {X : Type 0} (P : X → Type 0) (xs ys : List X) → All P (xs ++ ys) → All P xs
all_front P xs ys a = subst (λ zs. All P zs) (take_at xs ys (length xs) refl) (All-take P (length xs) (xs ++ ys) a)

none_some : (k : ℕ) → None ≡ Some k → ⊥
none_some k e = cc

module _ {T E : Type 0} where
  only_first : (v w : View T E) (id : ℕ) → get_elem? (v ∷ []) id ≡ some w → v ≡ w
  only_first v w zero e = some-injective v w e
  only_first v w (suc i) e = absurd (some-ne-none w (sym e))

  only_place : (v w : View T E) (id : ℕ) → get_elem? (v ∷ []) id ≡ some w → id ≡ 0
  only_place v w zero e = refl
  only_place v w (suc i) e = absurd (some-ne-none w (sym e))

  there : (vs : List (View T E)) (id : ℕ) (v : View T E) → get_elem? vs id ≡ some v → id < length vs
  there [] id v e = absurd (some-ne-none v (sym e))
  there (x ∷ xs) zero v e = omega arith
  there (x ∷ xs) (suc i) v e = let h = there xs i v e in omega arith

  -- the view with the turn is another than one without
  differ : (vs : List (View T E)) (i j : ℕ) (v w : View T E) → get_elem? vs i ≡ some v → get_elem? vs j ≡ some w → v.holds ≡ false → w.holds ≡ true → j ≢ i
  differ vs i j v w a b idle busy e =
      let same : v ≡ w = some-injective v w (sym a ∙ (ap (λ (k : ℕ). get_elem? vs k) (sym e) ∙ b)) in
      both_ways ⊥ v.holds idle (ap (λ (x : View T E). x.holds) same ∙ busy)

  met_nothing : (v : View T E) → Past v.seen [] [] × Past v.seen [] []
  met_nothing v = (past_nothing v.seen, past_nothing v.seen)

module _ {T E : Type 0} (history : T → List (ℕ × E)) (may : ℕ → E → Bool) (follows : T → T → Type 0) where
  pub opens : (value : T) → history value ≡ [] → follows value value → IsLock history may follows (opening (0 ∷ 1 ∷ []) (Some value ∷ []) (first_view value))
  opens value empty start =
      let first : View T E = first_view value in
      record {
        opening = value;
        log = [];
        turn = 0;
        made = 1;
        words = refl;
        begun = omega arith;
        holder = inl (refl, record { value = value; home = refl; kept = empty; comes = start; nobody = λ id v at. subst (λ (u : View T E). u.holds ≡ false) (only_first first v id at) refl });
        allowed = All-nil (λ e. may e.0 e.1 ≡ true);
        fresh = λ k le. refl;
        each = λ id v at.
            subst (Stands value [] 1) (only_first first v id at)
            record {
              past = past_self [] (0 ∷ []);
              below = λ k h. let z : k ≡ 0 = has_one k 0 h in omega arith;
              given = omega arith;
              own = λ k e. let z : 0 ≡ k = cc in subst (λ j. has j (0 ∷ []) ≡ true) z (has_it 0 []);
              turn = λ h. absurd (false≢true h);
              named = λ h. absurd (false≢true h);
              alone = λ h. (refl, refl);
              all_given = λ h. absurd (false≢true h);
              opened = λ h. refl;
              met = record { mine = past_nothing []; other = past_nothing []; apart = λ k h. refl };
            };
        apart = λ i j v w a b ne. absurd (ne (only_place first v i a ∙ sym (only_place first w j b)));
      }

  -- the same view again changes nothing
  stays : (s : State (Option T) (View T E)) (id i : ℕ) (v : View T E) (k : ℕ) → IsLock history may follows s → get_elem? s.views id ≡ some v → get_or s.words i 0 ≡ k
      → IsLock history may follows record { words = set s.words i k; homes = s.homes; views = set s.views id v }
  stays s id i v k l at e =
      let words : set s.words i k ≡ s.words = rw (sym e) (set-get_or s.words i 0) in
      let views : set s.views id v ≡ s.views = set_again s.views id v at in
      subst (λ ws. IsLock history may follows record { words = ws; homes = s.homes; views = set s.views id v }) (sym words)
      (subst (λ vs. IsLock history may follows record { words = s.words; homes = s.homes; views = vs }) (sym views) l)

  -- the turn was free, and is taken
  seized_lock : (s : State (Option T) (View T E)) (id by : ℕ) (m : Me (Option T) (View T E)) (l : IsLock history may follows s) → IsFree history may follows l.opening l.log s
      → IsIdle by m → get_elem? s.views id ≡ some m.0
      → IsLock history may follows record { words = set s.words 0 1; homes = set s.homes 0 none; views = set s.views id (seized m.0 l.log) }
  seized_lock s id by m l f idle at =
      let w : View T E = seized m.0 l.log in
      let sm = l.each id m.0 at in
      record {
        opening = l.opening;
        log = l.log;
        turn = 1;
        made = l.made;
        words = ap (λ ws. set ws 0 1) l.words;
        begun = l.begun;
        holder = inr (refl, record { id = id; view = w; at = set_here s.views id w (there s.views id m.0 at); holds = refl });
        allowed = l.allowed;
        fresh = l.fresh;
        each =
            each_set (Stands l.opening l.log l.made) s.views id w
            record {
              past = past_self l.log m.0.known;
              below = sm.below;
              given = sm.given;
              own = sm.own;
              turn = λ h. (refl, idle.spent);
              named = λ h. (by, idle.number);
              alone = λ h. (refl, idle.spent);
              all_given = sm.all_given;
              opened = sm.opened;
              met = record { mine = past_nothing l.log; other = past_nothing l.log; apart = λ k h. refl };
            }
            (λ j u ne a. l.each j u a);
        apart = λ i j v u a b ne.
            pairs_set (λ _. Unit {0}) Apart s.views id w
            (λ j u d ne a.
            let p = l.apart id j m.0 u at a (λ e. ne (sym e)) in
            let q = l.apart j id u m.0 a at ne in (
              record { numbers = p.numbers; turn = λ h. f.nobody j u a; alone = p.alone },
              record { numbers = q.numbers; turn = λ h. both_ways (true ≡ false) u.holds (f.nobody j u a) h; alone = q.alone },
            ))
            (λ j k u x d c nj nk a b ne. l.apart j k u x a b ne) i j v u tt tt a b ne;
      }

  pub seizes : (n id : ℕ) (m : Me (Option T) (View T E)) (by : ℕ) → IsIdle by m
      → Allows (IsLock history may follows) n id m 0 (λ y. either (eqb y 0) 1 y) (Seizes history may follows (step n 0 0 1 none) m)
  seizes n id m by idle s l wide at small =
      ⊎_elim
      (λ t.
      let f = t.1 in
      let sm = l.each id m.0 at in
      let found : get_or s.words 0 0 ≡ 0 = ap (λ ws. get_or ws 0 0) l.words ∙ t.0 in
      let hit : either (eqb (get_or s.words 0 0) 0) 1 (get_or s.words 0 0) ≡ 1 = rw found refl in (
        seized m.0 l.log,
        takes 0 (Some f.value),
        f.home,
        subst (λ k. IsLock history may follows record { words = set s.words 0 k; homes = set s.homes 0 none; views = set s.views id (seized m.0 l.log) }) (sym hit) (seized_lock s id by m l f idle at),
        inl (
          found,
          record {
            opening = l.opening;
            value = f.value;
            log = l.log;
            carried = ap (λ xs. (0, Some f.value) ∷ xs) idle.empty;
            view = refl;
            opened = sm.opened idle.spent;
            kept = f.kept;
            comes = f.comes;
            past = sm.past;
            own = sm.own;
            alone = λ h. sym (sm.alone h).0;
            allowed = l.allowed;
          },
        ),
      ))
      (λ t.
      let found : get_or s.words 0 0 ≡ 1 = ap (λ ws. get_or ws 0 0) l.words ∙ t.0 in
      let miss : either (eqb (get_or s.words 0 0) 0) 1 (get_or s.words 0 0) ≡ get_or s.words 0 0 = rw found refl in (
        m.0,
        keeps,
        tt,
        subst (λ k. IsLock history may follows record { words = set s.words 0 k; homes = s.homes; views = set s.views id m.0 }) (sym miss) (stays s id 0 m.0 (get_or s.words 0 0) l at refl),
        inr ((λ e. absurd (omega (arith, found, e))), refl),
      ))
      l.holder

  -- one more entry of the seat that has the turn
  counted_lock : (s : State (Option T) (View T E)) (id by : ℕ) (entry : E) (v : View T E) (l : IsLock history may follows s) → get_elem? s.views id ≡ some v
      → v.holds ≡ true → v.number ≡ Some by → may by entry ≡ true
      → IsLock history may follows record { words = set s.words 0 1; homes = s.homes; views = set s.views id (counted v (l.log ++ (by, entry) ∷ [])) }
  counted_lock s id by entry v l at holds number allowed =
      let more : List (ℕ × E) = (by, entry) ∷ [] in
      let log : List (ℕ × E) = l.log ++ more in
      let w : View T E = counted v log in
      let sv = l.each id v at in
      let mine : has by v.known ≡ true = sv.own by number in
      let low : by < l.made = sv.below by mine in
      record {
        opening = l.opening;
        log = log;
        turn = 1;
        made = l.made;
        words = ap (λ ws. set ws 0 1) l.words;
        begun = l.begun;
        holder = inr (refl, record { id = id; view = w; at = set_here s.views id w (there s.views id v at); holds = holds });
        allowed = All-push (λ e. may e.0 e.1 ≡ true) l.log (by, entry) l.allowed allowed;
        fresh = λ k le. quiet_append (k ∷ []) l.log more (l.fresh k le) (quiet_one (k ∷ []) by entry (has_else by k (λ e. absurd (omega arith))));
        each =
            each_set (Stands l.opening log l.made) s.views id w
            record {
              past = past_self log v.known;
              below = sv.below;
              given = sv.given;
              own = sv.own;
              turn = λ h. (refl, (sv.turn h).1);
              named = sv.named;
              alone = λ h. (refl, (sv.alone h).1);
              all_given = sv.all_given;
              opened = sv.opened;
              met = record { mine = past_nothing log; other = past_nothing log; apart = λ k h. refl };
            }
            (λ j u ne a.
            let su = l.each j u a in
            let p = l.apart id j v u at a (λ e. ne (sym e)) in
            let q = l.apart j id u v a at ne in
            record {
              past = past_more l.log u.seen u.known more su.past (quiet_one u.known by entry (p.numbers by mine));
              below = su.below;
              given = su.given;
              own = su.own;
              turn = λ h. both_ways (IsCurrent log u) u.holds (p.turn holds) h;
              named = su.named;
              alone = λ h. both_ways (IsCurrent log u) v.spent (sv.turn holds).1 (q.alone h);
              all_given = su.all_given;
              opened = su.opened;
              met = su.met;
            });
        apart = λ i j x y a b ne.
            pairs_set (λ _. Unit {0}) Apart s.views id w
            (λ j u d ne a.
            let p = l.apart id j v u at a (λ e. ne (sym e)) in
            let q = l.apart j id u v a at ne in
            (record { numbers = p.numbers; turn = p.turn; alone = p.alone }, record { numbers = q.numbers; turn = q.turn; alone = q.alone }))
            (λ j k u x d c nj nk a b ne. l.apart j k u x a b ne) i j x y tt tt a b ne;
      }

  pub counts : (n id : ℕ) (m : Me (Option T) (View T E)) (by : ℕ) → Grew history may follows by true m
      → Allows (IsLock history may follows) n id m 0 (λ _. 1) (λ _. Counts history may follows (step n 0 1 0 none) m 1)
  counts n id m by g s l wide at small =
      let seen : m.0.seen ≡ l.log = ((l.each id m.0 at).turn g.holds).0 in
      let more : history g.value ≡ l.log ++ (by, g.entry) ∷ [] = g.kept ∙ ap (λ xs. xs ++ (by, g.entry) ∷ []) seen in (
        counted m.0 (history g.value),
        keeps,
        tt,
        subst (λ h. IsLock history may follows record { words = set s.words 0 1; homes = s.homes; views = set s.views id (counted m.0 h) }) (sym more) (counted_lock s id by g.entry m.0 l at g.holds g.number g.allowed),
        (λ other e. ap (λ xs. (counted m.0 (history (value_at xs g.value)), m.1)) (sym g.carried ∙ e)),
      )

  pub releases : (n id : ℕ) (m : Me (Option T) (View T E)) (value start : T) → m.1 ≡ (0, Some value) ∷ [] → m.0.holds ≡ true → history value ≡ m.0.seen
      → m.0.opening ≡ Some start → follows start value → n ≡ 1
      → Allows (IsLock history may follows) n id m 0 (λ _. 0) (λ _. Releases history may follows (step n 0 0 0 none) m 0)
  releases n id m value start carried holds whole opened comes slots s l wide at small =
      let w : View T E = released m.0 in
      let sm = l.each id m.0 at in
      let here = sm.turn holds in
      let same : start ≡ l.opening = ap (λ o. unwrap_or o start) (sym opened ∙ sm.opened here.1) in (
        w,
        gives,
        tt,
        record {
          opening = l.opening;
          log = l.log;
          turn = 0;
          made = l.made;
          words = ap (λ ws. set ws 0 0) l.words;
          begun = l.begun;
          holder = inl (
            refl,
            record {
              value = value;
              home = rw carried (set_here s.homes 0 (some (Some value)) (omega (arith, wide)));
              kept = whole ∙ here.0;
              comes = subst (λ o. follows o value) same comes;
              nobody = each_set (λ (u : View T E). u.holds ≡ false) s.views id w refl (λ j u ne a. (l.apart id j m.0 u at a (λ e. ne (sym e))).turn holds);
            },
          );
          allowed = l.allowed;
          fresh = l.fresh;
          each =
              each_set (Stands l.opening l.log l.made) s.views id w
              record {
                past = sm.past;
                below = sm.below;
                given = sm.given;
                own = sm.own;
                turn = λ h. absurd (false≢true h);
                named = λ h. absurd (false≢true h);
                alone = sm.alone;
                all_given = sm.all_given;
                opened = sm.opened;
                met = record { mine = sm.met.mine; other = sm.met.other; apart = sm.met.apart };
              }
              (λ j u ne a. l.each j u a);
          apart = λ i j x y a b ne.
              pairs_set (λ _. Unit {0}) Apart s.views id w
              (λ j u d ne a.
              let p = l.apart id j m.0 u at a (λ e. ne (sym e)) in
              let q = l.apart j id u m.0 a at ne in
              (record { numbers = p.numbers; turn = λ h. absurd (false≢true h); alone = p.alone }, record { numbers = q.numbers; turn = λ h. refl; alone = q.alone }))
              (λ j k u x d c nj nk a b ne. l.apart j k u x a b ne) i j x y tt tt a b ne;
        },
        rw carried refl,
      )

  -- one view changes, and the history stays
  replaced : (s : State (Option T) (View T E)) (id : ℕ) (v w : View T E) (l : IsLock history may follows s) (made : ℕ) (ws : List ℕ)
      → get_elem? s.views id ≡ some v → ws ≡ l.turn ∷ made ∷ [] → 1 ≤ made → ((k : ℕ) → made ≤ k → calls (k ∷ []) l.log ≡ [])
      → v.holds ≡ false → w.holds ≡ false → Stands l.opening l.log made w
      → ((j : ℕ) (u : View T E) → j ≢ id → get_elem? s.views j ≡ some u → Stands l.opening l.log made u × Apart w u × Apart u w)
      → IsLock history may follows record { words = ws; homes = s.homes; views = set s.views id w }
  replaced s id v w l made ws at words begun fresh was is stands others =
      record {
        opening = l.opening;
        log = l.log;
        turn = l.turn;
        made = made;
        words = words;
        begun = begun;
        holder = ⊎_elim
            (λ t. inl (
              t.0,
              record {
                value = t.1.value;
                home = t.1.home;
                kept = t.1.kept;
                comes = t.1.comes;
                nobody = each_set (λ (u : View T E). u.holds ≡ false) s.views id w is (λ j u ne a. t.1.nobody j u a);
              },
            ))
            (λ t. inr (
              t.0,
              record {
                id = t.1.id;
                view = t.1.view;
                at = set_else s.views id t.1.id w (differ s.views id t.1.id v t.1.view at t.1.at was t.1.holds) ∙ t.1.at;
                holds = t.1.holds;
              },
            ))
            l.holder;
        allowed = l.allowed;
        fresh = fresh;
        each = each_set (Stands l.opening l.log made) s.views id w stands (λ j u ne a. (others j u ne a).0);
        apart = λ i j x y a b ne.
            pairs_set (λ _. Unit {0}) Apart s.views id w (λ j u d ne a. ((others j u ne a).1, (others j u ne a).2)) (λ j k u x d c nj nk a b ne. l.apart j k u x a b ne) i j x y tt tt a b ne;
      }

  numbered_lock : (s : State (Option T) (View T E)) (id old : ℕ) (v : View T E) (l : IsLock history may follows s) → get_elem? s.views id ≡ some v
      → v.holds ≡ false → l.made ≡ old → old < most_numbers
      → IsLock history may follows record { words = set s.words 1 (old + 1); homes = s.homes; views = set s.views id (numbered v old) }
  numbered_lock s id old v l at idle is low =
      let sv = l.each id v at in
      let begun = l.begun in
      replaced s id v (numbered v old) l (old + 1) (set s.words 1 (old + 1)) at (ap (λ ws. set ws 1 (old + 1)) l.words) (omega arith) (λ k le. l.fresh k (omega arith)) idle idle
      record {
        past = record {
          rest = sv.past.rest;
          whole = sv.past.whole;
          quiet = quiet_both (old ∷ []) v.known sv.past.rest
              (quiet_rest (old ∷ []) v.seen sv.past.rest (ap (λ h. calls (old ∷ []) h) (sym sv.past.whole) ∙ l.fresh old (omega arith))) sv.past.quiet;
        };
        below = λ k h. ⊎_elim (λ t. let e = eqb-true k old t in omega arith) (λ t. let b = sv.below k t in omega arith) (or_cases (eqb k old) (has k v.known) h);
        given = omega arith;
        own = λ k e. or_right (eqb k old) (has k v.known) (sv.own k e);
        turn = λ h. both_ways (IsCurrent l.log v) v.holds idle h;
        named = sv.named;
        alone = sv.alone;
        all_given = λ h. let e = sv.all_given h in absurd (omega arith);
        opened = sv.opened;
        met = record { mine = sv.met.mine; other = sv.met.other; apart = sv.met.apart };
      }
      (λ j u ne a.
      let su = l.each j u a in
      let p = l.apart id j v u at a (λ e. ne (sym e)) in
      let q = l.apart j id u v a at ne in
      let new : has old u.known ≡ false = false_from_ne_true (has old u.known) (λ t. let b = su.below old t in absurd (omega arith)) in (
        record {
          past = su.past;
          below = λ k h. let b = su.below k h in omega arith;
          given = let b = su.given in omega arith;
          own = su.own;
          turn = su.turn;
          named = su.named;
          alone = su.alone;
          all_given = λ h. let e = su.all_given h in absurd (omega arith);
          opened = su.opened;
          met = su.met;
        },
        record {
          numbers = λ k h. ⊎_elim (λ t. subst (λ i. has i u.known ≡ false) (sym (eqb-true k old t)) new) (λ t. p.numbers k t) (or_cases (eqb k old) (has k v.known) h);
          turn = p.turn;
          alone = p.alone;
        },
        record {
          numbers = λ k h. or_from (eqb k old) (has k v.known) (ne_eqb k old (λ e. let b = su.below k h in absurd (omega arith))) (q.numbers k h);
          turn = q.turn;
          alone = q.alone;
        },
      ))

  filled_lock : (s : State (Option T) (View T E)) (id : ℕ) (v : View T E) (l : IsLock history may follows s) → get_elem? s.views id ≡ some v → v.holds ≡ false → l.made ≡ most_numbers
      → IsLock history may follows record { words = s.words; homes = s.homes; views = set s.views id (filled v) }
  filled_lock s id v l at idle is =
      let sv = l.each id v at in
      replaced s id v (filled v) l l.made s.words at l.words l.begun l.fresh idle idle
      record {
        past = sv.past;
        below = sv.below;
        given = sv.given;
        own = sv.own;
        turn = sv.turn;
        named = sv.named;
        alone = λ h. absurd (false≢true h);
        all_given = λ h. is;
        opened = sv.opened;
        met = record { mine = sv.met.mine; other = sv.met.other; apart = sv.met.apart };
      }
      (λ j u ne a.
      let p = l.apart id j v u at a (λ e. ne (sym e)) in
      let q = l.apart j id u v a at ne in (
        l.each j u a,
        record { numbers = p.numbers; turn = p.turn; alone = λ h. absurd (false≢true h) },
        record { numbers = q.numbers; turn = q.turn; alone = q.alone },
      ))

  pub numbers : (n id : ℕ) (m : Me (Option T) (View T E)) (old : ℕ) → m.0.holds ≡ false → old < most_numbers
      → Allows (IsLock history may follows) n id m 1 (λ y. either (eqb y old) (old + 1) y) (Numbers (step n 1 old (old + 1) none) m)
  numbers n id m old idle low s l wide at small =
      let y : ℕ = get_or s.words 1 0 in
      let found : y ≡ l.made = ap (λ ws. get_or ws 1 0) l.words in
      let sm = l.each id m.0 at in
      let begun = l.begun in
      dite (ℕ_discrete y old)
      (λ e.
      let hit : either (eqb y old) (old + 1) y ≡ old + 1 = rw e (rw (eq-eqb old old refl) refl) in (
        numbered m.0 y,
        keeps,
        tt,
        subst (λ k. IsLock history may follows record { words = set s.words 1 k; homes = s.homes; views = set s.views id (numbered m.0 y) }) (sym hit)
            (subst (λ k. IsLock history may follows record { words = set s.words 1 (old + 1); homes = s.homes; views = set s.views id (numbered m.0 k) }) (sym e) (numbered_lock s id old m.0 l at idle (sym found ∙ e) low)),
        inl (
          e,
          omega arith,
          record {
            fresh = record {
              known = λ k h. let b = sm.below k h in omega arith;
              unused = quiet_front (y ∷ []) m.0.seen sm.past.rest (ap (λ h. calls (y ∷ []) h) (sym sm.past.whole) ∙ l.fresh y (omega arith));
              given = let b = sm.given in omega arith;
            };
            left = false_from_ne_true m.0.all_given (λ t. let f = sm.all_given t in absurd (omega arith));
            own = sm.own;
          },
          refl,
        ),
      ))
      (λ ne.
      let miss : either (eqb y old) (old + 1) y ≡ y = rw (ne_eqb y old ne) refl in
      dite (ℕ_discrete y most_numbers)
      (λ e. (
        filled m.0,
        keeps,
        tt,
        subst (λ k. IsLock history may follows record { words = set s.words 1 k; homes = s.homes; views = set s.views id (filled m.0) }) (sym miss)
            (subst (λ ws. IsLock history may follows record { words = ws; homes = s.homes; views = set s.views id (filled m.0) }) (sym (set-get_or s.words 1 0)) (filled_lock s id m.0 l at idle (sym found ∙ e))),
        inr (inl (ne, e, refl)),
      ))
      (λ less. (
        m.0,
        keeps,
        tt,
        subst (λ k. IsLock history may follows record { words = set s.words 1 k; homes = s.homes; views = set s.views id m.0 }) (sym miss) (stays s id 1 m.0 y l at refl),
        inr (inr (ne, less, omega arith, refl)),
      )))

  pub meets : (n id : ℕ) (m : Me (Option T) (View T E)) → Allows (IsLock history may follows) n id m 0 (λ y. y) (Meets history may follows (step n 0 0 0 none) m)
  meets n id m s l wide at small =
      let sm = l.each id m.0 at in (
        m.0,
        keeps,
        tt,
        stays s id 0 m.0 (get_or s.words 0 0) l at refl,
        (refl, sm.met, all_front (λ e. may e.0 e.1 ≡ true) m.0.seen sm.past.rest (subst (λ h. All (λ e. may e.0 e.1 ≡ true) h) sm.past.whole l.allowed)),
      )

  -- a view that was given a number is split: the new half has the number
  pub splits : (id n : ℕ) (v : View T E) → v.holds ≡ false → v.spent ≡ false → IsGiven v n
      → Splits (IsLock history may follows) id (numbered v n) (old_half (numbered v n)) (new_half (numbered v n))
  splits id n v idle here given s l at =
      let both : View T E = numbered v n in
      let old : View T E = old_half both in
      let new : View T E = new_half both in
      let sv = l.each id both at in
      let stands : Stands l.opening l.log l.made old = record {
        past = record { rest = sv.past.rest; whole = sv.past.whole; quiet = quiet_later n v.known sv.past.rest sv.past.quiet };
        below = λ k h. sv.below k (or_right (eqb k n) (has k v.known) h);
        given = sv.given;
        own = given.own;
        turn = sv.turn;
        named = sv.named;
        alone = λ h. absurd (false≢true h);
        all_given = sv.all_given;
        opened = sv.opened;
        met = record { mine = sv.met.mine; other = sv.met.other; apart = sv.met.apart };
      } in
      let changed : IsLock history may follows record { words = s.words; homes = s.homes; views = set s.views id old } =
      replaced s id both old l l.made s.words at l.words l.begun l.fresh idle idle stands
      (λ j u ne a.
      let p = l.apart id j both u at a (λ e. ne (sym e)) in
      let q = l.apart j id u both a at ne in (
        l.each j u a,
        record { numbers = λ k h. p.numbers k (or_right (eqb k n) (has k v.known) h); turn = p.turn; alone = λ h. absurd (false≢true h) },
        record { numbers = λ k h. has_later k n v.known (q.numbers k h); turn = q.turn; alone = q.alone },
      )) in
      -- nobody is alone
      let many : (j : ℕ) (u : View T E) → get_elem? (set s.views id old) j ≡ some u → u.alone ≡ true → ⊥ =
      each_set (λ (u : View T E). u.alone ≡ true → ⊥) s.views id old (λ h. false≢true h) (λ j u ne a h. both_ways ⊥ v.spent here ((l.apart j id u both a at ne).alone h)) in
      -- nobody else knows the number
      let nobody : (j : ℕ) (u : View T E) → get_elem? (set s.views id old) j ≡ some u → has n u.known ≡ false =
      each_set (λ (u : View T E). has n u.known ≡ false) s.views id old (false_from_ne_true (has n v.known) (λ t. let b = given.fresh.known n t in absurd (omega arith)))
      (λ j u ne a. (l.apart id j both u at a (λ e. ne (sym e))).numbers n (has_it n v.known)) in
      record {
        opening = l.opening;
        log = l.log;
        turn = l.turn;
        made = l.made;
        words = l.words;
        begun = l.begun;
        holder = ⊎_elim
            (λ t. inl (
              t.0,
              record {
                value = t.1.value;
                home = t.1.home;
                kept = t.1.kept;
                comes = t.1.comes;
                nobody = each_snoc (λ (u : View T E). u.holds ≡ false) (set s.views id old) new refl (each_set (λ (u : View T E). u.holds ≡ false) s.views id old idle (λ j u ne a. t.1.nobody j u a));
              },
            ))
            (λ t. inr (
              t.0,
              record {
                id = t.1.id;
                view = t.1.view;
                at = at_longer (set s.views id old) (new ∷ []) t.1.id t.1.view (set_else s.views id t.1.id old (differ s.views id t.1.id both t.1.view at t.1.at idle t.1.holds) ∙ t.1.at);
                holds = t.1.holds;
              },
            ))
            l.holder;
        allowed = l.allowed;
        fresh = l.fresh;
        each = each_snoc (Stands l.opening l.log l.made) (set s.views id old) new
            record {
              past = record { rest = sv.past.rest; whole = sv.past.whole; quiet = quiet_less (n ∷ v.known) n sv.past.rest (has_it n v.known) sv.past.quiet };
              below = λ k h. let e = has_one k n h in let b = sv.below n (has_it n v.known) in omega arith;
              given = sv.given;
              own = λ k e. let same : n ≡ k = cc in subst (λ j. has j (n ∷ []) ≡ true) same (has_it n []);
              turn = λ h. absurd (false≢true h);
              named = λ h. absurd (false≢true h);
              alone = λ h. absurd (false≢true h);
              all_given = sv.all_given;
              opened = λ h. sv.opened here;
              met = record { mine = past_nothing v.seen; other = past_nothing v.seen; apart = λ k h. refl };
            }
            (each_set (Stands l.opening l.log l.made) s.views id old stands (λ j u ne a. l.each j u a));
        apart = pairs_snoc Apart (set s.views id old) new
            (λ j u a. (
              record { numbers = λ k h. subst (λ i. has i u.known ≡ false) (sym (has_one k n h)) (nobody j u a); turn = λ h. absurd (false≢true h); alone = λ h. absurd (false≢true h) },
              record {
                numbers = λ k h. has_else k n (not_it k n u.known (nobody j u a) h);
                turn = λ h. refl;
                alone = λ h. absurd (many j u a h);
              },
            ))
            changed.apart;
      }

  pub joins : (id other : ℕ) (v w : View T E) → v.holds ≡ false → v.spent ≡ false → w.holds ≡ false → Joins (IsLock history may follows) id v other w (joined v w) spent_view
  joins id other v w idle here rests s l at ne at' =
      let u : View T E = joined v w in
      let aw : get_elem? s.views other ≡ some w = sym (set_else s.views id other u ne) ∙ at' in
      let sv = l.each id v at in
      let sw = l.each other w aw in
      let both = both_past l.log v.seen w.seen v.known w.known sv.past sw.past in
      let vs : List (View T E) = set s.views id u in
      record {
        opening = l.opening;
        log = l.log;
        turn = l.turn;
        made = l.made;
        words = l.words;
        begun = l.begun;
        holder = ⊎_elim
            (λ t. inl (
              t.0,
              record {
                value = t.1.value;
                home = t.1.home;
                kept = t.1.kept;
                comes = t.1.comes;
                nobody = each_set (λ (x : View T E). x.holds ≡ false) vs other spent_view refl (λ j x n a. each_set (λ (x : View T E). x.holds ≡ false) s.views id u idle (λ j x n a. t.1.nobody j x a) j x a);
              },
            ))
            (λ t. inr (
              t.0,
              record {
                id = t.1.id;
                view = t.1.view;
                at = set_else vs other t.1.id spent_view (differ s.views other t.1.id w t.1.view aw t.1.at rests t.1.holds)
                    ∙ (set_else s.views id t.1.id u (differ s.views id t.1.id v t.1.view at t.1.at idle t.1.holds) ∙ t.1.at);
                holds = t.1.holds;
              },
            ))
            l.holder;
        allowed = l.allowed;
        fresh = l.fresh;
        each =
            each_set (Stands l.opening l.log l.made) vs other spent_view
            record {
              past = past_nothing l.log;
              below = λ k h. absurd (false≢true h);
              given = omega arith;
              own = λ k e. absurd (none_some k e);
              turn = λ h. absurd (false≢true h);
              named = λ h. absurd (false≢true h);
              alone = λ h. absurd (false≢true h);
              all_given = λ h. absurd (false≢true h);
              opened = λ h. absurd (false≢true (sym h));
              met = record { mine = past_nothing []; other = past_nothing []; apart = λ k h. refl };
            }
            (λ j x n a.
            each_set (Stands l.opening l.log l.made) s.views id u
            record {
              past = both.past;
              below = λ k h. ⊎_elim (λ t. sv.below k t) (λ t. sw.below k t) (or_cases (has k v.known) (has k w.known) (sym (has_append k v.known w.known) ∙ h));
              given = max-le sv.given sw.given;
              own = λ k e. has_append k v.known w.known ∙ or_left (has k v.known) (has k w.known) (sv.own k e);
              turn = λ h. both_ways (IsCurrent l.log u) v.holds idle h;
              named = sv.named;
              alone = λ h. absurd (false≢true h);
              all_given = λ h. ⊎_elim (λ t. sv.all_given t) (λ t. sw.all_given t) (or_cases v.all_given w.all_given h);
              opened = sv.opened;
              met = record { mine = both.mine; other = both.other; apart = (l.apart id other v w at aw (λ e. ne (sym e))).numbers };
            }
            (λ j x n a. l.each j x a) j x a);
        apart = λ i j x y a b n.
            pairs_set (λ _. Unit {0}) Apart vs other spent_view
            (λ j x d n a. (
              record { numbers = λ k h. absurd (false≢true h); turn = λ h. absurd (false≢true h); alone = λ h. absurd (false≢true h) },
              record { numbers = λ k h. refl; turn = λ h. refl; alone = λ h. refl },
            ))
            (λ j k x y d c nj nk a b n.
            pairs_set (λ i. i ≢ other) Apart s.views id u
            (λ j x d n a.
            let p = l.apart id j v x at a (λ e. n (sym e)) in
            let q = l.apart j id x v a at n in
            let r = l.apart other j w x aw a (λ e. d (sym e)) in
            let t = l.apart j other x w a aw d in (
              record {
                numbers = λ k h. ⊎_elim (λ z. p.numbers k z) (λ z. r.numbers k z) (or_cases (has k v.known) (has k w.known) (sym (has_append k v.known w.known) ∙ h));
                turn = p.turn;
                alone = λ h. absurd (false≢true h);
              },
              record {
                numbers = λ k h. has_append k v.known w.known ∙ or_from (has k v.known) (has k w.known) (q.numbers k h) (t.numbers k h);
                turn = q.turn;
                alone = q.alone;
              },
            ))
            (λ j k x y d c nj nk a b n. l.apart j k x y a b n) j k x y nj nk a b n)
            i j x y tt tt a b n;
      }
