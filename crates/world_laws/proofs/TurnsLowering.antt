-- A quiet turn lowers the debt of a client that isn't caught up, and so it is caught up after as many
-- turns as its debt.
use Rattle.std.proofs.Common.{◌≡◌, ◌⊎◌, inl, inr, ℕ, zero, suc, ◌<◌, ◌≤◌, Bool, true, false, List, [], ◌∷◌, ◌++◌, length, refl, sym, ◌∙◌, arith}
use Rattle.std.specs.Prelude.{◌==◌, ◌&&◌, Option, Some, None, is_some, if◌then◌else◌, IfSome}
use Rattle.std.specs.List.{list_all}
use Prim.{⊥}
use Rattle.std.proofs.Math.Path.{subst}
use Rattle.std.proofs.lemmas.Bool.{false≢true, eq-eqb}
use Rattle.hmr_types.specs.declared.analysis.TextFault.{TextFault}
use Rattle.core_model.specs.Names.{Name, has}
use Rattle.core_model.specs.Sources.{Text, Sources}
use Rattle.core_model.specs.View.{View, self_accepts}
use Rattle.core_model.specs.Page.{Page, Plan}
use Rattle.core_model.specs.Client.{Client, changed, dropped}
use Rattle.core_model.specs.Core.{client_at}
use Rattle.core_model.specs.Exchange.{message_for}
use Rattle.core_model.proofs.Naming.{both_true, cases_bool}
use Rattle.core_laws.specs.Facts.{PlanIsServed}
use Rattle.client_model.specs.Language.{Language, Bag, BindsImports}
use Rattle.client_model.specs.Instance.{Instance}
use Rattle.client_model.specs.Runtime.{Runtime, Cause, Invalidation}
use Rattle.client_model.specs.Requesting.{request_by}
use Rattle.world_model.specs.CaughtUp.{IsCaughtUp, is_caught_up, is_empty, wants_nothing, plan_turns, debt_by, debt}
use Rattle.world_model.specs.World.{World, Step, turn}
use Rattle.world_model.specs.Turning.{turn_of}
use Rattle.world_model.specs.Steps.{world_step, world_after}
use Rattle.world_model.specs.Ties.{IsTied, TiedAt, AreServedRight, WentOn}
use Rattle.world_model.proofs.Tying.{IsSound, run_sound}
use Rattle.world_laws.specs.Quiet.{IsIdleOrBusy, EndsAt, Ends, IsSettled, unsent_of, IsOpen, OwesLess, AreQuiet, IsUpWithin}
use Rattle.world_laws.proofs.CatchingUp.{test_is, empty_is}
use Rattle.world_laws.proofs.Freshness.{core_made}
use Rattle.world_laws.proofs.TurnsTaken.{heard_by, heard_by_roots, done_by, is_answered, Turned, turned}
use Rattle.world_laws.proofs.TurnsEnding.{HasFacts, HaveFacts, facts_of, run_ends}
use Rattle.world_laws.proofs.TurnsPlan.{plan_less}
use Rattle.world_laws.proofs.TurnsAsk.{none_less}

-- A turn of one client.

module _ (language : Language) (s : Sources) (right : AreServedRight language s.served) (format : ℕ) (named : List Name) (i : ℕ) (roots : List Name) (batches : ℕ) (loaded : Bool) (view : View) (forced : List Name) (texts : List (Name × Text)) (pairs : List (Name × Name)) (instances : List Instance) (bags : List (Name × Bag)) (shelf : List (Text × ℕ)) (stopped : Bool) (plan_at : ℕ) (held_at : Option ℕ) (notices : List (Name × TextFault)) where
  abbrev page : Option Plan → Page
  page plan = record { loaded = loaded; view = view; forced = forced; plan = plan }

  abbrev rt : Option Plan → Option Cause → List Invalidation → Runtime
  rt plan cause unsent = record { format = format; named = named; client = i; roots = roots; page = page plan; texts = texts; pairs = pairs; cause = cause; instances = instances; bags = bags; unsent = unsent; shelf = shelf; stopped = stopped }

  abbrev cl : Option Plan → Client
  cl plan = record { roots = roots; batches = batches; page = page plan; plan_at = plan_at; held_at = held_at; notices = notices }

  lower_by : (plan : Option Plan) (cause : Option Cause) (unsent : List Invalidation) → BindsImports language → IsSettled language roots s → (plan_at ≡ s.served_no → PlanIsServed plan view s.served) → ((n : Name) → has forced n ≡ true → self_accepts view n ≡ true)
      → IsIdleOrBusy plan language s (cl plan) (rt plan cause unsent) → (IsCaughtUp s (cl plan) (rt plan cause unsent) → ⊥)
      → is_answered loaded (request_by plan language (rt plan cause unsent)) (message_for format (heard_by (request_by plan language (rt plan cause unsent)) i s (cl plan)).1) ≡ true
      → length (done_by language (request_by plan language (rt plan cause unsent)) (heard_by (request_by plan language (rt plan cause unsent)) i s (cl plan)).1 (rt plan cause unsent)).unsent ≤ length unsent
      → debt s (heard_by (request_by plan language (rt plan cause unsent)) i s (cl plan)).0 (done_by language (request_by plan language (rt plan cause unsent)) (heard_by (request_by plan language (rt plan cause unsent)) i s (cl plan)).1 (rt plan cause unsent)) < debt_by plan s (cl plan) (rt plan cause unsent)
  lower_by None cause unsent binds settled current accepting ends behind answers calm = none_less language s format named i roots batches loaded view forced texts pairs instances bags shelf stopped plan_at held_at notices cause unsent (λ held. ends.held binds held settled.whole) accepting behind calm
  lower_by (Some p) cause unsent binds settled current accepting ends behind answers calm = plan_less language s right format named i roots batches settled loaded view forced texts pairs instances bags shelf stopped plan_at held_at notices p cause unsent binds current ends answers calm

abbrev TurnLowers : Language → ℕ → Sources → Client → Runtime → Type 0
TurnLowers language i s c r =
    BindsImports language → IsSettled language c.roots s → (c.plan_at ≡ s.served_no → PlanIsServed c.page.plan c.page.view s.served) → ((n : Name) → has c.page.forced n ≡ true → self_accepts c.page.view n ≡ true)
    → IsIdleOrBusy c.page.plan language s c r → (IsCaughtUp s c r → ⊥)
    → is_answered r.page.loaded (request_by r.page.plan language r) (message_for r.format (heard_by (request_by r.page.plan language r) i s c).1) ≡ true
    → length (done_by language (request_by r.page.plan language r) (heard_by (request_by r.page.plan language r) i s c).1 r).unsent ≤ length r.unsent
    → debt s (heard_by (request_by r.page.plan language r) i s c).0 (done_by language (request_by r.page.plan language r) (heard_by (request_by r.page.plan language r) i s c).1 r) < debt s c r

turn_lowers : (language : Language) (i : ℕ) (s : Sources) (c : Client) (r : Runtime) → AreServedRight language s.served → IsTied i c r → TurnLowers language i s c r
turn_lowers language i s c r right tie =
    subst (λ k. TurnLowers language k s c r) tie.number
    (subst (λ x. TurnLowers language r.client s (record c { roots = x }) r) tie.roots_are
    (subst (λ (x : Page). TurnLowers language r.client s (record c { roots = r.roots; page = x }) r) tie.page
    (lower_by language s right r.format r.named r.client r.roots c.batches r.page.loaded r.page.view r.page.forced r.texts r.pairs r.instances r.bags r.shelf r.stopped c.plan_at c.held_at c.notices r.page.plan r.cause r.unsent)))

-- A turn in the world.

-- the client is there after the turn, over the same sources; and it owes less
record Stepped (roots : List Name) (w after : World) (i k : ℕ) : Type 0 where
  owes : OwesLess after i k
  roots_same : owes.client.roots ≡ roots
  sources : after.core.sources ≡ w.core.sources

own : {X : Type 0} → (b : Bool) (x : X) (o : Option X) → b ≡ true → (if b then Some x else o) ≡ Some x
own true x o e = refl
own false x o e = absurd (false≢true e)

stepped_by : (language : Language) (w after : World) (i : ℕ) (c : Client) (r : Runtime) → Turned language w after i c r → IsTied i c r → AreServedRight language w.core.sources.served → HasFacts w.core.sources c → IsIdleOrBusy c.page.plan language w.core.sources c r
    → BindsImports language → IsSettled language c.roots w.core.sources → (IsCaughtUp w.core.sources c r → ⊥) → unsent_of (client_at after.clients i) ≤ length r.unsent → Stepped c.roots w after i (debt w.core.sources c r)
stepped_by language w after i c r t tie right f ends binds settled behind calm =
    let connected : client_at after.core.clients i ≡ Some (heard_by (request_by r.page.plan language r) i w.core.sources c).0 = t.clients i ∙ own (i == i) _ _ (eq-eqb i i refl) in
    let open_is : client_at after.clients i ≡ Some (done_by language (request_by r.page.plan language r) (heard_by (request_by r.page.plan language r) i w.core.sources c).1 r) = t.runtimes i ∙ own (i == i) _ _ (eq-eqb i i refl) in
    record {
      owes = record {
        client = (heard_by (request_by r.page.plan language r) i w.core.sources c).0;
        runtime = done_by language (request_by r.page.plan language r) (heard_by (request_by r.page.plan language r) i w.core.sources c).1 r;
        is_open = record { connected = connected; open_is = open_is };
        less = subst (λ s. debt s (heard_by (request_by r.page.plan language r) i w.core.sources c).0 (done_by language (request_by r.page.plan language r) (heard_by (request_by r.page.plan language r) i w.core.sources c).1 r) < debt w.core.sources c r) (sym t.sources)
            (turn_lowers language i w.core.sources c r right tie binds settled f.facts.current f.facts.accepting ends behind t.answers (subst (λ o. unsent_of o ≤ length r.unsent) open_is calm));
      };
      roots_same = heard_by_roots (request_by r.page.plan language r) i w.core.sources c;
      sources = t.sources;
    }

stepped : (language : Language) (roots : List Name) (w : World) (i : ℕ) (c : Client) (r : Runtime) → IsSound language w → HaveFacts w.core → Ends language w → client_at w.core.clients i ≡ Some c → client_at w.clients i ≡ Some r
    → BindsImports language → IsSettled language c.roots w.core.sources → (IsCaughtUp w.core.sources c r → ⊥) → is_some (turn_of language roots i w (client_at w.clients i)).lines ≡ true → unsent_of (client_at (turn_of language roots i w (client_at w.clients i)).world.clients i) ≤ unsent_of (client_at w.clients i)
    → Stepped c.roots w (turn_of language roots i w (client_at w.clients i)).world i (debt w.core.sources c r)
stepped language roots w i c r sound facts ends there open_is binds settled behind some calm =
    let tie : IsTied i c r = subst (λ o. TiedAt i o (Some r)) there (subst (TiedAt i (client_at w.core.clients i)) open_is (sound.tied i)) in
    let f : HasFacts w.core.sources c = subst (λ o. IfSome o (HasFacts w.core.sources)) there (facts i) in
    let e : IsIdleOrBusy c.page.plan language w.core.sources c r = subst (λ o. EndsAt language w.core.sources o (Some r)) there (subst (EndsAt language w.core.sources (client_at w.core.clients i)) open_is (ends i)) in
    let goes : is_some (turn_of language roots i w (Some r)).lines ≡ true = subst (λ o. is_some (turn_of language roots i w o).lines ≡ true) open_is some in
    let calm_here : unsent_of (client_at (turn_of language roots i w (Some r)).world.clients i) ≤ length r.unsent = subst (λ o. unsent_of (client_at (turn_of language roots i w o).world.clients i) ≤ unsent_of o) open_is calm in
    subst (λ o. Stepped c.roots w (turn_of language roots i w o).world i (debt w.core.sources c r)) (sym open_is)
    (stepped_by language w (turn_of language roots i w (Some r)).world i c r (turned language roots w i c r sound there open_is (subst (λ k. 1 ≤ k) (sym tie.number) tie.counted) goes) tie sound.served f e binds settled behind calm_here)

module _ (language : Language) (roots : List Name) (shelves : List (List (Text × ℕ))) (i : ℕ) where
  stepped_after : (past : List Step) (c : Client) (r : Runtime) → WentOn language roots shelves past → BindsImports language → IsSettled language c.roots (world_after language roots shelves past).core.sources
      → IsOpen (world_after language roots shelves past) i c r
      → is_some (world_step language roots shelves (world_after language roots shelves past) (turn i)).lines ≡ true
      → unsent_of (client_at (world_after language roots shelves (turn i ∷ past)).clients i) ≤ unsent_of (client_at (world_after language roots shelves past).clients i)
      → (IsCaughtUp (world_after language roots shelves past).core.sources c r → ⊥)
      → Stepped c.roots (world_after language roots shelves past) (world_after language roots shelves (turn i ∷ past)) i (debt (world_after language roots shelves past).core.sources c r)
  stepped_after past c r went binds settled is_open some calm behind =
      stepped language roots (world_after language roots shelves past) i c r (run_sound language roots shelves past went) (facts_of roots (world_after language roots shelves past).core (core_made language roots shelves past)) (run_ends language roots shelves past went) is_open.connected is_open.open_is binds settled behind some calm

-- a quiet turn lowers the debt
pub quiet_lowers : (language : Language) (roots : List Name) (shelves : List (List (Text × ℕ))) (past : List Step) (i : ℕ) (c : Client) (r : Runtime) → WentOn language roots shelves past → BindsImports language → IsSettled language c.roots (world_after language roots shelves past).core.sources
    → IsOpen (world_after language roots shelves past) i c r
    → (IsCaughtUp (world_after language roots shelves past).core.sources c r → ⊥) → AreQuiet language roots shelves i 1 past
    → OwesLess (world_after language roots shelves (turn i ∷ past)) i (debt (world_after language roots shelves past).core.sources c r)
quiet_lowers language roots shelves past i c r went binds settled is_open behind quiet = (stepped_after language roots shelves i past c r went binds settled is_open quiet.0 quiet.1 behind).owes

-- No debt.

zero_if : (b : Bool) (n : ℕ) → (if b then 0 else n) ≤ 0 → 1 ≤ n → b ≡ true
zero_if true n h l = refl
zero_if false n h l = absurd (omega (arith, h, l))

no_list : {X : Type 0} → (xs : List X) → length xs ≤ 0 → xs ≡ []
no_list [] h = refl
no_list (x ∷ xs) h = absurd (omega (arith, h))

nothing_in : (names forced : List Name) → list_all (has []) (names ++ forced) ≡ true → (names ≡ []) × (forced ≡ [])
nothing_in [] [] h = (refl, refl)
nothing_in [] (n ∷ forced) h = absurd (false≢true h)
nothing_in (n ∷ names) forced h = absurd (false≢true h)

no_debt_by : (s : Sources) (c : Client) (r : Runtime) (plan : Option Plan) → c.page.plan ≡ plan → debt_by plan s c r ≤ 0 → IsCaughtUp s c r
no_debt_by s c r (Some p) e h = absurd (omega (arith, h))
no_debt_by s c r None e h =
    let first : (if is_empty (dropped c) then 0 else 1) ≤ 0 = omega (arith, h) in
    let second : (if c.page.loaded && is_empty r.unsent && wants_nothing s c then 0 else plan_turns s) ≤ 0 = omega (arith, h) in
    let whole : dropped c ≡ [] = empty_is (dropped c) (zero_if (is_empty (dropped c)) 1 first (omega arith)) in
    let idle = both_true (c.page.loaded && is_empty r.unsent) (wants_nothing s c) (zero_if (c.page.loaded && is_empty r.unsent && wants_nothing s c) (plan_turns s) second (omega arith)) in
    let nothing = nothing_in (changed s c) c.page.forced (subst (λ ds. list_all (has ds) (changed s c ++ c.page.forced) ≡ true) whole idle.1) in
    record {
      loaded = (both_true c.page.loaded (is_empty r.unsent) idle.0).0;
      idle = e;
      unchanged = nothing.0;
      unforced = nothing.1;
      whole = whole;
      told = no_list c.notices (omega (arith, h));
      sent = no_list r.unsent (omega (arith, h));
    }

-- As many turns.

module _ (language : Language) (roots : List Name) (shelves : List (List (Text × ℕ))) (i : ℕ) (binds : BindsImports language) where
  up_now : (k : ℕ) (past : List Step) (c : Client) (r : Runtime) → IsOpen (world_after language roots shelves past) i c r → IsCaughtUp (world_after language roots shelves past).core.sources c r → IsUpWithin language roots shelves i k past
  up_now k past c r is_open up = record { taken = 0; few = omega arith; up = record { client = c; runtime = r; is_open = is_open; up = up } }

  one_more : (k : ℕ) (past : List Step) → IsUpWithin language roots shelves i k (turn i ∷ past) → IsUpWithin language roots shelves i (suc k) past
  one_more k past u = record { taken = suc u.taken; few = omega (arith, u.few); up = u.up }

  or_turn : (k : ℕ) (past : List Step) (c : Client) (r : Runtime) → (is_caught_up (world_after language roots shelves past).core.sources c r ≡ true) ⊎ (is_caught_up (world_after language roots shelves past).core.sources c r ≡ false)
      → IsOpen (world_after language roots shelves past) i c r
      → ((IsCaughtUp (world_after language roots shelves past).core.sources c r → ⊥) → IsUpWithin language roots shelves i k past) → IsUpWithin language roots shelves i k past
  or_turn k past c r (inl t) is_open f = up_now k past c r is_open ((test_is (world_after language roots shelves past).core.sources c r).0 t)
  or_turn k past c r (inr t) is_open f = f (λ up. false≢true (sym t ∙ (test_is (world_after language roots shelves past).core.sources c r).1 up))

  pub caught_within : (k : ℕ) (past : List Step) (c : Client) (r : Runtime) → WentOn language roots shelves past → IsSettled language c.roots (world_after language roots shelves past).core.sources
      → IsOpen (world_after language roots shelves past) i c r
      → debt (world_after language roots shelves past).core.sources c r ≤ k → AreQuiet language roots shelves i k past → IsUpWithin language roots shelves i k past
  caught_within zero past c r went settled is_open low quiet = up_now 0 past c r is_open (no_debt_by (world_after language roots shelves past).core.sources c r c.page.plan refl low)
  caught_within (suc k) past c r went settled is_open low quiet = or_turn (suc k) past c r (cases_bool _) is_open (λ behind.
      let t : Stepped c.roots (world_after language roots shelves past) (world_after language roots shelves (turn i ∷ past)) i (debt (world_after language roots shelves past).core.sources c r) = stepped_after language roots shelves i past c r went binds settled is_open quiet.0 quiet.1 behind in
      one_more k past (caught_within k (turn i ∷ past) t.owes.client t.owes.runtime (quiet.0, went) (subst (λ x. IsSettled language x (world_after language roots shelves (turn i ∷ past)).core.sources) (sym t.roots_same) (subst (IsSettled language c.roots) (sym t.sources) settled)) t.owes.is_open (omega (arith, t.owes.less, low)) quiet.2))
