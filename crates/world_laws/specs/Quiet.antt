-- Turns of one client, and what they leave of its plan, its cause to give one up, and its debt.
use Rattle.std.specs.Prelude.{◌≡◌, ◌<◌, ◌≤◌, ◌==◌, ◌||◌, [], ◌∷◌, ◌++◌}
use Rattle.std.specs.Prelude.{ℕ, zero, suc, Bool, true, false, List}
use Rattle.std.specs.Prelude.{length, filter, Option, Some, None, is_some, ⊤}
use Rattle.std.specs.List.{list_all}
use Prim.{⊥}
use Rattle.core_model.specs.Names.{Name, has, at}
use Rattle.core_model.specs.Sources.{Text, Sources, Source, Serving, is_outstanding}
use Rattle.core_model.specs.FreshLoad.{Served, reached_by, fresh_load, IsWhole}
use Rattle.core_model.specs.Page.{Plan}
use Rattle.core_model.specs.Client.{Client, is_held}
use Rattle.core_model.specs.Core.{client_at}
use Rattle.client_model.specs.Language.{Language, links_of, BindsImports}
use Rattle.client_model.specs.Runtime.{Runtime, Cause, missing, broken, unlinked}
use Rattle.world_model.specs.CaughtUp.{IsCaughtUp, debt}
use Rattle.world_model.specs.World.{World, Step, edits, settles, opens, turn, closes, show, values, fates}
use Rattle.world_model.specs.World.{fresh, fresh_of, fires}
use Rattle.world_model.specs.Steps.{world_step, world_after}
use Rattle.world_model.specs.Ties.{WentOn}

-- the fresh load of what is served is whole
abbrev pub IsServedWhole : Language → List Name → Sources → Type 0
IsServedWhole language roots s = IsWhole (fresh_load (links_of language) s.served roots)

-- a fresh load reaches the name, and it isn't served
pub record IsMissing (roots : List Name) (served : Served) (n : Name) : Type 0 where
  pub reached : has (reached_by served roots) n ≡ true
  pub unserved : at served n ≡ None

-- the cause that a fetch found, if there is one, names such a module; a fetch finds nothing unlinked
abbrev pub CauseIs : List Name → Served → Option Cause → Type 0
CauseIs roots served None = ⊤
CauseIs roots served (Some (missing n)) = IsMissing roots served n
CauseIs roots served (Some (broken n)) = IsMissing roots served n
CauseIs roots served (Some (unlinked n m x)) = ⊥

-- the text, if there is one, is what is served
abbrev pub IsServedText : Option Text → Option Serving → Type 0
IsServedText None s = ⊤
IsServedText (Some t) None = ⊥
IsServedText (Some t) (Some s) = s.text ≡ t

-- where nothing was served or removed since the plan began: what a fetch found is still so, and the
-- texts that were fetched are served
pub record IsCurrent (roots : List Name) (served : Served) (r : Runtime) : Type 0 where
  pub cause : CauseIs roots served r.cause
  pub texts : (n : Name) → IsServedText (at r.texts n) (at served n)

-- no plan is under way: no cause stands, and a held client waits for a fresh load that isn't whole
pub record IsIdle (language : Language) (s : Sources) (c : Client) (r : Runtime) : Type 0 where
  pub causeless : r.cause ≡ None
  pub held : BindsImports language → is_held s c ≡ true → IsServedWhole language c.roots s → ⊥

-- a plan is under way: no invalidation is unsent
pub record IsBusy (s : Sources) (c : Client) (r : Runtime) : Type 0 where
  pub sent : r.unsent ≡ []
  pub current : c.plan_at ≡ s.served_no → IsCurrent c.roots s.served r

-- by the plan under way, if there is one
abbrev pub IsIdleOrBusy : Option Plan → Language → Sources → Client → Runtime → Type 0
IsIdleOrBusy None language s c r = IsIdle language s c r
IsIdleOrBusy (Some p) language s c r = IsBusy s c r

-- the same of each client that has a record and is open
abbrev pub EndsAt : Language → Sources → Option Client → Option Runtime → Type 0
EndsAt language s None r = ⊤
EndsAt language s (Some c) None = ⊤
EndsAt language s (Some c) (Some r) = IsIdleOrBusy c.page.plan language s c r

-- of every client
abbrev pub Ends : Language → World → Type 0
Ends language w =
    (i : ℕ) → EndsAt language w.core.sources (client_at w.core.clients i) (client_at w.clients i)

-- client i is connected and open, with this record and this runtime
pub record IsOpen (w : World) (i : ℕ) (c : Client) (r : Runtime) : Type 0 where
  pub connected : client_at w.core.clients i ≡ Some c
  pub open_is : client_at w.clients i ≡ Some r

-- after every list of steps it holds of each connected and open client, and of the sources
abbrev pub EachClient : Language → List Name → (Sources → Client → Runtime → Type 0) → Type 0
EachClient language roots Holds =
    (shelves : List (List (Text × ℕ))) (past : List Step) (i : ℕ) (c : Client) (r : Runtime) →
    WentOn language roots shelves past → IsOpen (world_after language roots shelves past) i c r →
    Holds (world_after language roots shelves past).core.sources c r

-- Quiet turns.

-- a result came for the source, if there is one
abbrev pub HasResult : Option Source → Type 0
HasResult None = ⊤
HasResult (Some s) = is_outstanding s.verdict ≡ false

-- no job is outstanding, and the fresh load is whole
pub record IsSettled (language : Language) (roots : List Name) (s : Sources) : Type 0 where
  pub results : (n : Name) → HasResult (at s.current n)
  pub whole : IsServedWhole language roots s

-- how many invalidations a client hasn't sent; none where it isn't open
abbrev pub unsent_of : Option Runtime → ℕ
unsent_of None = 0
unsent_of (Some r) = length r.unsent

-- client i is connected and open, and its debt is below k
pub record OwesLess (w : World) (i k : ℕ) : Type 0 where
  pub client : Client
  pub runtime : Runtime
  pub is_open : IsOpen w i client runtime
  pub less : debt w.core.sources client runtime < k

-- client i is connected and open, and it is caught up
pub record IsUp (w : World) (i : ℕ) : Type 0 where
  pub client : Client
  pub runtime : Runtime
  pub is_open : IsOpen w i client runtime
  pub up : IsCaughtUp w.core.sources client runtime

-- so many turns more of client i
abbrev pub turns : ℕ → ℕ → List Step → List Step
turns i zero past = past
turns i (suc k) past = turns i k (turn i ∷ past)

-- so many turns more of client i go on, and none adds an unsent invalidation
abbrev pub AreQuiet : Language → List Name → List (List (Text × ℕ)) → ℕ → ℕ → List Step → Type 0
AreQuiet language roots shelves i zero past = ⊤
AreQuiet language roots shelves i (suc k) past =
    (is_some (world_step language roots shelves (world_after language roots shelves past) (turn i)).lines
    ≡ true)
    × (unsent_of (client_at (world_after language roots shelves (turn i ∷ past)).clients i)
    ≤ unsent_of (client_at (world_after language roots shelves past).clients i))
    × AreQuiet language roots shelves i k (turn i ∷ past)

-- client i is caught up after at most k turns more
pub record IsUpWithin (language : Language) (roots : List Name) (shelves : List (List (Text × ℕ))) (i k : ℕ)
    (past : List Step) : Type 0 where
  pub taken : ℕ
  pub few : taken ≤ k
  pub up : IsUp (world_after language roots shelves (turns i taken past)) i

-- the debt of a client that is connected and open, and 0 of any other
abbrev pub debt_at : Sources → Option Client → Option Runtime → ℕ
debt_at s None r = 0
debt_at s (Some c) None = 0
debt_at s (Some c) (Some r) = debt s c r

abbrev pub debt_in : World → ℕ → ℕ
debt_in w i = debt_at w.core.sources (client_at w.core.clients i) (client_at w.clients i)

-- the debts of client i now and after each of so many turns more
abbrev pub debts : Language → List Name → List (List (Text × ℕ)) → ℕ → ℕ → List Step → List ℕ
debts language roots shelves i zero past = debt_in (world_after language roots shelves past) i ∷ []
debts language roots shelves i (suc k) past =
    debt_in (world_after language roots shelves past) i ∷ debts language roots shelves i k (turn i ∷ past)

-- Steps that only look.

-- it shows a client or a fresh load, and changes nothing
abbrev pub looks : Step → Bool
looks (edits n t) = false
looks (settles n v) = false
looks (opens format names) = false
looks (turn j) = false
looks (closes j) = false
looks (show j) = true
looks (values j) = true
looks (fates j) = true
looks fresh = true
looks (fresh_of j) = true
looks (fires j n value) = false

-- it is a turn of client i
abbrev pub is_turn : ℕ → Step → Bool
is_turn i (edits n t) = false
is_turn i (settles n v) = false
is_turn i (opens format names) = false
is_turn i (turn j) = j == i
is_turn i (closes j) = false
is_turn i (show j) = false
is_turn i (values j) = false
is_turn i (fates j) = false
is_turn i fresh = false
is_turn i (fresh_of j) = false
is_turn i (fires j n value) = false

-- each is a turn of client i, or only looks
abbrev pub are_turns_and_looks : ℕ → List Step → Bool
are_turns_and_looks i steps = list_all (λ s. is_turn i s || looks s) steps

-- how many are turns of client i
abbrev pub turns_in : ℕ → List Step → ℕ
turns_in i steps = length (filter (is_turn i) steps)

-- client i is caught up after so many turns more, at most k, whatever looks come between them
pub record IsUpAmongLooks (language : Language) (roots : List Name) (shelves : List (List (Text × ℕ)))
    (i k : ℕ) (past : List Step) : Type 0 where
  pub taken : ℕ
  pub few : taken ≤ k
  pub up : (steps : List Step) → are_turns_and_looks i steps ≡ true → turns_in i steps ≡ taken →
      IsUp (world_after language roots shelves (steps ++ past)) i
