-- When a client is caught up, and how far it is from it.
use Rattle.std.specs.Prelude.{◌≡◌, ℕ, ◌+◌, ◌*◌, ◌==◌, Bool, true, false, not, ◌&&◌, List, [], ◌∷◌, ◌++◌}
use Rattle.std.specs.Prelude.{length, filter, Option, Some, None, is_some, is_none, if◌then◌else◌}
use Rattle.std.specs.List.{list_all}
use Rattle.output_lines.specs.declared.words.ClientState.{ClientState}
use Rattle.output_lines.specs.declared.words.ClientState.TheVariants.{Up, Behind}
use Rattle.core_model.specs.Names.{Name, has, at, names_of}
use Rattle.core_model.specs.Sources.{Sources}
use Rattle.core_model.specs.FreshLoad.{Served}
use Rattle.core_model.specs.View.{View}
use Rattle.core_model.specs.Page.{Plan}
use Rattle.core_model.specs.Client.{Client, changed, dropped}
use Rattle.client_model.specs.Runtime.{Runtime}

-- A client is caught up: its page is loaded, no plan is under way, and nothing is changed, invalidated,
-- dropped or waiting to be told, on either side.
pub record IsCaughtUp (s : Sources) (c : Client) (r : Runtime) : Type 0 where
  pub loaded : c.page.loaded ≡ true
  pub idle : c.page.plan ≡ None
  pub unchanged : changed s c ≡ []
  pub unforced : c.page.forced ≡ []
  pub whole : dropped c ≡ []
  pub told : c.notices ≡ []
  pub sent : r.unsent ≡ []

-- whether nothing is in the list
abbrev pub is_empty : {X : Type 0} → List X → Bool
is_empty [] = true
is_empty (x ∷ xs) = false

-- the same, as a test
abbrev pub is_caught_up : Sources → Client → Runtime → Bool
is_caught_up s c r = c.page.loaded && is_none c.page.plan && is_empty (changed s c) && is_empty c.page.forced
    && is_empty (dropped c) && is_empty c.notices && is_empty r.unsent

-- a client without a record isn't caught up
abbrev pub state_of : Sources → Option Client → Runtime → ClientState
state_of s None r = Behind
state_of s (Some c) r = if is_caught_up s c r then Up else Behind

-- The debt of a client: a bound on the turns until it is caught up, where nothing is edited meanwhile
-- and the fresh load is whole.

-- each changed or invalidated name is dropped
abbrev pub wants_nothing : Sources → Client → Bool
wants_nothing s c = list_all (has (dropped c)) (changed s c ++ c.page.forced)

-- the served names that aren't staged
abbrev pub unstaged : Served → View → List Name
unstaged served staged = filter (λ n. not (is_some (at staged n))) (names_of served)

-- a plan to come: at most a turn for each served name, and four more
abbrev pub plan_turns : Sources → ℕ
plan_turns s = length s.served + 4

-- with no plan: an answer for each invalidation and notice, one for what is dropped, and a plan where
-- something is to be changed
abbrev pub debt_between : Sources → Client → Runtime → ℕ
debt_between s c r =
    (length r.unsent + length c.notices)
    + (if is_empty (dropped c) then 0 else 1)
    + (if c.page.loaded && is_empty r.unsent && wants_nothing s c then 0 else plan_turns s)

-- with a plan: an answer for each notice and one at its end, what is to be fetched, and a plan more where
-- something was served meanwhile
abbrev pub debt_within : Plan → Sources → Client → Runtime → ℕ
debt_within p s c r =
    (length c.notices + 1)
    + (if is_some r.cause then 1 else 2 + length (unstaged s.served p.staged))
    + (if c.plan_at == s.served_no then 0 else plan_turns s)

-- the debt, with a plan under way or with none
abbrev pub debt_by : Option Plan → Sources → Client → Runtime → ℕ
debt_by None s c r = debt_between s c r
debt_by (Some p) s c r = debt_within p s c r

-- how far a client is from caught up
abbrev pub debt : Sources → Client → Runtime → ℕ
debt s c r = debt_by c.page.plan s c r

-- the debt is never above this
abbrev pub largest_debt : Sources → Client → Runtime → ℕ
largest_debt s c r = 2 * length s.served + length c.notices + length r.unsent + 7
