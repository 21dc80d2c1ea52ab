-- What is kept of a client, and when it is what the definitions of the core have of the client. The
-- lists whose order moves in the definitions, staged modules and notices, are related by look-up.
use Rattle.std.specs.Prelude.{◌≡◌, ℕ, Bool, false, ◌&&◌, ⊤, List, Option, Some, None, is_none}
use Rattle.core_model.specs.Names.{Name, same_name, at}
use Rattle.core_model.specs.Page.{Plan}
use Rattle.core_model.specs.Sources.{Sources}
use Rattle.core_model.specs.View.{View, differs}
use Rattle.core_model.specs.Client.{Client, changed, dropped}
use Rattle.page_plan.specs.Plans.{IsSamePlan}
use Rattle.client_queue.specs.Queue.{Queue, is_marked, is_none_left}

-- what is kept of a client
pub record Kept : Type 0 where
  pub roots : List Name  -- of its page
  pub batches : ℕ  -- how many reloads and updates it was sent
  pub loaded : Bool
  pub view : View  -- the modules of its page
  pub queue : Queue  -- what is in store for it
  pub plan : Option Plan  -- the plan under way
  pub plan_at : ℕ  -- served_no when the last plan began
  pub dropped : List Name  -- what no root of the page reaches

-- both have a plan, and it is the same; or neither has one
abbrev pub IsPlan : Option Plan → Option Plan → Type 0
IsPlan None None = ⊤
IsPlan None (Some q) = ⊥
IsPlan (Some p) None = ⊥
IsPlan (Some p) (Some q) = IsSamePlan p q

-- what is kept is what the definitions have of the client, where s is served
pub record IsRecord (s : Sources) (c : Client) (kept : Kept) : Type 0 where
  pub roots : kept.roots ≡ c.roots
  pub batches : kept.batches ≡ c.batches
  pub loaded : kept.loaded ≡ c.page.loaded
  pub view : kept.view ≡ c.page.view
  pub forced : kept.queue.forced ≡ c.page.forced
  pub plan : IsPlan c.page.plan kept.plan
  pub plan_at : kept.plan_at ≡ c.plan_at
  pub held : kept.queue.held ≡ c.held_at
  pub notices : (n : Name) → at kept.queue.notices n ≡ at c.notices n
  pub dropped : kept.dropped ≡ dropped c
  -- what isn't as it is served
  pub marks : (n : Name) → is_marked kept.queue n ≡ differs (at c.page.view n) (at s.served n)

-- of each other name the same is served
abbrev pub SameBut : Name → Sources → Sources → Type 0
SameBut n s t = (m : Name) → same_name n m ≡ false → at t.served m ≡ at s.served m

-- nothing is to be done for the client
abbrev pub is_at_rest : Sources → Client → Bool
is_at_rest s c =
    c.page.loaded && is_none c.page.plan && is_none_left (changed s c) && is_none_left c.page.forced
    && is_none_left (dropped c) && is_none_left c.notices
