-- What a client keeps, and how one thing that it does follows another.
use Rattle.std.specs.Prelude.{ℕ, Bool, false, List, [], ◌∷◌, ◌++◌, Option, Some, None}
use Rattle.output_lines.specs.declared.out_line.OutLine.{OutLine}
use Rattle.core_model.specs.Names.{Name, at}
use Rattle.core_model.specs.Sources.{Text}
use Rattle.core_model.specs.Page.{Page, new_page}
use Rattle.client_model.specs.Language.{Bag}
use Rattle.client_model.specs.Instance.{Instance}
use Rattle.client_model.specs.Journal.{Journal, told}

-- why a plan can't be carried out: a module isn't served, its text can't be read, or an importer
-- imports from a dependency what it doesn't export
pub data Cause : Type 0 where
  missing : Name → Cause
  broken : Name → Cause
  unlinked : Name → Name → Name → Cause

-- a callback of this module, at this live version, invalidated it
pub record Invalidation : Type 0 where
  pub name : Name
  pub version : ℕ
  pub message : Text

-- what a client begins with
pub record Opening : Type 0 where
  pub shelf : List (Text × ℕ)  -- the closures of the embedding program: label and number
  pub roots : List Name  -- the roots that it names for its page; where it names none, it gets the server's
  pub format : ℕ  -- the format that it speaks, 1 or 2

-- what a client keeps
pub record Runtime : Type 0 where
  pub format : ℕ  -- the format that it speaks
  pub named : List Name  -- the roots that it names at its hello
  pub client : ℕ  -- the number that the last `connected` gave, 0 before any
  pub roots : List Name  -- the roots that the last `connected` gave
  pub page : Page
  pub texts : List (Name × Text)  -- what was fetched for the plan under way
  pub pairs : List (Name × Name)  -- the boundaries of the update under way, each with what it is told of
  pub cause : Option Cause  -- what a fetch of the plan under way found
  pub instances : List Instance  -- all that were made, the newest first
  pub bags : List (Name × Bag)
  pub unsent : List Invalidation
  pub shelf : List (Text × ℕ)  -- the closures of the embedding program that are left: label and number
  pub stopped : Bool  -- it would have made too many instances

-- a client that took no message yet
abbrev pub new_runtime : Opening → Runtime
new_runtime opening = record {
  format = opening.format;
  named = opening.roots;
  client = 0;
  roots = [];
  page = record new_page { plan = None };
  texts = [];
  pairs = [];
  cause = None;
  instances = [];
  bags = [];
  unsent = [];
  shelf = opening.shelf;
  stopped = false;
}

-- the empty bag where none is kept
abbrev pub bag_or_empty : Option Bag → Bag
bag_or_empty None = []
bag_or_empty (Some bag) = bag

-- the bag of a name
abbrev pub bag_of : Runtime → Name → Bag
bag_of r n = bag_or_empty (at r.bags n)

-- what a client became, and what happened meanwhile
abbrev pub Did : Type 0
Did = Runtime × Journal

-- nothing happens
abbrev pub nothing : Runtime → Did
nothing r = (r, [])

-- the one, then the other
abbrev pub and_then : Did → (Runtime → Did) → Did
and_then did next = let more : Did = next did.0 in (more.0, did.1 ++ more.1)

-- for each of a list, in its order
abbrev pub for_each : {X : Type 0} → (X → Runtime → Did) → List X → Runtime → Did
for_each act [] r = nothing r
for_each act (x ∷ xs) r = and_then (act x r) (for_each act xs)

-- a line that no instance gives
abbrev pub write : OutLine → Runtime → Did
write l r = (r, told l ∷ [])
