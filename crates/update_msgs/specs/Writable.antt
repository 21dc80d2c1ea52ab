-- Which messages can be written: their numbers lie in their ranges, a list that must have something has
-- it, and what is there for some kinds alone is there for these alone. Names, tables and texts need no
-- word here: their types keep that they are names, tables and UTF-8.
use Rattle.std.specs.Prelude.{◌≡◌, ◌≤◌, ◌==◌, ◌||◌, ⊤}
use Rattle.std.specs.Prelude.{ℕ, true, List, length, All, Option, Some, None, is_some}
use Prim.{⊥}
use Rattle.hmr_types.specs.declared.limits.TheConstants.{LARGEST_NUMBER, LARGEST_CLIENT}
use Rattle.update_msgs.specs.declared.message.AbortCause.{AbortCause}
use Rattle.update_msgs.specs.declared.message.AbortCause.TheVariants.{Missing, Broken, Link}
use Rattle.update_msgs.specs.declared.message.ClientMsg.{ClientMsg}
use Rattle.update_msgs.specs.declared.message.ClientMsg.TheVariants as client
use Rattle.update_msgs.specs.declared.message.JsUpdate.{JsUpdate}
use Rattle.update_msgs.specs.declared.message.ServerMsg.{ServerMsg}
use Rattle.update_msgs.specs.declared.message.ServerMsg.TheVariants as server
use Rattle.update_msgs.specs.Names.{rise}

-- from the one number to the other
pub record IsBetween (low high n : ℕ) : Type 0 where
  pub least : low ≤ n
  pub most : n ≤ high

-- a message is written in one of two formats
abbrev pub IsFormat : ℕ → Type 0
IsFormat = IsBetween 1 2

-- the most bytes of a module's text in a message
abbrev pub most_text_bytes : ℕ
most_text_bytes = 4_294_967_294

-- the version of a counted edit
abbrev pub IsVersion : ℕ → Type 0
IsVersion = IsBetween 1 LARGEST_NUMBER

-- format 2 has the batch and the names that triggered it, rising by bytes
pub record IsBatch (batch : ℕ) (triggered : List (List ℕ)) : Type 0 where
  pub counted : IsBetween 1 LARGEST_NUMBER batch
  pub rising : rise triggered ≡ true

-- format 1 has neither
abbrev pub FitsBatch : ℕ → ℕ → List (List ℕ) → Type 0
FitsBatch format batch triggered = format ≡ 2 → IsBatch batch triggered

-- a place in a text, as a message tells it
pub record IsPlace (line column : ℕ) : Type 0 where
  pub row : line ≤ LARGEST_NUMBER
  pub place : column ≤ LARGEST_NUMBER

-- a number that is there is no larger than the largest
abbrev pub IsAtMost : Option ℕ → Type 0
IsAtMost None = ⊤
IsAtMost (Some v) = v ≤ LARGEST_NUMBER

-- a refusal, from 1 to 7: a name is there for 4 and 5 alone, two versions are there for 4 alone
pub record IsRefusal (code : ℕ) (path : Option (List ℕ)) (told kept : Option ℕ) : Type 0 where
  pub coded : IsBetween 1 7 code
  pub named : is_some path ≡ (code == 4 || code == 5)
  pub telling : is_some told ≡ (code == 4)
  pub keeping : is_some kept ≡ (code == 4)
  pub told_most : IsAtMost told
  pub kept_most : IsAtMost kept

-- a module's text, of at most 4,294,967,294 bytes
pub record IsServedText (version : ℕ) (text : List ℕ) : Type 0 where
  pub counted : IsVersion version
  pub few : length text ≤ most_text_bytes

-- a reload names the path on which nothing accepts the change
pub record IsReload (format : ℕ) (path : List (List ℕ)) (batch : ℕ)
    (triggered : List (List ℕ)) : Type 0 where
  pub some : 1 ≤ length path
  pub fits : FitsBatch format batch triggered

-- the versions of an update's callbacks, 0 for none
pub record IsUpdate (format : ℕ) (updates : List JsUpdate) (batch : ℕ)
    (triggered : List (List ℕ)) : Type 0 where
  pub timed : All (λ u. u.timestamp ≤ LARGEST_NUMBER) updates
  pub fits : FitsBatch format batch triggered

-- the message of a server can be written in this format
abbrev pub IsWritable : ℕ → ServerMsg → Type 0
IsWritable format (server.Connected client roots) = IsBetween 1 LARGEST_CLIENT client
IsWritable format (server.Update replaced updates batch triggered) = IsUpdate format updates batch triggered
IsWritable format (server.Prune paths) = ⊤
IsWritable format (server.FullReload cause path batch triggered) = IsReload format path batch triggered
IsWritable format (server.Error path line column kind) = IsPlace line column
IsWritable format (server.Broken path line column kind) = IsPlace line column
IsWritable format server.Idle = ⊤
IsWritable format server.Done = ⊤
IsWritable format (server.Text path version text) = IsServedText version text
IsWritable format (server.Missing path) = ⊤
IsWritable format (server.NotYet path) = ⊤
IsWritable format (server.Refused code path told kept) = IsRefusal code path told kept

-- a dependency and an export are there where the cause is a link, and else neither
abbrev pub FitsCause : {A B : Type 0} → AbortCause → Option A → Option B → Type 0
FitsCause Link (Some from) (Some name) = ⊤
FitsCause Link (Some from) None = ⊥
FitsCause Link None name = ⊥
FitsCause Missing None None = ⊤
FitsCause Missing None (Some name) = ⊥
FitsCause Missing (Some from) name = ⊥
FitsCause Broken None None = ⊤
FitsCause Broken None (Some name) = ⊥
FitsCause Broken (Some from) name = ⊥

-- the message of a client can be written; client messages have one form
abbrev pub IsSayable : ClientMsg → Type 0
IsSayable (client.Hello format roots) = IsFormat format
IsSayable client.Ask = ⊤
IsSayable (client.Fetch path) = ⊤
IsSayable (client.Applied table) = ⊤
IsSayable (client.Aborted cause path from name) = FitsCause cause from name
IsSayable (client.Invalidate path version message) = IsVersion version
IsSayable client.Bye = ⊤
