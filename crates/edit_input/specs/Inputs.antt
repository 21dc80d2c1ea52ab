-- The edits of an input, or why it has none, and what is written then.
use Rattle.std.specs.Prelude.{◌≡◌, ◌≤◌, ◌<◌, ◌⊎◌, ℕ, ⊤, Bool, true, false, List, []}
use Rattle.std.specs.Prelude.{length, Option, Ok, Err, IfSome}
use Rattle.std.specs.Io.KnownBytes.{Appends, Keeps}
use Prim.{⊥}
use Rattle.hmr_base.specs.Causes.{Rose}
use Rattle.hmr_base.specs.Fronts.{WritesFront}
use Rattle.hmr_types.specs.declared.limits.TheConstants.{SCRIPT_BYTES}
use Rattle.play_script.specs.declared.fault.ScriptFault.{ScriptFault}
use Rattle.play_script.specs.Edits.{Edit, edits_of}
use Rattle.command_ends.specs.Ends.{limit_line}
use Rattle.command_ends.specs.declared.limit.Limit.TheVariants as limits
use Rattle.text_commands.specs.declared.stop.Stop.{Stop}
use Rattle.text_commands.specs.declared.stop.Stop.TheVariants.{NotACommand, TooLong, TextTooLong, Faulty}
use Rattle.text_commands.specs.declared.stop.Stop.TheVariants.{RecordTooLong, Unread, Unwritten}
use Rattle.text_commands.specs.declared.stop.Stop.TheVariants.{TranscriptFull, InstancesFull, NoMemory}
use Rattle.text_commands.specs.Outputs.{fault_line}

-- bytes within the limit that say these edits
pub record IsScript (bytes : List ℕ) (script : List Edit) : Type 0 where
  pub short : length bytes ≤ SCRIPT_BYTES
  pub is : edits_of bytes ≡ Ok script

-- the edits that the input has, where they are asked for
abbrev pub HasScript : Bool → Option (List ℕ) → List Edit → Type 0
HasScript false left script = script ≡ []
HasScript true left script = IfSome left (λ bytes. IsScript bytes script)

-- the line is written, or a front of it where the count of the output's faults rose
pub record WroteLine (old new : Option (List ℕ)) (before now : ℕ) (line : List ℕ) : Type 0 where
  pub front : WritesFront old new line
  pub whole : ¬ Rose before now → Appends old new line

-- the bytes are within the limit, and say no edits, by their first fault
pub record IsFaulty (bytes : List ℕ) (old new : Option (List ℕ)) (before now : ℕ) : Type 0 where
  pub short : length bytes ≤ SCRIPT_BYTES
  pub fault : ScriptFault
  pub is : edits_of bytes ≡ Err fault
  pub wrote : WroteLine old new before now (fault_line fault)

-- The input has no edits: it says none, it failed, it has too many bytes, or there was no memory. No server
-- was begun.
abbrev pub HasNoScript : Option (List ℕ) → Option (List ℕ) → Option (List ℕ) → ℕ → ℕ → ℕ → Type 0
HasNoScript left old new before now status =
    ((status ≡ 3) × IfSome left (λ bytes. IsFaulty bytes old new before now))
    ⊎ ((status ≡ 4) × Keeps old new)
    ⊎ ((status ≡ 8) × IfSome left (λ bytes. SCRIPT_BYTES < length bytes)
    × WroteLine old new before now (limit_line limits.Script))
    ⊎ ((status ≡ 9) × Keeps old new)

-- the line of the first fault of bytes within the limit that say no edits
pub record HasFaultLine (bytes line : List ℕ) : Type 0 where
  pub short : length bytes ≤ SCRIPT_BYTES
  pub fault : ScriptFault
  pub is : edits_of bytes ≡ Err fault
  pub line_is : line ≡ fault_line fault

-- why bytes gave no edits
abbrev pub IsEditStop : List ℕ → Stop → Type 0
IsEditStop bytes NotACommand = ⊥
IsEditStop bytes TooLong = ⊥
IsEditStop bytes TextTooLong = ⊥
IsEditStop bytes RecordTooLong = ⊥
IsEditStop bytes (Faulty line) = HasFaultLine bytes line.items
IsEditStop bytes Unread = ⊥
IsEditStop bytes Unwritten = ⊥
IsEditStop bytes TranscriptFull = ⊥
IsEditStop bytes InstancesFull = ⊥
IsEditStop bytes NoMemory = ⊤

-- why the input gave none
abbrev pub IsScriptStop : Option (List ℕ) → Stop → Type 0
IsScriptStop left NotACommand = ⊥
IsScriptStop left TooLong = IfSome left (λ bytes. SCRIPT_BYTES < length bytes)
IsScriptStop left TextTooLong = ⊥
IsScriptStop left RecordTooLong = ⊥
IsScriptStop left (Faulty line) = IfSome left (λ bytes. HasFaultLine bytes line.items)
IsScriptStop left Unread = ⊤
IsScriptStop left Unwritten = ⊥
IsScriptStop left TranscriptFull = ⊥
IsScriptStop left InstancesFull = ⊥
IsScriptStop left NoMemory = ⊤

-- the statuses where the input has no edits
abbrev pub IsNoScriptStatus : ℕ → Type 0
IsNoScriptStatus n = (n ≡ 3) ⊎ (n ≡ 4) ⊎ (n ≡ 8) ⊎ (n ≡ 9)
