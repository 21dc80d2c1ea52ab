-- What a step answers, against the lines of the definitions. Want of memory may come in place of any answer.
use Rattle.std.specs.Prelude.{◌≡◌, ⊤, List, Option, Some, None, Result, Ok, Err}
use Prim.{⊥}
use Rattle.std.specs.Global.{Vec}
use Rattle.output_lines.specs.declared.out_line.OutLine.{OutLine}
use Rattle.world_parts.specs.declared.stop.WorldStop.{WorldStop}
use Rattle.world_parts.specs.declared.stop.WorldStop.TheVariants.{InstancesFull, NoMemory}

-- the lines of the step; none where a client would have made too many instances
abbrev pub AreLines : Option (List OutLine) → Result (Vec OutLine) WorldStop → Type 0
AreLines lines (Ok shown) = lines ≡ Some shown.items
AreLines lines (Err InstancesFull) = lines ≡ None
AreLines lines (Err NoMemory) = ⊤

-- the lines of an event that was fired; none where it isn't heard. It makes no instance
abbrev pub AreHeard : Option (List OutLine) → Result (Option (Vec OutLine)) WorldStop → Type 0
AreHeard lines (Ok (Some shown)) = lines ≡ Some shown.items
AreHeard lines (Ok None) = lines ≡ None
AreHeard lines (Err InstancesFull) = ⊥
AreHeard lines (Err NoMemory) = ⊤
