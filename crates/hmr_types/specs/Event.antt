-- What the name of an event is, and the module that stands for an event: `my:ping` and `/event/my/ping`.
use Rattle.std.specs.Prelude.{ℕ, List, ◌++◌, length, drop, Bool, ◌&&◌, ◌==◌, nat_eq, nat_le}
use Rattle.std.specs.Prelude.{codes, map, if◌then◌else◌, Option, Some, None}
use Rattle.std.specs.List.{list_all, slice_split, starts_with}
use Rattle.hmr_types.specs.ModName.{slash, is_segment}
use Rattle.hmr_types.specs.declared.limits.TheConstants.{EVENT_BYTES}

-- the colon
abbrev pub colon : ℕ
colon = 58

-- segments with this mark between each two, at most 64 bytes
abbrev pub are_joined : ℕ → List ℕ → Bool
are_joined mark text =
    nat_le (length text) EVENT_BYTES && list_all is_segment (slice_split (λ b. b == mark) text)

-- the text with one mark in place of another
abbrev pub with_mark : ℕ → ℕ → List ℕ → List ℕ
with_mark old new text = map (λ b. if b == old then new else b) text

-- what the name of an event is: segments with a colon between each two
abbrev pub is_event : List ℕ → Bool
is_event text = are_joined colon text

-- what the names of all modules that stand for events begin with
abbrev pub front : List ℕ
front = codes "/event/"

-- the module that stands for an event
abbrev pub event_module : List ℕ → List ℕ
event_module event = front ++ with_mark colon slash event

-- whether it is the module of an event
abbrev pub is_event_module : List ℕ → Bool
is_event_module name = starts_with nat_eq name front && are_joined slash (drop 7 name)

-- the event that a module stands for, unless it stands for none
abbrev pub event_of : List ℕ → Option (List ℕ)
event_of name = if is_event_module name then Some (with_mark slash colon (drop 7 name)) else None
