use Rattle.std.proofs.Common.{◌≡◌, ◌==◌, ◌++◌, drop, length, string_bytes}
use Rattle.std.specs.List.{slice_split}
use Rattle.hmr_types.specs.Event.{colon, event_module}
use Rattle.hmr_types.specs.Specifier.{spelled}
use Rattle.hmr_types.proofs.event.event_module.Given as goal

-- what is written, and a slash before each part that is left, is the whole
abbrev pub invariant-loop-part : goal.invariant-loop-part
invariant-loop-part l = string_bytes l.name ++ spelled (drop (length l.yielded) (slice_split (λ b. b == colon) l.event)) ≡ event_module l.event
