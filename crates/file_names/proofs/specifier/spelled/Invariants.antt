use Rattle.std.proofs.Common.{◌≡◌, ◌++◌, drop, map}
use Rattle.hmr_types.specs.Specifier.{spelled}
use Rattle.file_names.proofs.specifier.spelled.Given as goal

-- what is written, and the text of what is left, is the whole
abbrev pub invariant-loop-segment : goal.invariant-loop-segment
invariant-loop-segment l = l.text.items ++ spelled (map (λ s. s.now) (drop l.segment-index l.segments)) ≡ spelled (map (λ s. s.now) l.segments)
