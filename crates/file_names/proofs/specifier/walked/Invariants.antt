use Rattle.std.proofs.Common.{◌≡◌, drop, length, map}
use Rattle.hmr_types.specs.ModName.{parts}
use Rattle.file_names.specs.Specifiers.{walk}
use Rattle.file_names.proofs.specifier.walked.Given as goal

-- what is left leads from here where the whole leads
abbrev pub invariant-loop-part : goal.invariant-loop-part
invariant-loop-part l = walk (map (λ s. s.now) l.segments.items) (drop (length l.yielded) (parts l.rest)) ≡ walk (map (λ s. s.now) l.fn.from.items) (parts l.rest)
