use Rattle.std.proofs.Common.{◌≡◌, drop, length, map}
use Rattle.std.specs.Prelude.{IsTrue}
use Rattle.std.specs.List.{list_all}
use Rattle.hmr_types.specs.ModName.{is_segment, parts}
use Rattle.hmr_types.specs.Specifier.{walk}
use Rattle.hmr_types.proofs.specifier.walked.Given as goal

-- what is left leads from here where the whole leads, over segments alone
abbrev pub invariant-loop-part : goal.invariant-loop-part
invariant-loop-part l = record {
  leads : walk (map (λ s. s.now) l.segments.items) (drop (length l.yielded) (parts l.rest)) ≡ walk (map (λ s. s.now) l.fn.from.items) (parts l.rest);
  segments : IsTrue (list_all is_segment (map (λ s. s.now) l.segments.items));
}
