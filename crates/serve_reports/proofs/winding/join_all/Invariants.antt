use Rattle.std.proofs.Common.{◌≡◌, ◌++◌, [], List, true, vec_len}
use Rattle.std.specs.List.{All}
use Rattle.hmr_hub.specs.declared.pass.Pass.{Pass}
use Rattle.hmr_hub.specs.Passes.{IsPassOf, all_given, roots_of}
use Rattle.hmr_hub.specs.Moves.{KnowsOwn, Moved}
use Rattle.serve_reports.specs.Within.{IsWithin}
use Rattle.serve_reports.proofs.winding.join_all.Given as goal

-- those that were joined lie within the one pass
abbrev pub invariant-loop-other : goal.invariant-loop-other
invariant-loop-other l = record {
  of : IsPassOf l.hub l.pass;
  roots : roots_of l.pass ≡ roots_of l.fn.pass;
  given : all_given l.fn.pass ≡ true → all_given l.pass ≡ true;
  own : KnowsOwn l.fn.pass → Moved l.fn.pass l.pass [];
  left : All (λ p. IsPassOf l.hub p) l.passes.items;
  joined : (done : List Pass) × (l.fn.passes.items ≡ l.passes.items ++ done) × All (λ p. IsWithin p l.pass) done;
}

abbrev pub decreases-loop-other : goal.decreases-loop-other
decreases-loop-other l = vec_len l.passes
