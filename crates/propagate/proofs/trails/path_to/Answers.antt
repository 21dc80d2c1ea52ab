use Rattle.std.proofs.Common.{◌<◌, ◌++◌, ◌∷◌, [], length, get_or, reverse, sym, ap, ◌∙◌}
use Rattle.std.specs.Prelude.{None, IfSome}
use Rattle.std.proofs.Math.Path.{subst}
use Rattle.std.proofs.lemmas.List.{get_or_default}
use Rattle.propagate.proofs.Trailing.{path_before, earlier_within, one_back}
use Rattle.propagate.proofs.trails.path_to.Goals as goal

pub loop-place-preserved : goal.loop-place-preserved
loop-place-preserved c =
    let names = c.args.names.now in
    let from = c.args.from.now in
    let i = c.in-Some.i in
    let path = c.loop-place.path.items in
    let h : i < length names = subst (λ o. IfSome o (λ k. k < length names)) c.in-Some.is c.loop-place.invariant.0 in (
      earlier_within names from i c.requires.traced h,
      λ paths t. one_back names from paths i (get_or paths c.args.at []) path t h (c.loop-place.invariant.1 paths t ∙ ap (λ o. path_before paths o ++ reverse path) c.in-Some.is)
          ∙ ap (λ l. path_before paths (get_or from i None) ++ reverse l) (sym (c.in_ok-push.ensures.items ∙ ap (λ n. path ++ n ∷ []) (c.in_ok-copy_name.ensures ∙ c.index-names-i.is ∙ get_or_default names i c.index-names-i.result [] h))),
    )
