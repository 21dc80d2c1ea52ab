use Rattle.std.proofs.Common.{sym, ap, ◌∙◌, ◌++◌, ◌∷◌, arith}
use Rattle.std.specs.Option.{option_copied}
use Rattle.std.proofs.lemmas.Str.Pattern.{strip_prefix_char}
use Rattle.hmr_types.specs.ModName.{slash}
use Rattle.folders.proofs.Paths.{rest-none, rest-stripped}
use Rattle.folders.proofs.mem_tree.rest_after.Goals as goal

pub returns-in_err-below : goal.returns-in_err-below
returns-in_err-below c = ap option_copied c.from_residual.ensures
    ∙ sym (rest-none c.args.folder.now c.args.path.now (λ rest e. c.in_err-below.ensures.cases (slash ∷ rest) e))

pub returns : goal.returns
returns c =
    let h = c.in_ok-below.ensures.cases in
    rest-stripped c.args.folder.now c.args.path.now c.in_ok-below.below.now c.strip_prefix-2.result
    (h.1.1 ∙ ap (λ l. c.args.folder.now ++ l) (sym h.2))
    (strip_prefix_char 47 c.in_ok-below.below.now c.strip_prefix-2.result c.strip_prefix-2.ensures.cases (omega arith))
