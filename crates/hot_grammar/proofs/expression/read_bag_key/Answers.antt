use Rattle.std.proofs.Common.{◌∙◌, sym, subst}
use Rattle.module_semantics.specs.Kinds.{IMPORT, DATA, DOT}
use Rattle.module_semantics.specs.Readers.{mark, ◌▷◌}
use Rattle.module_semantics.specs.Reading.{hot, key}
use Rattle.hot_grammar.specs.Reads.{Gives}
use Rattle.hot_grammar.proofs.Chains.{goes, hot_goes}
use Rattle.hot_grammar.proofs.expression.read_bag_key.Goals as goal

pub returns : goal.returns
returns c =
    let is = goes (mark IMPORT) (hot (mark DATA ▷ mark DOT ▷ key)) c.args.tokens.now c.mark.new.self c.in_ok-mark.ensures
    ∙ hot_goes (mark DATA ▷ mark DOT ▷ key) c.mark.new.self c.pass_hot.new.tokens c.in_ok-pass_hot.ensures
    ∙ goes (mark DATA) (mark DOT ▷ key) c.pass_hot.new.tokens c.mark-2.new.self c.in_ok-mark-2.ensures
    ∙ goes (mark DOT) key c.mark-2.new.self c.mark-3.new.self c.in_ok-mark-3.ensures in
    subst (Gives (λ k. (k, _)) c.name.result) (sym is) c.name.ensures
