use Rattle.std.proofs.Common.{◌≡◌, ◌+◌, ◌-◌, ◌∙◌, ap, arith, sym, subst, true, false, Some, ◌∷◌}
use Rattle.std.proofs.Math.ListN.{set}
use Rattle.core_model.specs.Core.{core_after}
use Rattle.hmr_hub.specs.Pages.{ArePages}
use Rattle.hmr_hub.specs.Passages.{IsPassage, is_to}
use Rattle.hmr_hub.proofs.Paging.{come, goes, stay}
use Rattle.hmr_hub.proofs.pages.note_passage.Goals as goal

pub returns-then-has_come : goal.returns-then-has_come
returns-then-has_come c = λ roots past event a p told.
    let comes = subst (λ passage. IsPassage (core_after roots past) event passage) c.in-Comes.is p in
    let taken = ap is_to told ∙ (sym c.has_come.ensures ∙ c.if-has_come.true) in
    subst (λ pages. ArePages roots (event ∷ past) pages) (sym c.push_reserved.ensures.items) (come roots past c.args.pages.now.items a event comes true taken)

pub returns-in-Goes : goal.returns-in-Goes
returns-in-Goes c = λ roots past event a p told.
    let went = subst (λ passage. IsPassage (core_after roots past) event passage) c.in-Goes.is p in
    let range = c.requires.given c.in-Goes.client c.in-Goes.page c.in-Goes.is in
    let at : c.in-Goes.client - 1 + 1 ≡ c.in-Goes.client = omega (arith, range.0) in
    subst (λ e. ArePages roots (e ∷ past) (set c.args.pages.now.items (c.in-Goes.client - 1) (Some c.in-Goes.page))) (sym went.0)
    (goes roots past c.in-Goes.client (c.in-Goes.client - 1) c.in-Goes.page c.args.pages.now.items a went.1 at)

pub returns-in-Stays : goal.returns-in-Stays
returns-in-Stays c = λ roots past event a p told.
    stay roots past c.args.pages.now.items a event (subst (λ passage. IsPassage (core_after roots past) event passage) c.in-Stays.is p)

pub returns-else-has_come : goal.returns-else-has_come
returns-else-has_come c = λ roots past event a p told.
    let comes = subst (λ passage. IsPassage (core_after roots past) event passage) c.in-Comes.is p in
    let taken = ap is_to told ∙ (sym c.has_come.ensures ∙ c.if-has_come.false) in
    come roots past c.args.pages.now.items a event comes false taken
