use Rattle.std.proofs.Common.{◌≡◌, ◌++◌, ◌∙◌, sym, subst}
use Rattle.std.specs.Prelude.{IfOk}
use Rattle.hmr_hub.specs.Reports.{client_lines}
use Rattle.hmr_hub.proofs.Paging.{last_is_page}
use Rattle.hmr_hub.proofs.reporting.add_last_page.Goals as goal

pub returns-in-Some-2 : goal.returns-in-Some-2
returns-in-Some-2 c = λ past stands is_page.
    let last = last_is_page c.args.core.now.roots past c.args.client c.in-Some-2.page (sym (c.in_ok-page-in-None.ensures.stands past stands) ∙ c.in-Some-2.is) in
    subst (λ page. IfOk c.add_client-in-Some-2.result (λ _. c.add_client-in-Some-2.new.lines.items ≡ c.args.lines.now.items ++ client_lines c.args.client page)) (sym last) c.add_client-in-Some-2.ensures
