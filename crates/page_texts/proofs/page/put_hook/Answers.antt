use Rattle.std.proofs.Common.{◌≡◌, ◌∷◌, ◌++◌, [], OnOk, subst}
use Rattle.page_texts.specs.Pages.{put_in}
use Rattle.page_texts.proofs.page.put_hook.Goals as goal

pub returns : goal.returns
returns c =
    subst (λ by. OnOk c.put.result (c.put.new.splices.items ≡ c.args.splices.now.items ++ put_in c.args.at by ∷ [])) c.in_ok-hook.ensures.items c.put.ensures
