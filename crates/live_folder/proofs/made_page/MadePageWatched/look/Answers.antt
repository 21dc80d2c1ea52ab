use Rattle.std.proofs.Common.{◌∙◌}
use Rattle.live_folder.proofs.Added.{shows_same}
use Rattle.live_folder.proofs.made_page.MadePageWatched.look.Goals as goal

pub returns-in-Ok : goal.returns-in-Ok
returns-in-Ok g c =
    let kept = c.in_ok-look.ensures in
    let of_text = c.deref.ensures.value ∙ kept.text in
    record {
      shows = (
        c.in_ok-look.look,
        shows_same c.args.self.now.page _ c.args.self.now.text.items _ c.args.self.now.is_due _ c.in_ok-look.look _
            kept.page of_text kept.due c.in-Ok.ensures,
      );
    }
