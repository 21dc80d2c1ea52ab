use Rattle.std.proofs.Common.{refl}
use Rattle.html_scan.proofs.Growth.{page_put}
use Rattle.html_scan.proofs.outline.PageOutline.put.Goals as goal

pub returns-clause-sound : goal.returns-clause-sound
returns-clause-sound c =
    page_put c.args._text.now c.args.self.now _ c.args.item c.requires.sound c.requires.item c.requires.behind refl (c.in_ok-push.ensures).items
