use Rattle.css_scan.proofs.Growth.{style_put}
use Rattle.css_scan.proofs.outline.StyleOutline.put.Goals as goal

pub returns-clause-sound : goal.returns-clause-sound
returns-clause-sound c =
    style_put c.args._text.now c.args.self.now _ c.args.import c.requires.sound c.requires.import c.requires.behind (c.in_ok-push.ensures).items
