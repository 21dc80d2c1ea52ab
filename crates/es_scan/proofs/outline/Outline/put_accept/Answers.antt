use Rattle.std.proofs.Common.{refl}
use Rattle.es_scan.proofs.Growth.{sound_accept}
use Rattle.es_scan.proofs.outline.Outline.put_accept.Goals as goal

pub returns-in-Ok-clause-sound : goal.returns-in-Ok-clause-sound
returns-in-Ok-clause-sound c =
    sound_accept c.args._text.now c.args.self.now _ c.args.accept c.requires.sound (record { call = c.requires.call; rows = c.requires.rows })
    (c.in-Ok.ensures).items refl refl refl c.requires.sound.places
