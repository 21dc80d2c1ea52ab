use Rattle.std.proofs.Common.{refl}
use Rattle.es_scan.proofs.Growth.{sound_import}
use Rattle.es_scan.proofs.outline.Outline.put_import.Goals as goal

pub returns-in-Ok-clause-sound : goal.returns-in-Ok-clause-sound
returns-in-Ok-clause-sound c =
    sound_import c.args._text.now c.args.self.now _ c.args.binding c.requires.sound c.requires.binding c.requires.behind (c.in-Ok.ensures).items refl refl refl c.requires.sound.places
