use Rattle.std.proofs.Common.{refl}
use Rattle.es_scan.proofs.Growth.{sound_export}
use Rattle.es_scan.proofs.outline.Outline.put_export.Goals as goal

pub returns-in-Ok-clause-sound : goal.returns-in-Ok-clause-sound
returns-in-Ok-clause-sound c =
    sound_export c.args._text.now c.args.self.now _ c.args.export c.requires.sound c.requires.export c.requires.behind (c.in-Ok.ensures).items refl refl refl c.requires.sound.places
