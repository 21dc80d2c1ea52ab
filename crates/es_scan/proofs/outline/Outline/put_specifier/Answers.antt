use Rattle.std.proofs.Common.{refl}
use Rattle.es_scan.proofs.Growth.{sound_specifier}
use Rattle.es_scan.proofs.outline.Outline.put_specifier.Goals as goal

pub returns-in-Ok-clause-sound : goal.returns-in-Ok-clause-sound
returns-in-Ok-clause-sound c =
    sound_specifier c.args._text.now c.args.self.now _ c.args.specifier c.requires.sound c.requires.literal c.requires.names c.requires.behind (c.in-Ok.ensures).items refl refl refl c.requires.sound.places
