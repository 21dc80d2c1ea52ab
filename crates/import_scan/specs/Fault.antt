-- What the refusals of an analysis say.
use Rattle.std.specs.Prelude.{◌≡◌, ⊤, Result, Ok, Err}
use Rattle.hmr_types.specs.declared.specifier.SpecFault.TheVariants as specs
use Rattle.module_semantics.specs.declared.scanning.ScanFault.{ScanFault}
use Rattle.module_semantics.specs.declared.scanning.ScanFault.TheVariants as scan

-- A refusal is the definition's, or out of memory, which is never the refusal of a specifier.
abbrev pub Refuses : {A : Type 0} → ScanFault → Result A ScanFault → Type 0
Refuses scan.NoMemory meant = ⊤
Refuses scan.TooManyImports meant = meant ≡ Err scan.TooManyImports
Refuses (scan.Spec specs.NoMemory) meant = ⊥
Refuses (scan.Spec fault) meant = meant ≡ Err (scan.Spec fault)

-- the answer is the definition's, or out of memory
abbrev pub Gives : {A : Type 0} → Result A ScanFault → Result A ScanFault → Type 0
Gives (Ok x) meant = meant ≡ Ok x
Gives (Err fault) meant = Refuses fault meant
