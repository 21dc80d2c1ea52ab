-- A name alone.
use Rattle.std.specs.Prelude.{Option, Some, None}
use Rattle.module_semantics.specs.Kinds.{NameAt}
use Rattle.module_semantics.specs.Raw as raw
use Rattle.module_semantics.specs.Raw.{RawExpr}

-- the name that an expression is, unless it is another expression
abbrev pub alone : RawExpr → Option NameAt
alone (raw.name n) = Some n
alone (raw.num n) = None
alone (raw.text s) = None
alone raw.undefined = None
alone (raw.bag k) = None
alone (raw.member n safe k) = None
alone (raw.neg a) = None
alone (raw.binary op a b) = None
alone (raw.choose c a b) = None
