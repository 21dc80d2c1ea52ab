-- The tokens that values tell.
use Rattle.std.specs.Prelude.{◌-◌}
use Rattle.module_semantics.specs.Token as plain
use Rattle.token_kinds.specs.declared.token_value.TokenValue.{TokenValue}
use Rattle.token_kinds.specs.declared.token_value.TokenValue.TheVariants as values
use Rattle.token_kinds.specs.Kinds.{code_of}

-- the token that a value tells; the numbers of kinds of punctuation begin at 50
abbrev pub token_told : TokenValue → plain.Token
token_told (values.Name name) = plain.name name.now
token_told (values.Number n) = plain.number n
token_told (values.Text text) = plain.text text
token_told (values.Punct kind) = plain.punct (code_of kind - 50)
