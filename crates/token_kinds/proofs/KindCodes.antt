-- The numbers of kinds tell them apart.
use Rattle.std.proofs.Common.{◌≡◌, ℕ, List, [], ◌∷◌, Bool, true, false, ◌==◌, if◌then◌else◌, refl, sym, ap, ◌∙◌}
use Rattle.std.proofs.lemmas.Bool.{eq-eqb, ne_eqb}
use denote.Enum.Bare.{sameb, same_true, same_false}
use Rattle.token_kinds.specs.contracts.kind.Kind.{the_type}
use Rattle.token_kinds.specs.declared.kind.Kind.{Kind}
use Rattle.token_kinds.specs.declared.kind.Kind.TheVariants as kinds
use Rattle.token_kinds.specs.Kinds.{code_of}

abbrev found : ℕ → List Kind → Kind
found code [] = kinds.Other
found code (k ∷ ks) = if code == code_of k then k else found code ks

abbrev all : List Kind
all = kinds.Other ∷ kinds.Import ∷ kinds.Export ∷ kinds.Const ∷ kinds.Let ∷ kinds.If ∷ kinds.Else ∷ kinds.Throw ∷ kinds.Undefined ∷ kinds.Null ∷ kinds.True ∷ kinds.False ∷ kinds.Console ∷ kinds.Log ∷ kinds.Host ∷ kinds.New ∷ kinds.Error ∷ kinds.From ∷ kinds.As ∷ kinds.Meta ∷ kinds.Hot ∷ kinds.Data ∷ kinds.Accept ∷ kinds.Dispose ∷ kinds.Prune ∷ kinds.Decline ∷ kinds.Invalidate ∷ kinds.On ∷ kinds.Number ∷ kinds.Text ∷ kinds.OpenBrace ∷ kinds.CloseBrace ∷ kinds.Open ∷ kinds.Close ∷ kinds.OpenBracket ∷ kinds.CloseBracket ∷ kinds.Comma ∷ kinds.Semicolon ∷ kinds.Dot ∷ kinds.Equals ∷ kinds.Plus ∷ kinds.Minus ∷ kinds.Times ∷ kinds.Question ∷ kinds.Colon ∷ kinds.Arrow ∷ kinds.SafeDot ∷ kinds.Nullish ∷ []

is_found : (k : Kind) → found (code_of k) all ≡ k
is_found kinds.Other = refl
is_found kinds.Import = refl
is_found kinds.Export = refl
is_found kinds.Const = refl
is_found kinds.Let = refl
is_found kinds.If = refl
is_found kinds.Else = refl
is_found kinds.Throw = refl
is_found kinds.Undefined = refl
is_found kinds.Null = refl
is_found kinds.True = refl
is_found kinds.False = refl
is_found kinds.Console = refl
is_found kinds.Log = refl
is_found kinds.Host = refl
is_found kinds.New = refl
is_found kinds.Error = refl
is_found kinds.From = refl
is_found kinds.As = refl
is_found kinds.Meta = refl
is_found kinds.Hot = refl
is_found kinds.Data = refl
is_found kinds.Accept = refl
is_found kinds.Dispose = refl
is_found kinds.Prune = refl
is_found kinds.Decline = refl
is_found kinds.Invalidate = refl
is_found kinds.On = refl
is_found kinds.Number = refl
is_found kinds.Text = refl
is_found kinds.OpenBrace = refl
is_found kinds.CloseBrace = refl
is_found kinds.Open = refl
is_found kinds.Close = refl
is_found kinds.OpenBracket = refl
is_found kinds.CloseBracket = refl
is_found kinds.Comma = refl
is_found kinds.Semicolon = refl
is_found kinds.Dot = refl
is_found kinds.Equals = refl
is_found kinds.Plus = refl
is_found kinds.Minus = refl
is_found kinds.Times = refl
is_found kinds.Question = refl
is_found kinds.Colon = refl
is_found kinds.Arrow = refl
is_found kinds.SafeDot = refl
is_found kinds.Nullish = refl

one_code : (a b : Kind) → code_of a ≡ code_of b → a ≡ b
one_code a b e = sym (is_found a) ∙ ap (λ c. found c all) e ∙ is_found b

-- a comparison of kinds is one of their numbers
pub same_codes : (a b : Kind) (r : Bool) → r ≡ sameb the_type a b → r ≡ (code_of a == code_of b)
same_codes a b true h = sym (eq-eqb (code_of a) (code_of b) (ap code_of (same_true the_type tt a b (sym h))))
same_codes a b false h = sym (ne_eqb (code_of a) (code_of b) (λ e. same_false the_type a b (sym h) (one_code a b e)))
