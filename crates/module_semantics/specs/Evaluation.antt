-- The value of an expression, or its fault.
use Rattle.std.specs.Prelude.{pos, if◌then◌else◌, List, [], ◌∷◌, Result, Ok}
use Rattle.module_tree.specs.Syntax as tree
use Rattle.module_tree.specs.Syntax.{ExprTree}
use Rattle.hmr_types.specs.declared.value.Value.{Value}
use Rattle.hmr_types.specs.declared.value.Value.TheVariants.{Undef}
use Rattle.hmr_types.specs.declared.value.EvalFault.{EvalFault}
use Rattle.hmr_types.specs.Results.{◌>>=◌}
use Rattle.module_semantics.specs.Values.{number, text, negated, truth, with_right}
use Rattle.module_semantics.specs.Scope.{Scope, read_name, read_bag, read_member}

-- by cases on the expression; the left operand goes first
abbrev pub value_of : Scope → ExprTree → Result Value EvalFault
value_of s (tree.num n) = number (pos n)
value_of s (tree.text t) = text t
value_of s tree.undefined = Ok Undef
value_of s (tree.name n) = read_name n s.vars
value_of s (tree.bag k) = Ok (read_bag k s.bag)
value_of s (tree.member param safe n) = read_member param safe n s.mods
value_of s (tree.neg a) = value_of s a >>= negated
value_of s (tree.binary op a b) = value_of s a >>= λ x. with_right op x (value_of s b)
value_of s (tree.choose c a b) = value_of s c >>= λ x. if truth x then value_of s a else value_of s b

-- the values of expressions in order, or the first fault
abbrev pub values_of : Scope → List ExprTree → Result (List Value) EvalFault
values_of s [] = Ok []
values_of s (e ∷ es) = value_of s e >>= λ v. values_of s es >>= λ vs. Ok (v ∷ vs)
