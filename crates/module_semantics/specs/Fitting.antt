-- Which modules have a canonical text that reads back: its tokens can be written, the rules on names hold,
-- and it isn't too deep.
use Rattle.std.specs.Prelude.{[], ◌∷◌, ◌&&◌}
use Rattle.std.specs.Prelude.{ℕ, List, Bool, true, false, not, nat_le, Option, Some, None, map}
use Rattle.std.specs.List.{list_all}
use Rattle.std.specs.Str.{is_utf8}
use Rattle.module_tree.specs.Syntax.{StmtTree, log, assign, bag_set, throw, invalidate, branch, HandlerTree}
use Rattle.module_tree.specs.Syntax.{OnceTree, code, host, ItemTree, import}
use Rattle.module_tree.specs.Syntax.{declare, act, own, deps, dispose}
use Rattle.module_tree.specs.Syntax.{prune, decline, ModuleTree}
use Rattle.module_tree.specs.declared.tree.ImportName.{ImportName}
use Rattle.hmr_types.specs.declared.limits.TheConstants.{DEPTH, LARGEST_NUMBER}
use Rattle.module_semantics.specs.Bytes.{is_name_start, is_name_byte}
use Rattle.module_semantics.specs.Pieces.{all}
use Rattle.module_semantics.specs.Reading.{flat}
use Rattle.module_semantics.specs.Token as token
use Rattle.module_semantics.specs.Token.{Token}
use Rattle.module_semantics.specs.NameRules.{outside, in_once, in_accept, has_name}
use Rattle.module_semantics.specs.CanonTokens.{fits_name, fits_expr, fits_stmt, fits_stmts}
use Rattle.module_semantics.specs.CanonItems.{canon_tokens, module_deep}

-- a letter, `_` or `$`, and then such bytes and digits
abbrev pub is_name : List ℕ → Bool
is_name [] = false
is_name (b ∷ cs) = is_name_start b && all is_name_byte cs

-- a text can have this token: names look like names, numbers are in range, and texts are UTF-8
abbrev pub writable : Token → Bool
writable (token.name n) = is_name n
writable (token.number n) = nat_le n LARGEST_NUMBER
writable (token.text s) = is_utf8 s
writable (token.punct p) = true

-- the names are all different, and none of those before
abbrev pub distinct : List (List ℕ) → List (List ℕ) → Bool
distinct before [] = true
distinct before (n ∷ ns) = not (has_name n before) && distinct (n ∷ before) ns

abbrev pub none_of : {A : Type 0} → List A → Bool
none_of [] = true
none_of (x ∷ xs) = false

abbrev pub one_of : {A : Type 0} → List A → Bool
one_of [] = false
one_of (x ∷ xs) = none_of xs

abbrev pub at_most_one : {A : Type 0} → List A → Bool
at_most_one [] = true
at_most_one (x ∷ xs) = none_of xs

-- an accept callback: its parameters are names that may be declared, all different, and its statements may
-- stand there; lets are the names that `let` declares in the module
abbrev pub fits_handler : List (List ℕ) → HandlerTree → Bool
fits_handler lets h = list_all fits_name h.params && distinct [] h.params
    && fits_stmts lets (in_accept h.params) h.params h.body

-- one of the module itself, or of one dependency
abbrev pub fits_one_handler : List (List ℕ) → HandlerTree → Bool
fits_one_handler lets h = at_most_one h.params && fits_handler lets h

-- a `dispose` or `prune` callback, whose parameter is forgotten
abbrev pub fits_once_handler : List (List ℕ) → HandlerTree → Bool
fits_once_handler lets h = none_of h.params && fits_stmts lets (in_once []) [] h.body

-- what `accept` of the module itself takes
abbrev pub fits_own : List (List ℕ) → OnceTree → Bool
fits_own lets (code h) = fits_one_handler lets h
fits_own lets (host l) = true

-- what `dispose` and `prune` take
abbrev pub fits_once : List (List ℕ) → OnceTree → Bool
fits_once lets (code h) = fits_once_handler lets h
fits_once lets (host l) = true

abbrev pub fits_accept : List (List ℕ) → Option OnceTree → Bool
fits_accept lets None = true
fits_accept lets (Some o) = fits_own lets o

-- the callback after a list of specifiers, or after one
abbrev pub fits_deps : List (List ℕ) → Bool → Option HandlerTree → Bool
fits_deps lets list None = true
fits_deps lets true (Some h) = fits_handler lets h
fits_deps lets false (Some h) = fits_one_handler lets h

-- no branch and no invalidation stands at the top
abbrev pub at_top : StmtTree → Bool
at_top (log es) = true
at_top (assign n e) = true
at_top (bag_set k e) = true
at_top (throw e) = true
at_top (invalidate e) = false
at_top (branch c a b) = false

abbrev pub fits_import : ImportName → Bool
fits_import i = fits_name i.local

-- without the list form there is one specifier
abbrev pub fits_specs : Bool → List (List ℕ) → Bool
fits_specs true ss = true
fits_specs false ss = one_of ss

abbrev pub fits_item : List (List ℕ) → ItemTree → Bool
fits_item lets (import s names) = list_all fits_import names
fits_item lets (declare exported mutable n e) = fits_name n && fits_expr outside [] e
fits_item lets (act s) = at_top s && fits_stmt lets outside [] s
fits_item lets (own o) = fits_accept lets o
fits_item lets (deps list ss h) = fits_specs list ss && fits_deps lets list h
fits_item lets (dispose o) = fits_once lets o
fits_item lets (prune o) = fits_once lets o
fits_item lets decline = true

-- the locals of imports and the declared names
abbrev pub bound_names : ItemTree → List (List ℕ)
bound_names (import s names) = map (λ i. i.local) names
bound_names (declare exported mutable n e) = n ∷ []
bound_names (act s) = []
bound_names (own o) = []
bound_names (deps list ss h) = []
bound_names (dispose o) = []
bound_names (prune o) = []
bound_names decline = []

-- the word of a declaration was `let`
abbrev pub let_of : Bool → List ℕ → List (List ℕ)
let_of true n = n ∷ []
let_of false n = []

-- the names that an item declares by `let`
abbrev pub let_names : ItemTree → List (List ℕ)
let_names (import s names) = []
let_names (declare exported mutable n e) = let_of mutable n
let_names (act s) = []
let_names (own o) = []
let_names (deps list ss h) = []
let_names (dispose o) = []
let_names (prune o) = []
let_names decline = []

-- the names that `let` declares in a module
abbrev pub module_lets : ModuleTree → List (List ℕ)
module_lets m = flat (map let_names m)

-- each item may stand in the module, no name is bound twice, the nesting has at most the depth, and each
-- token of the canonical text can be written
unfoldable pub fits : ModuleTree → Bool
fits m = list_all (fits_item (module_lets m)) m && distinct [] (flat (map bound_names m))
    && nat_le (module_deep m) DEPTH && list_all writable (canon_tokens m)
