-- The tokens of the canonical text of callbacks, items and whole modules, and how deep they are.
use Rattle.std.specs.Prelude.{ℕ, max, List, [], ◌∷◌, ◌++◌, Bool, true, false, if◌then◌else◌, Option, Some}
use Rattle.std.specs.Prelude.{None, codes}
use Rattle.std.specs.Str.{bytes_eq}
use Rattle.module_tree.specs.Syntax.{HandlerTree, OnceTree, code, host, ItemTree, import, declare, act, own}
use Rattle.module_tree.specs.Syntax.{deps, dispose, prune, decline, ModuleTree}
use Rattle.module_tree.specs.declared.tree.ImportName.{ImportName}
use Rattle.module_semantics.specs.Token as token
use Rattle.module_semantics.specs.Token.{Token}
use Rattle.module_semantics.specs.Canon.{heard, deps_word}
use Rattle.module_semantics.specs.CanonTokens.{hot_tokens, expr_tokens, stmt_tokens, stmts_tokens, expr_deep}
use Rattle.module_semantics.specs.CanonTokens.{stmt_deep, stmts_deep}

-- parts with a comma before each
abbrev pub after_commas : {A : Type 0} → (A → List Token) → List A → List Token
after_commas f [] = []
after_commas f (x ∷ xs) = token.punct 6 ∷ (f x ++ after_commas f xs)

-- parts with a comma between each two
abbrev pub between_commas : {A : Type 0} → (A → List Token) → List A → List Token
between_commas f [] = []
between_commas f (x ∷ xs) = f x ++ after_commas f xs

abbrev pub name_tokens : List ℕ → List Token
name_tokens n = token.name n ∷ []

abbrev pub text_tokens : List ℕ → List Token
text_tokens s = token.text s ∷ []

-- a callback, after the tokens of its parameters
abbrev pub callback_tokens : List Token → HandlerTree → List Token
callback_tokens params h =
    params ++ (token.punct 15 ∷ (token.punct 0 ∷ (stmts_tokens h.params h.body ++ (token.punct 1 ∷ []))))

-- a callback, with its parameters in parentheses
abbrev pub handler_tokens : HandlerTree → List Token
handler_tokens h =
    callback_tokens (token.punct 2 ∷ (between_commas name_tokens h.params ++ (token.punct 3 ∷ []))) h

-- in the list form parameters stand in brackets, unless there are none
abbrev pub list_params_tokens : List (List ℕ) → List Token
list_params_tokens [] = token.punct 2 ∷ (token.punct 3 ∷ [])
list_params_tokens (p ∷ ps) =
    token.punct 2
    ∷ (token.punct 4 ∷ (between_commas name_tokens (p ∷ ps) ++ (token.punct 5 ∷ (token.punct 3 ∷ []))))

-- a callback of the list form
abbrev pub list_handler_tokens : HandlerTree → List Token
list_handler_tokens h = callback_tokens (list_params_tokens h.params) h

-- a callback or a host closure
abbrev pub once_tokens : OnceTree → List Token
once_tokens (code h) = handler_tokens h
once_tokens (host l) = token.name (codes "host") ∷ (token.punct 2 ∷ (token.text l ∷ (token.punct 3 ∷ [])))

-- one name of an import
abbrev pub import_name_tokens : ImportName → List Token
import_name_tokens i =
    if bytes_eq i.exported i.local then token.name i.local ∷ []
    else token.name i.exported ∷ (token.name (codes "as") ∷ (token.name i.local ∷ []))

-- an import, with or without names
abbrev pub import_tokens : List ℕ → List ImportName → List Token
import_tokens s [] = token.name (codes "import") ∷ (token.text s ∷ (token.punct 7 ∷ []))
import_tokens s (i ∷ is) =
    token.name (codes "import") ∷ (token.punct 0 ∷ (between_commas import_name_tokens (i ∷ is)
    ++ (token.punct 1 ∷ (token.name (codes "from") ∷ (token.text s ∷ (token.punct 7 ∷ []))))))

-- the word before an exported declaration
abbrev pub export_tokens : Bool → List Token
export_tokens true = token.name (codes "export") ∷ []
export_tokens false = []

-- the word of a declaration
abbrev pub declare_token : Bool → Token
declare_token true = token.name (codes "let")
declare_token false = token.name (codes "const")

-- a call of `import.meta.hot`
abbrev pub call_tokens : List ℕ → List Token → List Token
call_tokens word args =
    token.name (codes "import")
    ∷ hot_tokens (token.name word ∷ (token.punct 2 ∷ (args ++ (token.punct 3 ∷ (token.punct 7 ∷ [])))))

-- what `accept` of the module itself takes
abbrev pub own_tokens : Option OnceTree → List Token
own_tokens None = []
own_tokens (Some o) = once_tokens o

-- one specifier, or a list of them
abbrev pub specs_tokens : Bool → List (List ℕ) → List Token
specs_tokens true ss = token.punct 4 ∷ (between_commas text_tokens ss ++ (token.punct 5 ∷ []))
specs_tokens false ss = between_commas text_tokens ss

-- the callback after the specifiers
abbrev pub deps_handler_tokens : Bool → Option HandlerTree → List Token
deps_handler_tokens list None = []
deps_handler_tokens true (Some h) = token.punct 6 ∷ list_handler_tokens h
deps_handler_tokens false (Some h) = token.punct 6 ∷ handler_tokens h

-- what stands before the callback: the event, or the specifiers
abbrev pub heard_tokens : Option (List ℕ) → Bool → List (List ℕ) → List Token
heard_tokens None list ss = specs_tokens list ss
heard_tokens (Some event) list ss = token.text event ∷ []

-- a call for dependencies, by the event that it listens to, if any
abbrev pub deps_tokens : Option (List ℕ) → Bool → List (List ℕ) → Option HandlerTree → List Token
deps_tokens event list ss h =
    call_tokens (deps_word event) (heard_tokens event list ss ++ deps_handler_tokens list h)

-- an item
abbrev pub item_tokens : ItemTree → List Token
item_tokens (import s names) = import_tokens s names
item_tokens (declare exported mutable n e) = export_tokens exported
    ++ (declare_token mutable
    ∷ (token.name n ∷ (token.punct 9 ∷ (expr_tokens [] e ++ (token.punct 7 ∷ [])))))
item_tokens (act s) = stmt_tokens [] s
item_tokens (own o) = call_tokens (codes "accept") (own_tokens o)
item_tokens (deps list ss h) = deps_tokens (heard list ss h) list ss h
item_tokens (dispose o) = call_tokens (codes "dispose") (once_tokens o)
item_tokens (prune o) = call_tokens (codes "prune") (once_tokens o)
item_tokens decline = call_tokens (codes "decline") []

-- the tokens of the canonical text of a module
abbrev pub canon_tokens : ModuleTree → List Token
canon_tokens [] = []
canon_tokens (i ∷ is) = item_tokens i ++ canon_tokens is

-- the nesting of a callback is that of its statements
abbrev pub handler_deep : HandlerTree → ℕ
handler_deep h = stmts_deep h.body

abbrev pub once_deep : OnceTree → ℕ
once_deep (code h) = handler_deep h
once_deep (host l) = 0

abbrev pub own_deep : Option OnceTree → ℕ
own_deep None = 0
own_deep (Some o) = once_deep o

abbrev pub deps_deep : Option HandlerTree → ℕ
deps_deep None = 0
deps_deep (Some h) = handler_deep h

abbrev pub item_deep : ItemTree → ℕ
item_deep (import s names) = 0
item_deep (declare exported mutable n e) = expr_deep e
item_deep (act s) = stmt_deep s
item_deep (own o) = own_deep o
item_deep (deps list ss h) = deps_deep h
item_deep (dispose o) = once_deep o
item_deep (prune o) = once_deep o
item_deep decline = 0

-- how deep the canonical text of a module is
abbrev pub module_deep : ModuleTree → ℕ
module_deep [] = 0
module_deep (i ∷ is) = max (item_deep i) (module_deep is)
