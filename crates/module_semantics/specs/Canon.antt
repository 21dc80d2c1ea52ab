-- The canonical text of a module: each item and statement on lines of its own, two spaces for each block,
-- parentheses exactly where an operand is of a lower level than its place asks for.
use Rattle.std.specs.Prelude.{ℕ, zero, suc, List, [], ◌∷◌, ◌++◌, Bool, true, false, ◌==◌, nat_lt}
use Rattle.std.specs.Prelude.{if◌then◌else◌, Option, Some, None, codes, map}
use Rattle.std.specs.Str.{bytes_eq}
use Rattle.std.specs.Fmt.{decimal}
use Rattle.hmr_types.specs.Event.{event_of}
use Rattle.module_tree.specs.Syntax.{ExprTree, num, text, undefined, name, bag, member, neg, binary, choose}
use Rattle.module_tree.specs.Syntax.{CondTree, param, value, StmtTree, StmtTrees, no_stmts, one_stmt, log}
use Rattle.module_tree.specs.Syntax.{assign, bag_set, throw, invalidate, branch, HandlerTree, OnceTree, code}
use Rattle.module_tree.specs.Syntax.{host, ItemTree, import, declare, act}
use Rattle.module_tree.specs.Syntax.{own, deps, dispose, prune, decline}
use Rattle.module_tree.specs.Syntax.{ModuleTree}
use Rattle.module_tree.specs.declared.tree.Op.{Op}
use Rattle.module_tree.specs.declared.tree.Op.TheVariants as ops
use Rattle.module_tree.specs.declared.tree.ImportName.{ImportName}

-- a byte of a text, with a backslash where it is one, a double quote, an LF, a tab or a CR
abbrev pub escaped : ℕ → List ℕ
escaped b =
    if b == 92 then codes "\\\\"
    else if b == 34 then codes "\\\""
    else if b == 10 then codes "\\n"
    else if b == 9 then codes "\\t"
    else if b == 13 then codes "\\r"
    else b ∷ []

-- the bytes of a text between its quotes
abbrev pub all_escaped : List ℕ → List ℕ
all_escaped [] = []
all_escaped (b ∷ bs) = escaped b ++ all_escaped bs

-- a text in double quotes
abbrev pub quoted : List ℕ → List ℕ
quoted s = 34 ∷ (all_escaped s ++ (34 ∷ []))

-- pieces with a comma and a space between each two
abbrev pub comma_then : List (List ℕ) → List ℕ
comma_then [] = []
comma_then (p ∷ ps) = codes ", " ++ (p ++ comma_then ps)

-- pieces with commas between them
abbrev pub commas : List (List ℕ) → List ℕ
commas [] = []
commas (p ∷ ps) = p ++ comma_then ps

-- the level of an operator
abbrev pub op_level : Op → ℕ
op_level ops.Null = 1
op_level ops.Add = 2
op_level ops.Sub = 2
op_level ops.Mul = 3

-- an operator with a space at each side
abbrev pub op_text : Op → List ℕ
op_text ops.Null = codes " ?? "
op_text ops.Add = codes " + "
op_text ops.Sub = codes " - "
op_text ops.Mul = codes " * "

-- the level of the grammar that an expression is of: 0 `?:`, 1 `??`, 2 `+` and `-`, 3 `*`, 4 a minus, 5 all
-- others
abbrev pub level : ExprTree → ℕ
level (num n) = 5
level (text s) = 5
level undefined = 5
level (name n) = 5
level (bag k) = 5
level (member place safe k) = 5
level (neg a) = 4
level (binary op a b) = op_level op
level (choose c a b) = 0

-- in parentheses, where the level is below that of the place
abbrev pub placed : ℕ → ℕ → List ℕ → List ℕ
placed place l bytes = if nat_lt l place then codes "(" ++ (bytes ++ codes ")") else bytes

-- the name at a place of a list
abbrev pub nth : List (List ℕ) → ℕ → List ℕ
nth [] i = []
nth (n ∷ ns) zero = n
nth (n ∷ ns) (suc i) = nth ns i

-- the dot before a key, safe or not
abbrev pub dot_text : Bool → List ℕ
dot_text true = codes "?."
dot_text false = codes "."

-- an expression, where these are the parameters
abbrev pub expr_text : List (List ℕ) → ExprTree → List ℕ
expr_text ps (num n) = decimal n
expr_text ps (text s) = quoted s
expr_text ps undefined = codes "undefined"
expr_text ps (name n) = n
expr_text ps (bag k) = codes "import.meta.hot.data." ++ k
expr_text ps (member place safe k) = nth ps place ++ (dot_text safe ++ k)
expr_text ps (neg a) = codes "-" ++ placed 5 (level a) (expr_text ps a)
expr_text ps (binary op a b) = placed (op_level op) (level a) (expr_text ps a)
    ++ (op_text op ++ placed (suc (op_level op)) (level b) (expr_text ps b))
expr_text ps (choose c a b) = placed 1 (level c) (expr_text ps c)
    ++ (codes " ? " ++ (expr_text ps a ++ (codes " : " ++ expr_text ps b)))

-- the condition of an if
abbrev pub cond_text : List (List ℕ) → CondTree → List ℕ
cond_text ps (param place) = nth ps place
cond_text ps (value e) = expr_text ps e

-- two spaces for each block
abbrev pub indent : ℕ → List ℕ
indent zero = []
indent (suc n) = codes "  " ++ indent n

-- what an invalidation tells
abbrev pub told_text : List (List ℕ) → Option ExprTree → List ℕ
told_text ps None = []
told_text ps (Some e) = expr_text ps e

-- the other body of an if, unless it is empty; it is the text of the body's statements
abbrev pub else_text : ℕ → StmtTrees → List ℕ → List ℕ
else_text depth no_stmts body = codes "\n"
else_text depth (one_stmt s r) body = codes " else {\n" ++ (body ++ (indent depth ++ codes "}\n"))

-- statements at a depth
abbrev mutual
  pub stmt_text : List (List ℕ) → ℕ → StmtTree → List ℕ
  stmt_text ps depth (log es) =
      indent depth ++ (codes "console.log(" ++ (commas (map (expr_text ps) es) ++ codes ");\n"))
  stmt_text ps depth (assign n e) = indent depth ++ (n ++ (codes " = " ++ (expr_text ps e ++ codes ";\n")))
  stmt_text ps depth (bag_set k e) = indent depth
      ++ (codes "import.meta.hot.data." ++ (k ++ (codes " = " ++ (expr_text ps e ++ codes ";\n"))))
  stmt_text ps depth (throw e) =
      indent depth ++ (codes "throw new Error(" ++ (expr_text ps e ++ codes ");\n"))
  stmt_text ps depth (invalidate e) =
      indent depth ++ (codes "import.meta.hot.invalidate(" ++ (told_text ps e ++ codes ");\n"))
  stmt_text ps depth (branch c a b) =
      indent depth ++ (codes "if (" ++ (cond_text ps c ++ (codes ") {\n" ++ (stmts_text ps (suc depth) a
      ++ (indent depth ++ (codes "}" ++ else_text depth b (stmts_text ps (suc depth) b)))))))

  pub stmts_text : List (List ℕ) → ℕ → StmtTrees → List ℕ
  stmts_text ps depth no_stmts = []
  stmts_text ps depth (one_stmt s r) = stmt_text ps depth s ++ stmts_text ps depth r

-- a callback with the text of its parameters
abbrev pub callback_text : List ℕ → HandlerTree → List ℕ
callback_text params h = params ++ (codes " => {\n" ++ (stmts_text h.params 1 h.body ++ codes "}"))

-- a callback, with its parameters in parentheses
abbrev pub handler_text : HandlerTree → List ℕ
handler_text h = callback_text (codes "(" ++ (commas h.params ++ codes ")")) h

-- in the list form parameters stand in brackets, unless there are none
abbrev pub list_params : List (List ℕ) → List ℕ
list_params [] = codes "()"
list_params (p ∷ ps) = codes "([" ++ (commas (p ∷ ps) ++ codes "])")

-- a callback of the list form
abbrev pub list_handler_text : HandlerTree → List ℕ
list_handler_text h = callback_text (list_params h.params) h

-- a callback or a host closure
abbrev pub once_text : OnceTree → List ℕ
once_text (code h) = handler_text h
once_text (host l) = codes "host(" ++ (quoted l ++ codes ")")

-- one name of an import
abbrev pub import_name_text : ImportName → List ℕ
import_name_text i = if bytes_eq i.exported i.local then i.local else i.exported ++ (codes " as " ++ i.local)

-- an import, with or without names
abbrev pub import_text : List ℕ → List ImportName → List ℕ
import_text s [] = codes "import " ++ (quoted s ++ codes ";\n")
import_text s (i ∷ is) = codes "import { "
    ++ (commas (map import_name_text (i ∷ is)) ++ (codes " } from " ++ (quoted s ++ codes ";\n")))

-- the word before an exported declaration
abbrev pub export_text : Bool → List ℕ
export_text true = codes "export "
export_text false = []

-- the word of a declaration
abbrev pub declare_text : Bool → List ℕ
declare_text true = codes "let "
declare_text false = codes "const "

-- a call of `import.meta.hot`
abbrev pub call_text : List ℕ → List ℕ → List ℕ
call_text word args = codes "import.meta.hot." ++ (word ++ (codes "(" ++ (args ++ codes ");\n")))

-- what `accept` of the module itself takes
abbrev pub own_text : Option OnceTree → List ℕ
own_text None = []
own_text (Some o) = once_text o

-- one specifier, or a list of them
abbrev pub specs_text : Bool → List (List ℕ) → List ℕ
specs_text true ss = codes "[" ++ (commas (map quoted ss) ++ codes "]")
specs_text false ss = commas (map quoted ss)

-- the callback after the specifiers
abbrev pub deps_handler_text : Bool → Option HandlerTree → List ℕ
deps_handler_text list None = []
deps_handler_text true (Some h) = codes ", " ++ list_handler_text h
deps_handler_text false (Some h) = codes ", " ++ handler_text h

-- the event that a callback listens to: its one specifier is the module of the event
abbrev pub heard : Bool → List (List ℕ) → Option HandlerTree → Option (List ℕ)
heard true ss h = None
heard false [] h = None
heard false (s ∷ []) None = None
heard false (s ∷ []) (Some h) = event_of s
heard false (s ∷ (t ∷ ss)) h = None

-- the word of the call: `on` for an event, else `accept`
abbrev pub deps_word : Option (List ℕ) → List ℕ
deps_word None = codes "accept"
deps_word (Some event) = codes "on"

-- what stands before the callback: the event, or the specifiers
abbrev pub heard_text : Option (List ℕ) → Bool → List (List ℕ) → List ℕ
heard_text None list ss = specs_text list ss
heard_text (Some event) list ss = quoted event

-- a call for dependencies, by the event that it listens to, if any
abbrev pub deps_text : Option (List ℕ) → Bool → List (List ℕ) → Option HandlerTree → List ℕ
deps_text event list ss h =
    call_text (deps_word event) (heard_text event list ss ++ deps_handler_text list h)

-- an item
abbrev pub item_text : ItemTree → List ℕ
item_text (import s names) = import_text s names
item_text (declare exported mutable n e) =
    export_text exported ++ (declare_text mutable ++ (n ++ (codes " = " ++ (expr_text [] e ++ codes ";\n"))))
item_text (act s) = stmt_text [] 0 s
item_text (own o) = call_text (codes "accept") (own_text o)
item_text (deps list ss h) = deps_text (heard list ss h) list ss h
item_text (dispose o) = call_text (codes "dispose") (once_text o)
item_text (prune o) = call_text (codes "prune") (once_text o)
item_text decline = call_text (codes "decline") []

-- the canonical text of a module
abbrev pub canon : ModuleTree → List ℕ
canon [] = []
canon (i ∷ is) = item_text i ++ canon is
