-- Reading a module text: what the tokens of a text are by the grammar, or where they leave it. Each reader
-- looks one token ahead; `throw new` alone looks two. `Grammar` says the same by derivations.
use Rattle.std.specs.Prelude.{ℕ, zero, suc, List, [], ◌∷◌, ◌++◌, length, Bool, true, false, if◌then◌else◌}
use Rattle.std.specs.Prelude.{Option, Some, None, Result, Ok, Err}
use Rattle.module_tree.specs.declared.tree.Op.{Op}
use Rattle.module_tree.specs.declared.tree.Op.TheVariants as ops
use Rattle.module_semantics.specs.Steps.{◌>>=◌}
use Rattle.module_semantics.specs.Token.{LineToken}
use Rattle.module_semantics.specs.Kinds.{OTHER, IMPORT, EXPORT, CONST, LET, IF, ELSE, THROW, UNDEFINED}
use Rattle.module_semantics.specs.Kinds.{CONSOLE, LOG, HOST, NEW, ERROR, FROM, AS, META, HOT, DATA, ACCEPT}
use Rattle.module_semantics.specs.Kinds.{DISPOSE, PRUNE, DECLINE, INVALIDATE, ON, NUMBER, TEXT, OPEN_BRACE}
use Rattle.module_semantics.specs.Kinds.{CLOSE_BRACE, OPEN, CLOSE, OPEN_BRACKET, CLOSE_BRACKET, COMMA, DOT}
use Rattle.module_semantics.specs.Kinds.{EQUALS, PLUS, MINUS, TIMES, QUESTION, COLON, ARROW, SAFE_DOT}
use Rattle.module_semantics.specs.Kinds.{NULLISH, reserved, free_names, all_names}
use Rattle.module_semantics.specs.Kinds.{bytes_of, value_of, NameAt}
use Rattle.module_semantics.specs.Kinds.{name_at}
use Rattle.module_semantics.specs.Raw.{RawExpr, num, text, undefined, name, bag, member, neg, binary, choose}
use Rattle.module_semantics.specs.Raw.{RawStmt, RawStmts, no_stmts, one_stmt, stmts_of, log, assign, set}
use Rattle.module_semantics.specs.Raw.{set_bag, throw, invalidate, branch, RawHandler, RawOnce, code, host}
use Rattle.module_semantics.specs.Raw.{RawImport, RawItem, import, declare, act}
use Rattle.module_semantics.specs.Raw.{own, deps, on, dispose, prune}
use Rattle.module_semantics.specs.Raw.{decline}
use Rattle.module_semantics.specs.Readers.{GrammarFault, unexpected, Reader, next_two, taken, mark, given}
use Rattle.module_semantics.specs.Readers.{◌&◌, mapped, ◌▷◌, ◌◁◌, choice, many, listed, separated, end, deep}

-- a name that is none of the reserved words
abbrev pub free_name : Reader NameAt
free_name = taken free_names name_at

-- a name after a dot
abbrev pub key : Reader (List ℕ)
key = taken all_names (λ t. bytes_of t.token)

-- a text, by the bytes that it stands for
abbrev pub text_token : Reader (List ℕ)
text_token = taken (TEXT ∷ []) (λ t. bytes_of t.token)

-- a number, by its value
abbrev pub number_token : Reader ℕ
number_token = taken (NUMBER ∷ []) (λ t. value_of t.token)

-- what follows `import` in `import.meta.hot.`, and then more
abbrev pub hot : {A : Type 0} → Reader A → Reader A
hot f = mark DOT ▷ mark META ▷ mark DOT ▷ mark HOT ▷ mark DOT ▷ f

-- what an expression begins with
abbrev pub expr_firsts : List ℕ
expr_firsts = NUMBER ∷ TEXT ∷ UNDEFINED ∷ IMPORT ∷ OPEN ∷ MINUS ∷ free_names

-- what follows a name that is read
unfoldable pub access : Reader (Option (Bool × List ℕ))
access = choice (DOT ∷ []) (mapped (λ k. Some (false, k)) (mark DOT ▷ key))
    (choice (SAFE_DOT ∷ []) (mapped (λ k. Some (true, k)) (mark SAFE_DOT ▷ key)) (given None))

-- a name that is read, or a key of it
abbrev pub accessed : NameAt × Option (Bool × List ℕ) → RawExpr
accessed (n, None) = name n
accessed (n, Some a) = member n a.0 a.1

-- e reads the expressions inside
unfoldable pub prim : Reader RawExpr → Reader RawExpr
prim e =
    choice (NUMBER ∷ []) (mapped num number_token)
    (choice (TEXT ∷ []) (mapped text text_token)
    (choice (UNDEFINED ∷ []) (mapped (λ u. undefined) (mark UNDEFINED))
    (choice (IMPORT ∷ []) (mapped bag (mark IMPORT ▷ hot (mark DATA ▷ mark DOT ▷ key)))
    (choice (OPEN ∷ []) (mark OPEN ▷ e ◁ mark CLOSE)
    (mapped accessed (free_name & access))))))

-- perhaps a minus
unfoldable pub unary : Reader RawExpr → Reader RawExpr
unary e = choice (MINUS ∷ []) (mapped neg (mark MINUS ▷ prim e)) (prim e)

-- operators group to the left
abbrev pub grouped : RawExpr → List (Op × RawExpr) → RawExpr
grouped a [] = a
grouped a (b ∷ bs) = grouped (binary b.0 a b.1) bs

-- an operator of this kind, and its right side
abbrev pub operation : ℕ → Op → Reader RawExpr → Reader (Op × RawExpr)
operation k op f = mapped (λ b. (op, b)) (mark k ▷ f)

-- one or more, with `*` between
unfoldable pub prod : Reader RawExpr → Reader RawExpr
prod e = mapped (λ v. grouped v.0 v.1) (unary e & many (TIMES ∷ []) (operation TIMES ops.Mul (unary e)))

-- one or more, with `+` or `-` between
unfoldable pub sum : Reader RawExpr → Reader RawExpr
sum e = mapped (λ v. grouped v.0 v.1) (prod e & many (PLUS ∷ MINUS ∷ [])
    (choice (PLUS ∷ []) (operation PLUS ops.Add (prod e)) (operation MINUS ops.Sub (prod e))))

-- one or more, with `??` between
unfoldable pub null : Reader RawExpr → Reader RawExpr
null e = mapped (λ v. grouped v.0 v.1) (sum e & many (NULLISH ∷ []) (operation NULLISH ops.Null (sum e)))

-- a condition alone, or with its two choices
abbrev pub chosen : RawExpr × Option (RawExpr × RawExpr) → RawExpr
chosen (c, None) = c
chosen (c, Some v) = choose c v.0 v.1

-- an expression, where e reads the expressions inside
unfoldable pub expr_over : Reader RawExpr → Reader RawExpr
expr_over e = mapped chosen
    (null e & choice (QUESTION ∷ []) (mapped Some (mark QUESTION ▷ (e ◁ mark COLON) & e)) (given None))

-- an expression, with at most this many in one another
unfoldable pub expr : ℕ → Reader RawExpr
expr zero = deep expr_firsts
expr (suc n) = expr_over (expr n)

-- what was told after a value, of that value
abbrev pub applied : {A B : Type 0} → A × (A → B) → B
applied v = v.1 v.0

-- statements that begin with a name
abbrev pub but_console : List ℕ
but_console =
    OTHER ∷ LOG ∷ HOST ∷ NEW ∷ ERROR ∷ FROM ∷ AS ∷ META ∷ HOT ∷ DATA ∷ ACCEPT ∷ DISPOSE ∷ PRUNE
    ∷ DECLINE ∷ INVALIDATE ∷ ON ∷ []

-- after a name: a value for it
abbrev pub assigned : Reader RawExpr → Reader (NameAt → RawStmt)
assigned e = mapped (λ x n. assign n x) (mark EQUALS ▷ e)

-- `console.` begins a log
unfoldable pub console_act : Reader RawExpr → Reader RawStmt
console_act e =
    mapped applied
    (taken (CONSOLE ∷ []) name_at & choice (DOT ∷ [])
    (mapped (λ es n. log es) (mark DOT ▷ mark LOG ▷ mark OPEN ▷ separated expr_firsts e ◁ mark CLOSE))
    (assigned e))

-- with another name: an assignment to it or to a key of it
unfoldable pub other_act : Reader RawExpr → Reader RawStmt
other_act e = mapped applied (taken but_console name_at
    & choice (DOT ∷ []) (mapped (λ v n. set n v.0 v.1) (mark DOT ▷ key & mark EQUALS ▷ e)) (assigned e))

-- a statement that begins with a name
unfoldable pub name_act : Reader RawExpr → Reader RawStmt
name_act e = choice (CONSOLE ∷ []) (console_act e) (other_act e)

-- after `import.meta.hot.`: an assignment to a key of the bag
unfoldable pub bag_act : Reader RawExpr → Reader RawStmt
bag_act e = mapped (λ v. set_bag v.0 v.1) (mark DATA ▷ mark DOT ▷ key & mark EQUALS ▷ e)

-- what is thrown: `new` directly before `Error` is always the form with an error
unfoldable pub thrown : Reader RawExpr → Reader RawExpr
thrown e = mark THROW ▷ λ ts.
    if next_two NEW ERROR ts then (mark NEW ▷ mark ERROR ▷ mark OPEN ▷ e ◁ mark CLOSE) ts else e ts

-- after `import.meta.hot.`: what is told
unfoldable pub told : Reader RawExpr → Reader (Option RawExpr)
told e = mark INVALIDATE ▷ mark OPEN ▷ choice expr_firsts (mapped Some e) (given None) ◁ mark CLOSE

-- what an `import` at a place begins in a callback
abbrev pub bag_stmt : Reader RawExpr → Reader (ℕ → RawStmt)
bag_stmt e = mapped (λ s at. s) (bag_act e)

-- an invalidation, by the place of its `import`
abbrev pub told_stmt : Reader RawExpr → Reader (ℕ → RawStmt)
told_stmt e = mapped (λ x at. invalidate at x) (told e)

-- in a callback: a statement that begins with `import`
unfoldable pub import_stmt : Reader RawExpr → Reader RawStmt
import_stmt e =
    mapped applied (taken (IMPORT ∷ []) (λ t. t.at) & hot (choice (DATA ∷ []) (bag_stmt e) (told_stmt e)))

-- the readers of what stands inside: expressions, blocks and ifs after `else`
pub record Inner : Type 0 where
  pub expr : Reader RawExpr
  pub block : Reader RawStmts
  pub else_if : Reader RawStmt

-- a body of one statement
abbrev pub only : RawStmt → RawStmts
only s = one_stmt s no_stmts

-- what follows `else`, where it stands there
unfoldable pub else_part : Inner → Reader RawStmts
else_part i =
    choice (ELSE ∷ []) (mark ELSE ▷ choice (OPEN_BRACE ∷ []) i.block (mapped only i.else_if))
    (given no_stmts)

-- an if
unfoldable pub if_stmt : Inner → Reader RawStmt
if_stmt i =
    mapped
    (λ v. branch v.0 v.1.0 v.1.1) (mark IF ▷ mark OPEN ▷ (i.expr ◁ mark CLOSE) & i.block & else_part i)

-- what a statement of a callback begins with
abbrev pub stmt_firsts : List ℕ
stmt_firsts = IF ∷ THROW ∷ IMPORT ∷ free_names

-- a statement of a callback
unfoldable pub stmt : Inner → Reader RawStmt
stmt i =
    choice (IF ∷ []) (if_stmt i)
    (choice (THROW ∷ []) (mapped throw (thrown i.expr) ◁ end)
    (choice (IMPORT ∷ []) (import_stmt i.expr ◁ end)
    (name_act i.expr ◁ end)))

-- statements in braces
unfoldable pub braces : Inner → Reader RawStmts
braces i = mark OPEN_BRACE ▷ mapped stmts_of (many stmt_firsts (stmt i)) ◁ mark CLOSE_BRACE

-- what stands inside, by the readers of what stands one deeper
abbrev pub around : Reader RawExpr → Inner → Inner
around e i = record { expr = e; block = braces i; else_if = if_stmt i }

-- what stands inside, where at most this many expressions, blocks and ifs after `else` may stand in one
-- another
unfoldable pub inner : ℕ → Inner
inner zero = record { expr = expr zero; block = deep (OPEN_BRACE ∷ []); else_if = deep (IF ∷ []) }
inner (suc n) = around (expr (suc n)) (inner n)

-- callbacks
unfoldable pub body : Inner → Reader RawStmts
body i = choice (OPEN_BRACE ∷ []) (braces i)
    (mapped only (choice (IMPORT ∷ []) (import_stmt i.expr) (name_act i.expr)))

-- a list of one
abbrev pub alone : {A : Type 0} → A → List A
alone x = x ∷ []

-- a list of one or none
abbrev pub one_or_none : {A : Type 0} → Option A → List A
one_or_none None = []
one_or_none (Some x) = x ∷ []

-- the list, where there is one
abbrev pub all_of : {A : Type 0} → Option (List A) → List A
all_of None = []
all_of (Some xs) = xs

-- perhaps a parameter, in parentheses
unfoldable pub in_parens : Reader (List NameAt)
in_parens = mark OPEN
    ▷ mapped one_or_none (choice free_names (mapped Some free_name) (given None)) ◁ mark CLOSE

-- a callback of its parameters and its body
abbrev pub handler : List NameAt × RawStmts → RawHandler
handler v = record { params = v.0; body = v.1 }

-- a callback whose parameter, where it stands alone, is of these kinds
abbrev pub callback_by : List ℕ → Reader RawStmts → Reader RawHandler
callback_by ks b =
    mapped handler (choice (OPEN ∷ []) in_parens (mapped alone (taken ks name_at)) & mark ARROW ▷ b)

-- a callback of one dependency or of the module itself
unfoldable pub callback : Reader RawStmts → Reader RawHandler
callback b = callback_by free_names b

-- a callback of a list of dependencies
unfoldable pub list_callback : Reader RawStmts → Reader RawHandler
list_callback b =
    mapped handler
    ((mark OPEN ▷ mapped all_of (choice (OPEN_BRACKET ∷ [])
    (mapped Some (mark OPEN_BRACKET ▷ separated free_names free_name ◁ mark CLOSE_BRACKET)) (given None))
    ◁ mark CLOSE) & mark ARROW ▷ b)

-- names but `host`
abbrev pub but_host : List ℕ
but_host =
    OTHER ∷ CONSOLE ∷ LOG ∷ NEW ∷ ERROR ∷ FROM ∷ AS ∷ META ∷ HOT ∷ DATA ∷ ACCEPT ∷ DISPOSE ∷ PRUNE
    ∷ DECLINE ∷ INVALIDATE ∷ ON ∷ []

-- after `host`: the label of a host closure
abbrev pub host_label : Reader (NameAt → RawOnce)
host_label = mapped (λ l n. host l) (mark OPEN ▷ text_token ◁ mark CLOSE)

-- after `host` as a parameter: the body of a callback
abbrev pub host_code : Reader RawStmts → Reader (NameAt → RawOnce)
host_code b = mapped (λ s n. code (handler (alone n, s))) (mark ARROW ▷ b)

-- `host(` begins a host closure
unfoldable pub host_own : Reader RawStmts → Reader RawOnce
host_own b = mapped applied (taken (HOST ∷ []) name_at & choice (OPEN ∷ []) host_label (host_code b))

-- what a callback or a host closure begins with
abbrev pub own_firsts : List ℕ
own_firsts = HOST ∷ OPEN ∷ but_host

-- a callback or a host closure
unfoldable pub once : Reader RawStmts → Reader RawOnce
once b = choice (HOST ∷ []) (host_own b) (mapped code (callback_by but_host b))

-- the calls of `import.meta.hot`
abbrev pub after_comma : Reader RawHandler → Reader (Option RawHandler)
after_comma f = choice (COMMA ∷ []) (mapped Some (mark COMMA ▷ f)) (given None)

-- what `accept` takes
unfoldable pub accepted : Reader RawStmts → Reader RawItem
accepted b =
    choice (TEXT ∷ []) (mapped (λ v. deps false (alone v.0) v.1) (text_token & after_comma (callback b)))
    (choice (OPEN_BRACKET ∷ [])
    (mapped
    (λ v. deps true v.0 v.1) ((mark OPEN_BRACKET ▷ listed (TEXT ∷ []) text_token ◁ mark CLOSE_BRACKET)
    & after_comma (list_callback b)))
    (choice own_firsts (mapped (λ o. own (Some o)) (once b)) (given (own None))))

-- what `on` takes: the name of an event, and a callback
abbrev pub listened : Reader RawStmts → Reader RawItem
listened b = mapped (λ v. on v.0 v.1) (taken (TEXT ∷ []) name_at & mark COMMA ▷ callback b)

-- a call of `import.meta.hot`
unfoldable pub hot_call : Reader RawStmts → Reader RawItem
hot_call b =
    choice (ACCEPT ∷ []) (mark ACCEPT ▷ mark OPEN ▷ accepted b ◁ mark CLOSE)
    (choice (DISPOSE ∷ []) (mapped dispose (mark DISPOSE ▷ mark OPEN ▷ once b ◁ mark CLOSE))
    (choice (PRUNE ∷ []) (mapped prune (mark PRUNE ▷ mark OPEN ▷ once b ◁ mark CLOSE))
    (choice (ON ∷ []) (mark ON ▷ mark OPEN ▷ listened b ◁ mark CLOSE)
    (mapped (λ u. decline) (mark DECLINE ▷ mark OPEN ▷ mark CLOSE)))))

-- after `import`: a call of `import.meta.hot`, or an assignment to the bag
unfoldable pub hot_top : Inner → Reader RawItem
hot_top i = hot (choice (DATA ∷ []) (mapped act (bag_act i.expr)) (hot_call (body i))) ◁ end

-- what a statement of a guard begins with
abbrev pub top_firsts : List ℕ
top_firsts = IMPORT ∷ THROW ∷ free_names

-- a statement at the top that begins with a name or `throw`
unfoldable pub plain_top : Inner → Reader RawItem
plain_top i = choice (THROW ∷ []) (mapped (λ x. act (throw x)) (thrown i.expr) ◁ end)
    (mapped act (name_act i.expr) ◁ end)

-- a statement or a call at the top
unfoldable pub top : Inner → Reader RawItem
top i = choice (IMPORT ∷ []) (mark IMPORT ▷ hot_top i) (plain_top i)

-- `if (import.meta.hot)` and the statements that it guards
unfoldable pub guard : Inner → Reader (List RawItem)
guard i =
    mark IF ▷ mark OPEN ▷ mark IMPORT ▷ mark DOT ▷ mark META ▷ mark DOT ▷ mark HOT ▷ mark CLOSE
    ▷ mark OPEN_BRACE ▷ many top_firsts (top i) ◁ mark CLOSE_BRACE

-- a declaration, exported or not
unfoldable pub declaration : Reader RawExpr → Reader (Bool → RawItem)
declaration e =
    choice (CONST ∷ [])
    (mapped (λ v exported. declare exported false v.0 v.1) (mark CONST ▷ free_name & mark EQUALS ▷ e ◁ end))
    (mapped (λ v exported. declare exported true v.0 v.1) (mark LET ▷ free_name & mark EQUALS ▷ e ◁ end))

-- a name that is imported under its own name or another
abbrev pub imported : NameAt × Option NameAt → RawImport
imported (n, None) = record { exported = n.name; local = n }
imported (n, Some l) = record { exported = n.name; local = l }

-- one name of an import: a reserved word only before `as`
unfoldable pub import_name : Reader RawImport
import_name =
    choice reserved (mapped (λ v. record { exported = v.0; local = v.1 })
    (taken reserved (λ t. bytes_of t.token) & mark AS ▷ free_name))
    (mapped imported (free_name & choice (AS ∷ []) (mapped Some (mark AS ▷ free_name)) (given None)))

-- after `import`
unfoldable pub import_item : Inner → Reader RawItem
import_item i =
    choice (TEXT ∷ []) (mapped (λ s. import s []) (text_token ◁ end))
    (choice (OPEN_BRACE ∷ [])
    (mapped (λ v. import v.1 v.0)
    ((mark OPEN_BRACE ▷ listed all_names import_name ◁ mark CLOSE_BRACE) & mark FROM ▷ text_token ◁ end))
    (hot_top i))

-- what an item begins with
abbrev pub item_firsts : List ℕ
item_firsts = IMPORT ∷ EXPORT ∷ CONST ∷ LET ∷ IF ∷ THROW ∷ free_names

-- an item, or the items of a guard
unfoldable pub item : Inner → Reader (List RawItem)
item i =
    choice (IMPORT ∷ []) (mapped alone (mark IMPORT ▷ import_item i))
    (choice (EXPORT ∷ []) (mapped (λ d. alone (d true)) (mark EXPORT ▷ declaration i.expr))
    (choice (CONST ∷ LET ∷ []) (mapped (λ d. alone (d false)) (declaration i.expr))
    (choice (IF ∷ []) (guard i)
    (mapped alone (plain_top i)))))

-- the lists, one after another
abbrev pub flat : {A : Type 0} → List (List A) → List A
flat [] = []
flat (x ∷ xs) = x ++ flat xs

-- nothing may stand after the last item
unfoldable pub finished : Reader (Unit {0})
finished [] = Ok (tt, [])
finished (t ∷ ts) = Err (unexpected (suc (length ts)))

-- a whole module, with at most this many constructs in one another
unfoldable pub module_reader : ℕ → Reader (List RawItem)
module_reader n = mapped flat (many item_firsts (item (inner n))) ◁ finished

-- what the tokens are by the grammar, or where they leave it
unfoldable pub reading : ℕ → List LineToken → Result (List RawItem) GrammarFault
reading n ts = module_reader n ts >>= λ x. Ok x.0
