-- The grammar of a module text: derivations, with one constructor for each production. A derivation is
-- spelled by tokens, says something of the module, and has a depth.
pub use Rattle.module_semantics.specs.ExprGrammar.{ExprD, NullD, NullRestD, SumD, SumRestD, ProdD, ProdRestD}
pub use Rattle.module_semantics.specs.ExprGrammar.{UnaryD, PrimD, plain, choice, null, no_null, nullish, sum}
pub use Rattle.module_semantics.specs.ExprGrammar.{no_sum, plus, minus, prod, no_prod, times, positive}
pub use Rattle.module_semantics.specs.ExprGrammar.{negative, number, text, undefined, name, member}
pub use Rattle.module_semantics.specs.ExprGrammar.{safe_member, bag, brackets, hot_spelt, nothing, not_error}
pub use Rattle.module_semantics.specs.ExprGrammar.{expr_spelt, null_spelt, null_rest_spelt, sum_spelt}
pub use Rattle.module_semantics.specs.ExprGrammar.{sum_rest_spelt, prod_spelt, prod_rest_spelt, unary_spelt}
pub use Rattle.module_semantics.specs.ExprGrammar.{prim_spelt, expr_raw, null_raw, null_rest_raw, sum_raw}
pub use Rattle.module_semantics.specs.ExprGrammar.{sum_rest_raw, prod_raw, prod_rest_raw, unary_raw}
pub use Rattle.module_semantics.specs.ExprGrammar.{prim_raw, expr_depth, null_depth, null_rest_depth}
pub use Rattle.module_semantics.specs.ExprGrammar.{sum_depth, sum_rest_depth, prod_depth, prod_rest_depth}
pub use Rattle.module_semantics.specs.ExprGrammar.{unary_depth, prim_depth}
use Rattle.std.specs.Prelude.{ℕ, suc, max, List, [], ◌∷◌, Bool, true, false, Option, Some, None, map}
use Rattle.std.specs.Option.{option_map}
use Rattle.module_semantics.specs.Kinds.{IMPORT, EXPORT, CONST, LET, IF, ELSE}
use Rattle.module_semantics.specs.Kinds.{THROW, CONSOLE, LOG, HOST, NEW}
use Rattle.module_semantics.specs.Kinds.{ERROR, FROM, AS, META, HOT, DATA, ACCEPT, DISPOSE, PRUNE, DECLINE}
use Rattle.module_semantics.specs.Kinds.{INVALIDATE, ON, TEXT, OPEN_BRACE, CLOSE_BRACE, OPEN, CLOSE}
use Rattle.module_semantics.specs.Kinds.{OPEN_BRACKET, CLOSE_BRACKET, COMMA, DOT, EQUALS, ARROW, NameAt}
use Rattle.module_semantics.specs.Raw as raw
use Rattle.module_semantics.specs.Raw.{RawExpr, RawStmt, RawStmts, no_stmts, one_stmt, RawHandler, RawOnce}
use Rattle.module_semantics.specs.Raw.{RawImport, RawItem}
use Rattle.module_semantics.specs.Reading.{but_console, flat, one_or_none, all_of}
use Rattle.module_semantics.specs.Spelling.{Spell, ◌▸◌, mark, name_of, free_name, key, text_token, mark_at}
use Rattle.module_semantics.specs.Spelling.{end, many, separated, Listed, listed, items_of, maybe}

-- the deepest of a list, and of what may be missing
abbrev pub deepest : {D : Type 0} → (D → ℕ) → List D → ℕ
deepest f [] = 0
deepest f (d ∷ ds) = max (f d) (deepest f ds)

-- how deep what may be missing is
abbrev pub deep_if : {D : Type 0} → (D → ℕ) → Option D → ℕ
deep_if f None = 0
deep_if f (Some d) = f d

-- Simple, but for `throw`
pub data ActD : Type 0 where
  log : List ExprD → ActD
  assign : NameAt → ExprD → ActD
  set : NameAt → List ℕ → ExprD → ActD
  set_bag : List ℕ → ExprD → ActD

-- `console.` begins a log, so the name of a key's assignment is another
abbrev pub act_spelt : ActD → Spell
act_spelt (log es) = mark CONSOLE ▸ mark DOT ▸ mark LOG ▸ mark OPEN ▸ separated expr_spelt es ▸ mark CLOSE
act_spelt (assign n e) = free_name n ▸ mark EQUALS ▸ expr_spelt e
act_spelt (set n k e) = name_of but_console n ▸ mark DOT ▸ key k ▸ mark EQUALS ▸ expr_spelt e
act_spelt (set_bag k e) = mark IMPORT ▸ hot_spelt (mark DATA ▸ mark DOT ▸ key k ▸ mark EQUALS ▸ expr_spelt e)

-- what it says
abbrev pub act_raw : ActD → RawStmt
act_raw (log es) = raw.log (map expr_raw es)
act_raw (assign n e) = raw.assign n (expr_raw e)
act_raw (set n k e) = raw.set n k (expr_raw e)
act_raw (set_bag k e) = raw.set_bag k (expr_raw e)

-- how deep it is
abbrev pub act_depth : ActD → ℕ
act_depth (log es) = deepest expr_depth es
act_depth (assign n e) = expr_depth e
act_depth (set n k e) = expr_depth e
act_depth (set_bag k e) = expr_depth e

-- "throw" ( Expr | "new" "Error" "(" Expr ")" )
pub data ThrowD : Type 0 where
  thrown : ExprD → ThrowD
  new_error : ExprD → ThrowD

-- `new` directly before `Error` is no expression
abbrev pub throw_spelt : ThrowD → Spell
throw_spelt (thrown e) = mark THROW ▸ not_error (expr_spelt e)
throw_spelt (new_error e) = mark THROW ▸ mark NEW ▸ mark ERROR ▸ mark OPEN ▸ expr_spelt e ▸ mark CLOSE

-- what it says
abbrev pub throw_raw : ThrowD → RawExpr
throw_raw (thrown e) = expr_raw e
throw_raw (new_error e) = expr_raw e

-- how deep it is
abbrev pub throw_depth : ThrowD → ℕ
throw_depth (thrown e) = expr_depth e
throw_depth (new_error e) = expr_depth e

-- Inval, with the place of its `import`
pub data InvalD : Type 0 where
  invalidate : ℕ → Option ExprD → InvalD

-- its tokens
abbrev pub inval_spelt : InvalD → Spell
inval_spelt (invalidate at e) =
    mark_at IMPORT at ▸ hot_spelt (mark INVALIDATE ▸ mark OPEN ▸ maybe expr_spelt e ▸ mark CLOSE)

-- what it says
abbrev pub inval_raw : InvalD → RawStmt
inval_raw (invalidate at e) = raw.invalidate at (option_map expr_raw e)

-- how deep it is
abbrev pub inval_depth : InvalD → ℕ
inval_depth (invalidate at e) = deep_if expr_depth e

mutual
  -- Stmt = Simple End | Inval End | If
  pub data StmtD : Type 0 where
    act : ActD → StmtD
    throw : ThrowD → StmtD
    inval : InvalD → StmtD
    branch : IfD → StmtD

  pub data StmtsD : Type 0 where
    none : StmtsD
    more : StmtD → StmtsD → StmtsD

  -- If = "if" "(" Expr ")" Block [ "else" ( Block | If ) ]
  pub data IfD : Type 0 where
    if_then : ExprD → BlockD → ElseD → IfD

  pub data ElseD : Type 0 where
    no_else : ElseD
    else_block : BlockD → ElseD
    else_if : IfD → ElseD

  -- Block = "{" { Stmt } "}"
  pub data BlockD : Type 0 where
    block : StmtsD → BlockD

abbrev mutual
  pub stmt_spelt : StmtD → Spell
  stmt_spelt (act d) = act_spelt d ▸ end
  stmt_spelt (throw d) = throw_spelt d ▸ end
  stmt_spelt (inval d) = inval_spelt d ▸ end
  stmt_spelt (branch d) = if_spelt d

  pub stmts_spelt : StmtsD → Spell
  stmts_spelt none = nothing
  stmts_spelt (more s r) = stmt_spelt s ▸ stmts_spelt r

  pub if_spelt : IfD → Spell
  if_spelt (if_then c b e) = mark IF ▸ mark OPEN ▸ expr_spelt c ▸ mark CLOSE ▸ block_spelt b ▸ else_spelt e

  pub else_spelt : ElseD → Spell
  else_spelt no_else = nothing
  else_spelt (else_block b) = mark ELSE ▸ block_spelt b
  else_spelt (else_if i) = mark ELSE ▸ if_spelt i

  pub block_spelt : BlockD → Spell
  block_spelt (block s) = mark OPEN_BRACE ▸ stmts_spelt s ▸ mark CLOSE_BRACE

abbrev mutual
  pub stmt_raw : StmtD → RawStmt
  stmt_raw (act d) = act_raw d
  stmt_raw (throw d) = raw.throw (throw_raw d)
  stmt_raw (inval d) = inval_raw d
  stmt_raw (branch d) = if_raw d

  pub stmts_raw : StmtsD → RawStmts
  stmts_raw none = no_stmts
  stmts_raw (more s r) = one_stmt (stmt_raw s) (stmts_raw r)

  pub if_raw : IfD → RawStmt
  if_raw (if_then c b e) = raw.branch (expr_raw c) (block_raw b) (else_raw e)

  pub else_raw : ElseD → RawStmts
  else_raw no_else = no_stmts
  else_raw (else_block b) = block_raw b
  else_raw (else_if i) = one_stmt (if_raw i) no_stmts

  pub block_raw : BlockD → RawStmts
  block_raw (block s) = stmts_raw s

-- each block, and each if after `else`, counts one more than what it stands in
abbrev mutual
  pub stmt_depth : StmtD → ℕ
  stmt_depth (act d) = act_depth d
  stmt_depth (throw d) = throw_depth d
  stmt_depth (inval d) = inval_depth d
  stmt_depth (branch d) = if_depth d

  pub stmts_depth : StmtsD → ℕ
  stmts_depth none = 0
  stmts_depth (more s r) = max (stmt_depth s) (stmts_depth r)

  pub if_depth : IfD → ℕ
  if_depth (if_then c b e) = max (expr_depth c) (max (block_depth b) (else_depth e))

  pub else_depth : ElseD → ℕ
  else_depth no_else = 0
  else_depth (else_block b) = block_depth b
  else_depth (else_if i) = suc (if_depth i)

  pub block_depth : BlockD → ℕ
  block_depth (block s) = suc (stmts_depth s)

-- Body = "{" { Stmt } "}" | Simple | Inval
pub data BodyD : Type 0 where
  braces : StmtsD → BodyD
  only_act : ActD → BodyD
  only_inval : InvalD → BodyD

-- its tokens
abbrev pub body_spelt : BodyD → Spell
body_spelt (braces s) = mark OPEN_BRACE ▸ stmts_spelt s ▸ mark CLOSE_BRACE
body_spelt (only_act d) = act_spelt d
body_spelt (only_inval d) = inval_spelt d

-- what it says
abbrev pub body_raw : BodyD → RawStmts
body_raw (braces s) = stmts_raw s
body_raw (only_act d) = one_stmt (act_raw d) no_stmts
body_raw (only_inval d) = one_stmt (inval_raw d) no_stmts

-- how deep it is
abbrev pub body_depth : BodyD → ℕ
body_depth (braces s) = stmts_depth s
body_depth (only_act d) = act_depth d
body_depth (only_inval d) = inval_depth d

-- "(" [ name ] ")" | name
pub data ParamD : Type 0 where
  in_parens : Option NameAt → ParamD
  bare : NameAt → ParamD

-- its tokens
abbrev pub param_spelt : ParamD → Spell
param_spelt (in_parens n) = mark OPEN ▸ maybe free_name n ▸ mark CLOSE
param_spelt (bare n) = free_name n

-- what it says
abbrev pub param_raw : ParamD → List NameAt
param_raw (in_parens n) = one_or_none n
param_raw (bare n) = n ∷ []

-- DepCb = Param "=>" Body
pub data CallbackD : Type 0 where
  callback : ParamD → BodyD → CallbackD

-- its tokens
abbrev pub callback_spelt : CallbackD → Spell
callback_spelt (callback p b) = param_spelt p ▸ mark ARROW ▸ body_spelt b

-- what it says
abbrev pub callback_raw : CallbackD → RawHandler
callback_raw (callback p b) = record { params = param_raw p; body = body_raw b }

-- how deep it is
abbrev pub callback_depth : CallbackD → ℕ
callback_depth (callback p b) = body_depth b

-- ListCb = "(" [ "[" [ name { "," name } ] "]" ] ")" "=>" Body
pub data ListCallbackD : Type 0 where
  list_callback : Option (List NameAt) → BodyD → ListCallbackD

-- its tokens
abbrev pub names_spelt : List NameAt → Spell
names_spelt ns = mark OPEN_BRACKET ▸ separated free_name ns ▸ mark CLOSE_BRACKET

-- its tokens
abbrev pub list_callback_spelt : ListCallbackD → Spell
list_callback_spelt (list_callback ns b) =
    mark OPEN ▸ maybe names_spelt ns ▸ mark CLOSE ▸ mark ARROW ▸ body_spelt b

-- what it says
abbrev pub list_callback_raw : ListCallbackD → RawHandler
list_callback_raw (list_callback ns b) = record { params = all_of ns; body = body_raw b }

-- how deep it is
abbrev pub list_callback_depth : ListCallbackD → ℕ
list_callback_depth (list_callback ns b) = body_depth b

-- Own = DepCb | "host" "(" text ")"
pub data OwnD : Type 0 where
  code : CallbackD → OwnD
  host : List ℕ → OwnD

-- its tokens
abbrev pub own_spelt : OwnD → Spell
own_spelt (code c) = callback_spelt c
own_spelt (host l) = mark HOST ▸ mark OPEN ▸ text_token l ▸ mark CLOSE

-- what it says
abbrev pub own_raw : OwnD → RawOnce
own_raw (code c) = raw.code (callback_raw c)
own_raw (host l) = raw.host l

-- how deep it is
abbrev pub own_depth : OwnD → ℕ
own_depth (code c) = callback_depth c
own_depth (host l) = 0

-- what `accept` takes: [ Own | text [ "," DepCb ] | "[" [ text { "," text } [ "," ] ] "]" [ "," ListCb ] ]
pub data AcceptD : Type 0 where
  accept_all : AcceptD
  own : OwnD → AcceptD
  dep : List ℕ → Option CallbackD → AcceptD
  deps : Listed (List ℕ) → Option ListCallbackD → AcceptD

-- a comma, and then a part
abbrev pub after_comma : {D : Type 0} → (D → Spell) → D → Spell
after_comma f d = mark COMMA ▸ f d

-- its tokens
abbrev pub accept_spelt : AcceptD → Spell
accept_spelt accept_all = nothing
accept_spelt (own o) = own_spelt o
accept_spelt (dep s c) = text_token s ▸ maybe (after_comma callback_spelt) c
accept_spelt (deps ss c) =
    mark OPEN_BRACKET ▸ listed text_token ss ▸ mark CLOSE_BRACKET ▸ maybe (after_comma list_callback_spelt) c

-- what it says
abbrev pub accept_raw : AcceptD → RawItem
accept_raw accept_all = raw.own None
accept_raw (own o) = raw.own (Some (own_raw o))
accept_raw (dep s c) = raw.deps false (s ∷ []) (option_map callback_raw c)
accept_raw (deps ss c) = raw.deps true (items_of ss) (option_map list_callback_raw c)

-- how deep it is
abbrev pub accept_depth : AcceptD → ℕ
accept_depth accept_all = 0
accept_depth (own o) = own_depth o
accept_depth (dep s c) = deep_if callback_depth c
accept_depth (deps ss c) = deep_if list_callback_depth c

-- what `on` takes: the name of an event, where its text stands, and a callback
abbrev pub listened_spelt : NameAt → CallbackD → Spell
listened_spelt n c = name_of (TEXT ∷ []) n ▸ after_comma callback_spelt c

-- HotCall
pub data HotCallD : Type 0 where
  accept : AcceptD → HotCallD
  dispose : OwnD → HotCallD
  prune : OwnD → HotCallD
  on : NameAt → CallbackD → HotCallD
  decline : HotCallD

-- its tokens
abbrev pub hot_call_spelt : HotCallD → Spell
hot_call_spelt (accept a) = mark ACCEPT ▸ mark OPEN ▸ accept_spelt a ▸ mark CLOSE
hot_call_spelt (dispose o) = mark DISPOSE ▸ mark OPEN ▸ own_spelt o ▸ mark CLOSE
hot_call_spelt (prune o) = mark PRUNE ▸ mark OPEN ▸ own_spelt o ▸ mark CLOSE
hot_call_spelt (on n c) = mark ON ▸ mark OPEN ▸ listened_spelt n c ▸ mark CLOSE
hot_call_spelt decline = mark DECLINE ▸ mark OPEN ▸ mark CLOSE

-- what it says
abbrev pub hot_call_raw : HotCallD → RawItem
hot_call_raw (accept a) = accept_raw a
hot_call_raw (dispose o) = raw.dispose (own_raw o)
hot_call_raw (prune o) = raw.prune (own_raw o)
hot_call_raw (on n c) = raw.on n (callback_raw c)
hot_call_raw decline = raw.decline

-- how deep it is
abbrev pub hot_call_depth : HotCallD → ℕ
hot_call_depth (accept a) = accept_depth a
hot_call_depth (dispose o) = own_depth o
hot_call_depth (prune o) = own_depth o
hot_call_depth (on n c) = callback_depth c
hot_call_depth decline = 0

-- Top = Simple End | Hot "." HotCall End
pub data TopD : Type 0 where
  act : ActD → TopD
  throw : ThrowD → TopD
  call : HotCallD → TopD

-- its tokens
abbrev pub top_spelt : TopD → Spell
top_spelt (act d) = act_spelt d ▸ end
top_spelt (throw d) = throw_spelt d ▸ end
top_spelt (call d) = mark IMPORT ▸ hot_spelt (hot_call_spelt d) ▸ end

-- what it says
abbrev pub top_raw : TopD → RawItem
top_raw (act d) = raw.act (act_raw d)
top_raw (throw d) = raw.act (raw.throw (throw_raw d))
top_raw (call d) = hot_call_raw d

-- how deep it is
abbrev pub top_depth : TopD → ℕ
top_depth (act d) = act_depth d
top_depth (throw d) = throw_depth d
top_depth (call d) = hot_call_depth d

-- Decl = ( "const" | "let" ) name "=" Expr End
pub data DeclD : Type 0 where
  constant : NameAt → ExprD → DeclD
  variable : NameAt → ExprD → DeclD

-- its tokens
abbrev pub decl_spelt : DeclD → Spell
decl_spelt (constant n e) = mark CONST ▸ free_name n ▸ mark EQUALS ▸ expr_spelt e ▸ end
decl_spelt (variable n e) = mark LET ▸ free_name n ▸ mark EQUALS ▸ expr_spelt e ▸ end

-- what it says
abbrev pub decl_raw : Bool → DeclD → RawItem
decl_raw exported (constant n e) = raw.declare exported false n (expr_raw e)
decl_raw exported (variable n e) = raw.declare exported true n (expr_raw e)

-- how deep it is
abbrev pub decl_depth : DeclD → ℕ
decl_depth (constant n e) = expr_depth e
decl_depth (variable n e) = expr_depth e

-- Spec = name [ "as" name ]
pub data SpecD : Type 0 where
  same : NameAt → SpecD
  renamed : List ℕ → NameAt → SpecD

-- its tokens
abbrev pub spec_spelt : SpecD → Spell
spec_spelt (same n) = free_name n
spec_spelt (renamed k n) = key k ▸ mark AS ▸ free_name n

-- what it says
abbrev pub spec_raw : SpecD → RawImport
spec_raw (same n) = record { exported = n.name; local = n }
spec_raw (renamed k n) = record { exported = k; local = n }

-- Item = Import | [ "export" ] Decl | Top | Guard
pub data ItemD : Type 0 where
  import_text : List ℕ → ItemD
  import_names : Listed SpecD → List ℕ → ItemD
  exported : DeclD → ItemD
  declared : DeclD → ItemD
  top : TopD → ItemD
  guard : List TopD → ItemD

-- its tokens
abbrev pub guard_spelt : List TopD → Spell
guard_spelt ds =
    mark IF ▸ mark OPEN ▸ mark IMPORT ▸ mark DOT ▸ mark META ▸ mark DOT ▸ mark HOT ▸ mark CLOSE
    ▸ mark OPEN_BRACE ▸ many top_spelt ds ▸ mark CLOSE_BRACE

-- its tokens
abbrev pub item_spelt : ItemD → Spell
item_spelt (import_text s) = mark IMPORT ▸ text_token s ▸ end
item_spelt (import_names ns s) =
    mark IMPORT ▸ mark OPEN_BRACE ▸ listed spec_spelt ns ▸ mark CLOSE_BRACE ▸ mark FROM ▸ text_token s ▸ end
item_spelt (exported d) = mark EXPORT ▸ decl_spelt d
item_spelt (declared d) = decl_spelt d
item_spelt (top d) = top_spelt d
item_spelt (guard ds) = guard_spelt ds

-- a guard is forgotten: its statements stand in its place
abbrev pub item_raw : ItemD → List RawItem
item_raw (import_text s) = raw.import s [] ∷ []
item_raw (import_names ns s) = raw.import s (map spec_raw (items_of ns)) ∷ []
item_raw (exported d) = decl_raw true d ∷ []
item_raw (declared d) = decl_raw false d ∷ []
item_raw (top d) = top_raw d ∷ []
item_raw (guard ds) = map top_raw ds

-- how deep it is
abbrev pub item_depth : ItemD → ℕ
item_depth (import_text s) = 0
item_depth (import_names ns s) = 0
item_depth (exported d) = decl_depth d
item_depth (declared d) = decl_depth d
item_depth (top d) = top_depth d
item_depth (guard ds) = deepest top_depth ds

-- Module = { Item }
abbrev pub ModuleD : Type 0
ModuleD = List ItemD

-- its tokens
abbrev pub module_spelt : ModuleD → Spell
module_spelt ds = many item_spelt ds

-- what it says
abbrev pub module_raw : ModuleD → List RawItem
module_raw ds = flat (map item_raw ds)

-- how deep it is
abbrev pub module_depth : ModuleD → ℕ
module_depth ds = deepest item_depth ds
