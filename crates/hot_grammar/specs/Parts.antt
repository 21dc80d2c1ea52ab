-- Parts of the grammar that the code reads by functions of their own.
use Rattle.std.specs.Prelude.{ℕ, List, [], ◌∷◌, true, false, Some, None}
use Rattle.module_semantics.specs.Kinds.{DOT, META, HOT, DATA, EQUALS, TEXT, OPEN, CLOSE, OPEN_BRACKET}
use Rattle.module_semantics.specs.Kinds.{CLOSE_BRACKET, LOG, THROW, IMPORT, free_names, NameAt}
use Rattle.module_semantics.specs.Raw.{RawExpr, RawStmt, RawStmts, throw, RawOnce, RawItem, code, act, deps}
use Rattle.module_semantics.specs.Readers.{◌&◌, ◌▷◌, ◌◁◌}
use Rattle.module_semantics.specs.Readers.{Reader, mark, given, choice, end, mapped, listed, separated}
use Rattle.module_semantics.specs.Reading.{Inner, after_comma, all_of, alone, bag_act, body}
use Rattle.module_semantics.specs.Reading.{but_host, callback, callback_by, else_part, expr_firsts}
use Rattle.module_semantics.specs.Reading.{free_name, hot_call, import_stmt, key, list_callback}
use Rattle.module_semantics.specs.Reading.{name_act, text_token, thrown}

-- what follows `import` in `import.meta.hot.`
abbrev pub hot_front : Reader (Unit {0})
hot_front = mark DOT ▷ mark META ▷ mark DOT ▷ mark HOT ▷ mark DOT

-- a dot, a key, and a value for it
abbrev pub keyed : Reader RawExpr → Reader (List ℕ × RawExpr)
keyed e = mark DOT ▷ key & mark EQUALS ▷ e

-- after `console`: the values of a line
abbrev pub logged : Reader RawExpr → Reader (List RawExpr)
logged e = mark DOT ▷ mark LOG ▷ mark OPEN ▷ separated expr_firsts e ◁ mark CLOSE

-- a name that is declared, and its value
abbrev pub named_value : Reader RawExpr → Reader (NameAt × RawExpr)
named_value e = free_name & mark EQUALS ▷ e ◁ end

-- the two ways that follow the condition of an `if`
abbrev pub branches : Inner → Reader (RawStmts × RawStmts)
branches i = i.block & else_part i

-- a statement of a callback that is no `if`
abbrev pub ended_act : Reader RawExpr → Reader RawStmt
ended_act e =
    choice (THROW ∷ []) (mapped throw (thrown e) ◁ end)
    (choice (IMPORT ∷ []) (import_stmt e ◁ end) (name_act e ◁ end))

-- a callback of the module itself, whose parameter isn't `host` alone
abbrev pub own_code : Reader RawStmts → Reader RawOnce
own_code b = mapped code (callback_by but_host b)

-- the parameters of a callback of a list
abbrev pub list_params : Reader (List NameAt)
list_params =
    mark OPEN
    ▷ mapped all_of
    (choice (OPEN_BRACKET ∷ [])
    (mapped Some (mark OPEN_BRACKET ▷ separated free_names free_name ◁ mark CLOSE_BRACKET)) (given None))
    ◁ mark CLOSE

-- what `accept` takes of one dependency
abbrev pub one_dep : Reader RawStmts → Reader RawItem
one_dep b = mapped (λ v. deps false (alone v.0) v.1) (text_token & after_comma (callback b))

-- what `accept` takes of a list of dependencies
abbrev pub list_deps : Reader RawStmts → Reader RawItem
list_deps b =
    mapped (λ v. deps true v.0 v.1)
    ((mark OPEN_BRACKET ▷ listed (TEXT ∷ []) text_token ◁ mark CLOSE_BRACKET)
    & after_comma (list_callback b))

-- what follows `import.meta.hot.` at the top
abbrev pub told_hot : Inner → Reader RawItem
told_hot i = choice (DATA ∷ []) (mapped act (bag_act i.expr)) (hot_call (body i))
