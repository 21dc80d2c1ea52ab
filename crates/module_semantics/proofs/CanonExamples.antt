-- Worked examples of canonical texts.
use Rattle.std.specs.Prelude.{◌≡◌, [], ◌∷◌, true, false, Some, None, codes}
use Rattle.std.proofs.Common.{refl}
use Rattle.std.specs.Fmt.{digits}
use Rattle.hmr_types.specs.ModName.{is_segment_byte}
use Rattle.module_tree.specs.Syntax.{HandlerTree, ExprTree, num, text, undefined, name, bag, member, neg, binary, choose, param, value, no_stmts, one_stmt, log, assign, bag_set, throw, invalidate, branch, code, host, import, declare, act, own, deps, dispose, prune, decline}
use Rattle.module_tree.specs.declared.tree.Op.TheVariants as ops
use Rattle.module_semantics.specs.Canon.{expr_text, canon}

abbrev a : ExprTree
a = name (codes "a")

abbrev b : ExprTree
b = name (codes "b")

abbrev c : ExprTree
c = name (codes "c")

pub the_canonical_example : canon
    (import (codes "./x.js") (record { exported = codes "b"; local = codes "c" } ∷ record { exported = codes "a"; local = codes "a" } ∷ [])
    ∷ declare true true (codes "n") (binary ops.Add (num 1) (binary ops.Mul (num 2) (name (codes "c"))))
    ∷ deps false (codes "./x.js" ∷ []) (Some (record { params = codes "m" ∷ []; body = one_stmt (assign (codes "n") (member 0 true (codes "b"))) no_stmts }))
    ∷ [])
    ≡ codes "import { b as c, a } from \"./x.js\";\nexport let n = 1 + 2 * c;\nimport.meta.hot.accept(\"./x.js\", (m) => {\n  n = m?.b;\n});\n"
unfolding digits
the_canonical_example = refl

pub operators_group_to_the_left : expr_text [] (binary ops.Sub (binary ops.Sub a b) c) ≡ codes "a - b - c"
operators_group_to_the_left = refl

pub a_right_group_has_parentheses : expr_text [] (binary ops.Sub a (binary ops.Add b c)) ≡ codes "a - (b + c)"
a_right_group_has_parentheses = refl

pub a_lower_operand_has_parentheses : expr_text [] (binary ops.Mul (binary ops.Add a b) (neg c)) ≡ codes "(a + b) * -c"
a_lower_operand_has_parentheses = refl

pub a_minus_of_a_minus_has_parentheses : expr_text [] (neg (neg a)) ≡ codes "-(-a)"
a_minus_of_a_minus_has_parentheses = refl

pub a_choice_in_a_condition_has_parentheses : expr_text [] (choose (choose a b c) (choose a b c) (choose a b c)) ≡ codes "(a ? b : c) ? a ? b : c : a ? b : c"
a_choice_in_a_condition_has_parentheses = refl

pub texts_have_double_quotes : expr_text [] (text (codes "it's \"\\\n")) ≡ codes "\"it's \\\"\\\\\\n\""
texts_have_double_quotes = refl

pub blocks_are_indented : canon (own (Some (code (record { params = codes "m" ∷ []; body = one_stmt (branch (param 0) (one_stmt (invalidate None) no_stmts) (one_stmt (branch (value a) no_stmts no_stmts) no_stmts)) no_stmts }))) ∷ [])
    ≡ codes "import.meta.hot.accept((m) => {\n  if (m) {\n    import.meta.hot.invalidate();\n  } else {\n    if (a) {\n    }\n  }\n});\n"
blocks_are_indented = refl

pub lists_without_a_callback : canon (deps true [] None ∷ deps true (codes "./s.js" ∷ []) None ∷ deps true [] (Some (record { params = []; body = no_stmts })) ∷ [])
    ≡ codes "import.meta.hot.accept([]);\nimport.meta.hot.accept([\"./s.js\"]);\nimport.meta.hot.accept([], () => {\n});\n"
lists_without_a_callback = refl

pub every_other_form : canon (import (codes "./s.js") [] ∷ act (throw (text (codes "x"))) ∷ act (bag_set (codes "k") (bag (codes "j"))) ∷ act (log (num 10 ∷ undefined ∷ [])) ∷ own None ∷ dispose (host (codes "L")) ∷ prune (code (record { params = []; body = no_stmts })) ∷ decline ∷ [])
    ≡ codes "import \"./s.js\";\nthrow new Error(\"x\");\nimport.meta.hot.data.k = import.meta.hot.data.j;\nconsole.log(10, undefined);\nimport.meta.hot.accept();\nimport.meta.hot.dispose(host(\"L\"));\nimport.meta.hot.prune(() => {\n});\nimport.meta.hot.decline();\n"
unfolding digits
every_other_form = refl

abbrev nothing : HandlerTree
nothing = record { params = []; body = no_stmts }

pub an_event_has_its_own_call : canon (deps false (codes "/event/my/ping" ∷ []) (Some nothing) ∷ []) ≡ codes "import.meta.hot.on(\"my:ping\", () => {\n});\n"
unfolding is_segment_byte
an_event_has_its_own_call = refl

pub other_dependencies_are_accepted : canon (deps false (codes "/event/my:ping" ∷ []) (Some nothing) ∷ deps false (codes "/event/a/" ∷ []) (Some nothing) ∷ deps true (codes "/event/a" ∷ []) (Some nothing) ∷ deps false (codes "/event/a" ∷ []) None ∷ [])
    ≡ codes "import.meta.hot.accept(\"/event/my:ping\", () => {\n});\nimport.meta.hot.accept(\"/event/a/\", () => {\n});\nimport.meta.hot.accept([\"/event/a\"], () => {\n});\nimport.meta.hot.accept(\"/event/a\");\n"
unfolding is_segment_byte
other_dependencies_are_accepted = refl
