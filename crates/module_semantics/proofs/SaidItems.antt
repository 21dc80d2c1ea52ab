-- What a derivation says, where it is spelled by tokens that can be written, can be written: callbacks, items and modules.
use Rattle.std.proofs.Common.{◌≡◌, ℕ, List, [], ◌∷◌, ◌++◌, Bool, true, false, Option, Some, None, refl}
use Rattle.std.specs.Option.{option_map}
use Rattle.std.specs.Str.{is_utf8}
use Rattle.module_semantics.specs.Kinds.{IMPORT, EXPORT, CONST, LET, IF, HOST, FROM, AS, META, HOT, ACCEPT, DISPOSE, PRUNE, DECLINE, ON, TEXT, OPEN_BRACE, CLOSE_BRACE, OPEN, CLOSE, OPEN_BRACKET, CLOSE_BRACKET, COMMA, DOT, EQUALS, ARROW, NameAt}
use Rattle.module_semantics.specs.Raw as raw
use Rattle.module_semantics.specs.Raw.{RawHandler, RawOnce, RawImport, RawItem}
use Rattle.module_semantics.specs.Reading.{one_or_none, all_of}
use Rattle.module_semantics.specs.Spelling as spell
use Rattle.module_semantics.specs.Spelling.{Spell, ◌>>◌, ◌▸◌, Listed, items_of}
use Rattle.module_semantics.specs.Grammar as grammar
use Rattle.module_semantics.specs.Grammar.{ActD, BodyD, ParamD, CallbackD, ListCallbackD, OwnD, AcceptD, HotCallD, TopD, DeclD, SpecD, ItemD, ModuleD, hot_spelt, expr_spelt, act_spelt, act_raw, throw_spelt, inval_spelt, stmts_spelt, body_spelt, body_raw, param_spelt, param_raw, callback_spelt, callback_raw, names_spelt, list_callback_spelt, list_callback_raw, own_spelt, own_raw, after_comma, accept_spelt, accept_raw, listened_spelt, hot_call_spelt, hot_call_raw, top_spelt, top_raw, decl_spelt, decl_raw, spec_spelt, spec_raw, item_spelt, item_raw, module_spelt, module_raw}
use Rattle.module_semantics.specs.NameRules.{outside}
use Rattle.module_semantics.specs.Resolving.{stmt_tree}
use Rattle.module_semantics.specs.Fitting.{is_name, at_most_one, at_top, fits_specs}
use Rattle.module_semantics.proofs.SaidExprs.{Keeps, GoodName, GoodExpr, bound, seen, past, last, name_keeps, key_keeps, text_keeps, event_keeps, hot_keeps, expr_keeps}
use Rattle.module_semantics.proofs.SaidStmts.{EachGood, IfGood, GoodStmt, GoodStmts, many_keeps, separated_keeps, listed_keeps, maybe_keeps, map_good, end_keeps, same_rest, act_keeps, throw_keeps, inval_keeps, stmts_keeps}

-- what a callback says can be written
abbrev pub GoodHandler : RawHandler → Type 0
GoodHandler h = EachGood GoodName h.params × GoodStmts h.body

-- the same of one with at most one parameter
abbrev pub GoodCallback : RawHandler → Type 0
GoodCallback h = GoodHandler h × (at_most_one h.params ≡ true)

abbrev pub GoodOnce : RawOnce → Type 0
GoodOnce (raw.code h) = GoodCallback h
GoodOnce (raw.host l) = is_utf8 l ≡ true

abbrev pub GoodImport : RawImport → Type 0
GoodImport i = (is_name i.exported ≡ true) × GoodName i.local

abbrev pub GoodText : List ℕ → Type 0
GoodText s = is_utf8 s ≡ true

abbrev pub GoodDeps : Bool → Option RawHandler → Type 0
GoodDeps list None = Unit {0}
GoodDeps true (Some h) = GoodHandler h
GoodDeps false (Some h) = GoodCallback h

-- what an item says can be written
abbrev pub GoodItem : RawItem → Type 0
GoodItem (raw.import s names) = GoodText s × EachGood GoodImport names
GoodItem (raw.declare exported mutable n e) = GoodName n × GoodExpr e
GoodItem (raw.act s) = GoodStmt s × (at_top (stmt_tree outside s) ≡ true)
GoodItem (raw.own o) = IfGood GoodOnce o
GoodItem (raw.deps list ss h) = EachGood GoodText ss × (fits_specs list ss ≡ true) × GoodDeps list h
GoodItem (raw.on n h) = GoodText n.name × GoodCallback h
GoodItem (raw.dispose o) = GoodOnce o
GoodItem (raw.prune o) = GoodOnce o
GoodItem raw.decline = Unit {0}

body_keeps : (d : BodyD) → Keeps (body_spelt d) (GoodStmts (body_raw d))
body_keeps (grammar.braces s) = past OPEN_BRACE _ (bound (stmts_spelt s) _ (stmts_keeps s) (λ x. last CLOSE_BRACE x))
body_keeps (grammar.only_act d) = seen (act_spelt d) (λ x. (x, tt)) (act_keeps d)
body_keeps (grammar.only_inval d) = seen (inval_spelt d) (λ x. (x, tt)) (inval_keeps d)

in_parens_good : (o : Option NameAt) → IfGood GoodName o → EachGood GoodName (one_or_none o) × (at_most_one (one_or_none o) ≡ true)
in_parens_good None x = (tt, refl)
in_parens_good (Some n) x = ((x, tt), refl)

param_keeps : (d : ParamD) → Keeps (param_spelt d) (EachGood GoodName (param_raw d) × (at_most_one (param_raw d) ≡ true))
param_keeps (grammar.in_parens n) = past OPEN _ (bound (spell.maybe spell.free_name n) _ (maybe_keeps spell.free_name GoodName name_keeps n) (λ x. last CLOSE (in_parens_good n x)))
param_keeps (grammar.bare n) = seen (spell.free_name n) (λ x. ((x, tt), refl)) (name_keeps n)

callback_keeps : (d : CallbackD) → Keeps (callback_spelt d) (GoodCallback (callback_raw d))
callback_keeps (grammar.callback p b) = bound (param_spelt p) _ (param_keeps p) (λ x. past ARROW _ (seen (body_spelt b) (λ y. ((x.0, y), x.1)) (body_keeps b)))

names_good : (o : Option (List NameAt)) → IfGood (EachGood GoodName) o → EachGood GoodName (all_of o)
names_good None x = tt
names_good (Some ns) x = x

names_keeps : (ns : List NameAt) → Keeps (names_spelt ns) (EachGood GoodName ns)
names_keeps ns = past OPEN_BRACKET _ (bound (spell.separated spell.free_name ns) _ (separated_keeps spell.free_name GoodName name_keeps ns) (λ x. last CLOSE_BRACKET x))

list_callback_keeps : (d : ListCallbackD) → Keeps (list_callback_spelt d) (GoodHandler (list_callback_raw d))
list_callback_keeps (grammar.list_callback ns b) = past OPEN _ (bound (spell.maybe names_spelt ns) _ (maybe_keeps names_spelt (EachGood GoodName) names_keeps ns) (λ x. past CLOSE _ (past ARROW _ (seen (body_spelt b) (λ y. (names_good ns x, y)) (body_keeps b)))))

own_keeps : (d : OwnD) → Keeps (own_spelt d) (GoodOnce (own_raw d))
own_keeps (grammar.OwnD.code c) = callback_keeps c
own_keeps (grammar.OwnD.host l) = past HOST _ (past OPEN _ (bound (spell.text_token l) _ (text_keeps l) (λ x. last CLOSE x)))

dep_good : (o : Option CallbackD) → IfGood (λ d. GoodCallback (callback_raw d)) o → GoodDeps false (option_map callback_raw o)
dep_good None x = tt
dep_good (Some d) x = x

deps_good : (o : Option ListCallbackD) → IfGood (λ d. GoodHandler (list_callback_raw d)) o → GoodDeps true (option_map list_callback_raw o)
deps_good None x = tt
deps_good (Some d) x = x

accept_keeps : (d : AcceptD) → Keeps (accept_spelt d) (GoodItem (accept_raw d))
accept_keeps grammar.accept_all = same_rest tt
accept_keeps (grammar.own o) = own_keeps o
accept_keeps (grammar.dep s c) = bound (spell.text_token s) _ (text_keeps s) (λ x. seen (spell.maybe (after_comma callback_spelt) c) (λ y. ((x, tt), refl, dep_good c y)) (maybe_keeps (after_comma callback_spelt) (λ d. GoodCallback (callback_raw d)) (λ d. past COMMA (callback_spelt d) (callback_keeps d)) c))
accept_keeps (grammar.deps ss c) = past OPEN_BRACKET _ (bound (spell.listed spell.text_token ss) _ (listed_keeps spell.text_token GoodText text_keeps ss) (λ x. past CLOSE_BRACKET _ (seen (spell.maybe (after_comma list_callback_spelt) c) (λ y. (x, refl, deps_good c y)) (maybe_keeps (after_comma list_callback_spelt) (λ d. GoodHandler (list_callback_raw d)) (λ d. past COMMA (list_callback_spelt d) (list_callback_keeps d)) c))))

listened_keeps : (n : NameAt) (c : CallbackD) → Keeps (listened_spelt n c) (GoodItem (raw.on n (callback_raw c)))
listened_keeps n c = bound (spell.name_of (TEXT ∷ []) n) _ (event_keeps n) (λ x. past COMMA _ (seen (callback_spelt c) (λ y. (x, y)) (callback_keeps c)))

hot_call_keeps : (d : HotCallD) → Keeps (hot_call_spelt d) (GoodItem (hot_call_raw d))
hot_call_keeps (grammar.HotCallD.accept a) = past ACCEPT _ (past OPEN _ (bound (accept_spelt a) _ (accept_keeps a) (λ x. last CLOSE x)))
hot_call_keeps (grammar.HotCallD.dispose o) = past DISPOSE _ (past OPEN _ (bound (own_spelt o) _ (own_keeps o) (λ x. last CLOSE x)))
hot_call_keeps (grammar.HotCallD.prune o) = past PRUNE _ (past OPEN _ (bound (own_spelt o) _ (own_keeps o) (λ x. last CLOSE x)))
hot_call_keeps (grammar.HotCallD.on n c) = past ON _ (past OPEN _ (bound (listened_spelt n c) _ (listened_keeps n c) (λ x. last CLOSE x)))
hot_call_keeps grammar.HotCallD.decline = past DECLINE _ (past OPEN _ (last CLOSE tt))

act_top : (d : ActD) → at_top (stmt_tree outside (act_raw d)) ≡ true
act_top (grammar.log es) = refl
act_top (grammar.assign n e) = refl
act_top (grammar.set n k e) = refl
act_top (grammar.set_bag k e) = refl

top_keeps : (d : TopD) → Keeps (top_spelt d) (GoodItem (top_raw d))
top_keeps (grammar.TopD.act d) = bound (act_spelt d) spell.end (act_keeps d) (λ x. end_keeps (x, act_top d))
top_keeps (grammar.TopD.throw d) = bound (throw_spelt d) spell.end (throw_keeps d) (λ x. end_keeps (x, refl))
top_keeps (grammar.TopD.call d) = past IMPORT _ (bound (hot_spelt (hot_call_spelt d)) spell.end (hot_keeps (hot_call_spelt d) (hot_call_keeps d)) (λ x. end_keeps x))

decl_keeps : (exported : Bool) (d : DeclD) → Keeps (decl_spelt d) (GoodItem (decl_raw exported d))
decl_keeps exported (grammar.constant n e) = past CONST _ (bound (spell.free_name n) _ (name_keeps n) (λ x. past EQUALS _ (bound (expr_spelt e) spell.end (expr_keeps e) (λ y. end_keeps (x, y)))))
decl_keeps exported (grammar.variable n e) = past LET _ (bound (spell.free_name n) _ (name_keeps n) (λ x. past EQUALS _ (bound (expr_spelt e) spell.end (expr_keeps e) (λ y. end_keeps (x, y)))))

spec_keeps : (d : SpecD) → Keeps (spec_spelt d) (GoodImport (spec_raw d))
spec_keeps (grammar.same n) = seen (spell.free_name n) (λ x. (x.1, x)) (name_keeps n)
spec_keeps (grammar.renamed k n) = bound (spell.key k) _ (key_keeps k) (λ x. past AS _ (seen (spell.free_name n) (λ y. (x, y)) (name_keeps n)))

pub item_keeps : (d : ItemD) → Keeps (item_spelt d) (EachGood GoodItem (item_raw d))
item_keeps (grammar.import_text s) = past IMPORT _ (bound (spell.text_token s) spell.end (text_keeps s) (λ x. end_keeps ((x, tt), tt)))
item_keeps (grammar.import_names ns s) = past IMPORT _ (past OPEN_BRACE _ (bound (spell.listed spec_spelt ns) _ (listed_keeps spec_spelt (λ d. GoodImport (spec_raw d)) spec_keeps ns) (λ x. past CLOSE_BRACE _ (past FROM _ (bound (spell.text_token s) spell.end (text_keeps s) (λ y. end_keeps ((y, map_good spec_raw GoodImport (items_of ns) x), tt)))))))
item_keeps (grammar.exported d) = past EXPORT _ (seen (decl_spelt d) (λ x. (x, tt)) (decl_keeps true d))
item_keeps (grammar.declared d) = seen (decl_spelt d) (λ x. (x, tt)) (decl_keeps false d)
item_keeps (grammar.ItemD.top d) = seen (top_spelt d) (λ x. (x, tt)) (top_keeps d)
item_keeps (grammar.guard ds) = past IF _ (past OPEN _ (past IMPORT _ (past DOT _ (past META _ (past DOT _ (past HOT _ (past CLOSE _ (past OPEN_BRACE _ (bound (spell.many top_spelt ds) _ (many_keeps top_spelt (λ d. GoodItem (top_raw d)) top_keeps ds) (λ x. last CLOSE_BRACE (map_good top_raw GoodItem ds x)))))))))))

both_good : {D : Type 0} (G : D → Type 0) (xs ys : List D) → EachGood G xs → EachGood G ys → EachGood G (xs ++ ys)
both_good G [] ys x y = y
both_good G (d ∷ xs) ys x y = (x.0, both_good G xs ys x.1 y)

all_good : (ds : ModuleD) → EachGood (λ d. EachGood GoodItem (item_raw d)) ds → EachGood GoodItem (module_raw ds)
all_good [] x = tt
all_good (d ∷ ds) x = both_good GoodItem (item_raw d) (module_raw ds) x.0 (all_good ds x.1)

pub module_keeps : (ds : ModuleD) → Keeps (module_spelt ds) (EachGood GoodItem (module_raw ds))
module_keeps ds = seen (module_spelt ds) (all_good ds) (many_keeps item_spelt (λ d. EachGood GoodItem (item_raw d)) item_keeps ds)
