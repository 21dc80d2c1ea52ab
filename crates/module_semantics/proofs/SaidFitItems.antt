-- What can be written and breaks no rule on names fits: callbacks, items and whole modules.
use Rattle.std.proofs.Common.{◌≡◌, ℕ, List, [], ◌∷◌, map, Bool, true, false, not, cond, Option, Some, None, refl, sym, ap, ◌∙◌, subst, codes}
use Rattle.std.specs.List.{list_all}
use Rattle.std.proofs.lemmas.Str.{is_utf8-from_IsUtf8}
use Rattle.hmr_types.specs.Event.{event_module, event_of, is_event}
use Rattle.hmr_types.proofs.Events.{event_of-event_module, event_of-is, is_event-IsUtf8}
use Rattle.std.specs.Option.{option_map}
use Rattle.std.specs.Str.{bytes_eq}
use Rattle.std.proofs.lemmas.List.{map-append}
use Rattle.module_tree.specs.Syntax as tree
use Rattle.module_tree.specs.Syntax.{HandlerTree, OnceTree, ItemTree, ModuleTree}
use Rattle.module_tree.specs.declared.tree.ImportName.{ImportName}
use Rattle.hmr_types.specs.declared.analysis.FaultWord.TheVariants.{DuplicateName, Unexpected}
use Rattle.module_semantics.specs.Token as token
use Rattle.module_semantics.specs.Token.{Token}
use Rattle.module_semantics.specs.Bytes.{is_name_start, is_name_byte, is_digit}
use Rattle.module_semantics.specs.Pieces.{all}
use Rattle.module_semantics.specs.Kinds.{NameAt}
use Rattle.module_semantics.specs.Raw as raw
use Rattle.module_semantics.specs.Raw.{RawHandler, RawOnce, RawImport, RawItem}
use Rattle.module_semantics.specs.Reading.{flat}
use Rattle.module_semantics.specs.NameRules.{Broken, outside, in_once, in_accept, has_name, broken_if, repeated, names_of, stmts_broken, handler_broken, once_broken, event_rule, item_broken, bound_by, lets_by, lets_of, all_broken, least, first_broken}
use Rattle.module_semantics.specs.Resolving.{handler_tree, once_handler_tree, accept_tree, once_tree, import_name, item_tree, module_tree}
use Rattle.module_semantics.specs.Canon.{heard, deps_word}
use Rattle.module_semantics.specs.CanonTokens.{hot_tokens, stmts_tokens, fits_name}
use Rattle.module_semantics.specs.CanonItems.{after_commas, between_commas, name_tokens, text_tokens, callback_tokens, handler_tokens, list_params_tokens, list_handler_tokens, once_tokens, import_name_tokens, import_tokens, export_tokens, declare_token, call_tokens, own_tokens, specs_tokens, heard_tokens, deps_tokens, deps_handler_tokens, item_tokens, canon_tokens}
use Rattle.module_semantics.specs.Fitting.{is_name, writable, distinct, at_most_one, fits_handler, fits_one_handler, fits_once_handler, fits_own, fits_once, fits_accept, fits_deps, fits_import, fits_item, bound_names, let_names, module_lets}
use Rattle.module_semantics.proofs.LexedPieces.{and_yes, not_yes}
use Rattle.module_semantics.proofs.CanonParts.{unbroken}
use Rattle.module_semantics.proofs.CanonTops.{two_lists}
use Rattle.module_semantics.proofs.LaidExprs.{Writable}
use Rattle.module_semantics.proofs.SaidExprs.{GoodName}
use Rattle.module_semantics.proofs.SaidStmts.{EachGood, IfGood}
use Rattle.module_semantics.proofs.SaidItems.{GoodHandler, GoodCallback, GoodOnce, GoodImport, GoodText, GoodDeps, GoodItem}
use Rattle.module_semantics.proofs.SaidFits.{nothing_written, then_written, both_written, fixed_written, no_first, expr_fits}
use Rattle.module_semantics.proofs.SaidFitStmts.{end_call_written, stmts_fit, one_fits}

-- lists with commas
after_written : {A : Type 0} (f : A → List Token) (G : A → Type 0) → ((x : A) → G x → Writable (f x)) → (xs : List A) → EachGood G xs → Writable (after_commas f xs)
after_written f G each [] good = nothing_written
after_written f G each (x ∷ xs) good = then_written (token.punct 6) _ refl (both_written (f x) _ (each x good.0) (after_written f G each xs good.1))

between_written : {A : Type 0} (f : A → List Token) (G : A → Type 0) → ((x : A) → G x → Writable (f x)) → (xs : List A) → EachGood G xs → Writable (between_commas f xs)
between_written f G each [] good = nothing_written
between_written f G each (x ∷ xs) good = both_written (f x) _ (each x good.0) (after_written f G each xs good.1)

-- a name as it stands in the tree
abbrev PlainName : List ℕ → Type 0
PlainName n = (fits_name n ≡ true) × (is_name n ≡ true)

plain_names : (ns : List NameAt) → EachGood GoodName ns → EachGood PlainName (names_of ns)
plain_names [] good = tt
plain_names (n ∷ ns) good = (good.0, plain_names ns good.1)

all_free : (ns : List (List ℕ)) → EachGood PlainName ns → list_all fits_name ns ≡ true
all_free [] good = refl
all_free (n ∷ ns) good = and_yes _ _ good.0.0 (all_free ns good.1)

names_written : (ns : List (List ℕ)) → EachGood PlainName ns → Writable (between_commas name_tokens ns)
names_written = between_written name_tokens PlainName (λ n good. then_written (token.name n) [] good.1 nothing_written)

texts_written : (ss : List (List ℕ)) → EachGood GoodText ss → Writable (between_commas text_tokens ss)
texts_written = between_written text_tokens GoodText (λ s good. then_written (token.text s) [] good nothing_written)

all_distinct : (before : List (List ℕ)) (ns : List NameAt) → repeated before ns ≡ [] → distinct before (names_of ns) ≡ true
unfolding repeated
all_distinct before [] h = refl
all_distinct before (n ∷ ns) h =
    let t = no_first (broken_if (has_name n.name before) DuplicateName n.at) (repeated (n.name ∷ before) ns) h in
    and_yes _ _ (not_yes _ (unbroken (has_name n.name before) DuplicateName n.at t.0)) (all_distinct (n.name ∷ before) ns t.1)

few_names : (ns : List NameAt) → at_most_one ns ≡ true → at_most_one (names_of ns) ≡ true
few_names [] h = refl
few_names (n ∷ []) h = refl
few_names (n ∷ (m ∷ ns)) h = absurd cc

body_written : (params : List Token) (h : HandlerTree) → Writable params → Writable (stmts_tokens h.params h.body) → Writable (callback_tokens params h)
body_written params h v w = both_written params _ v (then_written (token.punct 15) _ refl (then_written (token.punct 0) _ refl (both_written _ _ w (then_written (token.punct 1) [] refl nothing_written))))

close_written : Writable (token.punct 3 ∷ [])
close_written = then_written (token.punct 3) [] refl nothing_written

handler_written : (h : HandlerTree) → EachGood PlainName h.params → Writable (stmts_tokens h.params h.body) → Writable (handler_tokens h)
handler_written h names w = body_written _ h (then_written (token.punct 2) _ refl (both_written _ _ (names_written h.params names) close_written)) w

list_params_written : (ns : List (List ℕ)) → EachGood PlainName ns → Writable (list_params_tokens ns)
list_params_written [] names = then_written (token.punct 2) _ refl close_written
list_params_written (n ∷ ns) names = then_written (token.punct 2) _ refl (then_written (token.punct 4) _ refl (both_written _ _ (names_written (n ∷ ns) names) (then_written (token.punct 5) _ refl close_written)))

-- an accept callback
record FitsHandler (lets : List (List ℕ)) (h : HandlerTree) : Type 0 where
  fits : fits_handler lets h ≡ true
  written : Writable (handler_tokens h)
  listed : Writable (list_handler_tokens h)

handler_fits : (lets : List (List ℕ)) (h : RawHandler) → GoodHandler h → handler_broken lets in_accept h ≡ [] → FitsHandler lets (handler_tree h)
handler_fits lets h good b =
    let t = no_first (repeated [] h.params) (stmts_broken lets (in_accept (names_of h.params)) h.body) b in
    let names = plain_names h.params good.0 in
    let x = stmts_fit lets (in_accept (names_of h.params)) h.body good.1 t.1 in
    record {
      fits = and_yes _ _ (and_yes _ _ (all_free (names_of h.params) names) (all_distinct [] h.params t.0)) x.fits;
      written = handler_written (handler_tree h) names x.written;
      listed = body_written _ (handler_tree h) (list_params_written (names_of h.params) names) x.written;
    }

one_handler_fits : (lets : List (List ℕ)) (h : RawHandler) → GoodCallback h → handler_broken lets in_accept h ≡ [] → fits_one_handler lets (handler_tree h) ≡ true
one_handler_fits lets h good b = and_yes _ _ (few_names h.params good.1) (handler_fits lets h good.0 b).fits

once_handler_fits : (lets : List (List ℕ)) (h : RawHandler) → GoodHandler h → handler_broken lets in_once h ≡ [] → (fits_once_handler lets (once_handler_tree h) ≡ true) × Writable (handler_tokens (once_handler_tree h))
once_handler_fits lets h good b =
    let t = no_first (repeated [] h.params) (stmts_broken lets (in_once (names_of h.params)) h.body) b in
    let x = stmts_fit lets (in_once (names_of h.params)) h.body good.1 t.1 in
    (x.fits, handler_written (once_handler_tree h) tt x.written)

host_written : (l : List ℕ) → GoodText l → Writable (once_tokens (tree.host l))
unfolding is_name_start is_name_byte is_digit all
host_written l good = fixed_written (token.name (codes "host") ∷ (token.punct 2 ∷ [])) _ refl (then_written (token.text l) _ good close_written)

own_fits : (lets : List (List ℕ)) (o : RawOnce) → GoodOnce o → once_broken lets in_accept o ≡ [] → (fits_own lets (accept_tree o) ≡ true) × Writable (once_tokens (accept_tree o))
own_fits lets (raw.code h) good b = (one_handler_fits lets h good b, (handler_fits lets h good.0 b).written)
own_fits lets (raw.host l) good b = (refl, host_written l good)

once_fits : (lets : List (List ℕ)) (o : RawOnce) → GoodOnce o → once_broken lets in_once o ≡ [] → (fits_once lets (once_tree o) ≡ true) × Writable (once_tokens (once_tree o))
once_fits lets (raw.code h) good b = once_handler_fits lets h good.0 b
once_fits lets (raw.host l) good b = (refl, host_written l good)

accept_fits : (lets : List (List ℕ)) (o : Option RawOnce) → IfGood GoodOnce o → item_broken lets (raw.own o) ≡ [] → (fits_accept lets (option_map accept_tree o) ≡ true) × Writable (own_tokens (option_map accept_tree o))
accept_fits lets None good b = (refl, nothing_written)
accept_fits lets (Some o) good b = own_fits lets o good b

deps_fit : (lets : List (List ℕ)) (list : Bool) (ss : List (List ℕ)) (o : Option RawHandler) → GoodDeps list o → item_broken lets (raw.deps list ss o) ≡ [] → (fits_deps lets list (option_map handler_tree o) ≡ true) × Writable (deps_handler_tokens list (option_map handler_tree o))
deps_fit lets list ss None good b = (refl, nothing_written)
deps_fit lets true ss (Some h) good b = let x = handler_fits lets h good b in (x.fits, then_written (token.punct 6) _ refl x.listed)
deps_fit lets false ss (Some h) good b = (one_handler_fits lets h good b, then_written (token.punct 6) _ refl (handler_fits lets h good.0 b).written)

specs_written : (list : Bool) (ss : List (List ℕ)) → EachGood GoodText ss → Writable (specs_tokens list ss)
specs_written true ss good = then_written (token.punct 4) _ refl (both_written _ _ (texts_written ss good) (then_written (token.punct 5) [] refl nothing_written))
specs_written false ss good = texts_written ss good

accept_written : (ts : List Token) → Writable ts → Writable (call_tokens (codes "accept") ts)
unfolding is_name_start is_name_byte is_digit all
accept_written ts w = fixed_written (token.name (codes "import") ∷ hot_tokens (token.name (codes "accept") ∷ (token.punct 2 ∷ []))) _ refl (both_written ts _ w end_call_written)

on_written : (ts : List Token) → Writable ts → Writable (call_tokens (codes "on") ts)
unfolding is_name_start is_name_byte is_digit all
on_written ts w = fixed_written (token.name (codes "import") ∷ hot_tokens (token.name (codes "on") ∷ (token.punct 2 ∷ []))) _ refl (both_written ts _ w end_call_written)

deps_word_written : (event : Option (List ℕ)) (ts : List Token) → Writable ts → Writable (call_tokens (deps_word event) ts)
deps_word_written None ts w = accept_written ts w
deps_word_written (Some event) ts w = on_written ts w

event_good : (s : List ℕ) (o : Option (List ℕ)) → event_of s ≡ o → IfGood GoodText o
event_good s None is = tt
event_good s (Some event) is = is_utf8-from_IsUtf8 event (is_event-IsUtf8 event (event_of-is s event is).1)

heard_good : (list : Bool) (ss : List (List ℕ)) (h : Option HandlerTree) → IfGood GoodText (heard list ss h)
heard_good true ss h = tt
heard_good false [] h = tt
heard_good false (s ∷ []) None = tt
heard_good false (s ∷ []) (Some h) = event_good s (event_of s) refl
heard_good false (s ∷ (t ∷ ss)) h = tt

heard_written : (event : Option (List ℕ)) (list : Bool) (ss : List (List ℕ)) → IfGood GoodText event → EachGood GoodText ss → Writable (heard_tokens event list ss)
heard_written None list ss event good = specs_written list ss good
heard_written (Some e) list ss event good = then_written (token.text e) [] event nothing_written

deps_written : (list : Bool) (ss : List (List ℕ)) (h : Option HandlerTree) → EachGood GoodText ss → Writable (deps_handler_tokens list h) → Writable (item_tokens (tree.deps list ss h))
deps_written list ss h good w = deps_word_written (heard list ss h) _ (both_written _ _ (heard_written (heard list ss h) list ss (heard_good list ss h) good) w)

listener_written : (event : List ℕ) (h : HandlerTree) → is_event event ≡ true → GoodText event → Writable (handler_tokens h) → Writable (item_tokens (tree.deps false (event_module event ∷ []) (Some h)))
listener_written event h named good w =
    subst (λ o. Writable (deps_tokens o false (event_module event ∷ []) (Some h))) (sym (event_of-event_module event named))
    (on_written _ (both_written _ _ (then_written (token.text event) [] good nothing_written) (then_written (token.punct 6) _ refl w)))

yes_of : (b : Bool) → not b ≡ false → b ≡ true
yes_of true h = refl
yes_of false h = absurd cc

dispose_written : (ts : List Token) → Writable ts → Writable (call_tokens (codes "dispose") ts)
unfolding is_name_start is_name_byte is_digit all
dispose_written ts w = fixed_written (token.name (codes "import") ∷ hot_tokens (token.name (codes "dispose") ∷ (token.punct 2 ∷ []))) _ refl (both_written ts _ w end_call_written)

prune_written : (ts : List Token) → Writable ts → Writable (call_tokens (codes "prune") ts)
unfolding is_name_start is_name_byte is_digit all
prune_written ts w = fixed_written (token.name (codes "import") ∷ hot_tokens (token.name (codes "prune") ∷ (token.punct 2 ∷ []))) _ refl (both_written ts _ w end_call_written)

decline_written : Writable (call_tokens (codes "decline") [])
unfolding is_name_start is_name_byte is_digit all
decline_written = record { each = refl }

import_word_written : (ts : List Token) → Writable ts → Writable (token.name (codes "import") ∷ ts)
unfolding is_name_start is_name_byte is_digit all
import_word_written ts w = fixed_written (token.name (codes "import") ∷ []) ts refl w

from_written : (ts : List Token) → Writable ts → Writable (token.punct 1 ∷ (token.name (codes "from") ∷ ts))
unfolding is_name_start is_name_byte is_digit all
from_written ts w = fixed_written (token.punct 1 ∷ (token.name (codes "from") ∷ [])) ts refl w

as_written : (ts : List Token) → Writable ts → Writable (token.name (codes "as") ∷ ts)
unfolding is_name_start is_name_byte is_digit all
as_written ts w = fixed_written (token.name (codes "as") ∷ []) ts refl w

export_written : (exported : Bool) → Writable (export_tokens exported)
unfolding is_name_start is_name_byte is_digit all
export_written true = record { each = refl }
export_written false = nothing_written

declare_written : (mutable : Bool) → writable (declare_token mutable) ≡ true
unfolding is_name_start is_name_byte is_digit all
declare_written true = refl
declare_written false = refl

import_case : (i : ImportName) (b : Bool) → is_name i.exported ≡ true → is_name i.local ≡ true → Writable (cond b (token.name i.local ∷ []) (token.name i.exported ∷ (token.name (codes "as") ∷ (token.name i.local ∷ []))))
import_case i true h k = then_written (token.name i.local) [] k nothing_written
import_case i false h k = then_written (token.name i.exported) _ h (as_written _ (then_written (token.name i.local) [] k nothing_written))

abbrev PlainImport : ImportName → Type 0
PlainImport i = (is_name i.exported ≡ true) × (fits_name i.local ≡ true) × (is_name i.local ≡ true)

plain_imports : (is : List RawImport) → EachGood GoodImport is → EachGood PlainImport (map import_name is)
plain_imports [] good = tt
plain_imports (i ∷ is) good = ((good.0.0, good.0.1.0, good.0.1.1), plain_imports is good.1)

all_imports : (is : List ImportName) → EachGood PlainImport is → list_all fits_import is ≡ true
all_imports [] good = refl
all_imports (i ∷ is) good = and_yes _ _ good.0.1 (all_imports is good.1)

import_written : (s : List ℕ) (is : List ImportName) → GoodText s → EachGood PlainImport is → Writable (import_tokens s is)
import_written s [] text good = import_word_written _ (then_written (token.text s) _ text (then_written (token.punct 7) [] refl nothing_written))
import_written s (i ∷ is) text good =
    import_word_written _
    (then_written (token.punct 0) _ refl
    (both_written _ _ (between_written import_name_tokens PlainImport (λ j plain. import_case j (bytes_eq j.exported j.local) plain.0 plain.2) (i ∷ is) good)
    (from_written _ (then_written (token.text s) _ text (then_written (token.punct 7) [] refl nothing_written)))))

-- an item
record FitsItem (lets : List (List ℕ)) (i : ItemTree) : Type 0 where
  fits : fits_item lets i ≡ true
  written : Writable (item_tokens i)

item_fits : (lets : List (List ℕ)) (x : RawItem) → GoodItem x → item_broken lets x ≡ [] → FitsItem lets (item_tree x)
item_fits lets (raw.import s names) good b = let plain = plain_imports names good.1 in record { fits = all_imports (map import_name names) plain; written = import_written s (map import_name names) good.0 plain }
item_fits lets (raw.declare exported mutable n e) good b =
    let x = expr_fits outside e good.1 b in
    record {
      fits = and_yes _ _ good.0.0 x.fits;
      written = both_written _ _ (export_written exported) (then_written (declare_token mutable) _ (declare_written mutable) (then_written (token.name n.name) _ good.0.1 (then_written (token.punct 9) _ refl (both_written _ _ x.written (then_written (token.punct 7) [] refl nothing_written)))));
    }
item_fits lets (raw.act s) good b = let x = one_fits lets s good.0 b in record { fits = and_yes _ _ good.1 x.0; written = x.1 }
item_fits lets (raw.own o) good b = let x = accept_fits lets o good b in record { fits = x.0; written = accept_written _ x.1 }
item_fits lets (raw.deps list ss h) good b = let x = deps_fit lets list ss h good.2 b in record { fits = and_yes _ _ good.1 x.0; written = deps_written list ss _ good.0 x.1 }
item_fits lets (raw.on n h) good b =
    let t = no_first (handler_broken lets in_accept h) (event_rule n) b in
    let named = yes_of (is_event n.name) (unbroken (not (is_event n.name)) Unexpected n.at t.1) in
    record { fits = one_handler_fits lets h good.1 t.0; written = listener_written n.name (handler_tree h) named good.0 (handler_fits lets h good.1.0 t.0).written }
item_fits lets (raw.dispose o) good b = let x = once_fits lets o good b in record { fits = x.0; written = dispose_written _ x.1 }
item_fits lets (raw.prune o) good b = let x = once_fits lets o good b in record { fits = x.0; written = prune_written _ x.1 }
item_fits lets raw.decline good b = record { fits = refl; written = decline_written }

-- items
pub record FitsItems (lets : List (List ℕ)) (m : ModuleTree) : Type 0 where
  pub fits : list_all (fits_item lets) m ≡ true
  pub written : Writable (canon_tokens m)

pub items_fit : (lets : List (List ℕ)) (xs : List RawItem) → EachGood GoodItem xs → flat (map (item_broken lets) xs) ≡ [] → FitsItems lets (module_tree xs)
items_fit lets [] good b = record { fits = refl; written = nothing_written }
items_fit lets (x ∷ xs) good b =
    let t = no_first (item_broken lets x) (flat (map (item_broken lets) xs)) b in
    let i = item_fits lets x good.0 t.0 in
    let is = items_fit lets xs good.1 t.1 in
    record { fits = and_yes _ _ i.fits is.fits; written = both_written _ _ i.written is.written }

-- the names that items bind and declare are those of their trees
let_same : (mutable : Bool) (n : List ℕ) → cond mutable (n ∷ []) [] ≡ let_names (tree.declare false mutable n tree.undefined)
let_same true n = refl
let_same false n = refl

lets_same : (x : RawItem) → lets_by x ≡ let_names (item_tree x)
lets_same (raw.import s names) = refl
lets_same (raw.declare exported mutable n e) = let_same mutable n.name
lets_same (raw.act s) = refl
lets_same (raw.own o) = refl
lets_same (raw.deps list ss h) = refl
lets_same (raw.on n h) = refl
lets_same (raw.dispose o) = refl
lets_same (raw.prune o) = refl
lets_same raw.decline = refl

locals_same : (is : List RawImport) → names_of (map (λ i. i.local) is) ≡ map (λ i. i.local) (map import_name is)
locals_same [] = refl
locals_same (i ∷ is) = ap (λ v. i.local.name ∷ v) (locals_same is)

bound_same : (x : RawItem) → names_of (bound_by x) ≡ bound_names (item_tree x)
bound_same (raw.import s names) = locals_same names
bound_same (raw.declare exported mutable n e) = refl
bound_same (raw.act s) = refl
bound_same (raw.own o) = refl
bound_same (raw.deps list ss h) = refl
bound_same (raw.on n h) = refl
bound_same (raw.dispose o) = refl
bound_same (raw.prune o) = refl
bound_same raw.decline = refl

all_lets : (xs : List RawItem) → lets_of xs ≡ module_lets (module_tree xs)
all_lets [] = refl
all_lets (x ∷ xs) = two_lists _ _ _ _ (lets_same x) (all_lets xs)

all_bound : (xs : List RawItem) → names_of (flat (map bound_by xs)) ≡ flat (map bound_names (module_tree xs))
all_bound [] = refl
all_bound (x ∷ xs) = map-append (λ n. n.name) (bound_by x) (flat (map bound_by xs)) ∙ two_lists _ _ _ _ (bound_same x) (all_bound xs)

none_least : (bs : List Broken) → least bs ≡ None → bs ≡ []
unfolding least
none_least [] h = refl
none_least (b ∷ bs) h = absurd cc

-- a module that breaks no rule on names
pub record FitsModule (m : ModuleTree) : Type 0 where
  pub items : FitsItems (module_lets m) m
  pub apart : distinct [] (flat (map bound_names m)) ≡ true

pub module_fits : (xs : List RawItem) → EachGood GoodItem xs → first_broken xs ≡ None → FitsModule (module_tree xs)
unfolding all_broken
module_fits xs good h =
    let none : all_broken xs ≡ [] = none_least (all_broken xs) h in
    let t = no_first (repeated [] (flat (map bound_by xs))) (flat (map (item_broken (lets_of xs)) xs)) none in
    record {
      items = subst (λ lets. FitsItems lets (module_tree xs)) (all_lets xs) (items_fit (lets_of xs) xs good t.1);
      apart = ap (distinct []) (sym (all_bound xs)) ∙ all_distinct [] (flat (map bound_by xs)) t.0;
    }
