-- The canonical tokens of what `accept` takes, and of the calls of `import.meta.hot`, are written as them.
use Rattle.std.proofs.Common.{◌≡◌, ℕ, ◌≤◌, List, [], ◌∷◌, ◌++◌, Bool, true, false, not, Option, Some, None, refl, ap, ◌∙◌, codes, arith}
use Rattle.std.proofs.lemmas.List.{append_assoc}
use Rattle.std.specs.List.{list_all}
use Rattle.std.specs.Option.{option_map}
use Rattle.hmr_types.specs.Event.{event_module, event_of, is_event}
use Rattle.hmr_types.proofs.Events.{event_of-is}
use Rattle.hmr_types.specs.declared.analysis.FaultWord.TheVariants.{Unexpected}
use Rattle.module_tree.specs.Syntax as tree
use Rattle.module_tree.specs.Syntax.{HandlerTree, OnceTree, ItemTree}
use Rattle.module_semantics.specs.Token as token
use Rattle.module_semantics.specs.Token.{Token, LineToken}
use Rattle.module_semantics.specs.Kinds.{NameAt, name_at}
use Rattle.module_semantics.specs.Raw as raw
use Rattle.module_semantics.specs.Raw.{RawItem}
use Rattle.module_semantics.specs.Spelling as spell
use Rattle.module_semantics.specs.Spelling.{Spell, ◌>>◌, ◌▸◌, Listed, items_of}
use Rattle.module_semantics.specs.Grammar as grammar
use Rattle.module_semantics.specs.Grammar.{CallbackD, ListCallbackD, AcceptD, HotCallD, TopD, hot_spelt, after_comma, callback_spelt, callback_raw, callback_depth, list_callback_spelt, list_callback_raw, list_callback_depth, accept_spelt, accept_raw, accept_depth, hot_call_spelt, hot_call_raw, hot_call_depth, top_spelt, top_raw, top_depth, deep_if}
use Rattle.module_semantics.specs.NameRules.{Broken, names_of, broken_if, event_rule, item_broken, bound_by, lets_by}
use Rattle.module_semantics.specs.Resolving.{handler_tree, item_tree}
use Rattle.module_semantics.specs.CanonItems.{after_commas, between_commas, text_tokens, own_tokens, specs_tokens, deps_handler_tokens, deps_tokens, call_tokens, item_tokens, deps_deep, item_deep}
use Rattle.module_semantics.specs.Fitting.{fits_accept, fits_once, fits_one_handler, fits_specs, fits_deps, bound_names, let_names, fits_item}
use Rattle.module_semantics.proofs.PiecesLex.{both}
use Rattle.module_semantics.proofs.CanonLevels.{no_line_tokens}
use Rattle.module_semantics.proofs.CanonSteps.{Writes, end_alone, take, past_comma, past_open, past_close, past_open_bracket, past_close_bracket, past_text, past_event, past_hot_path, past_accept, past_dispose, past_prune, past_on, past_decline}
use Rattle.module_semantics.proofs.CanonParts.{AllMean, EachWrites}
use Rattle.module_semantics.proofs.CanonHandlers.{handler_by, list_handler_by, own_by, once_by}

-- parts with commas, of the form that may end with one
pub listed_by : {T D : Type 0} (ok : T → Bool) (spelt : D → Spell) (Means : T → D → Type 0) (toks : T → List Token) → EachWrites ok spelt Means toks → (ts : List T) → list_all ok ts ≡ true → Writes (spell.listed spelt) (λ d. AllMean Means ts (items_of d)) (between_commas toks ts)
unfolding spell.listed
listed_by ok spelt Means toks each [] fits us r h = record { by = spell.Listed.none; spells = ap (λ v. Some (v ++ r)) (no_line_tokens us h); means = tt }
listed_by ok spelt Means toks each (t ∷ []) fits us r h =
    let f = both (ok t) true fits in
    let d = take spelt (Means t) (toks t) [] us r (each t f.0) h in
    record { by = spell.Listed.last d.by; spells = rw d.is (ap (λ v. Some (v ++ r)) (no_line_tokens d.back d.lasts)); means = (d.means, tt) }
listed_by ok spelt Means toks each (t ∷ (u ∷ ts)) fits us r h =
    let f = both (ok t) (list_all ok (u ∷ ts)) fits in
    let d = take spelt (Means t) (toks t) (after_commas toks (u ∷ ts)) us r (each t f.0) h in
    let a = past_comma _ d.back r d.lasts in
    let e = listed_by ok spelt Means toks each (u ∷ ts) f.1 a.back r a.lasts in
    record { by = spell.Listed.more d.by e.by; spells = rw (d.is, a.is) e.spells; means = (d.means, e.means) }

-- what a derivation of an item says
pub record Says (lets : List (List ℕ)) (i : ItemTree) (x : RawItem) : Type 0 where
  pub tree : item_tree x ≡ i
  pub clean : item_broken lets x ≡ []
  pub bound : names_of (bound_by x) ≡ bound_names i
  pub declared : lets_by x ≡ let_names i

-- a derivation of a part of an item says the item, and isn't deeper
pub record PartSays {D : Type 0} (says : D → RawItem) (depth : D → ℕ) (lets : List (List ℕ)) (i : ItemTree) (d : D) : Type 0 where
  pub said : Says lets i (says d)
  pub shallow : depth d ≤ item_deep i

own_accept_by : (lets : List (List ℕ)) (o : Option OnceTree) → fits_accept lets o ≡ true → Writes accept_spelt (PartSays accept_raw accept_depth lets (tree.own o)) (own_tokens o)
own_accept_by lets None fits us r h = record { by = grammar.accept_all; spells = ap (λ v. Some (v ++ r)) (no_line_tokens us h); means = record { said = record { tree = refl; clean = refl; bound = refl; declared = refl }; shallow = omega arith } }
own_accept_by lets (Some o) fits us r h =
    let d = own_by lets o fits us r h in
    record { by = grammar.own d.by; spells = d.spells; means = record { said = record { tree = ap (λ v. tree.own (Some v)) d.means.tree; clean = d.means.clean; bound = refl; declared = refl }; shallow = d.means.shallow } }

-- the callback after one specifier
record DepMeans (lets : List (List ℕ)) (o : Option HandlerTree) (d : Option CallbackD) : Type 0 where
  tree : option_map handler_tree (option_map callback_raw d) ≡ o
  clean : (list : Bool) (ss : List (List ℕ)) → item_broken lets (raw.deps list ss (option_map callback_raw d)) ≡ []
  shallow : deep_if callback_depth d ≤ deps_deep o

dep_handler_by : (lets : List (List ℕ)) (o : Option HandlerTree) → fits_deps lets false o ≡ true → Writes (spell.maybe (after_comma callback_spelt)) (DepMeans lets o) (deps_handler_tokens false o)
dep_handler_by lets None fits us r h = record { by = None; spells = ap (λ v. Some (v ++ r)) (no_line_tokens us h); means = record { tree = refl; clean = λ list ss. refl; shallow = omega arith } }
dep_handler_by lets (Some k) fits us r h =
    let a = past_comma _ us r h in
    let d = handler_by lets k fits a.back r a.lasts in
    record { by = Some d.by; spells = rw a.is d.spells; means = record { tree = ap Some d.means.tree; clean = λ list ss. d.means.clean; shallow = d.means.shallow } }

-- the callback after a list of specifiers
record DepsMeans (lets : List (List ℕ)) (o : Option HandlerTree) (d : Option ListCallbackD) : Type 0 where
  tree : option_map handler_tree (option_map list_callback_raw d) ≡ o
  clean : (list : Bool) (ss : List (List ℕ)) → item_broken lets (raw.deps list ss (option_map list_callback_raw d)) ≡ []
  shallow : deep_if list_callback_depth d ≤ deps_deep o

deps_handler_by : (lets : List (List ℕ)) (o : Option HandlerTree) → fits_deps lets true o ≡ true → Writes (spell.maybe (after_comma list_callback_spelt)) (DepsMeans lets o) (deps_handler_tokens true o)
deps_handler_by lets None fits us r h = record { by = None; spells = ap (λ v. Some (v ++ r)) (no_line_tokens us h); means = record { tree = refl; clean = λ list ss. refl; shallow = omega arith } }
deps_handler_by lets (Some k) fits us r h =
    let a = past_comma _ us r h in
    let d = list_handler_by lets k fits a.back r a.lasts in
    record { by = Some d.by; spells = rw a.is d.spells; means = record { tree = ap Some d.means.tree; clean = λ list ss. d.means.clean; shallow = d.means.shallow } }

-- a text that a derivation has
abbrev Texts : List ℕ → List ℕ → Type 0
Texts s d = d ≡ s

any_text : List ℕ → Bool
any_text s = true

any_texts : (ss : List (List ℕ)) → list_all any_text ss ≡ true
unfolding any_text
any_texts [] = refl
any_texts (s ∷ ss) = any_texts ss

text_by : (s : List ℕ) → any_text s ≡ true → Writes spell.text_token (Texts s) (text_tokens s)
text_by s fits us r h = let m = past_text s [] us r h in record { by = s; spells = m.is ∙ ap (λ v. Some (v ++ r)) (no_line_tokens m.back m.lasts); means = refl }

all_texts : (ss ds : List (List ℕ)) → AllMean Texts ss ds → ds ≡ ss
all_texts [] [] a = refl
all_texts [] (d ∷ ds) a = absurd a
all_texts (s ∷ ss) [] a = absurd a
all_texts (s ∷ ss) (d ∷ ds) a = let rest = all_texts ss ds a.1 in rw (a.0, rest) refl

deps_same : (list : Bool) (ss ts : List (List ℕ)) (h k : Option HandlerTree) → ss ≡ ts → h ≡ k → tree.deps list ss h ≡ tree.deps list ts k
deps_same list ss ts h k p q = rw (p, q) refl

deps_accept_by : (lets : List (List ℕ)) (list : Bool) (ss : List (List ℕ)) (o : Option HandlerTree) → fits_specs list ss ≡ true → fits_deps lets list o ≡ true → Writes accept_spelt (PartSays accept_raw accept_depth lets (tree.deps list ss o)) (specs_tokens list ss ++ deps_handler_tokens list o)
deps_accept_by lets true ss o few fits us r h =
    let a = past_open_bracket _ us r (h ∙ ap (λ v. token.punct 4 ∷ v) (append_assoc (between_commas text_tokens ss) (token.punct 5 ∷ []) (deps_handler_tokens true o))) in
    let x = take _ _ _ _ a.back r (listed_by any_text spell.text_token Texts text_tokens text_by ss (any_texts ss)) a.lasts in
    let c = past_close_bracket _ x.back r x.lasts in
    let d = deps_handler_by lets o fits c.back r c.lasts in
    record {
      by = grammar.deps x.by d.by;
      spells = rw (a.is, x.is, c.is) d.spells;
      means = record { said = record { tree = deps_same true _ _ _ _ (all_texts ss (items_of x.by) x.means) d.means.tree; clean = d.means.clean true (items_of x.by); bound = refl; declared = refl }; shallow = d.means.shallow };
    }
deps_accept_by lets false [] o few fits us r h = absurd cc
deps_accept_by lets false (s ∷ (t ∷ ss)) o few fits us r h = absurd cc
deps_accept_by lets false (s ∷ []) o few fits us r h =
    let a = past_text s _ us r h in
    let d = dep_handler_by lets o fits a.back r a.lasts in
    record {
      by = grammar.dep s d.by;
      spells = rw a.is d.spells;
      means = record { said = record { tree = deps_same false _ _ _ _ refl d.means.tree; clean = d.means.clean false (s ∷ []); bound = refl; declared = refl }; shallow = d.means.shallow };
    }

pub accept_by : (lets : List (List ℕ)) (i : ItemTree) (args : List Token) → Writes accept_spelt (PartSays accept_raw accept_depth lets i) args → Writes top_spelt (PartSays top_raw top_depth lets i) (call_tokens (codes "accept") args)
accept_by lets i args part us r h =
    let a = past_hot_path _ us r h in
    let b = past_accept _ a.back r a.lasts in
    let c = past_open _ b.back r b.lasts in
    let x = take _ _ _ _ c.back r part c.lasts in
    let d = past_close _ x.back r x.lasts in
    let z = end_alone d.back r d.lasts in
    record { by = grammar.TopD.call (grammar.HotCallD.accept x.by); spells = rw (a.is, a.rest (hot_call_spelt (grammar.HotCallD.accept x.by)), b.is, c.is, x.is, d.is, z) refl; means = record { said = x.means.said; shallow = x.means.shallow } }

pub dispose_by : (lets : List (List ℕ)) (o : OnceTree) → fits_once lets o ≡ true → Writes top_spelt (PartSays top_raw top_depth lets (tree.dispose o)) (item_tokens (tree.dispose o))
dispose_by lets o fits us r h =
    let a = past_hot_path _ us r h in
    let b = past_dispose _ a.back r a.lasts in
    let c = past_open _ b.back r b.lasts in
    let x = take _ _ _ _ c.back r (once_by lets o fits) c.lasts in
    let d = past_close _ x.back r x.lasts in
    let z = end_alone d.back r d.lasts in
    record { by = grammar.TopD.call (grammar.HotCallD.dispose x.by); spells = rw (a.is, a.rest (hot_call_spelt (grammar.HotCallD.dispose x.by)), b.is, c.is, x.is, d.is, z) refl; means = record { said = record { tree = ap tree.dispose x.means.tree; clean = x.means.clean; bound = refl; declared = refl }; shallow = x.means.shallow } }

pub prune_by : (lets : List (List ℕ)) (o : OnceTree) → fits_once lets o ≡ true → Writes top_spelt (PartSays top_raw top_depth lets (tree.prune o)) (item_tokens (tree.prune o))
prune_by lets o fits us r h =
    let a = past_hot_path _ us r h in
    let b = past_prune _ a.back r a.lasts in
    let c = past_open _ b.back r b.lasts in
    let x = take _ _ _ _ c.back r (once_by lets o fits) c.lasts in
    let d = past_close _ x.back r x.lasts in
    let z = end_alone d.back r d.lasts in
    record { by = grammar.TopD.call (grammar.HotCallD.prune x.by); spells = rw (a.is, a.rest (hot_call_spelt (grammar.HotCallD.prune x.by)), b.is, c.is, x.is, d.is, z) refl; means = record { said = record { tree = ap tree.prune x.means.tree; clean = x.means.clean; bound = refl; declared = refl }; shallow = x.means.shallow } }

pub decline_by : (lets : List (List ℕ)) → Writes top_spelt (PartSays top_raw top_depth lets tree.decline) (item_tokens tree.decline)
decline_by lets us r h =
    let a = past_hot_path _ us r h in
    let b = past_decline _ a.back r a.lasts in
    let c = past_open _ b.back r b.lasts in
    let d = past_close _ c.back r c.lasts in
    let z = end_alone d.back r d.lasts in
    record { by = grammar.TopD.call grammar.HotCallD.decline; spells = rw (a.is, a.rest (hot_call_spelt grammar.HotCallD.decline), b.is, c.is, d.is, z) refl; means = record { said = record { tree = refl; clean = refl; bound = refl; declared = refl }; shallow = omega arith } }

pub own_call_by : (lets : List (List ℕ)) (o : Option OnceTree) → fits_accept lets o ≡ true → Writes top_spelt (PartSays top_raw top_depth lets (tree.own o)) (item_tokens (tree.own o))
own_call_by lets o fits = accept_by lets (tree.own o) (own_tokens o) (own_accept_by lets o fits)

none_of_both : (xs ys : List Broken) → xs ≡ [] → ys ≡ [] → xs ++ ys ≡ []
none_of_both xs ys h k = rw (h, k) refl

event_clean : (n : NameAt) (event : List ℕ) → n.name ≡ event → is_event event ≡ true → event_rule n ≡ []
event_clean n event is h = ap (λ v. broken_if (not v) Unexpected n.at) (ap is_event is ∙ h)

-- a callback of one dependency, by the event that it listens to, if any
one_call_by : (lets : List (List ℕ)) (s : List ℕ) (k : HandlerTree) (o : Option (List ℕ)) → event_of s ≡ o → fits_one_handler lets k ≡ true
    → Writes top_spelt (PartSays top_raw top_depth lets (tree.deps false (s ∷ []) (Some k))) (deps_tokens o false (s ∷ []) (Some k))
one_call_by lets s k None is fits us r h =
    accept_by lets (tree.deps false (s ∷ []) (Some k)) (specs_tokens false (s ∷ []) ++ deps_handler_tokens false (Some k)) (deps_accept_by lets false (s ∷ []) (Some k) refl fits) us r h
one_call_by lets s k (Some event) is fits us r h =
    let heard = event_of-is s event is in
    let a = past_hot_path _ us r h in
    let b = past_on _ a.back r a.lasts in
    let c = past_open _ b.back r b.lasts in
    let m = past_event event _ c.back r c.lasts in
    let d = past_comma _ m.back r m.lasts in
    let x = take _ _ _ _ d.back r (handler_by lets k fits) d.lasts in
    let e = past_close _ x.back r x.lasts in
    let z = end_alone e.back r e.lasts in
    record {
      by = grammar.TopD.call (grammar.HotCallD.on (name_at m.at) x.by);
      spells = rw (a.is, a.rest (hot_call_spelt (grammar.HotCallD.on (name_at m.at) x.by)), b.is, c.is, m.is, d.is, x.is, e.is, z) refl;
      means = record {
        said = record {
          tree = deps_same false _ _ _ _ (ap (λ v. event_module v ∷ []) m.name ∙ ap (λ v. v ∷ []) heard.0) (ap Some x.means.tree);
          clean = none_of_both _ _ x.means.clean (event_clean (name_at m.at) event m.name heard.1);
          bound = refl;
          declared = refl;
        };
        shallow = x.means.shallow;
      };
    }

pub deps_call_by : (lets : List (List ℕ)) (list : Bool) (ss : List (List ℕ)) (o : Option HandlerTree) → fits_item lets (tree.deps list ss o) ≡ true → Writes top_spelt (PartSays top_raw top_depth lets (tree.deps list ss o)) (item_tokens (tree.deps list ss o))
deps_call_by lets true ss o fits =
    let t = both (fits_specs true ss) (fits_deps lets true o) fits in
    accept_by lets (tree.deps true ss o) (specs_tokens true ss ++ deps_handler_tokens true o) (deps_accept_by lets true ss o t.0 t.1)
deps_call_by lets false [] o fits = absurd cc
deps_call_by lets false (s ∷ []) None fits =
    accept_by lets (tree.deps false (s ∷ []) None) (specs_tokens false (s ∷ []) ++ deps_handler_tokens false None) (deps_accept_by lets false (s ∷ []) None refl refl)
deps_call_by lets false (s ∷ []) (Some k) fits = one_call_by lets s k (event_of s) refl fits
deps_call_by lets false (s ∷ (t ∷ ss)) o fits = absurd cc
