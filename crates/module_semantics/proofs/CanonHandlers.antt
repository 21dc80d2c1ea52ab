-- The canonical tokens of callbacks and host closures are written as them.
use Rattle.std.proofs.Common.{◌≡◌, ℕ, ◌≤◌, List, [], ◌∷◌, ◌++◌, true, not, ◌&&◌, Option, Some, None, refl, ap, ◌∙◌, subst, sym, arith}
use Rattle.std.specs.List.{list_all}
use Rattle.module_tree.specs.Syntax as tree
use Rattle.module_tree.specs.Syntax.{StmtTrees, HandlerTree, OnceTree}
use Rattle.module_semantics.specs.Token as token
use Rattle.module_semantics.specs.Token.{Token, LineToken}
use Rattle.module_semantics.specs.Kinds.{ARROW, OPEN, CLOSE, NameAt, name_at, free_names}
use Rattle.module_semantics.specs.Spelling as spell
use Rattle.module_semantics.specs.Spelling.{Spell, ◌>>◌, ◌▸◌}
use Rattle.module_semantics.specs.Grammar as grammar
use Rattle.module_semantics.specs.Grammar.{BodyD, ParamD, CallbackD, ListCallbackD, OwnD, body_spelt, body_raw, body_depth, param_spelt, param_raw, callback_spelt, callback_raw, callback_depth, list_callback_spelt, list_callback_raw, list_callback_depth, names_spelt, own_spelt, own_raw, own_depth}
use Rattle.module_semantics.specs.NameRules.{Within, Broken, in_once, in_accept, has_name, repeated, names_of, stmts_broken, handler_broken, once_broken}
use Rattle.module_semantics.specs.Resolving.{stmts_tree, handler_tree, once_handler_tree, accept_tree, once_tree}
use Rattle.module_semantics.specs.Reading.{all_of}
use Rattle.module_semantics.specs.CanonTokens.{stmts_tokens, stmts_deep, fits_name, fits_stmts}
use Rattle.module_semantics.specs.CanonItems.{between_commas, name_tokens, handler_tokens, list_params_tokens, list_handler_tokens, once_tokens, handler_deep, once_deep}
use Rattle.module_semantics.specs.Fitting.{distinct, none_of, at_most_one, fits_handler, fits_one_handler, fits_once_handler, fits_own, fits_once}
use Rattle.module_semantics.proofs.PiecesLex.{both, nots}
use Rattle.module_semantics.proofs.Steps.{regroup}
use Rattle.module_semantics.proofs.CanonLevels.{tokens_in, no_line_tokens}
use Rattle.module_semantics.proofs.CanonSteps.{Writes, take, past_arrow, past_open, past_close, past_open_brace, past_close_brace, past_open_bracket, past_close_bracket, past_host, past_text, past_name}
use Rattle.module_semantics.proofs.CanonParts.{AllMean, between_commas_by}
use Rattle.module_semantics.proofs.CanonBodies.{stmts_by}

-- names that are all different break no rule
pub unrepeated : (before : List (List ℕ)) (ns : List NameAt) → distinct before (names_of ns) ≡ true → repeated before ns ≡ []
unfolding repeated
unrepeated before [] h = refl
unrepeated before (n ∷ ns) h =
    let t = both (not (has_name n.name before)) (distinct (n.name ∷ before) (names_of ns)) h in
    rw (nots (has_name n.name before) t.0) (unrepeated (n.name ∷ before) ns t.1)

-- what a derivation of a callback's body says
record BodyMeans (lets : List (List ℕ)) (w : Within) (s : StmtTrees) (d : BodyD) : Type 0 where
  tree : stmts_tree w (body_raw d) ≡ s
  clean : stmts_broken lets w (body_raw d) ≡ []
  shallow : body_depth d ≤ stmts_deep s

body_by : (lets : List (List ℕ)) (w : Within) (ps : List (List ℕ)) (s : StmtTrees) → fits_stmts lets w ps s ≡ true → Writes (λ d. spell.mark ARROW ▸ body_spelt d) (BodyMeans lets w s) (token.punct 15 ∷ (token.punct 0 ∷ (stmts_tokens ps s ++ (token.punct 1 ∷ []))))
body_by lets w ps s fits us r h =
    let a = past_arrow _ us r h in
    let b = past_open_brace _ a.back r a.lasts in
    let x = take _ _ _ _ b.back r (stmts_by lets w ps s fits) b.lasts in
    let m = past_close_brace _ x.back r x.lasts in
    record {
      by = grammar.braces x.by;
      spells = rw (a.is, b.is, x.is, m.is) (ap (λ v. Some (v ++ r)) (no_line_tokens m.back m.lasts));
      means = record { tree = x.means.tree; clean = x.means.clean; shallow = x.means.shallow };
    }

-- a name that a derivation has
abbrev pub Names : List ℕ → NameAt → Type 0
Names n d = d.name ≡ n

name_by : (n : List ℕ) → fits_name n ≡ true → Writes spell.free_name (Names n) (name_tokens n)
name_by n fits us r h =
    let m = past_name free_names n fits [] us r h in
    record { by = name_at m.at; spells = m.is ∙ ap (λ v. Some (v ++ r)) (no_line_tokens m.back m.lasts); means = m.name }

abbrev ParamsMean : List (List ℕ) → ParamD → Type 0
ParamsMean ns d = names_of (param_raw d) ≡ ns

params_by : (ns : List (List ℕ)) → at_most_one ns ≡ true → list_all fits_name ns ≡ true → Writes param_spelt (ParamsMean ns) (token.punct 2 ∷ (between_commas name_tokens ns ++ (token.punct 3 ∷ [])))
params_by [] few fits us r h =
    let a = past_open _ us r h in
    let b = past_close _ a.back r a.lasts in
    record { by = grammar.in_parens None; spells = rw (a.is, b.is) (ap (λ v. Some (v ++ r)) (no_line_tokens b.back b.lasts)); means = refl }
params_by (n ∷ []) few fits us r h =
    let t = both (fits_name n) true fits in
    let a = past_open _ us r h in
    let m = past_name free_names n t.0 _ a.back r a.lasts in
    let b = past_close _ m.back r m.lasts in
    record { by = grammar.in_parens (Some (name_at m.at)); spells = rw (a.is, m.is, b.is) (ap (λ v. Some (v ++ r)) (no_line_tokens b.back b.lasts)); means = ap (λ v. v ∷ []) m.name }
params_by (n ∷ (m ∷ ns)) few fits us r h = absurd cc

-- what a derivation of an accept callback says
pub record HandlerMeans (lets : List (List ℕ)) (h : HandlerTree) (d : CallbackD) : Type 0 where
  pub tree : handler_tree (callback_raw d) ≡ h
  pub clean : handler_broken lets in_accept (callback_raw d) ≡ []
  pub shallow : callback_depth d ≤ handler_deep h

handler_is : (ns ms : List (List ℕ)) (s t : StmtTrees) → ns ≡ ms → s ≡ t → ◌≡◌ {A = HandlerTree} (record { params = ns; body = s }) (record { params = ms; body = t })
handler_is ns ms s t h k = rw (h, k) refl

both_clean : (bs cs : List Broken) → bs ≡ [] → cs ≡ [] → bs ++ cs ≡ []
both_clean bs cs h k = rw (h, k) refl

pub handler_by : (lets : List (List ℕ)) (h : HandlerTree) → fits_one_handler lets h ≡ true → Writes callback_spelt (HandlerMeans lets h) (handler_tokens h)
handler_by lets h fits us r e =
    let t = both (at_most_one h.params) (fits_handler lets h) fits in
    let u = both (list_all fits_name h.params && distinct [] h.params) (fits_stmts lets (in_accept h.params) h.params h.body) t.1 in
    let v = both (list_all fits_name h.params) (distinct [] h.params) u.0 in
    let p = take _ _ _ _ us r (params_by h.params t.0 v.0) e in
    let b = body_by lets (in_accept h.params) h.params h.body u.1 p.back r p.lasts in
    let names : names_of (param_raw p.by) ≡ h.params = p.means in
    record {
      by = grammar.callback p.by b.by;
      spells = rw p.is b.spells;
      means = record {
        tree = handler_is _ _ _ _ names (ap (λ ns. stmts_tree (in_accept ns) (body_raw b.by)) names ∙ b.means.tree);
        clean = both_clean _ _ (unrepeated [] (param_raw p.by) (ap (distinct []) names ∙ v.1)) (ap (λ ns. stmts_broken lets (in_accept ns) (body_raw b.by)) names ∙ b.means.clean);
        shallow = b.means.shallow;
      };
    }

-- the list form
pub record ListMeans (lets : List (List ℕ)) (h : HandlerTree) (d : ListCallbackD) : Type 0 where
  pub tree : handler_tree (list_callback_raw d) ≡ h
  pub clean : handler_broken lets in_accept (list_callback_raw d) ≡ []
  pub shallow : list_callback_depth d ≤ handler_deep h

all_named : (ns : List (List ℕ)) (ds : List NameAt) → AllMean Names ns ds → names_of ds ≡ ns
all_named [] [] a = refl
all_named [] (d ∷ ds) a = absurd a
all_named (n ∷ ns) [] a = absurd a
all_named (n ∷ ns) (d ∷ ds) a = let rest = all_named ns ds a.1 in rw (a.0, rest) refl

abbrev ListParamsMean : List (List ℕ) → Option (List NameAt) → Type 0
ListParamsMean ns d = names_of (all_of d) ≡ ns

list_params_by : (ns : List (List ℕ)) → list_all fits_name ns ≡ true → Writes (λ d. spell.mark OPEN ▸ spell.maybe names_spelt d ▸ spell.mark CLOSE) (ListParamsMean ns) (list_params_tokens ns)
list_params_by [] fits us r h =
    let a = past_open _ us r h in
    let b = past_close _ a.back r a.lasts in
    record { by = None; spells = rw (a.is, b.is) (ap (λ v. Some (v ++ r)) (no_line_tokens b.back b.lasts)); means = refl }
list_params_by (n ∷ ns) fits us r h =
    let a = past_open _ us r h in
    let b = past_open_bracket _ a.back r a.lasts in
    let x = take _ _ _ _ b.back r (between_commas_by fits_name spell.free_name Names name_tokens name_by (n ∷ ns) fits) b.lasts in
    let c = past_close_bracket _ x.back r x.lasts in
    let d = past_close _ c.back r c.lasts in
    record { by = Some x.by; spells = rw (a.is, b.is, x.is, c.is, d.is) (ap (λ v. Some (v ++ r)) (no_line_tokens d.back d.lasts)); means = all_named (n ∷ ns) x.by x.means }

regroup_under : (o : Option (List LineToken)) (f g e : Spell) → (o >> (f ▸ (g ▸ e))) ≡ ((o >> (f ▸ g)) >> e)
regroup_under None f g e = refl
regroup_under (Some x) f g e = sym (regroup (f x) g e)

list_grouped : (d : Option (List NameAt)) (b : BodyD) (us r : List LineToken) (p : List LineToken) → (spell.mark OPEN ▸ spell.maybe names_spelt d ▸ spell.mark CLOSE) us ≡ Some p → (spell.mark ARROW ▸ body_spelt b) p ≡ Some r → list_callback_spelt (grammar.list_callback d b) us ≡ Some r
list_grouped d b us r p h k =
    let f = spell.maybe names_spelt d in
    let g = spell.mark CLOSE in
    let e = spell.mark ARROW ▸ body_spelt b in
    regroup_under (spell.mark OPEN us) f g e ∙ rw h k

pub list_handler_by : (lets : List (List ℕ)) (h : HandlerTree) → fits_handler lets h ≡ true → Writes list_callback_spelt (ListMeans lets h) (list_handler_tokens h)
list_handler_by lets h fits us r e =
    let u = both (list_all fits_name h.params && distinct [] h.params) (fits_stmts lets (in_accept h.params) h.params h.body) fits in
    let v = both (list_all fits_name h.params) (distinct [] h.params) u.0 in
    let p = take _ _ _ _ us r (list_params_by h.params v.0) e in
    let b = body_by lets (in_accept h.params) h.params h.body u.1 p.back r p.lasts in
    let names : names_of (all_of p.by) ≡ h.params = p.means in
    record {
      by = grammar.list_callback p.by b.by;
      spells = list_grouped p.by b.by (us ++ r) r (p.back ++ r) p.is b.spells;
      means = record {
        tree = handler_is _ _ _ _ names (ap (λ ns. stmts_tree (in_accept ns) (body_raw b.by)) names ∙ b.means.tree);
        clean = both_clean _ _ (unrepeated [] (all_of p.by) (ap (distinct []) names ∙ v.1)) (ap (λ ns. stmts_broken lets (in_accept ns) (body_raw b.by)) names ∙ b.means.clean);
        shallow = b.means.shallow;
      };
    }

-- a callback of `dispose` or `prune`
record OnceHandlerMeans (lets : List (List ℕ)) (h : HandlerTree) (d : CallbackD) : Type 0 where
  tree : once_handler_tree (callback_raw d) ≡ h
  clean : handler_broken lets in_once (callback_raw d) ≡ []
  shallow : callback_depth d ≤ handler_deep h

no_names : (ns : List (List ℕ)) → none_of ns ≡ true → ns ≡ []
no_names [] h = refl
no_names (n ∷ ns) h = absurd cc

once_body_by : (lets : List (List ℕ)) (s : StmtTrees) → fits_stmts lets (in_once []) [] s ≡ true → Writes callback_spelt (OnceHandlerMeans lets (record { params = []; body = s })) (handler_tokens (record { params = []; body = s }))
unfolding repeated
once_body_by lets s fits us r e =
    let a = past_open _ us r e in
    let c = past_close _ a.back r a.lasts in
    let b = body_by lets (in_once []) [] s fits c.back r c.lasts in
    record { by = grammar.callback (grammar.in_parens None) b.by; spells = rw (a.is, c.is) b.spells; means = record { tree = handler_is _ _ _ _ refl b.means.tree; clean = b.means.clean; shallow = b.means.shallow } }

once_handler_by : (lets : List (List ℕ)) (h : HandlerTree) → fits_once_handler lets h ≡ true → Writes callback_spelt (OnceHandlerMeans lets h) (handler_tokens h)
once_handler_by lets h fits =
    let t = both (none_of h.params) (fits_stmts lets (in_once []) [] h.body) fits in
    let is : ◌≡◌ {A = HandlerTree} (record { params = []; body = h.body }) h = handler_is _ _ _ _ (sym (no_names h.params t.0)) refl in
    subst (λ k. Writes callback_spelt (OnceHandlerMeans lets k) (handler_tokens k)) is (once_body_by lets h.body t.1)

-- what `accept` of the module itself takes
pub record OwnMeans (lets : List (List ℕ)) (o : OnceTree) (d : OwnD) : Type 0 where
  pub tree : accept_tree (own_raw d) ≡ o
  pub clean : once_broken lets in_accept (own_raw d) ≡ []
  pub shallow : own_depth d ≤ once_deep o

-- what `dispose` and `prune` take
pub record OnceMeans (lets : List (List ℕ)) (o : OnceTree) (d : OwnD) : Type 0 where
  pub tree : once_tree (own_raw d) ≡ o
  pub clean : once_broken lets in_once (own_raw d) ≡ []
  pub shallow : own_depth d ≤ once_deep o

host_spells : (l : List ℕ) (us r : List LineToken) → tokens_in us ≡ once_tokens (tree.host l) → own_spelt (grammar.OwnD.host l) (us ++ r) ≡ Some r
host_spells l us r h =
    let a = past_host _ us r h in
    let b = past_open _ a.back r a.lasts in
    let c = past_text l _ b.back r b.lasts in
    let d = past_close _ c.back r c.lasts in
    rw (a.is, b.is, c.is, d.is) (ap (λ v. Some (v ++ r)) (no_line_tokens d.back d.lasts))

pub own_by : (lets : List (List ℕ)) (o : OnceTree) → fits_own lets o ≡ true → Writes own_spelt (OwnMeans lets o) (once_tokens o)
own_by lets (tree.code h) fits us r e =
    let d = handler_by lets h fits us r e in
    record { by = grammar.OwnD.code d.by; spells = d.spells; means = record { tree = ap tree.code d.means.tree; clean = d.means.clean; shallow = d.means.shallow } }
own_by lets (tree.host l) fits us r e = record { by = grammar.OwnD.host l; spells = host_spells l us r e; means = record { tree = refl; clean = refl; shallow = omega arith } }

pub once_by : (lets : List (List ℕ)) (o : OnceTree) → fits_once lets o ≡ true → Writes own_spelt (OnceMeans lets o) (once_tokens o)
once_by lets (tree.code h) fits us r e =
    let d = once_handler_by lets h fits us r e in
    record { by = grammar.OwnD.code d.by; spells = d.spells; means = record { tree = ap tree.code d.means.tree; clean = d.means.clean; shallow = d.means.shallow } }
once_by lets (tree.host l) fits us r e = record { by = grammar.OwnD.host l; spells = host_spells l us r e; means = record { tree = refl; clean = refl; shallow = omega arith } }
