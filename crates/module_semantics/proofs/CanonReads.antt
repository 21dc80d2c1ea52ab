-- The canonical text of a module reads as it exactly where the module fits and has few tokens; only modules that fit are
-- read.
use Rattle.std.proofs.Common.{◌≡◌, ℕ, ◌≤◌, List, [], ◌∷◌, map, length, ◌↔◌, true, false, ◌&&◌, nat_le, refl, sym, ap, ◌∙◌, subst, arith}
use Rattle.std.proofs.lemmas.List.{append-nil}
use Rattle.std.specs.List.{list_all}
use Rattle.std.specs.Str.{IsUtf8}
use Rattle.module_tree.specs.Syntax as tree
use Rattle.module_tree.specs.Syntax.{ItemTree, ModuleTree}
use Rattle.hmr_types.specs.declared.limits.TheConstants.{DEPTH, TOKENS}
use Rattle.module_semantics.specs.Token.{Token, Lexeme}
use Rattle.module_semantics.specs.Lines.{line_tokens}
use Rattle.module_semantics.specs.Pieces.{tokens_from, IsLexing}
use Rattle.module_semantics.specs.Reading.{flat}
use Rattle.module_semantics.specs.Grammar.{module_spelt, module_raw, module_depth}
use Rattle.module_semantics.specs.NameRules.{first_broken}
use Rattle.module_semantics.specs.Resolving.{module_tree}
use Rattle.module_semantics.specs.declared.tokens.After.TheVariants as after
use Rattle.module_semantics.specs.ModuleText.{ReadsAs}
use Rattle.module_semantics.specs.Canon.{canon}
use Rattle.module_semantics.specs.CanonItems.{canon_tokens, module_deep}
use Rattle.module_semantics.specs.Fitting.{distinct, writable, fits_specs, fits_deps, fits_item, bound_names, module_lets, fits}
use Rattle.module_semantics.proofs.PiecesLex.{both}
use Rattle.module_semantics.proofs.LexedPieces.{and_yes}
use Rattle.module_semantics.proofs.Texts.{one_tree}
use Rattle.module_semantics.proofs.ReadTokens.{pieces_writable}
use Rattle.module_semantics.proofs.SaidExprs.{Sound}
use Rattle.module_semantics.proofs.SaidItems.{module_keeps}
use Rattle.module_semantics.proofs.SaidDepths.{module_deepest}
use Rattle.module_semantics.proofs.SaidFitItems.{module_fits}
use Rattle.module_semantics.proofs.CanonLevels.{tokens_in}
use Rattle.module_semantics.proofs.CanonTops.{module_by}
use Rattle.module_semantics.proofs.LexedTokens.{lexeme_tokens, piece_tokens, same_length, all_line_tokens, same_tokens}
use Rattle.module_semantics.proofs.Layouts.{Laid, tokens_of}
use Rattle.module_semantics.proofs.LaidItems.{one_specifier, canon_laid}

item_one : (lets : List (List ℕ)) (i : ItemTree) → fits_item lets i ≡ true → one_specifier i ≡ true
item_one lets (tree.import s names) h = refl
item_one lets (tree.declare exported mutable n e) h = refl
item_one lets (tree.act s) h = refl
item_one lets (tree.own o) h = refl
item_one lets (tree.deps list ss c) h = (both (fits_specs list ss) (fits_deps lets list c) h).0
item_one lets (tree.dispose o) h = refl
item_one lets (tree.prune o) h = refl
item_one lets tree.decline h = refl

each_one : (lets : List (List ℕ)) (m : ModuleTree) → list_all (fits_item lets) m ≡ true → list_all one_specifier m ≡ true
each_one lets [] h = refl
each_one lets (i ∷ m) h = let t = both (fits_item lets i) (list_all (fits_item lets) m) h in rw (item_one lets i t.0) (each_one lets m t.1)

shallow_enough : (n m : ℕ) → n ≤ m → nat_le m DEPTH ≡ true → n ≤ DEPTH
shallow_enough n m h k = let deep : m ≤ DEPTH = search (arith, k) in omega (arith, h, deep)

laid_reads : (m : ModuleTree) → Laid false (canon m) (canon_tokens m) → list_all (fits_item (module_lets m)) m ≡ true → distinct [] (flat (map bound_names m)) ≡ true → nat_le (module_deep m) DEPTH ≡ true → length (canon_tokens m) ≤ TOKENS → ReadsAs (canon m) m
laid_reads m l items apart deep few =
    let ts = tokens_from 0 l.pieces in
    let us = line_tokens (canon m) ts in
    let same : lexeme_tokens ts ≡ canon_tokens m = piece_tokens 0 l.pieces ∙ l.tokens in
    let d = module_by m items apart us [] (all_line_tokens (canon m) ts ∙ same) in
    record {
      utf8 = l.utf8;
      tokens = ts;
      lexed = record { pieces = l.pieces; whole = sym (l.whole [] ∙ append-nil (canon m)); fit = l.fit [] (λ h. absurd cc); tokens = refl; few = omega (arith, few, sym (same_length ts) ∙ ap length same) };
      items = module_raw d.by;
      says = record { by = d.by; spelt = ap (module_spelt d.by) (sym (append-nil us)) ∙ d.spells; says = refl; shallow = shallow_enough _ (module_deep m) d.means.shallow deep };
      named = d.means.named;
      is = d.means.tree;
    }

-- the parts of the test
record Parts (m : ModuleTree) : Type 0 where
  items : list_all (fits_item (module_lets m)) m ≡ true
  apart : distinct [] (flat (map bound_names m)) ≡ true
  deep : nat_le (module_deep m) DEPTH ≡ true
  written : list_all writable (canon_tokens m) ≡ true

parts : (m : ModuleTree) → fits m ≡ true → Parts m
unfolding fits
parts m h =
    let t = both (list_all (fits_item (module_lets m)) m && distinct [] (flat (map bound_names m)) && nat_le (module_deep m) DEPTH) (list_all writable (canon_tokens m)) h in
    let u = both (list_all (fits_item (module_lets m)) m && distinct [] (flat (map bound_names m))) (nat_le (module_deep m) DEPTH) t.0 in
    let v = both (list_all (fits_item (module_lets m)) m) (distinct [] (flat (map bound_names m))) u.0 in
    record { items = v.0; apart = v.1; deep = u.1; written = t.1 }

fits_laid : (m : ModuleTree) → Parts m → Laid false (canon m) (canon_tokens m)
fits_laid m p = canon_laid m (each_one (module_lets m) m p.items) (record { each = p.written })

reads_back : (m : ModuleTree) → fits m ≡ true → length (canon_tokens m) ≤ TOKENS → ReadsAs (canon m) m
reads_back m h few = let p = parts m h in laid_reads m (fits_laid m p) p.items p.apart p.deep few

-- two modules that fit have different canonical texts
pub one_canon : (m n : ModuleTree) → fits m ≡ true → fits n ≡ true → length (canon_tokens m) ≤ TOKENS → length (canon_tokens n) ≤ TOKENS → canon m ≡ canon n → m ≡ n
one_canon m n h k few small same = one_tree (canon m) m n (reads_back m h few) (subst (λ v. ReadsAs v n) (sym same) (reads_back n k small))

tokens_written : (text : List ℕ) (ts : List Lexeme) → IsUtf8 text → IsLexing text ts → Sound (line_tokens text ts)
tokens_written text ts utf8 l =
    let written = pieces_writable after.Other l.pieces l.fit (subst IsUtf8 l.whole utf8) in
    let same : tokens_in (line_tokens text ts) ≡ tokens_of l.pieces = all_line_tokens text ts ∙ ap lexeme_tokens l.tokens ∙ piece_tokens 0 l.pieces in
    ap (list_all writable) same ∙ written

deep_enough : (n m : ℕ) → n ≤ m → m ≤ DEPTH → nat_le n DEPTH ≡ true
deep_enough n m h k = let few : n ≤ DEPTH = omega (arith, h, k) in search (arith, few)

-- a module that a text reads as fits
pub read_fits : (text : List ℕ) (m : ModuleTree) → ReadsAs text m → fits m ≡ true
unfolding fits
read_fits text m a =
    let d = a.says in
    let good = (module_keeps d.by (line_tokens text a.tokens) [] d.spelt (tokens_written text a.tokens a.utf8 a.lexed)).0 in
    let f = module_fits (module_raw d.by) good (ap first_broken d.says ∙ a.named) in
    let same : module_tree (module_raw d.by) ≡ m = ap module_tree d.says ∙ a.is in
    subst (λ v. fits v ≡ true) same (and_yes _ _ (and_yes _ _ (and_yes _ _ f.items.fits f.apart) (deep_enough _ (module_depth d.by) (module_deepest d.by) d.shallow)) f.items.written.each)

pub read_again : (text : List ℕ) (m : ModuleTree) → ReadsAs text m → length (canon_tokens m) ≤ TOKENS → ReadsAs (canon m) m
read_again text m a few = reads_back m (read_fits text m a) few

laid_few : (text : List ℕ) (toks : List Token) (ts : List Lexeme) → Laid false text toks → IsLexing text ts → length toks ≤ TOKENS
laid_few text toks ts l x =
    let same : tokens_of l.pieces ≡ tokens_of x.pieces = same_tokens after.Other after.Other l.pieces x.pieces (l.fit [] (λ h. absurd cc)) x.fit (l.whole [] ∙ append-nil text ∙ x.whole) in
    let lexed : lexeme_tokens ts ≡ toks = ap lexeme_tokens x.tokens ∙ piece_tokens 0 x.pieces ∙ sym same ∙ l.tokens in
    omega (arith, x.few, same_length ts, ap length lexed)

-- the canonical text reads back exactly where the module fits and has few tokens
only_few : (m : ModuleTree) → ReadsAs (canon m) m → (fits m ≡ true) × (length (canon_tokens m) ≤ TOKENS)
only_few m a = let h = read_fits (canon m) m a in (h, laid_few (canon m) (canon_tokens m) a.tokens (fits_laid m (parts m h)) a.lexed)

pub reads_exactly : (m : ModuleTree) → ((fits m ≡ true) × (length (canon_tokens m) ≤ TOKENS)) ↔ ReadsAs (canon m) m
reads_exactly m = (λ h. reads_back m h.0 h.1, only_few m)
