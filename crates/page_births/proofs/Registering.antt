-- What is registered with an instance of the page, and what the model registers.
use Rattle.std.proofs.Common.{◌≡◌, ◌<◌, ℕ, zero, suc, List, [], ◌∷◌, ◌++◌, map, length, refl, ap, sym, ◌∙◌, arith}
use Rattle.std.specs.Prelude.{Option, Some, None, option_map, slice_get, slice_set}
use Rattle.std.specs.List.{All}
use Rattle.std.proofs.Math.Path.{subst}
use Rattle.std.proofs.lemmas.List.{append-nil, append_assoc}
use Rattle.std.proofs.lemmas.List.Sums.{fold-append}
use Rattle.std.proofs.lemmas.List.Elements.{All-push, All-set}
use Rattle.std.proofs.lemmas.Option.{same_Some}
use Rattle.hmr_types.specs.declared.words.HandlerKind.{HandlerKind}
use Rattle.module_tree.specs.Syntax as syntax
use Rattle.module_tree.specs.Syntax.{HandlerTree}
use Rattle.output_lines.specs.declared.out_line.OutLine.{OutLine}
use Rattle.output_lines.specs.declared.out_line.OutLine.TheVariants as line
use Rattle.core_model.specs.Names.{Name, at}
use Rattle.core_model.specs.Sources.{Text}
use Rattle.client_model.specs.Instance as model
use Rattle.client_model.specs.Instance.{Deed, code, host, places_from, with_dropped}
use Rattle.client_model.specs.Journal.{Journal, dropped, lines_of_all, no_host, registered}
use Rattle.client_model.specs.Language.{Registered}
use Rattle.client_model.specs.Making as making
use Rattle.client_model.specs.Making.{Registry, is_displaced_by, new_handler, with_handler, with_host, register_once}
use Rattle.handler_table.specs.Handlers.{KeepTheirWord}
use Rattle.handler_table.specs.Held.{Answers, Closure, IsHost}
use Rattle.handler_table.specs.Shelf.{first_of, marks_of, without_first}
use Rattle.handler_table.specs.declared.handler.Handler.{Handler}
use Rattle.handler_table.specs.declared.handler.Handler.TheVariants.{Host}
use Rattle.page_instances.specs.Holding.{with_held}
use Rattle.page_instances.specs.Seeing.{Sees}
use Rattle.page_instances.specs.declared.instance.Instance.{Instance}
use Rattle.page_births.specs.Births.{HasRegistry, Registers, registered_all}
use Rattle.page_state.specs.Standing.{KeepWords}
use Rattle.page_state.specs.declared.page.Page.{Page}
use Rattle.page_state.proofs.Following.{lines_then}
use Rattle.page_state.proofs.Matching.{set_same, set_self, set_twice}
use Rattle.page_births.proofs.Shelves.{first_label, first_seen, none_without, without_seen}

-- there is something at each place
pub record There {X : Type 0} (xs : List X) (place : ℕ) : Type 0 where
  pub one : X
  pub is : slice_get xs place ≡ Some one

pub there : {X : Type 0} (xs : List X) (place : ℕ) → place < length xs → There xs place
there [] place h = absurd (omega arith)
there (x ∷ xs) zero h = record { one = x; is = refl }
there (x ∷ xs) (suc place) h = let t = there xs place (omega arith) in record { one = t.one; is = t.is }

-- a registration tells nothing
silent : (client k : ℕ) (places : List ℕ) (h : model.Handler) → lines_of_all client (map (dropped k) places ++ registered k h ∷ []) ≡ []
silent client k [] h = refl
silent client k (p ∷ places) h = silent client k places h

-- one instance holds one handler more, and the shelf may differ
pub record Holds {F : Type 0} (place : ℕ) (kind : HandlerKind) (deps : List Name) (deed : Deed) (p q : Page F) (c d : Instance F) : Type 0 where
  pub rest : q ≡ record p { instances = q.instances; shelf = q.shelf }
  pub there : slice_get p.instances.items place ≡ Some c
  pub set : q.instances.items ≡ slice_set p.instances.items place d
  pub sees : (i : model.Instance) → Sees i c → Sees (with_held kind deps deed i) d

module _ {F : Type 0} (place : ℕ) (p q : Page F) (c d : Instance F) where
  held_gains : (kind : HandlerKind) (deps : List Name) (what : _) (deed : Deed) → Holds place kind deps deed p q c d
      → (k : ℕ) (i : model.Instance) (g : Registry) (began told : List OutLine) → HasRegistry i g place p began told
      → HasRegistry i (with_handler k (record { kind = kind; deps = deps; what = what }) deed (record g { shelf = marks_of q.shelf })) place q began told
  held_gains kind deps what deed holds k i g began told h = record {
    instance = d;
    there = ap (λ cs. slice_get cs place) holds.set ∙ set_same p.instances.items place d c holds.there;
    sees = holds.sees (record i { handlers = g.handlers }) (subst (Sees (record i { handlers = g.handlers })) (same_Some _ _ (sym h.there ∙ holds.there)) h.sees);
    shelf = refl;
    lines = h.lines
        ∙ ap (λ x. began ++ lines_of_all x.client g.journal) (sym holds.rest)
        ∙ ap (λ ls. began ++ ls) (sym (append-nil (lines_of_all q.client g.journal))
        ∙ ap (λ ls. lines_of_all q.client g.journal ++ ls) (sym (silent q.client k (places_from 0 (is_displaced_by kind) g.handlers) (new_handler (record { kind = kind; deps = deps; what = what }) deed)))
        ∙ sym (lines_then q.client g.journal (map (dropped k) (places_from 0 (is_displaced_by kind) g.handlers) ++ registered k (new_handler (record { kind = kind; deps = deps; what = what }) deed) ∷ [])));
  }

  -- code is registered
  pub code_registers : (n : Name) (kind : HandlerKind) (deps : List Name) (tree : HandlerTree) (lines : List OutLine) → Holds place kind deps (code tree) p q c d → q.shelf ≡ p.shelf
      → Registers n (record { kind = kind; deps = deps; what = syntax.code tree } ∷ []) place p q lines lines
  code_registers n kind deps tree lines holds shelf = record {
    rest = holds.rest;
    changed = d;
    instances = holds.set;
    gains = λ k i g began h. subst (λ s. HasRegistry i (with_handler k (record { kind = kind; deps = deps; what = syntax.code tree }) (code tree) (record g { shelf = s })) place q began lines)
        (ap marks_of shelf ∙ sym h.shelf) (held_gains kind deps (syntax.code tree) (code tree) holds k i g began lines h);
  }

  -- the first closure of a label is registered
  pub host_registers : (n : Name) (kind : HandlerKind) (deps : List Name) (label : Text) (held : Closure F) (lines : List OutLine) → Holds place kind deps (host held.label held.number) p q c d
      → first_of label p.shelf ≡ Some held → q.shelf ≡ without_first label p.shelf
      → Registers n (record { kind = kind; deps = deps; what = syntax.host label } ∷ []) place p q lines lines
  host_registers n kind deps label held lines holds first shelf = record {
    rest = holds.rest;
    changed = d;
    instances = holds.set;
    gains = λ k i g began h.
        let number : at g.shelf label ≡ Some held.number = ap (λ s. at s label) h.shelf ∙ first_seen label p.shelf ∙ ap (option_map (λ x. x.number)) first in
        let left : marks_of q.shelf ≡ making.without_first label g.shelf = ap marks_of shelf ∙ sym (without_seen label p.shelf) ∙ ap (making.without_first label) (sym h.shelf) in
        subst (λ o. HasRegistry i (with_host o k n (record { kind = kind; deps = deps; what = syntax.host label }) label g) place q began lines) (sym number)
        (subst (λ s. HasRegistry i (with_handler k (record { kind = kind; deps = deps; what = syntax.host label }) (host label held.number) (record g { shelf = s })) place q began lines) left
        (subst (λ t. HasRegistry i (with_handler k (record { kind = kind; deps = deps; what = syntax.host label }) (host t held.number) (record g { shelf = marks_of q.shelf })) place q began lines) (first_label label p.shelf held first)
        (held_gains kind deps (syntax.host label) (host held.label held.number) holds k i g began lines h)));
  }

-- no closure of the label is left
pub none_registers : {F : Type 0} (place : ℕ) (p q : Page F) (n : Name) (kind : HandlerKind) (deps : List Name) (label : Text) (told tells : List OutLine) → place < length p.instances.items
    → q ≡ record p { shelf = q.shelf } → first_of label p.shelf ≡ None → q.shelf ≡ without_first label p.shelf → tells ≡ told ++ line.NoHost p.client n label ∷ []
    → Registers n (record { kind = kind; deps = deps; what = syntax.host label } ∷ []) place p q told tells
none_registers place p q n kind deps label told tells within rest first shelf lines =
    let t = there p.instances.items place within in
    let same : q.instances ≡ p.instances = ap (λ x. x.instances) rest in
    record {
      rest = rest ∙ ap (λ is. record p { instances = is; shelf = q.shelf }) (sym same);
      changed = t.one;
      instances = ap (λ is. is.items) same ∙ sym (set_self p.instances.items place t.one t.is);
      gains = λ k i g began h.
          let number : at g.shelf label ≡ None = ap (λ s. at s label) h.shelf ∙ first_seen label p.shelf ∙ ap (option_map (λ x. x.number)) first in
          subst (λ o. HasRegistry i (with_host o k n (record { kind = kind; deps = deps; what = syntax.host label }) label g) place q began tells) (sym number) (record {
            instance = h.instance;
            there = ap (λ is. slice_get is.items place) same ∙ h.there;
            sees = h.sees;
            shelf = h.shelf ∙ ap marks_of (sym (none_without label p.shelf first) ∙ sym shelf);
            lines = lines ∙ ap (λ ls. ls ++ line.NoHost p.client n label ∷ []) h.lines
                ∙ append_assoc began (lines_of_all p.client g.journal) (line.NoHost p.client n label ∷ [])
                ∙ ap (λ x. began ++ (lines_of_all x.client g.journal ++ line.NoHost x.client n label ∷ [])) (sym rest)
                ∙ ap (λ ls. began ++ ls) (sym (lines_then q.client g.journal (no_host k n label ∷ [])));
          });
    }

-- One after another.
pub none_yet : {F : Type 0} (place : ℕ) (p : Page F) (n : Name) (lines : List OutLine) → place < length p.instances.items → Registers n [] place p p lines lines
none_yet place p n lines within =
    let t = there p.instances.items place within in
    record {
      rest = refl;
      changed = t.one;
      instances = sym (set_self p.instances.items place t.one t.is);
      gains = λ k i g began h. h;
    }

pub registers_then : {F : Type 0} (place : ℕ) (n : Name) (xs ys : List Registered) (p q r : Page F) (told tells more : List OutLine)
    → Registers n xs place p q told tells → Registers n ys place q r tells more → Registers n (xs ++ ys) place p r told more
registers_then place n xs ys p q r told tells more one two = record {
  rest = two.rest ∙ ap {A = Page _} (λ x. record x { instances = r.instances; shelf = r.shelf }) one.rest;
  changed = two.changed;
  instances = two.instances ∙ ap (λ cs. slice_set cs place two.changed) one.instances ∙ set_twice p.instances.items place one.changed two.changed;
  gains = λ k i g began h. subst (λ x. HasRegistry i x place r began more) (sym (fold-append (λ x entry. register_once entry.what k n entry x) g xs ys)) (two.gains k i (registered_all k n xs g) began (one.gains k i g began h));
}

-- What is known of each closure stays known with one instance changed, and with other closures on the shelf.
pub words_kept : {F : Type 0} (answers : Answers F) (p q : Page F) (place : ℕ) (d : Instance F) → q.instances.items ≡ slice_set p.instances.items place d
    → KeepTheirWord answers d.held → All (IsHost answers) q.shelf → KeepWords answers p → KeepWords answers q
words_kept answers p q place d set word shelf words = record {
  instances = subst (All (λ x. KeepTheirWord answers x.held)) (sym set) (All-set (λ x. KeepTheirWord answers x.held) p.instances.items place d word words.instances);
  shelf = shelf;
}

-- and with one instance more
pub words_pushed : {F : Type 0} (answers : Answers F) (p q : Page F) (c : Instance F) → q.instances.items ≡ p.instances.items ++ c ∷ [] → q.shelf ≡ p.shelf
    → KeepTheirWord answers c.held → KeepWords answers p → KeepWords answers q
words_pushed answers p q c pushed shelf word words = record {
  instances = subst (All (λ x. KeepTheirWord answers x.held)) (sym pushed) (All-push (λ x. KeepTheirWord answers x.held) p.instances.items c words.instances word);
  shelf = subst (All (IsHost answers)) (sym shelf) words.shelf;
}
