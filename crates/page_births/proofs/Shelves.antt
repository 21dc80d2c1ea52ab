-- The closures that are left, as the code has them and as the model does.
use Rattle.std.proofs.Common.{◌≡◌, ℕ, Bool, true, false, List, [], ◌∷◌, Option, Some, None, refl, ap, sym, ◌∙◌}
use Rattle.std.specs.Prelude.{cond, option_map, bytes_eq}
use Rattle.std.proofs.lemmas.Option.{none-some, same_Some}
use Rattle.std.specs.Cmp.Lexicographic.{bytes_decides}
use Rattle.core_model.specs.Names.{same_name, at}
use Rattle.client_model.specs.Making as model
use Rattle.handler_table.specs.Held.{Closure}
use Rattle.handler_table.specs.Shelf.{first_of, has_label, marks_of, without_first}

module _ {F : Type 0} where
  -- the number of a label is that of its first closure
  pub first_seen : (label : List ℕ) (hs : List (Closure F)) → at (marks_of hs) label ≡ option_map (λ h. h.number) (first_of label hs)
  first_seen label [] = refl
  first_seen label (h ∷ hs) = by (has_label label h) (first_seen label hs)
    where
      by : (b : Bool) → at (marks_of hs) label ≡ option_map (λ h. h.number) (first_of label hs)
          → cond b (Some h.number) (at (marks_of hs) label) ≡ option_map (λ h. h.number) (cond b (Some h) (first_of label hs))
      by true rest = refl
      by false rest = rest

  pub without_seen : (label : List ℕ) (hs : List (Closure F)) → model.without_first label (marks_of hs) ≡ marks_of (without_first label hs)
  without_seen label [] = refl
  without_seen label (h ∷ hs) = by (has_label label h) (without_seen label hs)
    where
      by : (b : Bool) → model.without_first label (marks_of hs) ≡ marks_of (without_first label hs)
          → cond b (marks_of hs) ((h.label, h.number) ∷ model.without_first label (marks_of hs)) ≡ marks_of (cond b hs (h ∷ without_first label hs))
      by true rest = refl
      by false rest = ap (λ rows. (h.label, h.number) ∷ rows) rest

  -- what is found has the label
  pub first_label : (label : List ℕ) (hs : List (Closure F)) (h : Closure F) → first_of label hs ≡ Some h → h.label ≡ label
  first_label label [] h e = absurd (none-some h e)
  first_label label (g ∷ hs) h e = by (has_label label g) refl (first_label label hs h) e
    where
      by : (b : Bool) → has_label label g ≡ b → (first_of label hs ≡ Some h → h.label ≡ label) → cond b (Some g) (first_of label hs) ≡ Some h → h.label ≡ label
      by true t rest e = ap (λ x. x.label) (sym (same_Some g h e)) ∙ (bytes_decides g.label label).0 t
      by false t rest e = rest e

  -- where none is found all are left
  pub none_without : (label : List ℕ) (hs : List (Closure F)) → first_of label hs ≡ None → without_first label hs ≡ hs
  none_without label [] e = refl
  none_without label (h ∷ hs) e = by (has_label label h) (none_without label hs) e
    where
      by : (b : Bool) → (first_of label hs ≡ None → without_first label hs ≡ hs) → cond b (Some h) (first_of label hs) ≡ None → cond b hs (h ∷ without_first label hs) ≡ h ∷ hs
      by true rest e = absurd (none-some h (sym e))
      by false rest e = ap (λ gs. h ∷ gs) (rest e)
