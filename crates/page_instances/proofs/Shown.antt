-- The lines that show an instance of the model are those that show what is kept of it.
use Rattle.std.proofs.Common.{◌≡◌, ℕ, List, [], ◌∷◌, map, refl, ap, sym, ◌∙◌}
use Rattle.output_lines.specs.declared.out_line.OutLine.TheVariants as line
use Rattle.core_model.specs.Names.{Name}
use Rattle.client_model.specs.Instance as model
use Rattle.client_model.specs.Instance.{Deed, code, host}
use Rattle.client_model.specs.Language.{slot_at}
use Rattle.client_model.specs.Printing.{handled_by, handler_line, instance_lines}
use Rattle.page_instances.specs.declared.instance.Instance.{Instance}
use Rattle.page_instances.specs.Marks.{handled_of, mark_of}
use Rattle.page_instances.specs.Seeing.{Sees}
use Rattle.page_instances.specs.Showing.{lines_in, mark_line, export_lines}

same_handled : (deed : Deed) → handled_by deed ≡ handled_of deed
same_handled (code tree) = refl
same_handled (host label number) = refl

handlers_shown : (hs : List model.Handler) → map handler_line hs ≡ map mark_line (map mark_of hs)
handlers_shown [] = refl
handlers_shown (h ∷ hs) = ap (λ d. line.Handler h.kind d h.end ∷ map handler_line hs) (same_handled h.deed)
    ∙ ap (λ ls. mark_line (mark_of h) ∷ ls) (handlers_shown hs)

module _ {F : Type 0} (i : model.Instance) (c : Instance F) (s : Sees i c) where
  -- an instance and its handlers
  pub fate_shown : (k : ℕ) → i.number ≡ k → instance_lines i ≡ lines_in k c
  fate_shown k e =
      ap (λ m. line.Instance m i.name i.version i.status i.fate ∷ map handler_line i.handlers) e
      ∙ ap (λ n. line.Instance k n i.version i.status i.fate ∷ map handler_line i.handlers) s.name
      ∙ ap (λ v. line.Instance k c.name v i.status i.fate ∷ map handler_line i.handlers) s.version
      ∙ ap (λ t. line.Instance k c.name c.version t i.fate ∷ map handler_line i.handlers) s.status
      ∙ ap (λ f. line.Instance k c.name c.version c.status f ∷ map handler_line i.handlers) s.fate
      ∙ ap (λ ls. line.Instance k c.name c.version c.status c.fate ∷ ls) (handlers_shown i.handlers ∙ ap (map mark_line) s.marks)

  -- what its exports hold
  pub values_shown : (n : Name) → map (λ x. line.Value n x (slot_at i.values x)) i.exports ≡ export_lines n c.values.items c.exports
  values_shown n = ap (λ vs. export_lines n vs i.exports) s.values ∙ ap (export_lines n c.values.items) s.exports
