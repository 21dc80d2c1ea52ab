-- Each evaluation, each instance that isn't run, and each run of a handler is told as it is, all along what
-- a client does.
use Rattle.std.proofs.Common.{◌≡◌, ℕ, List, [], ◌∷◌, ◌++◌, refl, ap, sym, ◌∙◌}
use Rattle.std.specs.Prelude.{map, ◌||◌, Option, Some, None, ⊤}
use Rattle.std.specs.List.{list_any}
use Rattle.std.proofs.Math.Path.{subst}
use Rattle.std.proofs.lemmas.List.{append_assoc, append-nil}
use Rattle.hmr_types.specs.declared.value.Slot.{Slot}
use Rattle.core_model.specs.Names.{Name, at}
use Rattle.client_model.specs.Language.{Language, Slots, Binding, slot_at}
use Rattle.client_model.specs.Instance.{Instance, numbered}
use Rattle.client_model.specs.Journal.{Happening, Journal, made, evaluated, not_run, registered, no_host, ran, dropped, ended, gave_up, gave_up_all, told}
use Rattle.client_model.specs.Runtime.{Runtime}
use Rattle.client_model.specs.Running.{export_in, export_by}
use Rattle.client_model.specs.Making.{has_failed_link}
use Rattle.journal_laws.specs.Values.{export_left, is_failure_of, IsEvaluationOf, IsRunOf}
use Rattle.journal_laws.proofs.ValuesAdding.{values_in}
use Rattle.journal_laws.proofs.ValuesLeft.{Reads}
use Rattle.journal_laws.proofs.EvaluationsLater.{Stay, IsEmpty, evaluation_later, empty_later, run_later}

-- what one thing tells is so, after what was seen before it
abbrev pub IsRight : Language → Runtime → Journal → Happening → Type 0
IsRight language r seen (made i) = ⊤
IsRight language r seen (evaluated k n before e) = IsEvaluationOf language r seen k n e
IsRight language r seen (not_run k n) = IsEmpty r seen k n
IsRight language r seen (registered k h) = ⊤
IsRight language r seen (no_host k n label) = ⊤
IsRight language r seen (ran k s n at before left) = IsRunOf language r seen k s n at left
IsRight language r seen (dropped k s) = ⊤
IsRight language r seen (ended k n fate) = ⊤
IsRight language r seen (gave_up n) = ⊤
IsRight language r seen gave_up_all = ⊤
IsRight language r seen (told l) = ⊤

-- and so is what each thing tells
abbrev pub AreRight : Language → Runtime → Journal → Journal → Type 0
AreRight language r seen [] = ⊤
AreRight language r seen (h ∷ journal) = IsRight language r seen h × AreRight language r (seen ++ h ∷ []) journal

module _ (language : Language) where
  right_later : (r s : Runtime) → Stay r.instances s.instances → (seen : Journal) (h : Happening) → IsRight language r seen h → IsRight language s seen h
  right_later r s stay seen (made i) t = tt
  right_later r s stay seen (evaluated k n before e) t = evaluation_later language r s stay seen k n e t
  right_later r s stay seen (not_run k n) t = empty_later language r s stay seen k n t
  right_later r s stay seen (registered k h) t = tt
  right_later r s stay seen (no_host k n label) t = tt
  right_later r s stay seen (ran k spot n at before left) t = run_later language r s stay seen k n spot at left t
  right_later r s stay seen (dropped k spot) t = tt
  right_later r s stay seen (ended k n fate) t = tt
  right_later r s stay seen (gave_up n) t = tt
  right_later r s stay seen gave_up_all t = tt
  right_later r s stay seen (told l) t = tt

  pub rights_later : (r s : Runtime) → Stay r.instances s.instances → (seen journal : Journal) → AreRight language r seen journal → AreRight language s seen journal
  rights_later r s stay seen [] t = tt
  rights_later r s stay seen (h ∷ journal) t = (right_later r s stay seen h t.0, rights_later r s stay (seen ++ h ∷ []) journal t.1)

  pub rights_join : (r : Runtime) (seen a b : Journal) → AreRight language r seen a → AreRight language r (seen ++ a) b → AreRight language r seen (a ++ b)
  rights_join r seen [] b t u = subst (λ before. AreRight language r before b) (append-nil seen) u
  rights_join r seen (h ∷ a) b t u = (t.0, rights_join r (seen ++ h ∷ []) a b t.1 (subst (λ before. AreRight language r before b) (sym (append_assoc seen (h ∷ []) a)) u))

  -- of a whole journal, each thing is right after all before it
  pub right_at : (r : Runtime) (seen front : Journal) (h : Happening) (back : Journal) → AreRight language r seen (front ++ h ∷ back) → IsRight language r (seen ++ front) h
  right_at r seen [] h back t = subst (λ before. IsRight language r before h) (sym (append-nil seen)) t.0
  right_at r seen (x ∷ front) h back t = subst (λ before. IsRight language r before h) (append_assoc seen (x ∷ []) front) (right_at r (seen ++ x ∷ []) front h back t.1)

-- What the journal so far tells of what links hold.

export_is : (r : Runtime) (seen : Journal) → Reads r seen → (k : Option ℕ) (x : Name) → export_by k r.instances x ≡ export_left seen k x
export_is r seen reads None x = refl
export_is r seen reads (Some k) x = by (numbered r.instances k) ∙ ap (λ values. slot_at values x) (reads.values k)
  where
    by : (o : Option Instance) → export_in o x ≡ slot_at (values_in o) x
    by None = refl
    by (Some i) = refl

abbrev row_before : Name → Slots → Slot → Slots
row_before x slots slot = (x, slot) ∷ slots

pub imported_are : (r : Runtime) (seen : Journal) → Reads r seen → (bindings : List Binding) (links : List (Name × ℕ)) → ◌≡◌ {A = Slots} (map (λ b. (b.local, export_by (at links b.dependency) r.instances b.exported)) bindings) (map (λ b. (b.local, export_left seen (at links b.dependency) b.exported)) bindings)
imported_are r seen reads [] links = refl
imported_are r seen reads (b ∷ bindings) links =
    ap (row_before b.local (map (λ b. (b.local, export_by (at links b.dependency) r.instances b.exported)) bindings)) (export_is r seen reads (at links b.dependency) b.exported)
    ∙ ap (λ slots. row_before b.local slots (export_left seen (at links b.dependency) b.exported)) (imported_are r seen reads bindings links)

pub links_are : (r : Runtime) (seen : Journal) → Reads r seen → (links : List (Name × ℕ)) → has_failed_link r.instances links ≡ list_any (λ link. list_any (is_failure_of link.1) seen) links
links_are r seen reads [] = refl
links_are r seen reads (l ∷ links) = ap (λ b. b || has_failed_link r.instances links) (reads.failures l.1) ∙ ap (λ b. list_any (is_failure_of l.1) seen || b) (links_are r seen reads links)
