-- What of an instance never changes once it was made: its number, name, text, links and status, and what
-- its handlers do; and one without variables gets none. So what is said of an evaluation, of an instance
-- that isn't run, or of a run of a handler holds from then on.
use Rattle.std.proofs.Common.{◌≡◌, ℕ, zero, suc, Bool, true, false, List, [], ◌∷◌, ◌++◌, refl, ap, sym, ◌∙◌, Contains}
use Rattle.std.specs.List.{list_any}
use Rattle.std.specs.Prelude.{map, slice_get, ◌==◌, Option, Some, None, is_some, option_map, if◌then◌else◌}
use Rattle.std.proofs.Math.Path.{subst}
use Rattle.std.proofs.lemmas.Bool.{false≢true}
use Rattle.std.proofs.lemmas.Option.{slice_get-map, same_Some}
use Rattle.output_lines.specs.declared.words.FaultPlace.{FaultPlace}
use Rattle.output_lines.specs.declared.words.HandlerEnd.{HandlerEnd}
use Rattle.output_lines.specs.declared.words.HandlerEnd.TheVariants.{Dropped}
use Rattle.output_lines.specs.declared.words.InstanceStatus.{InstanceStatus}
use Rattle.output_lines.specs.declared.words.InstanceStatus.TheVariants.{Unrun}
use Rattle.core_model.specs.Names.{Name, at}
use Rattle.core_model.specs.Sources.{Text}
use Rattle.client_model.specs.Language.{Language, Slots, Ran, Evaluated, slot_at}
use Rattle.client_model.specs.Instance.{Instance, Handler, Deed, with_change, with_end, with_dropped, ended_as}
use Rattle.client_model.specs.Journal.{Journal, bag_left}
use Rattle.client_model.specs.Runtime.{Runtime}
use Rattle.client_model.specs.Running.{run_deed}
use Rattle.world_laws.proofs.Members.{map_in, tail_in}
use Rattle.journal_laws.specs.Values.{values_left, export_left, imports_left, is_failure_of, link_failed, IsEvaluationOf, IsUnrun, IsRunOf}

-- what never changes of an instance
pub record Core : Type 0 where
  pub number : ℕ
  pub name : Name
  pub text : Text
  pub links : List (Name × ℕ)
  pub status : InstanceStatus
  pub deeds : List Deed

abbrev pub core_of : Instance → Core
core_of i = record { number = i.number; name = i.name; text = i.text; links = i.links; status = i.status; deeds = map (λ h. h.deed) i.handlers }

-- the instance, as it is later
pub record Later (instances : List Instance) (i : Instance) : Type 0 where
  pub instance : Instance
  pub there : Contains instances instance
  pub same : core_of instance ≡ core_of i
  pub empty : i.values ≡ [] → instance.values ≡ []

-- each instance is there later
abbrev pub Stay : List Instance → List Instance → Type 0
Stay before after = (i : Instance) → Contains before i → Later after i

pub stay_same : (before after : List Instance) → after ≡ before → Stay before after
stay_same before after e i c = record { instance = i; there = subst (λ is. Contains is i) (sym e) c; same = refl; empty = λ h. h }

pub stay_then : (first second third : List Instance) → Stay first second → Stay second third → Stay first third
stay_then first second third h g i c =
    let j : Later second i = h i c in
    let l : Later third j.instance = g j.instance j.there in
    record { instance = l.instance; there = l.there; same = l.same ∙ j.same; empty = λ e. l.empty (j.empty e) }

pub stay_more : (i : Instance) (instances : List Instance) → Stay instances (i ∷ instances)
stay_more i instances j c = record { instance = j; there = tail_in i instances j c; same = refl; empty = λ h. h }

pub stay_change : (f : Instance → Instance) → ((i : Instance) → core_of (f i) ≡ core_of i) → ((i : Instance) → i.values ≡ [] → (f i).values ≡ []) → (k : ℕ) (instances : List Instance) → Stay instances (with_change k f instances)
stay_change f s v k instances i c = record {
  instance = if i.number == k then f i else i;
  there = map_in (λ j. if j.number == k then f j else j) instances i c;
  same = same_by (i.number == k);
  empty = λ h. empty_by (i.number == k) h;
}
  where
    same_by : (b : Bool) → core_of (if b then f i else i) ≡ core_of i
    same_by true = s i
    same_by false = refl

    empty_by : (b : Bool) → i.values ≡ [] → (if b then f i else i).values ≡ []
    empty_by true h = v i h
    empty_by false h = h

-- Handlers.

pub deeds_ended : (spot : ℕ) (end : HandlerEnd) (handlers : List Handler) → map (λ h. h.deed) (with_end spot end handlers) ≡ map (λ h. h.deed) handlers
deeds_ended spot end [] = refl
deeds_ended zero end (h ∷ handlers) = refl
deeds_ended (suc spot) end (h ∷ handlers) = ap (λ deeds. h.deed ∷ deeds) (deeds_ended spot end handlers)

pub deeds_dropped : (test : Handler → Bool) (handlers : List Handler) → map (λ h. h.deed) (with_dropped test handlers) ≡ map (λ h. h.deed) handlers
deeds_dropped test [] = refl
deeds_dropped test (h ∷ handlers) = ap (λ d. d ∷ map (λ x. x.deed) (with_dropped test handlers)) (by (test h)) ∙ ap (λ deeds. h.deed ∷ deeds) (deeds_dropped test handlers)
  where
    by : (b : Bool) → (if b then ended_as Dropped h else h).deed ≡ h.deed
    by true = refl
    by false = refl

-- a handler with this deed stands at the place
pub record Stands (handlers : List Handler) (spot : ℕ) (deed : Deed) : Type 0 where
  pub handler : Handler
  pub stands : slice_get handlers spot ≡ Some handler
  pub deed_is : handler.deed ≡ deed

pub stands_later : (before after : List Handler) → map (λ h. h.deed) after ≡ map (λ h. h.deed) before → (spot : ℕ) (h : Handler) → slice_get before spot ≡ Some h → Stands after spot h.deed
stands_later before after e spot h s = by (slice_get after spot) refl
  where
    deed_at : option_map (λ (x : Handler). x.deed) (slice_get after spot) ≡ Some h.deed
    deed_at = sym (slice_get-map (λ (x : Handler). x.deed) after spot) ∙ ap (λ deeds. slice_get deeds spot) e ∙ slice_get-map (λ (x : Handler). x.deed) before spot ∙ ap (option_map (λ (x : Handler). x.deed)) s

    by : (o : Option Handler) → slice_get after spot ≡ o → Stands after spot h.deed
    by None g = absurd (false≢true (ap is_some (sym (ap (option_map (λ (x : Handler). x.deed)) g) ∙ deed_at)))
    by (Some x) g = record { handler = x; stands = g; deed_is = same_Some x.deed h.deed (sym (ap (option_map (λ (y : Handler). y.deed)) g) ∙ deed_at) }

-- What is told of an instance holds later.

abbrev links_failed : Journal → List (Name × ℕ) → Bool
links_failed front links = list_any (λ link. list_any (is_failure_of link.1) front) links

abbrev imports_by : Language → Journal → Core → Slots
imports_by language front c = map (λ b. (b.local, export_left front (at c.links b.dependency) b.exported)) (language.bindings c.name c.text)

-- an instance that isn't run, and has no variables at all
pub record IsEmpty (r : Runtime) (front : Journal) (k : ℕ) (n : Name) : Type 0 where
  pub instance : Instance
  pub made : Contains r.instances instance
  pub number : instance.number ≡ k
  pub name : instance.name ≡ n
  pub status : instance.status ≡ Unrun
  pub links : link_failed front instance ≡ true
  pub empty : instance.values ≡ []

pub unset_so : (r : Runtime) (front : Journal) (k : ℕ) (n : Name) → IsEmpty r front k n → IsUnrun r front k n
unset_so r front k n h = record { instance = h.instance; made = h.made; number = h.number; name = h.name; status = h.status; links = h.links; unset = λ x. ap (λ values. slot_at values x) h.empty }

module _ (language : Language) (r s : Runtime) (stay : Stay r.instances s.instances) (front : Journal) (k : ℕ) (n : Name) where
  pub evaluation_later : (e : Evaluated) → IsEvaluationOf language r front k n e → IsEvaluationOf language s front k n e
  evaluation_later e h =
      let l : Later s.instances h.instance = stay h.instance h.made in
      record {
        instance = l.instance;
        made = l.there;
        number = ap (λ (c : Core). c.number) l.same ∙ h.number;
        name = ap (λ (c : Core). c.name) l.same ∙ h.name;
        status = ap (λ (c : Core). c.status) l.same ∙ h.status;
        links = ap (λ (c : Core). links_failed front c.links) l.same ∙ h.links;
        value = h.value ∙ ap (λ (c : Core). language.evaluated n c.text (imports_by language front c) (bag_left front n)) (sym l.same);
      }

  pub empty_later : IsEmpty r front k n → IsEmpty s front k n
  empty_later h =
      let l : Later s.instances h.instance = stay h.instance h.made in
      record {
        instance = l.instance;
        made = l.there;
        number = ap (λ (c : Core). c.number) l.same ∙ h.number;
        name = ap (λ (c : Core). c.name) l.same ∙ h.name;
        status = ap (λ (c : Core). c.status) l.same ∙ h.status;
        links = ap (λ (c : Core). links_failed front c.links) l.same ∙ h.links;
        empty = l.empty h.empty;
      }

  pub run_later : (spot : ℕ) (at : FaultPlace) (left : Ran) → IsRunOf language r front k spot n at left → IsRunOf language s front k spot n at left
  run_later spot at left h =
      let l : Later s.instances h.instance = stay h.instance h.made in
      let d : Stands l.instance.handlers spot h.handler.deed = stands_later h.instance.handlers l.instance.handlers (ap (λ (c : Core). c.deeds) l.same) spot h.handler h.stands in
      record {
        instance = l.instance;
        made = l.there;
        number = ap (λ (c : Core). c.number) l.same ∙ h.number;
        name = ap (λ (c : Core). c.name) l.same ∙ h.name;
        handler = d.handler;
        stands = d.stands;
        arguments = h.arguments;
        takes = h.takes;
        value = h.value ∙ ap (λ (c : Core). run_deed language h.handler.deed (values_left front k ++ imports_by language front c) h.arguments (bag_left front n)) (sym l.same) ∙ ap (λ deed. run_deed language deed (values_left front k ++ imports_left language front l.instance) h.arguments (bag_left front n)) (sym d.deed_is);
      }
