-- Some of the instances are watched, by their numbers. Where no run of a handler of these assigns, each of
-- them that is linked to such alone holds what its evaluation left over what the older instances hold; or
-- nothing, where one that it is linked to had failed.
use Rattle.std.proofs.Common.{◌≡◌, ◌⊎◌, inl, inr, ℕ, ◌≤◌, ◌<◌, Bool, true, false, List, [], ◌∷◌, ◌++◌, length, refl, ap, sym, ◌∙◌, arith}
use Rattle.std.specs.Prelude.{map, fold, find, cond, not, ◌==◌, ◌||◌, Option, Some, None, option_map, if◌then◌else◌, ⊤}
use Rattle.std.specs.List.{list_any, list_all}
use Rattle.std.proofs.Math.Path.{subst}
use Rattle.std.proofs.lemmas.Bool.{eqb-true}
use Rattle.std.proofs.lemmas.List.{length-map}
use Rattle.std.proofs.lemmas.List.Elements.{Contains-append_left, Contains-append_right}
use Rattle.hmr_types.specs.declared.value.Slot.{Slot}
use Rattle.hmr_types.specs.declared.value.Slot.TheVariants.{Unset}
use Rattle.output_lines.specs.declared.words.FaultPlace.{FaultPlace}
use Rattle.output_lines.specs.declared.words.InstanceStatus.{InstanceStatus}
use Rattle.output_lines.specs.declared.words.InstanceStatus.TheVariants.{Unrun}
use Rattle.core_model.specs.Names.{Name, at}
use Rattle.core_model.specs.Sources.{Text}
use Rattle.core_model.proofs.Naming.{both_true}
use Rattle.client_model.specs.Language.{Language, Slots, Bag, Binding, Ran, slot_at}
use Rattle.client_model.specs.Instance.{Instance, Handler, is_done_status, numbered, with_change, with_dropped}
use Rattle.client_model.specs.Journal.{Journal, ran}
use Rattle.client_model.specs.Runtime.{Runtime, Did, and_then, bag_of}
use Rattle.client_model.specs.Running.{assigned, export_in, export_by, imported_slots, after_run, did_run}
use Rattle.client_model.specs.Making.{Birth, is_failed, has_failed_link, status_after, born, evaluate, register_in, make, make_run, make_unrun}
use Rattle.client_model.proofs.Acts.{IsKept, by_make}
use Rattle.world_laws.proofs.Members.{head_in}
use Rattle.world_laws.proofs.Frames.{found_in}
use Rattle.journal_laws.specs.FreshValues.{NothingAssignedOf}

-- of an instance what is made with it, and stays where no handler assigns; the values of those alone that are
-- watched
pub record Gist : Type 0 where
  pub number : ℕ
  pub name : Name
  pub text : Text
  pub links : List (Name × ℕ)
  pub status : InstanceStatus
  pub values : Slots

abbrev pub gist : (ℕ → Bool) → Instance → Gist
gist watched i = record {
  number = i.number;
  name = i.name;
  text = i.text;
  links = i.links;
  status = i.status;
  values = if watched i.number then i.values else [];
}

abbrev pub gists : (ℕ → Bool) → List Instance → List Gist
gists watched instances = map (gist watched) instances

-- every instance
abbrev pub every : ℕ → Bool
every k = true

-- the one of this number
abbrev pub gist_at : List Gist → ℕ → Option Gist
gist_at gs k = find (λ g. g.number == k) gs

abbrev pub is_failed_gist : Option Gist → Bool
is_failed_gist None = false
is_failed_gist (Some g) = not (is_done_status g.status)

-- some link is to one that faulted or wasn't run
abbrev pub failed_link : List Gist → List (Name × ℕ) → Bool
failed_link gs links = list_any (λ link. is_failed_gist (gist_at gs link.1)) links

abbrev pub export_gist : Option Gist → Name → Slot
export_gist None x = Unset
export_gist (Some g) x = slot_at g.values x

abbrev pub export_over : Option ℕ → List Gist → Name → Slot
export_over None gs x = Unset
export_over (Some k) gs x = export_gist (gist_at gs k) x

-- what the imports of a text hold, by their local names, where its links are these
abbrev pub slots_over : Language → List Gist → List (Name × ℕ) → Name → Text → Slots
slots_over language gs links n t = map (λ b. (b.local, export_over (at links b.dependency) gs b.exported)) (language.bindings n t)

-- it holds what its evaluation left, over what the older ones hold
pub record IsEvaluated (language : Language) (older : List Gist) (g : Gist) : Type 0 where
  pub bag : Bag
  pub status : g.status ≡ status_after (language.evaluated g.name g.text (slots_over language older g.links g.name g.text) bag).fault
  pub values : g.values ≡ (language.evaluated g.name g.text (slots_over language older g.links g.name g.text) bag).vars

-- by whether a link had failed
abbrev pub IsMade : Bool → Language → List Gist → Gist → Type 0
IsMade true language older g = (g.status ≡ Unrun) × (g.values ≡ [])
IsMade false language older g = IsEvaluated language older g

-- a link, if there is one, is to one that is watched
abbrev pub is_watched : (ℕ → Bool) → Option ℕ → Bool
is_watched watched None = true
is_watched watched (Some k) = watched k

-- what a text imports is linked to such alone
abbrev pub are_watched : (ℕ → Bool) → Language → List (Name × ℕ) → Name → Text → Bool
are_watched watched language links n t = list_all (λ b. is_watched watched (at links b.dependency)) (language.bindings n t)

-- it is made so, where it and what it imports are watched
abbrev pub IsMadeOf : (ℕ → Bool) → Language → List Gist → Gist → Type 0
IsMadeOf watched language older g =
    watched g.number ≡ true → are_watched watched language g.links g.name g.text ≡ true →
    IsMade (failed_link older g.links) language older g

-- the newest first
abbrev pub AreMade : (ℕ → Bool) → Language → List Gist → Type 0
AreMade watched language [] = ⊤
AreMade watched language (g ∷ older) = IsMadeOf watched language older g × AreMade watched language older

-- The same of instances.

pub numbered_gist : (watched : ℕ → Bool) (instances : List Instance) (k : ℕ) → gist_at (gists watched instances) k ≡ option_map (gist watched) (numbered instances k)
numbered_gist watched [] k = refl
numbered_gist watched (i ∷ instances) k = by (i.number == k) (numbered_gist watched instances k)
  where
    by : (b : Bool) → gist_at (gists watched instances) k ≡ option_map (gist watched) (numbered instances k)
        → cond b (Some (gist watched i)) (gist_at (gists watched instances) k) ≡ option_map (gist watched) (cond b (Some i) (numbered instances k))
    by true h = refl
    by false h = h

module _ (watched : ℕ → Bool) where
  -- one that is watched keeps its values
  pub whole_gist : (i : Instance) → watched i.number ≡ true → gist watched i ≡ gist every i
  whole_gist i e = ap (λ b. record (gist every i) { values = if b then i.values else [] }) e

  failed_one : (o : Option Instance) → is_failed_gist (option_map (gist watched) o) ≡ is_failed o
  failed_one None = refl
  failed_one (Some i) = refl

  failed_same : (instances : List Instance) (links : List (Name × ℕ)) → failed_link (gists watched instances) links ≡ has_failed_link instances links
  failed_same instances [] = refl
  failed_same instances (link ∷ links) =
      ap (λ b. b || failed_link (gists watched instances) links) (ap is_failed_gist (numbered_gist watched instances link.1) ∙ failed_one (numbered instances link.1))
      ∙ ap (λ b. is_failed (numbered instances link.1) || b) (failed_same instances links)

  export_found : (instances : List Instance) (k : ℕ) (x : Name) → watched k ≡ true → (o : Option Instance) → numbered instances k ≡ o → export_in o x ≡ export_gist (option_map (gist watched) o) x
  export_found instances k x h None e = refl
  export_found instances k x h (Some i) e =
      let number : i.number ≡ k = eqb-true i.number k (found_in (λ j. j.number == k) instances i e).1 in
      ap (λ g. export_gist (Some g) x) (sym (whole_gist i (ap watched number ∙ h)))

  export_one : (k : Option ℕ) (instances : List Instance) (x : Name) → is_watched watched k ≡ true → export_by k instances x ≡ export_over k (gists watched instances) x
  export_one None instances x h = refl
  export_one (Some k) instances x h = export_found instances k x h (numbered instances k) refl ∙ ap (λ o. export_gist o x) (sym (numbered_gist watched instances k))

  slots_same : (language : Language) (instances : List Instance) (links : List (Name × ℕ)) (n : Name) (t : Text) → are_watched watched language links n t ≡ true → imported_slots language instances links n t ≡ slots_over language (gists watched instances) links n t
  slots_same language instances links n t all = by (language.bindings n t) all
    where
      by : (bindings : List Binding) → list_all (λ b. is_watched watched (at links b.dependency)) bindings ≡ true
          → map {B = Name × Slot} (λ b. (b.local, export_by (at links b.dependency) instances b.exported)) bindings ≡ map (λ b. (b.local, export_over (at links b.dependency) (gists watched instances) b.exported)) bindings
      by [] all = refl
      by (b ∷ bindings) all =
          let parts = both_true (is_watched watched (at links b.dependency)) (list_all (λ b. is_watched watched (at links b.dependency)) bindings) all in
          ap (λ slot. (b.local, slot) ∷ map (λ b. (b.local, export_by (at links b.dependency) instances b.exported)) bindings) (export_one (at links b.dependency) instances b.exported parts.0)
          ∙ ap (λ rows. (b.local, export_over (at links b.dependency) (gists watched instances) b.exported) ∷ rows) (by bindings parts.1)

  -- A new instance.

  module _ (language : Language) where
    evaluated_over : (b : Birth) (r : Runtime) → watched b.number ≡ true → are_watched watched language b.links b.name b.text ≡ true
        → IsEvaluated language (gists watched r.instances) (gist watched (born b (status_after (evaluate language b r).fault) (evaluate language b r).vars (register_in b (evaluate language b r) r).handlers))
    evaluated_over b r it all = record {
      bag = bag_of r b.name;
      status = ap (λ slots. status_after (language.evaluated b.name b.text slots (bag_of r b.name)).fault) (slots_same language r.instances b.links b.name b.text all);
      values = ap (λ c. if c then (evaluate language b r).vars else []) it
          ∙ ap (λ slots. (language.evaluated b.name b.text slots (bag_of r b.name)).vars) (slots_same language r.instances b.links b.name b.text all);
    }

    nothing_held : (b : Birth) → watched b.number ≡ true → (gist watched (born b Unrun [] [])).values ≡ []
    nothing_held b it = ap (λ c. if c then [] else []) it

    made_if : (c : Bool) (b : Birth) (r : Runtime) → failed_link (gists watched r.instances) b.links ≡ c → AreMade watched language (gists watched r.instances)
        → AreMade watched language (gists watched (if c then make_unrun b r else make_run language b r).0.instances)
    made_if true b r e a = (λ it all. subst (λ c. IsMade c language (gists watched r.instances) (gist watched (born b Unrun [] []))) (sym e) (refl, nothing_held b it), a)
    made_if false b r e a = (
      λ it all. subst (λ c. IsMade c language (gists watched r.instances) (gist watched (born b (status_after (evaluate language b r).fault) (evaluate language b r).vars (register_in b (evaluate language b r) r).handlers))) (sym e)
          (evaluated_over b r it all),
      a,
    )

    pub made_one : (b : Birth) (r : Runtime) → AreMade watched language (gists watched r.instances) → AreMade watched language (gists watched (make language b r).0.instances)
    made_one b r a = made_if (has_failed_link r.instances b.links) b r (failed_same r.instances b.links) a

  -- What else a client does leaves them, or adds to them.

  pub gists_kept : (f : Instance → Instance) (k : ℕ) → ((i : Instance) → i.number ≡ k → gist watched (f i) ≡ gist watched i) → (instances : List Instance) → gists watched (with_change k f instances) ≡ gists watched instances
  gists_kept f k same [] = refl
  gists_kept f k same (i ∷ instances) = ap (λ g. g ∷ gists watched (with_change k f instances)) (by (i.number == k) refl) ∙ ap (λ gs. gist watched i ∷ gs) (gists_kept f k same instances)
    where
      by : (b : Bool) → (i.number == k) ≡ b → gist watched (if b then f i else i) ≡ gist watched i
      by true e = same i (eqb-true i.number k e)
      by false e = refl

  abbrev pub LeavesOrAdds : Runtime → Did → Type 0
  LeavesOrAdds r did = NothingAssignedOf watched did.1 → (length r.instances ≤ length did.0.instances) × ((gists watched did.0.instances ≡ gists watched r.instances) ⊎ (length r.instances < length did.0.instances))

  pub assigned_first : (a b : Journal) → NothingAssignedOf watched (a ++ b) → NothingAssignedOf watched a
  assigned_first a b h k spot n place before left it c = h k spot n place before left it (Contains-append_left a b (ran k spot n place before left) c)

  pub assigned_rest : (a b : Journal) → NothingAssignedOf watched (a ++ b) → NothingAssignedOf watched b
  assigned_rest a b h k spot n place before left it c = h k spot n place before left it (Contains-append_right a b (ran k spot n place before left) c)

  adds_then : (r : Runtime) (did : Did) (next : Runtime → Did) → LeavesOrAdds r did → LeavesOrAdds did.0 (next did.0) → LeavesOrAdds r (and_then did next)
  adds_then r did next h k n = by (h (assigned_first did.1 (next did.0).1 n)) (k (assigned_rest did.1 (next did.0).1 n))
    where
      both : length r.instances ≤ length did.0.instances → length did.0.instances ≤ length (next did.0).0.instances
          → (gists watched did.0.instances ≡ gists watched r.instances) ⊎ (length r.instances < length did.0.instances)
          → (gists watched (next did.0).0.instances ≡ gists watched did.0.instances) ⊎ (length did.0.instances < length (next did.0).0.instances)
          → (gists watched (next did.0).0.instances ≡ gists watched r.instances) ⊎ (length r.instances < length (next did.0).0.instances)
      both l m (inl a) (inl b) = inl (b ∙ a)
      both l m (inl a) (inr b) = inr (omega (arith, l, b))
      both l m (inr a) c = inr (omega (arith, a, m))

      by : (length r.instances ≤ length did.0.instances) × ((gists watched did.0.instances ≡ gists watched r.instances) ⊎ (length r.instances < length did.0.instances))
          → (length did.0.instances ≤ length (next did.0).0.instances) × ((gists watched (next did.0).0.instances ≡ gists watched did.0.instances) ⊎ (length did.0.instances < length (next did.0).0.instances))
          → (length r.instances ≤ length (next did.0).0.instances) × ((gists watched (next did.0).0.instances ≡ gists watched r.instances) ⊎ (length r.instances < length (next did.0).0.instances))
      by a b = (omega (arith, a.0, b.0), both a.0 b.0 a.1 b.1)

  changed : (f : Instance → Instance) (k : ℕ) → ((i : Instance) → i.number ≡ k → gist watched (f i) ≡ gist watched i) → (instances : List Instance)
      → (length instances ≤ length (with_change k f instances)) × ((gists watched (with_change k f instances) ≡ gists watched instances) ⊎ (length instances < length (with_change k f instances)))
  changed f k same instances = (omega (arith, length-map instances (λ i. if i.number == k then f i else i)), inl (gists_kept f k same instances))

  -- a run leaves the gist of its instance: it assigned nothing, or the instance isn't watched
  run_leaves : (spot : ℕ) (h : Handler) (left : Ran) (k : ℕ) → (watched k ≡ true → left.changes ≡ []) → (j : Instance) → j.number ≡ k → gist watched (after_run spot h.kind left j) ≡ gist watched j
  run_leaves spot h left k unassigned j number = by (watched j.number) (λ e. unassigned (ap watched (sym number) ∙ e))
    where
      by : (b : Bool) → (b ≡ true → left.changes ≡ []) → record (gist every j) { values = if b then fold assigned j.values left.changes else [] } ≡ record (gist every j) { values = if b then j.values else [] }
      by true f = ap (λ changes. record (gist every j) { values = fold assigned j.values changes }) (f refl)
      by false f = refl

  adds_run : (at : FaultPlace) (i : Instance) (spot : ℕ) (h : Handler) (left : Ran) (r : Runtime) → LeavesOrAdds r (did_run at i spot h left r)
  adds_run at i spot h left r n =
      changed (after_run spot h.kind left) i.number
      (run_leaves spot h left i.number (λ it. n i.number spot i.name at (bag_of r i.name) left it (head_in (ran i.number spot i.name at (bag_of r i.name) left) [])))
      r.instances

  adds_made : (language : Language) (b : Birth) (r : Runtime) → LeavesOrAdds r (make language b r)
  adds_made language b r = by_make (LeavesOrAdds r) language b r (λ n. (omega arith, inr (omega arith))) (λ n. (omega arith, inr (omega arith)))

  pub adds_kept : IsKept LeavesOrAdds
  adds_kept = record {
    nothing = λ r n. (omega arith, inl refl);
    after = adds_then;
    run = adds_run;
    drop = λ test k r n. changed (λ i. record i { handlers = with_dropped test i.handlers }) k (λ i e. refl) r.instances;
    end = λ fate k m r n. changed (λ i. record i { fate = fate }) k (λ i e. refl) r.instances;
    give_up = λ m r n. (omega arith, inl refl);
    give_up_all = λ r n. (omega arith, inl refl);
    made = adds_made;
    wrote = λ l r n. (omega arith, inl refl);
  }

  -- where it leaves as many, it leaves them as they are
  pub left_alone : (r : Runtime) (did : Did) → LeavesOrAdds r did → length did.0.instances ≡ length r.instances → NothingAssignedOf watched did.1 → gists watched did.0.instances ≡ gists watched r.instances
  left_alone r did h e n = by (h n).1
    where
      by : (gists watched did.0.instances ≡ gists watched r.instances) ⊎ (length r.instances < length did.0.instances) → gists watched did.0.instances ≡ gists watched r.instances
      by (inl same) = same
      by (inr more) = absurd (omega (arith, e, more))
