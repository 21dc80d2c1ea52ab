-- A new instance: it stands behind the others and is live under its name, and its evaluation is the model's.
use Rattle.std.proofs.Common.{◌≡◌, ◌≢◌, ℕ, zero, suc, Bool, true, false, List, [], ◌∷◌, ◌++◌, map, length, refl, ap, sym, ◌∙◌, arith}
use Rattle.std.specs.Prelude.{cond, ◌==◌, ◌&&◌, ◌||◌, Option, Some, None, option_map, if◌then◌else◌, slice_get, slice_set, bytes_eq}
use Rattle.std.proofs.Math.Path.{subst}
use Rattle.std.proofs.Math.Dec.{eqb-suc-zero}
use Rattle.std.proofs.lemmas.Bool.{eqb-true, eq-eqb, false≢true}
use Rattle.std.proofs.lemmas.List.{append-nil, append_assoc, length-append, length-map}
use Rattle.std.proofs.lemmas.Option.{none-some, same_Some}
use Rattle.std.specs.Cmp.Lexicographic.{nat_list_eq_equiv}
use Rattle.output_lines.specs.declared.out_line.OutLine.{OutLine}
use Rattle.output_lines.specs.declared.out_line.OutLine.TheVariants as line
use Rattle.output_lines.specs.declared.words.FaultPlace.TheVariants as fault_place
use Rattle.output_lines.specs.declared.words.InstanceStatus.{InstanceStatus}
use Rattle.output_lines.specs.declared.words.InstanceStatus.TheVariants.{Unrun}
use Rattle.module_semantics.specs.declared.evaluation.Registered as code
use Rattle.module_semantics.specs.Bodies.{registration_of}
use Rattle.module_semantics.specs.ModuleText.{parsing}
use Rattle.module_semantics.specs.Modules.{module_run}
use Rattle.module_tree.specs.Tree.{module_of}
use Rattle.core_model.specs.Names.{Name, same_name, at}
use Rattle.core_model.specs.Sources.{Text}
use Rattle.client_model.proofs.Bagging.{bag_put}
use Rattle.client_model.specs.Instance as model
use Rattle.client_model.specs.Instance.{numbered, live_at, is_live, is_done}
use Rattle.client_model.specs.Journal.{lines_of_all, log_lines, fault_lines}
use Rattle.client_model.specs.Language.{Bag, Slots, Evaluated}
use Rattle.client_model.specs.Linking.{number_in}
use Rattle.client_model.specs.Making as making
use Rattle.client_model.specs.Making.{Registry, born, evaluate, make, make_evaluated, make_run, make_unrun, register_in, register_once, status_after}
use Rattle.client_model.specs.Running as running
use Rattle.client_model.specs.Running.{export_by, imported_slots}
use Rattle.client_model.specs.Runtime as runtime
use Rattle.client_model.specs.Runtime.{Runtime, Did}
use Rattle.module_language.specs.ModuleLanguage.{module_language, module_in, bound_in, evaluated_as, registered_as}
use Rattle.const_eval.specs.Answers.{evaluated_seen}
use Rattle.const_eval.specs.declared.module.Evaluated as answer
use Rattle.handler_table.specs.Shelf.{marks_of}
use Rattle.retained_data.specs.Bags as kept
use Rattle.page_instances.specs.declared.instance.Bound.{Bound}
use Rattle.page_instances.specs.declared.instance.Instance.{Instance}
use Rattle.page_instances.specs.Scopes.{kept_at, bound_slots}
use Rattle.page_instances.specs.Seeing.{Sees, binding_of}
use Rattle.page_births.specs.declared.birth.Birth.{Birth}
use Rattle.page_state.specs.declared.page.Page.{Page}
use Rattle.page_births.specs.Births.{Adds, IsBirth, HasRegistry, Registers, entry_of, evaluated_by, registered_all, is_failed, has_failed_link}
use Rattle.page_state.specs.Live.{Numbers, number_of, HasNumber}
use Rattle.page_state.specs.Standing.{BothOrNone, Matches, StandsFor, StaysElsewhere, Follows, name_at, invalidation_as}
use Rattle.page_state.proofs.Following.{follows_as}
use Rattle.live_instances.proofs.Order.{born_order}
use Rattle.page_state.proofs.Reading.{bag_back, bounds_seen}

-- One more at the end of a list.

module _ {X : Type 0} where
  pub pushed_here : (xs : List X) (x : X) → slice_get (xs ++ x ∷ []) (length xs) ≡ Some x
  pushed_here [] x = refl
  pushed_here (y ∷ xs) x = pushed_here xs x

  pub pushed_other : (xs : List X) (x : X) (i : ℕ) → i ≢ length xs → slice_get (xs ++ x ∷ []) i ≡ slice_get xs i
  pushed_other [] x zero h = absurd (h refl)
  pushed_other [] x (suc i) h = refl
  pushed_other (y ∷ xs) x zero h = refl
  pushed_other (y ∷ xs) x (suc i) h = pushed_other xs x i (λ e. h (ap suc e))

  pub pushed_set : (xs : List X) (x y : X) → slice_set (xs ++ x ∷ []) (length xs) y ≡ xs ++ y ∷ []
  pushed_set [] x y = refl
  pushed_set (z ∷ xs) x y = ap (λ zs. z ∷ zs) (pushed_set xs x y)

  pub pushed_length : (xs : List X) (x : X) → length (xs ++ x ∷ []) ≡ suc (length xs)
  pushed_length [] x = refl
  pushed_length (y ∷ xs) x = ap suc (pushed_length xs x)

names_stay : {F : Type 0} (cs : List (Instance F)) (c : Instance F) (k : ℕ) (n : Name) → option_map (λ x. x.name) (slice_get cs k) ≡ Some n → option_map (λ x. x.name) (slice_get (cs ++ c ∷ []) k) ≡ Some n
names_stay [] c k n e = absurd (none-some n e)
names_stay (d ∷ cs) c zero n e = e
names_stay (d ∷ cs) c (suc k) n e = names_stay cs c k n e

-- the instances of the model and those of the code, with a new one
module _ {F : Type 0} (is : List model.Instance) (cs : List (Instance F)) (i : model.Instance) (c : Instance F) (sees : Sees i c) (number : i.number ≡ suc (length cs)) where
  numbers_match : ((k : ℕ) → BothOrNone (numbered is k) (kept_at cs k)) → (k : ℕ) → BothOrNone (numbered (i ∷ is) k) (kept_at (cs ++ c ∷ []) k)
  numbers_match before zero = subst (λ b. BothOrNone {F = F} (cond b (Some i) (numbered is zero)) None) (sym (ap (λ k. k == zero) number ∙ eqb-suc-zero (length cs))) (before zero)
  numbers_match before (suc j) = by (i.number == suc j) refl
    where
      by : (b : Bool) → (i.number == suc j) ≡ b → BothOrNone (cond b (Some i) (numbered is (suc j))) (slice_get (cs ++ c ∷ []) j)
      by true e = let here : length cs ≡ j = (let same : i.number ≡ suc j = eqb-true i.number (suc j) e in omega (arith, same, number)) in
          subst (BothOrNone (Some i)) (sym (ap (slice_get (cs ++ c ∷ [])) (sym here) ∙ pushed_here cs c)) sees
      by false e = subst (BothOrNone (numbered is (suc j))) (sym (pushed_other cs c j (λ h. false≢true (sym e ∙ eq-eqb i.number (suc j) (number ∙ ap suc (sym h)))))) (before (suc j))

  pub matches_born : (name : Name) → i.name ≡ name → is_live i ≡ true → (before after : Numbers) → number_of before name ≡ None → HasNumber name (Some (suc (length cs))) before after
      → Matches is cs before → Matches (i ∷ is) (cs ++ c ∷ []) after
  matches_born name named lives before after none has m = record {
    count = ap suc m.count ∙ sym (pushed_length cs c);
    orderly = born_order i is (number ∙ ap suc (sym m.count)) lives (m.by_name i.name ∙ ap (number_of before) named ∙ none) m.orderly;
    by_number = numbers_match m.by_number;
    by_name = λ n.
        ap (λ l. number_in (cond (l && same_name i.name n) (Some i) (live_at is n))) lives
        ∙ ap (λ m. number_in (cond (same_name m n) (Some i) (live_at is n))) named
        ∙ by n (same_name name n) (nat_list_eq_equiv.symm n name)
        ∙ sym (has n);
  }
    where
      by : (n : Name) (b : Bool) → bytes_eq n name ≡ b → number_in (cond b (Some i) (live_at is n)) ≡ (if bytes_eq n name then Some (suc (length cs)) else number_of before n)
      by n true e = ap Some number ∙ sym (ap (λ b. if b then Some (suc (length cs)) else number_of before n) e)
      by n false e = m.by_name n ∙ sym (ap (λ b. if b then Some (suc (length cs)) else number_of before n) e)

-- the page got the instance c of this name
pub record Born {F : Type 0} (name : Name) (c : Instance F) (p q : Page F) : Type 0 where
  pub client : q.client ≡ p.client
  pub unsent : q.unsent.items ≡ p.unsent.items
  pub instances : q.instances.items ≡ p.instances.items ++ c ∷ []
  pub live : HasNumber name (Some (suc (length p.instances.items))) p.live q.live

module _ {F : Type 0} (b : making.Birth) (birth : Birth) (p q : Page F) (c : Instance F) (isb : IsBirth b birth p) (none : number_of p.live birth.name ≡ None) (is_born : Born birth.name c p q) where
  born_matches : (status : InstanceStatus) (values : Slots) (handlers : List model.Handler) → Sees (born b status values handlers) c
      → (is : List model.Instance) → Matches is p.instances.items p.live → Matches (born b status values handlers ∷ is) q.instances.items q.live
  born_matches status values handlers sees is m = subst (λ cs. Matches (born b status values handlers ∷ is) cs q.live) (sym is_born.instances)
      (matches_born is p.instances.items (born b status values handlers) c sees isb.number birth.name isb.name refl p.live q.live none is_born.live m)

  born_names : (k : ℕ) (n : Name) → name_at p k ≡ Some n → name_at q k ≡ Some n
  born_names k n e = ap (λ cs. option_map (λ x. x.name) (slice_get cs k)) is_born.instances ∙ names_stay p.instances.items c k n e

  -- it isn't run
  pub unrun_follows : (told tells : List OutLine) → Sees (born b Unrun [] []) c → q.bags ≡ p.bags → q.shelf ≡ p.shelf → tells ≡ told ++ line.Unrun p.client birth.name ∷ []
      → Follows (make_unrun b) p q told tells
  unrun_follows told tells sees bags shelf lines = record {
    client = is_born.client;
    names = born_names;
    elsewhere = λ r s. refl;
    stands = λ r s. record {
      client = s.client ∙ sym is_born.client;
      instances = born_matches Unrun [] [] sees r.instances s.instances;
      bags = λ n. s.bags n ∙ ap (λ x. kept.bag_of x n) (sym bags);
      unsent = s.unsent ∙ ap (map invalidation_as) (sym is_born.unsent);
      shelf = s.shelf ∙ ap marks_of (sym shelf);
    };
    lines = λ r s. lines ∙ ap (λ n. told ++ line.Unrun p.client n ∷ []) (sym isb.name);
  }

  -- what the evaluation left and the registry after it are the model's
  module _ (e : answer.Evaluated) (bounds : List Bound) (bound : map binding_of bounds ≡ bound_in birth.name (module_of birth.tree))
      (is : evaluated_seen e ≡ module_run (module_of birth.tree) (bound_slots p.instances.items birth.links bounds) (kept.bag_of p.bags birth.name)) where
    slots_seen : (r : Runtime) → StandsFor r p → bound_slots p.instances.items birth.links bounds ≡ imported_slots module_language r.instances b.links b.name b.text
    slots_seen r s = ap (λ ls. bound_slots p.instances.items ls bounds) (sym isb.links) ∙ bounds_seen r p s b.links bounds
        ∙ ap (map (λ x. (x.local, export_by (at b.links x.dependency) r.instances x.exported)))
        (bound ∙ ap (bound_in birth.name) (sym isb.tree) ∙ ap (λ n. bound_in n (module_in (parsing b.text))) (sym isb.name))

    evaluation_seen : (r : Runtime) → StandsFor r p → evaluated_by birth.name e ≡ evaluate module_language b r
    evaluation_seen r s =
        ap (evaluated_as birth.name) (is
        ∙ ap (λ vs. module_run (module_of birth.tree) vs (kept.bag_of p.bags birth.name)) (slots_seen r s)
        ∙ ap (λ bag. module_run (module_of birth.tree) (imported_slots module_language r.instances b.links b.name b.text) bag) (ap (kept.bag_of p.bags) (sym isb.name) ∙ sym (s.bags b.name))
        ∙ ap (λ m. module_run m (imported_slots module_language r.instances b.links b.name b.text) (runtime.bag_of r b.name)) (sym isb.tree))
        ∙ ap (λ n. evaluated_as n (module_run (module_in (parsing b.text)) (imported_slots module_language r.instances b.links b.name b.text) (runtime.bag_of r b.name))) (sym isb.name)

    -- the registry after the evaluation
    abbrev registry : Registry
    registry = registered_all b.number birth.name (map (entry_of birth.name) e.registered) (record { handlers = []; shelf = marks_of p.shelf; journal = [] })

    entries_seen : (rs : List code.Registered) → map (entry_of birth.name) rs ≡ map (registered_as birth.name) (map registration_of rs)
    entries_seen [] = refl
    entries_seen (r ∷ rs) = ap (λ es. entry_of birth.name r ∷ es) (entries_seen rs)

    registry_seen : (r : Runtime) → StandsFor r p → registry ≡ register_in b (evaluated_by birth.name e) r
    registry_seen r s =
        ap (λ es. registered_all b.number birth.name es (record { handlers = []; shelf = marks_of p.shelf; journal = [] })) (entries_seen e.registered)
        ∙ ap (λ n. registered_all b.number n (evaluated_by birth.name e).registered (record { handlers = []; shelf = marks_of p.shelf; journal = [] })) (sym isb.name)
        ∙ ap (λ shelf. registered_all b.number b.name (evaluated_by birth.name e).registered (record { handlers = []; shelf = shelf; journal = [] })) (sym s.shelf)

    did_seen : (r : Runtime) → StandsFor r p → make_evaluated b (runtime.bag_of r b.name) (evaluated_by birth.name e) registry r ≡ make_run module_language b r
    did_seen r s = ap (λ g. make_evaluated b (runtime.bag_of r b.name) (evaluated_by birth.name e) g r) (registry_seen r s)
        ∙ ap (λ x. make_evaluated b (runtime.bag_of r b.name) x (register_in b x r) r) (evaluation_seen r s)

    -- it is evaluated, and what that registers is registered
    pub run_follows : (told tells : List OutLine) → Sees (born b (status_after e.fault) e.vars registry.handlers) c → kept.HasBag birth.name e.bag p.bags q.bags → registry.shelf ≡ marks_of q.shelf
        → tells ≡ (told ++ (log_lines p.client birth.name e.lines ++ fault_lines p.client birth.name fault_place.Module e.fault)) ++ lines_of_all q.client registry.journal
        → Follows (make_run module_language b) p q told tells
    run_follows told tells sees bags shelf lines = follows_as (λ r. make_evaluated b (runtime.bag_of r b.name) (evaluated_by birth.name e) registry r) (make_run module_language b) p q told tells did_seen (record {
      client = is_born.client;
      names = born_names;
      elsewhere = λ r s. refl;
      stands = λ r s. record {
        client = s.client ∙ sym is_born.client;
        instances = born_matches (status_after e.fault) e.vars registry.handlers sees r.instances s.instances;
        bags = λ n. bag_put b.name e.bag r.bags n ∙ ap (λ m. if same_name m n then e.bag else runtime.bag_of r n) isb.name
            ∙ ap (λ t. if t then e.bag else runtime.bag_of r n) (sym (nat_list_eq_equiv.symm n birth.name)) ∙ ap (λ x. if bytes_eq n birth.name then e.bag else x) (s.bags n) ∙ sym (bags n);
        unsent = s.unsent ∙ ap (map invalidation_as) (sym is_born.unsent);
        shelf = shelf;
      };
      lines = λ r s. lines
          ∙ append_assoc told (log_lines p.client birth.name e.lines ++ fault_lines p.client birth.name fault_place.Module e.fault) (lines_of_all q.client registry.journal)
          ∙ ap (λ k. told ++ ((log_lines p.client birth.name e.lines ++ fault_lines p.client birth.name fault_place.Module e.fault) ++ lines_of_all k registry.journal)) is_born.client
          ∙ ap (λ n. told ++ ((log_lines p.client n e.lines ++ fault_lines p.client n fault_place.Module e.fault) ++ lines_of_all p.client registry.journal)) (sym isb.name);
    })

-- The parts of a making: the bag of the name was left by the evaluation, the instance was added, and what was
-- registered was registered with it.
pub record Made {F : Type 0} (birth : Birth) (e : answer.Evaluated) (place : ℕ) (p m a q : Page F) (began tells : List OutLine) : Type 0 where
  pub rest : m ≡ record p { bags = m.bags }
  pub bags : kept.HasBag birth.name e.bag p.bags m.bags
  pub place_is : place ≡ length p.instances.items
  pub adds : Adds birth (status_after e.fault) e.vars m a
  pub registers : Registers birth.name (map (entry_of birth.name) e.registered) place a q began tells

module _ {F : Type 0} (birth : Birth) (e : answer.Evaluated) (place : ℕ) (p m a q : Page F) (began tells : List OutLine) (made : Made birth e place p m a q began tells) where
  made_items : m.instances.items ≡ p.instances.items
  made_items = ap (λ x. x.instances.items) made.rest

  added_items : a.instances.items ≡ p.instances.items ++ made.adds.new ∷ []
  added_items = made.adds.instances ∙ ap (λ cs. cs ++ made.adds.new ∷ []) made_items

  pub made_instances : q.instances.items ≡ p.instances.items ++ made.registers.changed ∷ []
  made_instances = made.registers.instances ∙ ap (λ k. slice_set a.instances.items k made.registers.changed) made.place_is
      ∙ ap (λ cs. slice_set cs (length p.instances.items) made.registers.changed) added_items ∙ pushed_set p.instances.items made.adds.new made.registers.changed

  pub made_count : length q.instances.items ≡ suc (length p.instances.items)
  made_count = ap length made_instances ∙ pushed_length p.instances.items made.registers.changed

  made_born : Born birth.name made.registers.changed p q
  made_born = record {
    client = ap (λ x. x.client) made.registers.rest ∙ ap (λ x. x.client) made.adds.rest ∙ ap (λ x. x.client) made.rest;
    unsent = ap (λ x. x.unsent.items) made.registers.rest ∙ ap (λ x. x.unsent.items) made.adds.rest ∙ ap (λ x. x.unsent.items) made.rest;
    instances = made_instances;
    live = λ n. ap (λ x. number_of x.live n) made.registers.rest ∙ made.adds.live n
        ∙ ap (λ x. if bytes_eq n birth.name then Some (suc (length x.instances.items)) else number_of x.live n) made.rest;
  }

  pub made_follows : (b : making.Birth) (bounds : List Bound) (told : List OutLine) → IsBirth b birth p → number_of p.live birth.name ≡ None
      → map binding_of bounds ≡ bound_in birth.name (module_of birth.tree)
      → evaluated_seen e ≡ module_run (module_of birth.tree) (bound_slots p.instances.items birth.links bounds) (kept.bag_of p.bags birth.name)
      → began ≡ told ++ (log_lines p.client birth.name e.lines ++ fault_lines p.client birth.name fault_place.Module e.fault)
      → Follows (make_run module_language b) p q told tells
  made_follows b bounds told isb none bound is lines =
      let ism : IsBirth b birth m = record { number = isb.number ∙ ap (λ cs. suc (length cs)) (sym made_items); name = isb.name; version = isb.version; exports = isb.exports; links = isb.links; tree = isb.tree } in
      let h = made.registers.gains b.number (born b (status_after e.fault) e.vars []) (record { handlers = []; shelf = marks_of p.shelf; journal = [] }) began (record {
        instance = made.adds.new;
        there = ap (slice_get a.instances.items) made.place_is ∙ ap (λ cs. slice_get cs (length p.instances.items)) added_items ∙ pushed_here p.instances.items made.adds.new;
        sees = made.adds.sees b ism;
        shelf = ap (λ x. marks_of x.shelf) (sym made.rest) ∙ ap (λ x. marks_of x.shelf) (sym made.adds.rest);
        lines = sym (append-nil began);
      }) in
      let same : h.instance ≡ made.registers.changed = same_Some _ _ (sym h.there ∙ ap (slice_get q.instances.items) made.place_is ∙ ap (λ cs. slice_get cs (length p.instances.items)) made_instances ∙ pushed_here p.instances.items made.registers.changed) in
      run_follows b birth p q made.registers.changed isb none made_born e bounds bound is told tells
      (subst (Sees (born b (status_after e.fault) e.vars (registered_all b.number birth.name (map (entry_of birth.name) e.registered) (record { handlers = []; shelf = marks_of p.shelf; journal = [] })).handlers)) same h.sees)
      (λ n. ap (λ x. kept.bag_of x.bags n) made.registers.rest ∙ ap (λ x. kept.bag_of x.bags n) made.adds.rest ∙ made.bags n)
      h.shelf
      (h.lines ∙ ap (λ ls. ls ++ lines_of_all q.client (registered_all b.number birth.name (map (entry_of birth.name) e.registered) (record { handlers = []; shelf = marks_of p.shelf; journal = [] })).journal) lines)

-- The same as the code has it: an equal name, equal texts, an equal status, and equal lists of variables and entries.
pub record Parts {F : Type 0} (birth : Birth) (e : answer.Evaluated) (place : ℕ) (p v m a q : Page F) (told began tells : List OutLine) (name : Name) (texts : List Text) (status : InstanceStatus) (values : Slots) (entries : List code.Registered) : Type 0 where
  pub name_is : name ≡ birth.name
  pub texts_are : texts ≡ e.lines
  pub status_is : status ≡ status_after e.fault
  pub values_are : values ≡ e.vars
  pub entries_are : entries ≡ e.registered
  pub evaluated : v ≡ record p { bags = v.bags }
  pub taken : kept.HasBag birth.name [] p.bags v.bags
  pub settled : m ≡ record v { bags = m.bags }
  pub put : kept.HasBag name e.bag v.bags m.bags
  pub lines : began ≡ told ++ (log_lines v.client name texts ++ fault_lines v.client name fault_place.Module e.fault)
  pub last : place ≡ length m.instances.items
  pub adds : Adds birth status values m a
  pub registers : Registers name (map (entry_of name) entries) place a q began tells

module _ {F : Type 0} (birth : Birth) (e : answer.Evaluated) (place : ℕ) (p v m a q : Page F) (told began tells : List OutLine) (name : Name) (texts : List Text) (status : InstanceStatus) (values : Slots) (entries : List code.Registered)
    (parts : Parts birth e place p v m a q told began tells name texts status values entries) where
  parts_rest : m ≡ record p { bags = m.bags }
  parts_rest = parts.settled ∙ ap {A = Page F} (λ x. record x { bags = m.bags }) parts.evaluated

  pub parts_made : Made birth e place p m a q began tells
  parts_made = record {
    rest = parts_rest;
    bags = bag_back birth.name e.bag p.bags v.bags m.bags parts.taken (subst (λ n. kept.HasBag n e.bag v.bags m.bags) parts.name_is parts.put);
    place_is = parts.last ∙ ap (λ x. length x.instances.items) parts_rest;
    adds = subst (λ s. Adds birth s e.vars m a) parts.status_is (subst (λ vs. Adds birth status vs m a) parts.values_are parts.adds);
    registers = subst (λ es. Registers birth.name (map (entry_of birth.name) es) place a q began tells) parts.entries_are (subst (λ n. Registers n (map (entry_of n) entries) place a q began tells) parts.name_is parts.registers);
  }

  pub parts_lines : began ≡ told ++ (log_lines p.client birth.name e.lines ++ fault_lines p.client birth.name fault_place.Module e.fault)
  parts_lines = parts.lines
      ∙ ap (λ ts. told ++ (log_lines v.client name ts ++ fault_lines v.client name fault_place.Module e.fault)) parts.texts_are
      ∙ ap (λ n. told ++ (log_lines v.client n e.lines ++ fault_lines v.client n fault_place.Module e.fault)) parts.name_is
      ∙ ap (λ x. told ++ (log_lines x.client birth.name e.lines ++ fault_lines x.client birth.name fault_place.Module e.fault)) parts.evaluated

-- Whether an instance that it is linked to failed.

module _ {F : Type 0} where
  failed_both : (o : Option model.Instance) (c : Option (Instance F)) → BothOrNone o c → making.is_failed o ≡ is_failed c
  failed_both None None b = refl
  failed_both None (Some c) b = absurd b
  failed_both (Some i) None b = absurd b
  failed_both (Some i) (Some c) b = ap (λ s. making.is_failed (Some (record i { status = s }))) b.status

  pub failed_seen : (r : Runtime) (p : Page F) → StandsFor r p → (links : List (Name × ℕ)) → making.has_failed_link r.instances links ≡ has_failed_link p.instances.items links
  failed_seen r p s [] = refl
  failed_seen r p s (link ∷ links) = ap (λ b. b || making.has_failed_link r.instances links) (failed_both (numbered r.instances link.1) (kept_at p.instances.items link.1) (s.instances.by_number link.1))
      ∙ ap (λ b. is_failed (kept_at p.instances.items link.1) || b) (failed_seen r p s links)

  -- the new instance is made as it is blocked or not
  pub make_follows : (b : making.Birth) (birth : Birth) (p q : Page F) (told tells : List OutLine) → IsBirth b birth p → (blocked : Bool) → has_failed_link p.instances.items birth.links ≡ blocked
      → Follows (λ r. if blocked then make_unrun b r else make_run module_language b r) p q told tells → Follows (make module_language b) p q told tells
  make_follows b birth p q told tells isb blocked is f = follows_as (λ r. if blocked then make_unrun b r else make_run module_language b r) (make module_language b) p q told tells
      (λ r s. ap (λ t. if t then make_unrun b r else make_run module_language b r) (sym is ∙ ap (has_failed_link p.instances.items) (sym isb.links) ∙ sym (failed_seen r p s b.links))) f
