-- Where a disposer of an instance ran and a later instance takes its place, that one starts with what the
-- run left: nothing else touches the bag between the run and the end of the instance.
use Rattle.std.proofs.Common.{◌≡◌, ℕ, Bool, true, false, List, [], ◌∷◌, ◌++◌, length, refl, ap, sym, ◌∙◌, arith, Contains}
use Rattle.std.specs.Prelude.{map, filter, fold, cond, ◌==◌, ◌&&◌, Option, Some, None, is_some, if◌then◌else◌, ⊤}
use Prim.{⊥}
use Rattle.std.proofs.Math.Path.{subst}
use Rattle.std.proofs.lemmas.Bool.{false≢true, eqb-true, eq-eqb}
use Rattle.std.proofs.lemmas.Option.{same_Some}
use Rattle.std.proofs.lemmas.List.{append_assoc, append-nil}
use Rattle.std.proofs.lemmas.List.Sums.{fold-append}
use Rattle.hmr_types.specs.declared.words.PlanKind.{PlanKind}
use Rattle.hmr_types.specs.declared.words.PlanKind.TheVariants.{Load, Reload, Update}
use Rattle.output_lines.specs.declared.words.FaultPlace.TheVariants as place
use Rattle.output_lines.specs.declared.words.InstanceFate.{InstanceFate}
use Rattle.output_lines.specs.declared.words.InstanceFate.TheVariants.{Live, Replaced, Pruned, Reloaded}
use Rattle.core_model.specs.Names.{Name, has}
use Rattle.core_model.specs.Page.{Plan}
use Rattle.core_model.proofs.Naming.{true_same, both_true}
use Rattle.client_model.specs.Language.{Language, Bag}
use Rattle.client_model.specs.Instance.{Instance, Handler, is_live, is_live_fate, is_dispose, numbered, places_of, disposes}
use Rattle.client_model.specs.Journal.{Happening, Journal, made, evaluated, not_run, registered, no_host, ran, dropped, ended, gave_up, gave_up_all, told, bag_after, bag_left}
use Rattle.client_model.specs.Runtime.{Runtime, Opening, Did, for_each}
use Rattle.client_model.specs.Running.{no_arguments, run_handler, run_of, run_each, drop_each}
use Rattle.client_model.specs.Linking.{next_needed, new_names, number_after}
use Rattle.client_model.specs.Making.{make}
use Rattle.client_model.specs.Applying.{is_left_behind, fate_by, live_of, replace_instance, replaced_instances, end_old, births, prune_instance, apply}
use Rattle.client_model.specs.Firing.{hear_all}
use Rattle.client_model.specs.Past.{Past, met, runtime_after, journal_of}
use Rattle.client_model.proofs.Takes.{IsTaken, met_does}
use Rattle.world_laws.proofs.Members.{head_in, tail_in}
use Rattle.world_laws.proofs.Frames.{frames}
use Rattle.world_laws.proofs.Ending.{ended_names, same_of}
use Rattle.world_laws.proofs.Holding.{HoldsOf}
use Rattle.world_laws.proofs.Messages.{run_holds}
use Rattle.journal_laws.specs.Runs.{OfEachRun}
use Rattle.journal_laws.specs.Counts.{is_dispose_place, is_run_at, is_disposed, once_if, registers, disposals}
use Rattle.journal_laws.specs.Data.{disposed_after, disposed_left, DisposersHandOn}
use Rattle.journal_laws.proofs.Numbers.{number_found, Apart, apart_numbered, there}
use Rattle.journal_laws.proofs.HandlerLists.{apart_filtered}
use Rattle.journal_laws.proofs.CountsOnce.{are_disposed_once}
use Rattle.journal_laws.proofs.DataEach.{Each, each_line}
use Rattle.journal_laws.proofs.DataSparing.{name_at, numbered_name, AreNamed, replacing, rest_named, filter_in}
use Rattle.journal_laws.proofs.DataResting.{NoneLeft, none_left, live_named}
use Rattle.journal_laws.proofs.DataTelling.{EndedAs, ended_calm, free_each, free_make, free_reload_all, free_prunes, free_hear}
use Rattle.journal_laws.proofs.DataPassing.{after_old, whole, rest_free}
use Rattle.journal_laws.proofs.DataInheriting.{successors_inherit}

-- What is handed on.

-- where a disposer of instance k ran, the bag of n is what the run left
abbrev HandsOn : Journal → ℕ → Name → Type 0
HandsOn seen k n = (left : Bag) → disposed_left seen k ≡ Some left → bag_left seen n ≡ left

abbrev FateAt : InstanceFate → ℕ → Name → Journal → Type 0
FateAt Live k n seen = ⊤
FateAt (Replaced m) k n seen = HandsOn seen k n
FateAt Pruned k n seen = ⊤
FateAt Reloaded k n seen = ⊤

abbrev HandedAt : Happening → Journal → Type 0
HandedAt (made i) seen = ⊤
HandedAt (evaluated j m before e) seen = ⊤
HandedAt (not_run j m) seen = ⊤
HandedAt (registered j x) seen = ⊤
HandedAt (no_host j m label) seen = ⊤
HandedAt (ran j spot m at before left) seen = ⊤
HandedAt (dropped j spot) seen = ⊤
HandedAt (ended j m fate) seen = FateAt fate j m seen
HandedAt (gave_up m) seen = ⊤
HandedAt gave_up_all seen = ⊤
HandedAt (told l) seen = ⊤

-- each end of a replaced instance is so, behind all that was seen
abbrev AreHanded : Journal → Journal → Type 0
AreHanded seen [] = ⊤
AreHanded seen (h ∷ journal) = HandedAt h seen × AreHanded (seen ++ h ∷ []) journal

handed_append : (seen a b : Journal) → AreHanded seen a → AreHanded (seen ++ a) b → AreHanded seen (a ++ b)
handed_append seen [] b s t = subst (λ xs. AreHanded xs b) (append-nil seen) t
handed_append seen (h ∷ a) b s t = (s.0, handed_append (seen ++ h ∷ []) a b s.1 (subst (λ xs. AreHanded xs b) (sym (append_assoc seen (h ∷ []) a)) t))

handed_at : (seen front : Journal) (h : Happening) (back : Journal) → AreHanded seen (front ++ h ∷ back) → HandedAt h (seen ++ front)
handed_at seen [] h back s = subst (HandedAt h) (sym (append-nil seen)) s.0
handed_at seen (f ∷ front) h back s = subst (HandedAt h) (append_assoc seen (f ∷ []) front) (handed_at (seen ++ f ∷ []) front h back s.1)

-- Where no instance is replaced.

abbrev NoneReplaced : Happening → (Name → Bag) → Type 0
NoneReplaced = EndedAs (λ k n bag. ⊥)

free_fate : (n : Name) (bag : Bag) (k : ℕ) (seen : Journal) (bags : Name → Bag) (fate : InstanceFate) → NoneReplaced (ended k n fate) bags → FateAt fate k n seen
free_fate n bag k seen bags Live s = tt
free_fate n bag k seen bags (Replaced m) s = absurd s
free_fate n bag k seen bags Pruned s = tt
free_fate n bag k seen bags Reloaded s = tt

free_one : (h : Happening) (bags : Name → Bag) (seen : Journal) → NoneReplaced h bags → HandedAt h seen
free_one (made i) bags seen s = tt
free_one (evaluated j m before e) bags seen s = tt
free_one (not_run j m) bags seen s = tt
free_one (registered j x) bags seen s = tt
free_one (no_host j m label) bags seen s = tt
free_one (ran j spot m at before left) bags seen s = tt
free_one (dropped j spot) bags seen s = tt
free_one (ended j m fate) bags seen s = free_fate m (bags m) j seen bags fate s
free_one (gave_up m) bags seen s = tt
free_one gave_up_all bags seen s = tt
free_one (told l) bags seen s = tt

free_handed : (journal : Journal) (bags : Name → Bag) (seen : Journal) → Each NoneReplaced bags journal → AreHanded seen journal
free_handed [] bags seen s = tt
free_handed (h ∷ journal) bags seen s = (free_one h bags seen s.0, free_handed journal (λ n. bag_after n (bags n) h) (seen ++ h ∷ []) s.1)

-- What an instance's disposers do.

abbrev IsOwn : ℕ → Name → Happening → Type 0
IsOwn k n (made i) = ⊥
IsOwn k n (evaluated j m before e) = ⊥
IsOwn k n (not_run j m) = ⊥
IsOwn k n (registered j x) = ⊥
IsOwn k n (no_host j m label) = ⊥
IsOwn k n (ran j spot m at before left) = (j ≡ k) × ((m ≡ n) × (at ≡ place.Dispose))
IsOwn k n (dropped j spot) = ⊤
IsOwn k n (ended j m fate) = ⊥
IsOwn k n (gave_up m) = ⊥
IsOwn k n gave_up_all = ⊥
IsOwn k n (told l) = ⊥

abbrev AreOwn : ℕ → Name → Journal → Type 0
AreOwn k n [] = ⊤
AreOwn k n (h ∷ journal) = IsOwn k n h × AreOwn k n journal

module _ (k : ℕ) (n : Name) where
  own_append : (a b : Journal) → AreOwn k n a → AreOwn k n b → AreOwn k n (a ++ b)
  own_append [] b s t = t
  own_append (h ∷ a) b s t = (s.0, own_append a b s.1 t)

  own_drops : (j : ℕ) (places : List ℕ) → AreOwn k n (map (dropped j) places)
  own_drops j [] = tt
  own_drops j (p ∷ places) = (tt, own_drops j places)

  own_at : (h : Happening) (seen : Journal) → IsOwn k n h → HandedAt h seen
  own_at (made i) seen s = absurd s
  own_at (evaluated j m before e) seen s = absurd s
  own_at (not_run j m) seen s = absurd s
  own_at (registered j x) seen s = absurd s
  own_at (no_host j m label) seen s = absurd s
  own_at (ran j spot m at before left) seen s = tt
  own_at (dropped j spot) seen s = tt
  own_at (ended j m fate) seen s = absurd s
  own_at (gave_up m) seen s = absurd s
  own_at gave_up_all seen s = absurd s
  own_at (told l) seen s = absurd s

  own_handed : (journal seen : Journal) → AreOwn k n journal → AreHanded seen journal
  own_handed [] seen s = tt
  own_handed (h ∷ journal) seen s = (own_at h seen s.0, own_handed journal (seen ++ h ∷ []) s.1)

  own_hands : (h : Happening) (seen : Journal) → IsOwn k n h → HandsOn seen k n → HandsOn (seen ++ h ∷ []) k n
  own_hands (made i) seen s hands = absurd s
  own_hands (evaluated j m before e) seen s hands = absurd s
  own_hands (not_run j m) seen s hands = absurd s
  own_hands (registered j x) seen s hands = absurd s
  own_hands (no_host j m label) seen s hands = absurd s
  own_hands (ran j spot m at before left) seen s hands = λ last e.
      let test : ((j == k) && is_dispose_place at) ≡ true = ap (λ b. b && is_dispose_place at) (eq-eqb j k s.0) ∙ ap is_dispose_place s.1.1 in
      fold-append (bag_after n) [] seen (ran j spot m at before left ∷ []) ∙ ap (λ b. if b then left.bag else bag_left seen n) (true_same m n s.1.0)
      ∙ same_Some left.bag last (sym (ap (λ b. if b then Some left.bag else disposed_left seen k) test) ∙ sym (fold-append (disposed_after k) None seen (ran j spot m at before left ∷ [])) ∙ e)
  own_hands (dropped j spot) seen s hands = λ last e. fold-append (bag_after n) [] seen (dropped j spot ∷ []) ∙ hands last (sym (fold-append (disposed_after k) None seen (dropped j spot ∷ [])) ∙ e)
  own_hands (ended j m fate) seen s hands = absurd s
  own_hands (gave_up m) seen s hands = absurd s
  own_hands gave_up_all seen s hands = absurd s
  own_hands (told l) seen s hands = absurd s

  hands_all : (journal seen : Journal) → AreOwn k n journal → HandsOn seen k n → HandsOn (seen ++ journal) k n
  hands_all [] seen s hands = subst (λ xs. HandsOn xs k n) (sym (append-nil seen)) hands
  hands_all (h ∷ journal) seen s hands = subst (λ xs. HandsOn xs k n) (append_assoc seen (h ∷ []) journal) (hands_all journal (seen ++ h ∷ []) s.1 (own_hands h seen s.0 hands))

  -- they are not those of another instance
  other_one : (i : ℕ) → (k == i) ≡ false → (h : Happening) (last : Option Bag) → IsOwn k n h → disposed_after i last h ≡ last
  other_one i apart (made x) last s = absurd s
  other_one i apart (evaluated j m before e) last s = absurd s
  other_one i apart (not_run j m) last s = absurd s
  other_one i apart (registered j x) last s = absurd s
  other_one i apart (no_host j m label) last s = absurd s
  other_one i apart (ran j spot m at before left) last s = ap (λ x. if (x == i) && is_dispose_place at then Some left.bag else last) s.0 ∙ ap (λ b. if b && is_dispose_place at then Some left.bag else last) apart
  other_one i apart (dropped j spot) last s = refl
  other_one i apart (ended j m fate) last s = absurd s
  other_one i apart (gave_up m) last s = absurd s
  other_one i apart gave_up_all last s = absurd s
  other_one i apart (told l) last s = absurd s

  other_all : (i : ℕ) → (k == i) ≡ false → (journal : Journal) (last : Option Bag) → AreOwn k n journal → fold (disposed_after i) last journal ≡ last
  other_all i apart [] last s = refl
  other_all i apart (h ∷ journal) last s = other_all i apart journal (disposed_after i last h) s.1 ∙ other_one i apart h last s.0

module _ (language : Language) where
  module _ (k : ℕ) (n : Name) where
    own_handler : (i : Instance) (spot : ℕ) (h : Option Handler) (r : Runtime) → i.number ≡ k → i.name ≡ n → AreOwn k n (run_handler language place.Dispose no_arguments i spot h r).1
    own_handler i spot None r e f = tt
    own_handler i spot (Some h) r e f = ((e, (f, refl)), tt)

    own_of : (o : Option Instance) (spot : ℕ) (r : Runtime) → ((i : Instance) → o ≡ Some i → (i.number ≡ k) × (i.name ≡ n)) → AreOwn k n (run_of language place.Dispose no_arguments o spot r).1
    own_of None spot r e = tt
    own_of (Some i) spot r e = own_handler i spot _ r (e i refl).0 (e i refl).1

    own_places : (places : List ℕ) (r : Runtime) → name_at (frames r.instances) k ≡ Some n → AreOwn k n (for_each (λ spot s. run_of language place.Dispose no_arguments (numbered s.instances k) spot s) places r).1
    own_places [] r e = tt
    own_places (spot ∷ places) r e =
        let first : Did = run_of language place.Dispose no_arguments (numbered r.instances k) spot r in
        own_append k n first.1 (for_each (λ p s. run_of language place.Dispose no_arguments (numbered s.instances k) p s) places first.0).1
        (own_of (numbered r.instances k) spot r (λ i f. (number_found r.instances k i f, same_Some i.name n (sym (numbered_name r.instances k i f) ∙ e))))
        (own_places places first.0 (ap (λ fs. name_at fs k) (same_of language place.Dispose no_arguments (numbered r.instances k) spot r) ∙ e))

  -- what a replaced instance does up to its end
  abbrev leaving : Instance → Runtime → Journal
  leaving i r = let disposed : Did = run_each language place.Dispose no_arguments disposes i.number r in disposed.1 ++ (drop_each is_left_behind i.number disposed.0).1

  leaving_own : (i : Instance) (r : Runtime) → name_at (frames r.instances) i.number ≡ Some i.name → AreOwn i.number i.name (leaving i r)
  leaving_own i r e =
      let disposed : Did = run_each language place.Dispose no_arguments disposes i.number r in
      own_append i.number i.name disposed.1 (drop_each is_left_behind i.number disposed.0).1
      (own_places i.number i.name (places_of disposes (numbered r.instances i.number)) r e)
      (own_drops i.number i.name i.number (places_of is_left_behind (numbered disposed.0.instances i.number)))

  module _ (number : Name → Option ℕ) where
    replace_handed : (i : Instance) (r : Runtime) (seen : Journal) → name_at (frames r.instances) i.number ≡ Some i.name → disposed_left seen i.number ≡ None → AreHanded seen (replace_instance language number i r).1
    replace_handed i r seen e none = handed_append seen (leaving i r) (ended i.number i.name (fate_by (number i.name)) ∷ []) (own_handed i.number i.name (leaving i r) seen (leaving_own i r e)) (by (number i.name), tt)
      where
        by : (o : Option ℕ) → FateAt (fate_by o) i.number i.name (seen ++ leaving i r)
        by None = tt
        by (Some m) = hands_all i.number i.name (leaving i r) seen (leaving_own i r e) (λ left f. absurd (false≢true (ap is_some (sym none ∙ f))))

    replace_other : (i : Instance) (r : Runtime) (seen : Journal) (k : ℕ) → name_at (frames r.instances) i.number ≡ Some i.name → (i.number == k) ≡ false → disposed_left (seen ++ (replace_instance language number i r).1) k ≡ disposed_left seen k
    replace_other i r seen k e apart =
        fold-append (disposed_after k) None seen (replace_instance language number i r).1
        ∙ fold-append (disposed_after k) (disposed_left seen k) (leaving i r) (ended i.number i.name (fate_by (number i.name)) ∷ [])
        ∙ other_all i.number i.name k apart (leaving i r) (disposed_left seen k) (leaving_own i r e)

    replaces_handed : (is : List Instance) (r : Runtime) (seen : Journal) → AreNamed (frames r.instances) is → Apart is → ((i : Instance) → Contains is i → disposed_left seen i.number ≡ None) → AreHanded seen (for_each (replace_instance language number) is r).1
    replaces_handed [] r seen named apart none = tt
    replaces_handed (i ∷ is) r seen named apart none =
        let first : Did = replace_instance language number i r in
        handed_append seen first.1 (for_each (replace_instance language number) is first.0).1
        (replace_handed i r seen (named i (head_in i is)) (none i (head_in i is)))
        (replaces_handed is first.0 (seen ++ first.1) (rest_named (replace_instance language number) (replacing language number) i is r named) apart.1
        (λ j c. replace_other i r seen j.number (named i (head_in i is)) (other j c (i.number == j.number) refl) ∙ none j (tail_in i is j c)))
      where
        other : (j : Instance) → Contains is j → (b : Bool) → (i.number == j.number) ≡ b → b ≡ false
        other j c true e = absurd (false≢true (ap is_some (sym apart.0 ∙ ap (numbered is) (eqb-true i.number j.number e) ∙ there is apart.1 j c)))
        other j c false e = refl

  -- All that comes.

  -- no disposer of a live instance ran
  abbrev IsReady : Runtime → Journal → Type 0
  IsReady r seen = (i : Instance) → Contains r.instances i → is_live i ≡ true → disposed_left seen i.number ≡ None

  plan_handed : (p : Plan) (r : Runtime) → r.page.plan ≡ Some p → next_needed p r ≡ None → HoldsOf r → NoneLeft r → (seen : Journal) → IsReady r seen → AreHanded seen (apply language p r).1
  plan_handed p r e needed h empty seen ready = subst (AreHanded seen) (sym (whole language p r e needed h empty))
      (handed_append seen (end_old p.kind language p r).1 (after_old language p r e needed h empty) (old p.kind)
      (free_handed (after_old language p r e needed h empty) (λ n. []) (seen ++ (end_old p.kind language p r).1)
      (rest_free language p r e needed h empty NoneReplaced (ended_calm (λ k n bag. ⊥)) (free_each NoneReplaced (ended_calm (λ k n bag. ⊥)) language (make language) (λ b s. free_make NoneReplaced (ended_calm (λ k n bag. ⊥)) language b s (λ i bags. tt) (λ bags. tt) (λ e bags. tt)) (births (new_names p r) p r) (end_old p.kind language p r).0) (λ n. []))))
    where
      is_replaced : Instance → Bool
      is_replaced i = is_live i && (has p.replaced i.name && has (new_names p r) i.name)

      old : (kind : PlanKind) → AreHanded seen (end_old kind language p r).1
      old Load = tt
      old Reload = free_handed (end_old Reload language p r).1 (λ n. []) seen (free_reload_all NoneReplaced (ended_calm (λ k n bag. ⊥)) language r (λ n. []))
      old Update = replaces_handed (number_after p r) (replaced_instances p r) r seen (live_named (ended_names Update p r) r h.numbered) (apart_filtered is_replaced r.instances (apart_numbered r.instances h.numbered))
          (λ i c. let k = filter_in is_replaced r.instances i c in ready i k.0 (both_true (is_live i) _ k.1).0)

  abbrev Hands : Runtime → Did → Type 0
  Hands r did = HoldsOf r → NoneLeft r → (seen : Journal) → IsReady r seen → AreHanded seen did.1

  taken : IsTaken language Hands
  taken = record {
    quiet = λ r did q h empty seen ready. free_handed did.1 (λ n. []) seen (each_line NoneReplaced (ended_calm (λ k n bag. ⊥)).free (λ n. []) did.1 q.lines);
    prunes = λ names r none loaded h empty seen ready. handed_append seen (for_each (prune_instance language) (live_of (has names) r) r).1 []
        (free_handed (for_each (prune_instance language) (live_of (has names) r) r).1 (λ n. []) seen (free_prunes NoneReplaced (ended_calm (λ k n bag. ⊥)) language (live_of (has names) r) r (λ n. []))) tt;
    applies = λ p r e due counted h empty seen ready. plan_handed p r e due.0 h empty seen ready;
    hears = λ event value r loaded idle h empty seen ready. free_handed (hear_all language event value r).1 (λ n. []) seen (free_hear NoneReplaced (ended_calm (λ k n bag. ⊥)) language event value r (λ n. []));
  }

  none_one : (k : ℕ) (h : Happening) (journal : Journal) (last : Option Bag) → length (cond (is_run_at is_dispose_place k h) (h ∷ filter (is_run_at is_dispose_place k) journal) (filter (is_run_at is_dispose_place k) journal)) ≡ 0 → (disposed_after k last h ≡ last) × (length (filter (is_run_at is_dispose_place k) journal) ≡ 0)
  none_one k (made i) journal last e = (refl, e)
  none_one k (evaluated j m before x) journal last e = (refl, e)
  none_one k (not_run j m) journal last e = (refl, e)
  none_one k (registered j x) journal last e = (refl, e)
  none_one k (no_host j m label) journal last e = (refl, e)
  none_one k (ran j spot m at before left) journal last e = by ((j == k) && is_dispose_place at) e
    where
      by : (b : Bool) → length (cond b (ran j spot m at before left ∷ filter (is_run_at is_dispose_place k) journal) (filter (is_run_at is_dispose_place k) journal)) ≡ 0 → ((if b then Some left.bag else last) ≡ last) × (length (filter (is_run_at is_dispose_place k) journal) ≡ 0)
      by true e = absurd (omega (arith, e))
      by false e = (refl, e)
  none_one k (dropped j spot) journal last e = (refl, e)
  none_one k (ended j m fate) journal last e = (refl, e)
  none_one k (gave_up m) journal last e = (refl, e)
  none_one k gave_up_all journal last e = (refl, e)
  none_one k (told l) journal last e = (refl, e)

  none_disposed : (k : ℕ) (journal : Journal) (last : Option Bag) → disposals journal k ≡ 0 → fold (disposed_after k) last journal ≡ last
  none_disposed k [] last e = refl
  none_disposed k (h ∷ journal) last e = let one = none_one k h journal last e in none_disposed k journal (disposed_after k last h) one.1 ∙ one.0

  live_undisposed : (fate : InstanceFate) → is_live_fate fate ≡ true → is_disposed fate ≡ false
  live_undisposed Live e = refl
  live_undisposed (Replaced k) e = absurd (false≢true e)
  live_undisposed Pruned e = absurd (false≢true e)
  live_undisposed Reloaded e = absurd (false≢true e)

  ready_run : (opening : Opening) (past : Past) → IsReady (runtime_after language opening past) (journal_of language opening past)
  ready_run opening past i c live = none_disposed i.number (journal_of language opening past) None (are_disposed_once language opening past i c ∙ ap (λ b. once_if (b && registers is_dispose i)) (live_undisposed i.fate live))

  handed_run : (opening : Opening) (past : Past) → AreHanded [] (journal_of language opening past)
  handed_run opening [] = tt
  handed_run opening (came ∷ past) = handed_append [] (journal_of language opening past) (met language came (runtime_after language opening past)).1 (handed_run opening past)
      (met_does language Hands taken (runtime_after language opening past) came (run_holds language opening past) (none_left language opening past) (journal_of language opening past) (ready_run opening past))

  pub disposers_hand_on : OfEachRun language DisposersHandOn
  disposers_hand_on opening past front middle back j k n left before e split d =
      successors_inherit language opening past front middle back j k n before e split
      ∙ handed_at [] front (ended j n (Replaced k)) (middle ++ evaluated k n before e ∷ back) (subst (AreHanded []) split (handed_run opening past)) left d
