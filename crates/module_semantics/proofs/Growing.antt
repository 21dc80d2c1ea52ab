-- What an evaluation has made grows, its names are those that are declared, and its bag stays small.
use Rattle.std.proofs.Common.{◌≡◌, ℕ, Bool, true, false, if◌then◌else◌, List, [], ◌∷◌, ◌++◌, Option, Some, None, refl, ap, sym, ◌∙◌, subst, append_assoc}
use Rattle.std.specs.Prelude.{bytes_eq, is_some, ◌||◌, codes, pos}
use Rattle.std.specs.Cmp.Lexicographic.{bytes_decides}
use Rattle.module_tree.specs.Syntax.{HandlerTree, ModuleTree, StmtTrees}
use Rattle.hmr_types.specs.declared.value.Value.{Value}
use Rattle.hmr_types.specs.declared.value.Value.TheVariants.{Num}
use Rattle.hmr_types.specs.declared.value.Slot.{Slot}
use Rattle.hmr_types.specs.declared.value.EvalFault.TheVariants.{BagFull}
use Rattle.hmr_types.specs.declared.value.Slot.TheVariants.{Unset, Val}
use Rattle.module_semantics.specs.declared.evaluation.ModParam.{ModParam}
use Rattle.module_semantics.specs.Entries.{entry_at, with_entry, names_of, has_name, has_room, is_bag}
use Rattle.module_semantics.specs.Bodies.{State, Context, Progress, assign_slot, run_all, ran_of, opening, body_run, host_ran, host_progress, host_line}
use Rattle.module_semantics.specs.Modules.{unset, declared_names, items_run, module_run, evaluated_of}
use Rattle.module_semantics.specs.Progress.{Extends}
use Rattle.module_semantics.proofs.Entries.{continues_itself, continues_more, continues_both, names_continue, names_stay, found_is, bag_stays}
use Rattle.module_semantics.proofs.Keeping.{IsKept, Each, statements_keep, items_keep}

pub extends_itself : (s : State) → Extends s s
extends_itself s = record {
  names = continues_itself (names_of s.vars);
  keys = continues_itself (names_of s.bag);
  lines = continues_itself s.lines;
  changes = continues_itself s.changes;
  invalidations = continues_itself s.invalidations;
  registered = continues_itself s.registered;
}

assigned_grows : (before : State) (n : List ℕ) (s : State) (v : Value) (at : Option Slot) → Extends before s → Extends before (assign_slot n s v at).0
assigned_grows before n s v (Some (Val old)) h = record {
  names = continues_both (names_of before.vars) (names_of s.vars) (names_of (with_entry n (Val v) s.vars)) h.names (names_continue n (Val v) s.vars);
  keys = h.keys;
  lines = h.lines;
  changes = continues_more before.changes s.changes ((n, v) ∷ []) h.changes;
  invalidations = h.invalidations;
  registered = h.registered;
}
assigned_grows before n s v (Some Unset) h = h
assigned_grows before n s v None h = h

kept_grows : (before : State) (k : List ℕ) (s : State) (v : Value) (room : Bool) → Extends before s
    → Extends before (if◌then◌else◌ {A = Progress} room (record s { bag = with_entry k v s.bag }, None) (s, Some BagFull)).0
kept_grows before k s v true h = record {
  names = h.names;
  keys = continues_both (names_of before.bag) (names_of s.bag) (names_of (with_entry k v s.bag)) h.keys (names_continue k v s.bag);
  lines = h.lines;
  changes = h.changes;
  invalidations = h.invalidations;
  registered = h.registered;
}
kept_grows before k s v false h = h

grows : (before : State) → IsKept (λ n. Unit {0}) (Extends before)
grows before = record {
  line = λ s vs h. record { names = h.names; keys = h.keys; lines = continues_more before.lines s.lines _ h.lines; changes = h.changes; invalidations = h.invalidations; registered = h.registered };
  assigned = λ n s v h. assigned_grows before n s v (entry_at n s.vars) h;
  kept = λ k s v h. kept_grows before k s v (has_room k s.bag) h;
  invalidated = λ s m h. record { names = h.names; keys = h.keys; lines = h.lines; changes = h.changes; invalidations = continues_more before.invalidations s.invalidations (m ∷ []) h.invalidations; registered = h.registered };
  declared = λ n s v d h. record { names = continues_both (names_of before.vars) (names_of s.vars) (names_of (with_entry n (Val v) s.vars)) h.names (names_continue n (Val v) s.vars); keys = h.keys; lines = h.lines; changes = h.changes; invalidations = h.invalidations; registered = h.registered };
  registered = λ kind deps what s h. record { names = h.names; keys = h.keys; lines = h.lines; changes = h.changes; invalidations = h.invalidations; registered = continues_more before.registered s.registered _ h.registered };
}

each_unit : (ns : List (List ℕ)) → Each (λ n. Unit {0}) ns
each_unit [] = tt
each_unit (n ∷ ns) = (tt, each_unit ns)

pub statements_extend : (c : Context) (ts : StmtTrees) (s : State) → Extends s (run_all c ts s).0
statements_extend c ts s = statements_keep (λ n. Unit {0}) (Extends s) (grows s) c ts s (extends_itself s)

pub items_extend : (c : Context) (m : ModuleTree) (s : State) → Extends s (items_run c m s).0
items_extend c m s = items_keep (λ n. Unit {0}) (Extends s) (grows s) c m s (each_unit (declared_names m)) (extends_itself s)

-- the bag
kept_small : (k : List ℕ) (s : State) (v : Value) (room : Bool) → has_room k s.bag ≡ room → is_bag s.bag ≡ true
    → is_bag (if◌then◌else◌ {A = Progress} room (record s { bag = with_entry k v s.bag }, None) (s, Some BagFull)).0.bag ≡ true
kept_small k s v true room few = bag_stays k v s.bag room few
kept_small k s v false room few = few

assigned_bag : (n : List ℕ) (s : State) (v : Value) (at : Option Slot) → is_bag s.bag ≡ true → is_bag (assign_slot n s v at).0.bag ≡ true
assigned_bag n s v (Some (Val old)) h = h
assigned_bag n s v (Some Unset) h = h
assigned_bag n s v None h = h

small : IsKept (λ n. Unit {0}) (λ s. is_bag s.bag ≡ true)
small = record {
  line = λ s vs h. h;
  assigned = λ n s v h. assigned_bag n s v (entry_at n s.vars) h;
  kept = λ k s v h. kept_small k s v (has_room k s.bag) refl h;
  invalidated = λ s m h. h;
  declared = λ n s v d h. h;
  registered = λ kind deps what s h. h;
}

body_small : (p : Progress) → is_bag p.0.bag ≡ true → is_bag (ran_of p).bag ≡ true
body_small (s, fault) h = h

pub body_bag : (code : HandlerTree) (env : List (List ℕ × Slot)) (mods : List ModParam) (bag : List (List ℕ × Value)) → is_bag bag ≡ true → is_bag (body_run code env mods bag).bag ≡ true
body_bag code env mods bag few =
    body_small (run_all (record { imports = []; mods = mods }) code.body (opening env bag))
    (statements_keep (λ n. Unit {0}) (λ s. is_bag s.bag ≡ true) small (record { imports = []; mods = mods }) code.body (opening env bag) few)

pub host_bag : (label : List ℕ) (number : ℕ) (bag : List (List ℕ × Value)) → is_bag bag ≡ true → is_bag (host_ran label number bag).bag ≡ true
host_bag label number bag few =
    body_small (host_progress label number bag)
    (kept_small (codes "host") (record (opening [] bag) { lines = host_line label number ∷ [] }) (Num (pos number)) (has_room (codes "host") bag) refl few)

module_small : (p : Progress) → is_bag p.0.bag ≡ true → is_bag (evaluated_of p).bag ≡ true
module_small (s, fault) h = h

pub module_bag : (m : ModuleTree) (imports : List (List ℕ × Slot)) (bag : List (List ℕ × Value)) → is_bag bag ≡ true → is_bag (module_run m imports bag).bag ≡ true
module_bag m imports bag few =
    module_small (items_run (record { imports = imports; mods = [] }) m (opening (unset (declared_names m)) bag))
    (items_keep (λ n. Unit {0}) (λ s. is_bag s.bag ≡ true) small (record { imports = imports; mods = [] }) m (opening (unset (declared_names m)) bag) (each_unit (declared_names m)) few)

-- the variables
assigned_names : (ns : List (List ℕ)) (n : List ℕ) (s : State) (v : Value) (at : Option Slot) → entry_at n s.vars ≡ at → names_of s.vars ≡ ns → names_of (assign_slot n s v at).0.vars ≡ ns
assigned_names ns n s v (Some (Val old)) found h = names_stay n (Val v) s.vars (sym (found_is n s.vars) ∙ ap is_some found) ∙ h
assigned_names ns n s v (Some Unset) found h = h
assigned_names ns n s v None found h = h

kept_names : (ns : List (List ℕ)) (k : List ℕ) (s : State) (v : Value) (room : Bool) → names_of s.vars ≡ ns
    → names_of (if◌then◌else◌ {A = Progress} room (record s { bag = with_entry k v s.bag }, None) (s, Some BagFull)).0.vars ≡ ns
kept_names ns k s v true h = h
kept_names ns k s v false h = h

named : (ns : List (List ℕ)) → IsKept (λ n. has_name n ns ≡ true) (λ s. names_of s.vars ≡ ns)
named ns = record {
  line = λ s vs h. h;
  assigned = λ n s v h. assigned_names ns n s v (entry_at n s.vars) refl h;
  kept = λ k s v h. kept_names ns k s v (has_room k s.bag) h;
  invalidated = λ s m h. h;
  declared = λ n s v d h. names_stay n (Val v) s.vars (ap (has_name n) h ∙ d) ∙ h;
  registered = λ kind deps what s h. h;
}

or_true : (a b : Bool) → b ≡ true → (a || b) ≡ true
or_true true b h = refl
or_true false b h = h

here_in : (n : List ℕ) (front rest : List (List ℕ)) → has_name n (front ++ n ∷ rest) ≡ true
here_in n [] rest = ap (λ b. b || has_name n rest) ((bytes_decides n n).1 refl)
here_in n (m ∷ front) rest = or_true (bytes_eq m n) (has_name n (front ++ n ∷ rest)) (here_in n front rest)

-- each of the names is one of them
each_there : (front ns : List (List ℕ)) → Each (λ n. has_name n (front ++ ns) ≡ true) ns
each_there front [] = tt
each_there front (n ∷ ns) =
    let names : List (List ℕ) → Type 0 = λ l. Each (λ m. has_name m l ≡ true) ns in
    (here_in n front ns, subst names (append_assoc front (n ∷ []) ns) (each_there (front ++ n ∷ []) ns))

unset_names : (ns : List (List ℕ)) → names_of (unset ns) ≡ ns
unset_names [] = refl
unset_names (n ∷ ns) = ap (λ l. n ∷ l) (unset_names ns)

module_names : (p : Progress) (ns : List (List ℕ)) → names_of p.0.vars ≡ ns → names_of (evaluated_of p).vars ≡ ns
module_names (s, fault) ns h = h

pub module_vars : (m : ModuleTree) (imports : List (List ℕ × Slot)) (bag : List (List ℕ × Value)) → names_of (module_run m imports bag).vars ≡ declared_names m
module_vars m imports bag =
    module_names (items_run (record { imports = imports; mods = [] }) m (opening (unset (declared_names m)) bag)) (declared_names m)
    (items_keep (λ n. has_name n (declared_names m) ≡ true) (λ s. names_of s.vars ≡ declared_names m) (named (declared_names m))
    (record { imports = imports; mods = [] }) m (opening (unset (declared_names m)) bag) (each_there [] (declared_names m)) (unset_names (declared_names m)))
