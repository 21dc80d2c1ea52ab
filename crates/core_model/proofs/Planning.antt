-- Plans: what the walk meets, and the view that a plan makes.
use Rattle.std.proofs.Common.{◌≡◌, ◌↔◌, Bool, true, false, List, [], ◌++◌, refl, ap, sym, ◌∙◌}
use Rattle.std.specs.Prelude.{◌||◌, Option, Some, None, is_some, if◌then◌else◌}
use Rattle.std.specs.Option.{option_or}
use Rattle.std.proofs.lemmas.Bool.{false≢true}
use Rattle.hmr_types.specs.declared.words.PlanKind.{PlanKind}
use Rattle.hmr_types.specs.declared.words.PlanKind.TheVariants.{Load, Reload, Update}
use Rattle.core_model.specs.Names.{Name, has, at, names_of, sorted}
use Rattle.core_model.specs.Paths.{Reaches}
use Rattle.core_model.specs.Rounds.{IsOver}
use Rattle.core_model.specs.View.{View, Entry, imports_of, imported_of}
use Rattle.core_model.specs.Page.{Plan, kept_or_staged, plan_imports, met_of, unmet_entry, new_entry, new_view}
use Rattle.core_model.proofs.Naming.{or_left, or_right, has_append, sorted_has}
use Rattle.core_model.proofs.Reaching.{rounds_are}
use Rattle.core_model.proofs.Tables.{at_collect, named}
use Rattle.core_model.proofs.Views.{over}

or_over : (kept staged : Option Entry) (m : Name) (a b : Bool) → (has (imports_of kept) m ≡ true → a ≡ true) → (has (imports_of staged) m ≡ true → b ≡ true) → has (imports_of (option_or kept staged)) m ≡ true → (a || b) ≡ true
or_over None staged m a b f g h = or_right a b (g h)
or_over (Some e) staged m a b f g h = or_left a b (f h)

kept_over : (kind : PlanKind) (replaced : Bool) (kept staged : Option Entry) (m : Name) (a b : Bool) → (has (imports_of kept) m ≡ true → a ≡ true) → (has (imports_of staged) m ≡ true → b ≡ true) → has (imports_of (kept_or_staged kind replaced kept staged)) m ≡ true → (a || b) ≡ true
kept_over Load replaced kept staged m a b f g h = or_right a b (g h)
kept_over Reload replaced kept staged m a b f g h = or_right a b (g h)
kept_over Update true kept staged m a b f g h = or_right a b (g h)
kept_over Update false kept staged m a b f g h = or_over kept staged m a b f g h

pub plan_over : (p : Plan) (view : View) → IsOver (plan_imports p view) (imported_of view ++ imported_of p.staged)
plan_over p view n m h = has_append (imported_of view) (imported_of p.staged) m ∙ kept_over p.kind (has p.replaced n) (at view n) (at p.staged n) m _ _ (over view n m) (over p.staged n m) h

-- the met names, computed, are those that lists of the plan's imports reach
pub met_is : (roots : List Name) (p : Plan) (view : View) (m : Name) → (has (met_of roots p view) m ≡ true) ↔ Reaches (plan_imports p view) roots m
met_is roots p view m = rounds_are (plan_imports p view) (imported_of view ++ imported_of p.staged) roots (plan_over p view) m

unmet_none : (kind : PlanKind) (old : Option Entry) → is_some old ≡ false → unmet_entry kind old ≡ None
unmet_none Load old h = refl
unmet_none Reload old h = refl
unmet_none Update None h = refl
unmet_none Update (Some e) h = absurd (false≢true (sym h))

new_step : (p : Plan) (view : View) (n : Name) (met listed : Bool) → is_some (at view n) ≡ listed → (if met || listed then new_entry met p view n else None) ≡ new_entry met p view n
new_step p view n true listed h = refl
new_step p view n false true h = refl
new_step p view n false false h = sym (unmet_none p.kind (at view n) h)

-- the new view, looked up
pub at_new : (roots : List Name) (p : Plan) (view : View) (n : Name) → at (new_view roots p view) n ≡ new_entry (has (met_of roots p view) n) p view n
at_new roots p view n =
    at_collect (λ k. new_entry (has (met_of roots p view) k) p view k) (sorted (met_of roots p view ++ names_of view)) n
    ∙ ap (λ b. if b then new_entry (has (met_of roots p view) n) p view n else None) (sorted_has (met_of roots p view ++ names_of view) n ∙ has_append (met_of roots p view) (names_of view) n)
    ∙ new_step p view n (has (met_of roots p view) n) (has (names_of view) n) (named view n)

or_none : (o : Option Entry) → option_or o None ≡ o
or_none None = refl
or_none (Some e) = refl

both_old : (b : Bool) (o : Option Entry) → (if b then option_or o None else o) ≡ o
both_old true o = or_none o
both_old false o = refl

-- an update that replaces nothing and for which nothing was fetched leaves the view as it was
pub nothing_new : (roots : List Name) (view : View) (n : Name) → at (new_view roots (record { kind = Update; replaced = []; staged = [] }) view) n ≡ at view n
nothing_new roots view n = at_new roots (record { kind = Update; replaced = []; staged = [] }) view n ∙ both_old (has (met_of roots (record { kind = Update; replaced = []; staged = [] }) view) n) (at view n)
