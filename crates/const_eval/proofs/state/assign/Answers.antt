use Rattle.std.proofs.Common.{rules, ◌≡◌, ◌++◌, ◌∷◌, [], ℕ, List, Some}
use Rattle.std.specs.BTreeMap.{BTreeMap, UpdatesBy}
use Rattle.std.specs.Ordering.{nat_cmp}
use Rattle.hmr_types.specs.declared.value.Slot.{Slot}
use Rattle.hmr_types.specs.declared.value.Slot.TheVariants.{Val}
use Rattle.module_semantics.specs.Entries.{entry_at, with_entry}
use Rattle.const_eval.specs.Places.{held_in, place_among, variables}
use Rattle.const_eval.specs.States.{state_of}
use Rattle.const_eval.proofs.Variables.{assigned, found_now, given_later}
use Rattle.const_eval.proofs.state.assign.Goals as goal

pub returns : goal.returns
returns c =
    let first : List (List ℕ × Slot) = c.args.context.now.vars.now in
    let before : BTreeMap ℕ Slot = c.args.state.now.given in
    let there : Some c.in-Some.place ≡ place_among c.args.name.now first = search rules in
    let held : held_in (variables first before) (Some c.in-Some.place) ≡ Some (Val c.in-Val.field-0) = search rules in
    let updates : UpdatesBy nat_cmp (nat_cmp c.in-Some.place) before c.insert.new.self (Some (Val c.args.value)) = search rules in
    let given : variables first c.insert.new.self ≡ with_entry c.args.name.now (Val c.args.value) (variables first before) =
    given_later c.args.name.now (Val c.args.value) first before c.insert.new.self c.in-Some.place there updates in
    let pushed : c.push.new.self.items ≡ c.args.state.now.changes.items ++ (c.args.name.now, c.args.value) ∷ [] = search rules in
    let found : Some (Val c.in-Val.field-0) ≡ entry_at c.args.name.now (variables first before) =
    found_now c.args.name.now first before c.in-Some.place (Val c.in-Val.field-0) there held in
    rw (given, pushed) (assigned c.args.name.now (state_of c.args.context.now c.args.state.now) c.args.value c.in-Val.field-0 found)
