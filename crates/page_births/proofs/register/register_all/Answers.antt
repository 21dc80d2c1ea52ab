use Rattle.std.proofs.Common.{rules, ◌≡◌, ◌<◌, ◌∷◌, [], ◌++◌, List, length, map, refl, sym, ap, subst, ◌∙◌, append_assoc, append-nil, arith}
use Rattle.std.proofs.lemmas.List.{map-append, length-set}
use Rattle.std.proofs.lemmas.List.Elements.{All-rest, All-same}
use Rattle.std.specs.Vec.Iter.{into_iter_items}
use Rattle.module_tree.specs.Tree.{once_of}
use Rattle.page_births.specs.Births.{IsCodeForDeps, Registers, entry_of}
use Rattle.page_births.proofs.Registering.{registers_then, none_yet}
use Rattle.page_births.proofs.register.register_all.Goals as goal

nothing_left : {X : Type 0} (l : List X) → length l ≡ 0 → l ≡ []
nothing_left [] h = refl
nothing_left (x ∷ xs) h = absurd (omega arith)

pub loop-entry-init : goal.loop-entry-init
loop-entry-init g c = record {
  all = c.into_iter-entry-iterator.ensures.into_iter_gives.0;
  left = search rules;
  codes = All-same (λ r. IsCodeForDeps r.kind (once_of r.what)) (into_iter_items c.into_iter-entry-iterator.result) c.args.entries.items c.into_iter-entry-iterator.ensures.into_iter_gives.0 c.requires.codes;
  within = c.requires.place;
  words = c.requires.words;
  registers = none_yet c.args.place c.args.page.now c.args.name.now c.args.lines.now.items c.requires.place;
}

pub loop-entry-preserved : goal.loop-entry-preserved
loop-entry-preserved g c =
    let at = c.loop-entry in
    let x = c.in-Some.entry in
    let steps : into_iter_items at.entry-iterator ≡ x ∷ into_iter_items c.next.new.self = c.in-Some.ensures.steps.0 in
    let one = c.in_ok-register.ensures.registers in
    record {
      all = append_assoc at.yielded (x ∷ []) _ ∙ ap (λ xs. at.yielded ++ xs) (sym steps) ∙ at.invariant.all;
      left = (let was = at.invariant.left in let gone = c.in-Some.ensures.steps.1 in let short = ap length steps in omega arith);
      codes = All-rest (λ r. IsCodeForDeps r.kind (once_of r.what)) x (into_iter_items c.next.new.self) (into_iter_items at.entry-iterator) steps at.invariant.codes;
      within = subst (λ k. c.args.place < k) (sym (ap length one.instances ∙ length-set _ c.args.place one.changed)) at.invariant.within;
      words = c.in_ok-register.ensures.words;
      registers = subst (λ es. Registers c.args.name.now es c.args.place c.args.page.now c.register.new.page c.args.lines.now.items c.register.new.lines.items) (sym (map-append (entry_of c.args.name.now) at.yielded (x ∷ [])))
          (registers_then c.args.place c.args.name.now (map (entry_of c.args.name.now) at.yielded) (entry_of c.args.name.now x ∷ []) c.args.page.now at.page c.register.new.page c.args.lines.now.items at.lines.items c.register.new.lines.items at.invariant.registers one);
    }

pub returns-clause-registers : goal.returns-clause-registers
returns-clause-registers g c =
    let at = c.loop-entry in
    let none = c.in-None.ensures.steps in
    let empty : into_iter_items at.entry-iterator ≡ [] = nothing_left _ (sym at.invariant.left ∙ none.0) in
    let all = sym (append-nil at.yielded) ∙ ap (λ xs. at.yielded ++ xs) (sym empty) ∙ at.invariant.all in
    subst (λ es. Registers c.args.name.now (map (entry_of c.args.name.now) es) c.args.place c.args.page.now at.page c.args.lines.now.items at.lines.items) all at.invariant.registers
