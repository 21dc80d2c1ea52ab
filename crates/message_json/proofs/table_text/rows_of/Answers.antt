use Rattle.std.proofs.Common.{◌≡◌, ℕ, List, [], ◌∷◌, ◌++◌, true, Option, IfSome, ap, sym, subst, ◌∙◌}
use Rattle.hmr_types.specs.ModName.{is_name}
use Rattle.message_json.specs.TableText.{AreRows, are_named, front}
use Rattle.message_json.proofs.TableText.{row_more, rows_end, rows_named}
use Rattle.message_json.proofs.table_text.rows_of.Goals as goal

pub loop-name-preserved : goal.loop-name-preserved
loop-name-preserved c =
    let rows : List (List ℕ × ℕ) = c.loop-name.rows.items in
    let n : List ℕ = c.in-Some.name.now in
    let v : ℕ = c.in-Some.version in
    let named : (c.in-Some-2.name ≡ n) × (is_name n ≡ true) = subst (λ (o : Option (List ℕ)). IfSome o (λ m. (m ≡ n) × (is_name n ≡ true))) c.in-Some-2.is c.in_ok-name.ensures.name in
    let pushed : c.push.new.self.items ≡ rows ++ (n, v) ∷ [] = c.in_ok-push-in-Some-2.ensures.items ∙ ap (λ (m : List ℕ). rows ++ (m, v) ∷ []) named.0 in (
      row_more c.args.text.now c.loop-name.left.now c.in-Some.rest.now c.in-Some-after.more.now rows n v c.loop-name.invariant.0 c.in-Some.ensures c.in-Some-after.ensures
          ∙ ap (λ (l : List (List ℕ × ℕ)). front l ++ c.in-Some-after.more.now) (sym pushed),
      ap are_named pushed ∙ rows_named rows n v c.loop-name.invariant.1 named.1,
    )

pub returns-in-None-after : goal.returns-in-None-after
returns-in-None-after c =
    let rows : List (List ℕ × ℕ) = c.loop-name.rows.items in
    let n : List ℕ = c.in-Some.name.now in
    let v : ℕ = c.in-Some.version in
    let named : (c.in-Some-2.name ≡ n) × (is_name n ≡ true) = subst (λ (o : Option (List ℕ)). IfSome o (λ m. (m ≡ n) × (is_name n ≡ true))) c.in-Some-2.is c.in_ok-name.ensures.name in
    let pushed : c.push.new.self.items ≡ rows ++ (n, v) ∷ [] = c.in_ok-push-in-Some-2.ensures.items ∙ ap (λ (m : List ℕ). rows ++ (m, v) ∷ []) named.0 in
    subst (AreRows c.args.text.now) (sym pushed)
    (rows_end c.args.text.now c.loop-name.left.now c.in-Some.rest.now rows n v c.loop-name.invariant.1 named.1 c.loop-name.invariant.0 c.in-Some.ensures (c.is_tail.ensures c.if-is_tail.true))
