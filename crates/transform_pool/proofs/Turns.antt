-- The turns of a worker, one after another.
use Rattle.std.proofs.Common.{◌≡◌, ℕ, ◌+◌, ◌-◌, ◌^◌, min, List, [], ◌∷◌, ◌++◌, map, sym, refl, ap, ◌∙◌, subst, arith, append_assoc, length-append}
use Rattle.std.specs.Prelude.{Option, None, Some, Result, Err}
use Rattle.std.proofs.lemmas.List.{map-append}
use Rattle.std.proofs.lemmas.List.Elements.{All-append, All-cons, All-nil}
use Rattle.update_msgs.specs.declared.desk.HubStop.{HubStop}
use Rattle.transforms.specs.Transform.{Transform}
use Rattle.transform_pool.specs.Boards.{told_more}
use Rattle.transform_pool.specs.Results.{post_of}
use Rattle.transform_pool.specs.Tasks.{Task}
use Rattle.transform_pool.specs.Working.{IsGated, Worked, Working}

told_again : {A : Type 0} (told : Option (List A)) (xs ys : List A)
    → told_more (told_more told xs) ys ≡ told_more told (xs ++ ys)
told_again None xs ys = refl
told_again (Some zs) xs ys = ap Some (append_assoc zs xs ys)

module _ (t t' t'' : Option (List Task)) (p p' p'' : Option (List (Transform × ℕ))) where
  -- one more job was taken and its result posted
  pub one_more : (n n' : ℕ) (job : Task) → Working t t' p p' n → t'' ≡ told_more t' (job ∷ [])
      → p'' ≡ told_more p' (post_of job ∷ []) → n' ≡ min (n + 1) (2 ^ 64 - 1) → Working t t'' p p'' n'
  one_more n n' job w took posted count =
      record {
        jobs = w.jobs ++ job ∷ [];
        taken_is = took ∙ (ap (λ x. told_more x (job ∷ [])) w.taken_is ∙ told_again t w.jobs (job ∷ []));
        posted_is = posted ∙ (ap (λ x. told_more x (post_of job ∷ [])) w.posted_is
            ∙ (told_again p (map post_of w.jobs) (post_of job ∷ [])
            ∙ ap (λ l. told_more p l) (sym (map-append post_of w.jobs (job ∷ [])))));
        count_is = let was = w.count_is in omega (arith, length-append w.jobs (job ∷ []));
      }

  stopped_by : (n : ℕ) (job : Task) (stop : HubStop) → Working t t' p p' n → t'' ≡ told_more t' (job ∷ [])
      → p'' ≡ p' → Worked t t'' p p'' (Err stop)
  stopped_by n job stop w took posted =
      record {
        jobs = w.jobs ++ job ∷ [];
        done = w.jobs;
        taken_is = took ∙ (ap (λ x. told_more x (job ∷ [])) w.taken_is ∙ told_again t w.jobs (job ∷ []));
        posted_is = posted ∙ w.posted_is;
        took = (job, refl);
      }

  -- it took one more job and was stopped
  pub stopped : (n : ℕ) (job : Task) (stop : HubStop) (result : Result ℕ HubStop) → result ≡ Err stop
      → Working t t' p p' n → t'' ≡ told_more t' (job ∷ []) → p'' ≡ p' → Worked t t'' p p'' result
  stopped n job stop result is w took posted =
      subst (λ (r : Result ℕ HubStop). Worked t t'' p p'' r) (sym is) (stopped_by n job stop w took posted)

module _ (passed : ℕ → Type 0) (p p' p'' : Option (List (Transform × ℕ))) where
  -- nothing more was posted
  pub gated_same : IsGated passed p p' → p'' ≡ p' → IsGated passed p p''
  gated_same g same = record { more = g.more; posted_is = same ∙ g.posted_is; gated = g.gated }

  -- one more result was posted behind those before, and its version has passed
  pub gated_more : (q : Option (List (Transform × ℕ))) (row : Transform × ℕ) → IsGated passed p p' → q ≡ p'
      → p'' ≡ told_more q (row ∷ []) → passed row.1 → IsGated passed p p''
  gated_more q row g same posted one =
      let P : Transform × ℕ → Type 0 = λ row. passed row.1 in
      let before : q ≡ told_more p g.more = same ∙ g.posted_is in
      record {
        more = g.more ++ row ∷ [];
        posted_is = posted ∙ (ap (λ x. told_more x (row ∷ [])) before ∙ told_again p g.more (row ∷ []));
        gated = All-append P g.more (row ∷ []) g.gated (All-cons P row [] one (All-nil P));
      }
