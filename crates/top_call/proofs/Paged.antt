-- What is known of a run of `page` as one of the program: the definitions of the other commands' output give none.
use Rattle.std.proofs.Common.{◌≡◌, ℕ, List, Option, Some, None, arith, sym, refl, inl, inr}
use Prim.{⊥}
use Rattle.std.proofs.Math.Path.{subst}
use Rattle.std.proofs.lemmas.Bool.{false≢true}
use Rattle.hmr_base.specs.Causes.{Rose}
use Rattle.core_model.specs.Sources.{Text}
use Rattle.command_words.specs.declared.command.Command.{Command}
use Rattle.command_words.specs.declared.command.Command.TheVariants as commands
use Rattle.script_runs.specs.Outputs.{output_meant}
use Rattle.top_call.specs.Paged.{IsPageStatus}
use Rattle.text_commands.specs.Runs.{ReadsInput}

pub page_gives_none : (shelves : List (List (Text × ℕ))) (command : Option Command) (folder : List ℕ)
    (left : Option (List ℕ)) → command ≡ Some (commands.Page folder) → output_meant shelves command left ≡ None
page_gives_none shelves command folder left is =
    subst (λ c. output_meant shelves c left ≡ None) (sym is) refl

pub page_not_two : (status : ℕ) → IsPageStatus status → status ≡ 2 → ⊥
page_not_two status (inl none) two = absurd (omega (arith, none, two))
page_not_two status (inr (inl four)) two = absurd (omega (arith, four, two))
page_not_two status (inr (inr (inl five))) two = absurd (omega (arith, five, two))
page_not_two status (inr (inr (inr (inl six)))) two = absurd (omega (arith, six, two))
page_not_two status (inr (inr (inr (inr (inl eight))))) two = absurd (omega (arith, eight, two))
page_not_two status (inr (inr (inr (inr (inr nine))))) two = absurd (omega (arith, nine, two))

-- it reads the input request by request
pub page_reads : (command : Option Command) (folder : List ℕ) (left : Option (List ℕ)) (before now : ℕ)
    (old new : Option (List ℕ)) (status : ℕ) → command ≡ Some (commands.Page folder)
    → (status ≡ 4 → Rose before now) → ReadsInput command left before now old new status
page_reads command folder left before now old new status is unread =
    subst (λ c. ReadsInput c left before now old new status) (sym is) (record {
      end = λ zero reads. absurd (false≢true reads);
      unread = unread;
      unread_silent = λ four whole. absurd (false≢true (sym whole));
      unread_reads = λ four whole. absurd (false≢true (sym whole));
    })
