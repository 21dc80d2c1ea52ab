-- What is known of a run of `serve` or `join` as one of the program: the definitions of the other commands' output
-- give none for them.
use Rattle.std.proofs.Common.{◌≡◌, ℕ, true, List, Option, Some, None, is_some, arith, ap, sym, refl, ◌∙◌, inl, inr}
use Prim.{⊥}
use Rattle.std.specs.Io.KnownBytes.{IsAtEnd, Keeps}
use Rattle.std.proofs.Math.Path.{subst}
use Rattle.std.proofs.lemmas.Bool.{false≢true}
use Rattle.hmr_base.specs.Causes.{Rose}
use Rattle.core_model.specs.Sources.{Text}
use Rattle.command_words.specs.declared.command.Command.{Command}
use Rattle.command_words.specs.declared.command.Command.TheVariants as commands
use Rattle.command_words.specs.declared.command.ServePlan.{ServePlan}
use Rattle.text_commands.specs.Outputs.{Output}
use Rattle.script_runs.specs.Outputs.{output_meant}
use Rattle.top_call.specs.Outside.{IsJoinStatus, IsServeStatus}
use Rattle.text_commands.specs.Runs.{AnswersWords, IsComplete, ReadsInput, WritesOutput}

-- nothing is said of an output that isn't given
pub nothing_written : (output : Option Output) (old new : Option (List ℕ)) (before now status : ℕ)
    → output ≡ None → WritesOutput output old new before now status
nothing_written output old new before now status is =
    subst (λ o. WritesOutput o old new before now status) (sym is) (record {
      front = tt;
      done = λ s. tt;
      played = λ s. tt;
      no_script = λ s. tt;
      fault_whole = λ s well. tt;
      limit = λ s. tt;
      limit_last = λ s. tt;
      limit_whole = λ s well. tt;
    })

pub nothing_complete : (output : Option Output) (status : ℕ) → output ≡ None → IsComplete output status
nothing_complete output status is =
    subst (λ o. IsComplete o status) (sym is) (record { done = tt; faults = tt; limits = tt })

pub serve_gives_none : (shelves : List (List (Text × ℕ))) (command : Option Command) (plan : ServePlan)
    (left : Option (List ℕ)) → command ≡ Some (commands.Serve plan) → output_meant shelves command left ≡ None
serve_gives_none shelves command plan left is =
    subst (λ c. output_meant shelves c left ≡ None) (sym is) refl

pub join_gives_none : (shelves : List (List (Text × ℕ))) (command : Option Command) (port : ℕ)
    (roots : List (List ℕ)) (turns : ℕ) (left : Option (List ℕ)) → command ≡ Some (commands.Join port roots turns)
    → output_meant shelves command left ≡ None
join_gives_none shelves command port roots turns left is =
    subst (λ c. output_meant shelves c left ≡ None) (sym is) refl

-- the words are a command, and its status isn't 2
pub words_answered : (command : Option Command) (which : Command) (old new : Option (List ℕ))
    (before now status : ℕ) → command ≡ Some which → (status ≡ 2 → ⊥)
    → AnswersWords command old new before now status
words_answered command which old new before now status is never = record {
  words = λ two. absurd (never two);
  no_command = λ none. absurd (false≢true (sym (ap is_some none) ∙ ap is_some is));
  usage = λ two. absurd (never two);
  usage_whole = λ two well. absurd (never two);
}

pub serve_not_two : (status : ℕ) → IsServeStatus status → status ≡ 2 → ⊥
serve_not_two status (inl none) two = absurd (omega (arith, none, two))
serve_not_two status (inr (least, most)) two = absurd (omega (arith, least, two))

pub join_not_two : (status : ℕ) → IsJoinStatus status → status ≡ 2 → ⊥
join_not_two status (inl none) two = absurd (omega (arith, none, two))
join_not_two status (inr (inl five)) two = absurd (omega (arith, five, two))
join_not_two status (inr (inr (least, most))) two = absurd (omega (arith, least, two))

join_not_four : (status : ℕ) → IsJoinStatus status → status ≡ 4 → ⊥
join_not_four status (inl none) four = absurd (omega (arith, none, four))
join_not_four status (inr (inl five)) four = absurd (omega (arith, five, four))
join_not_four status (inr (inr (least, most))) four = absurd (omega (arith, least, four))

-- `serve` reads the input where its plan asks for edits
pub serve_reads : (command : Option Command) (plan : ServePlan) (left : Option (List ℕ)) (before now : ℕ)
    (old new : Option (List ℕ)) (status : ℕ) → command ≡ Some (commands.Serve plan)
    → (status ≡ 0 → plan.edits ≡ true → IsAtEnd left)
    → (status ≡ 4 → (plan.edits ≡ true) × Rose before now) → (status ≡ 4 → Keeps old new)
    → ReadsInput command left before now old new status
serve_reads command plan left before now old new status is end unread silent =
    subst (λ c. ReadsInput c left before now old new status) (sym is) (record {
      end = end;
      unread = λ four. (unread four).1;
      unread_silent = λ four whole. silent four;
      unread_reads = λ four whole. (unread four).0;
    })

-- `join` doesn't read it
pub join_reads : (command : Option Command) (port : ℕ) (roots : List (List ℕ)) (turns : ℕ)
    (left : Option (List ℕ)) (before now : ℕ) (old new : Option (List ℕ)) (status : ℕ)
    → command ≡ Some (commands.Join port roots turns) → IsJoinStatus status
    → ReadsInput command left before now old new status
join_reads command port roots turns left before now old new status is known =
    subst (λ c. ReadsInput c left before now old new status) (sym is) (record {
      end = λ zero reads. absurd (false≢true reads);
      unread = λ four. absurd (join_not_four status known four);
      unread_silent = λ four whole. absurd (join_not_four status known four);
      unread_reads = λ four whole. absurd (join_not_four status known four);
    })
