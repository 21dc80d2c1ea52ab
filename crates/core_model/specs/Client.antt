-- What the core keeps of a client, and what of it is read from the sources of the day.
use Rattle.std.specs.Prelude.{ℕ, ◌+◌, ◌==◌, nat_lt, Bool, false, List, [], ◌++◌, Option, Some, None}
use Rattle.std.specs.Prelude.{option_and_then, option_map, if◌then◌else◌}
use Rattle.hmr_types.specs.declared.limits.TheConstants.{LARGEST_NUMBER}
use Rattle.hmr_types.specs.declared.analysis.TextFault.{TextFault}
use Rattle.core_model.specs.Names.{Name, at, with_row, without, names_of, sorted, first_of}
use Rattle.core_model.specs.Page.{Page, new_page}
use Rattle.core_model.specs.Sources.{Sources, EditAnswer, job, same, removed, edit_refused, ResultAnswer}
use Rattle.core_model.specs.Sources.{serve, refuse, late}
use Rattle.core_model.specs.View.{changed_of, dropped_of}
use Rattle.core_model.specs.Spread.{reason_of, replaced_of, pairs_of}

-- what the core keeps of a client
pub record Client : Type 0 where
  pub roots : List Name  -- of its page
  pub batches : ℕ  -- how many reloads and updates it was sent
  pub page : Page
  pub plan_at : ℕ  -- served_no when the last plan began
  pub held_at : Option ℕ  -- served_no when the plan began that was given up last
  pub notices : List (Name × TextFault)  -- the faults that it isn't told of yet

-- a client that has just been connected
abbrev pub new_client : List Name → ℕ → Client
new_client roots served_no = record {
  roots = roots;
  batches = 0;
  page = new_page;
  plan_at = served_no;
  held_at = None;
  notices = [];
}

-- the number is there, and is this one
abbrev pub same_number : Option ℕ → ℕ → Bool
same_number None k = false
same_number (Some j) k = j == k

-- a plan was given up, and nothing was served or removed since it began
abbrev pub is_held : Sources → Client → Bool
is_held s c = same_number c.held_at s.served_no

-- what of the page isn't as it is served
abbrev pub changed : Sources → Client → List Name
changed s c = changed_of s.served c.page.view

-- what no root of the page reaches
abbrev pub dropped : Client → List Name
dropped c = dropped_of c.page.view c.roots

-- the reason of a reload, where one is wanted
abbrev pub reason : Sources → Client → Option (List Name)
reason s c = reason_of c.page.view c.roots (changed s c) c.page.forced

-- what an update would replace
abbrev pub replaced : Sources → Client → List Name
replaced s c = replaced_of c.page.view (changed s c) c.page.forced

-- who would be told of what
abbrev pub pairs : Sources → Client → List (Name × Name)
pairs s c = pairs_of c.page.view (replaced s c) c.page.forced

-- what a reload or an update is for: the changed and the invalidated names, rising by bytes
abbrev pub triggered : Sources → Client → List Name
triggered s c = sorted (changed s c ++ c.page.forced)

-- the number of the next reload or update; it stands still at the largest number
abbrev pub next_batch : ℕ → ℕ
next_batch batches = if nat_lt batches LARGEST_NUMBER then batches + 1 else batches

-- the fault with its module's name
abbrev pub with_name : Name → Option TextFault → Option (Name × TextFault)
with_name n fault = option_map (λ f. (n, f)) fault

-- the waiting notice of the least name
abbrev pub first_notice : Client → Option (Name × TextFault)
first_notice c = option_and_then (λ n. with_name n (at c.notices n)) (first_of (sorted (names_of c.notices)))

-- a notice for n, in place of an earlier one
abbrev pub with_notice : Name → TextFault → Client → Client
with_notice n fault c = record c { notices = with_row n fault c.notices }

-- no notice for n
abbrev pub without_notice : Name → Client → Client
without_notice n c = record c { notices = without n c.notices }

-- what an edit of n is to each client: a removal takes its notice away
abbrev pub told_of_edit : EditAnswer → Name → Client → Client
told_of_edit (job v) n c = c
told_of_edit same n c = c
told_of_edit (removed v) n c = without_notice n c
told_of_edit (edit_refused w) n c = c

-- what a result for n is to each client: a good one takes its notice away, a bad one gives one
abbrev pub told_of_result : ResultAnswer → Name → Client → Client
told_of_result (serve a) n c = without_notice n c
told_of_result (refuse f) n c = with_notice n f c
told_of_result late n c = c
