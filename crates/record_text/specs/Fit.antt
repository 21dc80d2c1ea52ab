-- Which records are read back from their text.
use Rattle.std.specs.Prelude.{◌≡◌, ℕ, Bool, true, false, not, nat_le, ◌&&◌, List, [], ◌∷◌}
use Rattle.std.specs.List.{list_all}
use Rattle.hmr_types.specs.declared.limits.TheConstants.{LARGEST_CLIENT}
use Rattle.hmr_types.specs.ModName.{is_name}
use Rattle.hmr_types.specs.Table.{is_table}
use Rattle.play_script.specs.Script.{is_empty, is_line_end}
use Rattle.record_text.specs.declared.record.Record.{Record}
use Rattle.record_text.specs.declared.record.RecordEvent.{RecordEvent}
use Rattle.record_text.specs.declared.record.RecordEvent.TheVariants as events
use Rattle.record_text.specs.declared.record.RecordLine.{RecordLine}
use Rattle.record_text.specs.declared.record.RecordLine.TheVariants as lines
use Rattle.record_text.specs.Numbers.{largest_count}
use Rattle.record_text.specs.Replies.{is_reply}

-- the number of a client
abbrev pub is_client : ℕ → Bool
is_client n = nat_le n LARGEST_CLIENT

-- a version outside a table
abbrev pub is_count : ℕ → Bool
is_count n = nat_le n largest_count

-- a table of modules
abbrev pub is_page : List (List ℕ × ℕ) → Bool
is_page table = is_table table && list_all (λ r. is_name r.0) table

-- an event whose names are names, and whose numbers and tables are in range
abbrev pub fits_event : RecordEvent → Bool
fits_event (events.Edit name text) = is_name name
fits_event (events.Remove name) = is_name name
fits_event (events.Settle name text version) = is_name name && is_count version
fits_event (events.Connect names) = list_all is_name names
fits_event (events.Ask client) = is_client client
fits_event (events.Fetch client name) = is_client client && is_name name
fits_event (events.Applied client table) = is_client client && is_page table
fits_event (events.Aborted client) = is_client client
fits_event (events.Invalidate client name version) = is_client client && is_name name && is_count version
fits_event (events.Disconnect client) = is_client client

abbrev pub is_one_line : List ℕ → Bool
is_one_line = list_all (λ b. not (is_line_end b))

-- an entry whose reply has the form of one, on one line; or a client at rest
abbrev pub fits_line : RecordLine → Bool
fits_line (lines.Entry event reply) = fits_event event && (is_reply reply && is_one_line reply)
fits_line (lines.Rest client table) = is_client client && is_page table

-- each client at rest stands directly behind an entry; whether one may stand first is told
abbrev pub are_behind_entries : Bool → List RecordLine → Bool
are_behind_entries may [] = true
are_behind_entries may (lines.Entry event reply ∷ more) = are_behind_entries true more
are_behind_entries may (lines.Rest client table ∷ more) = may && are_behind_entries false more

-- a record that is read back from its text
pub record HasText (r : Record) : Type 0 where
  pub some : is_empty r.roots ≡ false
  pub roots : list_all is_name r.roots ≡ true
  pub lines : list_all fits_line r.lines ≡ true
  pub order : are_behind_entries false r.lines ≡ true
