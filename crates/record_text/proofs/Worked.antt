-- Worked rows: the text of a record, and what bytes say, written out by hand.
use Rattle.std.proofs.Common.{ℕ, List, [], ◌∷◌, ◌≡◌, refl, Ok, Err, true, false}
use Rattle.std.specs.Prelude.{codes, Result}
use Rattle.std.specs.Fmt.{digits}
use Rattle.hmr_types.specs.ModName.{is_segment_byte}
use Rattle.record_text.specs.declared.record.Record.{Record}
use Rattle.record_text.specs.declared.record.RecordEvent.TheVariants as events
use Rattle.record_text.specs.declared.record.RecordLine.TheVariants as lines
use Rattle.record_text.specs.Reading.{record_of}
use Rattle.record_text.specs.Replies.{is_reply}
use Rattle.record_text.specs.Texts.{record_text}

abbrev m : List ℕ
m = codes "/m.js"

abbrev n : List ℕ
n = codes "/n.js"

abbrev events_text : List ℕ
events_text = codes "root /m.js\nroot /n.js\nedit /m.js\n|let a = 1;\n|\n~b\n= job 1\nremove /n.js\n= same\nsettle /m.js 18446744073709551615\n= late\nconnect\n= gone\nconnect /n.js /m.js\n= gone\nask 0\n= gone\nfetch 4294967295 /m.js\n= gone\napplied 1 /m.js 1 /n.js 9007199254740991\n= gone\nrest 1 /m.js 1 /n.js 9007199254740991\naborted 1\n= gone\ninvalidate 1 /m.js 0\n= gone\ndisconnect 2\n= gone\nrest 0\n"

abbrev all_events : Record
all_events = record {
  roots = m ∷ n ∷ [];
  lines =
      lines.Entry (events.Edit m (codes "let a = 1;\n\nb")) (codes "job 1") ∷ lines.Entry (events.Remove n) (codes "same") ∷ lines.Entry (events.Settle m [] 18446744073709551615) (codes "late")
      ∷ lines.Entry (events.Connect []) (codes "gone") ∷ lines.Entry (events.Connect (n ∷ m ∷ [])) (codes "gone") ∷ lines.Entry (events.Ask 0) (codes "gone")
      ∷ lines.Entry (events.Fetch 4294967295 m) (codes "gone") ∷ lines.Entry (events.Applied 1 ((m, 1) ∷ (n, 9007199254740991) ∷ [])) (codes "gone")
      ∷ lines.Rest 1 ((m, 1) ∷ (n, 9007199254740991) ∷ []) ∷ lines.Entry (events.Aborted 1) (codes "gone") ∷ lines.Entry (events.Invalidate 1 m 0) (codes "gone")
      ∷ lines.Entry (events.Disconnect 2) (codes "gone") ∷ lines.Rest 0 [] ∷ [];
}

written : record_text all_events ≡ events_text
unfolding digits
written = refl

all_read_back : record_of events_text ≡ Ok all_events
unfolding is_segment_byte is_reply
all_read_back = refl

roots_alone : record_of (codes "root /m.js\nroot /m.js\n") ≡ Ok (record { roots = m ∷ m ∷ []; lines = [] })
unfolding is_segment_byte
roots_alone = refl

abbrev bad : ℕ → Result Record ℕ
bad n = Err n

first_bad_lines :
    (record_of [] ≡ bad 1)
    × (record_of (codes "root /m.js") ≡ bad 1)
    × (record_of (codes "root m.js\n") ≡ bad 1)
    × (record_of (codes "ask 1\n= gone\n") ≡ bad 1)
    × (record_of (codes "root /m.js\n\n") ≡ bad 2)
    × (record_of (codes "root /m.js\nrest 1\n") ≡ bad 2)
    × (record_of (codes "root /m.js\n= gone\n") ≡ bad 2)
    × (record_of (codes "root /m.js\nask 1\n") ≡ bad 3)
    × (record_of (codes "root /m.js\nask 1\nask 1\n= gone\n") ≡ bad 3)
    × (record_of (codes "root /m.js\nask 1\n|x\n= gone\n") ≡ bad 3)
    × (record_of (codes "root /m.js\nask 1\n=gone\n") ≡ bad 3)
    × (record_of (codes "root /m.js\nask 1\n= gone") ≡ bad 3)
    × (record_of (codes "root /m.js\nask 1\n= went\n") ≡ bad 3)
    × (record_of (codes "root /m.js\nask 01\n= gone\n") ≡ bad 2)
    × (record_of (codes "root /m.js\nask 1 \n= gone\n") ≡ bad 2)
    × (record_of (codes "root /m.js\nask 4294967296\n= gone\n") ≡ bad 2)
    × (record_of (codes "root /m.js\nsettle /m.js 18446744073709551616\n= late\n") ≡ bad 2)
    × (record_of (codes "root /m.js\nedit /m.js\n~\n= job 1\n") ≡ bad 3)
    × (record_of (codes "root /m.js\nedit /m.js\n~x\n|y\n= job 1\n") ≡ bad 4)
    × (record_of (codes "root /m.js\nask 1\n= gone\nroot /n.js\n") ≡ bad 4)
    × (record_of (codes "root /m.js\nask 1\n= gone\nrest 1 /n.js 1 /m.js 1\n") ≡ bad 4)
    × (record_of (codes "root /m.js\nask 1\n= gone\nrest 1 /m.js 0\n") ≡ bad 4)
    × (record_of (codes "root /m.js\nask 1\n= gone\nrest 1 /m.js\n") ≡ bad 4)
    × (record_of (codes "root /m.js\nask 1\n= gone\nrest 1\nrest 2\n") ≡ bad 5)
unfolding is_segment_byte is_reply
first_bad_lines = (refl, refl, refl, refl, refl, refl, refl, refl, refl, refl, refl, refl, refl, refl, refl, refl, refl, refl, refl, refl, refl, refl, refl, refl)

-- words that have the form of a reply, and words that have none
replies :
    (is_reply (codes "job 0") ≡ true) × (is_reply (codes "removed 18446744073709551615") ≡ true)
    × (is_reply (codes "text-too-long") ≡ true) × (is_reply (codes "too-many-names") ≡ true)
    × (is_reply (codes "source-total") ≡ true) × (is_reply (codes "numbers-spent") ≡ true)
    × (is_reply (codes "served") ≡ true) × (is_reply (codes "refused 0:0 too-many-imports") ≡ true)
    × (is_reply (codes "refused 4294967295:14 bad-byte") ≡ true)
    × (is_reply [] ≡ false) × (is_reply (codes "job") ≡ false) × (is_reply (codes "job 01") ≡ false)
    × (is_reply (codes "same 1") ≡ false) × (is_reply (codes "refused 1 unexpected") ≡ false)
    × (is_reply (codes "refused 1:1 went-wrong") ≡ false) × (is_reply (codes "served ") ≡ false)
unfolding is_reply
replies = (refl, refl, refl, refl, refl, refl, refl, refl, refl, refl, refl, refl, refl, refl, refl, refl)
