-- Worked rows: what a script's bytes say.
use Rattle.std.proofs.Common.{ℕ, List, [], ◌∷◌, ◌≡◌, refl, Ok, Err}
use Rattle.std.specs.Prelude.{codes, Result}
use Rattle.std.specs.Str.{is_utf8, chars}
use lib.Utf8.{encode}
use Rattle.hmr_types.specs.ModName.{is_segment_byte}
use Rattle.play_script.specs.declared.script_line.ScriptLine.TheVariants as lines
use Rattle.play_script.specs.declared.fault.ScriptFault.{ScriptFault}
use Rattle.play_script.specs.declared.fault.ScriptKind.{ScriptKind}
use Rattle.play_script.specs.declared.fault.ScriptKind.TheVariants.{CutLine, TextWithoutEdit, UnknownWord, WordCount, BadName, BadNumber, RootPlace}
use Rattle.play_script.specs.Script.{Contents, script_of}

abbrev m : List ℕ
m = codes "/m.js"

abbrev n : List ℕ
n = codes "/n.js"

abbrev fault : ℕ → ScriptKind → Result Contents ScriptFault
fault n kind = Err (record { line = n; kind = kind })

nothing_is_a_script : script_of [] ≡ Ok (record { roots = []; lines = [] })
nothing_is_a_script = refl

roots_alone : script_of (codes "root /m.js\n\n# the other one\nroot /n.js\n") ≡ Ok (record { roots = m ∷ n ∷ []; lines = [] })
unfolding is_utf8 chars is_segment_byte encode
roots_alone = refl

each_command : script_of (codes "root /m.js\nquiet\nedit /m.js\n|let a = 1;\n|\nedit /m.js\nremove /m.js\nsettle\nsettle /m.js 9007199254740991\nopen\nopen /n.js /m.js\nopen2\nopen2 /n.js\nclose 4294967295\nturn 1\nturns 2 30\nemit my:ping one\nemit a \nhear 1\nshow 1\nvalues 1\nfates 1\nfresh\nfresh 4294967295\n")
    ≡ Ok (record { roots = m ∷ []; lines = lines.Quiet ∷ lines.Edit m (codes "let a = 1;\n\n") ∷ lines.Edit m [] ∷ lines.Remove m ∷ lines.SettleAll ∷ lines.Settle m 9007199254740991 ∷ lines.Open 1 [] ∷ lines.Open 1 (n ∷ m ∷ []) ∷ lines.Open 2 [] ∷ lines.Open 2 (n ∷ []) ∷ lines.Close 4294967295 ∷ lines.Turn 1 ∷ lines.Turns 2 30 ∷ lines.Emit (codes "/event/my/ping") (codes "one") ∷ lines.Emit (codes "/event/a") [] ∷ lines.Hear 1 ∷ lines.Show 1 ∷ lines.Values 1 ∷ lines.Fates 1 ∷ lines.Fresh ∷ lines.FreshOf 4294967295 ∷ [] })
unfolding is_utf8 chars is_segment_byte encode
each_command = refl

first_faults :
    (script_of (codes "root /m.js\n|x\n") ≡ fault 2 TextWithoutEdit)
    × (script_of (codes "root /m.js\nopen") ≡ fault 2 CutLine)
    × (script_of (codes "open\n") ≡ fault 1 RootPlace)
    × (script_of (codes "root m.js\n") ≡ fault 1 BadName)
    × (script_of (codes "root /m.js\n quiet\n") ≡ fault 2 UnknownWord)
    × (script_of (codes "root /m.js\nquiet \n") ≡ fault 2 WordCount)
    × (script_of (codes "root /m.js\nshow 01\n") ≡ fault 2 BadNumber)
    × (script_of (codes "root /m.js\nshow 4294967296\nnope\n") ≡ fault 2 BadNumber)
    × (script_of (codes "root /m.js\nedit /m.js\n\n|x\n") ≡ fault 4 TextWithoutEdit)
    × (script_of (codes "root /m.js\nroot /m.js\n") ≡ fault 2 RootPlace)
    × (script_of (codes "root /m.js\nopen2 /n.js 1\n") ≡ fault 2 BadName)
    × (script_of (codes "root /m.js\nfresh 0\n") ≡ fault 2 BadNumber)
    × (script_of (codes "root /m.js\nfresh 1 m\n") ≡ fault 2 WordCount)
    × (script_of (codes "root /m.js\nemit a\n") ≡ fault 2 WordCount)
    × (script_of (codes "root /m.js\nemit a one two\n") ≡ fault 2 WordCount)
    × (script_of (codes "root /m.js\nemit a: one\n") ≡ fault 2 BadName)
    × (script_of (codes "root /m.js\nhear one\n") ≡ fault 2 BadNumber)
unfolding is_utf8 chars is_segment_byte encode
first_faults = (refl, refl, refl, refl, refl, refl, refl, refl, refl, refl, refl, refl, refl, refl, refl, refl, refl)
