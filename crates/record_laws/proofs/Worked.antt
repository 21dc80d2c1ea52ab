-- Worked rows: what is said of bytes, written out by hand.
use Rattle.std.proofs.Common.{◌≡◌, [], refl}
use Rattle.std.specs.Prelude.{codes}
use Rattle.std.specs.Fmt.{digits}
use Rattle.hmr_types.specs.ModName.{is_segment_byte}
use Rattle.record_text.specs.Replies.{is_reply}
use Rattle.record_laws.specs.Course.{verdict_of}
use Rattle.record_laws.specs.declared.verdict.Verdict.TheVariants.{No, Yes}
use Rattle.record_laws.specs.declared.verdict.Why.TheVariants.{BadLine, Reply, Rest, Roots}

sound :
    (verdict_of (codes "root /m.js\n") ≡ Yes 0 0)
    × (verdict_of (codes "root /m.js\nremove /m.js\n= same\n") ≡ Yes 1 0)
    × (verdict_of (codes "root /m.js\nedit /m.js\n|let a = 1;\n~b\n= job 1\nremove /m.js\n= removed 2\n") ≡ Yes 2 0)
    × (verdict_of (codes "root /m.js\nsettle /m.js 0\n~x\n= late\n") ≡ Yes 1 0)
unfolding digits is_segment_byte is_reply
sound = (refl, refl, refl, refl)

first_wrong :
    (verdict_of [] ≡ No 1 BadLine)
    × (verdict_of (codes "root /m.js") ≡ No 1 BadLine)
    × (verdict_of (codes "root /m.js\nroot /m.js\n") ≡ No 3 Roots)
    × (verdict_of (codes "root /m.js\nroot /m.js\nask 1\n= late\n") ≡ No 3 Roots)
    × (verdict_of (codes "root /m.js\nroot /m.js\nask\n") ≡ No 3 BadLine)
    × (verdict_of (codes "root /m.js\nremove /m.js\n= late\nroot\n") ≡ No 3 Reply)
    × (verdict_of (codes "root /m.js\nremove /m.js\n= same\nroot /n.js\n") ≡ No 4 BadLine)
    × (verdict_of (codes "root /m.js\nremove /m.js\n= same\nrest 1\n") ≡ No 4 Rest)
    × (verdict_of (codes "root /m.js\nremove /m.js\n") ≡ No 3 BadLine)
unfolding digits is_segment_byte is_reply
first_wrong = (refl, refl, refl, refl, refl, refl, refl, refl, refl)
