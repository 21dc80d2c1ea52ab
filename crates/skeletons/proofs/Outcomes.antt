-- What the core learns of a skeleton, and that skeletons tell their stamps.
use Rattle.std.proofs.Common.{◌≡◌, ℕ, ◌≤◌, List, ◌++◌, Result, Ok, Err, ap, ◌∙◌, arith}
use Rattle.std.specs.Prelude.{decimal, replicate, ◌-◌, true}
use Rattle.std.specs.List.{list_all}
use Rattle.std.proofs.lemmas.Fmt.{decimal_injective}
use Rattle.std.proofs.lemmas.List.{append_cancel_left}
use Rattle.hmr_types.specs.ModName.{is_name}
use Rattle.hmr_types.specs.declared.analysis.Analysis.{Analysis}
use Rattle.hmr_types.specs.declared.analysis.TextFault.{TextFault}
use Rattle.hmr_types.specs.declared.limits.TheConstants.{LARGEST_NUMBER}
use Rattle.module_semantics.specs.Analysis.{outcome_of, scan_outcome, transformed}
use Rattle.module_semantics.specs.Canon.{canon}
use Rattle.module_semantics.specs.ModuleText.{parsing}
use Rattle.module_semantics.proofs.CanonReads.{reads_exactly}
use Rattle.module_semantics.proofs.Texts.{is_parsed}
use Rattle.es_scan.specs.declared.fault.Fault.{Fault}
use Rattle.es_scan.specs.declared.outline.Outline.{Outline}
use Rattle.skeletons.specs.Following.{shown}
use Rattle.skeletons.specs.Lists.{list_outcome, list_shown, list_text}
use Rattle.skeletons.specs.Refusing.{refusal, text_with, wrong}
use Rattle.skeletons.specs.Skeletons.{skeleton}
use Rattle.skeletons.specs.Texts.{outcome, skeleton_text}
use Rattle.skeletons.proofs.Analyses.{analysed_is}
use Rattle.skeletons.proofs.Fits.{few_tokens, fits_well}
use Rattle.skeletons.proofs.Refused.{refused}
use Rattle.skeletons.proofs.Sayable.{CanBeSaid}
use Rattle.skeletons.proofs.Sets.{list_can, list_tells, shown_can, shown_tells}

-- a skeleton reads as its tree
said_reads : (stamp : ℕ) (a : Analysis) → stamp ≤ LARGEST_NUMBER → CanBeSaid a → parsing (canon (skeleton stamp a)) ≡ Ok (skeleton stamp a)
said_reads stamp a small can =
    is_parsed (canon (skeleton stamp a)) (skeleton stamp a) ((reads_exactly (skeleton stamp a)).0 (fits_well stamp a small can, few_tokens stamp a can))

told_reads : (stamp : ℕ) (name text : List ℕ) (o : Outline) → stamp ≤ LARGEST_NUMBER → parsing (canon (skeleton stamp (shown name text o))) ≡ Ok (skeleton stamp (shown name text o))
told_reads stamp name text o small = said_reads stamp (shown name text o) small (shown_can name text o)

-- the skeleton of a text that is refused has the fault
fault_reads : (stamp : ℕ) (text : List ℕ) (f : Fault) → stamp ≤ LARGEST_NUMBER → parsing (text_with stamp (refusal text f)) ≡ Err (refusal text f)
fault_reads stamp text f small = refused stamp (refusal text f).line (refusal text f).col f.kind (omega (arith, small)) (omega arith) (omega arith)

pub outcome_is : (stamp : ℕ) (name text : List ℕ) (scan : Result Outline Fault) (made base : List ℕ) → stamp ≤ LARGEST_NUMBER → made ≡ skeleton_text stamp name text scan
    → transformed parsing base made ≡ outcome name text scan
outcome_is stamp name text (Ok o) made base small is =
    ap (transformed parsing base) is ∙ ap (outcome_of base) (told_reads stamp name text o small)
    ∙ ap scan_outcome (analysed_is base stamp (shown name text o) (shown_can name text o) ∙ shown_tells name text o)
outcome_is stamp name text (Err f) made base small is =
    ap (transformed parsing base) is ∙ ap (outcome_of base) (fault_reads stamp text f small)

-- what the core learns of the skeleton of a list
pub list_learns : (stamp : ℕ) (imports accepts : List (List ℕ)) (made base : List ℕ) → stamp ≤ LARGEST_NUMBER → list_all is_name imports ≡ true → made ≡ list_text stamp imports accepts
    → transformed parsing base made ≡ list_outcome imports accepts
list_learns stamp imports accepts made base small are is =
    let a = list_shown imports accepts in
    let can = list_can imports accepts are in
    ap (transformed parsing base) is ∙ ap (outcome_of base) (said_reads stamp a small can)
    ∙ ap scan_outcome (analysed_is base stamp a can ∙ list_tells imports accepts)

same_number : (stamp other : ℕ) (f : TextFault) → stamp ≤ LARGEST_NUMBER → other ≤ LARGEST_NUMBER → text_with stamp f ≡ text_with other f → stamp ≡ other
same_number stamp other f small few same =
    let spaces : List ℕ = replicate (f.col - 1) 32 in
    let one : spaces ++ (wrong f.word ++ decimal stamp) ≡ spaces ++ (wrong f.word ++ decimal other) = append_cancel_left (replicate (f.line - 1) 10) (spaces ++ (wrong f.word ++ decimal stamp)) (spaces ++ (wrong f.word ++ decimal other)) same in
    let two : wrong f.word ++ decimal stamp ≡ wrong f.word ++ decimal other = append_cancel_left spaces (wrong f.word ++ decimal stamp) (wrong f.word ++ decimal other) one in
    decimal_injective stamp other (omega (arith, small)) (omega (arith, few)) (append_cancel_left (wrong f.word) (decimal stamp) (decimal other) two)

pub stamps : (stamp other : ℕ) (name another text change : List ℕ) (scan next : Result Outline Fault) → stamp ≤ LARGEST_NUMBER → other ≤ LARGEST_NUMBER
    → skeleton_text stamp name text scan ≡ skeleton_text other another change next → stamp ≡ other
stamps stamp other name another text change (Ok o) (Ok p) small few same =
    let one = told_reads stamp name text o small in
    let two = told_reads other another change p few in
    let trees : skeleton stamp (shown name text o) ≡ skeleton other (shown another change p) = cc in
    cc
stamps stamp other name another text change (Ok o) (Err g) small few same =
    let one = told_reads stamp name text o small in
    let two = fault_reads other change g few in
    absurd (cc)
stamps stamp other name another text change (Err f) (Ok p) small few same =
    let one = fault_reads stamp text f small in
    let two = told_reads other another change p few in
    absurd (cc)
stamps stamp other name another text change (Err f) (Err g) small few same =
    let one = fault_reads stamp text f small in
    let two = fault_reads other change g few in
    let faults : refusal change g ≡ refusal text f = cc in
    same_number stamp other (refusal text f) small few (same ∙ ap (text_with other) faults)
