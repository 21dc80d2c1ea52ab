use Rattle.std.proofs.Common.{◌≡◌, List, ℕ, ◌++◌, append_assoc, ap, sym, ◌∙◌}
use Rattle.std.specs.Prelude.{codes, decimal}
use Rattle.text_commands.proofs.script_fault.fault_line.Goals as goal

-- a number, a word and an end, put together from the left
together : (number between word end : List ℕ)
    → number ++ (between ++ (word ++ end)) ≡ number ++ between ++ word ++ end
together number between word end =
    sym (append_assoc (number ++ between) word end ∙ append_assoc number between (word ++ end))

pub returns : goal.returns
returns c =
    let start = codes "script fault at line " in
    let number = decimal c.args.fault.line in
    ap (λ v. v.items) c.into_bytes.ensures.value
    ∙ (c.in_ok-line.ensures.ok
    ∙ (ap (λ word. start ++ (number ++ (codes ": " ++ (word ++ codes "\n")))) c.script_word-word.ensures
    ∙ ap (λ t. start ++ t) (together number (codes ": ") _ (codes "\n"))))
