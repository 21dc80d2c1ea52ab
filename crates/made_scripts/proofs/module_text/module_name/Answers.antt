-- The name of a module is a name.
use Rattle.std.proofs.Common.{◌≡◌, ◌<◌, ◌^◌, true, false, Err, sym, ap, arith, ◌∙◌}
use Rattle.hmr_types.specs.ModName.{is_name}
use Rattle.hmr_types.specs.declared.mod_name.NameFault.TheVariants.{NotAName}
use Rattle.made_scripts.specs.Making.{module_name}
use Rattle.made_scripts.proofs.MadeNames.{module_name_is_name}
use Rattle.made_scripts.proofs.module_text.module_name.Goals as goal

pub unreachable-requires : goal.unreachable-requires
unreachable-requires c =
    let refusal : c.read.result ≡ Err NotAName = c.in-Err-NotAName.is ∙ ap Err c.in-Err-NotAName.field-0-is in
    let bytes : c.as_bytes.result.now ≡ module_name c.args.number =
    c.as_bytes.ensures.value ∙ c.in_ok-text.ensures in
    let refused : is_name c.as_bytes.result.now ≡ false = c.read.ensures.not_a_name.0 refusal in
    let small : c.args.number < 2 ^ 32 = omega arith in
    let named : is_name (module_name c.args.number) ≡ true = module_name_is_name c.args.number small in
    let bad : true ≡ false = sym named ∙ (ap is_name (sym bytes) ∙ refused) in
    absurd cc
