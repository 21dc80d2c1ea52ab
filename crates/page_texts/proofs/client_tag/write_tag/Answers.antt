use Rattle.std.proofs.Common.{rules, ◌≡◌, ◌++◌, ap, ◌∙◌}
use Rattle.std.specs.Prelude.{codes}
use Rattle.page_texts.specs.Pages.{attribute}
use Rattle.page_texts.proofs.Pieces.{whole_tag}
use Rattle.page_texts.proofs.client_tag.write_tag.Goals as goal

pub returns : goal.returns
returns c =
    let start : c.extend_from_slice.new.self.items ≡ c.args.out.now.items ++ codes "<script src=\"/@hmr/client.js\"" = search rules in
    let name : c.put_attribute.new.out.items ≡ c.put_number.new.out.items ++ attribute (codes " data-root=\"") c.args.root.now =
    c.in_ok-put_attribute.ensures ∙ ap (λ r. c.put_number.new.out.items ++ attribute (codes " data-root=\"") r) c.as_bytes.ensures.value in
    let end : c.extend_from_slice-2.new.self.items ≡ c.put_number-3.new.out.items ++ codes "></script>" = search rules in
    whole_tag c.args.tag c.args.root.now c.args.out.now.items c.extend_from_slice.new.self.items c.put_number.new.out.items
    c.put_attribute.new.out.items c.put_number-2.new.out.items c.put_number-3.new.out.items c.extend_from_slice-2.new.self.items start
    c.in_ok-put_number.ensures name c.in_ok-put_number-2.ensures c.in_ok-put_number-3.ensures end
