use Rattle.px_lines.proofs.Common.{sym, ◌∙◌}
use Rattle.px_script.specs.Forms.{is_signed}
use Rattle.px_lines.proofs.Views.{all-of-line, and-then, and-else}
use Rattle.px_lines.proofs.reading.Line.has_signs.Goals as goal

pub returns-then-are_signed : goal.returns-then-are_signed
returns-then-are_signed c =
    let l = c.args.self.now in let whole = all-of-line (λ x. is_signed c.args.manner x.sign) l.ones.items l.last
    c.atoms-atoms.result.now c.parts-parts.result.now c.atoms-atoms.ensures c.parts-parts.ensures in
    c.have_signs.ensures ∙ and-then _ _ _ whole (sym c.are_signed.ensures ∙ c.if-are_signed.true)

pub returns-else-are_signed : goal.returns-else-are_signed
returns-else-are_signed c =
    let l = c.args.self.now in let whole = all-of-line (λ x. is_signed c.args.manner x.sign) l.ones.items l.last
    c.atoms-atoms.result.now c.parts-parts.result.now c.atoms-atoms.ensures c.parts-parts.ensures in
    c.if-are_signed.false ∙ and-else _ _ _ whole (sym c.are_signed.ensures ∙ c.if-are_signed.false)
