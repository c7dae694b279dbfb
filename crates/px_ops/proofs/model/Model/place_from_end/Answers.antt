use Rattle.std.proofs.Common.{◌≡◌, ◌∙◌, ◌-◌, ◌<◌, ℕ, is_lt, List, length, ap, arith, get_or, sym, subst}
use Rattle.std.specs.declared.cmp.Ordering.TheVariants.{Less}
use Rattle.px_terms.specs.Order.{atom_cmp}
use Rattle.px_terms.specs.declared.atom.Atom.{Atom}
use Rattle.px_ops.proofs.ModelLemmas.{last_place, less_is}
use Rattle.px_ops.proofs.model.Model.place_from_end.Goals as goal

pub returns-then-is_lt-clause-place : goal.returns-then-is_lt-clause-place
returns-then-is_lt-clause-place c =
    let atoms = c.args.self.now.atoms in
    let atom = c.args.atom.now in
    let found = c.index-atoms-count.result in
    let same = c.atoms-atoms.ensures.value in
    let count : length c.atoms-atoms.result.now ≡ length atoms = ap (λ (l : List Atom). length l) same in
    let some : 0 < length atoms = subst (λ (n : ℕ). 0 < n) count (omega (arith, c.if-count-gt0.true)) in
    let below = less_is (atom_cmp found atom) (ap is_lt (sym c.cmp.ensures) ∙ sym c.is_lt.ensures ∙ c.if-is_lt.true) in
    let last : found ≡ get_or atoms (length atoms - 1) found =
    c.index-atoms-count.is ∙ ap (λ (l : List Atom). get_or l (length l - 1) found) same in
    let is_place =
    last_place atoms atom found c.atoms-atoms.ensures.model.ascending some (subst (λ (a : Atom). atom_cmp a atom ≡ Less) last below) in
    rw count is_place
