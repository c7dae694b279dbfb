use Rattle.std.proofs.Common.{◌≡◌, ◌∙◌, ◌<◌, [], ◌∷◌, length, ap, sym, subst, arith}
use Rattle.std.proofs.lemmas.List.{nil_from_length}
use Rattle.px_prover.proofs.GapDeciding.{empty-test, filled-test}
use Rattle.px_gaps.specs.declared.question.Obligation.{Obligation}
use Rattle.px_gaps.specs.Known.{IsOpenWith}
use Rattle.px_entries.proofs.PlainLaws.{plain-applicable, plain-open}
use Rattle.px_entries.proofs.plain.known_settled.Goals as goal

pub returns-then-is_empty : goal.returns-then-is_empty
returns-then-is_empty c =
    let empty =
    nil_from_length c.atoms-gaps.result.now (empty-test c.atoms-gaps.result.now c.is_empty.result c.is_empty.ensures c.if-is_empty.true)
    in
    plain-applicable c.args.problem.now c.requires.problem c.args.model.now.atoms c.args.formula.now c.requires.formula c.requires.apart
    c.requires.unlimited c.requires.settled
    c.in_ok-absent.absent.atoms c.in_ok-absent.ensures (sym c.atoms-gaps.ensures.value ∙ empty)

pub returns : goal.returns
returns c =
    let needed : Obligation = record { formula = c.args.formula.now; variable_count = 0; facts = c.args.model.now.atoms } in
    let filled : 0 < length c.atoms-gaps.result.now =
    filled-test c.atoms-gaps.result.now c.is_empty.result c.is_empty.ensures c.if-is_empty.false in
    subst (IsOpenWith c.args.problem.now (needed ∷ [])) (sym (c.in_ok-from_slice.ensures ∙ c.atoms-gaps.ensures.value))
    (plain-open c.args.problem.now c.requires.problem c.args.model.now.atoms c.args.formula.now c.requires.formula c.requires.apart
    c.requires.unlimited c.requires.settled
    c.in_ok-absent.absent.atoms c.in_ok-absent.ensures
    (λ empty. let none : length c.atoms-gaps.result.now ≡ 0 = ap length (c.atoms-gaps.ensures.value ∙ empty) in
    absurd (omega (arith, filled, none)))
    c.atoms-gaps.ensures.model.ascending)
