use Rattle.std.proofs.Common.{◌≡◌, ◌∙◌, ℕ, Bool, true, false, List, [], ◌∷◌, length, refl, sym, ap, subst, arith}
use Rattle.std.specs.Prelude.{◌==◌}
use borrow.Author.Tests.{eqb-true}
use Rattle.px_base.specs.Answers.{both_answers}
use Rattle.px_terms.specs.declared.atom.Atom.{Atom}
use Rattle.px_gaps.specs.declared.question.Obligation.{Obligation}
use Rattle.px_gaps.specs.declared.question.Question.TheVariants.{FindingGaps}
use Rattle.px_gaps.specs.Known.{IsOpenWith}
use Rattle.px_gaps.proofs.KnownSteps.{known-closed, known-limited, known-open}
use Rattle.px_gaps.proofs.knowing.known_formula.Goals as goal

pub returns-in_ok-asked-in-Err-ShapeLimit : goal.returns-in_ok-asked-in-Err-ShapeLimit
returns-in_ok-asked-in-Err-ShapeLimit c =
    known-limited c.args.problem.now (record { formula = c.args.formula.now; variable_count = c.args.variable_count; facts = c.args.model.now.atoms })
    c.requires.no_answer
    (record {
      question = FindingGaps c.in_ok-asked-in-Err-ShapeLimit.asked;
      formula = c.in-Err-ShapeLimit.kept;
      shapes = c.in-Err-ShapeLimit.shapes;
    })
    (ap FindingGaps c.in_ok-asked-in-Err-ShapeLimit.ensures) (rw c.in-Err-ShapeLimit.field-0-is at c.in-Err-ShapeLimit.ensures.limited)

-- the test of an empty list, by its length
no_items : (b : Bool) (count : ℕ) (l : List Atom) → b ≡ (count == 0) → b ≡ true → count ≡ length l → length l ≡ 0
no_items b count l is yes' long = sym long ∙ eqb-true count 0 (sym is ∙ yes')

some_items : (b : Bool) (count : ℕ) (l : List Atom) → b ≡ (count == 0) → b ≡ false → count ≡ length l → ¬ (l ≡ [])
some_items b count l is no' long empty = both_answers b no' (is ∙ ap (λ (n : ℕ). n == 0) (long ∙ ap length empty))

nothing : (l : List Atom) → length l ≡ 0 → l ≡ []
nothing [] e = refl
nothing (atom ∷ atoms) e = absurd (omega (arith, e))

pub returns-then-is_empty : goal.returns-then-is_empty
returns-then-is_empty c =
    known-closed c.args.problem.now (record { formula = c.args.formula.now; variable_count = c.args.variable_count; facts = c.args.model.now.atoms })
    c.requires.no_answer c.in-Ok.found.items c.in-Ok.ensures.exact c.in-Ok.ensures.unlimited c.in-Ok.ensures.below
    (nothing c.in-Ok.found.items (no_items c.is_empty.result _ c.in-Ok.found.items c.is_empty.ensures c.if-is_empty.true
    (omega (arith, c.in-Ok.found.ok.0))))

pub returns-else-is_empty : goal.returns-else-is_empty
returns-else-is_empty c =
    let needed : Obligation = record { formula = c.args.formula.now; variable_count = c.args.variable_count; facts = c.args.model.now.atoms } in
    subst (IsOpenWith c.args.problem.now (needed ∷ [])) (sym c.from_vec.ensures)
    (known-open c.args.problem.now needed c.requires.no_answer c.in-Ok.found.items c.in-Ok.ensures.exact c.in-Ok.ensures.unlimited
    c.in-Ok.ensures.below (some_items c.is_empty.result _ c.in-Ok.found.items c.is_empty.ensures c.if-is_empty.false
    (omega (arith, c.in-Ok.found.ok.0))) c.in-Ok.ensures.order)
