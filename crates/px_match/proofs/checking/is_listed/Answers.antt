use Rattle.std.specs.Prelude.{◌≡◌, Contains}
use Rattle.std.proofs.Common.{sym, ap, ◌∙◌, subst}
use Rattle.px_ops.specs.ModelValue.{ModelValue}
use Rattle.px_table.specs.Kernels.{atom_under}
use Rattle.px_match.proofs.Plain.{first_covered, has_some}
use Rattle.px_match.proofs.Renewed.{covers-under, from_list, list_matches, listed}
use Rattle.px_match.proofs.checking.is_listed.Goals as goal

pub returns-then-is_ground : goal.returns-then-is_ground
returns-then-is_ground c =
    let question = c.args.question.now in
    let mark = c.args.mark.now in
    let is = c.requires.mark in
    let found_is = c.atoms.ensures.value ∙ ap (λ (list : ModelValue). list.atoms) (sym c.index-question-number.is) in (
      λ some.
          first_covered mark.atom question.model.now.atoms c.atoms.result.now (atom_under c.args.work.now mark.atom) c.is_empty.result
          (c.is_ground.ensures.0 c.if-is_ground.true) (covers-under c.args.work.now mark.atom)
          (list_matches question.table.now.marks question.model.now.atoms question.lists.now c.args.number mark
          c.index-question-number.result c.atoms.result.now c.requires.asked.lists is.listed (sym is.is) c.index-question-number.is found_is)
          c.is_empty.ensures some,
      λ has.
          has_some c.atoms.result.now (atom_under c.args.work.now mark.atom) c.is_empty.result
          (listed question.table.now.marks question.model.now.atoms question.lists.now c.args.number mark c.index-question-number.result
          c.atoms.result.now c.args.work.now c.requires.asked.lists is.listed (sym is.is) c.index-question-number.is found_is has)
          c.is_empty.ensures,
    )

pub returns : goal.returns
returns c =
    let question = c.args.question.now in
    let mark = c.args.mark.now in
    let is = c.requires.mark in
    let list = c.index-question-number.result in (
      λ yes.
          subst (Contains question.model.now.atoms) c.atom_with.ensures
          (from_list question.table.now.marks question.model.now.atoms question.lists.now c.args.number mark list c.atom_with.result
          c.requires.asked.lists is.listed c.index-question-number.is
          (subst (λ (l : ModelValue). Contains l.atoms c.atom_with.result) (sym c.index-question-number.is) (c.holds.ensures.0 yes))),
      λ has.
          c.holds.ensures.1 (subst (λ (l : ModelValue). Contains l.atoms c.atom_with.result) c.index-question-number.is
          (subst (Contains list.atoms) (sym c.atom_with.ensures)
          (listed question.table.now.marks question.model.now.atoms question.lists.now c.args.number mark list list.atoms
          c.args.work.now c.requires.asked.lists is.listed (sym is.is) c.index-question-number.is (λ _. list.atoms) has))),
    )
