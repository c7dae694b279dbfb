use Rattle.std.proofs.Common.{◌⊎◌, ℕ, List, [], ◌∷◌, sym, subst}
use Rattle.std.specs.Prelude.{◌↔◌, All, Contains, MatchBool}
use Rattle.px_prover.specs.PatternLists.{lists_of}
use Rattle.px_prover.specs.declared.pattern.GapPattern.{GapPattern}
use Rattle.px_question.specs.Settings.{setting_of}
use Rattle.px_terms.specs.Validity.{IsAtomOf}
use Rattle.std.proofs.lemmas.List.Elements.{All-cons, All-nil}
use Rattle.px_gaps.specs.Closings.{IsChosenIn, IsMissingIn}
use Rattle.px_gaps.specs.Described.{IsPlainPattern}
use Rattle.px_gaps.proofs.Apartness.{asked-gap, asked-open, asked-unlimited, match-same}
use Rattle.px_gaps.proofs.Describing.{closings-ground, closings-plain, then-same}
use Rattle.px_gaps.proofs.by_atoms.insert_gaps.Goals as goal

pub insert_missing_by-requires-clause-patterns : goal.insert_missing_by-requires-clause-patterns
insert_missing_by-requires-clause-patterns c =
    let problem = c.args.problem.now in
    let q = c.args.atom.now in
    let of : All (IsAtomOf problem 0) (q ∷ []) =
    All-cons (IsAtomOf problem 0) q [] c.requires.atom (All-nil (IsAtomOf problem 0)) in
    subst (All (IsPlainPattern problem.objects)) (sym c.deref.ensures.value)
    (closings-plain problem c.requires.problem c.args.model.now.atoms (q ∷ []) 0 of c.in_ok-answer.answer.patterns.items
    c.in_ok-answer.ensures.answer.all)

pub insert_missing_by-requires-clause-provable : goal.insert_missing_by-requires-clause-provable
insert_missing_by-requires-clause-provable c =
    let problem = c.args.problem.now in
    let q = c.args.atom.now in
    let of : All (IsAtomOf problem 0) (q ∷ []) =
    All-cons (IsAtomOf problem 0) q [] c.requires.atom (All-nil (IsAtomOf problem 0)) in
    closings-ground problem c.requires.problem c.args.model.now.atoms (q ∷ []) 0 of c.in_ok-answer.answer.patterns.items
    c.in_ok-answer.ensures.answer.all c.in_ok-answer.answer.provable.atoms c.in_ok-answer.ensures.answer

pub is_one_open-requires-clause-patterns : goal.is_one_open-requires-clause-patterns
is_one_open-requires-clause-patterns c =
    let problem = c.args.problem.now in
    let q = c.args.atom.now in
    let of : All (IsAtomOf problem 0) (q ∷ []) =
    All-cons (IsAtomOf problem 0) q [] c.requires.atom (All-nil (IsAtomOf problem 0)) in
    subst (All (IsPlainPattern problem.objects)) (sym c.deref-2.ensures.value)
    (closings-plain problem c.requires.problem c.args.model.now.atoms (q ∷ []) 0 of c.in_ok-answer.answer.patterns.items
    c.in_ok-answer.ensures.answer.all)

pub is_one_open-requires-clause-provable : goal.is_one_open-requires-clause-provable
is_one_open-requires-clause-provable c =
    let problem = c.args.problem.now in
    let q = c.args.atom.now in
    let of : All (IsAtomOf problem 0) (q ∷ []) =
    All-cons (IsAtomOf problem 0) q [] c.requires.atom (All-nil (IsAtomOf problem 0)) in
    closings-ground problem c.requires.problem c.args.model.now.atoms (q ∷ []) 0 of c.in_ok-answer.answer.patterns.items
    c.in_ok-answer.ensures.answer.all c.in_ok-answer.answer.provable.atoms c.in_ok-answer.ensures.answer

pub returns-clause-proved : goal.returns-clause-proved
returns-clause-proved c =
    let s = setting_of c.args.problem.now c.args.model.now.atoms in
    let patterns = c.in_ok-answer.answer.patterns.items in
    let provable = c.in_ok-answer.answer.provable.atoms in
    let told =
    subst (λ (ps : List GapPattern). MatchBool c.in_ok-has.has
    ((objects : List ℕ) × IsChosenIn (lists_of c.args.problem.now.objects ps) provable objects)
    (¬ ((objects : List ℕ) × IsChosenIn (lists_of c.args.problem.now.objects ps) provable objects))) c.deref-2.ensures.value c.in_ok-has.ensures in
    match-same c.in_ok-has.has (asked-open s c.args.atom.now patterns provable c.in_ok-answer.ensures.answer) told

pub returns-clause-found : goal.returns-clause-found
returns-clause-found c = λ gap.
    let s = setting_of c.args.problem.now c.args.model.now.atoms in
    let patterns = c.in_ok-answer.answer.patterns.items in
    let provable = c.in_ok-answer.answer.provable.atoms in
    let made =
    subst (λ (ps : List GapPattern). Contains c.insert_missing_by.new.found.atoms gap
    ↔ (Contains c.args.found.now.atoms gap ⊎ IsMissingIn (lists_of c.args.problem.now.objects ps) provable gap)) c.deref.ensures.value
    (c.in_ok-insert_missing_by.ensures gap) in
    then-same made (asked-gap s c.args.atom.now patterns provable c.in_ok-answer.ensures.answer gap)

pub returns-clause-unlimited : goal.returns-clause-unlimited
returns-clause-unlimited c =
    asked-unlimited (setting_of c.args.problem.now c.args.model.now.atoms) c.args.atom.now c.in_ok-answer.answer.patterns.items
    c.in_ok-answer.answer.provable.atoms c.in_ok-answer.ensures.answer
