use Rattle.std.proofs.Common.{◌∷◌, [], List, refl, sym, subst}
use Rattle.px_table.specs.declared.entry.Entry.{Entry}
use Rattle.px_diff.specs.Outcomes.{AtStop}
use Rattle.px_diff.specs.declared.move_err.MoveErr.{MoveErr}
use Rattle.px_gaps.specs.declared.known.Known.TheVariants.{Open}
use Rattle.px_support.specs.Asking.{task_for}
use Rattle.px_search.specs.Going.{AreFirstSuccessors}
use Rattle.px_search.specs.Cache.{HaveGrown}
use Rattle.px_search.specs.declared.cache.Cache.{Cache}
use Rattle.px_search.proofs.FromLaws.{alone-top, first-top}
use Rattle.px_search.proofs.CacheLaws.{any_answer, grown-both, grown-numbers, part-grows, right-grows}
use Rattle.px_search.proofs.CurrentLaws.{here-grows}
use Rattle.px_search.proofs.cache.Cache.pushes_over.Goals as goal

pub pushes_offered-requires-clause-cache : goal.pushes_offered-requires-clause-cache
pushes_offered-requires-clause-cache c =
    right-grows (task_for c.args.asked.now) c.args.self.now c.pushed.new.self c.pushed.ensures.keeps c.requires.cache

pub pushes_offered-requires-clause-part : goal.pushes_offered-requires-clause-part
pushes_offered-requires-clause-part c =
    let current = c.args.here.now.current.now in
    part-grows (task_for c.args.asked.now) c.args.self.now.numbers c.pushed.new.self c.pushed.ensures.keeps current.part current.model.atoms
    c.requires.here.part

pub pushes_offered-requires-clause-stack : goal.pushes_offered-requires-clause-stack
pushes_offered-requires-clause-stack c =
    let t = c.requires.here.top in
    (t.entry ∷ [], c.in_ok-alone.ensures.stack t.entry [] t.entry_at refl)

pub kept_over-requires-clause-here : goal.kept_over-requires-clause-here
kept_over-requires-clause-here c =
    let task = task_for c.args.asked.now in
    let old = c.args.self.now in
    let mid : Cache = record old { numbers = c.pushed.new.self } in
    let new = c.pushes_offered.new.self in
    let grown : HaveGrown task old new =
    grown-both task old mid new (grown-numbers task old c.pushed.new.self c.pushed.ensures.keeps c.requires.cache) c.in-Ok.ensures.cache
    in
    here-grows task old.numbers new.numbers c.args.here.now grown.keeps c.requires.here

pub kept_over-requires-clause-alone : goal.kept_over-requires-clause-alone
kept_over-requires-clause-alone c =
    let task = task_for c.args.asked.now in
    let here = c.args.here.now in
    let t = c.requires.here.top in
    let model = here.current.now.model.atoms in
    let old = c.args.self.now.numbers in
    let new = c.pushes_offered.new.self.numbers in
    let successors = c.in-Ok.successors in
    subst (λ (s : List Entry). AreFirstSuccessors task new (record { model = model; stack = s }) successors.steps.items successors.is_all)
    (sym (first-top task t))
    (c.in-Ok.ensures.successors (t.entry ∷ []) (c.in_ok-alone.ensures.stack t.entry [] t.entry_at refl)
    (alone-top task t (Open c.args.gaps.now) c.requires.gaps))

pub returns-in-Ok-clause-cache : goal.returns-in-Ok-clause-cache
returns-in-Ok-clause-cache c =
    let task = task_for c.args.asked.now in
    let old = c.args.self.now in
    let mid : Cache = record old { numbers = c.pushed.new.self } in
    let new = c.pushes_offered.new.self in
    let grown : HaveGrown task old new =
    grown-both task old mid new (grown-numbers task old c.pushed.new.self c.pushed.ensures.keeps c.requires.cache) c.in-Ok.ensures.cache
    in
    grown-both task old new c.kept_over.new.self grown c.in_ok-over-in-Ok.ensures.cache

pub returns-in-Err-ShapeLimit-clause-cache : goal.returns-in-Err-ShapeLimit-clause-cache
returns-in-Err-ShapeLimit-clause-cache c =
    let task = task_for c.args.asked.now in
    let old = c.args.self.now in
    let mid : Cache = record old { numbers = c.pushed.new.self } in
    let new = c.pushes_offered.new.self in
    let kept = c.all_pushes.new.numbers in
    let after : HaveGrown task mid new =
    subst (λ (e : MoveErr). AtStop e (λ limit. HaveGrown task mid new)) c.in-Err-ShapeLimit.field-0-is
    c.in-Err-ShapeLimit.ensures.cache in
    let grown : HaveGrown task old new =
    grown-both task old mid new (grown-numbers task old c.pushed.new.self c.pushed.ensures.keeps c.requires.cache) after in
    any_answer c.all_pushes.result (grown-both task old new (record new { numbers = kept }) grown
    (grown-numbers task new kept c.all_pushes.ensures.keeps grown.right))
