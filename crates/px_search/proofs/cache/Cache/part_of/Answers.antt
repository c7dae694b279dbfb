use Rattle.std.proofs.Common.{refl, inl, inr}
use Rattle.px_support.specs.Asking.{task_for}
use Rattle.px_search.proofs.CacheLaws.{grown-numbers}
use Rattle.px_search.proofs.cache.Cache.part_of.Goals as goal

pub returns-then-not-self-clause-part : goal.returns-then-not-self-clause-part
returns-then-not-self-clause-part c =
    record { is_set = c.requires.model; part = c.args.model.now.atoms; part_at = c.requires.number; alike = inl refl }

pub returns-clause-cache : goal.returns-clause-cache
returns-clause-cache c =
    grown-numbers (task_for c.args.asked.now) c.args.self.now c.model_number.new.self c.in_ok-part.ensures.keeps c.requires.cache

pub returns-clause-part : goal.returns-clause-part
returns-clause-part c = record {
  is_set = c.requires.model;
  part = c.in_ok-deciding.deciding.atoms;
  part_at = c.in_ok-part.ensures.model;
  alike = inr (c.requires.cache.never_limited c.if-not-self.false, c.in_ok-deciding.ensures);
}
