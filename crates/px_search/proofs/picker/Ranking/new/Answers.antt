use Rattle.px_search.proofs.picker.Ranking.new.Goals as goal

pub returns : goal.returns
returns c = λ task.
    record { agenda = c.new-agenda.ensures; reckoned = c.new-reckoned.ensures.items; estimates = λ kept. c.new-estimates.ensures task kept }
