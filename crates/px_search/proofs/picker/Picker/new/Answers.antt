use Rattle.px_search.proofs.picker.Picker.new.Goals as goal

pub returns : goal.returns
returns c = λ task weight_is. c.new.ensures task
