-- Commands that have a goal.
use Rattle.px_effects.proofs.Common.{◌≡◌, ℕ, List, ap, ◌∙◌, Atom, Declared, with_command}
use Rattle.px_script.specs.declared.command.Command.{Command}
use Rattle.std.specs.Prelude.{OnOk, Result}
use Rattle.std.proofs.lemmas.Result.{on_ok_weaker}

-- the command with the number of its name and its goal
pub commanded : {A E : Type 0} (make : ℕ → List Atom → ℕ → Command) (result : Result A E) (named whole after : Declared) (number name : ℕ)
    (atoms goal : List Atom) (variable_count few : ℕ) → OnOk result (after ≡ with_command (make number atoms variable_count) named) → named ≡ whole
    → number ≡ name → atoms ≡ goal → variable_count ≡ few → OnOk result (after ≡ with_command (make name goal few) whole)
commanded make result named whole after number name atoms goal variable_count few added is n a v = on_ok_weaker result (λ last.
    last ∙ ap (with_command (make number atoms variable_count)) is
    ∙ ap (λ (command : Command). with_command command whole) (λ i. make (n i) (a i) (v i))) added
