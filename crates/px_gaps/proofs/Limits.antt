-- What is kept where a limit is met.
use Rattle.std.specs.Prelude.{List, Result, Ok, Err}
use Rattle.px_terms.specs.declared.atom.Atom.{Atom}
use Rattle.px_proof.specs.declared.shape.Tick.{Tick}
use Rattle.px_gaps.specs.declared.ask_err.AskErr.{AskErr}
use Rattle.px_gaps.specs.declared.ask_err.AskErr.TheVariants.{ShapeLimit, NoMemory}
use Rattle.px_gaps.specs.Outcomes.{AtLimit, IfLimit}

pub limit_weaker : (P Q : List Atom → List (List Tick) → Type 0) (error : AskErr)
    → ((formula : List Atom) (shapes : List (List Tick)) → P formula shapes → Q formula shapes) → AtLimit error P → AtLimit error Q
limit_weaker P Q (ShapeLimit formula shapes) f h = f formula shapes h
limit_weaker P Q NoMemory f h = tt

pub limit_among : {A : Type 0} (P Q : List Atom → List (List Tick) → Type 0) (result : Result A AskErr)
    → ((formula : List Atom) (shapes : List (List Tick)) → P formula shapes → Q formula shapes) → IfLimit result P → IfLimit result Q
limit_among P Q (Ok answer) f h = tt
limit_among P Q (Err error) f h = limit_weaker P Q error f h
