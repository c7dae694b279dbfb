-- The atoms that a list of ticks closes by gaps, and the gap lists that a finished list gives.
use Rattle.std.specs.Prelude.{◌≡◌, ◌↔◌, ℕ, ◌+◌, ◌<◌, Bool, true, Option, Some, None, List, [], ◌∷◌, ◌++◌, map, take, length, All, Contains}
use Rattle.px_terms.specs.declared.atom.Atom.{Atom}
use Rattle.px_terms.specs.Substitution.{substitute_atom}
use Rattle.px_proof.specs.declared.shape.Tick.{Tick}
use Rattle.px_proof.specs.declared.shape.Tick.TheVariants.{Fact, Anc, Step, Gap, Open}
use Rattle.px_question.specs.Answers.{object_terms}
use Rattle.px_question.specs.Settings.{Setting}
use Rattle.px_proof_walk.specs.Pending.{Goal, Closing, Pending, Solves, closing_at, fresh_of, goals_of, open_after}
use Rattle.px_proof_walk.specs.Possible.{IsPossible, IsFinished}

-- the atom of the goal, where the tick closes it by a gap
abbrev pub gap_at : Goal → Tick → List Atom
gap_at goal Gap = goal.lit.atom ∷ []
gap_at goal (Fact i) = []
gap_at goal (Anc i) = []
gap_at goal (Step number place) = []
gap_at goal Open = []

-- what comes after the closing, of its parts
abbrev pub after_closing : Option Closing → (List Goal → List Atom) → List Atom
after_closing None later = []
after_closing (Some closing) later = later closing.parts

-- the atoms that the ticks close by gaps, over variables
abbrev pub gap_atoms : Bool → Setting → ℕ → List Goal → List Tick → List Atom
gap_atoms loose s variables goals [] = []
gap_atoms loose s variables [] (tick ∷ ticks) = []
gap_atoms loose s variables (goal ∷ goals) (tick ∷ ticks) =
    gap_at goal tick ++ after_closing (closing_at loose s variables goal tick)
    (λ parts. gap_atoms loose s (variables + fresh_of s tick) (parts ++ goals) ticks)

abbrev pub variables_in : Option Pending → ℕ
variables_in None = 0
variables_in (Some p) = p.variables

-- with these values for its variables, the finished list of ticks gives the gap list of these objects and atoms
pub record GivesUnder (s : Setting) (formula : List Atom) (variable_count : ℕ) (ticks : List Tick) (objects : List ℕ) (gaps : List Atom)
    (values : List ℕ) : Type 0 where
  pub count : length values ≡ variables_in (open_after true s variable_count (goals_of s formula) ticks)
  pub below : All (λ n. n < s.objects) values
  pub solves : Solves true s (object_terms values) variable_count (goals_of s formula) ticks
  pub chosen : objects ≡ take variable_count values
  pub same : (atom : Atom) → Contains gaps atom ↔ Contains (map (substitute_atom (object_terms values))
      (gap_atoms true s variable_count (goals_of s formula) ticks)) atom

-- the list of ticks is a finished one of loose gap proofs, and gives this gap list under some values
abbrev pub Gives : Setting → List Atom → ℕ → List Tick → List ℕ → List Atom → Type 0
Gives s formula variable_count ticks objects gaps =
    IsPossible true s formula variable_count ticks × IsFinished true s formula variable_count ticks
    × ((values : List ℕ) × GivesUnder s formula variable_count ticks objects gaps values)
