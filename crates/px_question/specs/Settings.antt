-- What the prover reads of a problem and a model, and by which rules it proves.
use Rattle.std.specs.Prelude.{ℕ, List, map, flat_map, Contains}
use Rattle.px_terms.specs.declared.atom.Atom.{Atom}
use Rattle.px_terms.specs.declared.clause.Clause.{Clause}
use Rattle.px_terms.specs.declared.problem.Problem.{Problem}
use Rattle.px_terms.specs.declared.problem.Schema.{Schema}
use Rattle.px_terms.specs.Language.{IsObjectBelow}
use Rattle.px_proof.specs.Proves.{Rules, from_places, with_gaps}

-- the objects, the axioms, the facts in their order, the predicates that some operator adds, the greatest height of a
-- proof, and how many shapes of unfinished proofs are too many
pub record Setting : Type 0 where
  pub objects : ℕ
  pub axioms : List Clause
  pub facts : List Atom
  pub added : List ℕ
  pub height : ℕ
  pub limit : ℕ

-- the predicates of the add list of an operator
abbrev pub added_by : Schema → List ℕ
added_by schema = map (λ (atom : Atom). atom.pred) schema.add

-- what is read of the problem, and of a model with these atoms
abbrev pub setting_of : Problem → List Atom → Setting
setting_of problem atoms = record {
  objects = problem.objects;
  axioms = problem.axioms;
  facts = atoms;
  added = flat_map added_by problem.schemas;
  height = problem.height;
  limit = problem.shapes;
}

-- finished proofs, whose steps choose objects of the problem, and whose leaves name the places of facts
abbrev pub proofs_in : Setting → Rules
proofs_in s = from_places (IsObjectBelow s.objects) s.facts

-- some operator adds the predicate of the atom
abbrev pub IsAddableIn : Setting → Atom → Type 0
IsAddableIn s atom = Contains s.added atom.pred

-- loose gap proofs: an atom whose predicate some operator adds may be closed by a gap, provable or not
abbrev pub loose_gaps_in : Setting → Rules
loose_gaps_in s = with_gaps (IsAddableIn s) (proofs_in s)
