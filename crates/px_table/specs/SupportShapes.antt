-- The shape of a support: what is left of its steps, goal and proofs where the objects are dropped.
use Rattle.std.specs.Prelude.{ℕ, List, map}
use Rattle.px_terms.specs.declared.atom.Atom.{Atom}
use Rattle.px_terms.specs.declared.instance.OpInst.{OpInst}
use Rattle.px_terms.specs.declared.term.Term.{Term}
use Rattle.px_terms.specs.declared.term.Term.TheVariants.{Obj, Var, Any}
use Rattle.px_proof.specs.Derivation.{Derivation, skeleton}

-- each object becomes object 0; variables stay, and so does the wild card
abbrev pub without_object : Term → Term
without_object (Obj n) = Obj 0
without_object (Var v) = Var v
without_object Any = Any

-- the operator of each step, the goal without its objects, and each proof without its terms: its forms, ancestor numbers,
-- axioms and places, and the columns and indices of its leaves
pub record SupportShape : Type 0 where
  pub operators : List ℕ
  pub goal : List Atom
  pub rows : List (List Derivation)

abbrev pub shape_of_support : List OpInst → List Atom → List (List Derivation) → SupportShape
shape_of_support steps goal rows = record {
  operators = map (λ (inst : OpInst). inst.op) steps;
  goal = map (λ (atom : Atom). record { pred = atom.pred; args = map without_object atom.args }) goal;
  rows = map (map skeleton) rows;
}
