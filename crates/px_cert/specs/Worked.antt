-- Certificates worked out by hand: of the plan that makes G from nothing.
use Rattle.std.specs.Prelude.{◌≡◌, ◌++◌, ℕ, List, [], ◌∷◌, codes}
use Rattle.px_terms.specs.declared.atom.Atom.{Atom}
use Rattle.px_terms.specs.declared.problem.Problem.{Problem}
use Rattle.px_proof.specs.declared.proof.Proof.{Proof}
use Rattle.px_proof.specs.declared.proof.Proof.TheVariants.{Fact}
use Rattle.px_table.specs.declared.table.Table.{Table}
use Rattle.px_table.specs.Tables.{IsTable, table_of_rows}
use Rattle.px_cert.specs.Certificates.{IsCertificate, IsFirstBadLine, certificate_text, certified_claim}
use Rattle.px_cert.specs.ClaimRanges.{certified}

abbrev pub goal_atom : Atom
goal_atom = record { pred = 0; args = [] }

-- one predicate without arguments, and one operator that adds its atom
abbrev pub making_problem : Problem
making_problem = record {
  objects = 0;
  arities = 0 ∷ [];
  axioms = [];
  schemas = record { op = 0; params = 0; pre = []; del = []; add = goal_atom ∷ []; param_sorts = [] } ∷ [];
  height = 4;
  nodes = 10000;
  shapes = 10000;
  sorts = 0;
  object_sorts = [];
  weight = 0;
}

-- the goal's row rests on the first add of the step of that number
abbrev pub making_rows : ℕ → List (List Proof)
making_rows column = [] ∷ (Fact (record { column = column; index = 0; atom = goal_atom }) ∷ []) ∷ []

-- the operator's one step leads to its atom
abbrev pub making_table : ℕ → Table
making_table column = table_of_rows 0 [] (record { op = 0; args = [] } ∷ []) (goal_atom ∷ []) 0 (making_rows column)

-- all lines but the last
abbrev pub prefix_text : List ℕ
prefix_text =
    codes "planex certificate 1\nobjects 0\npredicates 1 0\naxioms 0\noperators 1\noperator 0\npre 0\ndelete 0\nadd 1 0\ntable 0\ngoal 0 1 0\nsteps 1\nstep 0\nrow 0\n"

-- The text of the plan's table, which is one for its problem. Where the last line names a second step, the text is a certificate, too, and
-- its table is none. Where that line is missing, it is the first bad one.
pub record WorkedCertificates : Type 0 where
  pub text : certificate_text making_problem (making_table 1) ≡ prefix_text ++ codes "row 1 f 1 0 0\n"
  pub is_certificate : IsCertificate (prefix_text ++ codes "row 1 f 1 0 0\n") (certified_claim making_problem (making_table 1))
  pub right : IsTable (certified making_problem) (making_table 1)
  pub is_other : IsCertificate (prefix_text ++ codes "row 1 f 2 0 0\n") (certified_claim making_problem (making_table 2))
  pub wrong : ¬ IsTable (certified making_problem) (making_table 2)
  pub cut : IsFirstBadLine prefix_text 15
