-- The domain of buildings as the lines of a script that would declare it.
use Rattle.std.specs.Prelude.{◌≡◌, ◌+◌, ℕ, Bool, true, false, List, [], ◌∷◌, ◌++◌, map, flat_map, slice_index_or, codes}
use Rattle.px_terms.specs.declared.atom.Atom.{Atom}
use Rattle.px_terms.specs.declared.clause.Clause.{Clause}
use Rattle.px_terms.specs.declared.clause.Lit.{Lit}
use Rattle.px_terms.specs.declared.term.Term.{Term}
use Rattle.px_terms.specs.declared.term.Term.TheVariants.{Obj, Var, Any}
use Rattle.px_rooms.specs.Domain.{RoomOperator, RoomPredicate, robot_name, room_axioms, room_operators, room_predicates}

-- a number below 10
abbrev pub digit_text : ℕ → List ℕ
digit_text n = (48 + n) ∷ []

-- the texts with a separator between two
abbrev pub joined : List ℕ → List (List ℕ) → List ℕ
joined separator [] = []
joined separator (text ∷ []) = text
joined separator (text ∷ next ∷ texts) = text ++ (separator ++ joined separator (next ∷ texts))

-- the only object that the domain names is object 0, the robot; any other has no text
abbrev pub domain_term_text : List (List ℕ) → Term → List ℕ
domain_term_text variables (Obj n) = slice_index_or (robot_name ∷ []) n []
domain_term_text variables (Var v) = slice_index_or variables v []
domain_term_text variables Any = codes "$"

abbrev pub domain_atom_text : List (List ℕ) → Atom → List ℕ
domain_atom_text variables atom =
    slice_index_or (map (λ (p : RoomPredicate). p.name) room_predicates) atom.pred [] ++
    (codes "(" ++ (joined (codes ",") (map (domain_term_text variables) atom.args) ++ codes ")"))

abbrev pub atoms_text : List (List ℕ) → List Atom → List ℕ
atoms_text variables atoms = joined (codes " ") (map (domain_atom_text variables) atoms)

abbrev pub sign_text : Bool → List ℕ
sign_text true = []
sign_text false = codes "~"

abbrev pub axiom_line : List (List ℕ) → Clause → List ℕ
axiom_line variables clause = codes "axiom " ++ joined (codes " ")
    (map (λ (lit : Lit). sign_text lit.positive ++ domain_atom_text variables lit.atom) clause.lits)

abbrev pub predicate_line : RoomPredicate → List ℕ
predicate_line p = codes "predicate " ++ (p.name ++ (codes " " ++ digit_text p.arity))

abbrev pub operator_lines : RoomOperator → List (List ℕ)
operator_lines one =
    (codes "operator " ++ (one.name ++ (codes "(" ++ (joined (codes ",") one.parameters ++ codes ")"))))
    ∷ (codes "pre " ++ atoms_text one.parameters one.pre)
    ∷ (codes "delete " ++ atoms_text one.parameters one.del)
    ∷ (codes "add " ++ atoms_text one.parameters one.add)
    ∷ codes "end"
    ∷ []

pub record DomainFacts : Type 0 where
  pub predicates : map predicate_line room_predicates ≡
      codes "predicate INROOM 2"
      ∷ codes "predicate NEXTTO 2"
      ∷ codes "predicate CONNECTS 3"
      ∷ codes "predicate OPENED 1"
      ∷ codes "predicate CLOSED 1"
      ∷ codes "predicate ROOM 1"
      ∷ codes "predicate DOOR 1"
      ∷ codes "predicate BOX 1"
      ∷ []
  pub axioms : map (axiom_line (codes "?d" ∷ codes "?x" ∷ codes "?y" ∷ [])) room_axioms ≡ codes
      "axiom ~CONNECTS(?d,?x,?y) CONNECTS(?d,?y,?x)" ∷ []
  pub operators : flat_map operator_lines room_operators ≡
      codes "operator GOTOB(b,r)"
      ∷ codes "pre BOX(b) INROOM(b,r) INROOM(ROBOT,r)"
      ∷ codes "delete NEXTTO(ROBOT,$)"
      ∷ codes "add NEXTTO(ROBOT,b)"
      ∷ codes "end"
      ∷ codes "operator GOTOD(d,r,s)"
      ∷ codes "pre INROOM(ROBOT,r) CONNECTS(d,r,s)"
      ∷ codes "delete NEXTTO(ROBOT,$)"
      ∷ codes "add NEXTTO(ROBOT,d)"
      ∷ codes "end"
      ∷ codes "operator OPEN(d)"
      ∷ codes "pre DOOR(d) NEXTTO(ROBOT,d) CLOSED(d)"
      ∷ codes "delete CLOSED(d)"
      ∷ codes "add OPENED(d)"
      ∷ codes "end"
      ∷ codes "operator CLOSE(d)"
      ∷ codes "pre DOOR(d) NEXTTO(ROBOT,d) OPENED(d)"
      ∷ codes "delete OPENED(d)"
      ∷ codes "add CLOSED(d)"
      ∷ codes "end"
      ∷ codes "operator GOTHRU(d,r,s)"
      ∷ codes "pre CONNECTS(d,r,s) INROOM(ROBOT,r) OPENED(d)"
      ∷ codes "delete INROOM(ROBOT,$) NEXTTO(ROBOT,$)"
      ∷ codes "add INROOM(ROBOT,s)"
      ∷ codes "end"
      ∷ codes "operator PUSHD(b,d,r,s)"
      ∷ codes "pre BOX(b) INROOM(b,r) INROOM(ROBOT,r) NEXTTO(ROBOT,b) CONNECTS(d,r,s)"
      ∷ codes "delete NEXTTO(ROBOT,$) NEXTTO(b,$)"
      ∷ codes "add NEXTTO(ROBOT,b) NEXTTO(b,d)"
      ∷ codes "end"
      ∷ codes "operator PUSHTHRU(b,d,r,s)"
      ∷ codes "pre BOX(b) INROOM(b,r) INROOM(ROBOT,r) CONNECTS(d,r,s) OPENED(d) NEXTTO(ROBOT,b) NEXTTO(b,d)"
      ∷ codes "delete INROOM(ROBOT,$) INROOM(b,$) NEXTTO(ROBOT,$) NEXTTO(b,$)"
      ∷ codes "add INROOM(ROBOT,s) INROOM(b,s) NEXTTO(ROBOT,b)"
      ∷ codes "end"
      ∷ []
