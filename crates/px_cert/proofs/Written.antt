-- A table that may be certified has a certificate: its lines follow each other.
use Rattle.std.proofs.Common.{◌≡◌, ◌<◌, ◌+◌, ℕ, List, [], ◌∷◌, ◌++◌, length, map, refl, sym, ap, subst, append_assoc}
use Rattle.std.specs.List.{flat_map, AllByRecursion}
use Rattle.std.proofs.lemmas.List.{append-nil, length_push}
use Rattle.px_terms.specs.declared.clause.Clause.{Clause}
use Rattle.px_terms.specs.declared.instance.OpInst.{OpInst}
use Rattle.px_terms.specs.declared.problem.Problem.{Problem}
use Rattle.px_terms.specs.declared.problem.Schema.{Schema}
use Rattle.px_terms.specs.Limits.{most_parameters}
use Rattle.px_terms.specs.Operators.{no_schema}
use Rattle.px_terms.specs.Validity.{IsAtomOf, IsPatternOf}
use Rattle.px_proof.specs.declared.proof.Proof.{Proof}
use Rattle.px_proof.specs.Derivation.{Derivation, Derivations, fact, ancestor, step, gap, open_place, none, also}
use Rattle.px_cert.specs.declared.draft.Draft.{Draft}
use Rattle.px_cert.specs.declared.draft.Due.{Due}
use Rattle.px_cert.specs.declared.draft.Due.TheVariants as due
use Rattle.px_cert.specs.Certificates.{schema_lines}
use Rattle.px_cert.specs.ClaimRanges.{AreAtMost, AreProofsInRange, AreSorts, IsProofInRange, IsRowProof, IsTableStep}
use Rattle.px_cert.specs.Drafts.{Follow, IsDue, IsNext, after_line, axioms_then, language, more_of, operators_then, rows_of_due, rows_then, steps_then}
use Rattle.px_cert.specs.Limits.{most_atoms}
use Rattle.px_cert.specs.Lines.{Line, clause, operator, pre, delete, add, action, row}
use Rattle.px_cert.specs.Sound.{IsGoodClause}

-- ---- lines after lines

pub follow_append : (d : Draft) (xs ys : List Line) (mid last : Draft) → Follow d xs mid → Follow mid ys last → Follow d (xs ++ ys) last
follow_append d [] ys mid last first second = subst (λ (e : Draft). Follow e ys last) first second
follow_append d (x ∷ xs) ys mid last first second = (first.0, follow_append (after_line d x) xs ys mid last first.1 second)

-- the line is due by what the draft says
next_by : (d : Draft) (what : Due) (line : Line) → d.due ≡ what → IsDue d what line → IsNext d line
next_by d what line e is = subst (λ w. IsDue d w line) (sym e) is

-- ---- axioms

pub follow_axioms : (d : Draft) (cs : List Clause) → d.due ≡ axioms_then (length cs) → AllByRecursion (IsGoodClause d) cs
    → Follow d (map clause cs) (record d { due = due.Operators; axioms = d.axioms ++ cs })
follow_axioms d [] e good = λ i. record d { due = sym e i; axioms = append-nil d.axioms i }
follow_axioms d (c ∷ cs) e good = (
  next_by d (due.Axiom (length cs)) (clause c) e (c, refl, good.0),
  subst (λ (all : List Clause). Follow (after_line d (clause c)) (map clause cs) (record d { due = due.Operators; axioms = all }))
      (append_assoc d.axioms (c ∷ []) cs)
      (follow_axioms (after_line d (clause c)) cs (ap (λ (what : Due). axioms_then (more_of what)) e) good.1),
)

-- ---- operators

-- an operator of the language in range, at that place
pub record IsWritten (l : Problem) (place : ℕ) (s : Schema) : Type 0 where
  pub number : s.op ≡ place
  pub params : s.params ≡ length s.param_sorts
  pub sorts : AreSorts most_parameters s.param_sorts
  pub some : 0 < length s.param_sorts → 0 < l.objects
  pub pre_is : AreAtMost most_atoms (IsAtomOf l s.params) s.pre
  pub del_is : AreAtMost most_atoms (IsPatternOf l s.params) s.del
  pub add_is : AreAtMost most_atoms (IsAtomOf l s.params) s.add

-- operators in range, from that place on
abbrev pub AreWritten : Problem → ℕ → List Schema → Type 0
AreWritten l place [] = Unit {0}
AreWritten l place (s ∷ ss) = IsWritten l place s × AreWritten l (place + 1) ss

module _ (d : Draft) (more : ℕ) (e : d.due ≡ due.Operator more) (nothing : d.schema ≡ no_schema) (s : Schema)
    (is : IsWritten (language d) (length d.schemas) s) where
  abbrev begun : Draft
  begun = after_line d (operator s.param_sorts)

  abbrev with_pre : Draft
  with_pre = after_line begun (pre s.pre)

  abbrev with_del : Draft
  with_del = after_line with_pre (delete s.del)

  abbrev done : Draft
  done = after_line with_del (add s.add)

  more_is : more_of d.due ≡ more
  more_is = ap more_of e

  -- the operator that the lines make is this one
  closed : done.schemas ≡ d.schemas ++ s ∷ []
  closed = λ i. d.schemas ++ (record s { op = sym is.number i; params = sym is.params i }) ∷ []

  pub follow_operator : (lines : List Line) (last : Draft) → Follow (record d { due = operators_then more; schemas = d.schemas ++ s ∷ [] }) lines last
      → Follow d (schema_lines s ++ lines) last
  follow_operator lines last rest =
      let first = next_by d (due.Operator more) (operator s.param_sorts) e (s.param_sorts, refl, (is.sorts, is.some)) in
      let second = next_by begun (due.Pre (more_of d.due)) (pre s.pre) refl
      (s.pre, refl, subst (λ (n : ℕ). AreAtMost most_atoms (IsAtomOf (language d) n) s.pre) is.params is.pre_is) in
      let third = next_by with_pre (due.Delete (more_of d.due)) (delete s.del) refl
      (s.del, refl, subst (λ (n : ℕ). AreAtMost most_atoms (IsPatternOf (language d) n) s.del) is.params is.del_is) in
      let fourth = next_by with_del (due.Add (more_of d.due)) (add s.add) refl
      (s.add, refl, subst (λ (n : ℕ). AreAtMost most_atoms (IsAtomOf (language d) n) s.add) is.params is.add_is) in
      let last_is = subst (λ (e : Draft). Follow e lines last)
      (λ i. record d { due = operators_then (sym more_is i); schemas = sym closed i; schema = nothing i }) rest in
      (first, (second, (third, (fourth, last_is))))

pub follow_operators : (d : Draft) (ss : List Schema) → d.due ≡ operators_then (length ss) → d.schema ≡ no_schema
    → AreWritten (language d) (length d.schemas) ss
    → Follow d (flat_map schema_lines ss) (record d { due = due.Table; schemas = d.schemas ++ ss })
follow_operators d [] e nothing good = λ i. record d { due = sym e i; schemas = append-nil d.schemas i }
follow_operators d (s ∷ ss) e nothing good =
    let next : Draft = record d { due = operators_then (length ss); schemas = d.schemas ++ s ∷ [] } in
    let place : length d.schemas + 1 ≡ length (d.schemas ++ s ∷ []) = sym (length_push d.schemas s) in
    follow_operator d (length ss) e nothing s good.0 (flat_map schema_lines ss) (record d { due = due.Table; schemas = d.schemas ++ s ∷ ss })
    (subst (λ (all : List Schema). Follow next (flat_map schema_lines ss) (record d { due = due.Table; schemas = all }))
    (append_assoc d.schemas (s ∷ []) ss)
    (follow_operators next ss refl nothing (subst (λ (k : ℕ). AreWritten (language d) k ss) place good.1)))

-- ---- steps and rows

pub follow_steps : (d : Draft) (ts : List OpInst) (rows : ℕ) → d.due ≡ steps_then (length ts) rows → AllByRecursion (IsTableStep (language d) d.schemas) ts
    → Follow d (map action ts) (record d { due = rows_then rows; steps = d.steps ++ ts })
follow_steps d [] rows e good = λ i. record d { due = sym e i; steps = append-nil d.steps i }
follow_steps d (t ∷ ts) rows e good = (
  next_by d (due.Step (length ts) rows) (action t) e (t, refl, good.0),
  subst (λ (all : List OpInst). Follow (after_line d (action t)) (map action ts) (record d { due = rows_then rows; steps = all }))
      (append_assoc d.steps (t ∷ []) ts)
      (follow_steps (after_line d (action t)) ts rows (ap (λ (what : Due). steps_then (more_of what) (rows_of_due what)) e) good.1),
)

pub follow_rows : (d : Draft) (rs : List (List Proof)) → d.due ≡ rows_then (length rs)
    → AllByRecursion (AreAtMost most_atoms (IsRowProof (language d) d.axioms)) rs
    → Follow d (map row rs) (record d { due = due.Nothing; rows = d.rows ++ rs })
follow_rows d [] e good = λ i. record d { due = sym e i; rows = append-nil d.rows i }
follow_rows d (r ∷ rs) e good = (
  next_by d (due.Row (length rs)) (row r) e (r, refl, good.0),
  subst (λ (all : List (List Proof)). Follow (after_line d (row r)) (map row rs) (record d { due = due.Nothing; rows = all }))
      (append_assoc d.rows (r ∷ []) rs)
      (follow_rows (after_line d (row r)) rs (ap (λ (what : Due). rows_then (more_of what)) e) good.1),
)
