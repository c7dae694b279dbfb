use Rattle.std.proofs.Common.{◌++◌, map, sym, subst}
use Rattle.std.specs.Prelude.{List}
use Rattle.px_terms.specs.declared.atom.Atom.{Atom}
use Rattle.px_terms.specs.Substitution.{substitute_atom}
use Rattle.px_proof.specs.ProofTerm.{derivation_of}
use Rattle.px_proof.specs.Proves.{IsObjectOrParameter}
use Rattle.px_table.specs.Conclusions.{IsConclusion, ProvesOver}
use Rattle.px_table.specs.Supports.{IsProofOf, ProvesEachOf, variables}
use Rattle.px_table.proofs.Choosing.{made_by_choices, choices_give}
use Rattle.px_table.proofs.Loops.{zip_each, zip_from_map, zip_partners, zip_to_map, zip_weaker}
use Rattle.px_table.proofs.goal_row.goal_is_proved.Goals as goal

pub returns-then-each_proves_some : goal.returns-then-each_proves_some
returns-then-each_proves_some c =
    let p = c.args.problem.now in
    let over = ProvesOver p.axioms p.objects c.args.params in
    let concluded = zip_weaker over (IsConclusion p.axioms) (λ atom proof h. (p.objects, c.args.params, h)) in
    let partners = zip_partners over c.args.row.now (c.each_proves_some.ensures.0 c.if-each_proves_some.true) in (
      λ yes.
          let made =
          made_by_choices p c.args.params c.args.goal_variable_count c.args.goal.now c.requires partners.0
          ((c.row_concludes.ensures partners.0 (concluded partners.0 c.args.row.now partners.1)).0 yes) in (
            made.0,
            made.1,
            subst (λ (atoms : List Atom). ProvesEachOf (IsObjectOrParameter p.objects c.args.params) p.axioms atoms
                (map derivation_of c.args.row.now))
                (sym made.2)
                (zip_to_map (IsProofOf (IsObjectOrParameter p.objects c.args.params) p.axioms) derivation_of partners.0 c.args.row.now
                partners.1),
          ),
      λ proved.
          let given = map (substitute_atom (variables c.args.params ++ proved.0)) c.args.goal.now in
          let each =
          zip_from_map (IsProofOf (IsObjectOrParameter p.objects c.args.params) p.axioms) derivation_of given c.args.row.now proved.2 in
          (c.row_concludes.ensures given (concluded given c.args.row.now each)).1
          (choices_give p c.args.params c.args.goal_variable_count c.args.goal.now c.requires proved.0),
    )

pub returns-else-each_proves_some : goal.returns-else-each_proves_some
returns-else-each_proves_some c =
    let p = c.args.problem.now in (
      λ yes. let no_proof = c.if-each_proves_some.false in cc,
      λ proved.
          let given = map (substitute_atom (variables c.args.params ++ proved.0)) c.args.goal.now in
          c.each_proves_some.ensures.1 (zip_each (ProvesOver p.axioms p.objects c.args.params) given c.args.row.now
          (zip_from_map (IsProofOf (IsObjectOrParameter p.objects c.args.params) p.axioms) derivation_of given c.args.row.now proved.2)),
    )
