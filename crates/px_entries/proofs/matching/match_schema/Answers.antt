use Rattle.std.proofs.Common.{◌≡◌, ◌+◌, List, take, sym, ◌∙◌, subst, inl, inr, arith}
use Rattle.std.specs.Prelude.{Contains}
use Rattle.std.proofs.lemmas.List.{take_all}
use Rattle.px_terms.specs.declared.atom.Atom.{Atom}
use Rattle.px_terms.specs.declared.instance.OpInst.{OpInst}
use Rattle.px_terms.specs.Operators.{atoms_of}
use Rattle.px_terms.specs.Substitution.{substitute_atom}
use Rattle.px_proof.specs.PlaceLaws.{Contains-mapped}
use Rattle.px_gaps.specs.Closings.{OneOf}
use Rattle.px_entries.specs.Instances.{StandsFor}
use Rattle.px_entries.proofs.Covering.{covers_less, covers_part}
use Rattle.px_gaps.proofs.Grows.{one_next}
use Rattle.px_entries.proofs.PartialLemmas.{stands-op}
use Rattle.px_table.specs.KernelLaws.{Contains-from_map}
use Rattle.px_entries.proofs.matching.match_schema.Goals as goal

pub loop-pattern-preserved : goal.loop-pattern-preserved
loop-pattern-preserved c =
    let problem = c.args.problem.now in
    let wanted = c.args.wanted.now in
    let patterns = c.as_slice-patterns.result.now in
    let i = c.loop-pattern.pattern-index in
    let item = c.pattern-item.result in
    covers_part problem (λ (full : OpInst). (full.op ≡ c.args.schema.now.op)
    × OneOf (take i patterns) (λ pattern. substitute_atom full.args pattern ≡ wanted))
    (λ (full : OpInst). StandsFor problem c.unbound_instance-start.result full × (substitute_atom full.args item ≡ wanted))
    (λ (full : OpInst). (full.op ≡ c.args.schema.now.op)
    × OneOf (take (i + 1) patterns) (λ pattern. substitute_atom full.args pattern ≡ wanted))
    c.args.found.now.items c.loop-pattern.found.items c.match_pattern.new.found.items
    (λ full is w. elim ((one_next (λ (pattern : Atom). substitute_atom full.args pattern ≡ wanted) patterns i item c.loop-pattern-test.true
    c.pattern-item.is).0 w.1) [
      | inl before ↦ inl (w.0, before)
      | inr here ↦ inr (c.unbound_instance-start.ensures.all full is w.0, here)
    ])
    (λ full w. elim w [
      | inl before ↦ (
        before.0,
        (one_next (λ (pattern : Atom). substitute_atom full.args pattern ≡ wanted) patterns i item
            c.loop-pattern-test.true c.pattern-item.is).1 (inl before.1),
      )
      | inr here ↦ (
        stands-op problem c.unbound_instance-start.result full here.0 ∙ c.unbound_instance-start.ensures.op,
        (one_next (λ (pattern : Atom). substitute_atom full.args pattern ≡ wanted) patterns i item c.loop-pattern-test.true
            c.pattern-item.is).1 (inr here.1),
      )
    ])
    c.loop-pattern.invariant c.in_ok-match_pattern.ensures

pub returns : goal.returns
returns c =
    let problem = c.args.problem.now in
    let wanted = c.args.wanted.now in
    let patterns = c.as_slice-patterns.result.now in
    let i = c.loop-pattern.pattern-index in
    covers_less problem (λ (full : OpInst). (full.op ≡ c.args.schema.now.op)
    × OneOf (take i patterns) (λ pattern. substitute_atom full.args pattern ≡ wanted))
    (λ (full : OpInst). (full.op ≡ c.args.schema.now.op) × Contains (atoms_of c.args.schema.now.add full) wanted)
    c.args.found.now.items c.loop-pattern.found.items
    (λ full is w.
    let r = Contains-from_map (substitute_atom full.args) c.args.schema.now.add wanted w.1 in (
      w.0,
      (
        r.0,
        subst (λ (l : List Atom). Contains l r.0) (sym (take_all i patterns (omega arith) ∙ c.as_slice-patterns.ensures)) r.1,
        r.2,
      ),
    ))
    (λ full v.
    let added =
    Contains-mapped (substitute_atom full.args) c.args.schema.now.add v.1.0
    (subst (λ (l : List Atom). Contains l v.1.0) (take_all i patterns (omega arith) ∙ c.as_slice-patterns.ensures) v.1.1) in
    (v.0, subst (Contains (atoms_of c.args.schema.now.add full)) v.1.2 added))
    c.loop-pattern.invariant
