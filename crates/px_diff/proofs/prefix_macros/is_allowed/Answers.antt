use Rattle.std.proofs.Common.{◌≡◌, ◌∙◌, ◌<◌, Some, length, get_or, ap, inl, inr, arith}
use Rattle.px_proof.specs.PlaceLaws.{slice_get-read}
use Rattle.px_terms.specs.declared.term.Term.{Term}
use Rattle.px_terms.specs.declared.term.Term.TheVariants.{Obj}
use Rattle.px_entries.specs.Parameters.{IsFirstTerm}
use Rattle.px_diff.proofs.PrefixMacros.{object-allowed, variable-allowed, wild-never}
use Rattle.px_diff.proofs.prefix_macros.is_allowed.Goals as goal

pub returns-in-Obj : goal.returns-in-Obj
returns-in-Obj c =
    let prefix = c.args.prefix.now in
    let within : c.args.parameter < length prefix.start.now = omega (arith, c.requires.parameter, c.requires.prefix.first.count) in
    let exact =
    object-allowed prefix.request.problem.now prefix.table.now prefix.count c.args.parameter c.args.number c.in-Obj.object
    (c.requires.prefix.first.each c.args.parameter (Obj c.in-Obj.object)
    (slice_get-read prefix.start.now c.args.parameter (Obj 0) within ∙ ap (λ (t : Term). Some t) c.in-Obj.is)) in
    (λ yes. exact.0 (grind (arith, yes)), λ allowed. let e = exact.1 allowed in grind (arith, e))

pub returns-in-Var : goal.returns-in-Var
returns-in-Var c =
    let prefix = c.args.prefix.now in
    let within : c.args.parameter < length prefix.start.now = omega (arith, c.requires.parameter, c.requires.prefix.first.count) in
    let first : (t : Term) → get_or prefix.start.now c.args.parameter (Obj 0) ≡ t
    → IsFirstTerm prefix.table.now prefix.count c.args.parameter t =
    λ t is. c.requires.prefix.first.each c.args.parameter t
    (slice_get-read prefix.start.now c.args.parameter (Obj 0) within ∙ ap (λ (u : Term). Some u) is) in
    elim c.in-Var.is [
      | inl variable ↦
          let exact =
          variable-allowed prefix.request.problem.now prefix.table.now prefix.count c.args.parameter c.args.number variable.0
          (first _ variable.1) in
          (λ yes. exact.0 (grind (arith, yes)), λ allowed. let less = exact.1 allowed in grind (arith, less))
      | inr wild ↦ absurd (wild-never prefix.request.problem.now prefix.table.now prefix.count c.args.parameter c.args.number (first _ wild))
    ]
