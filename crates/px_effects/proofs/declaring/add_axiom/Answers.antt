use Rattle.px_effects.proofs.Common.{◌≡◌, ℕ, List, [], ◌∷◌, ◌++◌, map, length, sym, ap, ◌∙◌, subst, arith, common_steps, ArePlainBelow, literal_of, clause_of, variable_names_of, declared_of, signed_view, text_of}
use Rattle.px_terms.specs.declared.clause.Clause.{Clause}
use Rattle.std.specs.Prelude.{Err}
use Rattle.px_terms.specs.Clauses.{HasClauseLength}
use Rattle.px_effects.proofs.Facts.{map_map}
use Rattle.px_effects.proofs.declaring.add_axiom.Goals as goal

pub push-requires : goal.push-requires
push-requires c =
    let d = declared_of c.args.so_far.now in
    let xs = map signed_view c.args.literals.now in
    let count : c.len.result ≡ length (variable_names_of xs)
    = (let items : c.len.result ≡ length c.in_ok-variables.variables.items = grind (arith, common_steps) in items
    ∙ c.in_ok-variables.ensures.count) in
    let lits : c.deref-2.result.now ≡ map (literal_of d (variable_names_of xs)) xs =
    c.deref-2.ensures.value ∙ c.in_ok-literals.ensures
    ∙ ap (λ vs. map (λ x. literal_of d vs (signed_view x)) c.args.literals.now)
    (ap (map text_of) c.deref.ensures.value ∙ c.in_ok-variables.ensures.names)
    ∙ sym (map_map (literal_of d (variable_names_of xs)) signed_view c.args.literals.now) in
    subst (λ (n : ℕ). ArePlainBelow n c.deref-2.result.now) (sym count)
    (subst (ArePlainBelow (length (variable_names_of xs))) (sym lits) c.requires.clause.plain)

pub unreachable-requires : goal.unreachable-requires
unreachable-requires c =
    let d = declared_of c.args.so_far.now in
    let xs = map signed_view c.args.literals.now in
    let lits : c.deref-2.result.now ≡ map (literal_of d (variable_names_of xs)) xs =
    c.deref-2.ensures.value ∙ c.in_ok-literals.ensures
    ∙ ap (λ vs. map (λ x. literal_of d vs (signed_view x)) c.args.literals.now)
    (ap (map text_of) c.deref.ensures.value ∙ c.in_ok-variables.ensures.names)
    ∙ sym (map_map (literal_of d (variable_names_of xs)) signed_view c.args.literals.now) in
    c.push.ensures.length.0 (c.in-Err-BadLength.is ∙ ap Err c.in-Err-BadLength.field-0-is)
    (subst HasClauseLength (sym lits) c.requires.clause.size)

pub unreachable-requires-in-Err-Full : goal.unreachable-requires-in-Err-Full
unreachable-requires-in-Err-Full c =
    let full = c.push.ensures.full.0 (c.in-Err-Full.is ∙ ap Err c.in-Err-Full.field-0-is) in
    omega (arith, full.1, c.requires.room)

pub returns-in-Ok : goal.returns-in-Ok
returns-in-Ok c =
    let d = declared_of c.args.so_far.now in
    let xs = map signed_view c.args.literals.now in
    let count : c.len.result ≡ length (variable_names_of xs)
    = (let items : c.len.result ≡ length c.in_ok-variables.variables.items = grind (arith, common_steps) in items
    ∙ c.in_ok-variables.ensures.count) in
    let lits : c.deref-2.result.now ≡ map (literal_of d (variable_names_of xs)) xs =
    c.deref-2.ensures.value ∙ c.in_ok-literals.ensures
    ∙ ap (λ vs. map (λ x. literal_of d vs (signed_view x)) c.args.literals.now)
    (ap (map text_of) c.deref.ensures.value ∙ c.in_ok-variables.ensures.names)
    ∙ sym (map_map (literal_of d (variable_names_of xs)) signed_view c.args.literals.now) in
    let new : ◌≡◌ {A = Clause} (record { variable_count = c.len.result; lits = c.deref-2.result.now }) (clause_of d xs)
    = λ i. record { variable_count = count i; lits = lits i } in
    ap (λ (axioms : List Clause). record d { axioms = axioms })
    (c.in-Ok.ensures.added ∙ ap (λ (clause : Clause). d.axioms ++ clause ∷ []) new)
