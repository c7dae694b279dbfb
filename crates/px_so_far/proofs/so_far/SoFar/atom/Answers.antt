use Rattle.px_so_far.proofs.Common.{◌≡◌, ◌≤◌, map, take, length, sym, ap, ◌∙◌, arith, take_all, map-map, Term, Atom, parameters_here, term_of, atom_of, declared_of, argument_view, signed_view}
use Rattle.px_so_far.specs.LineVariables.{variables_view}
use Rattle.px_lines.specs.declared.items.Argument.{Argument}
use Rattle.px_so_far.proofs.so_far.SoFar.atom.Goals as goal

pub returns : goal.returns
returns c =
    let d = declared_of c.args.self.now in
    let variables = variables_view c.args.variables.now in
    let arguments = c.args.atom.now.arguments.items in
    let f : Argument → Term = λ a. term_of (parameters_here d) variables d.names.objects (argument_view a) in
    let whole : length arguments ≤ c.loop-index.index
    = omega (arith, c.loop-index-test.false, ap length c.deref-argument-items.ensures.value) in
    let count : c.len.result ≡ c.loop-index.index
    = omega (arith, c.loop-index.auto.index-end, c.loop-index-test.false, c.deref-argument-items.ensures.len, c.len.ensures) in
    let args : take c.len.result c.loop-index.terms
    ≡ map (term_of (parameters_here d) variables d.names.objects) (map argument_view arguments) =
    ap (λ n. take n c.loop-index.terms) count ∙ c.loop-index.invariant.0 ∙ ap (map f) (take_all c.loop-index.index arguments whole)
    ∙ sym (map-map (term_of (parameters_here d) variables d.names.objects) argument_view arguments) in
    let value : c.unwrap.result ≡ record { pred = c.number-predicate.result; args = take c.len.result c.loop-index.terms }
    = rw c.unwrap.ensures at c.new.ensures.value in
    let same : ◌≡◌ {A = Atom} (record { pred = c.number-predicate.result; args = take c.len.result c.loop-index.terms })
    (atom_of d variables (signed_view c.args.atom.now)) = λ i. record { pred = c.number-predicate.ensures i; args = args i } in
    value ∙ same
