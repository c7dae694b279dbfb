use Rattle.px_script.specs.Faults.{has_sort}
use Rattle.px_causes.proofs.Common.{◌≡◌, ◌==◌, ℕ, Option, map, not, ap, sym, ◌∙◌, slice_index, number_in, bytes_eq, string_bytes, position-map, OpenOperator}
use Rattle.px_causes.proofs.duplicates.has_sort.Goals as goal
use Rattle.std.specs.Prelude.{unwrap_or}

pub returns : goal.returns
returns c =
    let o = c.in-Some.operator.now in
    let number : c.unwrap_or-place.result ≡ number_in c.args.name.now (map string_bytes o.parameters.items)
    = c.unwrap_or-place.ensures ∙ ap (λ (t : Option ℕ). unwrap_or t 0) ((rw c.deref.ensures.value at c.place_of.ensures.number)
    ∙ sym (position-map (bytes_eq c.args.name.now) string_bytes o.parameters.items)) in
    let sort : c.sort_at.result ≡ slice_index o.sorts.items (number_in c.args.name.now (map string_bytes o.parameters.items))
    = c.sort_at.ensures ∙ ap (λ s. slice_index s c.unwrap_or-place.result) c.deref-2.ensures.value
    ∙ ap (slice_index o.sorts.items) number in
    ap (λ (n : ℕ). not (n == 0)) sort ∙ ap (λ (t : Option OpenOperator). has_sort t c.args.name.now) (sym c.in-Some.ensures)
