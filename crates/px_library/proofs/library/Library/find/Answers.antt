use Rattle.std.proofs.Common.{◌≡◌, ◌<◌, ℕ, List, Some, None, get_or, length, sym, ap, subst, ◌∙◌, arith}
use Rattle.px_proof.specs.PlaceLaws.{slice_get-read}
use Rattle.px_library.specs.Libraries.{LibraryValue, table_named}
use Rattle.px_library.proofs.Finding.{IsOtherBefore, beside-found, beside-missing}
use Rattle.px_library.proofs.library.Library.find.Goals as goal

pub returns-then-one-name : goal.returns-then-one-name
returns-then-one-name c =
    let names = c.self.inside.names.items in
    let tables = c.self.inside.tables.items in
    let place = c.loop-place.place in
    let below : place < length names = subst (λ (l : List ℕ). place < length l) c.deref-one-items.ensures.value c.loop-place-test.true in
    let is : get_or names place 0 ≡ c.args.name =
    subst (λ (l : List ℕ). get_or l place 0 ≡ c.args.name) c.deref-one-items.ensures.value c.if-one-name.true in
    let others : IsOtherBefore names place c.args.name =
    subst (λ (l : LibraryValue). IsOtherBefore l.names place c.args.name) (sym c.self.view_is) c.loop-place.invariant in
    subst (λ (l : LibraryValue). Some c.index.result.now ≡ table_named l c.args.name) c.self.view_is
    (sym (beside-found names tables place c.args.name c.self.invariant.same below is others
    ∙ slice_get-read tables place c.index.result.now (omega (arith, below, c.self.invariant.same)) ∙ ap Some (sym c.index.ensures)))

pub returns : goal.returns
returns c =
    let names = c.self.inside.names.items in
    let place = c.loop-place.place in
    let past : (k : ℕ) → k < length names → k < place =
    λ k below. omega (arith, c.loop-place-test.false, ap length c.deref-one-items.ensures.value, below) in
    let others : IsOtherBefore names place c.args.name =
    subst (λ (l : LibraryValue). IsOtherBefore l.names place c.args.name) (sym c.self.view_is) c.loop-place.invariant in
    subst (λ (l : LibraryValue). None ≡ table_named l c.args.name) c.self.view_is
    (sym (beside-missing names c.self.inside.tables.items c.args.name (λ k below. others k (past k below))))
