use Rattle.std.proofs.Common.{◌≡◌, ◌≤◌, ◌+◌, ℕ, List, Bool, [], length, ap, sym, ◌∙◌, subst, arith, refl}
use Rattle.std.specs.Prelude.{Contains, IfOk, ◌↔◌, false, replicate}
use Rattle.std.proofs.lemmas.List.{length-replicate}
use Rattle.px_base.proofs.Loops.{ok_map_both}
use Rattle.px_edit.specs.Editing.{AreKeptSteps}
use Rattle.px_edit.specs.Keeping.{AreAsked, HasFlag}
use Rattle.px_edit.proofs.Flags.{asked-none, kept-by_flags}
use Rattle.px_edit.proofs.NameSteps.{written_back}
use Rattle.px_edit.proofs.keeping.kept_numbers.Goals as goal

pub flag_needed-requires-clause-long : goal.flag_needed-requires-clause-long
flag_needed-requires-clause-long c =
    ap length (c.deref_mut.ensures.value ∙ c.in_ok-flags.ensures) ∙ length-replicate _ false ∙ ap (λ n. n + 2) c.len.ensures

pub flag_needed-requires-clause-start : goal.flag_needed-requires-clause-start
flag_needed-requires-clause-start c =
    let is = c.deref_mut.ensures.value ∙ c.in_ok-flags.ensures in
    asked-none _ _ (is ∙ ap (λ n. replicate n false) (sym (ap length is ∙ length-replicate _ false)))

pub returns : goal.returns
returns c =
    let made = c.flag_needed.new.flags in
    let whole : c.in_ok-flags.flags.len ≡ length made = omega (arith, c.flag_needed.ensures.long, c.deref_mut.ensures.len) in
    let flags : c.deref.result.now ≡ made = c.deref.ensures.value ∙ written_back c.in_ok-flags.flags.len made c.in_ok-flags.flags.items whole in
    ok_map_both _ _ (λ kept. AreKeptSteps c.args.table.now c.args.wanted.now kept.items)
    (λ kept in_order exact. kept-by_flags c.args.table.now c.args.wanted.now made kept.items c.flag_needed.ensures.exact in_order
    (subst (λ (l : List Bool). (k : ℕ) → Contains kept.items k ↔ ((1 ≤ k) × HasFlag l k)) flags exact))
    c.flagged.result c.flagged.ensures.in_order c.flagged.ensures.exact
