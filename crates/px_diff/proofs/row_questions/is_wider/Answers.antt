use Rattle.std.proofs.Common.{◌≡◌, ◌<◌, ◌∙◌, ℕ, length, get_or, ap, sym, inl, inr, arith}
use Rattle.std.proofs.lemmas.List.{get_or_default}
use Rattle.px_terms.specs.declared.term.Term.TheVariants.{Any, Obj}
use Rattle.px_base.proofs.Loops.{level_or_below}
use Rattle.px_entries.proofs.ParameterLemmas.{wider-fits}
use Rattle.px_diff.proofs.row_questions.is_wider.Goals as goal

pub loop-place-preserved : goal.loop-place-preserved
loop-place-preserved c = λ v n less e. elim (level_or_below v c.loop-place.place less) [
  | inl before ↦ c.loop-place.invariant v n before e
  | inr now ↦
      let within : c.loop-place.place < length c.args.wide.now = c.loop-place-test.true in
      let inside : c.loop-place.place < length c.args.narrow.now = omega (arith, within, c.requires) in
      let wide_is : get_or c.args.wide.now c.loop-place.place (Obj 0) ≡ Obj n =
      get_or_default c.args.wide.now c.loop-place.place (Obj 0) Any within ∙ ap (λ (k : ℕ). get_or c.args.wide.now k Any) (sym now)
      ∙ e in
      ap (λ (k : ℕ). get_or c.args.narrow.now k Any) now ∙ get_or_default c.args.narrow.now c.loop-place.place Any (Obj 0) inside
      ∙ c.keeps_object.ensures c.if-not-keeps_object.false n wide_is
]

pub returns : goal.returns
returns c =
    λ _. wider-fits c.args.wide.now c.args.narrow.now c.requires
    (λ v n below e. c.loop-place.invariant v n (omega (arith, below, c.loop-place-test.false)) e)
