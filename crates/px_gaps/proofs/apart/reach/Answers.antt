use Rattle.std.proofs.Common.{◌≡◌, ◌⊎◌, ℕ, List, get_or, sym, ap, subst}
use Rattle.std.specs.Prelude.{◌↔◌, Contains}
use Rattle.std.proofs.lemmas.List.{take_all}
use Rattle.px_terms.specs.declared.term.Term.{Term}
use Rattle.px_terms.specs.declared.term.Term.TheVariants.{Obj, Var}
use Rattle.px_gaps.proofs.ChoiceLemmas.{read-any}
use Rattle.px_gaps.proofs.Grows.{grouped, grown, members_next, nothing_comes}
use Rattle.px_base.proofs.Loops.{Contains-pushed}
use Rattle.px_gaps.proofs.PartLemmas.{reached-one}
use Rattle.px_gaps.proofs.apart.reach.Goals as goal
use Rattle.px_gaps.proofs.apart.reach.Goals.{in-Var+in_ok-push, in_default}

pub loop-term-preserved : goal.loop-term-preserved
loop-term-preserved c = λ v.
    let args = c.args.args.now in
    let i = c.loop-term.term-index in
    let item = get_or args i (Obj 0) in
    let here : Contains c.match-term.reached.items v ↔ (Contains c.loop-term.reached.items v ⊎ (item ≡ Var v)) = elim c.match-term.branch [
      | in-Var+in_ok-push w ↦ subst (λ (l : List ℕ). Contains l v ↔ (Contains c.loop-term.reached.items v ⊎ (item ≡ Var v)))
          (sym (ap (λ r. r.items) w.reached-is))
          (reached-one item w.in-Var.variable w.in-Var.is v
          (subst (λ (l : List ℕ). Contains l v ↔ (Contains c.loop-term.reached.items v ⊎ (w.in-Var.variable ≡ v)))
          (sym w.in_ok-push.ensures.items) (Contains-pushed c.loop-term.reached.items w.in-Var.variable v)))
      | in_default w ↦ subst (λ (l : List ℕ). Contains l v ↔ (Contains c.loop-term.reached.items v ⊎ (item ≡ Var v)))
          (sym (ap (λ r. r.items) w.reached-is)) (nothing_comes (w.in_default.not-Var v))
    ] in
    grown (c.loop-term.invariant v) here (grouped (members_next args i item (Var v) c.loop-term-test.true
    (read-any args i (Obj 0) item c.loop-term-test.true)))

pub returns : goal.returns
returns c = λ v.
    subst (λ (l : List Term). Contains c.loop-term.reached.items v ↔ (Contains c.args.reached.now.items v ⊎ Contains l (Var v)))
    (take_all c.loop-term.term-index c.args.args.now c.loop-term-test.false) (c.loop-term.invariant v)
