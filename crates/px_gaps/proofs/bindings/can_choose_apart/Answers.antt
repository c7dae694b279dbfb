use Rattle.std.proofs.Common.{◌≡◌, ◌∙◌, ℕ, List, ◌++◌, length, sym, ap, subst, inl, inr}
use Rattle.std.specs.Prelude.{All, Contains}
use Rattle.px_base.specs.ListLaws.{All-at, All-each}
use Rattle.px_terms.specs.Instances.{IsGround}
use Rattle.px_terms.specs.Substitution.{substitute_atom}
use Rattle.px_terms.specs.declared.atom.Atom.{Atom}
use Rattle.px_gaps.specs.Bindings.{ArePlain, CanAvoid, IsPlain}
use Rattle.px_gaps.proofs.Choosing.{closed-some, said, said_not}
use Rattle.px_gaps.proofs.Parting.{avoid-fewer, parts-both}
use Rattle.px_gaps.proofs.Grows.{any-of, of-any}
use Rattle.px_gaps.proofs.bindings.can_choose_apart.Goals as goal

fewer-plain : (n : ℕ) (atoms fewer : List Atom) → ArePlain n atoms → ((atom : Atom) → Contains fewer atom → Contains atoms atom)
    → ArePlain n fewer
fewer-plain n atoms fewer plain among = All-each (IsPlain n) fewer (λ atom has. All-at (IsPlain n) atoms atom plain (among atom has))

pub loop-place-init : goal.loop-place-init
loop-place-init c =
    let copied : c.extend_from_slice.new.self.items ≡ c.args.avoidance.now.atoms.now =
    c.in_ok-extend_from_slice.ensures.items ∙ ap (λ xs. xs ++ c.args.avoidance.now.atoms.now) c.new-rest.ensures.items in
    record {
      among = λ atom has. subst (λ (l : List Atom). Contains l atom) copied has;
      plain = subst (ArePlain (length c.args.terms.now)) (sym copied) c.requires.bound.plain;
      enough =
          λ can. subst (λ (l : List Atom). CanAvoid c.args.avoidance.now.limit c.args.terms.now l c.args.avoidance.now.set.now.atoms) copied
          can;
    }

pub apart-requires-clause-plain : goal.apart-requires-clause-plain
apart-requires-clause-plain c = subst (ArePlain (length c.args.terms.now)) (sym c.deref-in-Some.ensures.value) c.loop-place.invariant.plain

pub can_choose-requires : goal.can_choose-requires
can_choose-requires c = record {
  plain = subst (ArePlain (length c.args.terms.now)) (sym c.as_slice-atoms.ensures.value)
      (fewer-plain (length c.args.terms.now) c.loop-place.rest.items c.in_ok-linked.field-0.linked.items c.loop-place.invariant.plain
      (λ atom has. subst (λ (l : List Atom). Contains l atom) c.deref-in-Some.ensures.value
      ((c.in_ok-linked.ensures.members atom).1 (inl has))));
  binding = c.requires.bound.binding;
  is_ground = c.requires.bound.is_ground;
}

pub returns-then-not-branch : goal.returns-then-not-branch
returns-then-not-branch c = λ can.
    said_not _ c.in_ok-can_choose.field-0 c.in_ok-can_choose.ensures c.if-not-branch.true
    (avoid-fewer c.args.avoidance.now.limit c.args.terms.now c.args.avoidance.now.atoms.now c.as_slice-atoms.result.now
    c.args.avoidance.now.set.now.atoms
    (λ atom has. c.loop-place.invariant.among atom (subst (λ (l : List Atom). Contains l atom) c.deref-in-Some.ensures.value
    ((c.in_ok-linked.ensures.members atom).1 (inl (subst (λ (l : List Atom). Contains l atom) c.as_slice-atoms.ensures.value has)))))
    can)

pub loop-place-preserved : goal.loop-place-preserved
loop-place-preserved c =
    let limit = c.args.avoidance.now.limit in
    let terms = c.args.terms.now in
    let set = c.args.avoidance.now.set.now.atoms in
    let rest = c.loop-place.rest.items in
    let linked = c.in_ok-linked.field-0.linked.items in
    let others = c.in_ok-linked.field-0.others.items in
    let from_linked =
    λ (atom : Atom) (has : Contains linked atom). subst (λ (l : List Atom). Contains l atom) c.deref-in-Some.ensures.value
    ((c.in_ok-linked.ensures.members atom).1 (inl has)) in
    let from_others =
    λ (atom : Atom) (has : Contains others atom). subst (λ (l : List Atom). Contains l atom) c.deref-in-Some.ensures.value
    ((c.in_ok-linked.ensures.members atom).1 (inr has)) in
    let can_linked =
    subst (λ (l : List Atom). CanAvoid limit terms l set) c.as_slice-atoms.ensures.value
    (said _ c.in_ok-can_choose.field-0 c.in_ok-can_choose.ensures c.if-not-branch.false) in
    record {
      among = λ atom has. c.loop-place.invariant.among atom (from_others atom has);
      plain = fewer-plain (length terms) rest others c.loop-place.invariant.plain from_others;
      enough =
          λ can. c.loop-place.invariant.enough (parts-both limit terms c.requires.bound.binding rest linked others set
          (fewer-plain (length terms) rest linked c.loop-place.invariant.plain from_linked)
          (fewer-plain (length terms) rest others c.loop-place.invariant.plain from_others) c.in_ok-linked.ensures.apart
          (λ atom has. (c.in_ok-linked.ensures.members atom).0
          (subst (λ (l : List Atom). Contains l atom) (sym c.deref-in-Some.ensures.value) has)) can_linked can);
    }

pub returns : goal.returns
returns c =
    let limit = c.args.avoidance.now.limit in
    let terms = c.args.terms.now in
    let set = c.args.avoidance.now.set.now.atoms in
    let rest = c.loop-place.rest.items in
    let closed =
    subst (λ (l : List Atom). All (λ (atom : Atom). IsGround (substitute_atom terms atom)) l) c.deref.ensures.value
    c.in_default.ensures.none in
    c.loop-place.invariant.enough (closed-some limit terms c.requires.bound.binding rest set c.loop-place.invariant.plain
    c.requires.bound.is_ground
    (λ any. let r = any-of (λ (atom : Atom). Contains set (substitute_atom terms atom)) rest any in
    c.requires.unmet (of-any (λ (atom : Atom). Contains set (substitute_atom terms atom)) c.args.avoidance.now.atoms.now r.0
    (c.loop-place.invariant.among r.0 r.1) r.2)) closed)
