-- An index of atoms stays one when an atom is kept.
use Rattle.std.proofs.Common.{◌≡◌, ◌≤◌, ℕ, List, length, sym, subst, inl, inr}
use Rattle.std.specs.Prelude.{All, Result, Ok, Err, IfOk, OnErr}
use Rattle.std.proofs.lemmas.List.Elements.{All-push}
use Rattle.px_base.specs.Bounds.{u32_max}
use Rattle.px_terms.specs.declared.atom.Atom.{Atom}
use Rattle.px_terms.specs.Instances.{IsGround}
use Rattle.px_ops.specs.Keeping.{IsAtomIndex, Keeps}
use Rattle.px_ops.specs.KeepLaws.{keeps-once}

pub kept_index : {E : Type 0} (old new : List Atom) (atom : Atom) (result : Result ℕ E) → IsAtomIndex old → IsGround atom
    → IfOk result (Keeps old new atom) → OnErr result (new ≡ old)
    → length new ≤ u32_max → IsAtomIndex new
kept_index old new atom (Ok number) index is_ground kept same short = record {
  once = keeps-once old new atom number kept index.once;
  all_ground = elim kept.change [
    | inl is ↦ subst (All IsGround) (sym is.1) index.all_ground
    | inr is ↦ subst (All IsGround) (sym is.1) (All-push IsGround old atom index.all_ground is_ground)
  ];
  short = short;
}
kept_index old new atom (Err e) index is_ground kept same short = subst IsAtomIndex (sym same) index
