-- Gathering the instances that may be pushed, part by part.
use Rattle.std.proofs.Common.{◌≡◌, ◌⊎◌, List, [], ◌∷◌, ◌++◌, sym, subst, inl, inr}
use Rattle.std.specs.Prelude.{◌↔◌, Contains}
use Rattle.px_base.proofs.Loops.{Contains-pushed}
use Rattle.px_terms.specs.declared.atom.Atom.{Atom}
use Rattle.px_terms.specs.declared.instance.OpInst.{OpInst}
use Rattle.px_terms.specs.declared.problem.Problem.{Problem}
use Rattle.px_table.specs.declared.entry.Entry.{Entry}
use Rattle.px_table.specs.declared.table.Table.{Table}
use Rattle.px_table.specs.declared.entry.Entry.TheVariants.{Op}
use Rattle.px_entries.specs.Entries.{obligations_of}
use Rattle.px_diff.specs.Gathering.{Gathers}
use Rattle.px_diff.specs.Pushes.{IsPushable}
use Rattle.px_gaps.specs.Needs.{IsOpen}
use Rattle.px_gaps.specs.Questions.{AreUnlimited}

module _ (problem : Problem) (tables : List Table) (wanted : List Atom) (stack : List Entry) (model : List Atom) where
  pub gathers_less : (V W : OpInst → Type 0) (old new : List OpInst) → ((inst : OpInst) → W inst → V inst)
      → Gathers problem tables wanted stack model V old new → Gathers problem tables wanted stack model W old new
  gathers_less V W old new f g =
      record {
        kept = g.kept;
        only = g.only;
        all = λ inst w p. g.all inst (f inst w) p;
        unlimited = λ inst w r. g.unlimited inst (f inst w) r;
      }

  -- the same instances in another order
  pub gathers_reordered : (V : OpInst → Type 0) (old made new : List OpInst) → ((inst : OpInst) → Contains new inst ↔ Contains made inst)
      → Gathers problem tables wanted stack model V old made → Gathers problem tables wanted stack model V old new
  gathers_reordered V old made new members g = record {
    kept = λ inst there. (members inst).1 (g.kept inst there);
    only = λ inst there. g.only inst ((members inst).0 there);
    all = λ inst v p. (members inst).1 (g.all inst v p);
    unlimited = g.unlimited;
  }

  -- one more part
  pub gathers_part : (V U W : OpInst → Type 0) (old made new : List OpInst) → ((inst : OpInst) → W inst → V inst ⊎ U inst)
      → Gathers problem tables wanted stack model V old made → Gathers problem tables wanted stack model U made new
      → Gathers problem tables wanted stack model W old new
  gathers_part V U W old made new f g h = record {
    kept = λ inst there. h.kept inst (g.kept inst there);
    only = λ inst there. elim (h.only inst there) [ inl before ↦ g.only inst before | inr p ↦ inr p ];
    all = λ inst w p. elim (f inst w) [ inl v ↦ h.kept inst (g.all inst v p) | inr u ↦ h.all inst u p ];
    unlimited = λ inst w r. elim (f inst w) [ inl v ↦ g.unlimited inst v r | inr u ↦ h.unlimited inst u r ];
  }

  -- one instance that may be pushed, and whose questions don't meet the limit
  pub gathers_one : (inst : OpInst) (old new : List OpInst) → new ≡ old ++ inst ∷ []
      → IsPushable problem tables wanted stack model (Op inst) → AreUnlimited problem (obligations_of problem tables model (Op inst))
      → Gathers problem tables wanted stack model (λ other. inst ≡ other) old new
  gathers_one inst old new put pushable unlimited = record {
    kept = λ other there. subst (λ (l : List OpInst). Contains l other) (sym put) ((Contains-pushed old inst other).1 (inl there));
    only =
        λ other there. elim ((Contains-pushed old inst other).0 (subst (λ (l : List OpInst). Contains l other) put there)) [
          | inl before ↦ inl before
          | inr is ↦ inr (subst (λ (i : OpInst). IsPushable problem tables wanted stack model (Op i)) is pushable)
        ];
    all = λ other is p. subst (λ (l : List OpInst). Contains l other) (sym put) ((Contains-pushed old inst other).1 (inr is));
    unlimited = λ other is relevant. subst (λ (i : OpInst). AreUnlimited problem (obligations_of problem tables model (Op i))) is unlimited;
  }

  -- one instance that isn't open, and whose questions don't meet the limit
  pub gathers_closed : (inst : OpInst) (found : List OpInst) → (¬ IsOpen problem (obligations_of problem tables model (Op inst)))
      → AreUnlimited problem (obligations_of problem tables model (Op inst))
      → Gathers problem tables wanted stack model (λ other. inst ≡ other) found found
  gathers_closed inst found closed unlimited = record {
    kept = λ other there. there;
    only = λ other there. inl there;
    all =
        λ other is p. absurd (closed (subst (λ (i : OpInst). IsOpen problem (obligations_of problem tables model (Op i))) (sym is)
        p.open_entry));
    unlimited = λ other is relevant. subst (λ (i : OpInst). AreUnlimited problem (obligations_of problem tables model (Op i))) is unlimited;
  }
