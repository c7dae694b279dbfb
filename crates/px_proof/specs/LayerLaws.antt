-- One layer of a path and of a proof term, and the proof term that a derivation stands for.
use Rattle.std.specs.Prelude.{◌≡◌, ℕ, List, [], ◌∷◌, map}
use Rattle.std.proofs.Common.{refl, sym, ap, ◌∙◌, subst, Bor}
use Rattle.px_terms.specs.declared.atom.Atom.{Atom}
use Rattle.px_terms.specs.declared.clause.Lit.{Lit}
use Rattle.px_terms.specs.declared.term.Term.{Term}
use Rattle.px_proof.specs.declared.path.Path.{Path}
use Rattle.px_proof.specs.declared.path.Path.TheFolds.{fold-roll-Path}
use Rattle.px_proof.specs.declared.path.Path.TheOpen as path_layer
use Rattle.px_proof.specs.declared.path.Path.TheVariants.{Root}
use Rattle.px_proof.specs.declared.path.Path.TheViews.{Under, rolls-Under, rolls-Root}
use Rattle.px_proof.specs.declared.proof.Leaf.{Leaf}
use Rattle.px_proof.specs.declared.proof.Proof.{Proof}
use Rattle.px_proof.specs.declared.proof.Proof.TheFolds.{fold-roll-Proof, ind-Proof, map-Proof}
use Rattle.px_proof.specs.declared.proof.Proof.TheOpen as layer
use Rattle.px_proof.specs.declared.proof.Proof.TheOpen.{Proof-F}
use Rattle.px_proof.specs.declared.proof.Proof.TheVariants.{Fact, Anc, Gap}
use Rattle.px_proof.specs.declared.proof.Proof.TheViews.{Step, roll-Proof, rolls-Fact, rolls-Anc, rolls-Step, rolls-Gap}
use Rattle.px_proof.specs.Derivation.{Derivation, Derivations, derivations, fact, ancestor, step, gap, open_place, none, also}
use Rattle.px_proof.specs.Path.{path_literals, literals_step}
use Rattle.px_proof.specs.ProofTerm.{derivation_of, derivation_step, DerivationsTellProofs}

pub path_literals-root : path_literals Root ≡ []
path_literals-root = ap path_literals (sym rolls-Root) ∙ fold-roll-Path (List Lit) literals_step path_layer.Root

pub path_literals-under : (lit : Bor Lit) (above : Bor Path) → path_literals (Under lit above) ≡ lit.now ∷ path_literals above.now
path_literals-under lit above =
    ap path_literals (sym (rolls-Under lit above)) ∙ fold-roll-Path (List Lit) literals_step (path_layer.Under lit above)

-- ---- the derivation of each form

pub derivation_of-fact : (leaf : Leaf) → derivation_of (Fact leaf) ≡ fact leaf
derivation_of-fact leaf = ap derivation_of (sym (rolls-Fact leaf)) ∙ fold-roll-Proof Derivation derivation_step (layer.Fact leaf)

pub derivation_of-ancestor : (i : ℕ) → derivation_of (Anc i) ≡ ancestor i
derivation_of-ancestor i = ap derivation_of (sym (rolls-Anc i)) ∙ fold-roll-Proof Derivation derivation_step (layer.Anc i)

pub derivation_of-step : (clause : ℕ) (theta : List Term) (place : ℕ) (subs : List Proof)
    → derivation_of (Step clause theta place subs) ≡ step clause theta place (derivations (map derivation_of subs))
derivation_of-step clause theta place subs =
    ap derivation_of (sym (rolls-Step clause theta place subs)) ∙ fold-roll-Proof Derivation derivation_step
    (layer.Step clause theta place subs)

pub derivation_of-gap : (atom : Atom) → derivation_of (Gap atom) ≡ gap atom
derivation_of-gap atom = ap derivation_of (sym (rolls-Gap atom)) ∙ fold-roll-Proof Derivation derivation_step (layer.Gap atom)

-- ---- the proof term that stands for a derivation; an open place, which no proof term has, is given a form

abbrev mutual
  pub proof_of : Derivation → Proof
  proof_of (fact leaf) = Fact leaf
  proof_of (ancestor i) = Anc i
  proof_of (step number theta place parts) = Step number theta place (proofs_of parts)
  proof_of (gap atom) = Gap atom
  proof_of open_place = Anc 0

  pub proofs_of : Derivations → List Proof
  proofs_of none = []
  proofs_of (also d ds) = proof_of d ∷ proofs_of ds

abbrev ComesBack : Proof → Type 0
ComesBack p = proof_of (derivation_of p) ≡ p

all_come_back : (ps : List ((p : Proof) × ComesBack p)) → proofs_of (derivations (map derivation_of (map (λ e. e.0) ps))) ≡ map (λ e. e.0)
    ps
all_come_back [] = refl
all_come_back (e ∷ ps) = λ i. e.1 i ∷ all_come_back ps i

layer_back : (y : Proof-F ((p : Proof) × ComesBack p)) → ComesBack (roll-Proof (map-Proof ((p : Proof) × ComesBack p) Proof (λ e. e.0) y))
layer_back (layer.Fact leaf) = ap proof_of (fold-roll-Proof Derivation derivation_step (layer.Fact leaf)) ∙ sym (rolls-Fact leaf)
layer_back (layer.Anc i) = ap proof_of (fold-roll-Proof Derivation derivation_step (layer.Anc i)) ∙ sym (rolls-Anc i)
layer_back (layer.Step clause theta place subs) =
    ap proof_of (fold-roll-Proof Derivation derivation_step (layer.Step clause theta place (map (λ e. e.0) subs)))
    ∙ ap (λ ps. Step clause theta place ps) (all_come_back subs) ∙ sym (rolls-Step clause theta place (map (λ e. e.0) subs))
layer_back (layer.Gap atom) = ap proof_of (fold-roll-Proof Derivation derivation_step (layer.Gap atom)) ∙ sym (rolls-Gap atom)

pub comes_back : (p : Proof) → ComesBack p
comes_back = ind-Proof ComesBack (λ x y is. subst (λ z. ComesBack (roll-Proof z)) is (layer_back y))

-- ---- and back: the derivation of the proof term, where no open place stands in the derivation

abbrev mutual
  pub HasNoOpenPlace : Derivation → Type 0
  HasNoOpenPlace (fact leaf) = Unit {0}
  HasNoOpenPlace (ancestor i) = Unit {0}
  HasNoOpenPlace (step number theta place parts) = HaveNoOpenPlace parts
  HasNoOpenPlace (gap atom) = Unit {0}
  HasNoOpenPlace open_place = ⊥

  pub HaveNoOpenPlace : Derivations → Type 0
  HaveNoOpenPlace none = Unit {0}
  HaveNoOpenPlace (also d ds) = HasNoOpenPlace d × HaveNoOpenPlace ds

mutual
  pub derivation_of-proof_of : (d : Derivation) → HasNoOpenPlace d → derivation_of (proof_of d) ≡ d
  derivation_of-proof_of (fact leaf) is = derivation_of-fact leaf
  derivation_of-proof_of (ancestor i) is = derivation_of-ancestor i
  derivation_of-proof_of (step number theta place parts) is =
      derivation_of-step number theta place (proofs_of parts) ∙ ap (λ (ds : Derivations). step number theta place ds)
      (derivations-proofs_of parts is)
  derivation_of-proof_of (gap atom) is = derivation_of-gap atom
  derivation_of-proof_of open_place is = absurd is

  pub derivations-proofs_of : (ds : Derivations) → HaveNoOpenPlace ds → derivations (map derivation_of (proofs_of ds)) ≡ ds
  derivations-proofs_of none is = refl
  derivations-proofs_of (also d ds) is = rw (derivation_of-proof_of d is.0, derivations-proofs_of ds is.1) refl

-- ----

pub derivations_tell_proofs : DerivationsTellProofs
derivations_tell_proofs one other same = sym (comes_back one) ∙ ap proof_of same ∙ comes_back other
