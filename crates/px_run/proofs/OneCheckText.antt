-- The bytes determine what `check` writes.
use Rattle.std.proofs.Common.{◌≡◌, ℕ, List, sym, ap, ◌∙◌, subst, inl, inr}
use Rattle.px_cert.specs.Certificates.{Claim, IsCertificate}
use Rattle.px_cert.proofs.ClaimLaws.{reads_one_way}
use Rattle.px_reader.specs.declared.refused.Refused.{Refused}
use Rattle.px_run.specs.Outcomes.{IsCertRefused, IsCheckText, IsVerdict}
use Rattle.px_run.specs.Transcripts.{refusal_text}

-- a certificate has no first bad line
pub not-bad : (bytes : List ℕ) (claim : Claim) (refused : Refused) → IsCertificate bytes claim → ¬ IsCertRefused bytes refused
not-bad bytes claim refused is fault = (reads_one_way bytes).not_both claim refused.line is fault.0

-- bytes have one first bad line
pub one-bad : (bytes : List ℕ) (a b : Refused) → IsCertRefused bytes a → IsCertRefused bytes b → a ≡ b
one-bad bytes a b p q =
    let lines : a.line ≡ b.line = (reads_one_way bytes).one_line a.line b.line p.0 q.0 in
    let kinds : a.code ≡ b.code = p.1 ∙ sym q.1 in
    let limits : a.limit ≡ b.limit = p.2 ∙ sym q.2 in
    λ i. record { line = lines i; code = kinds i; limit = limits i }

one-verdict : (claim : Claim) (text other : List ℕ) → IsVerdict claim text → IsVerdict claim other → text ≡ other
one-verdict claim text other (inl (right, is)) (inl (also, as_well)) = is ∙ sym as_well
one-verdict claim text other (inl (right, is)) (inr (wrong, as_well)) = absurd (wrong right)
one-verdict claim text other (inr (wrong, is)) (inl (right, as_well)) = absurd (wrong right)
one-verdict claim text other (inr (wrong, is)) (inr (also, as_well)) = is ∙ sym as_well

-- the bytes determine what is written
pub one-check-text : (bytes text other : List ℕ) → IsCheckText bytes text → IsCheckText bytes other → text ≡ other
one-check-text bytes text other (inl (claim, is, line)) (inl (also, too, other_line)) =
    let same : also ≡ claim = (reads_one_way bytes).one_claim also claim too is in
    one-verdict claim text other line (subst (λ (c : Claim). IsVerdict c other) same other_line)
one-check-text bytes text other (inl (claim, is, line)) (inr (refused, fault, as_well)) = absurd (not-bad bytes claim refused is fault)
one-check-text bytes text other (inr (refused, fault, is)) (inl (claim, too, line)) = absurd (not-bad bytes claim refused too fault)
one-check-text bytes text other (inr (refused, fault, is)) (inr (also, too, as_well)) =
    is ∙ ap refusal_text (one-bad bytes refused also fault too) ∙ sym as_well
