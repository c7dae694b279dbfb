-- How the reading of a certificate ends, in the words of its contract.
use Rattle.std.proofs.Common.{◌≡◌, ◌<◌, ◌⊎◌, ℕ, List, [], ◌∷◌, length, refl, ap, subst, inl, arith}
use Rattle.px_cert.specs.declared.cert.CertErr.TheVariants as refusal
use Rattle.px_cert.specs.Certificates.{Claim, IsCertificate, IsFirstBadLine}
use Rattle.px_cert.proofs.ClaimLaws.{reads_lines}
use Rattle.px_cert.proofs.OneWay.{not_both, one_claim, one_line}

module _ (bytes : List ℕ) where
  -- ---- at a bad line

  module _ (bad : ℕ) (is : IsFirstBadLine bytes bad) where
    pub bad_refused : (line : ℕ) → refusal.BadCert bad ≡ refusal.BadCert line → IsFirstBadLine bytes line
    bad_refused line e = let same : bad ≡ line = cc in subst (IsFirstBadLine bytes) same is

    pub bad_all_read : (claim : Claim) → IsCertificate bytes claim → Unit {0} × (refusal.BadCert bad ≡ refusal.NoMemory)
    bad_all_read claim c = absurd (not_both reads_lines bytes claim bad c is)

    pub bad_all_refused : (line : ℕ) → IsFirstBadLine bytes line
        → Unit {0} × ((refusal.BadCert bad ≡ refusal.BadCert line) ⊎ (refusal.BadCert bad ≡ refusal.NoMemory))
    bad_all_refused line other = (tt, inl (ap refusal.BadCert (one_line reads_lines bytes bad line is other)))

  -- ---- at the end

  module _ (claim : Claim) (is : IsCertificate bytes claim) where
    pub read_all_read : (other : Claim) → IsCertificate bytes other → (claim ≡ other) × Unit {0}
    read_all_read other c = (one_claim reads_lines bytes claim other is c, tt)

    pub read_all_refused : (line : ℕ) → IsFirstBadLine bytes line → ⊥ × Unit {0}
    read_all_refused line bad = absurd (not_both reads_lines bytes claim line is bad)

-- ---- what the code tells

pub nothing_left : (bytes : List ℕ) → length bytes ≡ 0 → bytes ≡ []
nothing_left [] none = refl
nothing_left (b ∷ bytes) none = absurd (omega (arith, none))

pub something_left : (bytes : List ℕ) → 0 < length bytes → ¬ (bytes ≡ [])
something_left bytes some none =
    let same = ap (λ (bs : List ℕ). length bs) none in
    let count : length bytes ≡ 0 = same in
    omega (arith, some, count)
