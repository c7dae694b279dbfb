-- What is proved of certificates.
use Rattle.std.specs.Prelude.{◌≡◌, ◌≤◌, ◌⊎◌, ◌↔◌, ℕ, List}
use Rattle.px_terms.specs.declared.problem.Problem.{Problem}
use Rattle.px_terms.specs.Validity.{AreSortsOf, IsValid}
use Rattle.px_table.specs.declared.table.Table.{Table}
use Rattle.px_table.specs.Kernels.{KernelsCarry}
use Rattle.px_table.specs.Tables.{IsTable}
use Rattle.px_cert.specs.ClaimRanges.{IsClaimInRange, certified}
use Rattle.px_cert.specs.Certificates.{Claim, IsCertificate, IsCertifiable, IsFirstBadLine, certificate_text, certified_claim}
use Rattle.px_cert.specs.Limits.{greatest_sort}

-- all bytes are the certificate of one claim, or have one first bad line, and never both
pub record ReadsOneWay (bytes : List ℕ) : Type 0 where
  pub one : ((claim : Claim) × IsCertificate bytes claim) ⊎ ((number : ℕ) × IsFirstBadLine bytes number)
  pub not_both : (claim : Claim) (number : ℕ) → IsCertificate bytes claim → ¬ IsFirstBadLine bytes number
  pub one_claim : (a b : Claim) → IsCertificate bytes a → IsCertificate bytes b → a ≡ b
  pub one_line : (m n : ℕ) → IsFirstBadLine bytes m → IsFirstBadLine bytes n → m ≡ n

-- The certificates of a claim are its one text, where it is in range, and else there are none. Its problem is valid.
pub record ClaimsAreTexts : Type 0 where
  pub exact : (bytes : List ℕ) (claim : Claim)
      → IsCertificate bytes claim ↔ (IsClaimInRange claim.problem claim.table × (bytes ≡ certificate_text claim.problem claim.table))
  pub one_text : (bytes : List ℕ) (claim : Claim) → IsCertificate bytes claim → bytes ≡ certificate_text claim.problem claim.table
  pub valid : (bytes : List ℕ) (claim : Claim) → IsCertificate bytes claim → IsValid claim.problem

-- What may be certified is in range, and so has a certificate, which claims the same of the problem with the limits of certificates. It is a table for the
-- one where it is for the other.
pub record TablesAreCertified : Type 0 where
  pub in_range : (problem : Problem) (table : Table) → IsCertifiable problem table → IsClaimInRange (certified problem) table
  pub written : (problem : Problem) (table : Table) → IsCertifiable problem table
      → IsCertificate (certificate_text problem table) (certified_claim problem table)
  pub right : (problem : Problem) (table : Table) → problem.sorts ≤ greatest_sort → IsTable problem table → IsTable (certified problem) table
  pub only_right : (problem : Problem) (table : Table) → AreSortsOf problem table.param_sorts → IsTable (certified problem) table
      → IsTable problem table
  -- and what it is worth for its own problem it is worth for that
  pub worth : (problem : Problem) (table : Table) → KernelsCarry (certified problem) table ↔ KernelsCarry problem table
