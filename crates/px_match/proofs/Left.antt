-- Which object is left for a later place.
use Rattle.std.specs.Prelude.{◌≡◌, ℕ, Bool, None, Some, Option, List, length}
use Rattle.std.proofs.Common.{arith}
use Rattle.px_match.specs.Asking.{IsFitFor, IsLeft}
use Rattle.px_match.specs.Reasons.{Agree, Grown, object_at}
use Rattle.px_match.specs.declared.question.KernelQuestion.{KernelQuestion}
use Rattle.px_match.proofs.Floors.{agree_before}

module _ (question : KernelQuestion) (work : List ℕ) (place later : ℕ) where
  pub left_itself : (cells : List Bool) (from : ℕ) → IsLeft question cells work place later from (Some from)
  left_itself cells from = record { at_most = λ objects answer agree same at_least. at_least }

  -- from one object to the next
  pub left_then : (before after : List Bool) (from next : ℕ) (left : Option ℕ) → Grown before after
      → IsLeft question before work place later from (Some next) → IsLeft question after work place later next left
      → IsLeft question after work place later from left
  left_then before after from next left grown first second = record {
    at_most = λ objects answer agree same at_least.
        second.at_most objects answer agree same (first.at_most objects answer
        (agree_before before after (length work) work place objects grown agree) same at_least);
  }

  -- with none left there is no answer
  pub none_left : (before after : List Bool) (from : ℕ) → Grown before after → IsLeft question before work place later 0 (Some from)
      → IsLeft question after work place later from None
      → (objects : List ℕ) → IsFitFor question objects → Agree after (length work) work place objects
      → ¬ (object_at work place ≡ object_at objects place)
  none_left before after from grown first none objects answer agree same =
      (left_then before after 0 from None grown first none).at_most objects answer agree same (omega arith)
