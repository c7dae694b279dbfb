-- A list of names after one more name was pushed, or was not.
use Rattle.std.specs.Prelude.{◌≡◌, ◌≢◌, ◌<◌, ℕ, false, true, List, [], ◌∷◌, ◌++◌, length, All, Contains, Bool, Result, Ok, Err, OnOk, OnErr}
use Rattle.std.specs.Str.{IsUtf8}
use Rattle.std.proofs.Common.{sym, subst, arith}
use Rattle.std.proofs.lemmas.List.Elements.{All-push}
use Rattle.std.proofs.lemmas.List.Quantifiers.{all_pairs_push}
use Rattle.std.proofs.lemmas.Grind.{common_steps}
use Rattle.px_base.specs.ListLaws.{All-each}
use Rattle.px_names.specs.Name.{IsName}
use Rattle.px_names.specs.Lists.{AreNames, has_name, limit_of}
use Rattle.px_names.specs.NameLaws.{has_name-decides}
use Rattle.px_names.specs.declared.kind.Kind.{Kind}

no_both : (b : Bool) → b ≡ true → ¬ (b ≡ false)
no_both b held failed = cc

-- a name that isn't in the list is none of its names
new_is_other : (names : List (List ℕ)) (name : List ℕ) → has_name name names ≡ false → All (λ earlier. earlier ≢ name) names
new_is_other names name new =
    All-each (λ earlier. earlier ≢ name) names (λ earlier there same. let has : has_name name names
    ≡ true = (has_name-decides name names).1 (subst (Contains names) same there) in no_both (has_name name names) has new)

with_one : (kind : Kind) (names : List (List ℕ)) (name : List ℕ) → AreNames kind names → IsName name → IsUtf8 name
    → has_name name names ≡ false → length names < limit_of kind → AreNames kind (names ++ name ∷ [])
with_one kind names name are named text new room = record {
  distinct = all_pairs_push ◌≢◌ names name are.distinct (new_is_other names name new);
  named = All-push IsName names name are.named named;
  texts = All-push IsUtf8 names name are.texts text;
  fit = grind (arith, common_steps);
}

pub pushed : {T E : Type 0} (result : Result T E) (kind : Kind) (old new : List (List ℕ)) (name : List ℕ)
    → OnOk result (new ≡ old ++ name ∷ []) → OnErr result (new ≡ old)
    → AreNames kind old → IsName name → IsUtf8 name → has_name name old ≡ false → length old < limit_of kind → AreNames kind new
pushed (Ok value) kind old new name added kept are named text absent room =
    subst (AreNames kind) (sym added) (with_one kind old name are named text absent room)
pushed (Err error) kind old new name added kept are named text absent room = subst (AreNames kind) (sym kept) are
