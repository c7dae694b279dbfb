-- Reading items one after the other, as a loop does.
use Rattle.std.proofs.Common.{◌≡◌, ℕ, suc, ◌-◌, ◌+◌, ◌≤◌, ◌<◌, List, [], ◌∷◌, ◌++◌, Option, Some, None, Ok, Err, Bor, refl, sym, ap, subst, ◌∙◌, append_assoc, arith}
use Rattle.std.specs.Prelude.{Result}
use Rattle.std.specs.Result.{IsErrAnd}
use Rattle.std.proofs.lemmas.List.{append-nil}
use Rattle.px_cert.specs.declared.refused.Refused.{Refused}
use Rattle.px_cert.specs.declared.refused.Refused.TheVariants as refused
use Rattle.px_cert.specs.Reading.{◌>>=◌, Parsed, IsRefusal, Reader, Reads, ReadsWhole, many_at}

-- what reads the same
pub reads_by : {X Y : Type 0} (view : X → Y) (r : Result X Refused) (read other : Option Y) → read ≡ other → Reads view r other
    → Reads view r read
reads_by view r read other same is = subst (Reads view r) (sym same) is

-- a refusal that is passed on
pub carried : {X Y : Type 0} (view : X → Y) (r : Result X Refused) (e : Refused) (total : Option Y) → IsErrAnd r (λ f. f ≡ e)
    → IsRefusal e total → Reads view r total
carried view (Ok x) e total is fails = absurd is
carried view (Err f) e total is fails = subst (λ (g : Refused). IsRefusal g total) (sym is) fails

-- the same where a list was written into
pub carried_whole : {A : Type 0} (made : List A) (r : Result (Bor (List ℕ)) Refused) (e : Refused) (total : Option (List A × List ℕ))
    → IsErrAnd r (λ f. f ≡ e) → IsRefusal e total → ReadsWhole made r total
carried_whole made (Ok x) e total is fails = absurd is
carried_whole made (Err f) e total is fails = subst (λ (g : Refused). IsRefusal g total) (sym is) fails

-- what was read before, and what is still read
abbrev pub with_prefix : {A : Type 0} → List A → Parsed (List A) → Parsed (List A)
with_prefix prefix read = read >>= λ x. Some (prefix ++ x.0, x.1)

module _ {A : Type 0} (item : Reader A) where
  regroup : (prefix : List A) (x : A) (read : Parsed (List A)) → with_prefix prefix (read >>= λ y. Some (x ∷ y.0, y.1))
      ≡ with_prefix (prefix ++ x ∷ []) read
  regroup prefix x (Some y) = ap (λ (xs : List A). Some (xs, y.1)) (sym (append_assoc prefix (x ∷ []) y.0))
  regroup prefix x None = refl

  pub goes_on : (prefix : List A) (count i : ℕ) (bytes : List ℕ) (x : A) (left : List ℕ) (total : Parsed (List A)) → i < count
      → item bytes ≡ Some (x, left) → with_prefix prefix (many_at item (count - i) bytes) ≡ total
      → with_prefix (prefix ++ x ∷ []) (many_at item (count - (i + 1)) left) ≡ total
  unfolding many_at
  goes_on prefix count i bytes x left total below one so_far =
      let k : count - i ≡ suc (count - (i + 1)) = omega arith in
      let next : with_prefix prefix (many_at item (count - i) bytes) ≡ with_prefix (prefix ++ x ∷ []) (many_at item (count - (i + 1)) left) =
      rw (k, one) (regroup prefix x (many_at item (count - (i + 1)) left)) in
      sym next ∙ so_far

  -- the same where the item was put at the end of the list
  pub keeps_on : (made prefix : List A) (count i : ℕ) (bytes : List ℕ) (x : A) (left : List ℕ) (total : Parsed (List A)) → made ≡ prefix ++ x ∷ []
      → i < count → item bytes ≡ Some (x, left) → with_prefix prefix (many_at item (count - i) bytes) ≡ total
      → with_prefix made (many_at item (count - (i + 1)) left) ≡ total
  keeps_on made prefix count i bytes x left total made_is below one so_far =
      ap (λ (xs : List A). with_prefix xs (many_at item (count - (i + 1)) left)) made_is
      ∙ goes_on prefix count i bytes x left total below one so_far

  pub ends : (e : Refused) (prefix : List A) (count i : ℕ) (bytes : List ℕ) (total : Parsed (List A)) → i < count → IsRefusal e (item bytes)
      → with_prefix prefix (many_at item (count - i) bytes) ≡ total → IsRefusal e total
  unfolding many_at
  ends refused.NoMemory prefix count i bytes total below fails so_far = tt
  ends refused.Bad prefix count i bytes total below fails so_far =
      let k : count - i ≡ suc (count - (i + 1)) = omega arith in
      let one : with_prefix prefix (many_at item (count - i) bytes) ≡ None = rw (k, fails) refl in
      sym so_far ∙ one

  pub is_done : (prefix : List A) (count i : ℕ) (bytes : List ℕ) (total : Parsed (List A)) → count ≤ i
      → with_prefix prefix (many_at item (count - i) bytes) ≡ total → total ≡ Some (prefix, bytes)
  unfolding many_at
  is_done prefix count i bytes total le so_far =
      let k : count - i ≡ 0 = omega arith in
      let one : with_prefix prefix (many_at item (count - i) bytes) ≡ Some (prefix, bytes) =
      rw k (ap (λ (xs : List A). Some (xs, bytes)) (append-nil prefix)) in
      sym so_far ∙ one
