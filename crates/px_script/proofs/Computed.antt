-- Small lines by computing: what is read of them is so.
use Rattle.px_script.proofs.Common.{cons_same, some_same, Declared, nothing_declared, Refusal, Passes, Fails, whole_language, After, Fit, RefuseWhere, lines, ◌≡◌, ℕ, Bool, true, false, List, [], ◌∷◌, map, subst, Option, None, Some, AllByRecursion}
use Rattle.px_script.proofs.Law.{Reading, passes, fails, by_reading, line_read, lines_read, scan, Says, LinesSay, line-says, lines-say}

abbrev pub read : ℕ → Declared → List ℕ → Reading
read n d line = line_read whole_language n d (scan line)

-- what lines leave, or their first fault
abbrev pub text_left : List ℕ → Reading
text_left text = lines_read whole_language 1 nothing_declared (map scan (lines text))

abbrev pub LeftIn : (Declared → Type 0) → Reading → Type 0
LeftIn P (passes left) = P left
LeftIn P (fails at refusal) = ⊥

pub after-so : (text : List ℕ) (P : Declared → Type 0) → LeftIn P (text_left text) → After text P
after-so text P is = by_reading (λ r. LinesSay whole_language 1 nothing_declared (lines text) r × LeftIn P r)
    (λ left so. record { left = left; passes = so.0; holds = so.1 }) (λ at refusal so. absurd so.1) (text_left text)
    (lines-say whole_language 1 nothing_declared (lines text), is)

-- the answers at lines after what is read, if that passes; and the same answer at all lines
abbrev pub answers : {X : Type 0} → (Reading → X) → Reading → (Declared → Declared) → List ℕ → Option (List X)
answers f (passes left) change cases = Some (map (λ line. f (read 1 (change left) line)) (lines cases))
answers f (fails at refusal) change cases = None

abbrev pub all_same : {X : Type 0} → X → List ℕ → Option (List X)
all_same x cases = Some (map (λ line. x) (lines cases))

-- what follows from the same answer at each line holds of all
each-so : {X : Type 0} (P : Declared → List ℕ → Type 0) (f : Reading → X) (x : X)
    → ((d : Declared) (line : List ℕ) → f (read 1 d line) ≡ x → P d line)
    → (before : List ℕ) (change : Declared → Declared) (cases : List ℕ) → answers f (text_left before) change cases ≡ all_same x cases
    → After before (λ d. AllByRecursion (P (change d)) (lines cases))
each-so P f x so before change cases e =
    by_reading (λ r. LinesSay whole_language 1 nothing_declared (lines before) r × (answers f r change cases ≡ all_same x cases))
    (λ left so. record { left = left; passes = so.0; holds = each (change left) (lines cases) (some_same so.1) })
    (λ at refusal so. let e = so.1 in cc) (text_left before) (lines-say whole_language 1 nothing_declared (lines before), e)
  where
    each : (d : Declared) (parts : List (List ℕ)) → map (λ line. f (read 1 d line)) parts ≡ map (λ line. x) parts
        → AllByRecursion (P d) parts
    each d [] e = tt
    each d (line ∷ more) e = let both = cons_same e in (so d line both.0, each d more both.1)

abbrev pub is_passed : Reading → Bool
is_passed (passes left) = true
is_passed (fails at refusal) = false

pub fit-so : (before : List ℕ) (change : Declared → Declared) (cases : List ℕ)
    → answers is_passed (text_left before) change cases ≡ all_same true cases → Fit before change cases
fit-so before change cases e = record { fit = each-so _ is_passed true so before change cases e }
  where
    so : (d : Declared) (line : List ℕ) → is_passed (read 1 d line) ≡ true → (next : Declared) × Passes whole_language 1 d line next
    so d line e = by_reading (λ r. Says whole_language 1 d line r × (is_passed r ≡ true)) (λ next so. (next, so.0))
        (λ at refusal so. let e = so.1 in cc) (read 1 d line) (line-says whole_language 1 d line, e)

pub refuse-so : (before : List ℕ) (change : Declared → Declared) (code limit : ℕ) (cases : List ℕ)
    → answers (λ r. r) (text_left before) change cases ≡ all_same (fails 1 (record { code = code; limit = limit })) cases
    → RefuseWhere before change code limit cases
refuse-so before change code limit cases e =
    record { refuse = each-so _ (λ r. r) _ (so (record { code = code; limit = limit })) before change cases e }
  where
    so : (refusal : Refusal) (d : Declared) (line : List ℕ) → read 1 d line ≡ fails 1 refusal → Fails whole_language d line refusal
    so refusal d line e = let P : Reading → Type 0 = Says whole_language 1 d line in
        let said : P (fails 1 refusal) = subst P e (line-says whole_language 1 d line) in said.0
