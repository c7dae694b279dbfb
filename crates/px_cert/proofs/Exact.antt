-- Readers that read what is written of good values, and nothing else.
use Rattle.std.proofs.Common.{◌≡◌, ℕ, zero, suc, Bool, true, false, cond, eqb, List, [], ◌∷◌, ◌++◌, length, Option, Some, None, refl, sym, ap, subst, ◌∙◌, append_assoc, eq-eqb}
use Rattle.std.specs.Prelude.{not}
use Rattle.std.specs.Char.{is_ascii_digit}
use Rattle.std.specs.List.{flat_map, AllByRecursion}
use Rattle.std.proofs.lemmas.Bool.{eqb-true, cond-true}
use Rattle.std.proofs.lemmas.Option.{cond_some, same_Some}
use Rattle.px_cert.specs.Reading.{◌>>=◌, Parsed, Reader, after_text, as_at, behind, many_at, pair_at, passing_at}

-- nothing, or a byte that is no digit: a number ends before it
abbrev pub stops : List ℕ → Bool
stops [] = true
stops (c ∷ rest) = not (is_ascii_digit c)

-- What is read is written so, and of a good value; what is written of a good value is read, where no further digit follows.
pub record IsExact {A : Type 0} (item : Reader A) (text : A → List ℕ) (Is : A → Type 0) : Type 0 where
  pub takes : (bytes : List ℕ) (x : A) (rest : List ℕ) → item bytes ≡ Some (x, rest) → (bytes ≡ text x ++ rest) × Is x
  pub again : (x : A) (rest : List ℕ) → Is x → stops rest ≡ true → item (text x ++ rest) ≡ Some (x, rest)

-- no text begins with a digit
pub record StartsWell {A : Type 0} (text : A → List ℕ) : Type 0 where
  pub starts : (x : A) (rest : List ℕ) → stops rest ≡ true → stops (text x ++ rest) ≡ true

pub bind_some : {A B : Type 0} (o : Option A) (f : A → Option B) (y : B) → (o >>= f) ≡ Some y → (x : A) × (o ≡ Some x) × (f x ≡ Some y)
bind_some (Some x) f y e = (x, refl, e)
bind_some None f y e = absurd (cc)

pub guarded : {A : Type 0} (b : Bool) (o : Option A) (y : A) → cond b o None ≡ Some y → (b ≡ true) × (o ≡ Some y)
guarded true o y e = (refl, e)
guarded false o y e = absurd (cc)

-- ---- a text, then an item

pub after_takes : (word bytes rest : List ℕ) → after_text word bytes ≡ Some rest → bytes ≡ word ++ rest
after_takes [] bytes rest e = same_Some bytes rest e
after_takes (c ∷ word) [] rest e = absurd (cc)
after_takes (c ∷ word) (b ∷ bytes) rest e =
    let g = guarded (eqb c b) (after_text word bytes) rest e in
    let same : c ≡ b = eqb-true c b g.0 in
    let more = after_takes word bytes rest g.1 in
    (λ i. sym same i ∷ more i)

pub after_again : (word rest : List ℕ) → after_text word (word ++ rest) ≡ Some rest
after_again [] rest = refl
after_again (c ∷ word) rest = cond-true (eqb c c) (after_text word (word ++ rest)) None (eq-eqb c c refl) ∙ after_again word rest

module _ {A : Type 0} (item : Reader A) (text : A → List ℕ) (Is : A → Type 0) (exact : IsExact item text Is) where
  pub behind_exact : (word : List ℕ) → IsExact (behind word item) (λ x. word ++ text x) Is
  behind_exact word = record {
    takes = λ bytes x rest e.
        let a = bind_some (after_text word bytes) item (x, rest) e in
        let t = exact.takes a.0 x rest a.2 in (
          after_takes word bytes a.0 a.1 ∙ ap (λ (r : List ℕ). word ++ r) t.0 ∙ sym (append_assoc word (text x) rest),
          t.1,
        );
    again = λ x rest is stop.
        ap (behind word item) (append_assoc word (text x) rest)
        ∙ ap (λ (o : Option (List ℕ)). o >>= item) (after_again word (text x ++ rest)) ∙ exact.again x rest is stop;
  }

  -- the same of the same values
  pub exact_as : (Js : A → Type 0) → ((x : A) → Is x → Js x) → ((x : A) → Js x → Is x) → IsExact item text Js
  exact_as Js there back = record {
    takes = λ bytes x rest e. let t = exact.takes bytes x rest e in (t.0, there x t.1);
    again = λ x rest is stop. exact.again x rest (back x is) stop;
  }

  -- the same texts, said otherwise
  pub exact_text : (other : A → List ℕ) → ((x : A) → text x ≡ other x) → IsExact item other Is
  exact_text other same = record {
    takes = λ bytes x rest e.
        let t = exact.takes bytes x rest e in (t.0 ∙ ap (λ (r : List ℕ). r ++ rest) (same x), t.1);
    again = λ x rest is stop. ap (λ (r : List ℕ). item (r ++ rest)) (sym (same x)) ∙ exact.again x rest is stop;
  }

  pub passing_exact : (test : A → Bool) → IsExact (passing_at test item) text (λ x. Is x × (test x ≡ true))
  passing_exact test = record {
    takes = λ bytes x rest e.
        let a = bind_some (item bytes) (λ y. cond (test y.0) (Some y) None) (x, rest) e in
        let g = cond_some (test a.0.0) a.0 (x, rest) a.2 in
        let t = exact.takes bytes a.0.0 a.0.1 a.1 in
        subst (λ (q : A × List ℕ). (bytes ≡ text q.0 ++ q.1) × (Is q.0 × (test q.0 ≡ true))) g.1 (t.0, (t.1, g.0));
    again = λ x rest is stop.
        ap (λ (o : Parsed A). o >>= λ y. cond (test y.0) (Some y) None) (exact.again x rest is.0 stop)
        ∙ cond-true (test x) (Some (x, rest)) None is.1;
  }

  module _ {B : Type 0} (make : A → B) (back : B → A) where
    pub as_exact : ((x : A) → Is x → back (make x) ≡ x) → ((y : B) → make (back y) ≡ y)
        → IsExact (as_at make item) (λ y. text (back y)) (λ y. Is (back y))
    as_exact there here = record {
      takes = λ bytes y rest e.
          let a = bind_some (item bytes) (λ x. Some (make x.0, x.1)) (y, rest) e in
          let t = exact.takes bytes a.0.0 a.0.1 a.1 in
          let same : a.0.0 ≡ back (make a.0.0) = sym (there a.0.0 t.1) in
          let made : (bytes ≡ text (back (make a.0.0)) ++ a.0.1) × Is (back (make a.0.0)) =
          subst (λ (x : A). (bytes ≡ text x ++ a.0.1) × Is x) same t in
          subst (λ (q : B × List ℕ). (bytes ≡ text (back q.0) ++ q.1) × Is (back q.0)) (same_Some (make a.0.0, a.0.1) (y, rest) a.2) made;
      again = λ y rest is stop.
          ap (λ (o : Parsed A). o >>= λ x. Some (make x.0, x.1)) (exact.again (back y) rest is stop)
          ∙ ap (λ (z : B). Some (z, rest)) (here y);
    }

  -- ---- the one, then the other

  module _ {B : Type 0} (next : A → Reader B) (text2 : A → B → List ℕ) (Is2 : A → B → Type 0) where
    pub pair_exact : ((x : A) → Is x → IsExact (next x) (text2 x) (Is2 x)) → ((x : A) → StartsWell (text2 x))
        → IsExact (pair_at item next) (λ p. text p.0 ++ text2 p.0 p.1) (λ p. Is p.0 × Is2 p.0 p.1)
    pair_exact second starts = record {
      takes = λ bytes p rest e.
          let a = bind_some (item bytes) (λ x. (next x.0 x.1 >>= λ y. Some ((x.0, y.0), y.1))) (p, rest) e in
          let b = bind_some (next a.0.0 a.0.1) (λ y. Some ((a.0.0, y.0), y.1)) (p, rest) a.2 in
          let t = exact.takes bytes a.0.0 a.0.1 a.1 in
          let u = (second a.0.0 t.1).takes a.0.1 b.0.0 b.0.1 b.1 in
          let whole : bytes ≡ (text a.0.0 ++ text2 a.0.0 b.0.0) ++ b.0.1 =
          t.0 ∙ ap (λ (r : List ℕ). text a.0.0 ++ r) u.0 ∙ sym (append_assoc (text a.0.0) (text2 a.0.0 b.0.0) b.0.1) in
          subst (λ (q : (A × B) × List ℕ). (bytes ≡ (text q.0.0 ++ text2 q.0.0 q.0.1) ++ q.1) × (Is q.0.0 × Is2 q.0.0 q.0.1))
          (same_Some ((a.0.0, b.0.0), b.0.1) (p, rest) b.2) (whole, (t.1, u.1));
      again = λ p rest is stop.
          let one = exact.again p.0 (text2 p.0 p.1 ++ rest) is.0 ((starts p.0).starts p.1 rest stop) in
          let two = (second p.0 is.0).again p.1 rest is.1 stop in
          ap (pair_at item next) (append_assoc (text p.0) (text2 p.0 p.1) rest)
          ∙ ap (λ (o : Parsed A). o >>= λ x. (next x.0 x.1 >>= λ y. Some ((x.0, y.0), y.1))) one
          ∙ ap (λ (o : Parsed B). o >>= λ y. Some ((p.0, y.0), y.1)) two;
    }

  -- ---- so many

  pub many_takes : (n : ℕ) (bytes : List ℕ) (xs : List A) (rest : List ℕ) → many_at item n bytes ≡ Some (xs, rest)
      → (bytes ≡ flat_map text xs ++ rest) × ((length xs ≡ n) × AllByRecursion Is xs)
  unfolding many_at
  many_takes zero bytes xs rest e =
      subst (λ (q : List A × List ℕ). (bytes ≡ flat_map text q.0 ++ q.1) × ((length q.0 ≡ 0) × AllByRecursion Is q.0))
      (same_Some ([], bytes) (xs, rest) e) (refl, (refl, tt))
  many_takes (suc n) bytes xs rest e =
      let a = bind_some (item bytes) (λ first. (many_at item n first.1 >>= λ others. Some (first.0 ∷ others.0, others.1))) (xs, rest) e in
      let b = bind_some (many_at item n a.0.1) (λ others. Some (a.0.0 ∷ others.0, others.1)) (xs, rest) a.2 in
      let t = exact.takes bytes a.0.0 a.0.1 a.1 in
      let u = many_takes n a.0.1 b.0.0 b.0.1 b.1 in
      let whole : bytes ≡ flat_map text (a.0.0 ∷ b.0.0) ++ b.0.1 =
      t.0 ∙ ap (λ (r : List ℕ). text a.0.0 ++ r) u.0 ∙ sym (append_assoc (text a.0.0) (flat_map text b.0.0) b.0.1) in
      subst (λ (q : List A × List ℕ). (bytes ≡ flat_map text q.0 ++ q.1) × ((length q.0 ≡ suc n) × AllByRecursion Is q.0))
      (same_Some (a.0.0 ∷ b.0.0, b.0.1) (xs, rest) b.2) (whole, (ap suc u.1.0, (t.1, u.1.1)))

  module _ (starts : StartsWell text) where
    pub many_start : StartsWell (flat_map text)
    many_start = record { starts = each }
      where
        each : (xs : List A) (rest : List ℕ) → stops rest ≡ true → stops (flat_map text xs ++ rest) ≡ true
        each [] rest stop = stop
        each (x ∷ xs) rest stop = ap stops (append_assoc (text x) (flat_map text xs) rest)
            ∙ starts.starts x (flat_map text xs ++ rest) (each xs rest stop)

    pub many_again : (xs : List A) (rest : List ℕ) → AllByRecursion Is xs → stops rest ≡ true
        → many_at item (length xs) (flat_map text xs ++ rest) ≡ Some (xs, rest)
    unfolding many_at
    many_again [] rest is stop = refl
    many_again (x ∷ xs) rest is stop =
        let one = exact.again x (flat_map text xs ++ rest) is.0 (many_start.starts xs rest stop) in
        ap (many_at item (suc (length xs))) (append_assoc (text x) (flat_map text xs) rest)
        ∙ ap (λ (o : Parsed A). o >>= λ first. (many_at item (length xs) first.1 >>= λ others. Some (first.0 ∷ others.0, others.1))) one
        ∙ ap (λ (o : Parsed (List A)). o >>= λ others. Some (x ∷ others.0, others.1)) (many_again xs rest is.1 stop)

    pub many_exact : (n : ℕ) → IsExact (many_at item n) (flat_map text) (λ xs. (length xs ≡ n) × AllByRecursion Is xs)
    many_exact n = record {
      takes = λ bytes xs rest e. many_takes n bytes xs rest e;
      again = λ xs rest is stop.
          subst (λ (k : ℕ). many_at item k (flat_map text xs ++ rest) ≡ Some (xs, rest)) is.0 (many_again xs rest is.1 stop);
    }
