-- Where a text is cut.
use Rattle.std.proofs.Common.{◌≡◌, ◌∙◌, ℕ, zero, suc, ◌+◌, ◌-◌, ◌<◌, ◌≤◌, ◌==◌, true, false, if◌then◌else◌, List, [], ◌∷◌, ◌++◌, length, take, drop, Option, Some, None, MatchOption, ap, sym, arith, bytes_eq}
use Rattle.std.proofs.Math.Seq.{drop-append_seam, drop-append-add, take-append_seam}
use Rattle.std.proofs.lemmas.{Bool.Decides.nat_tests, List.length-append, Slice.Eq.bytes_eq-Decides}
use Rattle.std.specs.Str.Pattern.{FindsText, RFindsText, FindsTextPrefix, SplitsAroundMatch, StripsPrefix}
use denote.Ref.{Bor}
use Rattle.wayreport.specs.Written.{lacks, lacks_mark, lacks_again}

-- ---- texts that lack a byte

pub lacks-append : (c : ℕ) (xs ys : List ℕ) → lacks c xs ≡ true → lacks c ys ≡ true → lacks c (xs ++ ys) ≡ true
lacks-append c [] ys hx hy = hy
lacks-append c (x ∷ xs) ys hx hy =
    (elim (x == c) as (λ b. (if b then false else lacks c xs) ≡ true → (if b then false else lacks c (xs ++ ys)) ≡ true)
    [ true ↦ λ h. h | false ↦ λ h. lacks-append c xs ys h hy ]) hx

is_not : (c x : ℕ) (xs : List ℕ) → lacks c (x ∷ xs) ≡ true → x ≡ c → ⊥
is_not c x xs h e = grind (arith, nat_tests, h, e)

pub lacks-rest : (c x : ℕ) (xs : List ℕ) → lacks c (x ∷ xs) ≡ true → lacks c xs ≡ true
lacks-rest c x xs h =
    (elim (x == c) as (λ b. (if b then false else lacks c xs) ≡ true → lacks c xs ≡ true)
    [ true ↦ λ h. absurd cc | false ↦ λ h. h ]) h

before : (c : ℕ) (front rest more : List ℕ) (i : ℕ) → lacks c front ≡ true → i < length front → drop i (front ++ rest) ≡ c ∷ more → ⊥
before c [] rest more i h lt e = omega (arith, lt)
before c (x ∷ xs) rest more zero h lt e = is_not c x xs h cc
before c (x ∷ xs) rest more (suc i) h lt e = before c xs rest more i (lacks-rest c x xs h) (omega (arith, lt)) e

pub nowhere : (c : ℕ) (xs more : List ℕ) (k : ℕ) → lacks c xs ≡ true → drop k xs ≡ c ∷ more → ⊥
nowhere c [] more zero h e = absurd cc
nowhere c [] more (suc k) h e = absurd cc
nowhere c (x ∷ xs) more zero h e = is_not c x xs h cc
nowhere c (x ∷ xs) more (suc k) h e = nowhere c xs more k (lacks-rest c x xs h) e

-- ---- the first mark, and the last

module _ (c : ℕ) (cs front back s : List ℕ) (is : s ≡ front ++ ((c ∷ cs) ++ back)) where
  at_mark : drop (length front) s ≡ (c ∷ cs) ++ back
  at_mark = ap (drop (length front)) is ∙ drop-append_seam front ((c ∷ cs) ++ back)

  within : length front ≤ length s
  within = omega (arith, ap length is, length-append front ((c ∷ cs) ++ back))

  parts : (i j : ℕ) (x y : List ℕ) → i ≡ length front → j ≡ i + length (c ∷ cs) → x ≡ take i s → y ≡ drop j s → (x ≡ front) × (y ≡ back)
  parts i j x y here end before after =
      let j_is : j ≡ length front + length (c ∷ cs) = end ∙ ap (λ n. n + length (c ∷ cs)) here in (
        before ∙ (ap (λ n. take n s) here ∙ (ap (take (length front)) is ∙ take-append_seam front ((c ∷ cs) ++ back))),
        after ∙ (ap (λ n. drop n s) j_is ∙ (ap (drop (length front + length (c ∷ cs))) is
            ∙ (drop-append-add front ((c ∷ cs) ++ back) (length (c ∷ cs)) ∙ drop-append_seam (c ∷ cs) back))),
      )

  first_place : (i j : ℕ) → lacks c front ≡ true → FindsText (c ∷ cs) s (Some (i, j)) → i ≡ length front
  first_place i j lack found =
      let early : i < length front → ⊥ = λ lt. before c front ((c ∷ cs) ++ back) (cs ++ drop j s) i lack lt (ap (drop i) (sym is) ∙ found.1.split) in
      let late : length front < i → ⊥ = λ lt. found.0 (length front) lt back at_mark in
      grind (arith, early, late)

  last_place : (i j : ℕ) → lacks c (cs ++ back) ≡ true → RFindsText (c ∷ cs) s (Some (i, j)) → i ≡ length front
  last_place i j lack found =
      let early : i < length front → ⊥ = λ lt. found.0 (length front) lt within back at_mark in
      let late : length front < i → ⊥ = λ lt.
      let k = i - length front - 1 in
      let at : i ≡ length front + suc k = omega (arith, lt) in
      nowhere c (cs ++ back) (cs ++ drop j s) k lack (sym (drop-append-add front ((c ∷ cs) ++ back) (suc k)) ∙ (ap (drop (length front + suc k)) (sym is) ∙ (ap (λ n. drop n s) (sym at) ∙ found.1.split))) in
      grind (arith, early, late)

pub cut_text : (mark front back s : List ℕ) (r : Option (Bor (List ℕ) × Bor (List ℕ)))
    → MatchOption r (FindsText mark s None) (λ x. SplitsAroundMatch (FindsText mark) s x.0.now x.1.now)
    → lacks_mark mark front ≡ true → s ≡ front ++ (mark ++ back) → MatchOption r ⊥ (λ x. (x.0.now ≡ front) × (x.1.now ≡ back))
cut_text [] front back s None h lack is = absurd cc
cut_text [] front back s (Some x) h lack is = absurd cc
cut_text (c ∷ cs) front back s None h lack is = h (length front) (within c cs front back s is) back (at_mark c cs front back s is)
cut_text (c ∷ cs) front back s (Some x) h lack is =
    parts c cs front back s is h.0 h.1 x.0.now x.1.now (first_place c cs front back s is h.0 h.1 lack h.2) h.2.1.ends h.3 h.4

pub cut_last_text : (mark front back s : List ℕ) (r : Option (Bor (List ℕ) × Bor (List ℕ)))
    → MatchOption r (RFindsText mark s None) (λ x. SplitsAroundMatch (RFindsText mark) s x.0.now x.1.now)
    → lacks_again mark back ≡ true → s ≡ front ++ (mark ++ back) → MatchOption r ⊥ (λ x. (x.0.now ≡ front) × (x.1.now ≡ back))
cut_last_text [] front back s None h lack is = absurd cc
cut_last_text [] front back s (Some x) h lack is = absurd cc
cut_last_text (c ∷ cs) front back s None h lack is = h (length front) (within c cs front back s is) back (at_mark c cs front back s is)
cut_last_text (c ∷ cs) front back s (Some x) h lack is =
    parts c cs front back s is h.0 h.1 x.0.now x.1.now (last_place c cs front back s is h.0 h.1 lack h.2) h.2.1.ends h.3 h.4

pub strip_text : (front rest s : List ℕ) (r : Option (Bor (List ℕ)))
    → MatchOption r (FindsTextPrefix front s None) (λ x. StripsPrefix (FindsTextPrefix front) s x.now)
    → s ≡ front ++ rest → MatchOption r ⊥ (λ x. x.now ≡ rest)
strip_text front rest s None h is = h rest is
strip_text front rest s (Some x) h is = h.2 ∙ (ap (λ n. drop n s) h.1.0 ∙ (ap (drop (length front)) is ∙ drop-append_seam front rest))

-- ---- the same bytes

pub same_bytes : (xs ys : List ℕ) → xs ≡ ys → bytes_eq xs ys ≡ true
same_bytes xs ys is = (bytes_eq-Decides xs ys).1 is
